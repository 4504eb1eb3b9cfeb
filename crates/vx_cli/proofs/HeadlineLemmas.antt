-- The headline of a run follows from what the run sends.
use Rattle.std.proofs.Common.{◌≡◌, sym, subst, ◌⊎◌, ℕ, List, Option, Some, None}
use Rattle.vx_lines.specs.TextLines.{TextLines}
use Rattle.vx_desk.specs.declared.device.Slot.{Slot}
use Rattle.vx_desk.specs.declared.device.Slot.TheVariants.{Out}
use Rattle.vx_desk.specs.Told.{Told}
use Rattle.vx_feed.specs.Feed.{Reading, reading_of}
use Rattle.vx_drivers.specs.declared.exit.Exit.{Exit}
use Rattle.vx_drivers.specs.CertificateRun.{certificates_of}
use Rattle.vx_drivers.specs.PositionRun.{RunsPositionsBy, positions_of}
use Rattle.vx_drivers.specs.Sending.{Sent, Text}
use Rattle.vx_drivers.specs.TickRun.{RunsTicksBy}
use Rattle.vx_cli.specs.Headline.{ChecksTruly, Headline, ReplaysTruly, SentBoth, SettlesNothing, SettlesTruly}
use Rattle.vx_cli.specs.ReplayRuns.{replay_rules}
use Rattle.vx_cli.specs.Runs.{HasChecked, HasReplayed, HasSettled, SendsFor}
use Rattle.vx_cli.specs.SettleRuns.{settle_rules}
use Rattle.vx_cli.specs.Words.{Command, check, drill, make, replay, settle}
use Rattle.vx_cli.proofs.HeadlineChecks.{checks_truly}
use Rattle.vx_cli.proofs.HeadlineOpening.{settles_truly}
use Rattle.vx_cli.proofs.HeadlineTicks.{replays_truly}

module _ (before after : Slot → Told) (exit : Exit) where
  check_told : (feed certs : Text) → HasChecked (record { feed = Some feed; side = Some certs }) before after exit
      → (sent : Text) × Sent sent (before Out) (after Out) × ChecksTruly (reading_of feed) (certificates_of certs).lines exit sent
  check_told feed certs h = (h.text, h.sent, checks_truly (reading_of feed) (certificates_of certs) exit h.text h.runs)

  replay_told : (text : Text) → HasReplayed (Some text) before after exit
      → (out written : Text) × SentBoth out written before after × ReplaysTruly (reading_of text) exit out written
  replay_told text h = (
    h.out,
    h.certs,
    (h.out_sent, h.certs_sent),
    replays_truly (reading_of text) exit h.out h.certs (subst (λ (r : Reading). RunsTicksBy replay_rules r exit h.out h.certs) (sym h.feed_is) h.runs),
  )

  settle_told : (feed positions : Text) → HasSettled (record { feed = Some feed; side = Some positions }) before after exit
      → (out written : Text) × SentBoth out written before after
      × (SettlesNothing exit out written ⊎ SettlesTruly (reading_of feed) (positions_of positions).lines exit out written)
  settle_told feed positions h = (
    h.out,
    h.certs,
    (h.out_sent, h.certs_sent),
    settles_truly (reading_of feed) (positions_of positions) exit h.out h.certs
        (subst (λ (r : Reading). RunsPositionsBy settle_rules r (positions_of positions) exit h.out h.certs) (sym h.feed_is)
        (subst (λ (l : TextLines). RunsPositionsBy settle_rules h.over l exit h.out h.certs) (sym h.lines_are) h.runs)),
  )

  -- what a run sends is true
  pub headline_of : (command : Option Command) (holds : List ℕ → Option (List ℕ)) → SendsFor command holds before after exit
      → Headline command holds before after exit
  headline_of None holds sends = tt
  headline_of (Some (replay feed certs)) holds sends = λ f is.
      replay_told f (subst (λ (o : Option Text). HasReplayed o before after exit) is sends)
  headline_of (Some (check feed certs)) holds sends = λ f c is are.
      check_told f c
      (subst (λ (o : Option Text). HasChecked (record { feed = Some f; side = o }) before after exit) are
      (subst (λ (o : Option Text). HasChecked (record { feed = o; side = holds certs }) before after exit) is sends))
  headline_of (Some (settle feed positions certs)) holds sends = λ f p is are.
      settle_told f p
      (subst (λ (o : Option Text). HasSettled (record { feed = Some f; side = o }) before after exit) are
      (subst (λ (o : Option Text). HasSettled (record { feed = o; side = holds positions }) before after exit) is sends))
  headline_of (Some (make number ticks)) holds sends = tt
  headline_of (Some (drill number ticks)) holds sends = tt

  -- and so it is of the words that asked for the command
  pub headline_by : (asked command : Option Command) (holds : List ℕ → Option (List ℕ)) → asked ≡ command
      → SendsFor asked holds before after exit → Headline command holds before after exit
  headline_by asked command holds same sends =
      subst (λ (c : Option Command). Headline c holds before after exit) same (headline_of asked holds sends)
