-- A run of `replay` that is cut off before it sends, and one over files that are open.
use Rattle.std.proofs.Common.{◌≡◌, ◌∙◌, sym, ap, subst, refl, inl, ℕ, true, false, Bool, IsTrue, List, [], Option, Some, None, arith}
use Rattle.std.specs.Io.KnownBytes.{append_known}
use Rattle.std.specs.Option.{option_map}
use Rattle.vx_desk.specs.declared.device.Slot.{Slot}
use Rattle.vx_desk.specs.declared.device.Slot.TheVariants.{Feed, Out, Certs}
use Rattle.vx_desk.specs.Told.{Told}
use Rattle.vx_feed.specs.Feed.{Reading, reading_of}
use Rattle.vx_reading.specs.FeedReading.{Says, all_good}
use Rattle.vx_drivers.specs.declared.exit.Exit.{Exit}
use Rattle.vx_drivers.specs.Exits.{is_cut}
use Rattle.vx_drivers.specs.Sending.{Sent, Text}
use Rattle.vx_drivers.specs.TickRun.{AreWhole, GivesTickAnswers, GivesTickParts, RunsTicksIf, no_events}
use Rattle.vx_drivers.specs.TickSteps.{HasEndedTicks}
use Rattle.vx_drivers.proofs.SendingLemmas.{sent_none}
use Rattle.vx_cli.specs.ReplayRuns.{replay_rules}
use Rattle.vx_cli.specs.Runs.{HasReplayed, ReplaysEventsRead, ReplaysOpen, SentIfOpen}

none_begun : AreWhole replay_rules [] [] []
none_begun before answer after is begun = absurd (let no : ⊥ = omega (arith, begun) in no)

-- nothing is a first part of both texts
first_parts : (over : Reading) → GivesTickParts replay_rules over [] []
first_parts over = record {
  out_more = [];
  certs_more = [];
  gives = record {
    stand = no_events;
    steps = refl;
    rest = over.events;
    are_first = refl;
    last = [];
    last_is = inl refl;
    out_is = refl;
    certs_are = refl;
  };
  whole = none_begun;
}

-- and it is no answer at all
no_answers : (over : Reading) → GivesTickAnswers replay_rules over [] []
no_answers over =
    record { stand = no_events; steps = refl; rest = over.events; are_first = refl; out_is = refl; certs_are = refl }

-- a feed that is told, or some feed
record SomeFeed (feed : Option Reading) : Type 0 where
  over : Reading
  feed_is : Says feed over

some_feed : (feed : Option Reading) → SomeFeed feed
some_feed None = record { over = all_good []; feed_is = tt }
some_feed (Some f) = record { over = f; feed_is = refl }

-- a run that is cut off before it sends
pub nothing_sent : (held : Option (List ℕ)) (before after : Slot → Told) (exit : Exit) → is_cut exit ≡ true → after Out ≡ before Out
    → (after Certs).is_open ≡ false → (after Certs).sent ≡ (before Certs).sent → HasReplayed held before after exit
nothing_sent held before after exit cut out shut certs =
    let some = some_feed (option_map reading_of held) in
    record {
      over = some.over;
      feed_is = some.feed_is;
      out = [];
      certs = [];
      runs = subst (λ (b : Bool). RunsTicksIf replay_rules some.over exit [] [] b) (sym cut)
          (record { parts = first_parts some.over; whole = λ not. no_answers some.over });
      out_sent = sent_none (before Out) (after Out) out;
      certs_sent = subst (λ (b : Bool). SentIfOpen b [] (before Certs) (after Certs)) (sym shut) (refl, certs);
      cut = λ is. subst (λ (b : Bool). ReplaysEventsRead held after exit [] [] b) (sym shut) (refl, refl);
    }

-- ---- files that are open

-- a text that is sent behind nothing
begun : (sent : Option (List ℕ)) (text : Text) → append_known (option_map (λ bytes. []) sent) text ≡ option_map (λ bytes. text) sent
begun None text = refl
begun (Some bytes) text = refl

-- and to a slot that is open
sent_open : (is_open : Bool) (text : Text) (before after : Told) → IsTrue is_open → after.sent ≡ option_map (λ bytes. text) before.sent
    → SentIfOpen is_open text before after
sent_open true text before after there sent = sent
sent_open false text before after there sent = absurd (let no : ⊥ = cc in no)

-- a text that is sent to a slot behind its opening, where it is open still
pub sent_since_opening : (text : Text) (before opened after : Told) → opened.sent ≡ option_map (λ bytes. []) before.sent → IsTrue after.is_open
    → Sent text opened after → SentIfOpen after.is_open text before after
sent_since_opening text before opened after nothing there sent =
    sent_open after.is_open text before after there (sent ∙ ap (λ known. append_known known text) nothing ∙ begun before.sent text)

-- what is sent over files that are open is sent over the bytes that the feed's name holds
pub files_replayed : (held : Option (List ℕ)) (before opened after : Slot → Told) (exit : Exit) → (opened Feed).left ≡ held
    → opened Out ≡ before Out → (opened Certs).sent ≡ option_map (λ bytes. []) (before Certs).sent
    → IsTrue (after Certs).is_open → ReplaysOpen opened after exit → HasReplayed held before after exit
files_replayed held before opened after exit feed_left out_same nothing there replays =
    let ended = subst (λ (left : Option (List ℕ)). HasEndedTicks replay_rules left (option_map reading_of left) opened after exit) feed_left replays in
    record {
      over = ended.over;
      feed_is = ended.feed_is;
      out = ended.out;
      certs = ended.certs;
      runs = ended.runs;
      out_sent = subst (λ (t : Told). Sent ended.out t (after Out)) out_same ended.out_sent;
      certs_sent = sent_since_opening ended.certs (before Certs) (opened Certs) (after Certs) nothing there ended.certs_sent;
      cut = λ is. subst (λ (b : Bool). ReplaysEventsRead held after exit ended.out ended.certs b) (sym there) (ended.cut is);
    }
