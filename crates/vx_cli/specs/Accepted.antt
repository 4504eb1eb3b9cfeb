-- That `check` says yes to each certificate that `replay` or `settle` wrote. This project's own.
use Rattle.std.specs.Prelude.{◌≡◌, ℕ, ◌≤◌, List, [], ◌∷◌, ◌++◌, codes}
use Rattle.std.specs.Option.{option_map, option_to_list}
use Rattle.vx_clock.specs.Clock.{clock_text}
use Rattle.vx_feed.specs.Feed.{IsLawfulFeed, lawful_prefix}
use Rattle.vx_drivers.specs.declared.exit.Exit.{Exit}
use Rattle.vx_drivers.specs.declared.exit.Exit.TheVariants.{Done}
use Rattle.vx_drivers.specs.declared.limits.TheConstants.{CERT_LINES_MAX}
use Rattle.vx_drivers.specs.Answers.{Answer, said_yes, answers_text, end_line, end_text}
use Rattle.vx_drivers.specs.TickRun.{published_count}
use Rattle.vx_replay.specs.declared.answer.TickAnswer.{TickAnswer}
use Rattle.vx_replay.specs.declared.answer.TickAnswer.TheVariants.{Published}
use Rattle.vx_cli.specs.CheckRuns.{Checks}
use Rattle.vx_drivers.specs.Sending.{Text}
use Rattle.vx_cli.specs.OutputLines.{cents_text}
use Rattle.vx_cli.specs.ReplayRuns.{Replays, replay_rules}
use Rattle.vx_cli.specs.ReplayText.{Answered}
use Rattle.vx_cli.specs.SettleRuns.{AnsweredOpening, IsAnsweredOpening, Settles}
use Rattle.vx_cli.specs.SettleText.{figure_of, opening_certificate_text, opening_clock}

-- over these texts `check` is done and writes this, and it does nothing else
pub record JustChecks (feed certs : List ℕ) (text : Text) : Type 0 where
  pub there : Checks feed certs Done text
  pub only : (exit : Exit) (other : Text) → Checks feed certs exit other → (exit ≡ Done) × (other ≡ text)

-- ---- `replay`

-- a yes to the certificate of a tick's answer, where it has one, with the minute and the figure of its FIG line: `hh:mm,figure`
abbrev pub yes_to : ℕ → TickAnswer → List Answer
yes_to time (Published cents lo hi certificate) = said_yes (clock_text time ++ codes "," ++ cents_text cents) ∷ []
yes_to time _ = []

-- a yes to each certificate of some answers, in their order
abbrev pub yes_to_each : List Answered → List Answer
yes_to_each [] = []
yes_to_each (a ∷ answers) = yes_to a.tick.time a.answer ++ yes_to_each answers

-- so many lines, so many yes and no no: `END,lines,yes,0`
abbrev pub all_yes_line : ℕ → Text
all_yes_line count = end_line count count 0

-- what `check` writes where it says yes to each of them
abbrev pub all_yes_text : List Answered → Text
all_yes_text answers = answers_text (yes_to_each answers) ++ all_yes_line (published_count replay_rules answers)

-- where `replay` was done, and published no more figures than `check` reads certificates, `check` over the same feed and the
-- certificates that were written says yes to each
abbrev pub ReplayIsAccepted : Type 0
ReplayIsAccepted = (feed : List ℕ) (out certs : Text) (run : Replays feed Done out certs)
    → published_count replay_rules run.stand.answers ≤ CERT_LINES_MAX
    → JustChecks feed certs (all_yes_text run.stand.answers)

-- ---- `settle`

-- a yes to the certificate of an opening's answer, where it has one, with the minute and the figure of its SOQ line: `hh:mm,figure`
abbrev pub yes_to_opening : AnsweredOpening → List Answer
yes_to_opening a = option_to_list (option_map (λ cents. said_yes (opening_clock a.time ++ codes "," ++ cents_text cents)) (figure_of a.answer))

-- `check` over the same feed and the certificate that was written says yes to it
pub record OpeningIsAccepted (feed : List ℕ) (certs : Text) : Type 0 where
  pub answer : AnsweredOpening
  pub is_opening : IsAnsweredOpening (lawful_prefix feed) answer
  pub certs_are : certs ≡ opening_certificate_text answer.answer
  pub checks : JustChecks feed certs (answers_text (yes_to_opening answer) ++ end_text (yes_to_opening answer))

-- so it is after every run of `settle` over a feed with no bad line
abbrev pub SettleIsAccepted : Type 0
SettleIsAccepted = (feed positions : List ℕ) (exit : Exit) (out certs : Text) → Settles feed positions exit out certs
    → IsLawfulFeed feed → OpeningIsAccepted feed certs
