-- How a run ends over lawful input where no call failed follows from what it sends.
use Rattle.std.proofs.Common.{◌≡◌, ◌∙◌, sym, ap, subst, refl, ℕ, ◌+◌, ◌<◌, ◌≤◌, min, List, [], ◌∷◌, ◌++◌, Option, Some, None, Ok, Err, arith}
use Rattle.std.specs.Prelude.{IfSome, IsSome}
use Rattle.std.specs.List.{All}
use Rattle.std.specs.Option.{option_map}
use Rattle.std.proofs.lemmas.List.Elements.{All-head, All-tail}
use Rattle.vx_lines.specs.TextLines.{TextLines, at_end, no_eol, too_long, too_many}
use Rattle.vx_desk.specs.declared.device.Slot.{Slot}
use Rattle.vx_desk.specs.Told.{LAST_COUNT, Told}
use Rattle.vx_feed.specs.Feed.{BadLine, IsLawfulFeed, Reading, reading_of}
use Rattle.vx_settle.specs.declared.fault.PositionFault.{PositionFault}
use Rattle.vx_settle.specs.declared.position.Position.{Position}
use Rattle.vx_settle.specs.Form.{position_of_line}
use Rattle.vx_desk.specs.Calls.{Calls, Failures, failures}
use Rattle.vx_reading.specs.FeedReading.{Says}
use Rattle.vx_drivers.specs.declared.exit.Exit.{Exit}
use Rattle.vx_drivers.specs.declared.exit.Exit.TheVariants.{Done, SaidNo, Usage, BadFeed, OpenFault, ReadFault, WriteFault, NoMemory, BadPositions, BadCerts}
use Rattle.vx_drivers.specs.declared.exit.PositionCause.{PositionCause}
use Rattle.vx_drivers.specs.declared.exit.PositionCause.TheVariants.{Fault, TooLong, NoEol, TooMany}
use Rattle.vx_drivers.specs.CertificateRun.{certificates_of}
use Rattle.vx_drivers.specs.CertificateSteps.{IfBoth}
use Rattle.vx_drivers.specs.CertificateRun.{RunsBy}
use Rattle.vx_drivers.specs.Exits.{exit_calls}
use Rattle.vx_drivers.specs.PositionRun.{NextIsBad, RunsUnlessBad, SettledBefore, positions_of}
use Rattle.vx_drivers.specs.Sending.{Text}
use Rattle.vx_drivers.specs.TickRun.{EndsTicks}
use Rattle.vx_cli.specs.CheckRuns.{check_rules}
use Rattle.vx_cli.specs.LawfulExits.{AreLawfulPositions, CountsNoFailure, EndsLawfully, HoldsText, IsCheckedOrNoMemory, IsDoneOrNoMemory}
use Rattle.vx_cli.specs.Runs.{HasChecked, HasReplayed, HasSettled, IsCheckExit, IsExitOf, IsMakeExit, IsReplayExit, IsSettleExit, SendsFor}
use Rattle.vx_cli.specs.SettleRuns.{AnsweredOpening, settle_rules}
use Rattle.vx_cli.specs.SettleText.{Settled}
use Rattle.vx_cli.specs.Words.{Command, check, drill, make, replay, settle}

-- ---- failures

stays : (old new last : ℕ) → min (old + 1) last ≤ new → new ≡ old → old < last → ⊥
stays old new last up same below = omega (arith, up, same, below)

-- where no count rose, the exit names no failed call
no_calls : (failed : Option Calls) (before after : Slot → Told) → CountsNoFailure before after → Failures failed before after → failed ≡ None
no_calls None before after none h = refl
no_calls (Some calls) before after none h =
    absurd (stays (failures calls before) (failures calls after) LAST_COUNT h.rose.up (none.none_rose calls) (none.may_rise calls))

named : {A : Type 0} (a : A) (o : Option A) → o ≡ Some a → o ≡ None → ⊥
named a o some none = cc

-- ---- what a name holds

text_said : (held : Option Text) (text : Text) (over : Reading) → held ≡ Some text → Says (option_map reading_of held) over → reading_of text ≡ over
text_said held text over is said = subst (λ (o : Option Text). Says (option_map reading_of o) over) is said

none_bad : (held : Option Text) (over : Reading) → HoldsText held IsLawfulFeed → Says (option_map reading_of held) over → over.bad ≡ None
none_bad held over h said = ap (λ (r : Reading). r.bad) (sym (text_said held h.text over h.text_is said)) ∙ h.is_of_kind

-- ---- replay

bad_feed_not_done : {P : Type 0} (bad : Option BadLine) (line : ℕ) (why : _) → bad ≡ None → EndsTicks bad (BadFeed line why) → P
bad_feed_not_done None line why none is = absurd (let no : ⊥ = cc in no)
bad_feed_not_done (Some bad) line why none h = absurd (let no : ⊥ = cc in no)

module _ (feed : Option Text) (before after : Slot → Told) (lawful : HoldsText feed IsLawfulFeed) where
  replay_ends : (exit : Exit) → exit_calls exit ≡ None → IsReplayExit exit → HasReplayed feed before after exit
      → IsDoneOrNoMemory exit
  replay_ends Done none is h = tt
  replay_ends (SaidNo count) none is h = absurd is
  replay_ends Usage none is h = absurd is
  replay_ends (BadFeed line cause) none is h = bad_feed_not_done h.over.bad line cause (none_bad feed h.over lawful h.feed_is) h.runs.ends
  replay_ends (OpenFault slot) none is h = absurd (named _ (exit_calls (OpenFault slot)) refl none)
  replay_ends (ReadFault slot) none is h = absurd (named _ (exit_calls (ReadFault slot)) refl none)
  replay_ends (WriteFault slot) none is h = absurd (named _ (exit_calls (WriteFault slot)) refl none)
  replay_ends NoMemory none is h = tt
  replay_ends (BadPositions line cause) none is h = absurd is
  replay_ends (BadCerts line cause) none is h = absurd is

-- ---- check

abbrev RunsOver : Option Text → Option Text → Text → Exit → Type 0
RunsOver feed certs sent exit =
    IfBoth (option_map reading_of feed) (option_map certificates_of certs) (λ f c. RunsBy check_rules f c sent exit)

-- over a lawful feed it does not end at a bad line
feed_not_bad : {P : Type 0} (feed certs : Option Text) (sent : Text) (line : ℕ) (why : _) → HoldsText feed IsLawfulFeed → IsSome certs
    → RunsOver feed certs sent (BadFeed line why) → P
feed_not_bad (Some f) (Some c) sent line why lawful some runs =
    let same : Some f ≡ Some lawful.text = lawful.text_is in
    let texts : f ≡ lawful.text = cc in
    let good : (reading_of f).bad ≡ None = ap (λ (t : Text). (reading_of t).bad) texts ∙ lawful.is_of_kind in
    absurd (named _ (reading_of f).bad runs.ends.0 good)
feed_not_bad (Some f) None sent line why lawful some runs = absurd (let no : ⊥ = cc in no)
feed_not_bad None certs sent line why lawful some runs =
    let same = lawful.text_is in
    absurd (let no : ⊥ = cc in no)

module _ (feed certs : Option Text) (before after : Slot → Told) (lawful : HoldsText feed IsLawfulFeed) (there : IsSome certs) where
  check_ends : (exit : Exit) → exit_calls exit ≡ None → IsCheckExit exit
      → HasChecked (record { feed = feed; side = certs }) before after exit → IsCheckedOrNoMemory exit
  check_ends Done none is h = tt
  check_ends (SaidNo count) none is h = tt
  check_ends Usage none is h = absurd is
  check_ends (BadFeed line cause) none is h = feed_not_bad feed certs h.text line cause lawful there h.runs
  check_ends (OpenFault slot) none is h = absurd (named _ (exit_calls (OpenFault slot)) refl none)
  check_ends (ReadFault slot) none is h = absurd (named _ (exit_calls (ReadFault slot)) refl none)
  check_ends (WriteFault slot) none is h = absurd (named _ (exit_calls (WriteFault slot)) refl none)
  check_ends NoMemory none is h = tt
  check_ends (BadPositions line cause) none is h = absurd is
  check_ends (BadCerts line cause) none is h = tt

-- ---- settle

-- a line of positions is read
abbrev IsPosition : Text → Type 0
IsPosition line = (p : Position) × (position_of_line line ≡ Ok p)

all_behind : (first rest : List Text) → All IsPosition (first ++ rest) → All IsPosition rest
all_behind [] rest h = h
all_behind (line ∷ first) rest h = all_behind first rest (All-tail IsPosition line (first ++ rest) h)

read_not_bad : (line : Text) (fault : PositionFault) → IsPosition line → position_of_line line ≡ Err fault → ⊥
read_not_bad line fault (p, is) bad = cc

-- lines that are positions have no bad one next
next_not_bad : (a : AnsweredOpening) (rest : TextLines) (cause : PositionCause) → All IsPosition rest.lines → rest.ending ≡ at_end
    → NextIsBad settle_rules a rest cause → ⊥
next_not_bad a rest (Fault fault) each ends (line, more, is, bad) =
    read_not_bad line fault
    (All-head IsPosition line more.lines (subst (λ (ls : List Text). All IsPosition ls) (ap (λ (t : TextLines). t.lines) is) each)) bad
next_not_bad a rest TooLong each ends is =
    let ending : at_end ≡ too_long = sym ends ∙ ap (λ (t : TextLines). t.ending) is in (let no : ⊥ = cc in no)
next_not_bad a rest NoEol each ends is =
    let ending : at_end ≡ no_eol = sym ends ∙ ap (λ (t : TextLines). t.ending) is in (let no : ⊥ = cc in no)
next_not_bad a rest TooMany each ends is =
    let ending : at_end ≡ too_many = sym ends ∙ ap (λ (t : TextLines). t.ending) is in (let no : ⊥ = cc in no)

rest_not_bad : (a : AnsweredOpening) (lines rest : TextLines) (items : List (Option Settled)) (cause : PositionCause)
    → SettledBefore settle_rules a lines items rest → All IsPosition lines.lines → lines.ending ≡ at_end
    → NextIsBad settle_rules a rest cause → ⊥
rest_not_bad a lines rest items cause settled each ends bad =
    next_not_bad a rest cause
    (all_behind settled.lines rest.lines
    (subst (λ (ls : List Text). All IsPosition ls) (ap (λ (t : TextLines). t.lines) settled.are_first) each))
    (sym (ap (λ (t : TextLines). t.ending) settled.are_first) ∙ ends) bad

-- neither file ends the run
positions_not_bad : {P : Type 0} (bad : Option BadLine) (events : _) (lines : TextLines) (line : ℕ) (cause : PositionCause) (out certs : Text)
    → All IsPosition lines.lines → lines.ending ≡ at_end
    → RunsUnlessBad settle_rules bad events lines (BadPositions line cause) out certs → P
positions_not_bad None events lines line cause out certs each ends h =
    absurd (rest_not_bad h.answer lines h.rest h.items cause h.before each ends h.ends.1)
positions_not_bad (Some bad) events lines line cause out certs each ends (why, is, cause_is, no_out, no_certs) = absurd (let no : ⊥ = cc in no)

feed_not_stopped : {P : Type 0} (bad : Option BadLine) (events : _) (lines : TextLines) (line : ℕ) (cause : _) (out certs : Text)
    → bad ≡ None → RunsUnlessBad settle_rules bad events lines (BadFeed line cause) out certs → P
feed_not_stopped None events lines line cause out certs none h = absurd h.ends
feed_not_stopped (Some bad) events lines line cause out certs none h = absurd (let no : ⊥ = cc in no)

module _ (feed positions : Option Text) (before after : Slot → Told) (lawful : HoldsText feed IsLawfulFeed)
    (are_lawful : HoldsText positions AreLawfulPositions) where
  abbrev HasSettledThem : Exit → Type 0
  HasSettledThem exit = HasSettled (record { feed = feed; side = positions }) before after exit

  lines_are : (exit : Exit) (h : HasSettledThem exit) → positions_of are_lawful.text ≡ h.lines
  lines_are exit h = subst (λ (o : Option Text). IfSome (option_map positions_of o) (λ told. told ≡ h.lines)) are_lawful.text_is h.lines_are

  settle_ends : (exit : Exit) → exit_calls exit ≡ None → IsSettleExit exit → HasSettledThem exit → IsDoneOrNoMemory exit
  settle_ends Done none is h = tt
  settle_ends (SaidNo count) none is h = absurd is
  settle_ends Usage none is h = absurd is
  settle_ends (BadFeed line cause) none is h =
      feed_not_stopped h.over.bad h.over.events h.lines line cause h.out h.certs (none_bad feed h.over lawful h.feed_is) h.runs
  settle_ends (OpenFault slot) none is h = absurd (named _ (exit_calls (OpenFault slot)) refl none)
  settle_ends (ReadFault slot) none is h = absurd (named _ (exit_calls (ReadFault slot)) refl none)
  settle_ends (WriteFault slot) none is h = absurd (named _ (exit_calls (WriteFault slot)) refl none)
  settle_ends NoMemory none is h = tt
  settle_ends (BadPositions line cause) none is h =
      let lines = lines_are (BadPositions line cause) h in
      positions_not_bad h.over.bad h.over.events h.lines line cause h.out h.certs
      (subst (λ (t : TextLines). All IsPosition t.lines) lines are_lawful.is_of_kind.each)
      (sym (ap (λ (t : TextLines). t.ending) lines) ∙ are_lawful.is_of_kind.ends) h.runs
  settle_ends (BadCerts line cause) none is h = absurd is

-- ---- make and drill

make_ends : (exit : Exit) → exit_calls exit ≡ None → IsMakeExit exit → IsDoneOrNoMemory exit
make_ends Done none is = tt
make_ends (SaidNo count) none is = absurd is
make_ends Usage none is = absurd is
make_ends (BadFeed line cause) none is = absurd is
make_ends (OpenFault slot) none is = absurd is
make_ends (ReadFault slot) none is = absurd is
make_ends (WriteFault slot) none is = absurd (named _ (exit_calls (WriteFault slot)) refl none)
make_ends NoMemory none is = tt
make_ends (BadPositions line cause) none is = absurd is
make_ends (BadCerts line cause) none is = absurd is

-- ---- every command

exit_ends_by : (command : Command) (holds : List ℕ → Option (List ℕ)) (before after : Slot → Told) (exit : Exit) → exit_calls exit ≡ None
    → IsExitOf exit command → SendsFor (Some command) holds before after exit → EndsLawfully command holds exit
exit_ends_by (replay feed certs) holds before after exit none is sends = λ lawful. replay_ends (holds feed) before after lawful exit none is sends
exit_ends_by (check feed certs) holds before after exit none is sends = λ lawful there.
    check_ends (holds feed) (holds certs) before after lawful there exit none is sends
exit_ends_by (settle feed positions certs) holds before after exit none is sends = λ lawful are_lawful.
    settle_ends (holds feed) (holds positions) before after lawful are_lawful exit none is sends
exit_ends_by (make number ticks) holds before after exit none is sends = make_ends exit none is
exit_ends_by (drill number ticks) holds before after exit none is sends = make_ends exit none is

-- a run over lawful input with no failed call ends lawfully
pub ends_lawfully : (command : Command) (holds : List ℕ → Option (List ℕ)) (before after : Slot → Told) (exit : Exit)
    → Failures (exit_calls exit) before after → IsExitOf exit command → SendsFor (Some command) holds before after exit
    → CountsNoFailure before after → EndsLawfully command holds exit
ends_lawfully command holds before after exit failed is sends none =
    exit_ends_by command holds before after exit (no_calls (exit_calls exit) before after none failed) is sends

-- ---- the words that ask for a command

abbrev pub EndsFor : Option Command → (List ℕ → Option (List ℕ)) → Exit → Type 0
EndsFor command holds exit = IfSome command (λ c. EndsLawfully c holds exit)

-- and so does the run of the command that words ask for
pub lawful_by : (asked : Command) (command : Option Command) (holds : List ℕ → Option (List ℕ)) (before after : Slot → Told) (exit : Exit)
    → Some asked ≡ command → Failures (exit_calls exit) before after → IsExitOf exit asked
    → SendsFor (Some asked) holds before after exit → CountsNoFailure before after → EndsFor command holds exit
lawful_by asked command holds before after exit same failed is sends none =
    subst (λ (c : Option Command). EndsFor c holds exit) same (ends_lawfully asked holds before after exit failed is sends none)
