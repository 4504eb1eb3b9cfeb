-- A run over a feed and lines of positions is there.
use Rattle.std.proofs.Common.{◌≡◌, ap, refl, ℕ, ◌+◌, List, [], ◌∷◌, ◌++◌, length, Option, Some, None, Result, Ok, Err}
use Rattle.vx_lines.specs.TextLines.{Ending, TextLines, at_end, ended, line_then, lines_then, no_eol, too_long, too_many}
use Rattle.vx_feed.specs.declared.events.Event.{Event}
use Rattle.vx_feed.specs.Feed.{BadLine}
use Rattle.vx_settle.specs.declared.fault.PositionFault.{PositionFault}
use Rattle.vx_drivers.specs.declared.exit.Exit.{Exit}
use Rattle.vx_drivers.specs.declared.exit.Exit.TheVariants.{Done, BadFeed, BadPositions}
use Rattle.vx_drivers.specs.declared.exit.PositionCause.TheVariants as cause
use Rattle.vx_drivers.specs.Along.{Along}
use Rattle.vx_drivers.specs.PositionLaws.{PositionRunIsThere, SettlesEach}
use Rattle.vx_drivers.specs.PositionRun.{EndsPositions, PositionRules, RunsUnlessBad, ComesToOneMore, if_done, settled_text}
use Rattle.vx_drivers.specs.Sending.{Text}
use Rattle.vx_drivers.proofs.CauseLemmas.{cause_of}

module _ {A I : Type 0} (rules : PositionRules A I) (answer : A)
    (comes : (line : List ℕ) → (said : Result I PositionFault) × rules.ComesTo answer line said) where
  -- behind the last line
  last_end : (items : List I) (ending : Ending) → (exit : Exit) × EndsPositions rules answer items (ended ending) exit
  last_end items at_end = (Done, refl)
  last_end items too_long = (BadPositions (length items + 1) cause.TooLong, (refl, refl))
  last_end items no_eol = (BadPositions (length items + 1) cause.NoEol, (refl, refl))
  last_end items too_many = (BadPositions (length items + 1) cause.TooMany, (refl, refl))

  -- a run goes on from here over these lines
  record SettlesOn (items : List I) (positions : TextLines) : Type 0 where
    last : List I
    firsts : List (List ℕ)
    rest : TextLines
    are_first : positions ≡ lines_then firsts rest
    steps : Along (ComesToOneMore rules answer) items firsts last
    exit : Exit
    ends : EndsPositions rules answer last rest exit

  settles_at : (items : List I) (text : List ℕ) (texts : List (List ℕ)) (ending : Ending) (said : Result I PositionFault)
      → rules.ComesTo answer text said → ((new : List I) → SettlesOn new (record { lines = texts; ending = ending }))
      → SettlesOn items (record { lines = text ∷ texts; ending = ending })
  settles_at items text texts ending (Ok item) comes_to on =
      let run = on (items ++ item ∷ []) in
      record {
        last = run.last;
        firsts = text ∷ run.firsts;
        rest = run.rest;
        are_first = ap (line_then text) run.are_first;
        steps = (items ++ item ∷ [], (item, comes_to, refl), run.steps);
        exit = run.exit;
        ends = run.ends;
      }
  settles_at items text texts ending (Err fault) comes_to on =
      record {
        last = items;
        firsts = [];
        rest = record { lines = text ∷ texts; ending = ending };
        are_first = refl;
        steps = refl;
        exit = BadPositions (length items + 1) (cause.Fault fault);
        ends = (refl, (text, record { lines = texts; ending = ending }, refl, comes_to));
      }

  settles_on : (items : List I) (texts : List (List ℕ)) (ending : Ending)
      → SettlesOn items (record { lines = texts; ending = ending })
  settles_on items [] ending =
      let end = last_end items ending in
      record {
        last = items;
        firsts = [];
        rest = ended ending;
        are_first = refl;
        steps = refl;
        exit = end.0;
        ends = end.1;
      }
  settles_on items (text ∷ texts) ending =
      let said = comes text in
      settles_at items text texts ending said.0 said.1 (λ new. settles_on new texts ending)

module _ {A I : Type 0} (rules : PositionRules A I) where
  unless_bad_there : (bad : Option BadLine) (events : List Event) (positions : TextLines) → SettlesEach rules events
      → (exit : Exit) × (out : Text) × (certs : Text) × RunsUnlessBad rules bad events positions exit out certs
  unless_bad_there None events positions each =
      let answer = each.opens.0 in
      let is_opening = each.opens.1 in
      let run = settles_on rules answer (λ line. each.comes answer line is_opening) [] positions.lines positions.ending in (
        run.exit,
        settled_text rules answer run.last ++ if_done run.exit (rules.last_lines answer run.last),
        rules.certificate answer,
        record {
          answer = answer;
          is_opening = is_opening;
          items = run.last;
          rest = run.rest;
          before = record { lines = run.firsts; are_first = run.are_first; steps = run.steps };
          ends = run.ends;
          out_is = refl;
          certs_are = refl;
        },
      )
  unless_bad_there (Some bad) events positions each =
      let why = cause_of bad.cause in
      (BadFeed bad.line why.0, [], [], (why.0, refl, why.1, refl, refl))

  -- a run is there
  pub run_is_there : PositionRunIsThere rules
  run_is_there feed positions each = unless_bad_there feed.bad feed.events positions each
