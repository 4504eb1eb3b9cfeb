-- What `settle` says of the opening and of the positions is true.
use Rattle.std.proofs.Common.{◌≡◌, ◌∙◌, sym, ap, subst, refl, ◌⊎◌, inl, inr, ℕ, Bool, true, false, List, [], ◌∷◌, ◌++◌, length, Option, Some, None, Ok, arith}
use Rattle.std.proofs.Common.{append_assoc, append-nil}
use Rattle.vx_lines.specs.TextLines.{TextLines, at_end, ended}
use Rattle.vx_feed.specs.declared.events.Event.{Event}
use Rattle.vx_feed.specs.Feed.{BadLine, Reading}
use Rattle.vx_drivers.specs.declared.exit.Exit.{Exit}
use Rattle.vx_drivers.specs.declared.exit.Exit.TheVariants.{Done, SaidNo, Usage, BadFeed, OpenFault, ReadFault, WriteFault, NoMemory, BadPositions, BadCerts}
use Rattle.vx_drivers.specs.Along.{Along}
use Rattle.vx_drivers.specs.Exits.{is_cut}
use Rattle.vx_drivers.specs.PositionRun.{EndsPositions, GivesOpeningPart, GivesPositionParts, RunsPositionsIf, RunsUnlessBad, SettledBefore, ComesToOneMore, SettlesOpening, if_done, items_from, settled_text}
use Rattle.vx_drivers.specs.Sending.{Text}
use Rattle.vx_cli.specs.Headline.{AreOfLines, SettlesNothing, SettlesTruly, opened_text}
use Rattle.vx_cli.specs.SettleRuns.{AnsweredOpening, IsAnsweredOpening, LineComesTo, settle_rules}
use Rattle.vx_cli.specs.SettleText.{Settled, figure_of, last_text, opening_certificate_text, opening_clock, opening_text}
use Rattle.vx_cli.proofs.HeadlineLines.{cut_not_done, last_either, of_more_lines}

-- ---- positions

module _ (a : AnsweredOpening) where
  -- a line comes to this item
  abbrev Comes : Text → Option Settled → Type 0
  Comes line item = LineComesTo (figure_of a.answer) line (Ok item)

  -- the lines come to as many items more
  record AddsAll (lines : List Text) (old new : List (Option Settled)) : Type 0 where
    added : List (Option Settled)
    new_is : new ≡ old ++ added
    are_true : AreOfLines Comes lines added
    as_many : length added ≡ length lines

  adds_more : (line : Text) (lines : List Text) (old next new : List (Option Settled)) → ComesToOneMore settle_rules a old line next
      → AddsAll lines next new → AddsAll (line ∷ lines) old new
  adds_more line lines old next new (item, comes, is) more =
      let n = more.as_many in
      record {
        added = item ∷ more.added;
        new_is = more.new_is ∙ ap (λ (xs : List (Option Settled)). xs ++ more.added) is ∙ append_assoc old (item ∷ []) more.added;
        are_true = (comes, more.are_true);
        as_many = omega (arith, n);
      }

  lines_true : (lines : List Text) (old new : List (Option Settled)) → Along (ComesToOneMore settle_rules a) old lines new → AddsAll lines old new
  lines_true [] old new h = record { added = []; new_is = h ∙ sym (append-nil old); are_true = tt; as_many = refl }
  lines_true (line ∷ lines) old new (next, step, h) = adds_more line lines old next new step (lines_true lines next new h)

  -- the items of a run are those of first lines
  items_true : (positions : TextLines) (items : List (Option Settled)) (rest : TextLines) → SettledBefore settle_rules a positions items rest
      → AreOfLines Comes positions.lines items
  items_true positions items rest before =
      let all = lines_true before.lines [] items before.steps in
      subst (λ (ls : List Text). AreOfLines Comes ls items) (sym (ap (λ (t : TextLines). t.lines) before.are_first))
      (of_more_lines Comes before.lines rest.lines items
      (subst (λ (xs : List (Option Settled)). AreOfLines Comes before.lines xs) (sym all.new_is) all.are_true))

  -- and as many as there are lines, where none is left
  items_whole : (positions : TextLines) (items : List (Option Settled)) (rest : TextLines) → SettledBefore settle_rules a positions items rest
      → rest.lines ≡ [] → length items ≡ length positions.lines
  items_whole positions items rest before none =
      let all = lines_true before.lines [] items before.steps in
      ap (λ (xs : List (Option Settled)). length xs) all.new_is ∙ all.as_many
      ∙ ap (λ (ls : List Text). length ls)
      (sym (ap (λ (t : TextLines). t.lines) before.are_first ∙ ap (λ (ls : List Text). before.lines ++ ls) none ∙ append-nil before.lines))

-- the text at the opening's minute
at_opening : (events : List Event) (a : AnsweredOpening) (items : List (Option Settled)) → IsAnsweredOpening events a
    → settled_text settle_rules a items ≡ opened_text events a.answer items
at_opening events a items is =
    ap (λ (time : Option ℕ). opening_text (opening_clock time) a.answer ++ items_from settle_rules 1 items) is.time_is

-- ---- a run

module _ (feed : Reading) (positions : TextLines) (exit : Exit) (out certs : Text) where
  abbrev pub IsTrue : Type 0
  IsTrue = SettlesNothing exit out certs ⊎ SettlesTruly feed positions.lines exit out certs

  whole_certificate : (more text : Text) → certs ++ more ≡ text → (out ≡ []) ⊎ (more ≡ []) → (out ≡ []) ⊎ (certs ≡ text)
  whole_certificate more text is (inl none) = inl none
  whole_certificate more text is (inr none) =
      inr (sym (append-nil certs) ∙ ap (λ (t : Text). certs ++ t) (sym none) ∙ is)

  part_true : is_cut exit ≡ true → GivesOpeningPart settle_rules feed positions out certs → SettlesTruly feed positions.lines exit out certs
  part_true cut h =
      let gives = h.gives in
      record {
        answer = gives.answer.answer;
        is_true = gives.is_opening.0.is_lawful;
        items = gives.items;
        are_true = items_true gives.answer positions gives.items gives.rest gives.before;
        last = gives.last;
        last_is = last_either gives.last (last_text (figure_of gives.answer.answer) gives.items) gives.last_is;
        begins = (
          h.out_more,
          ap (λ (t : Text). t ++ gives.last) (sym (at_opening feed.events gives.answer gives.items gives.is_opening.0)) ∙ sym gives.out_is,
        );
        certs_begin = (h.certs_more, sym gives.certs_are);
        on_file = whole_certificate h.certs_more (opening_certificate_text gives.answer.answer) gives.certs_are h.whole;
        done = λ done. absurd (cut_not_done exit cut done);
      }

  cut_true : is_cut exit ≡ true → GivesPositionParts settle_rules feed positions out certs → IsTrue
  cut_true cut (inl (no_out, no_certs)) = inl (cut_not_done exit cut, no_out, no_certs)
  cut_true cut (inr h) = inr (part_true cut h)

  last_of : (e : Exit) (text : Text) → (if_done e text ≡ []) ⊎ (if_done e text ≡ text)
  last_of Done text = inr refl
  last_of (SaidNo count) text = inl refl
  last_of Usage text = inl refl
  last_of (BadFeed line cause) text = inl refl
  last_of (OpenFault slot) text = inl refl
  last_of (ReadFault slot) text = inl refl
  last_of (WriteFault slot) text = inl refl
  last_of NoMemory text = inl refl
  last_of (BadPositions line cause) text = inl refl
  last_of (BadCerts line cause) text = inl refl

  opening_true : feed.bad ≡ None → SettlesOpening settle_rules feed.events positions exit out certs
      → SettlesTruly feed positions.lines exit out certs
  opening_true good h =
      let a = h.answer in
      let text = last_text (figure_of a.answer) h.items in
      let out_is : out ≡ opened_text feed.events a.answer h.items ++ if_done exit text =
      h.out_is ∙ ap (λ (t : Text). t ++ if_done exit text) (at_opening feed.events a h.items h.is_opening.0) in
      record {
        answer = a.answer;
        is_true = h.is_opening.0.is_lawful;
        items = h.items;
        are_true = items_true a positions h.items h.rest h.before;
        last = if_done exit text;
        last_is = last_of exit text;
        begins = ([], sym out_is ∙ sym (append-nil out));
        certs_begin = ([], sym h.certs_are ∙ sym (append-nil certs));
        on_file = inr h.certs_are;
        done = λ done.
            let ends : h.rest ≡ ended at_end = subst (λ (e : Exit). EndsPositions settle_rules a h.items h.rest e) done h.ends in (
              good,
              items_whole a positions h.items h.rest h.before (ap (λ (t : TextLines). t.lines) ends),
              h.certs_are,
              out_is ∙ ap (λ (e : Exit). opened_text feed.events a.answer h.items ++ if_done e text) done,
            );
      }

  unless_true : (bad : Option BadLine) → feed.bad ≡ bad → RunsUnlessBad settle_rules bad feed.events positions exit out certs → IsTrue
  unless_true None good h = inr (opening_true good h)
  unless_true (Some bad) there (why, is, cause, no_out, no_certs) =
      inl (λ done. let differ : BadFeed bad.line why ≡ Done = sym is ∙ done in (let no : ⊥ = cc in no), no_out, no_certs)

  settle_by : (cut : Bool) → is_cut exit ≡ cut → RunsPositionsIf settle_rules feed positions exit out certs cut → IsTrue
  settle_by true cut h = cut_true cut h
  settle_by false cut h = unless_true feed.bad refl h

  -- what a run of `settle` sends is true
  pub settles_truly : RunsPositionsIf settle_rules feed positions exit out certs (is_cut exit) → IsTrue
  settles_truly h = settle_by (is_cut exit) refl h
