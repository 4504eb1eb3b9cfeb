-- A run over a feed and lines of positions is one.
use Rattle.std.proofs.Common.{◌≡◌, ◌∙◌, sym, ap, subst, refl, ℕ, ◌+◌, ◌⊎◌, inl, inr, List, [], ◌∷◌, ◌++◌, length, Option, Some, None, Result, Ok, Err}
use Rattle.vx_lines.specs.TextLines.{Ending, TextLines, at_end, ended, line_then, lines_then, no_eol, too_long, too_many}
use Rattle.vx_feed.specs.declared.events.Event.{Event}
use Rattle.vx_feed.specs.Feed.{BadLine}
use Rattle.vx_settle.specs.declared.fault.PositionFault.{PositionFault}
use Rattle.vx_reading.specs.declared.stop.FeedCause.{FeedCause}
use Rattle.vx_drivers.specs.declared.exit.Exit.{Exit}
use Rattle.vx_drivers.specs.declared.exit.Exit.TheVariants.{Done, SaidNo, Usage, BadFeed, OpenFault, ReadFault, WriteFault, NoMemory, BadPositions, BadCerts}
use Rattle.vx_drivers.specs.declared.exit.PositionCause.{PositionCause}
use Rattle.vx_drivers.specs.declared.exit.PositionCause.TheVariants as cause
use Rattle.vx_drivers.specs.Along.{Along}
use Rattle.vx_drivers.specs.PositionLaws.{PositionRunIsOne}
use Rattle.vx_drivers.specs.PositionRun.{EndsPositions, NextIsBad, PositionRules, RunsUnlessBad, ComesToOneMore, SettlesOpening, if_done, settled_text}
use Rattle.vx_drivers.specs.Sending.{Text}
use Rattle.vx_drivers.proofs.CauseLemmas as bad_lines
use Rattle.vx_drivers.proofs.OneRun.{same_head, same_text_lines, same_tail}

-- ---- rests are told apart

not_line : (text : List ℕ) (more : TextLines) (ending : Ending) → ended ending ≡ line_then text more → ⊥
not_line text more ending h = let no : [] ≡ text ∷ more.lines = ap (λ (t : TextLines). t.lines) h in cc

same_line : (text other : List ℕ) (more rest : TextLines) → line_then text more ≡ line_then other rest → text ≡ other
same_line text other more rest h = same_head text other more.lines rest.lines (ap (λ (t : TextLines). t.lines) h)

same_ending : (a b : Ending) → ended a ≡ ended b → a ≡ b
same_ending a b h = ap (λ (t : TextLines). t.ending) h

module _ {A I : Type 0} (rules : PositionRules A I)
    (opens_one : (events : List Event) (a b : A) → rules.IsOpening events a → rules.IsOpening events b → a ≡ b)
    (comes_to_one : (answer : A) (text : List ℕ) (a b : Result I PositionFault) → rules.ComesTo answer text a → rules.ComesTo answer text b → a ≡ b) where
  -- ---- one line

  same_item : (x y : I) (r : Result I PositionFault) → r ≡ Ok x → r ≡ Ok y → x ≡ y
  same_item x y r h k = cc

  same_fault : (x y : PositionFault) (r : Result I PositionFault) → r ≡ Err x → r ≡ Err y → x ≡ y
  same_fault x y r h k = cc

  item_or_fault : (x : I) (y : PositionFault) (r : Result I PositionFault) → r ≡ Ok x → r ≡ Err y → ⊥
  item_or_fault x y r h k = cc

  settles_one : (answer : A) (old : List I) (text : List ℕ) (a b : List I) → ComesToOneMore rules answer old text a → ComesToOneMore rules answer old text b → a ≡ b
  settles_one answer old text a b (x, h, p) (y, k, q) =
      p ∙ ap (λ z. old ++ z ∷ []) (same_item x y (Ok y) (comes_to_one answer text (Ok y) (Ok x) k h) refl) ∙ sym q

  -- ---- the end

  abbrev IsThrough : TextLines → Exit → Type 0
  IsThrough rest exit = (rest ≡ ended at_end) × (exit ≡ Done)

  record IsAtBadLine (answer : A) (items : List I) (rest : TextLines) (exit : Exit) : Type 0 where
    why : PositionCause
    exit_is : exit ≡ BadPositions (length items + 1) why
    bad : NextIsBad rules answer rest why

  abbrev EndsAs : A → List I → TextLines → Exit → Type 0
  EndsAs answer items rest exit = IsThrough rest exit ⊎ IsAtBadLine answer items rest exit

  ends_as : (answer : A) (items : List I) (rest : TextLines) (exit : Exit) → EndsPositions rules answer items rest exit → EndsAs answer items rest exit
  ends_as answer items rest Done h = inl (h, refl)
  ends_as answer items rest (SaidNo count) h = elim h [ ]
  ends_as answer items rest Usage h = elim h [ ]
  ends_as answer items rest (BadFeed number why) h = elim h [ ]
  ends_as answer items rest (OpenFault slot) h = elim h [ ]
  ends_as answer items rest (ReadFault slot) h = elim h [ ]
  ends_as answer items rest (WriteFault slot) h = elim h [ ]
  ends_as answer items rest NoMemory h = elim h [ ]
  ends_as answer items rest (BadPositions number why) (numbered, bad) = inr (record { why = why; exit_is = ap (λ (n : ℕ). BadPositions n why) numbered; bad = bad })
  ends_as answer items rest (BadCerts number why) h = elim h [ ]

  through_not_bad : (answer : A) (rest : TextLines) (why : PositionCause) → rest ≡ ended at_end → NextIsBad rules answer rest why → ⊥
  through_not_bad answer rest (cause.Fault fault) h (text, more, is, comes) = not_line text more at_end (sym h ∙ is)
  through_not_bad answer rest cause.TooLong h is = let no = same_ending at_end too_long (sym h ∙ is) in cc
  through_not_bad answer rest cause.NoEol h is = let no = same_ending at_end no_eol (sym h ∙ is) in cc
  through_not_bad answer rest cause.TooMany h is = let no = same_ending at_end too_many (sym h ∙ is) in cc

  cause_one : (answer : A) (rest : TextLines) (why other : PositionCause) → NextIsBad rules answer rest why → NextIsBad rules answer rest other → why ≡ other
  cause_one answer rest (cause.Fault a) (cause.Fault b) (text, more, is, comes) (next, later, are, come) =
      let same : text ≡ next = same_line text next more later (sym is ∙ are) in
      let moved : rules.ComesTo answer next (Err a) = subst (λ (t : List ℕ). rules.ComesTo answer t (Err a)) same comes in
      ap (λ (f : PositionFault). cause.Fault f) (same_fault a b (Err b) (comes_to_one answer next (Err b) (Err a) come moved) refl)
  cause_one answer rest (cause.Fault a) cause.TooLong (text, more, is, comes) k = absurd (not_line text more too_long (sym k ∙ is))
  cause_one answer rest (cause.Fault a) cause.NoEol (text, more, is, comes) k = absurd (not_line text more no_eol (sym k ∙ is))
  cause_one answer rest (cause.Fault a) cause.TooMany (text, more, is, comes) k = absurd (not_line text more too_many (sym k ∙ is))
  cause_one answer rest cause.TooLong (cause.Fault b) h (text, more, is, comes) = absurd (not_line text more too_long (sym h ∙ is))
  cause_one answer rest cause.TooLong cause.TooLong h k = refl
  cause_one answer rest cause.TooLong cause.NoEol h k = absurd (let no = same_ending too_long no_eol (sym h ∙ k) in cc)
  cause_one answer rest cause.TooLong cause.TooMany h k = absurd (let no = same_ending too_long too_many (sym h ∙ k) in cc)
  cause_one answer rest cause.NoEol (cause.Fault b) h (text, more, is, comes) = absurd (not_line text more no_eol (sym h ∙ is))
  cause_one answer rest cause.NoEol cause.TooLong h k = absurd (let no = same_ending no_eol too_long (sym h ∙ k) in cc)
  cause_one answer rest cause.NoEol cause.NoEol h k = refl
  cause_one answer rest cause.NoEol cause.TooMany h k = absurd (let no = same_ending no_eol too_many (sym h ∙ k) in cc)
  cause_one answer rest cause.TooMany (cause.Fault b) h (text, more, is, comes) = absurd (not_line text more too_many (sym h ∙ is))
  cause_one answer rest cause.TooMany cause.TooLong h k = absurd (let no = same_ending too_many too_long (sym h ∙ k) in cc)
  cause_one answer rest cause.TooMany cause.NoEol h k = absurd (let no = same_ending too_many no_eol (sym h ∙ k) in cc)
  cause_one answer rest cause.TooMany cause.TooMany h k = refl

  ends_one : (answer : A) (items : List I) (rest : TextLines) (a b : Exit) → EndsAs answer items rest a → EndsAs answer items rest b → a ≡ b
  ends_one answer items rest a b (inl h) (inl k) = h.1 ∙ sym k.1
  ends_one answer items rest a b (inl h) (inr k) = absurd (through_not_bad answer rest k.why h.0 k.bad)
  ends_one answer items rest a b (inr h) (inl k) = absurd (through_not_bad answer rest h.why k.0 h.bad)
  ends_one answer items rest a b (inr h) (inr k) =
      h.exit_is ∙ ap (λ (w : PositionCause). BadPositions (length items + 1) w) (cause_one answer rest h.why k.why h.bad k.bad) ∙ sym k.exit_is

  -- ---- the lines

  no_lines : (ending : Ending) (rest : TextLines) (text : List ℕ) (texts : List (List ℕ)) → rest ≡ ended ending → rest.lines ≡ text ∷ texts → ⊥
  no_lines ending rest text texts is lines = let no : [] ≡ text ∷ texts = ap (λ (t : TextLines). t.lines) (sym is) ∙ lines in cc

  good_not_bad : (answer : A) (rest : TextLines) (text : List ℕ) (texts : List (List ℕ)) (item : I) (why : PositionCause) → rest.lines ≡ text ∷ texts
      → rules.ComesTo answer text (Ok item) → NextIsBad rules answer rest why → ⊥
  good_not_bad answer rest text texts item (cause.Fault fault) lines good (bad, more, is, comes) =
      let same : bad ≡ text = same_head bad text more.lines texts (ap (λ (t : TextLines). t.lines) (sym is) ∙ lines) in
      item_or_fault item fault (Ok item) refl (comes_to_one answer text (Ok item) (Err fault) good (subst (λ (t : List ℕ). rules.ComesTo answer t (Err fault)) same comes))
  good_not_bad answer rest text texts item cause.TooLong lines good is = no_lines too_long rest text texts is lines
  good_not_bad answer rest text texts item cause.NoEol lines good is = no_lines no_eol rest text texts is lines
  good_not_bad answer rest text texts item cause.TooMany lines good is = no_lines too_many rest text texts is lines

  -- a run does not end before a line that is settled
  ends_no_earlier : (answer : A) (items : List I) (rest : TextLines) (exit : Exit) (text : List ℕ) (texts : List (List ℕ)) (old next : List I)
      → rest.lines ≡ text ∷ texts → ComesToOneMore rules answer old text next → EndsAs answer items rest exit → ⊥
  ends_no_earlier answer items rest exit text texts old next lines (item, good, is) (inl h) = no_lines at_end rest text texts h.0 lines
  ends_no_earlier answer items rest exit text texts old next lines (item, good, is) (inr h) = good_not_bad answer rest text texts item h.why lines good h.bad

  same_end : (answer : A) (first a b : List I) (xs ys : List (List ℕ)) (more others : TextLines) (exit other : Exit) → Along (ComesToOneMore rules answer) first xs a
      → Along (ComesToOneMore rules answer) first ys b → xs ++ more.lines ≡ ys ++ others.lines → more.ending ≡ others.ending
      → EndsPositions rules answer a more exit → EndsPositions rules answer b others other → (a ≡ b) × (exit ≡ other)
  same_end answer first a b [] [] more others exit other h k lines ending ends end =
      let items : a ≡ b = h ∙ sym k in
      let rests : more ≡ others = same_text_lines more others lines ending in (
        items,
        ends_one answer b others exit other
            (ends_as answer b others exit (subst (λ (l : List I). EndsPositions rules answer l others exit) items (subst (λ (t : TextLines). EndsPositions rules answer a t exit) rests ends)))
            (ends_as answer b others other end),
      )
  same_end answer first a b [] (y ∷ ys) more others exit other h (next, step, k) lines ending ends end =
      absurd (ends_no_earlier answer a more exit y (ys ++ others.lines) first next lines step (ends_as answer a more exit ends))
  same_end answer first a b (x ∷ xs) [] more others exit other (next, step, h) k lines ending ends end =
      absurd (ends_no_earlier answer b others other x (xs ++ more.lines) first next (sym lines) step (ends_as answer b others other end))
  same_end answer first a b (x ∷ xs) (y ∷ ys) more others exit other (s, step, h) (t, follows, k) lines ending ends end =
      let heads : x ≡ y = same_head x y (xs ++ more.lines) (ys ++ others.lines) lines in
      let next : s ≡ t = settles_one answer first y s t (subst (λ (l : List ℕ). ComesToOneMore rules answer first l s) heads step) follows in
      same_end answer t a b xs ys more others exit other (subst (λ (u : List I). Along (ComesToOneMore rules answer) u xs a) next h) k
      (same_tail x y (xs ++ more.lines) (ys ++ others.lines) lines) ending ends end

  -- ---- the whole

  -- two runs over the same answer
  on_answer : (positions : TextLines) (answer : A) (xs ys : List I) (more others : TextLines) (exit other : Exit)
      → (lines : List (List ℕ)) → (texts : List (List ℕ)) → positions ≡ lines_then lines more → positions ≡ lines_then texts others
      → Along (ComesToOneMore rules answer) [] lines xs → Along (ComesToOneMore rules answer) [] texts ys
      → EndsPositions rules answer xs more exit → EndsPositions rules answer ys others other → (xs ≡ ys) × (exit ≡ other)
  on_answer positions answer xs ys more others exit other lines texts first second h k ends end =
      let both = sym first ∙ second in
      same_end answer [] xs ys lines texts more others exit other h k (ap (λ (t : TextLines). t.lines) both) (ap (λ (t : TextLines). t.ending) both) ends end

  opening_one : (events : List Event) (positions : TextLines) (exit other : Exit) (out certs out_other certs_other : Text)
      → SettlesOpening rules events positions exit out certs → SettlesOpening rules events positions other out_other certs_other
      → (exit ≡ other) × (out ≡ out_other) × (certs ≡ certs_other)
  opening_one events positions exit other out certs out_other certs_other h k =
      let answers : h.answer ≡ k.answer = opens_one events h.answer k.answer h.is_opening k.is_opening in
      let same = on_answer positions k.answer h.items k.items h.rest k.rest exit other h.before.lines k.before.lines h.before.are_first k.before.are_first
      (subst (λ (a : A). Along (ComesToOneMore rules a) [] h.before.lines h.items) answers h.before.steps) k.before.steps
      (subst (λ (a : A). EndsPositions rules a h.items h.rest exit) answers h.ends) k.ends in (
        same.1,
        h.out_is ∙ ap (λ (a : A). settled_text rules a h.items ++ if_done exit (rules.last_lines a h.items)) answers
            ∙ ap (λ (l : List I). settled_text rules k.answer l ++ if_done exit (rules.last_lines k.answer l)) same.0
            ∙ ap (λ (e : Exit). settled_text rules k.answer k.items ++ if_done e (rules.last_lines k.answer k.items)) same.1 ∙ sym k.out_is,
        h.certs_are ∙ ap (λ (a : A). rules.certificate a) answers ∙ sym k.certs_are,
      )

  unless_bad_one : (bad : Option BadLine) (events : List Event) (positions : TextLines) (exit other : Exit) (out certs out_other certs_other : Text)
      → RunsUnlessBad rules bad events positions exit out certs → RunsUnlessBad rules bad events positions other out_other certs_other
      → (exit ≡ other) × (out ≡ out_other) × (certs ≡ certs_other)
  unless_bad_one None events positions exit other out certs out_other certs_other h k = opening_one events positions exit other out certs out_other certs_other h k
  unless_bad_one (Some bad) events positions exit other out certs out_other certs_other (why, exit_is, cause_is, out_is, certs_are) (why_other, other_is, other_cause, out_other_is, certs_other_are) =
      let same : why ≡ why_other = bad_lines.cause_one why why_other (sym cause_is ∙ other_cause) in
      (exit_is ∙ ap (λ (w : FeedCause). BadFeed bad.line w) same ∙ sym other_is, out_is ∙ sym out_other_is, certs_are ∙ sym certs_other_are)

  pub run_is_one : PositionRunIsOne rules
  run_is_one feed positions exit other out certs out_other certs_other h k =
      unless_bad_one feed.bad feed.events positions exit other out certs out_other certs_other h k
