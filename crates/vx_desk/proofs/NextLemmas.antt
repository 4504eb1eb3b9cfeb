-- Steps and answers of `next`, over what is told of its slot.
use Rattle.std.proofs.Common.{◌≡◌, ◌≢◌, ℕ, ◌+◌, ◌<◌, ◌≤◌, Bool, true, false, List, [], ◌∷◌, ◌++◌, length, take, drop, Option, Some, None, Result, Ok}
use Rattle.std.proofs.Common.{Err, refl, sym, ◌∙◌, ap, subst, arith}
use Rattle.std.specs.Prelude.{IfSome, IsTrue, MatchOption, ◌↔◌, not, ◌&&◌, ◌==◌, nat_lt}
use Rattle.std.specs.List.{list_any}
use Rattle.std.proofs.lemmas.Bool.Decides.{nat_tests}
use Rattle.std.specs.Io.KnownBytes.{prepend_known, IsAtEnd}
use Rattle.std.proofs.lemmas.List.{append_assoc, append-nil, length-append, length-take-le, take-append-drop, take-append-le, take-take, drop_more}
use Rattle.std.proofs.lemmas.List.Elements.{All-take}
use Rattle.vx_desk.specs.declared.device.Failed.{Failed}
use Rattle.vx_desk.specs.declared.device.Slot.{Slot}
use Rattle.vx_desk.specs.declared.lines.Line.{Line}
use Rattle.vx_desk.specs.declared.lines.ReadFault.{ReadFault}
use Rattle.vx_desk.specs.declared.lines.ReadFault.TheVariants.{Device, LineTooLong}
use Rattle.vx_desk.specs.declared.lines.TheConstants.{LF}
use Rattle.vx_desk.specs.Told.{Told, ChangesReads, ChangesOnly}
use Rattle.vx_desk.specs.Lines.{ReaderState, to_come, HasNoLf, IsTooLong, IsCutOff, next_number, GivesLine, GivesNone, AnswersNext, CountsReads}
use Rattle.vx_desk.specs.Lines.{IsLineOrLong, holds_line}
use Rattle.vx_desk.specs.Refill.{IsFirstLf, Refills, CutsLine, Cuts, EndsInput}
use Rattle.vx_desk.proofs.ReaderLemmas.{prepend_known-append, no_lf_passes}

-- the reader with these bytes waiting
abbrev pub with_waiting : ReaderState → List ℕ → ReaderState
with_waiting old bytes = record old { waiting = bytes }

-- blocks were read since the call began, and no byte to come was lost
pub record ReadsOn (old now : ReaderState) (before after : Told) : Type 0 where
  pub state : now ≡ with_waiting old now.waiting
  pub open_yet : old.is_ended ≡ false
  pub come : to_come now after ≡ to_come old before
  pub counts : after.failed_reads ≡ before.failed_reads
  pub rest : ChangesReads before after

-- a slot that stays as it was
pub ChangesReads-refl : (t : Told) → ChangesReads t t
ChangesReads-refl t = record { sent = refl; is_open = refl; name = refl; opens = refl; writes = refl }

-- one change of what is read after another is one
pub ChangesReads-trans : {a b c : Told} → ChangesReads a b → ChangesReads b c → ChangesReads a c
ChangesReads-trans p q = record {
  sent = q.sent ∙ p.sent;
  is_open = q.is_open ∙ p.is_open;
  name = q.name ∙ p.name;
  opens = q.opens ∙ p.opens;
  writes = q.writes ∙ p.writes;
}

-- nothing is read yet
pub ReadsOn-start : (old now : ReaderState) (t : Told) → now ≡ old → now.is_ended ≡ false → ReadsOn old now t t
ReadsOn-start old now t is open_yet =
    let waiting = ap (λ (s : ReaderState). s.waiting) is in
    record {
      state = is ∙ ap (with_waiting old) (sym waiting);
      open_yet = sym (ap (λ (s : ReaderState). s.is_ended) is) ∙ open_yet;
      come = ap (λ xs. prepend_known xs t.left) waiting;
      counts = refl;
      rest = ChangesReads-refl t;
    }

-- one more read that fills the buffer
pub ReadsOn-more : (old now new : ReaderState) (before mid after : Told) (result : Result ℕ Failed) → ReadsOn old now before mid
    → Refills now new mid after result → after.failed_reads ≡ mid.failed_reads → ChangesReads mid after → ReadsOn old new before after
ReadsOn-more old now new before mid after result on more counts rest = record {
  state = more.state ∙ ap (λ (s : ReaderState). record s { waiting = new.waiting }) on.state;
  open_yet = on.open_yet;
  come = more.kept ∙ on.come;
  counts = counts ∙ on.counts;
  rest = ChangesReads-trans on.rest rest;
}

-- the waiting bytes with the line, its LF and what comes after
split_at_lf : (xs : List ℕ) (place : ℕ) → IsFirstLf xs place → xs ≡ (take place xs ++ LF ∷ []) ++ drop (place + 1) xs
split_at_lf xs place lf =
    sym (take-append-drop place xs) ∙ (ap (λ ys. take place xs ++ ys) (drop_more xs place 0 lf.within ∙ ap (λ b. b ∷ drop (place + 1) xs) lf.lf) ∙ sym (append_assoc (take place xs) (LF ∷ []) (drop (place + 1) xs)))

-- the line that is cut off is the first of the bytes to come
pub gives_line : (old now new : ReaderState) (before after : Told) (place : ℕ) (line : Line) → ReadsOn old now before after
    → IsFirstLf now.waiting place → CutsLine now new place line → GivesLine old new (to_come old before) (to_come new after) line
gives_line old now new before after place line on lf cut =
    let number = ap (λ (s : ReaderState). s.number) on.state in
    let bytes = ap (λ (s : ReaderState). s.last_bytes) cut.state in
    let size : length new.last_bytes ≡ place = ap length bytes ∙ length-take-le place now.waiting (omega (arith, lf.within)) in
    record {
      numbered = cut.numbered ∙ ap next_number number;
      number = ap (λ (s : ReaderState). s.number) cut.state ∙ sym cut.numbered;
      last = ap (λ (s : ReaderState). s.last) cut.state;
      size = cut.size ∙ ap (λ n. line.start + n) (sym size);
      is_line = record {
        fits = omega (arith, size, cut.fits, ap (λ (s : ReaderState). s.limit) on.state);
        no_lf = subst HasNoLf (sym bytes) lf.no_lf;
      };
      taken = sym on.come ∙ (ap (λ xs. prepend_known xs after.left) (split_at_lf now.waiting place lf) ∙
          (prepend_known-append (take place now.waiting ++ LF ∷ []) (drop (place + 1) now.waiting) after.left ∙
          (ap (λ xs. prepend_known (xs ++ LF ∷ []) (prepend_known (drop (place + 1) now.waiting) after.left)) (sym bytes) ∙
          ap (λ xs. prepend_known (new.last_bytes ++ LF ∷ []) (prepend_known xs after.left)) (sym (ap (λ (s : ReaderState). s.waiting) cut.state)))));
      open_yet = (on.open_yet, ap (λ (s : ReaderState). s.is_ended) cut.state ∙ (ap (λ (s : ReaderState). s.is_ended) on.state ∙ on.open_yet));
    }

-- a call that gives no line after it read on
gives_none : (old now new : ReaderState) (before after : Told) → ReadsOn old now before after → new.number ≡ now.number → new.last ≡ now.last
    → new.last_bytes ≡ now.last_bytes → new.waiting ≡ now.waiting → GivesNone old new (to_come old before) (to_come new after)
gives_none old now new before after on number last bytes waiting = record {
  number = number ∙ ap (λ (s : ReaderState). s.number) on.state;
  last = last ∙ ap (λ (s : ReaderState). s.last) on.state;
  last_bytes = bytes ∙ ap (λ (s : ReaderState). s.last_bytes) on.state;
  kept = ap (λ xs. prepend_known xs after.left) waiting ∙ on.come;
}

-- waiting bytes that are too many for a line stay so with what is to come behind them
too_long_before : (limit : ℕ) (waiting : List ℕ) (known : Option (List ℕ)) → IsTooLong limit waiting → IfSome (prepend_known waiting known) (IsTooLong limit)
too_long_before limit waiting None h = tt
too_long_before limit waiting (Some rest) h = record {
  more = omega (arith, length-append waiting rest, h.more);
  no_lf = subst HasNoLf (sym (take-append-le (limit + 1) waiting rest (omega (arith, h.more)))) h.no_lf;
}

-- too many bytes wait with no LF
pub ends_too_long : (old now new : ReaderState) (before after : Told) (fault : ReadFault) → ReadsOn old now before after
    → IsTooLong now.limit now.waiting → fault ≡ LineTooLong (next_number now.number) → new ≡ record now { is_ended = true }
    → AnswersNext old new (to_come old before) (to_come new after) (Err fault)
ends_too_long old now new before after fault on long is ended =
    let number = ap (λ (s : ReaderState). s.number) on.state in
    let limit : now.limit ≡ old.limit = ap (λ (s : ReaderState). s.limit) on.state in
    rw is (
      gives_none old now new before after on (ap (λ (s : ReaderState). s.number) ended) (ap (λ (s : ReaderState). s.last) ended) (ap (λ (s : ReaderState). s.last_bytes) ended) (ap (λ (s : ReaderState). s.waiting) ended),
      record { numbered = ap next_number number; ended = (on.open_yet, ap (λ (s : ReaderState). s.is_ended) ended) },
      subst (λ n. IsTooLong n new.waiting) limit (subst (IsTooLong now.limit) (sym (ap (λ (s : ReaderState). s.waiting) ended)) long),
      subst (λ known. IfSome known (IsTooLong old.limit)) on.come (subst (λ n. IfSome (to_come now after) (IsTooLong n)) limit (too_long_before now.limit now.waiting after.left long)),
    )

-- a line whose LF stands past the limit
pub is_too_long_at : (limit place : ℕ) (waiting : List ℕ) → limit < place → IsFirstLf waiting place → IsTooLong limit waiting
is_too_long_at limit place waiting past lf = record {
  more = omega (arith, lf.within);
  no_lf = subst HasNoLf (take-take (limit + 1) place waiting (omega arith)) (All-take (λ byte. byte ≢ LF) (limit + 1) (take place waiting) lf.no_lf);
}

-- more bytes than the limit wait, and none is an LF
pub is_too_long : (limit : ℕ) (waiting : List ℕ) → limit < length waiting → HasNoLf waiting → IsTooLong limit waiting
is_too_long limit waiting more no_lf = record { more = more; no_lf = All-take (λ byte. byte ≢ LF) (limit + 1) waiting no_lf }

-- the answer at a cut
pub answers_cut : (old now new : ReaderState) (before after : Told) (place : ℕ) (result : Result (Option Line) ReadFault)
    → ReadsOn old now before after → IsFirstLf now.waiting place → Cuts now new place result
    → AnswersNext old new (to_come old before) (to_come new after) result
answers_cut old now new before after place (Ok None) on lf cut = absurd cut
answers_cut old now new before after place (Ok (Some line)) on lf cut = gives_line old now new before after place line on lf cut
answers_cut old now new before after place (Err fault) on lf cut =
    ends_too_long old now new before after fault on (is_too_long_at now.limit place now.waiting cut.0 lf) cut.1 cut.2

-- no waiting bytes leave a text that is at its end there
at_end_before : (known : Option (List ℕ)) → IsAtEnd known → IsAtEnd (prepend_known [] known)
at_end_before None h = tt
at_end_before (Some xs) h = h

-- waiting bytes with no LF are the whole text where nothing comes behind them
cut_off_before : (limit : ℕ) (waiting : List ℕ) (known : Option (List ℕ)) → IsAtEnd known → IsCutOff limit waiting
    → IfSome (prepend_known waiting known) (IsCutOff limit)
cut_off_before limit waiting None e h = tt
cut_off_before limit waiting (Some xs) e h = subst (IsCutOff limit) (sym (append-nil waiting) ∙ ap (λ ys. waiting ++ ys) (sym e)) h

-- the answer at the end of the input
pub answers_end : (old now new : ReaderState) (before after : Told) (result : Result (Option Line) ReadFault) → ReadsOn old now before after
    → IsAtEnd after.left → HasNoLf now.waiting → length now.waiting ≤ now.limit → EndsInput now new result
    → AnswersNext old new (to_come old before) (to_come new after) result
answers_end old now new before after (Ok line) on end no_lf fits h =
    let none = gives_none old now new before after on (ap (λ (s : ReaderState). s.number) h.2) (ap (λ (s : ReaderState). s.last) h.2) (ap (λ (s : ReaderState). s.last_bytes) h.2) (ap (λ (s : ReaderState). s.waiting) h.2) in
    rw h.0 (
      none,
      ap (λ (s : ReaderState). s.is_ended) h.2 ∙ ap (λ (s : ReaderState). s.is_ended) on.state,
      λ yet. (ap (λ (s : ReaderState). s.waiting) h.2 ∙ h.1, subst IsAtEnd on.come (subst (λ xs. IsAtEnd (prepend_known xs after.left)) (sym h.1) (at_end_before after.left end))),
    )
answers_end old now new before after (Err fault) on end no_lf fits h =
    let number = ap (λ (s : ReaderState). s.number) on.state in
    let limit : now.limit ≡ old.limit = ap (λ (s : ReaderState). s.limit) on.state in
    let off : IsCutOff now.limit now.waiting = record { some = h.0; fits = fits; no_lf = no_lf } in
    rw h.1 (
      gives_none old now new before after on (ap (λ (s : ReaderState). s.number) h.2) (ap (λ (s : ReaderState). s.last) h.2) (ap (λ (s : ReaderState). s.last_bytes) h.2) (ap (λ (s : ReaderState). s.waiting) h.2),
      record { numbered = ap next_number number; ended = (on.open_yet, ap (λ (s : ReaderState). s.is_ended) h.2) },
      subst (λ n. IsCutOff n new.waiting) limit (subst (IsCutOff now.limit) (sym (ap (λ (s : ReaderState). s.waiting) h.2)) off),
      subst (λ known. IfSome known (IsCutOff old.limit)) on.come (subst (λ n. IfSome (to_come now after) (IsCutOff n)) limit (cut_off_before now.limit now.waiting after.left end off)),
    )

-- the answer where the device failed
pub answers_device : (old now new : ReaderState) (before mid after : Told) (e : Failed) → ReadsOn old now before mid
    → Refills now new mid after (Err e) → AnswersNext old new (to_come old before) (to_come new after) (Err Device)
answers_device old now new before mid after e on more =
    let state : new ≡ with_waiting old new.waiting = more.state ∙ ap (λ (s : ReaderState). record s { waiting = new.waiting }) on.state in (
      record {
        number = ap (λ (s : ReaderState). s.number) state;
        last = ap (λ (s : ReaderState). s.last) state;
        last_bytes = ap (λ (s : ReaderState). s.last_bytes) state;
        kept = more.kept ∙ on.come;
      },
      on.open_yet,
      ap (λ (s : ReaderState). s.is_ended) state ∙ on.open_yet,
    )

-- a cut reads nothing, and names no device
pub counts_cut : (now new : ReaderState) (place : ℕ) (result : Result (Option Line) ReadFault) (old count : ℕ) → Cuts now new place result
    → count ≡ old → CountsReads result old count
counts_cut now new place (Ok line) old count cut same = same
counts_cut now new place (Err fault) old count cut same = rw cut.1 same

-- the end of the input names no device
pub counts_end : (now new : ReaderState) (result : Result (Option Line) ReadFault) (old count : ℕ) → EndsInput now new result → count ≡ old
    → CountsReads result old count
counts_end now new (Ok line) old count end same = same
counts_end now new (Err fault) old count end same = rw end.1 same

-- a reader that gives nothing more holds no line
pub ended_holds_none : {A : Type 0} (reader : ReaderState) → reader.is_ended ≡ true → holds_line reader ≡ true → A
ended_holds_none reader ended held =
    let none : holds_line reader ≡ false = rw ended refl in
    let clash : true ≡ false = sym held ∙ none in cc

-- a reader whose waiting bytes are few and have no LF holds no line
not_held : (reader : ReaderState) → HasNoLf reader.waiting → length reader.waiting ≤ reader.limit → holds_line reader ≡ false
not_held reader none few =
    let short : nat_lt reader.limit (length reader.waiting) ≡ false = grind (arith, nat_tests) in
    let no_lf : list_any (λ byte. byte == LF) reader.waiting ≡ false = no_lf_passes reader.waiting none in
    rw (short, no_lf) (elim reader.is_ended as (λ b. (not b && false) ≡ false) [ true ↦ refl | false ↦ refl ])

-- nor does it after a read that failed
pub still_not_held : (now new : ReaderState) (before after : Told) (past : Bool) (e : Failed) → HasNoLf now.waiting → past ≡ false
    → (IsTrue past ↔ (now.limit < length now.waiting)) → Refills now new before after (Err e) → holds_line new ≡ false
still_not_held now new before after past e none short is refills =
    let same : new ≡ now = refills.state ∙ ap (with_waiting now) refills.grown in
    let few : now.limit < length now.waiting → ⊥ = λ long. let clash : true ≡ false = sym (is.1 long) ∙ short in cc in
    ap holds_line same ∙ not_held now none (grind arith)

-- a search that found nothing leaves no LF
pub none_found : (bytes : List ℕ) (found : Option ℕ) → MatchOption found (HasNoLf bytes) (IsFirstLf bytes) → ((place : ℕ) → found ≡ Some place → ⊥)
    → HasNoLf bytes
none_found bytes None none not_some = none
none_found bytes (Some place) lf not_some = absurd (not_some place refl)

-- a reader that holds a line needs no read for it: what follows where none is found
pub held_is_found : {A D : Type 0} (old now : ReaderState) (first desk : D) (past : Bool) → (holds_line old ≡ true → (desk ≡ first) × (now ≡ old))
    → HasNoLf now.waiting
    → past ≡ false → (IsTrue past ↔ (now.limit < length now.waiting)) → holds_line old ≡ true → A
held_is_found old now first desk past same none short is held =
    let few : now.limit < length now.waiting → ⊥ = λ long. let clash : true ≡ false = sym (is.1 long) ∙ short in cc in
    let clash : true ≡ false = sym (ap holds_line (same held).1 ∙ held) ∙ not_held now none (grind arith) in cc

-- one read more, at the slot of the reader that the call began with
pub reads_once_more : (old now new : ReaderState) (first mid last : Slot → Told) (count : ℕ) → ReadsOn old now (first old.slot) (mid old.slot)
    → Refills now new (mid now.slot) (last now.slot) (Ok count)
    → (last now.slot).failed_reads ≡ (mid now.slot).failed_reads → ChangesReads (mid now.slot) (last now.slot) → ReadsOn old new (first old.slot) (last old.slot)
reads_once_more old now new first mid last count on more counts rest =
    let slot : now.slot ≡ old.slot = ap (λ (s : ReaderState). s.slot) on.state in
    ReadsOn-more old now new (first old.slot) (mid old.slot) (last old.slot) (Ok count) on
    (subst (λ s. Refills now new (mid s) (last s) (Ok count)) slot more)
    (subst (λ s. (last s).failed_reads ≡ (mid s).failed_reads) slot counts)
    (subst (λ s. ChangesReads (mid s) (last s)) slot rest)

-- the slots that are not read are as they were
pub others_once_more : (old now new : ReaderState) (first mid last : Slot → Told) → now ≡ with_waiting old now.waiting
    → ChangesOnly old.slot first mid → ChangesOnly now.slot mid last → ChangesOnly old.slot first last
others_once_more old now new first mid last is before more =
    let slot : now.slot ≡ old.slot = ap (λ (s : ReaderState). s.slot) is in
    λ other ne. subst (λ s. ChangesOnly s mid last) slot more other ne ∙ before other ne

-- a cut gives a line, or the fault of one that has too many bytes
pub cut_is_line_or_long : (now new : ReaderState) (place : ℕ) (result : Result (Option Line) ReadFault) → Cuts now new place result → IsLineOrLong result
cut_is_line_or_long now new place (Ok None) cut = cut
cut_is_line_or_long now new place (Ok (Some line)) cut = tt
cut_is_line_or_long now new place (Err fault) cut = rw cut.1 tt
