-- Lines and their numbers: what stands behind a sign, and what a line of an undecided forward says.
use Rattle.std.proofs.Common.{ℕ, ◌≡◌, ◌≢◌, ◌≤◌, ◌<◌, ◌∙◌, ◌==◌, Bool, true, false, List, [], ◌∷◌, length, drop, slice_index, slice_index_or, codes}
use Rattle.std.proofs.Common.{if◌then◌else◌, map, Option, Some, None, MatchOption, Bor, unwrap_or, inl, inr, arith, ap, refl, sym}
use Rattle.std.proofs.Math.ListN.{get_or-map}
use Rattle.std.proofs.lemmas.List.{length-map}
use Rattle.std.proofs.lemmas.Bool.Decides.{nat_tests}
use Rattle.vx_num.specs.Decimal.{is_minus}
use Rattle.vixplot.specs.declared.answer.Line.{Line}
use Rattle.vixplot.specs.Lines.{SaysLine, LineText, nth_field, forward_answer, tick_line}

-- what stands behind a minus sign, where the text begins with one; else the text
pub unsigned_of : (text : List ℕ) (r : Option (Bor (List ℕ))) (whole : Bor (List ℕ)) → whole.now ≡ text
    → MatchOption r ((rest : List ℕ) → text ≢ 45 ∷ rest) (λ x. text ≡ 45 ∷ x.now)
    → (unwrap_or r whole).now ≡ (if is_minus (slice_index text 0) then drop 1 text else text)
unsigned_of text (Some x) whole same is = rw is refl
unsigned_of [] None whole same is = same
unsigned_of (b ∷ bs) None whole same is = by (b == 45) refl
  where
    by : (t : Bool) → (b == 45) ≡ t → whole.now ≡ (if t then bs else b ∷ bs)
    by false h = same
    by true h = absurd (is bs (ap (λ x. x ∷ bs) (grind (arith, nat_tests))))

-- the text at a place of a list of texts, which is empty past the end
abbrev pub text_at : List (Bor LineText) → ℕ → LineText
text_at fields i = (slice_index_or fields i (record { ref_ptr = (0, 0); now = [] })).now

text_of_field : (fields : List (Bor LineText)) (i : ℕ) → text_at fields i ≡ slice_index_or (map (λ x. x.now) fields) i []
text_of_field fields i = sym (get_or-map (λ x. x.now) fields i (record { ref_ptr = (0, 0); now = [] }))

-- a line of eight fields that tells an undecided forward says so
pub forward_said : (fields : List (Bor LineText)) (line : Option Line) → 8 ≤ length fields → length fields < 9
    → text_at fields 0 ≡ codes "UND" → text_at fields 3 ≡ codes "forward"
    → line ≡ tick_line (text_at fields 1) (text_at fields 2) (forward_answer (text_at fields 4) (text_at fields 5) (text_at fields 6) (text_at fields 7))
    → SaysLine (map (λ x. x.now) fields) line
forward_said fields line least most kind forward said =
    let texts = map (λ x. x.now) fields in
    let count : length texts ≡ length fields = length-map fields (λ x. x.now) in
    let at = λ (i : ℕ). text_of_field fields i in
    let answer : forward_answer (text_at fields 4) (text_at fields 5) (text_at fields 6) (text_at fields 7)
    ≡ forward_answer (nth_field texts 5) (nth_field texts 6) (nth_field texts 7) (nth_field texts 8) =
    ap (λ x. forward_answer x (text_at fields 5) (text_at fields 6) (text_at fields 7)) (at 4)
    ∙ ap (λ x. forward_answer (nth_field texts 5) x (text_at fields 6) (text_at fields 7)) (at 5)
    ∙ ap (λ x. forward_answer (nth_field texts 5) (nth_field texts 6) x (text_at fields 7)) (at 6)
    ∙ ap (λ x. forward_answer (nth_field texts 5) (nth_field texts 6) (nth_field texts 7) x) (at 7) in
    let told : line ≡ tick_line (nth_field texts 2) (nth_field texts 3) (forward_answer (nth_field texts 5) (nth_field texts 6) (nth_field texts 7) (nth_field texts 8)) =
    said ∙ ap (λ x. tick_line x (text_at fields 2) (forward_answer (text_at fields 4) (text_at fields 5) (text_at fields 6) (text_at fields 7))) (at 1)
    ∙ ap (λ x. tick_line (nth_field texts 2) x (forward_answer (text_at fields 4) (text_at fields 5) (text_at fields 6) (text_at fields 7))) (at 2)
    ∙ ap (tick_line (nth_field texts 2) (nth_field texts 3)) answer in
    record {
      figure = λ h. let other = h.0 in absurd (omega arith);
      cents = λ h same. let other = h.0 in absurd (omega arith);
      forward = λ h same. told;
      refusal = λ h. let other = h.0 in absurd (omega arith);
      counts = λ h. let other = h.0 in absurd (omega arith);
      other = λ none. absurd (none (inr (inr (inl ((omega arith, sym (at 0) ∙ kind), sym (at 3) ∙ forward)))));
    }
