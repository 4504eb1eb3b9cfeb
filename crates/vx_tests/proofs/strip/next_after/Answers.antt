use Rattle.std.proofs.Common.{◌≡◌, ℕ, ◌<◌, Bool, false, true, map, length, get_or, sym, ◌∙◌, ap, subst, arith}
use Rattle.std.proofs.lemmas.Option.{slice_get-get_or}
use Rattle.vx_cert.specs.declared.rows.CertRow.{CertRow}
use Rattle.vx_formula.specs.Level.{strike_at}
use Rattle.vx_formula.specs.Selection.{is_selected}
use Rattle.vx_formula.proofs.Walks.{no_row, strike_at_is}
use Rattle.vx_tests.specs.Stated.{stated_price, strip_price_of}
use Rattle.vx_tests.proofs.StripLemmas.{skipped, matched, mismatched}
use Rattle.vx_tests.proofs.strip.next_after.Goals as goal
use Rattle.vx_tests.proofs.strip.next_after.Goals.{else-next-stated-via-then-next-stated+else-is_priced, else-next-stated-via-else-next-stated}

abbrev no_stated : CertRow
no_stated = record { strike = 0; d = 0; q4 = 0; lo = 0; hi = 0 }

pub returns-then-not-is_taken-clause-step : goal.returns-then-not-is_taken-clause-step
returns-then-not-is_taken-clause-step c = λ rise.
    let rows = c.args.rows.now in
    let place = c.args.place in
    let level = strike_at rows c.args.reach.level in
    let p = is_selected rows level in
    let fails : p (get_or rows place no_row) ≡ false =
    sym (c.is_taken.ensures rise (get_or rows place no_row) (slice_get-get_or rows place no_row c.requires.there)) ∙ c.if-not-is_taken.true in
    let same = ap (map (strip_price_of level)) (skipped p level rows place no_row c.requires.there c.args.stated.now c.args.next fails) in
    (λ e. e ∙ same, λ e. e ∙ sym same)

pub returns-then-is_priced-clause-step : goal.returns-then-is_priced-clause-step
returns-then-is_priced-clause-step c = λ rise.
    let rows = c.args.rows.now in
    let stated = c.args.stated.now in
    let place = c.args.place in
    let next = c.args.next in
    let at = c.args.reach.level in
    let level = strike_at rows at in
    let p = is_selected rows level in
    let passes : p (get_or rows place no_row) ≡ true =
    sym (c.is_taken.ensures rise (get_or rows place no_row) (slice_get-get_or rows place no_row c.requires.there)) ∙ c.if-not-is_taken.false in
    let strike : level ≡ (get_or rows at no_row).strike = strike_at_is rows at (get_or rows at no_row) (slice_get-get_or rows at no_row c.requires.listed) in
    let Priced : ℕ → Type 0 = λ k. stated_price (get_or stated next no_stated) ≡ strip_price_of k (get_or rows place no_row) in
    let priced : Priced level = subst Priced (sym strike) (c.is_priced.ensures.0 c.if-is_priced.true) in
    matched p level rows place no_row c.requires.there stated next no_stated passes c.if-next-stated.true priced

pub returns-else-next-stated-clause-step : goal.returns-else-next-stated-clause-step
returns-else-next-stated-clause-step c = λ rise.
    let rows = c.args.rows.now in
    let stated = c.args.stated.now in
    let place = c.args.place in
    let next = c.args.next in
    let at = c.args.reach.level in
    let level = strike_at rows at in
    let p = is_selected rows level in
    let passes : p (get_or rows place no_row) ≡ true =
    sym (c.is_taken.ensures rise (get_or rows place no_row) (slice_get-get_or rows place no_row c.requires.there)) ∙ c.if-not-is_taken.false in
    let strike : level ≡ (get_or rows at no_row).strike = strike_at_is rows at (get_or rows at no_row) (slice_get-get_or rows at no_row c.requires.listed) in
    let Priced : ℕ → Type 0 = λ k. stated_price (get_or stated next no_stated) ≡ strip_price_of k (get_or rows place no_row) in
    let other : (next < length stated → Priced level → ⊥) = elim c.else-next-stated.branch [
      | else-next-stated-via-then-next-stated+else-is_priced w ↦ λ within priced. no (w.is_priced.ensures.1 (subst Priced strike priced)) w.if-is_priced.false
      | else-next-stated-via-else-next-stated w ↦ λ within priced. let past = w.if-next-stated.false in absurd (omega arith)
    ] in
    mismatched p level rows place no_row c.requires.there stated next no_stated passes other
  where
    no : {b : Bool} → b ≡ true → b ≡ false → ⊥
    no t f = let q : true ≡ false = sym t ∙ f in cc q
