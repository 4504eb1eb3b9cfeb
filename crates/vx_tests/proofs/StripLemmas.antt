-- The stated rows are the strip where their strikes and prices are those of the selected rows and their widths are those between
-- their own neighbours.
use Rattle.std.proofs.Common.{◌≡◌, ◌≢◌, ◌↔◌, ◌&&◌, ℕ, ◌+◌, ◌<◌, ◌≤◌, Bool, true, false, List, [], ◌∷◌, map, drop, length, get_or, slice_get, Option, Some, refl, sym, ◌∙◌, ap, subst, inl, inr, length-drop, arith}
use Rattle.std.proofs.lemmas.List.{drop_more, drop_all, get_or_default}
use Rattle.std.proofs.lemmas.Option.{slice_get-get_or, same_Some}
use Rattle.std.specs.List.{filter}
use Rattle.std.proofs.lemmas.Bool.{cond-true, cond-false, cases_lt}
use Rattle.vx_symbol.specs.declared.rows.StrikeRow.{StrikeRow}
use Rattle.vx_cert.specs.declared.rows.CertRow.{CertRow}
use Rattle.vx_formula.specs.Level.{StrikesRise, strike_at}
use Rattle.vx_formula.specs.Strip.{StripEntry, doubled_width, strip_price, first_strike, entries_after, strip}
use Rattle.vx_formula.proofs.Walks.{no_row, at_place, one_at_strike, strike_at_is}
use Rattle.vx_claims.specs.TermTests.{stated_entry, IsStatedStrip}
use Rattle.vx_tests.specs.Stated.{Priced, HasSides, stated_price, strip_price_of, first_stated, AreWidths}

-- the prices of stated rows are those of selected rows
abbrev pub AreSame : ℕ → List CertRow → List StrikeRow → Type 0
AreSame level stated selected = map stated_price stated ≡ map (strip_price_of level) selected

priced : ℕ → ℕ → Priced
priced strike q4 = record { strike = strike; q4 = q4 }

entry : ℕ → ℕ → ℕ → StripEntry
entry strike d q4 = record { strike = strike; d = d; q4 = q4 }

same_first : (level : ℕ) (stated : List CertRow) (selected : List StrikeRow) → AreSame level stated selected → first_stated stated ≡ first_strike selected
same_first level [] [] e = refl
same_first level [] (row ∷ rows) e = absurd cc
same_first level (s ∷ ss) [] e = absurd cc
same_first level (s ∷ ss) (row ∷ rows) e = let head : stated_price s ≡ strip_price_of level row = cc in ap (λ (p : Priced). Some p.strike) head

pub parts_of_strip : (level : ℕ) (below : Option ℕ) (stated : List CertRow) (selected : List StrikeRow)
    → map stated_entry stated ≡ entries_after level below selected → AreSame level stated selected × AreWidths below stated
unfolding priced
parts_of_strip level below [] [] e = (refl, tt)
parts_of_strip level below [] (row ∷ rows) e = absurd cc
parts_of_strip level below (s ∷ ss) [] e = absurd cc
parts_of_strip level below (s ∷ ss) (row ∷ rows) e =
    let head : stated_entry s ≡ record { strike = row.strike; d = doubled_width below row.strike (first_strike rows); q4 = strip_price level row } = cc in
    let tail : map stated_entry ss ≡ entries_after level (Some row.strike) rows = cc in
    let strike : s.strike ≡ row.strike = ap (λ (x : StripEntry). x.strike) head in
    let d : s.d ≡ doubled_width below row.strike (first_strike rows) = ap (λ (x : StripEntry). x.d) head in
    let q4 : s.q4 ≡ strip_price level row = ap (λ (x : StripEntry). x.q4) head in
    let rest = parts_of_strip level (Some row.strike) ss rows tail in
    let first = same_first level ss rows rest.0 in
    let here : stated_price s ≡ strip_price_of level row = ap (λ k. priced k s.q4) strike ∙ ap (priced row.strike) q4 in (
      ap (λ p. p ∷ map stated_price ss) here ∙ ap (λ ps. strip_price_of level row ∷ ps) rest.0,
      (
        d ∙ sym (ap (λ k. doubled_width below k (first_stated ss)) strike ∙ ap (doubled_width below row.strike) first),
        subst (λ k. AreWidths (Some k) ss) (sym strike) rest.1,
      ),
    )

pub strip_of_parts : (level : ℕ) (below : Option ℕ) (stated : List CertRow) (selected : List StrikeRow)
    → AreSame level stated selected → AreWidths below stated → map stated_entry stated ≡ entries_after level below selected
unfolding entry
strip_of_parts level below [] [] e w = refl
strip_of_parts level below [] (row ∷ rows) e w = absurd cc
strip_of_parts level below (s ∷ ss) [] e w = absurd cc
strip_of_parts level below (s ∷ ss) (row ∷ rows) e w =
    let head : stated_price s ≡ strip_price_of level row = cc in
    let tail : AreSame level ss rows = cc in
    let strike : s.strike ≡ row.strike = ap (λ (p : Priced). p.strike) head in
    let q4 : s.q4 ≡ strip_price level row = ap (λ (p : Priced). p.q4) head in
    let first = same_first level ss rows tail in
    let d : s.d ≡ doubled_width below row.strike (first_strike rows) = w.0 ∙ ap (λ k. doubled_width below k (first_stated ss)) strike ∙ ap (doubled_width below row.strike) first in
    let rest = strip_of_parts level (Some row.strike) ss rows tail (subst (λ k. AreWidths (Some k) ss) strike w.1) in
    ap (λ k. entry k s.d s.q4 ∷ map stated_entry ss) strike
    ∙ ap (λ width. entry row.strike width s.q4 ∷ map stated_entry ss) d
    ∙ ap (λ price. entry row.strike (doubled_width below row.strike (first_strike rows)) price ∷ map stated_entry ss) q4
    ∙ ap (λ es. entry row.strike (doubled_width below row.strike (first_strike rows)) (strip_price level row) ∷ es) rest

-- ---- a walk over both lists

same_cons : (level : ℕ) (s : CertRow) (ss : List CertRow) (row : StrikeRow) (rows : List StrikeRow) → stated_price s ≡ strip_price_of level row
    → AreSame level (s ∷ ss) (row ∷ rows) ↔ AreSame level ss rows
same_cons level s ss row rows here = (λ e. cc, λ e. cc)

module _ (p : StrikeRow → Bool) (level : ℕ) (rows : List StrikeRow) (place : ℕ) (r : StrikeRow) (there : place < length rows) (stated : List CertRow) (next : ℕ) where
  here : StrikeRow
  here = get_or rows place r

  split : drop place rows ≡ here ∷ drop (place + 1) rows
  unfolding here
  split = drop_more rows place r there

  -- a row that is not selected
  pub skipped : p (get_or rows place r) ≡ false → filter p (drop place rows) ≡ filter p (drop (place + 1) rows)
  unfolding here
  skipped fails = ap (filter p) split ∙ cond-false (p here) (here ∷ filter p (drop (place + 1) rows)) (filter p (drop (place + 1) rows)) fails

  chosen : p (get_or rows place r) ≡ true → filter p (drop place rows) ≡ get_or rows place r ∷ filter p (drop (place + 1) rows)
  unfolding here
  chosen passes = ap (filter p) split ∙ cond-true (p here) (here ∷ filter p (drop (place + 1) rows)) (filter p (drop (place + 1) rows)) passes

  -- a selected row that the next stated one matches
  pub matched : (s : CertRow) → p (get_or rows place r) ≡ true → next < length stated → stated_price (get_or stated next s) ≡ strip_price_of level (get_or rows place r)
      → AreSame level (drop next stated) (filter p (drop place rows)) ↔ AreSame level (drop (next + 1) stated) (filter p (drop (place + 1) rows))
  matched s passes within same =
      let rest = filter p (drop (place + 1) rows) in
      let f = chosen passes in
      let d : drop next stated ≡ get_or stated next s ∷ drop (next + 1) stated = drop_more stated next s within in
      let both = same_cons level (get_or stated next s) (drop (next + 1) stated) (get_or rows place r) rest same in (
        λ e. both.0 (sym (ap (map stated_price) d) ∙ e ∙ ap (map (strip_price_of level)) f),
        λ e. ap (map stated_price) d ∙ both.1 e ∙ sym (ap (map (strip_price_of level)) f),
      )

  -- and one that it does not match, or that none is left for
  pub mismatched : (s : CertRow) → p (get_or rows place r) ≡ true → (next < length stated → stated_price (get_or stated next s) ≢ strip_price_of level (get_or rows place r))
      → AreSame level (drop next stated) (filter p (drop place rows)) → ⊥
  mismatched s passes other e =
      let right = ap (map (strip_price_of level)) (chosen passes) in
      elim (cases_lt next (length stated)) [
        | inl within ↦ (
            let d : drop next stated ≡ get_or stated next s ∷ drop (next + 1) stated = drop_more stated next s within in
            let eq : stated_price (get_or stated next s) ∷ map stated_price (drop (next + 1) stated)
            ≡ strip_price_of level (get_or rows place r) ∷ map (strip_price_of level) (filter p (drop (place + 1) rows)) = sym (ap (map stated_price) d) ∙ e ∙ right in
            let head : stated_price (get_or stated next s) ≡ strip_price_of level (get_or rows place r) = cc in
            other within head
            )
        | inr past ↦ (
            let d : drop next stated ≡ [] = drop_all next stated past in
            let eq : map stated_price [] ≡ strip_price_of level (get_or rows place r) ∷ map (strip_price_of level) (filter p (drop (place + 1) rows)) = sym (ap (map stated_price) d) ∙ e ∙ right in
            absurd (cc)
            )
      ]

-- at the end of the rows none of the stated ones may be left
pub same_as_no_row : (level : ℕ) (stated : List CertRow) (next : ℕ) → next ≤ length stated → AreSame level (drop next stated) [] ↔ (next ≡ length stated)
same_as_no_row level stated next within = (
  λ e. elim (cases_lt next (length stated)) [ inl less ↦ absurd (longer (drop next stated) e (omega (arith, length-drop next stated))) | inr past ↦ omega arith ],
  λ e. ap (map stated_price) (drop_all next stated (omega arith)),
) where
  longer : (left : List CertRow) → map stated_price left ≡ [] → 0 < length left → ⊥
  longer [] eq some = omega arith
  longer (t ∷ ts) eq some = absurd cc

-- ---- the level's own row

module _ (rows : List StrikeRow) (level k0 : ℕ) (stated : List CertRow) (rise : StrikesRise rows) (listed : level < length rows) (at : strike_at rows level ≡ k0) where
  own : StrikeRow
  own = get_or rows level no_row

  own_is : slice_get rows level ≡ Some own
  unfolding own
  own_is = slice_get-get_or rows level no_row listed

  own_strike : own.strike ≡ k0
  own_strike = sym (strike_at_is rows level own own_is) ∙ at

  -- a row of the level's strike is the level's
  only_row : (k : ℕ) (row : StrikeRow) → slice_get rows k ≡ Some row → row.strike ≡ k0 → row ≡ own
  only_row k row is same =
      let here : k ≡ level = one_at_strike rows k level row own rise is own_is (same ∙ sym own_strike) in
      same_Some row own (sym is ∙ ap (slice_get rows) here ∙ own_is)

  pub strip_stated : HasSides (get_or rows level no_row) k0 stated → map stated_entry stated ≡ strip rows (strike_at rows level) → IsStatedStrip rows k0 stated
  unfolding own
  strip_stated sides e = record {
    is_strip = subst (λ (k : ℕ). map stated_entry stated ≡ strip rows k) at e;
    has_money = (level, get_or rows level no_row, listed, get_or_default rows level (get_or rows level no_row) no_row listed, (own_strike, sides.money));
    has_put = sides.has_put;
    has_call = sides.has_call;
  }

  pub sides_stated : IsStatedStrip rows k0 stated → HasSides (get_or rows level no_row) k0 stated
  unfolding own
  sides_stated h =
      let found = h.has_money in
      let same = only_row found.0 found.1 (at_place rows found.0 found.1 found.2 found.3) found.4.0 in
      record {
        money = subst (λ (row : StrikeRow). row.put.there && row.call.there ≡ true) same found.4.1;
        has_put = h.has_put;
        has_call = h.has_call;
      }

  pub entries_stated : IsStatedStrip rows k0 stated → map stated_entry stated ≡ strip rows (strike_at rows level)
  entries_stated h = subst (λ (k : ℕ). map stated_entry stated ≡ strip rows k) (sym at) h.is_strip

pub at_the_end : (p : StrikeRow → Bool) (level : ℕ) (rows : List StrikeRow) (place : ℕ) (stated : List CertRow) (next : ℕ) → length rows ≤ place → next ≤ length stated
    → AreSame level (drop next stated) (filter p (drop place rows)) ↔ (next ≡ length stated)
at_the_end p level rows place stated next past within =
    let none : filter p (drop place rows) ≡ [] = ap (filter p) (drop_all place rows past) in
    let both = same_as_no_row level stated next within in
    (λ e. both.0 (e ∙ ap (map (strip_price_of level)) none), λ e. both.1 e ∙ sym (ap (map (strip_price_of level)) none))
