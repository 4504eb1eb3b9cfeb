-- What is the same by its test is equal.
use Rattle.std.proofs.Common.{◌≡◌, ◌∙◌, sym, ap, refl, ℕ, ℤ, Bool, true, false, cond, ◌&&◌, ◌||◌, ◌==◌, List, [], ◌∷◌}
use Rattle.std.specs.List.{list_any}
use Rattle.std.specs.Ordering.{int_eq}
use Rattle.std.proofs.lemmas.Bool.{and_parts}
use Rattle.std.proofs.lemmas.Bool.Decides.{Decides-eqb, Decides-int_eq, Decides-like, same_from_decides}
use denote.Enum.Bare.{sameb}
use Rattle.vx_clock.specs.contracts.terms.Root as root
use Rattle.vx_symbol.specs.contracts.symbols.Side as side
use Rattle.vx_clock.specs.declared.days.DayNo.{DayNo}
use Rattle.vx_clock.specs.declared.terms.Root.{Root}
use Rattle.vx_clock.specs.declared.terms.Root.TheVariants.{Spx, Spxw}
use Rattle.vx_clock.specs.declared.terms.Expiry.{Expiry}
use Rattle.vx_symbol.specs.declared.symbols.Side.{Side}
use Rattle.vx_symbol.specs.declared.symbols.Side.TheVariants.{Call, Put}
use Rattle.vx_symbol.specs.declared.symbols.Symbol.{Symbol}
use Rattle.vx_feed.specs.Same.{is_same_root, is_same_day, is_same_expiry, is_same_side, is_same_series}

root_from_same : (a b : Root) → is_same_root a b ≡ true → a ≡ b
root_from_same Spx Spx h = refl
root_from_same Spx Spxw h = cc
root_from_same Spxw Spx h = cc
root_from_same Spxw Spxw h = refl

abbrev day_of_number : ℤ → DayNo
day_of_number z = record { 0 = z }

day_from_same : (a b : DayNo) → is_same_day a b ≡ true → a ≡ b
day_from_same a b h = ap day_of_number ((Decides-int_eq a.0 b.0).0 h)

abbrev expiry_at : Root → DayNo → Expiry
expiry_at r d = record { root = r; date = d }

pub expiry_from_same : (a b : Expiry) → is_same_expiry a b ≡ true → a ≡ b
expiry_from_same a b h =
    let parts = and_parts (is_same_root a.root b.root) (is_same_day a.date b.date) h in
    ap (λ r. expiry_at r a.date) (root_from_same a.root b.root parts.0) ∙ ap (expiry_at b.root) (day_from_same a.date b.date parts.1)

-- ---- the order of the two does not matter

root-sym : (a b : Root) → is_same_root a b ≡ is_same_root b a
root-sym Spx Spx = refl
root-sym Spx Spxw = refl
root-sym Spxw Spx = refl
root-sym Spxw Spxw = refl

side-sym : (a b : Side) → is_same_side a b ≡ is_same_side b a
side-sym Call Call = refl
side-sym Call Put = refl
side-sym Put Call = refl
side-sym Put Put = refl

int_eq-sym : (a b : ℤ) → int_eq a b ≡ int_eq b a
int_eq-sym a b =
    same_from_decides (int_eq a b) (int_eq b a) (Decides-int_eq a b)
    (Decides-like (int_eq b a) (λ e. sym e) (λ e. sym e) (Decides-int_eq b a))

pub eqb-sym : (a b : ℕ) → (a == b) ≡ (b == a)
eqb-sym a b = same_from_decides (a == b) (b == a) (Decides-eqb a b) (Decides-like (b == a) (λ e. sym e) (λ e. sym e) (Decides-eqb b a))

pub series-sym : (a b : Symbol) → is_same_series a b ≡ is_same_series b a
series-sym a b =
    ap (λ t. t && is_same_day a.date b.date && is_same_side a.side b.side && (a.strike == b.strike)) (root-sym a.root b.root)
    ∙ ap (λ t. is_same_root b.root a.root && t && is_same_side a.side b.side && (a.strike == b.strike)) (int_eq-sym (a.date).0 (b.date).0)
    ∙ ap (λ t. is_same_root b.root a.root && is_same_day b.date a.date && t && (a.strike == b.strike)) (side-sym a.side b.side)
    ∙ ap (λ t. is_same_root b.root a.root && is_same_day b.date a.date && is_same_side b.side a.side && t) (eqb-sym a.strike b.strike)

-- ---- the derived test of a series

root_by_type : (a b : Root) → sameb root.the_type a b ≡ is_same_root a b
root_by_type Spx Spx = refl
root_by_type Spx Spxw = refl
root_by_type Spxw Spx = refl
root_by_type Spxw Spxw = refl

side_by_type : (a b : Side) → sameb side.the_type a b ≡ is_same_side a b
side_by_type Call Call = refl
side_by_type Call Put = refl
side_by_type Put Call = refl
side_by_type Put Put = refl

and_grouped : (a b c d : Bool) → (a && (b && (c && d))) ≡ (((a && b) && c) && d)
and_grouped true true c d = refl
and_grouped true false c d = refl
and_grouped false b c d = refl

pub series_by_parts : (a b : Symbol)
    → (sameb root.the_type a.root b.root && (int_eq (a.date).0 (b.date).0 && (sameb side.the_type a.side b.side && (a.strike == b.strike)))) ≡ is_same_series a b
series_by_parts a b =
    ap (λ t. t && (int_eq (a.date).0 (b.date).0 && (sameb side.the_type a.side b.side && (a.strike == b.strike)))) (root_by_type a.root b.root)
    ∙ ap (λ t. is_same_root a.root b.root && (int_eq (a.date).0 (b.date).0 && (t && (a.strike == b.strike)))) (side_by_type a.side b.side)
    ∙ and_grouped (is_same_root a.root b.root) (int_eq (a.date).0 (b.date).0) (is_same_side a.side b.side) (a.strike == b.strike)

any_same : (eq : Symbol → Symbol → Bool) → ((a b : Symbol) → eq a b ≡ is_same_series a b) → (q : Symbol) (ks : List Symbol)
    → list_any (eq q) ks ≡ list_any (is_same_series q) ks
any_same eq same q [] = refl
any_same eq same q (k ∷ ks) = ap (λ b. b || list_any (eq q) ks) (same q k) ∙ ap (λ b. is_same_series q k || b) (any_same eq same q ks)

-- what a set has by a test of series, by the definition of the same series
pub has_by_parts : (eq : Symbol → Symbol → Bool) → ((a b : Symbol) → eq a b ≡ is_same_series a b) → (has : Bool) (q : Symbol) (ks : List Symbol)
    → has ≡ list_any (eq q) ks → has ≡ list_any (is_same_series q) ks
has_by_parts eq same has q ks is = is ∙ any_same eq same q ks

pub inserted_by_parts : (eq : Symbol → Symbol → Bool) → ((a b : Symbol) → eq a b ≡ is_same_series a b) → (s : Symbol) (old new : List Symbol)
    → ((q : Symbol) → list_any (eq q) new ≡ cond (eq s q) true (list_any (eq q) old))
    → (q : Symbol) → list_any (is_same_series q) new ≡ cond (is_same_series s q) true (list_any (is_same_series q) old)
inserted_by_parts eq same s old new updates q =
    sym (any_same eq same q new) ∙ updates q ∙ ap (λ b. cond b true (list_any (eq q) old)) (same s q)
    ∙ ap (λ b. cond (is_same_series s q) true b) (any_same eq same q old)
