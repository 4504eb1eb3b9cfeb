-- What is kept of the declared expiries, after one more expiry and after one more strike.
use Rattle.std.proofs.Common.{◌≡◌, ◌∙◌, sym, ap, subst, refl, ◌<◌, ◌+◌, ℕ, zero, suc, Bool, true, false, cond, ◌||◌, List, [], ◌∷◌, ◌++◌, map, length, take, drop, get_or, set, Option, Some, None, pos, arith}
use Rattle.std.specs.List.{list_any, find}
use Rattle.std.specs.Option.{option_map_or}
use Rattle.std.proofs.lemmas.List.{append-nil, drop_all, take_all}
use Rattle.vx_clock.specs.declared.terms.Expiry.{Expiry}
use Rattle.vx_clock.specs.declared.terms.Root.TheVariants.{Spx}
use Rattle.vx_feed.specs.declared.order.Declared.{Declared}
use Rattle.vx_feed.specs.Same.{is_same_expiry}
use Rattle.vx_feed.specs.Noted.{keeps, kept_expiry, kept_strikes, with_one_more}
use Rattle.vx_feed.proofs.SameLemmas.{expiry_from_same}

abbrev strikes_in : Option Declared → ℕ
strikes_in o = option_map_or (λ (d : Declared). d.strikes) o 0

pub any-kept : (x : Expiry) (ds : List Declared) → list_any (keeps x) ds ≡ list_any (is_same_expiry x) (map kept_expiry ds)
any-kept x [] = refl
any-kept x (d ∷ ds) = ap (λ b. keeps x d || b) (any-kept x ds)

-- an expiry without a strike at the end changes no count
pub kept-push : (x y : Expiry) (ds : List Declared) → kept_strikes x (ds ++ record { expiry = y; strikes = 0 } ∷ []) ≡ kept_strikes x ds
kept-push x y [] =
    let new : Declared = record { expiry = y; strikes = 0 } in
    elim (keeps x new) as (λ b. strikes_in (cond b (Some new) None) ≡ 0) [ true ↦ refl | false ↦ refl ]
kept-push x y (d ∷ ds) =
    let new : Declared = record { expiry = y; strikes = 0 } in
    elim (keeps x d) as (λ b. strikes_in (cond b (Some d) (find (keeps x) (ds ++ new ∷ []))) ≡ strikes_in (cond b (Some d) (find (keeps x) ds)))
    [ true ↦ refl | false ↦ kept-push x y ds ]

abbrev one_more : Declared → Declared
one_more d = record d { strikes = d.strikes + 1 }

pub expiries-one_more : (x : Expiry) (ds : List Declared) → map kept_expiry (with_one_more x ds) ≡ map kept_expiry ds
expiries-one_more x [] = refl
expiries-one_more x (d ∷ ds) =
    elim (keeps x d) as (λ b. map kept_expiry (cond b (one_more d ∷ ds) (d ∷ with_one_more x ds)) ≡ d.expiry ∷ map kept_expiry ds)
    [ true ↦ refl | false ↦ ap (λ l. d.expiry ∷ l) (expiries-one_more x ds) ]

-- the expiry has one strike more
same_step : (x : Expiry) (d : Declared) (ds : List Declared) (b : Bool) → keeps x d ≡ b
    → (list_any (keeps x) ds ≡ true → kept_strikes x (with_one_more x ds) ≡ kept_strikes x ds + 1)
    → (b || list_any (keeps x) ds) ≡ true
    → kept_strikes x (cond b (one_more d ∷ ds) (d ∷ with_one_more x ds)) ≡ strikes_in (cond b (Some d) (find (keeps x) ds)) + 1
same_step x d ds true is more h = ap (λ b. strikes_in (cond b (Some (one_more d)) (find (keeps x) ds))) is
same_step x d ds false is more h = ap (λ b. strikes_in (cond b (Some d) (find (keeps x) (with_one_more x ds)))) is ∙ more h

pub kept-one_more : (x : Expiry) (ds : List Declared) → list_any (keeps x) ds ≡ true → kept_strikes x (with_one_more x ds) ≡ kept_strikes x ds + 1
kept-one_more x [] h = cc
kept-one_more x (d ∷ ds) h = same_step x d ds (keeps x d) refl (kept-one_more x ds) h

-- every other expiry has as many
other_head : (x y : Expiry) (d : Declared) → is_same_expiry x y ≡ false → keeps y d ≡ true → keeps x d ≡ false
other_head x y d apart is = let P : Expiry → Type 0 = λ z. is_same_expiry x z ≡ false in subst P (expiry_from_same y d.expiry is) apart

other_step : (x y : Expiry) (d : Declared) (ds : List Declared) (b : Bool) → is_same_expiry x y ≡ false → keeps y d ≡ b
    → kept_strikes x (with_one_more y ds) ≡ kept_strikes x ds
    → kept_strikes x (cond b (one_more d ∷ ds) (d ∷ with_one_more y ds)) ≡ kept_strikes x (d ∷ ds)
other_step x y d ds true apart is more =
    let skips = other_head x y d apart is in
    ap (λ b. strikes_in (cond b (Some (one_more d)) (find (keeps x) ds))) skips ∙ sym (ap (λ b. strikes_in (cond b (Some d) (find (keeps x) ds))) skips)
other_step x y d ds false apart is more =
    elim (keeps x d) as (λ b. strikes_in (cond b (Some d) (find (keeps x) (with_one_more y ds))) ≡ strikes_in (cond b (Some d) (find (keeps x) ds)))
    [ true ↦ refl | false ↦ more ]

pub kept-one_more_other : (x y : Expiry) (ds : List Declared) → is_same_expiry x y ≡ false → kept_strikes x (with_one_more y ds) ≡ kept_strikes x ds
kept-one_more_other x y [] apart = refl
kept-one_more_other x y (d ∷ ds) apart = other_step x y d ds (keeps y d) apart refl (kept-one_more_other x y ds apart)

-- ---- the first that is kept of an expiry, by its place

tail_none : (b c : Bool) → (b || c) ≡ false → c ≡ false
tail_none true c h = cc
tail_none false c h = h

head_none : (b c : Bool) → (b || c) ≡ false → b ≡ false
head_none true c h = cc
head_none false c h = refl

pub strikes_at_first : (x : Expiry) (ds : List Declared) (i : ℕ) (d : Declared) → i < length ds
    → list_any (keeps x) (take i ds) ≡ false → keeps x (get_or ds i d) ≡ true → kept_strikes x ds ≡ (get_or ds i d).strikes
strikes_at_first x [] i d lt none here = absurd (omega arith)
strikes_at_first x (e ∷ ds) zero d lt none here = ap (λ b. strikes_in (cond b (Some e) (find (keeps x) ds))) here
strikes_at_first x (e ∷ ds) (suc i) d lt none here =
    ap (λ b. strikes_in (cond b (Some e) (find (keeps x) ds))) (head_none (keeps x e) (list_any (keeps x) (take i ds)) none)
    ∙ strikes_at_first x ds i d (omega arith) (tail_none (keeps x e) (list_any (keeps x) (take i ds)) none) here

pub one_more_at_first : (x : Expiry) (ds : List Declared) (i : ℕ) (d : Declared) → i < length ds
    → list_any (keeps x) (take i ds) ≡ false → keeps x (get_or ds i d) ≡ true → set ds i (one_more (get_or ds i d)) ≡ with_one_more x ds
one_more_at_first x [] i d lt none here = absurd (omega arith)
one_more_at_first x (e ∷ ds) zero d lt none here = sym (ap (λ b. cond b (one_more e ∷ ds) (e ∷ with_one_more x ds)) here)
one_more_at_first x (e ∷ ds) (suc i) d lt none here =
    ap (λ l. e ∷ l) (one_more_at_first x ds i d (omega arith) (tail_none (keeps x e) (list_any (keeps x) (take i ds)) none) here)
    ∙ sym (ap (λ b. cond b (one_more e ∷ ds) (e ∷ with_one_more x ds)) (head_none (keeps x e) (list_any (keeps x) (take i ds)) none))

pub one_more_of_none : (x : Expiry) (ds : List Declared) → list_any (keeps x) ds ≡ false → with_one_more x ds ≡ ds
one_more_of_none x [] none = refl
one_more_of_none x (e ∷ ds) none =
    ap (λ b. cond b (one_more e ∷ ds) (e ∷ with_one_more x ds)) (head_none (keeps x e) (list_any (keeps x) ds) none)
    ∙ ap (λ l. e ∷ l) (one_more_of_none x ds (tail_none (keeps x e) (list_any (keeps x) ds) none))

-- an element that the list does not have, in place of one past its end
abbrev pub no_declared : Declared
no_declared = record { expiry = record { root = Spx; date = record { 0 = pos 0 } }; strikes = 0 }

-- a list written back into one of the same length
pub written_back : {X : Type 0} (n : ℕ) (new old : List X) → length old ≡ n → length new ≡ length old → take n (new ++ drop (length new) old) ≡ new
written_back n new old fits same =
    let none : drop (length new) old ≡ [] = drop_all (length new) old (omega arith) in
    ap (λ l. take n (new ++ l)) none ∙ ap (take n) (append-nil new) ∙ take_all n new (omega arith)
