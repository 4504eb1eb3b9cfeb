-- Positions that net to nothing settle to nothing: one contract and last price after another is taken out.
use Rattle.std.proofs.Common.{◌≡◌, ℕ, zero, suc, ◌*◌, ◌≤◌, Bool, true, false, ◌&&◌, ℤ, pos, ◌+ℤ◌, ◌-ℤ◌, ◌*ℤ◌, List, [], ◌∷◌, length, sym, ap, ◌∙◌, refl, arith, if◌then◌else◌, eqb-true, eq-eqb}
use Rattle.std.specs.Prelude.{◌==◌}
use Rattle.std.proofs.lemmas.Int.{ints}
use Rattle.vx_num.proofs.Whole.{mul_add}
use Rattle.vx_settle.specs.declared.position.Contract.{Contract}
use Rattle.vx_settle.specs.declared.position.Contract.TheVariants.{Vx, Vxm}
use Rattle.vx_settle.specs.declared.position.Position.{Position}
use Rattle.vx_settle.specs.Amount.{AreAmounts, is_position_at, is_same_contract, net_quantity, sum_of_amounts}
use Rattle.vx_settle.specs.Position.{multiplier_of}

-- what one contract gains, in hundredths of a cent
abbrev gain_of : ℕ → Contract → ℕ → ℤ
gain_of figure contract last = (pos (100 * figure) -ℤ pos last) *ℤ pos (multiplier_of contract)

abbrev worth_of : ℕ → Position → ℤ
worth_of figure p = gain_of figure p.contract p.last *ℤ p.quantity

-- what positions gain together
abbrev worth_of_all : ℕ → List Position → ℤ
worth_of_all figure [] = pos 0
worth_of_all figure (p ∷ ps) = worth_of figure p +ℤ worth_of_all figure ps

hundredfold : (a total worth rest : ℤ) → pos 100 *ℤ a ≡ worth → pos 100 *ℤ total ≡ rest → pos 100 *ℤ (a +ℤ total) ≡ worth +ℤ rest
hundredfold a total worth rest e f = omega (arith, ints)

total_is_worth : (figure : ℕ) (ps : List Position) (amounts : List ℤ) → AreAmounts figure ps amounts → pos 100 *ℤ sum_of_amounts amounts ≡ worth_of_all figure ps
total_is_worth figure [] [] h = refl
total_is_worth figure [] (a ∷ amounts) h = absurd h
total_is_worth figure (p ∷ ps) [] h = absurd h
total_is_worth figure (p ∷ ps) (a ∷ amounts) h =
    hundredfold a (sum_of_amounts amounts) (worth_of figure p) (worth_of_all figure ps) h.0 (total_is_worth figure ps amounts h.1)

-- the positions that are not in a contract with a last price
abbrev others : Contract → ℕ → List Position → List Position
others contract last [] = []
others contract last (p ∷ ps) = if is_position_at contract last p then others contract last ps else p ∷ others contract last ps

others_shorter : (b : Bool) (p : Position) (os : List Position) (n : ℕ) → length os ≤ n → length (if b then os else p ∷ os) ≤ suc n
others_shorter true p os n h = omega arith
others_shorter false p os n h = omega arith

others_fewer : (contract : Contract) (last : ℕ) (ps : List Position) → length (others contract last ps) ≤ length ps
others_fewer contract last [] = omega arith
others_fewer contract last (p ∷ ps) = others_shorter (is_position_at contract last p) p (others contract last ps) (length ps) (others_fewer contract last ps)

same_contract : (a b : Contract) → is_same_contract a b ≡ true → a ≡ b
same_contract Vx Vx e = refl
same_contract Vx Vxm e = cc
same_contract Vxm Vx e = cc
same_contract Vxm Vxm e = refl

is_same_contract-refl : (a : Contract) → is_same_contract a a ≡ true
is_same_contract-refl Vx = refl
is_same_contract-refl Vxm = refl

left_true : (a b : Bool) → (a && b) ≡ true → a ≡ true
left_true true b e = refl
left_true false b e = cc

right_true : (a b : Bool) → (a && b) ≡ true → b ≡ true
right_true true b e = e
right_true false b e = cc

contract_at : (contract : Contract) (last : ℕ) (p : Position) → is_position_at contract last p ≡ true → contract ≡ p.contract
contract_at contract last p e = same_contract contract p.contract (left_true (is_same_contract contract p.contract) (last == p.last) e)

-- the last price of a position that is found is the one that was sought
position_last_is : (contract : Contract) (last : ℕ) (p : Position) → is_position_at contract last p ≡ true → last ≡ p.last
position_last_is contract last p e = eqb-true last p.last (right_true (is_same_contract contract p.contract) (last == p.last) e)

-- a position is in its own contract with its own last price
at_own : (p : Position) → is_position_at p.contract p.last p ≡ true
at_own p = ap (λ (b : Bool). b && (p.last == p.last)) (is_same_contract-refl p.contract) ∙ eq-eqb p.last p.last refl

worth_at : (figure : ℕ) (contract : Contract) (last : ℕ) (p : Position) → is_position_at contract last p ≡ true → worth_of figure p ≡ gain_of figure contract last *ℤ p.quantity
worth_at figure contract last p e =
    ap (λ (c : Contract). gain_of figure c p.last *ℤ p.quantity) (sym (contract_at contract last p e)) ∙ ap (λ (l : ℕ). gain_of figure contract l *ℤ p.quantity) (sym (position_last_is contract last p e))

worth_step : (figure : ℕ) (p : Position) (ps os : List Position) (b : Bool) (gain net : ℤ) → (b ≡ true → worth_of figure p ≡ gain *ℤ p.quantity)
    → worth_of_all figure ps ≡ gain *ℤ net +ℤ worth_of_all figure os
    → worth_of figure p +ℤ worth_of_all figure ps ≡ gain *ℤ (if b then p.quantity +ℤ net else net) +ℤ worth_of_all figure (if b then os else p ∷ os)
worth_step figure p ps os true gain net here rest = taken (worth_of figure p) (worth_of_all figure ps) (worth_of_all figure os) gain p.quantity net (here refl) rest
  where
    taken : (worth more others gain quantity net : ℤ) → worth ≡ gain *ℤ quantity → more ≡ gain *ℤ net +ℤ others → worth +ℤ more ≡ gain *ℤ (quantity +ℤ net) +ℤ others
    taken worth more others gain quantity net e f = let d = mul_add gain quantity net in omega (arith, ints)
worth_step figure p ps os false gain net here rest = left (worth_of figure p) (worth_of_all figure ps) (worth_of_all figure os) (gain *ℤ net) rest
  where
    left : (worth more others part : ℤ) → more ≡ part +ℤ others → worth +ℤ more ≡ part +ℤ (worth +ℤ others)
    left worth more others part f = omega (arith, ints)

nothing_gained : (gain : ℤ) → pos 0 ≡ gain *ℤ pos 0 +ℤ pos 0
nothing_gained gain = omega (arith, ints)

-- those in a contract with a last price gain as their net quantity does
worth_is_split : (figure : ℕ) (contract : Contract) (last : ℕ) (ps : List Position) → worth_of_all figure ps ≡ gain_of figure contract last *ℤ net_quantity contract last ps +ℤ worth_of_all figure (others contract last ps)
worth_is_split figure contract last [] = nothing_gained (gain_of figure contract last)
worth_is_split figure contract last (p ∷ ps) =
    worth_step figure p ps (others contract last ps) (is_position_at contract last p) (gain_of figure contract last) (net_quantity contract last ps)
    (worth_at figure contract last p) (worth_is_split figure contract last ps)

net_taken : (b : Bool) (contract : Contract) (last : ℕ) (p : Position) (os : List Position) → is_position_at contract last p ≡ b → net_quantity contract last os ≡ pos 0 → net_quantity contract last (if b then os else p ∷ os) ≡ pos 0
net_taken true contract last p os e h = h
net_taken false contract last p os e h = ap (λ (b : Bool). if b then p.quantity +ℤ net_quantity contract last os else net_quantity contract last os) e ∙ h

-- none of those is among the others
others_net_nothing : (contract : Contract) (last : ℕ) (ps : List Position) → net_quantity contract last (others contract last ps) ≡ pos 0
others_net_nothing contract last [] = refl
others_net_nothing contract last (p ∷ ps) = net_taken (is_position_at contract last p) contract last p (others contract last ps) refl (others_net_nothing contract last ps)

net_kept : (b a : Bool) (contract : Contract) (last : ℕ) (p : Position) (ps os : List Position) → is_position_at contract last p ≡ a
    → (b ≡ true → a ≡ true → ⊥) → net_quantity contract last os ≡ net_quantity contract last ps
    → net_quantity contract last (if b then os else p ∷ os) ≡ (if a then p.quantity +ℤ net_quantity contract last ps else net_quantity contract last ps)
net_kept true true contract last p ps os e apart h = absurd (apart refl refl)
net_kept true false contract last p ps os e apart h = h
net_kept false a contract last p ps os e apart h =
    ap (λ (b : Bool). if b then p.quantity +ℤ net_quantity contract last os else net_quantity contract last os) e ∙ ap (λ (z : ℤ). if a then p.quantity +ℤ z else z) h

-- what another contract or last price nets to is as it was
others_net_as_before : (contract : Contract) (last : ℕ) (contract' : Contract) (last' : ℕ) (ps : List Position)
    → (contract' ≡ contract → last' ≡ last → ⊥) → net_quantity contract' last' (others contract last ps) ≡ net_quantity contract' last' ps
others_net_as_before contract last contract' last' [] apart = refl
others_net_as_before contract last contract' last' (p ∷ ps) apart =
    net_kept (is_position_at contract last p) (is_position_at contract' last' p) contract' last' p ps (others contract last ps) refl
    (λ e f. apart (contract_at contract' last' p f ∙ sym (contract_at contract last p e)) (position_last_is contract' last' p f ∙ sym (position_last_is contract last p e)))
    (others_net_as_before contract last contract' last' ps apart)

emptied : (total : ℤ) → pos 100 *ℤ total ≡ pos 0 → total ≡ pos 0
emptied total e = omega (arith, ints)

-- what is left where one contract's part nets to nothing
nothing_left : (worth more gain quantity net left : ℤ) → worth ≡ gain *ℤ quantity → more ≡ gain *ℤ net +ℤ left → quantity +ℤ net ≡ pos 0 → left ≡ pos 0 → worth +ℤ more ≡ pos 0
nothing_left worth more gain quantity net left e f g h =
    let d : gain *ℤ (quantity +ℤ net) ≡ gain *ℤ quantity +ℤ gain *ℤ net = mul_add gain quantity net in
    let z : gain *ℤ (quantity +ℤ net) ≡ gain *ℤ pos 0 = ap (λ x. gain *ℤ x) g in
    omega (arith, ints)

-- the others of a list whose first is in a contract with a last price
others_behind : (p : Position) (ps : List Position) → others p.contract p.last (p ∷ ps) ≡ others p.contract p.last ps
others_behind p ps = ap (λ (b : Bool). if b then others p.contract p.last ps else p ∷ others p.contract p.last ps) (at_own p)

others_net : (contract : Contract) (last : ℕ) (ps : List Position) (same : Bool) (contract' : Contract) (last' : ℕ)
    → (is_same_contract contract contract' && (last == last')) ≡ same → net_quantity contract last ps ≡ pos 0
    → net_quantity contract last (others contract' last' ps) ≡ pos 0
others_net contract last ps true contract' last' is h =
    let c : contract ≡ contract' = same_contract contract contract' (left_true (is_same_contract contract contract') (last == last') is) in
    let l : last ≡ last' = eqb-true last last' (right_true (is_same_contract contract contract') (last == last') is) in
    (λ i. net_quantity (c i) (l i) (others contract' last' ps)) ∙ others_net_nothing contract' last' ps
others_net contract last ps false contract' last' is h =
    others_net_as_before contract' last' contract last ps
    (λ c l. apart (sym is ∙ ((λ i. is_same_contract (c i) contract' && (l i == last')) ∙ (ap (λ (b : Bool). b && (last' == last')) (is_same_contract-refl contract') ∙ eq-eqb last' last' refl))))
    ∙ h
  where
    apart : false ≡ true → ⊥
    apart e = cc

-- positions that net to nothing in each contract at each last price are worth nothing together; n bounds their number
netted_worth : (n figure : ℕ) (ps : List Position) → length ps ≤ n → ((contract : Contract) (last : ℕ) → net_quantity contract last ps ≡ pos 0) → worth_of_all figure ps ≡ pos 0
netted_worth n figure [] few nets = refl
netted_worth zero figure (p ∷ ps) few nets = absurd (omega arith)
netted_worth (suc n) figure (p ∷ ps) few nets =
    nothing_left (worth_of figure p) (worth_of_all figure ps) (gain_of figure p.contract p.last) p.quantity (net_quantity p.contract p.last ps) (worth_of_all figure (others p.contract p.last ps))
    refl (worth_is_split figure p.contract p.last ps)
    (sym (ap (λ (b : Bool). if b then p.quantity +ℤ net_quantity p.contract p.last ps else net_quantity p.contract p.last ps) (at_own p)) ∙ nets p.contract p.last)
    (netted_worth n figure (others p.contract p.last ps) (omega (arith, few, others_fewer p.contract p.last ps))
    (λ contract last. ap (net_quantity contract last) (sym (others_behind p ps)) ∙ others_net contract last (p ∷ ps) (is_same_contract contract p.contract && (last == p.last)) p.contract p.last refl (nets contract last)))

-- positions that net to zero at each contract and last price have amounts that sum to zero
pub netted_settles_to_zero : (figure : ℕ) (ps : List Position) (amounts : List ℤ) → ((contract : Contract) (last : ℕ) → net_quantity contract last ps ≡ pos 0) → AreAmounts figure ps amounts → sum_of_amounts amounts ≡ pos 0
netted_settles_to_zero figure ps amounts nets are =
    emptied (sum_of_amounts amounts) (total_is_worth figure ps amounts are ∙ netted_worth (length ps) figure ps (omega arith) nets)
