-- The laws of the forward's interval, of its printed ends, and of the answers on the level.
use Rattle.std.specs.Prelude.{◌≡◌, ℕ, ◌<◌, ◌≤◌, ◌⊎◌, ℤ, pos, ◌+ℤ◌, ◌*ℤ◌, nat_abs, ◌≤ℤ◌, ◌<ℤ◌, List}
use Rattle.vx_num.specs.Fraction.{Fraction, whole, ◌*ᶠ◌, ◌≤ᶠ◌}
use Rattle.vx_symbol.specs.declared.limits.TheConstants.{HALF_MAX}
use Rattle.vx_symbol.specs.declared.rows.StrikeRow.{StrikeRow}
use Rattle.vx_interval.specs.Ends.{Ends, unit, width}
use Rattle.vx_interval.specs.Membership.{IsMember}
use Rattle.vx_formula.specs.declared.limits.TheConstants.{FORWARD_UNITS, FORWARD_WIDTH_MAX}
use Rattle.vx_formula.specs.Pair.{Pair}
use Rattle.vx_formula.specs.Forward.{forward_at}
use Rattle.vx_formula.specs.Level.{StrikesRise, IsListed}
use Rattle.vx_forward.specs.declared.level.K0Answer.{K0Answer}
use Rattle.vx_forward.specs.declared.limits.TheConstants.{EXPONENTIAL_WIDTH_MAX}
use Rattle.vx_forward.specs.Forward.{forward_interval, printed_forward}
use Rattle.vx_forward.specs.Level.{IsLevelRow, IsK0Answer, SaysOfForward}

-- the forward at every exponential of an interval is in the forward's interval
abbrev pub ForwardIsEnclosed : Type 0
ForwardIsEnclosed = (P : ℕ) (pair : Pair) (e : Ends) (x : Fraction) → IsMember P e x → IsMember P (forward_interval P pair e) (forward_at pair x)

-- its ends reach to the forward at both ends of the exponential
abbrev pub ForwardReachesEnds : Type 0
ForwardReachesEnds = (P : ℕ) (pair : Pair) (e : Ends) → e.lo ≤ℤ e.hi →
    let f = forward_interval P pair e in
    let at_end = λ (y : ℤ). pos pair.strike *ℤ unit P +ℤ pos 5 *ℤ pair.d *ℤ y in
    (f.lo ≤ℤ at_end e.lo) × (f.lo ≤ℤ at_end e.hi) × (at_end e.lo ≤ℤ f.hi) × (at_end e.hi ≤ℤ f.hi)

-- the printed ends lie around every member of a forward's interval
abbrev pub PrintedEndsLieAround : Type 0
PrintedEndsLieAround = (P : ℕ) (f : Ends) (forward : Fraction) → IsMember P f forward →
    let ends = printed_forward P f in
    let printed = whole (pos FORWARD_UNITS) *ᶠ forward in (whole ends.0 ≤ᶠ printed) × (printed ≤ᶠ whole ends.1)

-- at the scales of certificates they are near each other, where the exponential is known as well as it is computed
abbrev pub PrintedEndsAreNear : Type 0
PrintedEndsAreNear = (P : ℕ) (pair : Pair) (e : Ends) → 60 ≤ P → nat_abs pair.d ≤ HALF_MAX → e.lo ≤ℤ e.hi → width e ≤ℤ pos EXPONENTIAL_WIDTH_MAX →
    let ends = printed_forward P (forward_interval P pair e) in ends.1 ≤ℤ (ends.0 +ℤ pos FORWARD_WIDTH_MAX)

-- they are equal where the two prices are, and where the exponential is 1
abbrev pub PrintedEndsAreEqual : Type 0
PrintedEndsAreEqual = (P : ℕ) (pair : Pair) (e : Ends) → (pair.d ≡ pos 0) ⊎ ((e.lo ≡ unit P) × (e.hi ≡ unit P)) →
    let ends = printed_forward P (forward_interval P pair e) in ends.0 ≡ ends.1

-- the level is at most the low end of the forward itself, and every listed strike above it is above the high end
abbrev pub LevelLiesBelowForward : Type 0
LevelLiesBelowForward = (P : ℕ) (rows : List StrikeRow) (f : Ends) (place : ℕ) (row : StrikeRow) →
    let ends = printed_forward P f in IsLevelRow rows ends.0 ends.1 place row →
    ((pos row.strike *ℤ unit P) ≤ℤ f.lo) × ((other : ℕ) → IsListed rows other → row.strike < other → f.hi <ℤ (pos other *ℤ unit P))

-- what is answered from the printed ends holds of every member of the forward's interval
abbrev pub AnswerHoldsOfForwards : Type 0
AnswerHoldsOfForwards = (P : ℕ) (rows : List StrikeRow) (f : Ends) (forward : Fraction) (answer : K0Answer) → IsMember P f forward →
    let ends = printed_forward P f in IsK0Answer rows ends.0 ends.1 answer → SaysOfForward rows forward answer

-- at most one answer is that of two ends
abbrev pub AnswerIsOne : Type 0
AnswerIsOne = (rows : List StrikeRow) (lo hi : ℤ) (a b : K0Answer) → StrikesRise rows → IsK0Answer rows lo hi a → IsK0Answer rows lo hi b → a ≡ b
