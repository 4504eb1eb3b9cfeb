use Rattle.std.proofs.Common.{◌≡◌, ℕ, List, length, slice_get, Option, Some, None, IfSome, IfNone, IsSomeAnd, All, arith, rules}
use Rattle.std.proofs.lemmas.Bool.{false≢true}
use Rattle.std.proofs.lemmas.Option.{slice_get-get_or}
use Rattle.vx_clock.specs.declared.days.DayNo.{DayNo}
use Rattle.vx_clock.specs.declared.terms.Expiry.{Expiry}
use Rattle.vx_clock.specs.Terms.{IsInNearWindow, IsTakenBeforeAsNear, IsNearTerm}
use Rattle.vx_clock.proofs.Best.{IsBestSoFar, skipped, best_kept, best_first, best_replaced, none_counts, best_is_there, best_comes_first}
use Rattle.vx_clock.proofs.TermOrder.{some_expiry, near-reflexive, near-transitive}
use Rattle.vx_clock.proofs.picking.near_place.Goals as goal
use Rattle.vx_clock.proofs.picking.near_place.Goals.{then-is_in_near_window+in-Some, then-is_in_near_window+in_default-2, then-is_in_near_window+in_default, else-is_in_near_window}

module _ (today : DayNo) (days window : ℕ) (expiries : List Expiry) where
  abbrev InWindow : Expiry → Type 0
  InWindow = IsInNearWindow today days window

  abbrev SoFar : ℕ → Option ℕ → Type 0
  SoFar n best = IsBestSoFar InWindow IsTakenBeforeAsNear some_expiry expiries n best

  near_found : (best : Option ℕ) → SoFar (length expiries) best → IfSome best (λ place. IsSomeAnd (slice_get expiries place) (IsNearTerm today days window expiries))
  near_found None none = search rules
  near_found (Some b) best =
      rw (slice_get-get_or expiries b some_expiry best.within) (record {
        declared = best_is_there InWindow IsTakenBeforeAsNear some_expiry expiries (length expiries) b best;
        in_window = best.counts;
        first = best_comes_first InWindow IsTakenBeforeAsNear some_expiry expiries b best;
      })

  near_none : (best : Option ℕ) → SoFar (length expiries) best → IfNone best (All (λ e. ¬ InWindow e) expiries)
  near_none None none = none_counts InWindow IsTakenBeforeAsNear some_expiry expiries none
  near_none (Some b) best = search rules

pub loop-place-preserved : goal.loop-place-preserved
loop-place-preserved c =
    elim c.if-is_in_near_window.branch [
      | then-is_in_near_window+in-Some w ↦ rw w.best-is (best_kept (IsInNearWindow c.args.today c.args.days c.args.window) IsTakenBeforeAsNear some_expiry c.args.expiries.now c.loop-place.place w.in-Some.other (rw w.in-Some.is at c.loop-place.invariant) w.if-is_taken_before_as_near.ensures)
      | then-is_in_near_window+in_default-2 w ↦ rw w.best-is (best_replaced (IsInNearWindow c.args.today c.args.days c.args.window) IsTakenBeforeAsNear some_expiry c.args.expiries.now c.loop-place.place near-reflexive near-transitive w.in-Some.other (rw w.in-Some.is at c.loop-place.invariant) (omega arith) (search rules) w.if-is_taken_before_as_near.ensures)
      | then-is_in_near_window+in_default w ↦ rw w.best-is (best_first (IsInNearWindow c.args.today c.args.days c.args.window) IsTakenBeforeAsNear some_expiry c.args.expiries.now c.loop-place.place near-reflexive (rw w.in_default.is at c.loop-place.invariant) (omega arith) (search rules))
      | else-is_in_near_window w ↦ rw w.best-is (skipped (IsInNearWindow c.args.today c.args.days c.args.window) IsTakenBeforeAsNear some_expiry c.args.expiries.now c.loop-place.place c.loop-place.best c.loop-place.invariant (λ is. false≢true (w.if-is_in_near_window.ensures.1 is)))
    ]

pub returns-clause-found : goal.returns-clause-found
returns-clause-found c =
    let all : c.loop-place.place ≡ length c.args.expiries.now = omega arith in
    near_found c.args.today c.args.days c.args.window c.args.expiries.now c.loop-place.best (rw all at c.loop-place.invariant)

pub returns-clause-none : goal.returns-clause-none
returns-clause-none c =
    let all : c.loop-place.place ≡ length c.args.expiries.now = omega arith in
    near_none c.args.today c.args.days c.args.window c.args.expiries.now c.loop-place.best (rw all at c.loop-place.invariant)
