use Rattle.std.proofs.Common.{◌≡◌, ℕ, List, length, slice_get, Option, Some, None, IfSome, IfNone, IsSomeAnd, All, arith, rules}
use Rattle.std.proofs.lemmas.Bool.{false≢true}
use Rattle.std.proofs.lemmas.Option.{slice_get-get_or}
use Rattle.vx_clock.specs.declared.days.DayNo.{DayNo}
use Rattle.vx_clock.specs.declared.terms.Expiry.{Expiry}
use Rattle.vx_clock.specs.Terms.{IsInNextWindow, IsTakenBeforeAsNext, IsNextTerm}
use Rattle.vx_clock.proofs.Best.{IsBestSoFar, skipped, best_kept, best_first, best_replaced, none_counts, best_is_there, best_comes_first}
use Rattle.vx_clock.proofs.TermOrder.{some_expiry, next-reflexive, next-transitive}
use Rattle.vx_clock.proofs.picking.next_place.Goals as goal
use Rattle.vx_clock.proofs.picking.next_place.Goals.{then-is_in_next_window+in-Some, then-is_in_next_window+in_default-2, then-is_in_next_window+in_default, else-is_in_next_window}

module _ (today : DayNo) (days window : ℕ) (expiries : List Expiry) where
  abbrev InWindow : Expiry → Type 0
  InWindow = IsInNextWindow today days window

  abbrev SoFar : ℕ → Option ℕ → Type 0
  SoFar n best = IsBestSoFar InWindow IsTakenBeforeAsNext some_expiry expiries n best

  next_found : (best : Option ℕ) → SoFar (length expiries) best → IfSome best (λ place. IsSomeAnd (slice_get expiries place) (IsNextTerm today days window expiries))
  next_found None none = search rules
  next_found (Some b) best =
      rw (slice_get-get_or expiries b some_expiry best.within) (record {
        declared = best_is_there InWindow IsTakenBeforeAsNext some_expiry expiries (length expiries) b best;
        in_window = best.counts;
        first = best_comes_first InWindow IsTakenBeforeAsNext some_expiry expiries b best;
      })

  next_none : (best : Option ℕ) → SoFar (length expiries) best → IfNone best (All (λ e. ¬ InWindow e) expiries)
  next_none None none = none_counts InWindow IsTakenBeforeAsNext some_expiry expiries none
  next_none (Some b) best = search rules

pub loop-place-preserved : goal.loop-place-preserved
loop-place-preserved c =
    elim c.if-is_in_next_window.branch [
      | then-is_in_next_window+in-Some w ↦ rw w.best-is (best_kept (IsInNextWindow c.args.today c.args.days c.args.window) IsTakenBeforeAsNext some_expiry c.args.expiries.now c.loop-place.place w.in-Some.other (rw w.in-Some.is at c.loop-place.invariant) w.if-is_taken_before_as_next.ensures)
      | then-is_in_next_window+in_default-2 w ↦ rw w.best-is (best_replaced (IsInNextWindow c.args.today c.args.days c.args.window) IsTakenBeforeAsNext some_expiry c.args.expiries.now c.loop-place.place next-reflexive next-transitive w.in-Some.other (rw w.in-Some.is at c.loop-place.invariant) (omega arith) (search rules) w.if-is_taken_before_as_next.ensures)
      | then-is_in_next_window+in_default w ↦ rw w.best-is (best_first (IsInNextWindow c.args.today c.args.days c.args.window) IsTakenBeforeAsNext some_expiry c.args.expiries.now c.loop-place.place next-reflexive (rw w.in_default.is at c.loop-place.invariant) (omega arith) (search rules))
      | else-is_in_next_window w ↦ rw w.best-is (skipped (IsInNextWindow c.args.today c.args.days c.args.window) IsTakenBeforeAsNext some_expiry c.args.expiries.now c.loop-place.place c.loop-place.best c.loop-place.invariant (λ is. false≢true (w.if-is_in_next_window.ensures.1 is)))
    ]

pub returns-clause-found : goal.returns-clause-found
returns-clause-found c =
    let all : c.loop-place.place ≡ length c.args.expiries.now = omega arith in
    next_found c.args.today c.args.days c.args.window c.args.expiries.now c.loop-place.best (rw all at c.loop-place.invariant)

pub returns-clause-none : goal.returns-clause-none
returns-clause-none c =
    let all : c.loop-place.place ≡ length c.args.expiries.now = omega arith in
    next_none c.args.today c.args.days c.args.window c.args.expiries.now c.loop-place.best (rw all at c.loop-place.invariant)
