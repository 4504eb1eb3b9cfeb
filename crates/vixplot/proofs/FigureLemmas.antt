-- What holds of the figures of some ticks, and of the ticks that have them.
use Rattle.std.proofs.Common.{◌≡◌, ℕ, ◌≤◌, List, [], ◌∷◌, Option, Some, None, IfSome, All, filter_map, slice_index_or, slice_get, subst}
use Rattle.std.specs.List.{cons_option}
use Rattle.std.proofs.lemmas.List.Elements.{All-nil, All-cons, All-head, All-tail}
use Rattle.std.proofs.lemmas.Option.{slice_get_within, get_or_from_slice_get}
use Rattle.vixplot.specs.declared.answer.Answer.{Answer}
use Rattle.vixplot.specs.declared.answer.Answer.TheVariants.{Figure, Refused, UndecidedCents, UndecidedForward}
use Rattle.vixplot.specs.declared.answer.Tick.{Tick}
use Rattle.vixplot.specs.declared.axis.Scale.{Scale}
use Rattle.vixplot.specs.declared.axis.Times.{Times}
use Rattle.vixplot.specs.declared.day.Mark.{Mark}
use Rattle.vixplot.specs.Answers.{mark_of, mark_of_answer}
use Rattle.vixplot.specs.Days.{figures_of}
use Rattle.vixplot.specs.Pictures.{IsInPicture, IsWithinScale, IsWithinTimes}

-- one more at the front, where there is one
cons_all : {Y : Type 0} (P : Y → Type 0) (o : Option Y) (ys : List Y) → IfSome o P → All P ys → All P (cons_option o ys)
cons_all P None ys here rest = rest
cons_all P (Some y) ys here rest = All-cons P y ys here rest

uncons_head : {Y : Type 0} (P : Y → Type 0) (o : Option Y) (ys : List Y) → All P (cons_option o ys) → IfSome o P
uncons_head P None ys all = tt
uncons_head P (Some y) ys all = All-head P y ys all

uncons_tail : {Y : Type 0} (P : Y → Type 0) (o : Option Y) (ys : List Y) → All P (cons_option o ys) → All P ys
uncons_tail P None ys all = all
uncons_tail P (Some y) ys all = All-tail P y ys all

-- what holds of each item's part holds of all parts
pub all_parts : {X Y : Type 0} (h : X → Option Y) (P : Y → Type 0) (xs : List X) → All (λ x. IfSome (h x) P) xs → All P (filter_map h xs)
all_parts h P [] all = All-nil P
all_parts h P (x ∷ xs) all =
    cons_all P (h x) (filter_map h xs) (All-head (λ x. IfSome (h x) P) x xs all) (all_parts h P xs (All-tail (λ x. IfSome (h x) P) x xs all))

-- and the other way round
pub each_part : {X Y : Type 0} (h : X → Option Y) (P : Y → Type 0) (xs : List X) → All P (filter_map h xs) → All (λ x. IfSome (h x) P) xs
each_part h P [] all = All-nil (λ x. IfSome (h x) P)
each_part h P (x ∷ xs) all =
    All-cons (λ x. IfSome (h x) P) x xs (uncons_head P (h x) (filter_map h xs) all) (each_part h P xs (uncons_tail P (h x) (filter_map h xs) all))

-- a figure has the minute of its tick
minute_kept : (P : ℕ → Type 0) (minute : ℕ) (answer : Answer) → P minute → IfSome (mark_of_answer minute answer) (λ (mark : Mark). P mark.minute)
minute_kept P minute (Figure cents) here = here
minute_kept P minute UndecidedCents here = tt
minute_kept P minute (UndecidedForward which) here = tt
minute_kept P minute (Refused reason which) here = tt

-- the figures of ticks within the times are in the picture, where they are within the scale
pub all_in_picture : (times : Times) (scale : Scale) (ticks : List Tick) → All (IsWithinTimes times) ticks → All (IsWithinScale scale) (figures_of ticks) → All (IsInPicture times scale) (figures_of ticks)
all_in_picture times scale ticks in_times in_scale =
    let first : All (λ (mark : Mark). times.first ≤ mark.minute) (figures_of ticks) = all_parts mark_of (λ (mark : Mark). times.first ≤ mark.minute) ticks
    (λ k d h. minute_kept (λ (n : ℕ). times.first ≤ n) (slice_index_or ticks k d).minute (slice_index_or ticks k d).answer (in_times k d h).first) in
    let last : All (λ (mark : Mark). mark.minute ≤ times.last) (figures_of ticks) = all_parts mark_of (λ (mark : Mark). mark.minute ≤ times.last) ticks
    (λ k d h. minute_kept (λ (n : ℕ). n ≤ times.last) (slice_index_or ticks k d).minute (slice_index_or ticks k d).answer (in_times k d h).last) in
    λ k d h. record { first = first k d h; last = last k d h; within = in_scale k d h }

-- what holds of all items holds of the one at a place
pub holds_at_place : {X : Type 0} (P : X → Type 0) (xs : List X) (k : ℕ) (x : X) → All P xs → slice_get xs k ≡ Some x → P x
holds_at_place {X} P xs k x all e = subst (λ (y : X). P y) (get_or_from_slice_get xs k x x e) (all k x (slice_get_within xs k x e))
