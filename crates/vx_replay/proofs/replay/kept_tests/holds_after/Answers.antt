use Rattle.std.proofs.Common.{◌≡◌, ◌≢◌, ◌∙◌, sym, ap, subst, refl, ℕ, zero, suc, ◌<◌, ℤ, List, [], ◌∷◌, ◌++◌, length, set, Option, Some, arith}
use Rattle.std.specs.Prelude.{Ok, IsSome, IsSomeAnd, is_some, slice_get}
use Rattle.std.proofs.lemmas.Option.{slice_get_within}
use Rattle.std.proofs.lemmas.List.{length-set}
use Rattle.vx_feed.specs.declared.events.Event.{Event}
use Rattle.vx_feed.specs.declared.events.Event.TheVariants.{Tick}
use Rattle.vx_feed.specs.Listed.{declared_expiries}
use Rattle.vx_cert.specs.declared.certificate.Certificate.{Certificate}
use Rattle.vx_replay.specs.declared.answer.TickAnswer.{TickAnswer}
use Rattle.vx_replay.specs.declared.answer.TickAnswer.TheVariants.{Published}
use Rattle.vx_replay.specs.StripsAfter.{Holding, HoldRuns, AreKeptAfter, AreKeptAfterAnswer}
use Rattle.vx_replay.proofs.TickSteps.{places_differ}
use Rattle.vx_replay.proofs.replay.kept_tests.holds_after.Goals as goal

-- where both of two strips are written with a sum, each holds one
both_hold : (strips : List Holding) (i j : ℕ) (a b : Holding) → length strips ≡ 2 → i < 2 → j < 2 → j ≢ i → IsSome a → IsSome b
    → (k : ℕ) → k < 2 → IsSomeAnd (slice_get (set (set strips i a) j b) k) (λ (o : Holding). IsSome o)
both_hold [] i j a b two low high differ h g k within = absurd (omega arith)
both_hold (x ∷ []) i j a b two low high differ h g k within = absurd (omega arith)
both_hold (x ∷ y ∷ z ∷ rest) i j a b two low high differ h g k within = absurd (omega arith)
both_hold (x ∷ y ∷ []) zero zero a b two low high differ h g k within = absurd (differ refl)
both_hold (x ∷ y ∷ []) zero (suc zero) a b two low high differ h g zero within = h
both_hold (x ∷ y ∷ []) zero (suc zero) a b two low high differ h g (suc zero) within = g
both_hold (x ∷ y ∷ []) zero (suc zero) a b two low high differ h g (suc (suc k)) within = absurd (omega arith)
both_hold (x ∷ y ∷ []) zero (suc (suc j)) a b two low high differ h g k within = absurd (omega arith)
both_hold (x ∷ y ∷ []) (suc zero) zero a b two low high differ h g zero within = g
both_hold (x ∷ y ∷ []) (suc zero) zero a b two low high differ h g (suc zero) within = h
both_hold (x ∷ y ∷ []) (suc zero) zero a b two low high differ h g (suc (suc k)) within = absurd (omega arith)
both_hold (x ∷ y ∷ []) (suc zero) (suc zero) a b two low high differ h g k within = absurd (differ refl)
both_hold (x ∷ y ∷ []) (suc zero) (suc (suc j)) a b two low high differ h g k within = absurd (omega arith)
both_hold (x ∷ y ∷ []) (suc (suc i)) j a b two low high differ h g k within = absurd (omega arith)

-- and so after a tick whose two terms have runs, where two expiries are declared
both_kept : (events : List Event) (time : ℕ) (before after : List Holding) (start count : ℕ) → HoldRuns events time before after start count
    → length before ≡ length (declared_expiries events) → length after ≡ 2 → (k : ℕ) → k < 2 → IsSomeAnd (slice_get after k) (λ (o : Holding). IsSome o)
both_kept events time before after start count h as_many two k within =
    let s = h.strips in
    let near = s.near_strip in
    let next = s.next_strip in
    let xs = declared_expiries events in
    let differ : next.place ≢ near.place = places_differ s.day xs near.place next.place s.near s.next near.is_place next.is_place s.is_near s.is_next in
    let same : length after ≡ length before =
    ap (λ (l : List Holding). length l) s.after_is ∙ length-set (set before near.place near.after) next.place next.after ∙ length-set before near.place near.after in
    let few : length before ≡ 2 = omega (arith, same, two) in
    let low : near.place < length xs = slice_get_within xs near.place s.near near.is_place in
    let high : next.place < length xs = slice_get_within xs next.place s.next next.is_place in
    let near_low : near.place < 2 = omega (arith, low, few, as_many) in
    let next_low : next.place < 2 = omega (arith, high, few, as_many) in
    let near_held : IsSome near.after = ap (λ (o : Holding). is_some o) h.near_is_held in
    let next_held : IsSome next.after = ap (λ (o : Holding). is_some o) h.next_is_held in
    subst (λ (l : List Holding). IsSomeAnd (slice_get l k) (λ (o : Holding). IsSome o)) (sym s.after_is)
    (both_hold before near.place next.place near.after next.after few near_low next_low differ near_held next_held k within)

-- a figure is of two runs
runs_of_figure : (events : List Event) (time : ℕ) (before after : List Holding) (count : ℕ) (answer : Option TickAnswer) (published : TickAnswer) (cents : ℕ) (lo hi : ℤ) (certificate : Certificate)
    → answer ≡ Some published → published ≡ Published cents lo hi certificate → AreKeptAfter events (Tick time) before after 0 count (Ok answer)
    → HoldRuns events time before after 0 count
runs_of_figure events time before after count answer published cents lo hi certificate some is h =
    subst (λ (a : TickAnswer). AreKeptAfterAnswer events time before after 0 count a) is
    (subst (λ (o : Option TickAnswer). AreKeptAfter events (Tick time) before after 0 count (Ok o)) some h)

pub holds-requires-clause-place : goal.holds-requires-clause-place
holds-requires-clause-place c =
    let stands = c.in_ok-answer.ensures.stands (c.requires).0 (c.requires).1 (c.requires).2 in
    let strips = stands.strips in
    let items = c.step.new.self.kept.ok.0 in
    ((c.requires).0 ++ Tick c.args.time ∷ [], stands, omega (arith, strips, items, c.len.ensures, c.if-len-eq2.true))

pub holds-requires-clause-refreshed : goal.holds-requires-clause-refreshed
holds-requires-clause-refreshed c =
    let events = (c.requires).0 in
    let h = (c.requires).1 in
    let kept = c.in_ok-answer.ensures.kept in
    let items = c.step.new.self.kept.ok.0 in
    let before = c.args.replay.now.kept.items in
    let after = c.step.new.self.kept.items in
    let runs = runs_of_figure events c.args.time before after kept.0 c.in_ok-answer.answer _ _ _ _ _ c.in-Some.is c.in-Published.is
    (kept.1 events h (c.requires).2) in
    both_kept events c.args.time before after 0 kept.0 runs h.strips (omega (arith, items, c.len.ensures, c.if-len-eq2.true)) 0 (omega arith)

pub holds-requires-then-holds-clause-place : goal.holds-requires-then-holds-clause-place
holds-requires-then-holds-clause-place c =
    let stands = c.in_ok-answer.ensures.stands (c.requires).0 (c.requires).1 (c.requires).2 in
    let strips = stands.strips in
    let items = c.step.new.self.kept.ok.0 in
    ((c.requires).0 ++ Tick c.args.time ∷ [], stands, omega (arith, strips, items, c.len.ensures, c.if-len-eq2.true))

pub holds-requires-then-holds-clause-refreshed : goal.holds-requires-then-holds-clause-refreshed
holds-requires-then-holds-clause-refreshed c =
    let events = (c.requires).0 in
    let h = (c.requires).1 in
    let kept = c.in_ok-answer.ensures.kept in
    let items = c.step.new.self.kept.ok.0 in
    let before = c.args.replay.now.kept.items in
    let after = c.step.new.self.kept.items in
    let runs = runs_of_figure events c.args.time before after kept.0 c.in_ok-answer.answer _ _ _ _ _ c.in-Some.is c.in-Published.is
    (kept.1 events h (c.requires).2) in
    both_kept events c.args.time before after 0 kept.0 runs h.strips (omega (arith, items, c.len.ensures, c.if-len-eq2.true)) 1 (omega arith)
