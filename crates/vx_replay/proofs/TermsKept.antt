-- The kept strips of a tick's two terms, one after the other.
use Rattle.std.proofs.Common.{◌≡◌, ◌≢◌, ◌∙◌, sym, ap, subst, refl, ℕ, zero, suc, ◌+◌, ◌^◌, ◌≤◌, inr, List, [], ◌∷◌, length, set, Some, arith}
use Rattle.std.specs.Prelude.{Result, Ok, Err, IfOk, IsErr, IsSomeAnd, slice_get}
use Rattle.std.proofs.lemmas.Bool.{false≢true}
use Rattle.std.proofs.lemmas.Option.{same_Some}
use Rattle.vx_num.specs.declared.fault.NoMemory.{NoMemory}
use Rattle.vx_clock.specs.declared.terms.Expiry.{Expiry}
use Rattle.vx_clock.specs.declared.terms.Moment.{Moment}
use Rattle.vx_clock.specs.declared.limits.TheConstants.{INDEX_DAYS, INDEX_WINDOW}
use Rattle.vx_clock.specs.Terms.{IsNearTerm, IsNextTerm}
use Rattle.vx_feed.specs.declared.events.Event.{Event}
use Rattle.vx_feed.specs.Listed.{trade_date, declared_expiries}
use Rattle.vx_feed.specs.Order.{AreLawful}
use Rattle.vx_formula.specs.Term.{TermFacts}
use Rattle.vx_claims.specs.declared.limits.TheConstants.{SCALE}
use Rattle.vx_claims.specs.Seen.{term_facts}
use Rattle.vx_facts.proofs.ShownProofs.{standing_is_lawful}
use Rattle.vx_book.proofs.Places.{get_unwritten}
use Rattle.vx_term.specs.declared.answer.TermAnswer.{TermAnswer}
use Rattle.vx_term.specs.Answer.{IsTermAnswer}
use Rattle.vx_replay.specs.declared.answer.TickAnswer.{TickAnswer}
use Rattle.vx_replay.specs.Joined.{IsJoined}
use Rattle.vx_replay.specs.Ticks.{IsAnswerFor, IsAnswerOfTerms}
use Rattle.vx_replay.specs.StripsAfter.{Holding, TermStrips, MayHoldStrips, AreKeptOtherwise, AreKeptAfterTick}
use Rattle.vx_replay.specs.TermSteps.{IsTermKept}
use Rattle.vx_replay.proofs.StripSteps.{MayHold, may_hold, not_reached, strips_may_hold, after_join}
use Rattle.vx_replay.proofs.TickSteps.{places_differ, some_stands_at}

-- a write of what stands there
set_same : {A : Type 0} (xs : List A) (i : ℕ) (x : A) → slice_get xs i ≡ Some x → set xs i x ≡ xs
set_same [] i x h = refl
set_same (y ∷ xs) zero x h = ap (λ z. z ∷ xs) (sym (same_Some y x h))
set_same (y ∷ xs) (suc i) x h = ap (λ l. y ∷ l) (set_same xs i x h)

-- where memory was refused
pub kept_of_error : (events : List Event) (time : ℕ) (before after : List Holding) (start count : ℕ) (r : Result TickAnswer NoMemory) → IsErr r
    → AreKeptOtherwise events time before after start count → AreKeptAfterTick events time before after start count r
kept_of_error events time before after start count (Ok answer) err h = absurd (false≢true err)
kept_of_error events time before after start count (Err memory) err h = h

-- ---- the two picked terms

-- they stand at these places in order of declaration
pub record ArePicked (events : List Event) (now : Moment) (i j : ℕ) : Type 0 where
  pub near : Expiry
  pub is_near : IsNearTerm now.day INDEX_DAYS INDEX_WINDOW (declared_expiries events) near
  pub near_at : slice_get (declared_expiries events) i ≡ Some near
  pub next : Expiry
  pub is_next : IsNextTerm now.day INDEX_DAYS INDEX_WINDOW (declared_expiries events) next
  pub next_at : slice_get (declared_expiries events) j ≡ Some next

-- the expiries at two places that pass the tests of the near and the next term are the picked ones
pub picked_at : (events : List Event) (now : Moment) (xs : List Expiry) (i j : ℕ) → xs ≡ declared_expiries events
    → IsSomeAnd (slice_get xs i) (IsNearTerm now.day INDEX_DAYS INDEX_WINDOW xs) → IsSomeAnd (slice_get xs j) (IsNextTerm now.day INDEX_DAYS INDEX_WINDOW xs)
    → ArePicked events now i j
picked_at events now xs i j e near next =
    let a = some_stands_at xs i (IsNearTerm now.day INDEX_DAYS INDEX_WINDOW xs) near in
    let b = some_stands_at xs j (IsNextTerm now.day INDEX_DAYS INDEX_WINDOW xs) next in
    record {
      near = a.x;
      is_near = subst (λ (l : List Expiry). IsNearTerm now.day INDEX_DAYS INDEX_WINDOW l a.x) e a.passes;
      near_at = sym (ap (λ (l : List Expiry). slice_get l i) e) ∙ a.at;
      next = b.x;
      is_next = subst (λ (l : List Expiry). IsNextTerm now.day INDEX_DAYS INDEX_WINDOW l b.x) e b.passes;
      next_at = sym (ap (λ (l : List Expiry). slice_get l j) e) ∙ b.at;
    }

-- what stands at a place among the same expiries
pub at_same_place : (xs ys : List Expiry) (i : ℕ) (x : Expiry) → xs ≡ ys → slice_get ys i ≡ Some x → slice_get xs i ≡ Some x
at_same_place xs ys i x e at = ap (λ (l : List Expiry). slice_get l i) e ∙ at

-- the answer of their two answers
pub answer_of_terms : (events : List Event) (now : Moment) (line i j : ℕ) (picked : ArePicked events now i j) (a b : TermAnswer SCALE) → line ≡ length events + 1
    → IsAnswerFor events now picked.near a → IsAnswerFor events now picked.next b → (result : Result TickAnswer NoMemory) → IfOk result (IsJoined line now.minute INDEX_DAYS a b)
    → IfOk result (IsAnswerOfTerms events now (length events + 1) INDEX_DAYS INDEX_WINDOW)
answer_of_terms events now line i j picked a b line_is h k (Err memory) joined = tt
answer_of_terms events now line i j picked a b line_is h k (Ok answer) joined = record {
  near = picked.near;
  is_near = picked.is_near;
  next = picked.next;
  is_next = picked.is_next;
  near_answer = a;
  is_near_answer = h;
  next_answer = b;
  is_next_answer = k;
  joined = subst (λ (n : ℕ). IsJoined n now.minute INDEX_DAYS a b answer) line_is joined;
}

-- ---- what the terms' strips hold

-- a term's step divides few rows
pub count_stays : (events : List Event) (now : Moment) (x : Expiry) (place : ℕ) (before after : List Holding) (start count : ℕ) (result : Result (TermAnswer SCALE) NoMemory)
    → AreLawful events → IfOk result (IsTermAnswer SCALE x (term_facts events now x)) → IsTermKept (term_facts events now x) place before after start count result
    → start ≤ 2 ^ 62 → count ≤ 2 ^ 63
count_stays events now x place before after start count result lawful h k small =
    let m : MayHold (term_facts events now x) k.held k.holds start count = may_hold x (term_facts events now x) k.held k.holds start count result h k.kept in
    let shown = standing_is_lawful x events lawful in
    let rows = (shown.rows_are).count in
    let few = m.few in
    let most = m.most in
    omega (arith, rows, few, most, small)

module _ (events : List Event) (now : Moment) (before : List Holding) (day_is : trade_date events ≡ Some now.day) (i j : ℕ) (picked : ArePicked events now i j) where
  abbrev near : Expiry
  near = picked.near

  abbrev next : Expiry
  next = picked.next

  abbrev f : TermFacts
  f = term_facts events now near

  abbrev g : TermFacts
  g = term_facts events now next

  differ : j ≢ i
  differ = places_differ now.day (declared_expiries events) i j near next picked.near_at picked.next_at picked.is_near picked.is_next

  module _ (mid : List Holding) (start count : ℕ) (memory : NoMemory) (p : IsTermKept f i before mid start count (Err memory)) where
    near_strips : (held : Holding) → slice_get before j ≡ Some held → TermStrips events now.minute before mid
    near_strips held is_held = record {
      day = now.day;
      day_is = day_is;
      near = near;
      is_near = picked.is_near;
      near_strip = record { place = i; is_place = picked.near_at; before = p.held; is_before = p.is_held; after = p.holds };
      next = next;
      is_next = picked.is_next;
      next_strip = record { place = j; is_place = picked.next_at; before = held; is_before = is_held; after = held };
      after_is = p.after_is ∙ sym (set_same (set before i p.holds) j held (get_unwritten before i j p.holds differ ∙ is_held));
    }

    -- where memory was refused for the near term, the next one's strip was not come to
    pub after_near_refused : (held : Holding) → slice_get before j ≡ Some held → AreKeptOtherwise events now.minute before mid start count
    unfolding near_strips
    after_near_refused held is_held =
        inr (strips_may_hold events now.minute before mid (near_strips held is_held) start count count
        (may_hold near f p.held p.holds start count (Err memory) tt p.kept) (not_reached g held count))

  module _ (mid after : List Holding) (start m count : ℕ) (a : TermAnswer SCALE) (result : Result (TermAnswer SCALE) NoMemory)
      (p : IsTermKept f i before mid start m (Ok a)) (q : IsTermKept g j mid after m count result) where
    both_strips : TermStrips events now.minute before after
    both_strips = record {
      day = now.day;
      day_is = day_is;
      near = near;
      is_near = picked.is_near;
      near_strip = record { place = i; is_place = picked.near_at; before = p.held; is_before = p.is_held; after = p.holds };
      next = next;
      is_next = picked.is_next;
      next_strip = record {
        place = j;
        is_place = picked.next_at;
        before = q.held;
        is_before = sym (get_unwritten before i j p.holds differ) ∙ sym (ap (λ l. slice_get l j) p.after_is) ∙ q.is_held;
        after = q.holds;
      };
      after_is = q.after_is ∙ ap (λ l. set l j q.holds) p.after_is;
    }

    -- after both terms were looked at each strip is what it was or the selected one
    pub both_may_hold : IsTermAnswer SCALE near f a → IfOk result (IsTermAnswer SCALE next g) → MayHoldStrips events now.minute before after start count
    unfolding both_strips
    both_may_hold h k =
        strips_may_hold events now.minute before after both_strips start m count
        (may_hold near f p.held p.holds start m (Ok a) h p.kept) (may_hold next g q.held q.holds m count result k q.kept)

  -- after the answers of both terms
  pub after_both : (mid after : List Holding) (start m count line days : ℕ) (a b : TermAnswer SCALE) → IsTermKept f i before mid start m (Ok a) → IsTermKept g j mid after m count (Ok b)
      → IsTermAnswer SCALE near f a → IsTermAnswer SCALE next g b → (result : Result TickAnswer NoMemory) → IfOk result (IsJoined line now.minute days a b)
      → AreKeptAfterTick events now.minute before after start count result
  unfolding both_strips
  after_both mid after start m count line days a b p q h k (Ok answer) joined =
      after_join events now.minute before after start count (both_strips mid after start m count a (Ok b) p q) m line days a b h k p.kept q.kept answer joined
  after_both mid after start m count line days a b p q h k (Err memory) joined = inr (both_may_hold mid after start m count a (Ok b) p q h k)
