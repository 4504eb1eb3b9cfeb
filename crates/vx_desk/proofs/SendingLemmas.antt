-- Steps of `send`, over what is told of its slot.
use Rattle.std.proofs.Common.{◌≡◌, ℕ, ◌+◌, ◌<◌, ◌≤◌, List, [], ◌++◌, length, take, drop, Ok, Option, Some, None, refl, sym, ◌∙◌, ap, arith, append_assoc, rules}
use Rattle.std.proofs.lemmas.Grind.{common_steps}
use Rattle.std.proofs.lemmas.List.{drop-take, take-take, take-append-drop}
use Rattle.std.specs.Io.KnownBytes.{append_known}
use Rattle.vx_desk.specs.Told.{Told, ChangesWrites, Writes}

-- the first n bytes went out, and no write failed
pub record SentSoFar (bytes : List ℕ) (n : ℕ) (old new : Told) : Type 0 where
  pub within : n ≤ length bytes
  pub moved : new.sent ≡ append_known old.sent (take n bytes)
  pub writes : new.failed_writes ≡ old.failed_writes
  pub rest : ChangesWrites old new

-- what was sent, with nothing after it
pub append_known-nil : (known : Option (List ℕ)) → append_known known [] ≡ known
append_known-nil None = refl
append_known-nil (Some xs) = ap Some (search rules)

-- two pieces sent one after the other
pub append_known-append : (known : Option (List ℕ)) (xs ys : List ℕ) → append_known (append_known known xs) ys ≡ append_known known (xs ++ ys)
append_known-append None xs ys = refl
append_known-append (Some zs) xs ys = ap Some (append_assoc zs xs ys)

-- one change of what is written after another is one
pub ChangesWrites-trans : {a b c : Told} → ChangesWrites a b → ChangesWrites b c → ChangesWrites a c
ChangesWrites-trans p q = record {
  left = q.left ∙ p.left;
  is_open = q.is_open ∙ p.is_open;
  name = q.name ∙ p.name;
  opens = q.opens ∙ p.opens;
  reads = q.reads ∙ p.reads;
}

-- nothing is sent yet
pub SentSoFar-start : (bytes : List ℕ) (t : Told) → SentSoFar bytes 0 t t
SentSoFar-start bytes t = record {
  within = omega arith;
  moved = sym (append_known-nil t.sent);
  writes = refl;
  rest = record { left = refl; is_open = refl; name = refl; opens = refl; reads = refl };
}

-- the first bytes, and the next of those behind them, are the first of both counts
pub take-more : (xs : List ℕ) (n k : ℕ) → take n xs ++ take k (drop n xs) ≡ take (n + k) xs
take-more xs n k =
    ap (λ ys. take n xs ++ ys) (sym (drop-take n k xs)) ∙ (ap (λ ys. ys ++ drop n (take (n + k) xs)) (sym (take-take n (n + k) xs (omega arith))) ∙ take-append-drop n (take (n + k) xs))

-- one more write that takes some bytes
pub SentSoFar-more : (bytes : List ℕ) (n k : ℕ) (old mid new : Told) → SentSoFar bytes n old mid → n < length bytes
    → Writes (drop n bytes) mid new (Ok k) → SentSoFar bytes (n + k) old new
SentSoFar-more bytes n k old mid new p lt q = record {
  within = let h : k ≤ length (drop n bytes) = q.within in grind (arith, common_steps);
  moved = q.moved ∙ (ap (λ s. append_known s (take k (drop n bytes))) p.moved ∙ (append_known-append old.sent (take n bytes) (take k (drop n bytes)) ∙ ap (append_known old.sent) (take-more bytes n k)));
  writes = q.writes ∙ p.writes;
  rest = ChangesWrites-trans p.rest q.rest;
}
