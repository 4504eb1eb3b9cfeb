-- What the loop over the terms has collected before place k.
use Rattle.std.proofs.Common.{◌≡◌, ℕ, ◌≤◌, List, length, get_or}

-- a loop has gathered the terms up to the k-th, the last of them and their sum
pub record Collects (term sum : ℕ → ℕ) (k : ℕ) (terms : List ℕ) (last added : ℕ) : Type 0 where
  pub count : length terms ≡ 14
  pub each : (j : ℕ) → j ≤ k → get_or terms j 0 ≡ term j
  pub last_is : last ≡ term k
  pub added_is : added ≡ sum k
