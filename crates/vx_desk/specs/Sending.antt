-- What `send` does to its slot.
use Rattle.std.specs.Prelude.{◌≡◌, ℕ, ◌<◌, List, length, take, Result, IfErr, MatchResult}
use Rattle.std.specs.Io.KnownBytes.{append_known}
use Rattle.vx_desk.specs.declared.sending.SendFault.{SendFault}
use Rattle.vx_desk.specs.declared.sending.SendFault.TheVariants.{Device}
use Rattle.vx_desk.specs.Told.{Told, Rose, ChangesWrites}

-- how many bytes went out before the failure
abbrev pub count_sent : SendFault → ℕ
count_sent (Device n) = n

-- all bytes went out; or a write failed, and exactly the first ones went out before
pub record Sends {T : Type 0} (bytes : List ℕ) (old new : Told) (result : Result T SendFault) : Type 0 where
  pub within : IfErr result (λ fault. count_sent fault < length bytes)
  pub moved : MatchResult result (λ _. new.sent ≡ append_known old.sent bytes) (λ fault. new.sent ≡ append_known old.sent (take (count_sent fault) bytes))
  pub writes : MatchResult result (λ _. new.failed_writes ≡ old.failed_writes) (λ _. Rose old.failed_writes new.failed_writes)
  pub rest : ChangesWrites old new
