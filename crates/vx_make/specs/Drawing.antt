-- The numbers that a sample feed draws (a linear congruential generator; its use here is this project's
-- own).
use Rattle.std.specs.Prelude.{ℕ, zero, suc, ◌+◌, ◌*◌, ◌/◌, ◌%◌}
use Rattle.vx_make.specs.declared.limits.TheConstants.{STATES, MULTIPLIER, INCREMENT, LOW_PART}

-- the state after a state
unfoldable pub next_state : ℕ → ℕ
next_state state = (state * MULTIPLIER + INCREMENT) % STATES

-- the number below n that is drawn from a state; the state's low part is left out
abbrev pub value_below : ℕ → ℕ → ℕ
value_below n state = state / LOW_PART % n

-- the state after so many draws
unfoldable pub state_after : ℕ → ℕ → ℕ
state_after zero state = state
state_after (suc draws) state = next_state (state_after draws state)
