-- Numbers drawn one after another from a state.
use Rattle.std.specs.Prelude.{ℕ, zero, suc, ◌+◌, ◌*◌, ◌/◌, ◌%◌}

-- the state behind a draw
abbrev pub next : ℕ → ℕ
next state = (1103515245 * state + 12345) % 2147483648

-- behind so many draws
abbrev pub next_by : ℕ → ℕ → ℕ
next_by zero state = state
next_by (suc n) state = next_by n (next state)

-- which of so many numbers was drawn, by the state behind the draw
abbrev pub drawn : ℕ → ℕ → ℕ
drawn state of = (state / 256) % of
