-- How many gates each circuit has at width n.
use Rattle.std.specs.Prelude.{ℕ, ◌+◌, ◌-◌, ◌*◌}

abbrev pub mul_size : ℕ → ℕ
mul_size n = n * (2 * n - 1)

abbrev pub divide_size : ℕ → ℕ
divide_size n = 4 * n * (n + 1)

-- two absolute values and a division
abbrev pub magnitudes_size : ℕ → ℕ
magnitudes_size n = 8 * n + divide_size n

abbrev pub sdiv_size : ℕ → ℕ
sdiv_size n = magnitudes_size n + 4 * n + 1

abbrev pub srem_size : ℕ → ℕ
srem_size n = magnitudes_size n + 4 * n

abbrev pub smod_size : ℕ → ℕ
smod_size n = magnitudes_size n + 10 * n + 2
