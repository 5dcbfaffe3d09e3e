-- The power of ten that a number's first digit counts.
use Rattle.std.specs.Prelude.{◌≡◌, ℕ, ◌+◌, ◌-◌, ◌*◌, ◌^◌, ◌≤◌, ◌<◌}

-- p is a power of ten, ten of it are more than n, and it is at most n; or it is 1, and n is 0
pub record Leads (n p : ℕ) : Type 0 where
  pub place : ℕ
  pub power : p ≡ 10 ^ place
  pub low : p ≤ n + (1 - n)
  pub high : n < 10 * p
