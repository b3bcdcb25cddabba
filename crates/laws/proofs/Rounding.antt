-- Division rounded up, over any divisor above 0.
-- Assumes nothing.
use Rattle.std.proofs.Common.{ℕ, suc, ◌+◌, ◌-◌, ◌*◌, ◌<◌, ◌≤◌, div-mul-le_self, div-lt_iff_lt-mul, suc-mul, le-mul_of_pos_right, lt_of_mul-lt-mul_right, arith}
use Rattle.std.proofs.Math.Nat.{lt-div-mul-add}
use Rattle.rules.specs.Memory.{divided_up}

module _ {d : ℕ} (pos : 0 < d) where
  -- the parts hold it
  pub up_holds : (n : ℕ) → n ≤ divided_up n d * d
  unfolding divided_up
  up_holds n = omega (arith, lt-div-mul-add {a = n + (d - 1)} pos)

  -- with less than one part to spare
  pub up_less : (n : ℕ) → divided_up n d * d < n + d
  unfolding divided_up
  up_less n = omega (arith, div-mul-le_self (n + (d - 1)) d)

  -- and no fewer would
  pub up_least : {n : ℕ} (k : ℕ) → n ≤ k * d → divided_up n d ≤ k
  unfolding divided_up
  up_least {n} k h = omega (arith, (div-lt_iff_lt-mul {k = d} {x = n + (d - 1)} {y = suc k} pos).1 (omega (arith, suc-mul k d)))

  pub up_le : (n : ℕ) → divided_up n d ≤ n
  up_le n = up_least n (le-mul_of_pos_right n pos)

  pub up_pos : {n : ℕ} → 0 < n → 0 < divided_up n d
  up_pos {n} h = lt_of_mul-lt-mul_right d (omega (arith, up_holds n))
