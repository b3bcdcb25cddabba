-- The two codes of a map byte, by quotient and remainder. Here, as in the code, a code is one of 16 and a byte holds two.
-- Assumes nothing.
use Prim.Native.Nat.{ℕ, suc, ◌^◌, ◌+◌, ◌-◌, ◌*◌, ◌/◌, ◌%◌, ◌<◌}
use mathlib.Core.Path.{◌≡◌, sym, ap, ◌∙◌}
use mathlib.Core.Logic.{◌≢◌}
use mathlib.Core.List.{List}
use native.Mathlib.Decide.{ℕ_discrete}
use native.Mathlib.Omega.{arith}
use lib.ListN.{length, get_or, set}
use lib.Seq.{get_or-set_same, set-set}
use Rattle.rules.specs.declared.RamByte.{RamByte}
use Rattle.rules.specs.Memory.{radix, per_byte, digit, set_digit, map_byte, map_digit, code_of, set_code}
use Rattle.rules.specs.State.{ram_byte}
use Rattle.address.specs.Places.{map_at}

-- the number of an address that is known
pub byte_at : {a : RamByte} {n : ℕ} → a ≡ ram_byte n → a.0 ≡ n
byte_at e = ap (λ (a : RamByte). a.0) e

-- what holds of both digits and their weights holds of a block's
pub by_weight : (bot : RamByte) (k w : ℕ) → w ≡ radix (map_at bot) ^ map_digit (map_at bot) k → (P : ℕ → ℕ → Type 0) → P 0 1 → P 1 16 → P (map_digit (map_at bot) k) w
unfolding radix map_digit per_byte
by_weight bot k w weighs P low high =
    elim (ℕ_discrete (k % 2) 0) [ yes e ↦ rw (weighs, e) low | no d ↦ let one : k % 2 ≡ 1 = omega arith in rw (weighs, one) high ]

module _ (bot : RamByte) (ram : List ℕ) (k at : ℕ) (place : at ≡ map_byte (map_at bot) k) where
  pub low_half : k % 2 ≡ 0 → get_or ram at 0 % 16 ≡ code_of (map_at bot) ram k
  unfolding code_of digit radix map_digit per_byte
  low_half even = rw (place, even)

  pub high_half : (k % 2 ≡ 0 → ⊥) → get_or ram at 0 < 256 → get_or ram at 0 / 16 ≡ code_of (map_at bot) ram k
  unfolding code_of digit radix map_digit per_byte
  high_half odd byte = let one : k % 2 ≡ 1 = omega arith in rw (← place, one) (omega arith)

  pub set-low : (v : ℕ) → k % 2 ≡ 0 → set ram at (get_or ram at 0 / 16 * 16 + v) ≡ set_code (map_at bot) ram k v
  unfolding set_code set_digit radix map_digit per_byte
  set-low v even = rw (place, even)

  pub set-high : (v : ℕ) → (k % 2 ≡ 0 → ⊥) → get_or ram at 0 < 256 → set ram at (v * 16 + get_or ram at 0 % 16) ≡ set_code (map_at bot) ram k v
  unfolding set_code set_digit radix map_digit per_byte
  set-high v odd byte =
      let one : k % 2 ≡ 1 = omega arith in
      rw (← place, one) (ap (set ram at) (omega arith))

-- both codes of a byte at once, from an even block on
pub set_both : (bot : RamByte) (ram : List ℕ) (k at low high : ℕ) → at ≡ map_byte (map_at bot) k → k % 2 ≡ 0 → at < length ram → get_or ram at 0 < 256 → low < 16
    → set ram at (high * 16 + low) ≡ set_code (map_at bot) (set_code (map_at bot) ram k low) (suc k) high
unfolding set_code set_digit radix map_digit per_byte map_byte
set_both bot ram k at low high place even inside byte small =
    let same : bot.0 + suc k / 2 ≡ bot.0 + k / 2 = omega arith in
    let one : suc k % 2 ≡ 1 = omega arith in
    rw (same, one, even, ← place, get_or-set_same ram at (get_or ram at 0 / 16 * 16 + low) 0 inside, set-set) (ap (set ram at) (omega arith))

module _ (bot : RamByte) (ram : List ℕ) (k at : ℕ) (place : at ≡ map_byte (map_at bot) k) (even : k % 2 ≡ 0) where
  behind : at ≡ map_byte (map_at bot) (k + 1)
  unfolding map_byte per_byte
  behind = omega arith

  pub next_half : get_or ram at 0 < 256 → get_or ram at 0 / 16 ≡ code_of (map_at bot) ram (k + 1)
  next_half = high_half bot ram (k + 1) at behind (λ q. omega arith)

  -- a byte whose codes are both v
  pub codes_alike : (v : ℕ) → v < 16 → get_or ram at 0 ≡ v * 16 + v → (code_of (map_at bot) ram k ≡ v) × (code_of (map_at bot) ram (k + 1) ≡ v)
  codes_alike v small e =
      (sym (low_half bot ram k at place even) ∙ omega arith, sym (next_half (omega arith)) ∙ omega arith)

-- so the codes of n such bytes are all v, and not both of the next byte where that is another
module _ (bot : RamByte) (ram : List ℕ) (k at n v : ℕ) (place : at ≡ map_byte (map_at bot) k) (even : k % 2 ≡ 0) where
  pub codes_of_bytes : v < 16 → ((i : ℕ) → i < n → get_or ram (at + i) 0 ≡ v * 16 + v) → (i : ℕ) → i < n * 2 → code_of (map_at bot) ram (k + i) ≡ v
  unfolding map_byte per_byte
  codes_of_bytes small same i l =
      let byte = same (i / 2) (omega arith) in
      elim (ℕ_discrete ((k + i) % 2) 0) [
        | yes q ↦ (codes_alike bot ram (k + i) (at + i / 2) (omega arith) q v small byte).0
        | no q ↦
            let one : k + i - 1 + 1 ≡ k + i = omega arith in
            rw one at (codes_alike bot ram (k + i - 1) (at + i / 2) (omega arith) (omega arith) v small byte).1
      ]

  pub codes_differ : get_or ram (at + n) 0 < 256 → get_or ram (at + n) 0 ≢ v * 16 + v → code_of (map_at bot) ram (k + n * 2) ≡ v → code_of (map_at bot) ram (k + (n * 2 + 1)) ≢ v
  unfolding map_byte per_byte
  codes_differ byte other low high =
      let next : k + (n * 2 + 1) ≡ k + n * 2 + 1 = omega arith in
      let high' = rw next at high in
      other (omega (arith, low_half bot ram (k + n * 2) (at + n) (omega arith) (omega arith), next_half bot ram (k + n * 2) (at + n) (omega arith) (omega arith) byte))
