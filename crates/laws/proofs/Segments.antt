-- Segments: how many blocks continue one, and the steps of counting them.
-- Assumes nothing.
use Rattle.std.proofs.Common.{ℕ, zero, suc, ◌+◌, ◌-◌, ◌<◌, ◌≤◌, ◌≡◌, refl, ◌≢◌, arith, ltb, eq-eqb, ne_eqb, ltb-true, ltb-false}
use Rattle.std.proofs.Math.Decide.{ℕ_discrete}
use Rattle.rules.specs.declared.Config.{Config}
use Rattle.rules.specs.Memory.{safe_block, layout_of, Codes, later_code, owner_of}
use Rattle.rules.specs.Free.{continued, segment_blocks}
use Rattle.laws.proofs.Tests.{by_test}

module _ (c : Config) (codes : Codes) where
  -- ---- the steps of counting

  pub continued_end : (d k : ℕ) → continued c codes d k 0 ≡ 0
  unfolding continued
  continued_end d k = refl

  pub continued_more : (d k left : ℕ) → codes k ≡ later_code (layout_of c) d
      → continued c codes d k (suc left) ≡ suc (continued c codes d (suc k) left)
  unfolding continued
  continued_more d k left e = rw (eq-eqb _ _ e)

  pub continued_stop : (d k left : ℕ) → codes k ≢ later_code (layout_of c) d → continued c codes d k (suc left) ≡ 0
  unfolding continued
  continued_stop d k left n = rw (ne_eqb _ _ n)

  -- ---- what is counted

  pub continued_le : (d k left : ℕ) → continued c codes d k left ≤ left
  continued_le d k zero = rw (continued_end d k) (omega arith)
  continued_le d k (suc left) =
      elim (ℕ_discrete (codes k) (later_code (layout_of c) d)) [
        | yes e ↦ rw (continued_more d k left e) (omega (arith, continued_le d (suc k) left))
        | no n ↦ rw (continued_stop d k left n) (omega arith)
      ]

  -- each block counted continues the segment
  pub continued_code : (d k left : ℕ) → (j : ℕ) → k ≤ j → j < k + continued c codes d k left → codes j ≡ later_code (layout_of c) d
  continued_code d k zero j l u = absurd (omega (arith, continued_end d k))
  continued_code d k (suc left) j l u =
      elim (ℕ_discrete (codes k) (later_code (layout_of c) d)) [
        | yes e ↦
            elim (ℕ_discrete j k) [
              | yes q ↦ rw q e
              | no m ↦ continued_code d (suc k) left j (omega arith) (omega (arith, continued_more d k left e))
            ]
        | no n ↦ absurd (omega (arith, continued_stop d k left n))
      ]

  -- and the block behind them, if it was looked at, does not
  pub continued_last : (d k left j : ℕ) → j ≡ k + continued c codes d k left → continued c codes d k left < left
      → codes j ≢ later_code (layout_of c) d
  continued_last d k zero j q l = absurd (omega arith)
  continued_last d k (suc left) j q l =
      elim (ℕ_discrete (codes k) (later_code (layout_of c) d)) [
        | yes e ↦
            let m : continued c codes d k (suc left) ≡ suc (continued c codes d (suc k) left) = continued_more d k left e in
            continued_last d (suc k) left j (omega arith) (omega arith)
        | no n ↦ let i : j ≡ k = omega (arith, continued_stop d k left n) in rw i n
      ]

  -- so n blocks are counted, if n continue the segment and the one behind them does not
  pub continued_is : (d k left n : ℕ) → n ≤ left → ((j : ℕ) → k ≤ j → j < k + n → codes j ≡ later_code (layout_of c) d)
      → (n < left → codes (k + n) ≢ later_code (layout_of c) d) → continued c codes d k left ≡ n
  continued_is d k left n l on off =
      elim (ℕ_discrete (continued c codes d k left) n) [
        | yes e ↦ e
        | no q ↦
            by_test (ltb n (continued c codes d k left))
            (λ t.
            let m : n < continued c codes d k left = ltb-true _ _ t in
            absurd (off (omega (arith, continued_le d k left)) (continued_code d k left (k + n) (omega arith) (omega arith))))
            (λ t.
            let m : continued c codes d k left < n = omega (arith, ltb-false n (continued c codes d k left) t) in
            absurd (continued_last d k left (k + continued c codes d k left) refl (omega arith)
            (on (k + continued c codes d k left) (omega arith) (omega arith))))
      ]

  -- ---- a segment

  pub segment_some : (k : ℕ) → 0 < segment_blocks c codes k
  unfolding segment_blocks
  segment_some k = omega arith

  -- n blocks from k on are a segment of the owner of block k, if those behind the first continue it and the next block does not
  pub segment_is : (d k n : ℕ) → owner_of (layout_of c) (codes k) ≡ d → 0 < n → k + n ≤ safe_block c
      → ((j : ℕ) → k < j → j < k + n → codes j ≡ later_code (layout_of c) d)
      → (k + n < safe_block c → codes (k + n) ≢ later_code (layout_of c) d) → segment_blocks c codes k ≡ n
  unfolding segment_blocks
  segment_is d k n owner some fits on off =
      let e : suc k + (n - 1) ≡ k + n = omega arith in
      let count =
      continued_is d (suc k) (safe_block c - suc k) (n - 1) (omega arith) (λ j l u. on j l (omega arith))
      (λ l q. off (omega arith) (rw e at q)) in
      rw (owner, count) (omega arith)

  pub segment_in_heap : (k : ℕ) → k < safe_block c → k + segment_blocks c codes k ≤ safe_block c
  unfolding segment_blocks
  segment_in_heap k h =
      omega (arith, continued_le (owner_of (layout_of c) (codes k)) (suc k) (safe_block c - suc k))
