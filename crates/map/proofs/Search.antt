-- Malloc's search: how far it has come, and each of its steps.
-- Assumes nothing.
use Prim.Native.Nat.{ℕ, suc, ◌+◌, ◌-◌, ◌*◌, ◌/◌, ◌%◌, ◌≤◌, ◌<◌}
use mathlib.Core.Path.{◌≡◌, refl, sym, ◌∙◌}
use mathlib.Core.Bool.{false}
use mathlib.Core.Logic.{◌≢◌}
use mathlib.Core.List.{List}
use native.Mathlib.Nat.{add-zero}
use native.Mathlib.Decide.{ℕ_discrete}
use native.Mathlib.Omega.{arith}
use lib.ListN.{get_or}
use Rattle.rules.specs.declared.Config.{Config}
use Rattle.std.specs.Prelude.{Some}
use Rattle.rules.specs.Memory.{radix, per_byte, layout_of, codes_of, heap_block, safe_block, map_byte, code_of, free_code, is_free}
use Rattle.address.specs.Places.{to_whole}
use Rattle.rules.specs.Malloc.{block, first_run, lowest_run}
use Rattle.laws.proofs.Tests.{by_test}
use Rattle.laws.proofs.Search.{free_block, block_free, free_run_lem, search_here, search_skip}
use Rattle.map.proofs.Halves.{low_half, next_half, codes_alike}

-- of a run of n free blocks from start on, run are found; the next block is even, and its code stands at byte at
pub record Sought (c : Config) (ram : List ℕ) (n start run at : ℕ) : Type 0 where
  pub even : (start + run) % 2 ≡ 0
  pub place : at ≡ map_byte (layout_of c) (start + run)
  pub in_heap : heap_block c ≤ start
  pub free : (j : ℕ) → start ≤ j → j < start + run → code_of (layout_of c) ram j ≡ free_code (layout_of c)
  pub same : lowest_run c (codes_of c ram) n ≡ first_run c (codes_of c ram) n start (safe_block c - start)

module _ (c : Config) (ram : List ℕ) (n : ℕ) where
  not_free : (j : ℕ) → code_of (layout_of c) ram j ≢ free_code (layout_of c) → is_free c (codes_of c ram) j ≡ false
  not_free j other = by_test (is_free c (codes_of c ram) j) (λ t. absurd (other (free_block c (codes_of c ram) j t).2)) (λ t. t)

  -- the next start is behind a block that is not free
  broken : (k run : ℕ) → run < n → code_of (layout_of c) ram (k + run) ≢ free_code (layout_of c)
      → first_run c (codes_of c ram) n k (safe_block c - k) ≡ first_run c (codes_of c ram) n (k + run + 1) (safe_block c - (k + run + 1))
  broken k run h other =
      let next : suc (k + run) ≡ k + run + 1 = omega arith in
      let left : safe_block c - k - (suc (k + run) - k) ≡ safe_block c - (k + run + 1) = omega arith in
      search_skip c (codes_of c ram) n k (safe_block c - k) (k + run) (omega arith) (omega arith) (not_free (k + run) other) ∙ rw (left, next)

  -- before the first byte: an odd block alone, of which r are free
  pub sought_first : (k r : ℕ) → k ≡ heap_block c → 0 < n → r ≤ to_whole (layout_of c) k → (0 < r → code_of (layout_of c) ram k ≡ free_code (layout_of c))
      → (r < to_whole (layout_of c) k → code_of (layout_of c) ram k ≢ free_code (layout_of c)) → Sought c ram n (k + to_whole (layout_of c) k - r) r (map_byte (layout_of c) (k + to_whole (layout_of c) k))
  unfolding lowest_run to_whole per_byte
  sought_first k r heap some few free used =
      let back : k + to_whole (layout_of c) k - r + r ≡ k + to_whole (layout_of c) k = omega arith in record {
        even = rw back (omega arith);
        place = rw back refl;
        in_heap = omega arith;
        free = λ j l u. let here : j ≡ k = omega arith in rw here (free (omega arith));
        same = elim (ℕ_discrete r (to_whole (layout_of c) k)) [
          | yes e ↦ let here : k + to_whole (layout_of c) k - r ≡ k = omega arith in rw (here, heap) refl
          | no d ↦ let next : k + to_whole (layout_of c) k - r ≡ k + 0 + 1 = omega arith in rw (← heap, next) (broken k 0 some (rw add-zero (used (omega arith))))
        ];
      }

  module _ (start run at : ℕ) (s : Sought c ram n start run at) where
    -- a byte of free blocks
    pub sought_more : get_or ram at 0 ≡ free_code (layout_of c) * radix (layout_of c) + free_code (layout_of c) → Sought c ram n start (run + 2) (at + 1)
    unfolding map_byte per_byte radix free_code
    sought_more byte =
        let both = codes_alike c.bot ram (start + run) at s.place s.even 15 (omega arith) byte in record {
          even = omega (arith, s.even);
          place = omega (arith, s.place, s.even);
          in_heap = s.in_heap;
          free = λ j l u. elim (ℕ_discrete j (start + run)) [
            | yes e ↦ rw e both.0
            | no d ↦ elim (ℕ_discrete j (start + run + 1)) [ yes e ↦ rw e both.1 | no f ↦ s.free j l (omega arith) ]
          ];
          same = s.same;
        }

    -- one that is not: the search starts anew at its end, with r free blocks
    pub sought_anew : (r : ℕ) → run < n → get_or ram at 0 < 256 → get_or ram at 0 ≢ free_code (layout_of c) * radix (layout_of c) + free_code (layout_of c)
        → (run + 1 ≡ n → get_or ram at 0 % radix (layout_of c) ≢ free_code (layout_of c)) → r ≤ 1 → (r ≡ 1 → get_or ram at 0 / radix (layout_of c) ≡ free_code (layout_of c))
        → (r ≡ 0 → get_or ram at 0 / radix (layout_of c) ≢ free_code (layout_of c)) → Sought c ram n (start + run + 2 - r) r (at + 1)
    unfolding map_byte per_byte radix free_code
    sought_anew r h byte mixed short few free used =
        let low : get_or ram at 0 % 16 ≡ code_of (layout_of c) ram (start + run) = low_half c.bot ram (start + run) at s.place s.even in
        let high : get_or ram at 0 / 16 ≡ code_of (layout_of c) ram (start + run + 1) = next_half c.bot ram (start + run) at s.place s.even byte in
        let back : start + run + 2 - r + r ≡ start + run + 2 = omega arith in record {
          even = rw back (omega (arith, s.even));
          place = rw back (omega (arith, s.place, s.even));
          in_heap = omega (arith, s.in_heap);
          free = λ j l u. let here : j ≡ start + run + 1 = omega arith in rw here (sym high ∙ free (omega arith));
          same = s.same ∙ elim (ℕ_discrete r 1) [
            | yes e ↦
                let next : start + run + 2 - r ≡ start + run + 1 = omega arith in
                rw next (broken start run h (λ f. mixed (omega (arith, low, free e))))
            | no d ↦ elim (ℕ_discrete (get_or ram at 0 % 16) 15) [
              | yes l ↦
                  let next : start + run + 2 - r ≡ start + (run + 1) + 1 = omega arith in
                  let second : start + (run + 1) ≡ start + run + 1 = omega arith in
                  let more : run + 1 ≢ n = λ e. short e l in
                  rw next (broken start (run + 1) (omega arith) (rw second (λ f. used (omega arith) (high ∙ f))))
              | no l ↦
                  let next : start + run + 2 - r ≡ start + run + 1 + 0 + 1 = omega arith in
                  rw next (broken start run h (λ f. l (low ∙ f)) ∙ broken (start + run + 1) 0 (omega arith) (rw add-zero (λ f. used (omega arith) (high ∙ f))))
            ]
          ];
        }

    -- the run is complete, or is with the first block of a byte
    found : start + n ≤ safe_block c → 0 < n → ((j : ℕ) → start ≤ j → j < start + n → code_of (layout_of c) ram j ≡ free_code (layout_of c)) → lowest_run c (codes_of c ram) n ≡ Some (block start)
    found fits some all =
        let left : safe_block c - start ≡ suc (safe_block c - (start + 1)) = omega arith in
        let free = free_run_lem c (codes_of c ram) n start (λ j l u. block_free c (codes_of c ram) j (omega (arith, s.in_heap)) (omega arith) (all j l u)) in
        s.same ∙ rw left (search_here c (codes_of c ram) n start (safe_block c - (start + 1)) free)

    pub sought_found : n ≤ run → start + n ≤ safe_block c → 0 < n → lowest_run c (codes_of c ram) n ≡ Some (block start)
    sought_found all fits some = found fits some (λ j l u. s.free j l (omega arith))

    pub sought_completed : run + 1 ≡ n → get_or ram at 0 % radix (layout_of c) ≡ free_code (layout_of c) → start + n ≤ safe_block c → lowest_run c (codes_of c ram) n ≡ Some (block start)
    unfolding radix free_code
    sought_completed last first fits =
        let low = low_half c.bot ram (start + run) at s.place s.even in
        found fits (omega arith)
        (λ j l u. elim (ℕ_discrete j (start + run)) [ yes e ↦ rw e (sym low ∙ first) | no d ↦ s.free j l (omega arith) ])
