-- What malloc, free and change find and write: a segment's codes, and a run of heap blocks.
-- Assumes nothing.
use Prim.Native.Nat.{ℕ, zero, suc, ◌+◌, ◌-◌, ◌<◌, ◌≤◌}
use mathlib.Core.Path.{◌≡◌, refl}
use mathlib.Core.Bool.{true, false}
use mathlib.Core.List.{List, ◌∷◌}
use native.Mathlib.Omega.{arith}
use lib.ListN.{replicate}
use borrow.Author.Tests.{eq-eqb, ne_eqb}
use Rattle.std.specs.Prelude.{Option, Some, None, Ok, Err}
use Rattle.rules.specs.declared.RamByte.{RamByte}
use Rattle.rules.specs.declared.Block.{Block}
use Rattle.rules.specs.declared.Config.{Config}
use Rattle.rules.specs.declared.State.{State}
use Rattle.rules.specs.declared.Operation.TheVariants.{Malloc, Change}
use Rattle.rules.specs.declared.Refusal.TheVariants.{DomainAbove}
use Rattle.rules.specs.Memory.{ram_bytes, Layout, layout_of, Codes, codes_of, start_of, block_of, blocks_for, safe_block, map_byte, set_codes, radix, is_domain, is_module, start_code, later_code, segment_codes}
use Rattle.rules.specs.State.{ram_byte, good_config, good_state}
use Rattle.rules.specs.Store.{is_trusted}
use Rattle.rules.specs.Malloc.{block, lowest_run, room_for, malloc_rows}
use Rattle.rules.specs.Free.{segment_blocks, blocks_at, free_rows, change_rows}
use Rattle.rules.specs.Operations.{ram_after}
use Rattle.laws.proofs.Blocks.{block_start, start_from, blocks_for_pos}
use Rattle.laws.proofs.Codes.{domain_at, start_code_lt, later_code_lt}
use Rattle.laws.proofs.Good.{good_config-true, good_state-facts}
use Rattle.laws.proofs.Search.{found_in_heap}
use Rattle.laws.proofs.Segments.{segment_some, segment_in_heap}
use Rattle.map.specs.Runs.{run_of}
use Rattle.operations.specs.Places.{OwnSegment}
use Rattle.operations.proofs.Good.{good_bounds, block<safe, run_in_ram}

pub config_good : (s : State) → good_state s ≡ true → good_config s.config ≡ true
config_good s h = good_config-true s.config (good_state-facts s h).config

-- ---- the codes of a segment, as the map's code writes them

pub segment_run : (m : Layout) (d n : ℕ) → 0 < n → start_code m d ∷ replicate (n - 1) (later_code m d) ≡ segment_codes m d n
segment_run m d zero h = absurd (omega arith)
segment_run m d (suc n) h = let e : suc n - 1 ≡ n = omega arith in rw e

pub codes_lt : (c : Config) (d : ℕ) → is_domain c d ≡ true
    → (start_code (layout_of c) d < radix (layout_of c)) × (later_code (layout_of c) d < radix (layout_of c))
codes_lt c d h = (start_code_lt (layout_of c) d (domain_at c d h), later_code_lt (layout_of c) d (domain_at c d h))

-- ---- the segment that free and change find

module _ (s : State) (codes : Codes) (a : RamByte) (own : OwnSegment s codes a) where
  pub own_inside : (s.config.heap.0 ≤ a.0) × (a.0 < s.config.safe.0)
  own_inside = let (from, to, _, _) = own in (from, to)

  pub own_from : good_state s ≡ true → s.config.bot.0 ≤ a.0
  own_from good = let (heap, _, _, _, _) = good_bounds s good in omega (arith, own_inside.0)

  pub own_codes : good_state s ≡ true → map_byte (layout_of s.config) (block_of s.config a + (blocks_at s codes a - 1)) < ram_bytes
  own_codes good =
      let before = block<safe s good a own_inside.0 own_inside.1 in
      run_in_ram s good (block_of s.config a) (blocks_at s codes a) (segment_some s.config codes (block_of s.config a))
      (segment_in_heap s.config codes (block_of s.config a) before)

  pub free_answer : free_rows s codes a ≡ Ok (blocks_at s codes a)
  free_answer = let (_, _, starts, owned) = own in simp (starts, eq-eqb _ _ owned)

  module _ (d : ℕ) where
    pub change_answer : is_module s.config d ≡ true → change_rows s codes a d ≡ Ok (blocks_at s codes a)
    change_answer h = let (_, _, starts, owned) = own in simp (starts, eq-eqb _ _ owned, h)

    pub change_above : is_module s.config d ≡ false → Err DomainAbove ≡ change_rows s codes a d
    change_above h = let (_, _, starts, owned) = own in simp (starts, eq-eqb _ _ owned, h)

pub change_ram : (s : State) (ram : List ℕ) (a : RamByte) (d : ℕ)
    → set_codes (layout_of s.config) ram (block_of s.config a)
    (start_code (layout_of s.config) d ∷ replicate (blocks_at s (codes_of s.config ram) a - 1) (later_code (layout_of s.config) d))
    ≡ ram_after (layout_of s.config) s ram (Change a d)
change_ram s ram a d =
    rw
    (segment_run (layout_of s.config) d (blocks_at s (codes_of s.config ram) a) (segment_some s.config (codes_of s.config ram) (block_of s.config a)))

pub own_run : (s : State) (codes : Codes) (a : RamByte) → good_state s ≡ true → s.config.heap.0 ≤ a.0 → a.0 < s.config.safe.0
    → (0 < segment_blocks s.config codes (block_of s.config a))
    × (block_of s.config a + segment_blocks s.config codes (block_of s.config a) ≤ safe_block s.config)
own_run s codes a good from to =
    let before = block<safe s good a from to in
    (segment_some s.config codes (block_of s.config a), segment_in_heap s.config codes (block_of s.config a) before)

-- ---- malloc's run

-- the run that was found starts at a: with the block of a, whose first byte a is
run_at : (c : Config) (f : Option Block) (a : RamByte) → run_of c f ≡ Some a
    → (f ≡ Some (block (block_of c a))) × (start_of c (block_of c a) ≡ a.0) × (c.bot.0 ≤ a.0)
run_at c (Some k) a h =
    let e : ram_byte (start_of c k.0) ≡ a = cc in
    rw (← e, block_start c k.0) (refl, refl, start_from c k.0)
run_at c None a h = absurd (let z : ◌≡◌ {A = ℕ} 0 1 = cc in omega arith)

pub run_nowhere : (c : Config) (f : Option Block) → run_of c f ≡ None → f ≡ None
run_nowhere c (Some k) h = absurd (let z : ◌≡◌ {A = ℕ} 0 1 = cc in omega arith)
run_nowhere c None h = refl

module _ (s : State) (codes : Codes) (n : ℕ) (a : RamByte) (h : run_of s.config (lowest_run s.config codes n) ≡ Some a) where
  pub found_from : s.config.bot.0 ≤ a.0
  found_from = let (_, _, from) = run_at s.config (lowest_run s.config codes n) a h in from

  pub found_run : 0 < n
      → (lowest_run s.config codes n ≡ Some (block (block_of s.config a)))
      × (start_of s.config (block_of s.config a) ≡ a.0)
      × (block_of s.config a + n ≤ safe_block s.config)
  found_run some =
      let (found, start, from) = run_at s.config (lowest_run s.config codes n) a h in
      (found, start, found_in_heap s.config codes n (block (block_of s.config a)) found some)

-- where malloc may take the free run from address a on
module _ (a : RamByte) (s : State) (ram : List ℕ) (size : ℕ) (untrusted : is_trusted s ≡ false) (some : 0 < size)
    (lowest : run_of s.config (room_for s (codes_of s.config ram) size) ≡ Some a) where
  found : (room_for s (codes_of s.config ram) size ≡ Some (block (block_of s.config a)))
      × (start_of s.config (block_of s.config a) ≡ a.0)
      × (block_of s.config a + blocks_for s.config size ≤ safe_block s.config)
  found = found_run s (codes_of s.config ram) (blocks_for s.config size) a lowest (blocks_for_pos s.config some)

  pub room_from : s.config.bot.0 ≤ a.0
  room_from = found_from s (codes_of s.config ram) (blocks_for s.config size) a lowest

  pub room_codes : good_state s ≡ true → map_byte (layout_of s.config) (block_of s.config a + (blocks_for s.config size - 1)) < ram_bytes
  room_codes good =
      let (_, _, fits) = found in
      run_in_ram s good (block_of s.config a) (blocks_for s.config size) (blocks_for_pos s.config some) fits

  pub malloc_answer : Ok a.0 ≡ malloc_rows s (codes_of s.config ram) size
  malloc_answer = let (at, start, _) = found in rw (untrusted, ne_eqb size 0 (omega (arith, some)), at, start)

  pub malloc_ram : set_codes (layout_of s.config) ram (block_of s.config a)
      (start_code (layout_of s.config) s.domain ∷ replicate (blocks_for s.config size - 1) (later_code (layout_of s.config) s.domain))
      ≡ ram_after (layout_of s.config) s ram (Malloc size)
  malloc_ram =
      let (at, _, _) = found in
      rw (segment_run (layout_of s.config) s.domain (blocks_for s.config size) (blocks_for_pos s.config some), at)

pub ruleset malloc_run = (blocks_for_pos, found_from, found_run)
