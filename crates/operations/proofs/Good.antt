-- What the code asks of a good state: how its addresses lie, and which codes lie in RAM.
-- Assumes nothing.
use Prim.Native.Nat.{ℕ, ◌+◌, ◌-◌, ◌<◌, ◌≤◌}
use mathlib.Core.Path.{◌≡◌}
use mathlib.Core.Bool.{true}
use native.Mathlib.Omega.{arith}
use Rattle.std.proofs.lemmas.Bool.Decides.{nat_tests}
use Rattle.rules.specs.declared.RamByte.{RamByte}
use Rattle.rules.specs.declared.State.{State}
use Rattle.rules.specs.Memory.{ram_bytes, layout_of, block_of, safe_block, map_byte, is_domain}
use Rattle.rules.specs.State.{good_state}
use Rattle.laws.proofs.Good.{GoodState, good_state-facts, bot<heap, to_top, map_byte<heap, safe_block≤blocks, to_safe_lem}

module _ (s : State) (good : good_state s ≡ true) where
  facts : GoodState s
  facts = good_state-facts s good

  pub good_bounds : (s.config.bot.0 ≤ s.config.heap.0)
      × (0 < s.config.top.0)
      × (s.config.safe.0 ≤ s.safepointer.0)
      × (s.safepointer.0 ≤ s.config.top.0)
      × (s.config.top.0 ≤ ram_bytes)
  good_bounds =
      (omega (arith, bot<heap facts.config), omega (arith, facts.config.bot<top), facts.safe≤safepointer, facts.safepointer≤top, facts.config.top≤ram)

  pub good_domain : is_domain s.config s.domain ≡ true
  good_domain = facts.domain

  pub code_in_ram : (a : RamByte) → s.config.bot.0 ≤ a.0 → a.0 < s.config.top.0 → map_byte (layout_of s.config) (block_of s.config a) < ram_bytes
  code_in_ram a from to =
      let c = facts.config in
      omega (arith, map_byte<heap c (to_top c a from to), c.heap≤safe, c.safe≤top, c.top≤ram)

  -- a heap address lies in a block before the safe stack area
  pub block<safe : (a : RamByte) → s.config.heap.0 ≤ a.0 → a.0 < s.config.safe.0 → block_of s.config a < safe_block s.config
  block<safe a from to = to_safe_lem facts.config a (omega (arith, bot<heap facts.config)) to

  -- of a run of heap blocks
  pub run_in_ram : (k n : ℕ) → 0 < n → k + n ≤ safe_block s.config → map_byte (layout_of s.config) (k + (n - 1)) < ram_bytes
  run_in_ram k n some fits =
      let c = facts.config in
      omega (arith, map_byte<heap c {k = k + (n - 1)} (omega (arith, safe_block≤blocks c)), c.heap≤safe, c.safe≤top, c.top≤ram)

pub ruleset good_facts = (nat_tests, good_bounds, good_domain, code_in_ram, run_in_ram)
