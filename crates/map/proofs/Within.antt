-- What a good configuration tells the map's code: its areas lie from bot on, its blocks are few, and their codes lie in RAM.
-- Assumes nothing.
use Prim.Native.Nat.{ℕ, ◌+◌, ◌≤◌, ◌<◌}
use mathlib.Core.Path.{◌≡◌}
use mathlib.Core.Bool.{true}
use native.Mathlib.Omega.{arith}
use Rattle.rules.specs.declared.RamByte.{RamByte}
use Rattle.rules.specs.declared.Config.{Config}
use Rattle.rules.specs.Memory.{ram_bytes, layout_of, block_bytes, start_of, block_of, divided_up, blocks, safe_block, map_bytes, map_bytes_for, per_byte, map_byte}
use Rattle.rules.specs.State.{good_config}
use Rattle.address.specs.Places.{to_whole}
use Rattle.laws.proofs.Good.{GoodConfig, good_config-facts, bot<heap, blocks≤ram, safe_block≤blocks, to_safe_lem, block_fits}

module _ (c : Config) (good : good_config c ≡ true) where
  facts : GoodConfig c
  facts = good_config-facts c good

  pub bot≤heap : c.bot.0 ≤ c.heap.0
  bot≤heap = omega (arith, bot<heap facts)

  pub bot≤safe : c.bot.0 ≤ c.safe.0
  bot≤safe = omega (arith, bot≤heap, facts.heap≤safe)

  pub bot≤top : c.bot.0 ≤ c.top.0
  bot≤top = omega (arith, bot≤safe, facts.safe≤top)

  pub safe_block≤ram : safe_block c ≤ ram_bytes
  safe_block≤ram = omega (arith, safe_block≤blocks facts, blocks≤ram facts)

  -- a code of a block up to the first of the safe stack area lies in RAM
  pub code<ram : (k : ℕ) → k ≤ safe_block c → map_byte (layout_of c) k < ram_bytes
  unfolding safe_block block_of block_bytes map_byte per_byte
  code<ram k h = omega (arith, bot<heap facts, facts.heap≤safe, facts.safe≤top, facts.top≤ram)

  -- the bytes for the places before k lie in RAM
  pub room : (k : ℕ) → k ≤ blocks c + to_whole (layout_of c) (blocks c) → c.bot.0 + map_bytes_for (layout_of c) k ≤ ram_bytes
  unfolding map_bytes map_bytes_for divided_up per_byte to_whole
  room k h = omega (arith, facts.map≤heap, facts.heap≤safe, facts.safe≤top, facts.top≤ram)

  -- a heap address lies in a block before the safe stack area, and the start of such a block is an address
  pub block<safe : (a : RamByte) → c.heap.0 ≤ a.0 → a.0 < c.safe.0 → block_of c a < safe_block c
  block<safe a from to = to_safe_lem facts a (omega (arith, bot≤heap)) to

  pub start_fits : (k : ℕ) → k < safe_block c → start_of c k < 65536
  start_fits k h = omega (arith, block_fits facts {k = k} (omega (arith, safe_block≤blocks facts)), facts.top≤ram)
