-- `map::set_up_map` meets its contract.
use Rattle.rules.specs.Memory.{blocks, heap_block, safe_block, map_bytes, set_codes, free_code}
use Rattle.laws.proofs.Good.{good_config-facts}
use Rattle.map.proofs.Areas.{set_up_layers}
use Rattle.map.proofs.set_up_map.Goals as goal

pub returns : goal.returns
unfolding heap_block safe_block blocks map_bytes set_codes free_code
returns c =
    set_up_layers c.args.good.config (good_config-facts _ c.args.good.good) c.args.ram.now c.told-ram c.fits-ram _ _ _ _ _
    (rw (c.first_block.ensures, c.map_bytes_for.ensures, c.block_of-end.ensures, c.later_code.ensures) at c.fill_bytes.ensures)
    (rw (c.first_block-2.ensures, c.start_code.ensures) at c.set_digit.ensures)
    (rw (c.block_of-heap.ensures, c.block_of-safe.ensures) at c.fill.ensures)
    (rw (c.block_of-safe.ensures, c.block_of-end.ensures, c.start_code-2.ensures) at c.set_first.ensures)
    (rw (c.to_whole.ensures, c.block_of-end.ensures) at c.fill-2.ensures)
