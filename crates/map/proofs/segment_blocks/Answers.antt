-- `map::segment_blocks` meets its contract.
use Rattle.std.proofs.Common.{arith, add-zero}
use Rattle.rules.specs.Memory.{per_byte, safe_block}
use Rattle.address.specs.Places.{to_whole}
use Rattle.map.proofs.Runs.{segment_count}
use Rattle.map.proofs.segment_blocks.Goals as goal

pub returns-then-not-alike_to_even : goal.returns-then-not-alike_to_even
unfolding safe_block
returns-then-not-alike_to_even c =
    segment_count c.args.good.config c.args.ram.now c.args.k.0 1 c.further-next.result.0 0 c.later_code-later.result (rw c.requires.owned c.later_code-later.ensures) (grind arith) (grind arith) (grind arith)
    (λ j l u. absurd (grind arith)) (λ i l. absurd (omega arith)) (λ h. rw add-zero (c.alike_to_even.ensures.ends c.if-not-alike_to_even.true (grind arith)))

pub returns : goal.returns
unfolding to_whole per_byte safe_block
returns c =
    let goes_on = c.alike_to_even.ensures.alike c.if-not-alike_to_even.false in
    segment_count c.args.good.config c.args.ram.now c.args.k.0 _ c.further-even.result.0 c.blocks_alike.result c.later_code-later.result (rw c.requires.owned c.later_code-later.ensures) (grind arith) (grind arith) (grind arith)
    (λ j l u. grind (arith, goes_on))
    c.blocks_alike.ensures.alike (λ h. c.blocks_alike.ensures.ends (grind arith))
