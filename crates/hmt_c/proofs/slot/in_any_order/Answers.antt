-- `hmt_c::slot::in_any_order` meets its contract: the ranges that it reads are those of the slot.
use Rattle.std.proofs.Common.{◌≡◌, ℕ, List, length, rules}
use Rattle.rules.specs.Code.{domains}
use Rattle.rules.specs.Bytes.{ranges_place}
use Rattle.rules.specs.Slot.{config_part, config_in}
use Rattle.laws.proofs.Bytes.{length-ranges_at}
use Rattle.hmt_c.proofs.slot.in_any_order.Goals as goal

eight : (slot : List ℕ) → length (config_in slot).ranges ≡ domains
eight slot = length-ranges_at slot (ranges_place config_part) domains

pub in_any_order_by-requires-clause-reads : goal.in_any_order_by-requires-clause-reads
in_any_order_by-requires-clause-reads c =
    let slot = c.args.slot.now in
    ((config_in slot).ranges, (eight slot, λ d r read. search rules))

pub returns : goal.returns
returns c =
    let slot = c.args.slot.now in
    rw c.word_at.ensures at (c.in_any_order_by.ensures (config_in slot).ranges (eight slot, λ d r read. search rules))
