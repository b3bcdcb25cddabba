-- `hmt_c::slot::rising`: if the ranges that are left rise, all eight are good.
use Rattle.std.proofs.Common.{◌≡◌, true, ◌&&◌, drop}
use Rattle.rules.specs.State.{ranges_ordered, ranges_apart}
use Rattle.rules.specs.Slot.{config_in}
use Rattle.good.proofs.Rising.{Rises}
use Rattle.hmt_c.specs.Ranges.{ranges_in}
use Rattle.hmt_c.proofs.slot.rising.Given as goal

abbrev pub invariant-loop-bytes : goal.invariant-loop-bytes
invariant-loop-bytes l =
    Rises (config_in l.slot).jt l.first.0 l.last.0 (ranges_in (drop l.bytes-index l.ranges))
    → (ranges_ordered (config_in l.slot) && ranges_apart (config_in l.slot)) ≡ true
