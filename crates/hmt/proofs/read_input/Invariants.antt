-- No more is read than the place holds. Each turn that goes on reads a byte at least, so the room left is the measure.
use Rattle.std.proofs.Common.{◌-◌, ◌≤◌, length}
use Rattle.hmt.proofs.read_input.Given as goal

abbrev pub invariant-loop-done : goal.invariant-loop-done
invariant-loop-done g l = l.done ≤ length l.place

abbrev pub decreases-loop-done : goal.decreases-loop-done
decreases-loop-done g l = length l.initial.place - l.done
