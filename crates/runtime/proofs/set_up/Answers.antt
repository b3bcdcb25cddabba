-- `runtime::set_up` meets its contract. That a state is of zeros if each of its parts is takes the check more than half of its steps.
use Rattle.std.proofs.Common.{arith}
use Rattle.std.proofs.lemmas.Grind.{common_steps}
use Rattle.runtime.proofs.set_up.Goals as goal

pub returns : goal.returns
returns c = grind (arith, common_steps)
