-- `hmt_c::hmt_return` meets its contract.
use Rattle.std.proofs.Common.{[], refl, rules}
use Rattle.rules.specs.declared.Operation.TheVariants.{Return}
use Rattle.hmt_c.proofs.Step.{changed_step}
use Rattle.hmt_c.proofs.hmt_return.Goals as goal

pub returns : goal.returns
returns c = changed_step [] Return refl (λ i. search rules) c.packed.ensures c.in_good_state.ensures (λ out. search rules)
