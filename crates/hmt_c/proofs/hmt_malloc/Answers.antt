-- `hmt_c::hmt_malloc` meets its contract.
use Rattle.std.proofs.Common.{[], refl, rules}
use Rattle.rules.specs.declared.Operation.TheVariants.{Malloc}
use Rattle.hmt_c.proofs.Step.{kept_step}
use Rattle.hmt_c.proofs.hmt_malloc.Goals as goal

pub returns : goal.returns
returns c = kept_step [] (Malloc c.args.size) refl (λ i. search rules) c.packed.ensures c.in_good_state.ensures refl (λ out. search rules)
