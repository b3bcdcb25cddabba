-- `hmt_c::hmt_change` meets its contract.
use Rattle.std.proofs.Common.{[], refl, rules}
use Rattle.rules.specs.declared.Operation.TheVariants.{Change}
use Rattle.rules.specs.State.{ram_byte}
use Rattle.hmt_c.proofs.Step.{kept_step}
use Rattle.hmt_c.proofs.hmt_change.Goals as goal

pub returns : goal.returns
returns c = kept_step [] (Change (ram_byte c.args.address) c.args.domain) refl (λ i. search rules) c.packed.ensures c.in_good_state.ensures refl (λ out. search rules)
