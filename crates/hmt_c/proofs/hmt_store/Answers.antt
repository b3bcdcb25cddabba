-- `hmt_c::hmt_store` meets its contract.
use Rattle.std.proofs.Common.{[], refl, rules}
use Rattle.rules.specs.declared.Operation.TheVariants.{Store}
use Rattle.rules.specs.State.{ram_byte}
use Rattle.hmt_c.proofs.Step.{kept_step}
use Rattle.hmt_c.proofs.hmt_store.Goals as goal

pub returns : goal.returns
returns c = kept_step [] (Store (ram_byte c.args.address) c.args.byte) refl (λ i. search rules) c.packed.ensures c.in_good_state.ensures refl (λ out. search rules)
