-- `hmt_c::hmt_free` meets its contract.
use Rattle.std.proofs.Common.{[], refl, rules}
use Rattle.rules.specs.declared.Operation.TheVariants.{Free}
use Rattle.rules.specs.State.{ram_byte}
use Rattle.hmt_c.proofs.Step.{kept_step}
use Rattle.hmt_c.proofs.hmt_free.Goals as goal

pub returns : goal.returns
returns c = kept_step [] (Free (ram_byte c.args.address)) refl (λ i. search rules) c.packed.ensures c.in_good_state.ensures refl (λ out. search rules)
