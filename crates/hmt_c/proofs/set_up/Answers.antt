-- `hmt_c::set_up` meets its contract.
use Rattle.std.proofs.Common.{◌≡◌, false, Ok, refl, sym}
use Rattle.std.proofs.lemmas.Bool.{eq-eqb}
use Rattle.rules.specs.Memory.{ram_bytes}
use Rattle.rules.specs.Answers.{kept}
use Rattle.rules.specs.Slot.{slot_bytes, wrong_size}
use Rattle.laws.proofs.ToC.{set_up_to_c}
use Rattle.hmt_c.proofs.set_up.Goals as goal

pub invariant_of-good : goal.invariant_of-good
invariant_of-good c = record { good = rw c.config_in.ensures (sym c.if-not-good_config.ensures) }

pub returns : goal.returns
returns c =
    let sizes : wrong_size c.args.slot.now c.args.ram.now ≡ false = simp (eq-eqb _ slot_bytes c.told-slot, eq-eqb _ ram_bytes c.told-ram) in
    set_up_to_c c.args.slot.now c.args.ram.now _ _ (kept (Ok 0) c.set_up.result) _ c.fits-slot sizes (rw c.config_in.ensures at c.set_up.ensures) refl c.set_up-2.ensures
