-- What is refused by the slot alone: a configuration that is not good, and a return with no call open.
-- Assumes nothing.
use Prim.Native.Nat.{ℕ}
use mathlib.Core.Path.{◌≡◌, refl}
use mathlib.Core.Bool.{false}
use mathlib.Core.List.{List}
use lib.ListN.{length, get_or}
use borrow.Author.Tests.{eq-eqb}
use Rattle.std.specs.Prelude.{Err}
use Rattle.rules.specs.declared.Refusal.TheVariants.{BrokenRule, NoFrame}
use Rattle.rules.specs.Memory.{ram_bytes}
use Rattle.rules.specs.State.{good_config}
use Rattle.rules.specs.Slot.{zero_part, config_in, state_in, packed, GivesToC, wrong_size, c_set_up_of, c_return_of}
use Rattle.laws.proofs.ToC.{Ready, right_size}

pub broken_rule : (slot ram : List ℕ) → wrong_size slot ram ≡ false → good_config (config_in slot) ≡ false → (n : ℕ) → n ≡ packed (Err BrokenRule)
    → GivesToC n slot ram (c_set_up_of slot ram)
broken_rule slot ram sizes bad n e = rw (sizes, eq-eqb (length ram) ram_bytes (right_size slot ram sizes).1, bad) (e, refl, refl)

pub no_frame : (slot ram : List ℕ) → Ready slot ram → (state_in slot).safepointer.0 ≡ (state_in slot).config.safe.0
    → (n : ℕ) → n ≡ packed (Err NoFrame) → GivesToC n slot ram (c_return_of slot ram)
no_frame slot ram ready h n e =
    rw (ready.sizes, eq-eqb (get_or slot zero_part 0) 0 ready.zero, eq-eqb (length ram) ram_bytes (right_size slot ram ready.sizes).1, ready.good, eq-eqb _ _ h)
    (e, refl, refl)
