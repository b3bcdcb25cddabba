-- `map::blocks_alike` meets its contract.
use Rattle.std.proofs.Common.{◌*◌, arith, sym, ◌∙◌}
use native.Mathlib.Decide.{ℕ_discrete}
use Rattle.rules.specs.Memory.{radix, map_digit, per_byte}
use Rattle.map.proofs.Halves.{byte_at, codes_of_bytes, codes_differ}
use Rattle.map.proofs.blocks_alike.Goals as goal

pub returns-else-alike-n-clause-alike : goal.returns-else-alike-n-clause-alike
unfolding radix map_digit per_byte
returns-else-alike-n-clause-alike c =
    codes_of_bytes _ _ _ _ _ _ (byte_at c.map_byte.ensures) c.requires.first_of_byte c.requires.is_code (rw c.both.ensures at c.bytes_alike-alike.ensures.alike)

pub returns-then-digit-code-clause-alike : goal.returns-then-digit-code-clause-alike
unfolding radix map_digit per_byte
returns-then-digit-code-clause-alike c =
    let codes = codes_of_bytes _ _ _ _ _ _ (byte_at c.map_byte.ensures) c.requires.first_of_byte c.requires.is_code (rw c.both.ensures at c.bytes_alike-alike.ensures.alike) in
    λ i l. elim (ℕ_discrete i (c.bytes_alike-alike.result * 2)) [ yes e ↦ rw e (sym (rw c.further.ensures at c.digit.ensures) ∙ c.if-digit-code.true) | no d ↦ codes i (omega arith) ]

pub returns-then-digit-code-clause-ends : goal.returns-then-digit-code-clause-ends
unfolding map_digit per_byte
returns-then-digit-code-clause-ends c h =
    codes_differ _ _ _ _ _ _ (byte_at c.map_byte.ensures) c.requires.first_of_byte (c.fits-ram _) (rw c.both.ensures at (c.bytes_alike-alike.ensures.ends (omega arith)))
    (sym (rw c.further.ensures at c.digit.ensures) ∙ c.if-digit-code.true)
