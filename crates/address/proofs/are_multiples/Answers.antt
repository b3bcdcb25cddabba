-- `address::are_multiples` meets its contract.
use Rattle.std.proofs.Common.{◌≡◌, ℕ, ◌%◌, ◌&&◌, zero, suc, arith}
use Rattle.std.proofs.lemmas.Grind.{common_steps}
use lib.Bits.{bit_or, or_mod, or_zero_l, or_add_and, and_le_r}
use lib.Dec.{eqb}
use borrow.Author.Tests.{ne_eqb}
use Rattle.rules.specs.Memory.{is_multiple, block_bytes}
use Rattle.address.proofs.are_multiples.Goals as goal

-- bits together are 0 if each number is
together : (a b : ℕ) → eqb (bit_or a b) 0 ≡ (eqb a 0 && eqb b 0)
together zero b = rw (or_zero_l b)
together (suc a) b = rw (ne_eqb (bit_or (suc a) b) 0 (omega (arith, or_add_and (suc a) b, and_le_r (suc a) b)), ne_eqb (suc a) 0 (omega arith))

pub returns : goal.returns
unfolding is_multiple block_bytes
returns c = grind (arith, common_steps, or_mod c.args.a.0 c.args.b.0 3, together (c.args.a.0 % 8) (c.args.b.0 % 8))
