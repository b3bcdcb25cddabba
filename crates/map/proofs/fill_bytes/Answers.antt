-- `map::fill_bytes` meets its contract.
use Rattle.std.proofs.Common.{◌≡◌, suc, ◌+◌, ◌-◌, ◌*◌, ◌<◌, length, sym, arith, ◌∙◌}
use Rattle.rules.specs.Memory.{radix, per_byte, set_codes}
use Rattle.rules.specs.State.{ram_byte}
use Rattle.map.proofs.Halves.{byte_at}
use Rattle.map.proofs.Runs.{bytes_next, bytes_stay, from_even}
use Rattle.map.proofs.fill_bytes.Goals as goal

pub loop-at-init : goal.loop-at-init
unfolding per_byte
loop-at-init c =
    let at = c.map_byte-at.result.0 in
    let n : at + c.args.n - at ≡ c.args.n = omega arith in
    record {
      within = omega arith;
      bytes = c.fits-ram;
      rest = rw n (sym (from_even (ram_byte at) c.args.bot c.args.ram.now c.args.k.0 _ (byte_at c.map_byte-at.ensures) c.requires.first_of_byte));
    }

pub loop-at-preserved : goal.loop-at-preserved
unfolding radix per_byte
loop-at-preserved c =
    let inv = c.loop-at.invariant in
    let at = c.loop-at.at in
    let end = c.map_byte-at.result.0 + c.args.n in
    let code = c.args.code in
    let place = byte_at c.map_byte-at.ensures in
    let left : end - at ≡ suc (end - (at + 1)) = omega (arith, inv.within) in
    let inside : at < length c.loop-at.ram = omega (arith, place, inv.within) in
    let made = c.both-byte.ensures in
    record {
      within = omega (arith, inv.within);
      bytes = rw made (bytes_stay c.loop-at.ram at (code * 16 + code) inside (omega arith) inv.bytes);
      rest = inv.rest ∙ rw (left, made) (bytes_next c.loop-at.ram at (end - (at + 1)) code inside (inv.bytes at) (omega arith));
    }

pub returns : goal.returns
unfolding set_codes per_byte
returns c =
    let none : c.map_byte-at.result.0 + c.args.n - c.loop-at.at ≡ 0 = omega arith in
    sym (rw none at c.loop-at.invariant.rest)
