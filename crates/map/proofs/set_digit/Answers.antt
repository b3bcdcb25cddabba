-- `map::set_digit` meets its contract.
use Rattle.std.proofs.Common.{◌≡◌, ◌<◌, ◌+◌, ◌-◌, ◌*◌, ◌/◌, ◌%◌, Fits, w8, get_or, arith}
use Rattle.rules.specs.Memory.{radix, set_digit, set_code}
use Rattle.map.proofs.Halves.{byte_at, by_weight}
use Rattle.map.proofs.set_digit.Goals as goal

pub nonzero_div-ram : goal.nonzero_div-ram
nonzero_div-ram g c = by_weight _ _ _ c.requires.weighs (λ i w. 0 < w) (omega arith) (omega arith)

pub overflow_mul-ram-2 : goal.overflow_mul-ram-2
unfolding radix
overflow_mul-ram-2 g c = by_weight _ _ _ c.requires.weighs (λ i w. Fits w8 (c.args.code * w)) (omega arith) (omega arith)

pub overflow_add-ram : goal.overflow_add-ram
unfolding radix
overflow_add-ram g c =
    let byte = get_or c.args.ram.now c.map_byte-at.result.0 0 in
    by_weight _ _ _ c.requires.weighs (λ i w. Fits w8 (byte - byte / w % 16 * w + c.args.code * w)) (omega (arith, c.fits-ram c.map_byte-at.result.0)) (omega (arith, c.fits-ram c.map_byte-at.result.0))

pub returns : goal.returns
unfolding radix set_digit set_code
returns g c =
    let byte = get_or c.args.ram.now c.map_byte-at.result.0 0 in
    let written = by_weight _ _ _ c.requires.weighs (λ i w. byte - byte / w % 16 * w + c.args.code * w ≡ set_digit 16 i byte c.args.code) (omega (arith, c.fits-ram c.map_byte-at.result.0)) (omega (arith, c.fits-ram c.map_byte-at.result.0)) in
    rw (← byte_at c.map_byte-at.ensures, written)
