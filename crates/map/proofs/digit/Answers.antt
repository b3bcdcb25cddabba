-- `map::digit` meets its contract.
use Rattle.std.proofs.Common.{refl, ◌≡◌, ◌<◌, ◌/◌, ◌%◌, get_or, arith}
use Rattle.rules.specs.Memory.{radix, digit, code_of}
use Rattle.map.proofs.Halves.{byte_at, by_weight}
use Rattle.map.proofs.digit.Goals as goal

pub nonzero_div-result : goal.nonzero_div-result
nonzero_div-result g c = by_weight _ _ _ c.requires.weighs (λ i w. 0 < w) (omega arith) (omega arith)

pub returns : goal.returns
unfolding radix digit code_of
returns g c =
    let byte = get_or c.args.ram.now c.map_byte-at.result.0 0 in
    rw (← byte_at c.map_byte-at.ensures) (by_weight _ _ _ c.requires.weighs (λ i w. byte / w % 16 ≡ digit 16 i byte) (omega arith) refl)
