-- `hmt_c::slot::ranges` meets its contract.
use Rattle.std.proofs.Common.{◌≡◌, ◌/◌, get_or, length, take, drop, ap, ◌∙◌, arith}
use Rattle.std.proofs.lemmas.List.{length-take, length-drop, get_or-take, get_or-drop}
use Rattle.hmt_c.proofs.Ranges.{ranges_cut}
use Rattle.hmt_c.proofs.slot.ranges.Goals as goal

pub returns-clause-read : goal.returns-clause-read
returns-clause-read c =
    let slot = c.args.slot.now in
    let eight : length (take 32 (drop 10 slot)) / 4 ≡ 8 = omega (arith, length-take 32 (drop 10 slot), length-drop 10 slot) in
    rw (c.as_chunks.ensures.front, eight)
    (ranges_cut slot (take 32 (drop 10 slot)) 10 8 (λ k j h e. get_or-take 32 (drop 10 slot) k 0 h ∙ get_or-drop 10 slot k 0 ∙ ap (λ i. get_or slot i 0) e))
