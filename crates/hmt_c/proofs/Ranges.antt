-- The code ranges in a slot, as the code cuts them out of it and goes over them.
-- Assumes nothing.
use Rattle.std.proofs.Common.{◌≡◌, ℕ, zero, suc, ◌+◌, ◌*◌, ◌<◌, List, [], ◌∷◌, length, get_or, take, drop, refl, ap₂, ◌∙◌, arith}
use Rattle.std.proofs.lemmas.List.{length-take, get_or-take, get_or-drop, drop_more, drop_all}
use Rattle.std.specs.Simd.{first_chunks}
use Rattle.rules.specs.declared.Range.{Range}
use Rattle.rules.specs.Bytes.{range_at, ranges_at}
use Rattle.hmt_c.specs.Ranges.{ranges_in}

-- bytes cut into fours hold the ranges that stand in them, if they are those of the slot from a place on
pub ranges_cut : (slot cut : List ℕ) (at n : ℕ) → ((k j : ℕ) → k < 4 * n → at + k ≡ j → get_or cut k 0 ≡ get_or slot j 0)
    → ranges_in (first_chunks 4 n cut) ≡ ranges_at slot at n
unfolding ranges_at
ranges_cut slot cut at zero same = refl
ranges_cut slot cut at (suc n) same =
    let byte : (k j : ℕ) → k < 4 → at + k ≡ j → get_or (take 4 cut) k 0 ≡ get_or slot j 0 = λ k j h e. get_or-take 4 cut k 0 h ∙ same k j (omega arith) e in
    let first : range_at (take 4 cut) 0 ≡ range_at slot at =
    rw (
      byte 0 at (omega arith) (omega arith),
      byte 1 (at + 1) (omega arith) refl,
      byte 2 (at + 2) (omega arith) refl,
      byte 3 (at + 2 + 1) (omega arith) (omega arith),
    )
    refl in
    ap₂ ◌∷◌ first (ranges_cut slot (drop 4 cut) (at + 4) n (λ k j h e. get_or-drop 4 cut k 0 ∙ same (4 + k) j (omega arith) (omega arith)))

-- from a place on, below the first n: the one that stands there, and those behind it
pub range_next : (n i : ℕ) (all : List (List ℕ)) {r : Range} → i < length (take n all) → r ≡ range_at (get_or (take n all) i []) 0
    → ranges_in (drop i all) ≡ r ∷ ranges_in (drop (i + 1) all)
range_next n i all h e =
    let short : i < n = omega (arith, length-take n all) in
    let same : get_or (take n all) i [] ≡ get_or all i [] = get_or-take n all i [] short in
    rw (drop_more all i [] (omega (arith, length-take n all)), e, same) refl

-- past the first n of n + 1, the last
pub range_last : (n i : ℕ) (all : List (List ℕ)) {r : Range} → length all ≡ n + 1 → i ≡ n → r ≡ range_at (get_or all n []) 0
    → ranges_in (drop i all) ≡ r ∷ []
range_last n i all len at e =
    rw (at, drop_more all n [] (omega arith), drop_all (n + 1) all (omega arith), e) refl
