-- Code ranges as bytes.
use Rattle.std.specs.Prelude.{ℕ, List, map}
use Rattle.rules.specs.declared.Range.{Range}
use Rattle.rules.specs.Bytes.{range_at}

-- the ranges that stand in four bytes each
abbrev pub ranges_in : List (List ℕ) → List Range
ranges_in = map (λ bytes. range_at bytes 0)
