-- A reader of the eight code ranges.
use Rattle.std.specs.Prelude.{ℕ, ◌≡◌, List, length, get_or}
use Rattle.rules.specs.declared.Range.{Range}
use Rattle.rules.specs.Code.{domains, empty_range}

-- where read says what may be read for a domain, that is its range among these
abbrev pub Reads : (ℕ → Range → Type 0) → List Range → Type 0
Reads read ranges = (length ranges ≡ domains) × ((d : ℕ) (r : Range) → read d r → r ≡ get_or ranges d empty_range)
