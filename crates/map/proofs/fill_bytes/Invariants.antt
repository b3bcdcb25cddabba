-- What the loop of `map::fill_bytes` keeps, and its measure.
use Rattle.std.proofs.Common.{◌≡◌, ◌-◌, ◌*◌, ◌≤◌, replicate}
use Rattle.rules.specs.Memory.{per_byte, set_codes}
use Rattle.rules.specs.State.{ram_byte}
use Rattle.address.specs.Places.{map_at}
use Rattle.laws.proofs.Map.{Bytes}
use Rattle.map.proofs.fill_bytes.Given as goal

-- what is left of the codes, written to what RAM is now, is what all of them make of it
abbrev pub invariant-loop-at : goal.invariant-loop-at
invariant-loop-at l =
    record {
      within : l.at ≤ l.end;
      bytes : Bytes l.ram;
      rest : set_codes (map_at l.fn.bot) l.fn.ram l.fn.k.0 (replicate (l.fn.n * per_byte (map_at l.fn.bot)) l.code)
          ≡ set_codes (map_at (ram_byte l.at)) l.ram 0 (replicate ((l.end - l.at) * per_byte (map_at (ram_byte l.at))) l.code);
    }

abbrev pub decreases-loop-at : goal.decreases-loop-at
decreases-loop-at l = l.end - l.at
