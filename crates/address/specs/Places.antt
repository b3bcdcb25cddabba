-- A map by where it begins, and the distance from a block to the next whose code is the first of its byte.
use Rattle.std.specs.Prelude.{ℕ, ◌-◌, ◌%◌}
use Rattle.rules.specs.declared.RamByte.{RamByte}
use Rattle.rules.specs.Memory.{Layout, four_bits, in_use, per_byte}

-- the layout of a configuration is that of its bot
abbrev pub map_at : RamByte → Layout
map_at bot = record { begin = bot; width = four_bits; order = in_use }

unfoldable pub to_whole : Layout → ℕ → ℕ
to_whole m k = (per_byte m - k % per_byte m) % per_byte m
