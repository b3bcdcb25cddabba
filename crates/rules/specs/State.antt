-- Section 4: the state, with the configuration rules of sections 2 and 3, a row for each.
use Rattle.std.specs.Prelude.{ℕ, ◌+◌, ◌-◌, Bool, ◌&&◌, replicate, leb, ltb}
use Rattle.rules.specs.declared.RamByte.{RamByte}
use Rattle.rules.specs.declared.Config.{Config}
use Rattle.rules.specs.declared.State.{State}
use Rattle.rules.specs.Memory.{ram_bytes, is_multiple, map_bytes, trusted, is_domain}
use Rattle.rules.specs.Code.{domains, flash_word, empty_range, ordered, all_apart}

abbrev pub ram_byte : ℕ → RamByte
ram_byte n = record { 0 = n }

-- "four RAM addresses, each a multiple of 8"
abbrev pub multiples : Config → Bool
multiples c = is_multiple c c.bot && is_multiple c c.heap && is_multiple c c.safe && is_multiple c c.top

-- "Required: bot < top, bot + m <= heap <= safe <= top <= 4096."
abbrev pub bot_below_top : Config → Bool
bot_below_top c = ltb c.bot.0 c.top.0

abbrev pub map_below_heap : Config → Bool
map_below_heap c = leb (c.bot.0 + map_bytes c) c.heap.0

abbrev pub heap_below_safe : Config → Bool
heap_below_safe c = leb c.heap.0 c.safe.0

abbrev pub safe_below_top : Config → Bool
safe_below_top c = leb c.safe.0 c.top.0

abbrev pub top_in_ram : Config → Bool
top_in_ram c = leb c.top.0 ram_bytes

-- "the jump table base jt, at most 64512"
abbrev pub jt_in_flash : Config → Bool
jt_in_flash c = leb c.jt.0 64512

-- "start <= end <= jt"
abbrev pub ranges_ordered : Config → Bool
ranges_ordered c = ordered c.jt c.ranges

-- "Ranges that are not empty must not overlap"
abbrev pub ranges_apart : Config → Bool
ranges_apart c = all_apart c.ranges

unfoldable pub good_config : Config → Bool
good_config c =
    multiples c
    && bot_below_top c
    && map_below_heap c
    && heap_below_safe c
    && safe_below_top c
    && top_in_ram c
    && jt_in_flash c
    && ranges_ordered c
    && ranges_apart c

-- "current domain (0 to 7); stack bound (top - 1 to 4095); safe pointer (safe to top)"
abbrev pub domain_good : State → Bool
domain_good s = is_domain s.config s.domain

abbrev pub bound_good : State → Bool
bound_good s = leb (s.config.top.0 - 1) s.bound.0 && ltb s.bound.0 ram_bytes

abbrev pub safepointer_good : State → Bool
safepointer_good s = leb s.config.safe.0 s.safepointer.0 && leb s.safepointer.0 s.config.top.0

-- "A state is good if these ranges and all configuration rules hold."
unfoldable pub good_state : State → Bool
good_state s = good_config s.config && domain_good s && bound_good s && safepointer_good s

-- "A fresh state has domain 7, bound 4095, safe pointer safe."
abbrev pub fresh : Config → State
fresh c = record { config = c; domain = trusted; bound = ram_byte (ram_bytes - 1); safepointer = c.safe }

-- a state with another domain current, another bound and another safe pointer
abbrev pub running : State → ℕ → RamByte → RamByte → State
running s d b p = record { config = s.config; domain = d; bound = b; safepointer = p }

-- section 6: "a state of zeros, which is not good"
abbrev pub zeros : State
zeros =
    record {
      config =
          record {
            bot = ram_byte 0;
            heap = ram_byte 0;
            safe = ram_byte 0;
            top = ram_byte 0;
            jt = flash_word 0;
            ranges = replicate domains empty_range;
          };
      domain = 0;
      bound = ram_byte 0;
      safepointer = ram_byte 0;
    }
