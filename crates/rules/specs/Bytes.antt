-- Numbers and a configuration as bytes: a script, the slot and the safe stack hold them so.
use Rattle.std.specs.Prelude.{ℕ, zero, suc, ◌+◌, ◌*◌, ◌/◌, ◌%◌, List, [], ◌∷◌, ◌++◌, get_or}
use Rattle.rules.specs.declared.Range.{Range}
use Rattle.rules.specs.declared.Config.{Config}
use Rattle.rules.specs.Code.{domains, flash_word}
use Rattle.rules.specs.State.{ram_byte}

-- ---- sixteen bits, "low byte first"

abbrev pub low : ℕ → ℕ
low n = n % 256

abbrev pub high : ℕ → ℕ
high n = n / 256

abbrev pub word_bytes : ℕ → List ℕ
word_bytes n = low n ∷ high n ∷ []

-- the number at place i
abbrev pub word_at : List ℕ → ℕ → ℕ
word_at bytes i = get_or bytes i 0 + 256 * get_or bytes (i + 1) 0

-- n numbers from place at on
unfoldable pub words_at : List ℕ → ℕ → ℕ → List ℕ
words_at bytes at zero = []
words_at bytes at (suc n) = word_at bytes at ∷ words_at bytes (at + 2) n

-- ---- a configuration: "bot, heap, safe, top, jt; eight pairs start, end", from place at on

abbrev pub config_bytes : ℕ
config_bytes = 42

-- where its ranges stand, behind its first five numbers
abbrev pub ranges_place : ℕ → ℕ
ranges_place at = at + 10

abbrev pub range_at : List ℕ → ℕ → Range
range_at bytes at = record { start = flash_word (word_at bytes at); end = flash_word (word_at bytes (at + 2)) }

-- n pairs start, end from place at on
unfoldable pub ranges_at : List ℕ → ℕ → ℕ → List Range
ranges_at bytes at zero = []
ranges_at bytes at (suc n) = range_at bytes at ∷ ranges_at bytes (at + 4) n

abbrev pub config_at : List ℕ → ℕ → Config
config_at bytes at =
    record {
      bot = ram_byte (word_at bytes at);
      heap = ram_byte (word_at bytes (at + 2));
      safe = ram_byte (word_at bytes (at + 4));
      top = ram_byte (word_at bytes (at + 6));
      jt = flash_word (word_at bytes (at + 8));
      ranges = ranges_at bytes (ranges_place at) domains;
    }

-- the bytes that hold one
unfoldable pub ranges_as_bytes : List Range → List ℕ
ranges_as_bytes [] = []
ranges_as_bytes (r ∷ rs) = word_bytes r.start.0 ++ word_bytes r.end.0 ++ ranges_as_bytes rs

abbrev pub bounds_as_bytes : Config → List ℕ
bounds_as_bytes c = word_bytes c.bot.0 ++ word_bytes c.heap.0 ++ word_bytes c.safe.0 ++ word_bytes c.top.0 ++ word_bytes c.jt.0

abbrev pub config_as_bytes : Config → List ℕ
config_as_bytes c = bounds_as_bytes c ++ ranges_as_bytes c.ranges
