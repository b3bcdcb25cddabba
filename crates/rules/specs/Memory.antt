-- Section 2: memory and the map.
-- The block size 8, the 2 codes to a byte, their radix 16 and the free code 15 stand in this file and nowhere else.
-- "The protected range is `bot` up to but not including `top`."
use Rattle.std.specs.Prelude.{ℕ, zero, suc, ◌+◌, ◌-◌, ◌*◌, ◌/◌, ◌%◌, Bool, not, ◌&&◌, List, [], ◌∷◌, get_or, set, replicate, leb, ltb, eqb}
use Rattle.rules.specs.declared.RamByte.{RamByte}
use Rattle.rules.specs.declared.Config.{Config}

-- RAM is 4,096 bytes
abbrev pub ram_bytes : ℕ
ram_bytes = 4096

-- n / d rounded up
unfoldable pub divided_up : ℕ → ℕ → ℕ
divided_up n d = (n + (d - 1)) / d

-- ---- the layout of a map

-- how wide a code is
pub data Width : Type 0 where
  four_bits : Width

-- which end of a map byte holds the lower block
pub data Order : Type 0 where
  low_first : Order

-- where a map begins, how wide its codes are, and in which order a byte holds them
pub record Layout : Type 0 where
  pub begin : RamByte
  pub width : Width
  pub order : Order

-- "half of map byte"
abbrev pub width_of : Config → Width
width_of c = four_bits

-- "the low half for even k, the high half for odd k": the order that is in use
abbrev pub in_use : Order
in_use = low_first

-- a configuration's layout, by any order and by the one in use
abbrev pub layout_by : Order → Config → Layout
layout_by o c = record { begin = c.bot; width = width_of c; order = o }

abbrev pub layout_of : Config → Layout
layout_of = layout_by in_use

-- ---- blocks

-- "Block k is the 8 bytes at bot + 8k."
unfoldable pub block_bytes : Config → ℕ
block_bytes c = 8

unfoldable pub start_of : Config → ℕ → ℕ
start_of c k = c.bot.0 + k * block_bytes c

-- the block that an address from bot on lies in
unfoldable pub block_of : Config → RamByte → ℕ
block_of c a = (a.0 - c.bot.0) / block_bytes c

-- "each a multiple of 8"
unfoldable pub is_multiple : Config → RamByte → Bool
is_multiple c a = eqb (a.0 % block_bytes c) 0

-- section 5, malloc: "size / 8 blocks rounded up"
unfoldable pub blocks_for : Config → ℕ → ℕ
blocks_for c size = divided_up size (block_bytes c)

-- "Let n = (top - bot) / 8"
unfoldable pub blocks : Config → ℕ
blocks c = block_of c c.top

-- "Heap: `heap` up to `safe`": its first block, and the first block behind it
unfoldable pub heap_block : Config → ℕ
heap_block c = block_of c c.heap

unfoldable pub safe_block : Config → ℕ
safe_block c = block_of c c.safe

abbrev pub in_heap : Config → ℕ → Bool
in_heap c k = leb (heap_block c) k && ltb k (safe_block c)

-- ---- the map: codes packed in bytes

-- a code is one of 16, and a byte holds 2 of them
abbrev pub radix_by : Width → ℕ
radix_by four_bits = 16

abbrev pub per_byte_by : Width → ℕ
per_byte_by four_bits = 2

unfoldable pub radix : Layout → ℕ
radix m = radix_by m.width

unfoldable pub per_byte : Layout → ℕ
per_byte m = per_byte_by m.width

-- "and m = n / 2 rounded up"
unfoldable pub map_bytes_for : Layout → ℕ → ℕ
map_bytes_for m n = divided_up n (per_byte m)

unfoldable pub map_bytes : Config → ℕ
map_bytes c = map_bytes_for (layout_of c) (blocks c)

-- digit i of b to the radix r, digit 0 the lowest
unfoldable pub digit : ℕ → ℕ → ℕ → ℕ
digit r zero b = b % r
digit r (suc i) b = digit r i (b / r)

-- b with digit i made v
unfoldable pub set_digit : ℕ → ℕ → ℕ → ℕ → ℕ
set_digit r zero b v = b / r * r + v
set_digit r (suc i) b v = set_digit r i (b / r) v * r + b % r

-- digit i of cell a of a list, and the list with it made v
abbrev pub cell_digit : ℕ → List ℕ → ℕ → ℕ → ℕ
cell_digit r cells a i = digit r i (get_or cells a 0)

abbrev pub set_cell_digit : ℕ → List ℕ → ℕ → ℕ → ℕ → List ℕ
set_cell_digit r cells a i v = set cells a (set_digit r i (get_or cells a 0) v)

-- the digit of place i of the p places of a byte
abbrev pub digit_by : Order → ℕ → ℕ → ℕ
digit_by low_first p i = i

-- "Its code is half of map byte k / 2: the low half for even k, the high half for odd k": the map byte of block k, and the digit
unfoldable pub map_byte : Layout → ℕ → ℕ
map_byte m k = m.begin.0 + k / per_byte m

unfoldable pub map_digit : Layout → ℕ → ℕ
map_digit m k = digit_by m.order (per_byte m) (k % per_byte m)

-- the code of block k in RAM, and RAM with it made v
unfoldable pub code_of : Layout → List ℕ → ℕ → ℕ
code_of m ram k = cell_digit (radix m) ram (map_byte m k) (map_digit m k)

unfoldable pub set_code : Layout → List ℕ → ℕ → ℕ → List ℕ
set_code m ram k v = set_cell_digit (radix m) ram (map_byte m k) (map_digit m k) v

-- RAM with the codes vs written to block k and those after it
unfoldable pub set_codes : Layout → List ℕ → ℕ → List ℕ → List ℕ
set_codes m ram k [] = ram
set_codes m ram k (v ∷ vs) = set_codes m (set_code m ram k v) (suc k) vs

-- what the rules look at in a map: the code of each block
abbrev pub Codes : Type 0
Codes = ℕ → ℕ

abbrev pub codes_of : Config → List ℕ → Codes
codes_of c ram = code_of (layout_of c) ram

-- ---- domains

-- the trusted domain
abbrev pub trusted : ℕ
trusted = 7

-- a number of one of the unit's domains; of one of its modules
abbrev pub domain_by : Width → ℕ → Bool
domain_by four_bits d = leb d trusted

abbrev pub module_by : Width → ℕ → Bool
module_by four_bits d = ltb d trusted

unfoldable pub is_domain : Config → ℕ → Bool
is_domain c d = domain_by (width_of c) d

unfoldable pub is_module : Config → ℕ → Bool
is_module c d = module_by (width_of c) d

-- ---- codes (000, Table 1)

-- "2d + 1 starts a segment of domain d and 2d continues it"; "14 continues a trusted segment"
abbrev pub start_code_by : Width → ℕ → ℕ
start_code_by four_bits d = 2 * d + 1

abbrev pub later_code_by : Width → ℕ → ℕ
later_code_by four_bits d = 2 * d

-- "15 is free or starts a trusted segment"
abbrev pub free_code_by : Width → ℕ
free_code_by four_bits = 15

-- "Code / 2 is the owner"
abbrev pub owner_by : Width → ℕ → ℕ
owner_by four_bits code = code / 2

unfoldable pub start_code : Layout → ℕ → ℕ
start_code m d = start_code_by m.width d

unfoldable pub later_code : Layout → ℕ → ℕ
later_code m d = later_code_by m.width d

unfoldable pub free_code : Layout → ℕ
free_code m = free_code_by m.width

unfoldable pub owner_of : Layout → ℕ → ℕ
owner_of m code = owner_by m.width code

-- section 5, free: "whose code is odd and not 15"
unfoldable pub starts_segment : Layout → ℕ → Bool
starts_segment m code = eqb (code % 2) 1 && not (eqb code (free_code m))

-- "inside the heap it means free only, and outside it never means free. The trusted domain holds no heap segment."
unfoldable pub is_free : Config → Codes → ℕ → Bool
is_free c codes k = in_heap c k && eqb (codes k) (free_code (layout_of c))

-- a segment of n blocks of domain d: a start, and the rest continues it
abbrev pub segment_codes : Layout → ℕ → ℕ → List ℕ
segment_codes m d zero = []
segment_codes m d (suc n) = start_code m d ∷ replicate n (later_code m d)
