-- Blocks and addresses: first the arithmetic over any block size above 0, then each law by the names of section 2.
-- The block size is looked at in one line, block_bytes_pos.
-- Assumes nothing.
use Rattle.std.proofs.Common.{ℕ, suc, ◌+◌, ◌-◌, ◌*◌, ◌/◌, ◌%◌, ◌<◌, ◌≤◌, ◌≡◌, true, suc-mul, mul-le-mul_right, div-mul-le_self, div-le_self, le-div_iff_mul-le, div-lt_iff_lt-mul, arith, eqb-true}
use Rattle.std.proofs.Math.Nat.{lt-div-mul-add, dvd_of_mod-eq-zero, dvd-sub, div-mul_cancel}
use Rattle.rules.specs.declared.RamByte.{RamByte}
use Rattle.rules.specs.declared.Config.{Config}
use Rattle.rules.specs.Memory.{block_bytes, start_of, block_of, is_multiple, blocks_for}
use Rattle.rules.specs.State.{ram_byte}
use Rattle.laws.proofs.Rounding.{up_holds, up_less, up_least, up_pos}

-- ---- over any block size b, from any number bot on

module _ {b : ℕ} (pos : 0 < b) (bot : ℕ) where
  -- a number lies in its block
  lies_from : {a : ℕ} → bot ≤ a → bot + (a - bot) / b * b ≤ a
  lies_from {a} h = omega (arith, div-mul-le_self (a - bot) b)

  lies_before : (a : ℕ) → a < bot + suc ((a - bot) / b) * b
  lies_before a = omega (arith, lt-div-mul-add {a = a - bot} pos, suc-mul ((a - bot) / b) b)

  -- a block's start bounds the blocks of the numbers on either side of it
  from_start : {a : ℕ} (k : ℕ) → bot + k * b ≤ a → k ≤ (a - bot) / b
  from_start {a} k h = (le-div_iff_mul-le {k = b} {x = k} {y = a - bot} pos).1 (omega arith)

  before_start : {a : ℕ} (k : ℕ) → bot ≤ a → a < bot + k * b → (a - bot) / b < k
  before_start {a} k g h = (div-lt_iff_lt-mul {k = b} {x = a - bot} {y = k} pos).1 (omega arith)

  in_order_lem : {a e : ℕ} → a ≤ e → (a - bot) / b ≤ (e - bot) / b
  in_order_lem {a} {e} h = (le-div_iff_mul-le {k = b} {x = (a - bot) / b} {y = e - bot} pos).1 (omega (arith, div-mul-le_self (a - bot) b))

  -- a multiple is the start of its block
  at_multiple : {a : ℕ} → bot % b ≡ 0 → a % b ≡ 0 → bot ≤ a → bot + (a - bot) / b * b ≡ a
  at_multiple {a} m n h = omega (arith, div-mul_cancel b (dvd-sub b (dvd_of_mod-eq-zero b n) (dvd_of_mod-eq-zero b m)))

-- ---- addresses and blocks

pub block_bytes_pos : (c : Config) → 0 < block_bytes c
unfolding block_bytes
block_bytes_pos c = omega arith

pub start_zero : (c : Config) → start_of c 0 ≡ c.bot.0
unfolding start_of
start_zero c = omega arith

pub start_suc : (c : Config) (k : ℕ) → start_of c (suc k) ≡ start_of c k + block_bytes c
unfolding start_of
start_suc c k = omega (arith, suc-mul k (block_bytes c))

pub start_add : (c : Config) (k n : ℕ) → start_of c (k + n) ≡ start_of c k + n * block_bytes c
unfolding start_of
start_add c k n = omega arith

pub start_mono : (c : Config) {k j : ℕ} → k ≤ j → start_of c k ≤ start_of c j
unfolding start_of
start_mono c h = omega (arith, mul-le-mul_right (block_bytes c) h)

pub start_lt : (c : Config) {k j : ℕ} → k < j → start_of c k + block_bytes c ≤ start_of c j
start_lt c {k} h = omega (arith, start_suc c k, start_mono c h)

pub start_from : (c : Config) (k : ℕ) → c.bot.0 ≤ start_of c k
start_from c k = omega (arith, start_zero c, start_mono c {k = 0} {j = k} (omega arith))

-- an address lies in its block
pub start_le : (c : Config) (a : RamByte) → c.bot.0 ≤ a.0 → start_of c (block_of c a) ≤ a.0
unfolding start_of block_of
start_le c a = lies_from (block_bytes_pos c) c.bot.0

pub lt_next : (c : Config) (a : RamByte) → a.0 < start_of c (suc (block_of c a))
unfolding start_of block_of
lt_next c a = lies_before (block_bytes_pos c) c.bot.0 a.0

-- block k starts at or before an address: the address lies in it or behind it
pub block_from : (c : Config) (a : RamByte) (k : ℕ) → start_of c k ≤ a.0 → k ≤ block_of c a
unfolding start_of block_of
block_from c a k = from_start (block_bytes_pos c) c.bot.0 k

-- it starts behind the address: the address lies in a lower one
pub block_before : (c : Config) (a : RamByte) (k : ℕ) → c.bot.0 ≤ a.0 → a.0 < start_of c k → block_of c a < k
unfolding start_of block_of
block_before c a k = before_start (block_bytes_pos c) c.bot.0 k

pub in_block : (c : Config) (a : RamByte) (k : ℕ) → start_of c k ≤ a.0 → a.0 < start_of c (suc k) → block_of c a ≡ k
in_block c a k g h =
    let below : block_of c a < suc k = block_before c a (suc k) (omega (arith, start_from c k)) h in
    omega (arith, block_from c a k g)

pub block_start : (c : Config) (k : ℕ) → block_of c (ram_byte (start_of c k)) ≡ k
block_start c k = in_block c (ram_byte (start_of c k)) k (omega arith) (omega (arith, start_suc c k, block_bytes_pos c))

-- a multiple is the start of its block
pub aligned : (c : Config) (a : RamByte) → is_multiple c c.bot ≡ true → is_multiple c a ≡ true → c.bot.0 ≤ a.0 → start_of c (block_of c a) ≡ a.0
unfolding start_of block_of is_multiple
aligned c a m n = at_multiple (block_bytes_pos c) c.bot.0 (eqb-true (c.bot.0 % block_bytes c) 0 m) (eqb-true (a.0 % block_bytes c) 0 n)

-- the order of blocks is that of addresses
pub block_le : (c : Config) (a e : RamByte) → a.0 ≤ e.0 → block_of c a ≤ block_of c e
unfolding block_of
block_le c a e = in_order_lem (block_bytes_pos c) c.bot.0

pub block_lt : (c : Config) (a e : RamByte) → is_multiple c c.bot ≡ true → is_multiple c e ≡ true → c.bot.0 ≤ a.0 → a.0 < e.0 → block_of c a < block_of c e
block_lt c a e m n g h = block_before c a (block_of c e) g (omega (arith, aligned c e m n (omega arith)))

pub block_small : (c : Config) (a : RamByte) → block_of c a ≤ a.0
unfolding block_of
block_small c a = omega (arith, div-le_self (a.0 - c.bot.0) (block_bytes c))

-- ---- blocks for a size, and map bytes for a number of blocks

pub blocks_for-holds : (c : Config) (size : ℕ) → size ≤ blocks_for c size * block_bytes c
unfolding blocks_for
blocks_for-holds c = up_holds (block_bytes_pos c)

pub blocks_for_less : (c : Config) (size : ℕ) → blocks_for c size * block_bytes c < size + block_bytes c
unfolding blocks_for
blocks_for_less c = up_less (block_bytes_pos c)

pub blocks_for_least : (c : Config) {size : ℕ} (n : ℕ) → size ≤ n * block_bytes c → blocks_for c size ≤ n
unfolding blocks_for
blocks_for_least c = up_least (block_bytes_pos c)

pub blocks_for_pos : (c : Config) {size : ℕ} → 0 < size → 0 < blocks_for c size
unfolding blocks_for
blocks_for_pos c = up_pos (block_bytes_pos c)
