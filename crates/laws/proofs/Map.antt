-- Codes packed in the bytes of the map: reading after writing, what a write leaves alone, and that the codes determine the bytes.
-- Assumes nothing.
use Rattle.std.proofs.Common.{ℕ, zero, suc, ◌+◌, ◌-◌, ◌*◌, ◌%◌, ◌^◌, ◌≤◌, ◌<◌, ◌≡◌, refl, ◌∙◌, ◌≢◌, List, [], ◌∷◌, ◌++◌, mod-lt, div-lt_iff_lt-mul, add-zero, add-suc, suc-add, arith, length, get_or, length-set, get_or-set_other}
use Rattle.std.proofs.Math.Arith.{digits_div, digits_mod}
use Rattle.rules.specs.Memory.{Width, four_bits, Order, low_first, Layout, radix_by, per_byte_by, radix, per_byte, map_bytes_for, digit_by, map_byte, map_digit, code_of, set_code, set_codes}
use Rattle.laws.proofs.Rounding.{up_holds, up_le, up_pos}
use Rattle.laws.proofs.Digits.{digit_lt, digits_ext, place_by, cell_same, cell_other, cells_fit}
use Rattle.laws.proofs.AllBelow.{AllBelow, none, one}

-- ---- the numbers behind the map, each opened once for every width and every order

radix_pos_by : (w : Width) → 0 < radix_by w
radix_pos_by four_bits = omega arith

per_byte_pos_by : (w : Width) → 0 < per_byte_by w
per_byte_pos_by four_bits = omega arith

radix_fills_by : (w : Width) → radix_by w ^ per_byte_by w ≡ 256
radix_fills_by four_bits = refl

-- the places of a byte, by an order, are its digits: each has one, no two the same, and each digit is that of a place
digit_by_lt : (o : Order) (p i : ℕ) → i < p → digit_by o p i < p
digit_by_lt low_first p i h = h

digit_by-apart : (o : Order) (p i j : ℕ) → i < p → j < p → digit_by o p i ≡ digit_by o p j → i ≡ j
digit_by-apart low_first p i j h k e = e

-- and the place that has a digit
digit_by-back : (o : Order) (p i : ℕ) → i < p → digit_by o p (digit_by o p i) ≡ i
digit_by-back low_first p i h = refl

module _ (m : Layout) where
  pub radix_pos : 0 < radix m
  unfolding radix
  radix_pos = radix_pos_by m.width

  pub per_byte_pos : 0 < per_byte m
  unfolding per_byte
  per_byte_pos = per_byte_pos_by m.width

  -- the codes of a byte fill it
  pub radix_fills : radix m ^ per_byte m ≡ 256
  unfolding radix per_byte
  radix_fills = radix_fills_by m.width

  pub map_digit_lt : (k : ℕ) → map_digit m k < per_byte m
  unfolding map_digit
  map_digit_lt k = digit_by_lt m.order (per_byte m) (k % per_byte m) (mod-lt _ per_byte_pos)

  -- n codes fit the bytes for n
  pub map-room : (n : ℕ) → n ≤ map_bytes_for m n * per_byte m
  unfolding map_bytes_for
  map-room = up_holds per_byte_pos

  pub map_bytes_for_le : (n : ℕ) → map_bytes_for m n ≤ n
  unfolding map_bytes_for
  map_bytes_for_le = up_le per_byte_pos

  pub map_bytes_for_pos : {n : ℕ} → 0 < n → 0 < map_bytes_for m n
  unfolding map_bytes_for
  map_bytes_for_pos = up_pos per_byte_pos

  pub same_place : (k j : ℕ) → map_byte m k ≡ map_byte m j → map_digit m k ≡ map_digit m j → k ≡ j
  unfolding map_byte map_digit
  same_place k j e f =
      let p : ℕ = per_byte m in
      place_by p k j (omega arith) (digit_by-apart m.order p (k % p) (j % p) (mod-lt _ per_byte_pos) (mod-lt _ per_byte_pos) f)

  pub map_byte_ge : (k : ℕ) → m.begin.0 ≤ map_byte m k
  unfolding map_byte
  map_byte_ge k = omega arith

  pub map_byte_lt : (k n : ℕ) → k < n * per_byte m → map_byte m k < m.begin.0 + n
  unfolding map_byte
  map_byte_lt k n h = omega (arith, (div-lt_iff_lt-mul {k = per_byte m} {x = k} {y = n} per_byte_pos).1 h)

  -- the block whose code is digit i of byte j
  block_in : ℕ → ℕ → ℕ
  block_in j i = (j - m.begin.0) * per_byte m + digit_by m.order (per_byte m) i

  map_byte_at : (j i : ℕ) → m.begin.0 ≤ j → i < per_byte m → map_byte m (block_in j i) ≡ j
  unfolding map_byte block_in
  map_byte_at j i h l =
      omega (arith, digits_div (j - m.begin.0) (digit_by_lt m.order (per_byte m) i l))

  map_digit_at : (j i : ℕ) → i < per_byte m → map_digit m (block_in j i) ≡ i
  unfolding map_digit block_in
  map_digit_at j i l =
      rw (digits_mod (j - m.begin.0) (digit_by_lt m.order (per_byte m) i l))
      (digit_by-back m.order (per_byte m) i l)

-- every byte of RAM is one
abbrev pub Bytes : List ℕ → Type 0
Bytes ram = (i : ℕ) → get_or ram i 0 < 256

-- ---- one code

-- a code is read from its byte alone
pub code_of_byte : (m : Layout) (ram ram' : List ℕ) (k : ℕ) → get_or ram (map_byte m k) 0 ≡ get_or ram' (map_byte m k) 0
    → code_of m ram k ≡ code_of m ram' k
unfolding code_of
code_of_byte m ram ram' k e = rw e

module _ (m : Layout) (ram : List ℕ) where
  pub code_lt : (k : ℕ) → code_of m ram k < radix m
  unfolding code_of
  code_lt k = digit_lt (radix m) (radix_pos m) (map_digit m k) (get_or ram (map_byte m k) 0)

  pub length-set_code : (k v : ℕ) → length (set_code m ram k v) ≡ length ram
  unfolding set_code
  length-set_code k v = simp length-set

  pub code_same : (k v : ℕ) → map_byte m k < length ram → v < radix m → code_of m (set_code m ram k v) k ≡ v
  unfolding code_of set_code
  code_same k v h l = cell_same (radix m) (radix_pos m) ram (map_byte m k) (map_digit m k) v h l

  pub set_code-outside : (k v i : ℕ) → i ≢ map_byte m k → get_or (set_code m ram k v) i 0 ≡ get_or ram i 0
  unfolding set_code
  set_code-outside k v i n = rw get_or-set_other

  pub code_other : (k v j : ℕ) → v < radix m → k ≢ j → code_of m (set_code m ram k v) j ≡ code_of m ram j
  unfolding code_of set_code
  code_other k v j l n =
      cell_other (radix m) (radix_pos m) ram (map_byte m k) (map_digit m k) (map_byte m j) (map_digit m j) v l
      (λ e f. n (same_place m k j e f))

  pub set_code-bytes : (k v : ℕ) → v < radix m → Bytes ram → Bytes (set_code m ram k v)
  unfolding set_code
  set_code-bytes k v l bytes i =
      rw (← radix_fills m)
      (cells_fit (radix m) (radix_pos m) ram (per_byte m) (map_byte m k) (map_digit m k) v l (map_digit_lt m k) (λ b. rw radix_fills (bytes b)) i)

-- ---- a run of codes

module _ (m : Layout) where
  pub length-set_codes : (ram : List ℕ) (k : ℕ) (vs : List ℕ) → length (set_codes m ram k vs) ≡ length ram
  unfolding set_codes
  length-set_codes ram k [] = refl
  length-set_codes ram k (v ∷ vs) = length-set_codes (set_code m ram k v) (suc k) vs ∙ length-set_code m ram k v

  pub set_codes-append : (ram : List ℕ) (k : ℕ) (xs ys : List ℕ)
      → set_codes m ram k (xs ++ ys) ≡ set_codes m (set_codes m ram k xs) (k + length xs) ys
  unfolding set_codes
  set_codes-append ram k [] ys = rw add-zero refl
  set_codes-append ram k (x ∷ xs) ys = rw (add-suc, ← suc-add) (set_codes-append (set_code m ram k x) (suc k) xs ys)

  pub codes_outside : (ram : List ℕ) (k : ℕ) (vs : List ℕ) (j : ℕ) → AllBelow (radix m) vs → (k ≤ j → k + length vs ≤ j)
      → code_of m (set_codes m ram k vs) j ≡ code_of m ram j
  unfolding set_codes
  codes_outside ram k [] j none out = refl
  codes_outside ram k (v ∷ vs) j (one l ls) out =
      codes_outside (set_code m ram k v) (suc k) vs j ls (λ h. omega (arith, out (omega arith)))
      ∙ code_other m ram k v j l (λ e. absurd (omega (arith, out (omega arith))))

  pub codes_inside : (ram : List ℕ) (k : ℕ) (vs : List ℕ) (i : ℕ) → AllBelow (radix m) vs → i < length vs
      → map_byte m (k + i) < length ram → code_of m (set_codes m ram k vs) (k + i) ≡ get_or vs i 0
  unfolding set_codes
  codes_inside ram k [] i none l h = absurd (omega arith)
  codes_inside ram k (v ∷ vs) zero (one b bs) l h =
      let h' : map_byte m k < length ram = rw add-zero at h in
      rw add-zero
      (codes_outside (set_code m ram k v) (suc k) vs k bs (λ g. absurd (omega arith)) ∙ code_same m ram k v h' b)
  codes_inside ram k (v ∷ vs) (suc i) (one b bs) l h =
      rw (add-suc, ← suc-add)
      (codes_inside (set_code m ram k v) (suc k) vs i bs (omega arith)
      (rw length-set_code (rw (add-suc, ← suc-add) at h)))

  -- a byte that holds none of the codes
  pub set_codes-other : (ram : List ℕ) (k : ℕ) (vs : List ℕ) (i : ℕ) → ((j : ℕ) → k ≤ j → j < k + length vs → i ≢ map_byte m j)
      → get_or (set_codes m ram k vs) i 0 ≡ get_or ram i 0
  unfolding set_codes
  set_codes-other ram k [] i out = refl
  set_codes-other ram k (v ∷ vs) i out =
      set_codes-other (set_code m ram k v) (suc k) vs i (λ j g h. out j (omega arith) (omega arith))
      ∙ set_code-outside m ram k v i (out k (omega arith) (omega arith))

  -- a byte below the n bytes of the map or behind them
  pub set_codes-outside : (ram : List ℕ) (k : ℕ) (vs : List ℕ) (n i : ℕ) → k + length vs ≤ n * per_byte m
      → (m.begin.0 ≤ i → m.begin.0 + n ≤ i) → get_or (set_codes m ram k vs) i 0 ≡ get_or ram i 0
  set_codes-outside ram k vs n i fits out =
      set_codes-other ram k vs i
      (λ j g h e. let l : map_byte m j < m.begin.0 + n = map_byte_lt m j n (omega arith) in
      absurd (omega (arith, map_byte_ge m j, out (omega (arith, map_byte_ge m j)))))

  pub set_codes-bytes : (ram : List ℕ) (k : ℕ) (vs : List ℕ) → AllBelow (radix m) vs → Bytes ram → Bytes (set_codes m ram k vs)
  unfolding set_codes
  set_codes-bytes ram k [] none bytes = bytes
  set_codes-bytes ram k (v ∷ vs) (one l ls) bytes =
      set_codes-bytes (set_code m ram k v) (suc k) vs ls (set_code-bytes m ram k v l bytes)

  -- the codes in a byte determine it
  pub byte_by_codes : (ram ram' : List ℕ) (j : ℕ) → m.begin.0 ≤ j → get_or ram j 0 < 256 → get_or ram' j 0 < 256
      → ((k : ℕ) → map_byte m k ≡ j → code_of m ram k ≡ code_of m ram' k) → get_or ram j 0 ≡ get_or ram' j 0
  unfolding code_of
  byte_by_codes ram ram' j h b b' same =
      digits_ext (radix m) (radix_pos m) (per_byte m) (get_or ram j 0) (get_or ram' j 0) (rw radix_fills b) (rw radix_fills b')
      (λ i l. rw (map_byte_at m j i h l, map_digit_at m j i l) at (same (block_in m j i) (map_byte_at m j i h l)))
