-- The meaning of a code: free, the start of a segment of a domain, or a later block of one; and who is a domain, who a module.
-- Assumes nothing.
use Rattle.std.proofs.Common.{ℕ, zero, suc, ◌+◌, ◌/◌, ◌%◌, ◌≤◌, ◌<◌, ◌≡◌, refl, sym, ap, ◌≢◌, Bool, true, false, cond, add-zero, add-suc, suc-add, arith, length, get_or, eqb-true, leb-true, ltb-true, ne_eqb, eq-eqb, lt-ltb, le-leb, le-ltb, eqb, ltb}
use Rattle.std.proofs.Math.Bool.{and-false}
use Rattle.std.proofs.Math.ListN.{length-replicate, get_or-replicate}
use borrow.Author.Tests.{eqb-false}
use Rattle.rules.specs.declared.Config.{Config}
use Rattle.rules.specs.Memory.{Width, four_bits, Layout, width_of, layout_of, radix_by, radix, trusted, domain_by, module_by, is_domain, is_module, start_code_by, later_code_by, free_code_by, owner_by, start_code, later_code, free_code, owner_of, starts_segment, segment_codes, heap_block, safe_block, blocks}
use Rattle.rules.specs.Code.{table_words, domain_words}
use Rattle.rules.specs.SetUp.{set_up_code, set_up_codes}
use Rattle.laws.proofs.Tests.{by_test}
use Rattle.laws.proofs.AllBelow.{AllBelow, none, one, all_replicate}

-- ---- domains

domain_le_by : (w : Width) (d : ℕ) → domain_by w d ≡ true → d ≤ trusted
domain_le_by four_bits d h = leb-true d trusted h

module_lt_by : (w : Width) (d : ℕ) → module_by w d ≡ true → d < trusted
module_lt_by four_bits d h = ltb-true d trusted h

module_domain_by : (w : Width) (d : ℕ) → module_by w d ≡ true → domain_by w d ≡ true
module_domain_by four_bits d h = le-leb d trusted (omega (arith, ltb-true d trusted h))

domain_module_by : (w : Width) (d : ℕ) → domain_by w d ≡ true → d ≢ trusted → module_by w d ≡ true
domain_module_by four_bits d h n = lt-ltb d trusted (omega (arith, leb-true d trusted h))

trusted_domain_by : (w : Width) → domain_by w trusted ≡ true
trusted_domain_by four_bits = refl

called_domain_by : (w : Width) (word : ℕ) → word < table_words → domain_by w (word / domain_words) ≡ true
called_domain_by four_bits word h = le-leb (word / domain_words) trusted (omega arith)

module _ (c : Config) where
  pub domain_le : (d : ℕ) → is_domain c d ≡ true → d ≤ trusted
  unfolding is_domain
  domain_le = domain_le_by (layout_of c).width

  pub module_lt : (d : ℕ) → is_module c d ≡ true → d < trusted
  unfolding is_module
  module_lt = module_lt_by (layout_of c).width

  pub module_domain : (d : ℕ) → is_module c d ≡ true → is_domain c d ≡ true
  unfolding is_module is_domain
  module_domain = module_domain_by (layout_of c).width

  pub domain_module : (d : ℕ) → is_domain c d ≡ true → d ≢ trusted → is_module c d ≡ true
  unfolding is_module is_domain
  domain_module = domain_module_by (layout_of c).width

  -- as the laws of codes below ask it
  pub domain_at : (d : ℕ) → is_domain c d ≡ true → domain_by (width_of c) d ≡ true
  unfolding is_domain
  domain_at d h = h

  pub module_at : (d : ℕ) → is_module c d ≡ true → module_by (width_of c) d ≡ true
  unfolding is_module
  module_at d h = h

  pub trusted_domain : is_domain c trusted ≡ true
  unfolding is_domain
  trusted_domain = trusted_domain_by (layout_of c).width

  -- the domain of a word of the jump tables
  pub called_domain_lem : (word : ℕ) → word < table_words → is_domain c (word / domain_words) ≡ true
  unfolding is_domain
  called_domain_lem = called_domain_by (layout_of c).width

-- ---- the numbers of Table 1, each opened once for every width

start_lt_by : (w : Width) (d : ℕ) → domain_by w d ≡ true → start_code_by w d < radix_by w
start_lt_by four_bits d h = omega (arith, leb-true d trusted h)

later_lt_by : (w : Width) (d : ℕ) → domain_by w d ≡ true → later_code_by w d < radix_by w
later_lt_by four_bits d h = omega (arith, leb-true d trusted h)

free_lt_by : (w : Width) → free_code_by w < radix_by w
free_lt_by four_bits = omega arith

owner_start_by : (w : Width) (d : ℕ) → domain_by w d ≡ true → owner_by w (start_code_by w d) ≡ d
owner_start_by four_bits d h = omega arith

owner_later_by : (w : Width) (d : ℕ) → domain_by w d ≡ true → owner_by w (later_code_by w d) ≡ d
owner_later_by four_bits d h = omega arith

owner_free_by : (w : Width) → owner_by w (free_code_by w) ≡ trusted
owner_free_by four_bits = refl

start_trusted_by : (w : Width) → start_code_by w trusted ≡ free_code_by w
start_trusted_by four_bits = refl

owner_domain_by : (w : Width) (code : ℕ) → code < radix_by w → domain_by w (owner_by w code) ≡ true
owner_domain_by four_bits code h = le-leb (owner_by four_bits code) trusted (omega arith)

start≢free_by : (w : Width) (d : ℕ) → module_by w d ≡ true → start_code_by w d ≢ free_code_by w
start≢free_by four_bits d h e = omega (arith, ltb-true d trusted h)

later≢free_by : (w : Width) (d : ℕ) → domain_by w d ≡ true → later_code_by w d ≢ free_code_by w
later≢free_by four_bits d h e = omega arith

start_odd_by : (w : Width) (d : ℕ) → start_code_by w d % 2 ≡ 1
start_odd_by four_bits d = omega arith

later_even_by : (w : Width) (d : ℕ) → later_code_by w d % 2 ≡ 0
later_even_by four_bits d = omega arith

-- a code is that of its owner's start or of a later block of it
odd_start_by : (w : Width) (code : ℕ) → code < radix_by w → code % 2 ≡ 1 → start_code_by w (owner_by w code) ≡ code
odd_start_by four_bits code h o = omega arith

even_later_by : (w : Width) (code : ℕ) → code < radix_by w → code % 2 ≢ 1 → later_code_by w (owner_by w code) ≡ code
even_later_by four_bits code h o = omega arith

module _ (m : Layout) where
  -- ---- bounds

  pub start_code_lt : (d : ℕ) → domain_by m.width d ≡ true → start_code m d < radix m
  unfolding start_code radix
  start_code_lt = start_lt_by m.width

  pub later_code_lt : (d : ℕ) → domain_by m.width d ≡ true → later_code m d < radix m
  unfolding later_code radix
  later_code_lt = later_lt_by m.width

  pub free_code_lt : free_code m < radix m
  unfolding free_code radix
  free_code_lt = free_lt_by m.width

  pub segment_codes-below : (d n : ℕ) → domain_by m.width d ≡ true → AllBelow (radix m) (segment_codes m d n)
  segment_codes-below d zero h = none
  segment_codes-below d (suc n) h = one (start_code_lt d h) (all_replicate (radix m) n (later_code m d) (later_code_lt d h))

  pub length-segment_codes : (d n : ℕ) → length (segment_codes m d n) ≡ n
  length-segment_codes d zero = refl
  length-segment_codes d (suc n) = ap suc (length-replicate n (later_code m d))

  pub get_or-segment_codes-first : (d n : ℕ) → 0 < n → get_or (segment_codes m d n) 0 0 ≡ start_code m d
  get_or-segment_codes-first d zero h = absurd (omega arith)
  get_or-segment_codes-first d (suc n) h = refl

  pub get_or-segment_codes-later : (d n i : ℕ) → suc i < n → get_or (segment_codes m d n) (suc i) 0 ≡ later_code m d
  get_or-segment_codes-later d zero i h = absurd (omega arith)
  get_or-segment_codes-later d (suc n) i h = get_or-replicate n i (later_code m d) 0 (omega arith)

  -- ---- owners

  pub owner_of-start : (d : ℕ) → domain_by m.width d ≡ true → owner_of m (start_code m d) ≡ d
  unfolding owner_of start_code
  owner_of-start = owner_start_by m.width

  pub owner_of-later : (d : ℕ) → domain_by m.width d ≡ true → owner_of m (later_code m d) ≡ d
  unfolding owner_of later_code
  owner_of-later = owner_later_by m.width

  -- "so a free block has owner 7"
  pub owner_of-free : owner_of m (free_code m) ≡ trusted
  unfolding owner_of free_code
  owner_of-free = owner_free_by m.width

  -- "15 is free or starts a trusted segment"
  pub start_trusted : start_code m trusted ≡ free_code m
  unfolding start_code free_code
  start_trusted = start_trusted_by m.width

  pub owner_of-domain : (code : ℕ) → code < radix m → domain_by m.width (owner_of m code) ≡ true
  unfolding owner_of radix
  owner_of-domain = owner_domain_by m.width

  -- ---- codes differ

  pub start≢free : (d : ℕ) → module_by m.width d ≡ true → start_code m d ≢ free_code m
  unfolding start_code free_code
  start≢free = start≢free_by m.width

  pub later≢free : (d : ℕ) → domain_by m.width d ≡ true → later_code m d ≢ free_code m
  unfolding later_code free_code
  later≢free = later≢free_by m.width

  pub start≢later : (d e : ℕ) → start_code m d ≢ later_code m e
  unfolding start_code later_code
  start≢later d e f =
      let g : start_code_by m.width d % 2 ≡ later_code_by m.width e % 2 = ap (λ (x : ℕ). x % 2) f in
      omega (arith, g, start_odd_by m.width d, later_even_by m.width e)

  -- ---- which codes start a segment

  pub starts_start : (d : ℕ) → module_by m.width d ≡ true → starts_segment m (start_code m d) ≡ true
  unfolding starts_segment start_code free_code
  starts_start d h = rw (eq-eqb _ 1 (start_odd_by m.width d), ne_eqb _ _ (start≢free_by m.width d h)) refl

  pub starts_later : (d : ℕ) → starts_segment m (later_code m d) ≡ false
  unfolding starts_segment later_code
  starts_later d = rw (ne_eqb (later_code_by m.width d % 2) 1 (λ e. omega (arith, e, later_even_by m.width d))) refl

  pub starts_free : starts_segment m (free_code m) ≡ false
  unfolding starts_segment
  starts_free = rw (eq-eqb (free_code m) (free_code m) refl, and-false) refl

-- ---- what set-up writes

either : (P : ℕ → Type 0) {a b : ℕ} (t : Bool) → P a → P b → P (cond t a b)
either P true h k = h
either P false h k = k

-- what holds of the three codes that set-up writes holds of each place
set_up_code-by : (P : ℕ → Type 0) (c : Config) → P (start_code (layout_of c) trusted) → P (later_code (layout_of c) trusted) → P (free_code (layout_of c))
    → (k : ℕ) → P (set_up_code c k)
unfolding set_up_code
set_up_code-by P c first other free k =
    either P (eqb k 0) (search)
    (either P (ltb k (heap_block c)) (search)
    (either P (ltb k (safe_block c)) (search) (either P (eqb k (safe_block c)) (search) (either P (ltb k (blocks c)) (search) (search)))))

pub set_up_code_lt : (c : Config) (k : ℕ) → set_up_code c k < radix (layout_of c)
set_up_code_lt c =
    let w : Width = (layout_of c).width in
    set_up_code-by (λ (v : ℕ). v < radix (layout_of c)) c (start_code_lt (layout_of c) trusted (trusted_domain_by w))
    (later_code_lt (layout_of c) trusted (trusted_domain_by w)) (free_code_lt (layout_of c))

pub set_up_codes-below : (c : Config) (k n : ℕ) → AllBelow (radix (layout_of c)) (set_up_codes c k n)
unfolding set_up_codes
set_up_codes-below c k zero = none
set_up_codes-below c k (suc n) = one (set_up_code_lt c k) (set_up_codes-below c (suc k) n)

pub length-set_up_codes : (c : Config) (k n : ℕ) → length (set_up_codes c k n) ≡ n
unfolding set_up_codes
length-set_up_codes c k zero = refl
length-set_up_codes c k (suc n) = ap suc (length-set_up_codes c (suc k) n)

pub get_or-set_up_codes : (c : Config) (k n i : ℕ) → i < n → get_or (set_up_codes c k n) i 0 ≡ set_up_code c (k + i)
unfolding set_up_codes
get_or-set_up_codes c k zero i h = absurd (omega arith)
get_or-set_up_codes c k (suc n) zero h = rw add-zero refl
get_or-set_up_codes c k (suc n) (suc i) h = rw (add-suc, ← suc-add) (get_or-set_up_codes c (suc k) n i (omega arith))

-- the heap is free
pub set_up_code-heap : (c : Config) (k : ℕ) → 0 < heap_block c → heap_block c ≤ k → k < safe_block c → set_up_code c k ≡ free_code (layout_of c)
unfolding set_up_code
set_up_code-heap c k p l u = rw (ne_eqb k 0 (omega arith), le-ltb k (heap_block c) l, lt-ltb k (safe_block c) u)

-- set-up gives no module a block
pub set_up_code-owner : (c : Config) (k : ℕ) → owner_of (layout_of c) (set_up_code c k) ≡ trusted
set_up_code-owner c =
    let w : Width = (layout_of c).width in
    set_up_code-by (λ (v : ℕ). owner_of (layout_of c) v ≡ trusted) c (owner_of-start (layout_of c) trusted (trusted_domain_by w))
    (owner_of-later (layout_of c) trusted (trusted_domain_by w)) (owner_of-free (layout_of c))

-- ---- codes as data

pub data Meaning : Type 0 where
  free : Meaning
  start : ℕ → Meaning
  later : ℕ → Meaning

abbrev pub encode : Layout → Meaning → ℕ
encode m free = free_code m
encode m (start d) = start_code m d
encode m (later d) = later_code m d

unfoldable pub decode : Layout → ℕ → Meaning
decode m code =
    cond (eqb code (free_code m)) free (cond (starts_segment m code) (start (owner_of m code)) (later (owner_of m code)))

module _ (m : Layout) where
  pub decode_free : decode m (free_code m) ≡ free
  unfolding decode
  decode_free = rw (eq-eqb (free_code m) (free_code m) refl) refl

  pub decode_start : (d : ℕ) → module_by m.width d ≡ true → decode m (start_code m d) ≡ start d
  unfolding decode
  decode_start d h =
      rw (ne_eqb (start_code m d) (free_code m) (start≢free m d h), starts_start m d h, owner_of-start m d (module_domain_by m.width d h)) refl

  pub decode_later : (d : ℕ) → domain_by m.width d ≡ true → decode m (later_code m d) ≡ later d
  unfolding decode
  decode_later d h =
      rw (ne_eqb (later_code m d) (free_code m) (later≢free m d h), starts_later m d, owner_of-later m d h) refl

  -- every code is the code of its meaning
  pub encode_decode : (code : ℕ) → code < radix m → encode m (decode m code) ≡ code
  unfolding decode starts_segment owner_of start_code later_code free_code radix
  encode_decode code h =
      by_test (eqb code (free_code_by m.width))
      (λ t. rw t (sym (eqb-true code (free_code_by m.width) t)))
      (λ t. by_test (eqb (code % 2) 1)
      (λ o. rw (t, o) (odd_start_by m.width code h (eqb-true (code % 2) 1 o)))
      (λ o. rw (t, o) (even_later_by m.width code h (eqb-false (code % 2) 1 o))))
