-- The map as set-up writes it, one layer over another, each a run of one code: all places, the first block, the heap, the first block of the
-- safe stack area if there is one, the unused half of the last byte.
-- Assumes nothing.
use Prim.Native.Nat.{ℕ, ◌+◌, ◌-◌, ◌*◌, ◌≤◌, ◌<◌, min}
use mathlib.Core.Path.{◌≡◌, refl, sym, ◌∙◌}
use mathlib.Core.Bool.{cond, ◌&&◌}
use mathlib.Core.List.{List}
use native.Mathlib.Omega.{arith}
use lib.Dec.{eqb, leb, ltb}
use lib.ListN.{length, get_or, replicate, length-replicate, get_or-replicate}
use lib.Seq.{ext_get_or}
use borrow.Author.Tests.{ltb-true, ltb-false, leb-true, leb-false}
use Rattle.std.proofs.lemmas.Bool.Decides.{nat_tests}
use Rattle.rules.specs.declared.RamByte.{RamByte}
use Rattle.rules.specs.declared.Config.{Config}
use Rattle.rules.specs.Memory.{ram_bytes, layout_of, radix, divided_up, blocks, heap_block, safe_block, map_bytes, map_bytes_for, per_byte, map_byte, code_of, set_codes, start_code, later_code, free_code, trusted}
use Rattle.address.specs.Places.{map_at, to_whole}
use Rattle.rules.specs.SetUp.{set_up_code, set_up_codes, set_up_ram}
use Rattle.laws.proofs.AllBelow.{AllBelow, all_replicate}
use Rattle.laws.proofs.Codes.{domain_at, trusted_domain, start_code_lt, later_code_lt, free_code_lt, length-set_up_codes, set_up_codes-below, start_trusted}
use Rattle.laws.proofs.Good.{GoodConfig, heap_block_pos, heap_block≤safe_block, safe_block≤blocks, place<heap}
use Rattle.laws.proofs.Map.{Bytes, length-set_codes, set_codes-bytes, set_codes-outside, codes_inside, codes_outside, byte_by_codes}
use Rattle.laws.proofs.SetUp.{set_up_ram_code}
use Rattle.laws.proofs.Tests.{by_test}

-- ---- a run of one code

module _ (bot : RamByte) (ram : List ℕ) (k n v j : ℕ) (small : v < radix (map_at bot)) where
  in_run_lem : k ≤ j → j < k + n → map_byte (map_at bot) j < length ram → code_of (map_at bot) (set_codes (map_at bot) ram k (replicate n v)) j ≡ v
  in_run_lem from to inside =
      let at : k + (j - k) ≡ j = omega arith in
      (rw at at (codes_inside (map_at bot) ram k (replicate n v) (j - k) (all_replicate (radix (map_at bot)) n v small) (rw length-replicate (omega arith)) (rw at inside)))
      ∙ get_or-replicate n (j - k) v 0 (omega arith)

  out_of_run : (k ≤ j → k + n ≤ j) → code_of (map_at bot) (set_codes (map_at bot) ram k (replicate n v)) j ≡ code_of (map_at bot) ram j
  out_of_run out = codes_outside (map_at bot) ram k (replicate n v) j (all_replicate (radix (map_at bot)) n v small) (rw length-replicate out)

-- ---- the layers

-- h, s and t are where the heap, the safe stack area and the unused halves start, of which there are o
by_areas : (j h s t o free later start other : ℕ) → start ≡ free → 0 < h → h ≤ s → s ≤ t → j < t + o
    → cond (leb t j && ltb j (t + o)) free (cond (leb s j && ltb j (s + min 1 (t - s))) start (cond (leb h j && ltb j (h + (s - h))) free (cond (leb 0 j && ltb j (0 + 1)) start (cond (leb 0 j && ltb j (0 + (t + o))) later other))))
    ≡ cond (eqb j 0) start (cond (ltb j h) later (cond (ltb j s) free (cond (eqb j s) start (cond (ltb j t) later free))))
by_areas j h s t o free later start other e some order room inside = grind (arith, nat_tests)

module _ (c : Config) (g : GoodConfig c) (ram : List ℕ) (sized : length ram ≡ ram_bytes) (bytes : Bytes ram) where
  abbrev places : ℕ
  places = map_bytes c * per_byte (layout_of c)

  places_are : places ≡ blocks c + to_whole (layout_of c) (blocks c)
  unfolding map_bytes map_bytes_for divided_up per_byte to_whole
  places_are = omega arith

  -- what every write to the map keeps
  record Kept (x : List ℕ) : Type 0 where
    long : length x ≡ ram_bytes
    fits : Bytes x
    beside : (i : ℕ) → (c.bot.0 ≤ i → c.bot.0 + map_bytes c ≤ i) → get_or x i 0 ≡ get_or ram i 0

  written : (x : List ℕ) (k : ℕ) (vs : List ℕ) → Kept x → AllBelow (radix (layout_of c)) vs → k + length vs ≤ places → Kept (set_codes (layout_of c) x k vs)
  written x k vs h below room = record {
    long = length-set_codes (layout_of c) x k vs ∙ h.long;
    fits = set_codes-bytes (layout_of c) x k vs below h.fits;
    beside = λ i out. set_codes-outside (layout_of c) x k vs (map_bytes c) i room out ∙ h.beside i out;
  }

  -- a layer: what it keeps, and the codes, of which those beside it show through
  layer : (x y : List ℕ) (k n v : ℕ) → y ≡ set_codes (layout_of c) x k (replicate n v) → v < radix (layout_of c) → k + n ≤ places → Kept x
      → Kept y × ((j : ℕ) → j < places → code_of (layout_of c) y j ≡ cond (leb k j && ltb j (k + n)) v (code_of (layout_of c) x j))
  layer x y k n v e small room h =
      let below = all_replicate (radix (layout_of c)) n v small in (
        rw e (written x k (replicate n v) h below (rw length-replicate room)),
        λ j l.
            let inside : map_byte (layout_of c) j < length x = rw h.long (omega (arith, place<heap g l, g.heap≤safe, g.safe≤top, g.top≤ram)) in
            let out = out_of_run c.bot x k n v j small in
            rw e (by_test (leb k j)
            (λ t. by_test (ltb j (k + n))
            (λ u. rw (t, u) (in_run_lem c.bot x k n v j small (leb-true k j t) (ltb-true j (k + n) u) inside))
            (λ u. rw (t, u) (out (λ _. ltb-false _ _ u))))
            (λ t. rw t (out (λ o. absurd (omega (arith, leb-false k j t)))))),
      )

  -- RAM is decided by what is kept and the codes
  decided : (x y : List ℕ) → Kept x → Kept y → ((j : ℕ) → j < places → code_of (layout_of c) x j ≡ code_of (layout_of c) y j) → x ≡ y
  unfolding map_byte per_byte
  decided x y h h' codes =
      ext_get_or 0 x y (h.long ∙ sym h'.long)
      (λ i _. by_test (leb c.bot.0 i)
      (λ t. by_test (ltb i (c.bot.0 + map_bytes c))
      (λ u. byte_by_codes (layout_of c) x y i (leb-true _ _ t) (h.fits i) (h'.fits i) (λ j e. codes j (omega (arith, ltb-true i (c.bot.0 + map_bytes c) u))))
      (λ u. other i (λ _. ltb-false _ _ u)))
      (λ t. other i (λ l. absurd (omega (arith, leb-false c.bot.0 i t)))))
    where
      other : (i : ℕ) → (c.bot.0 ≤ i → c.bot.0 + map_bytes c ≤ i) → get_or x i 0 ≡ get_or y i 0
      other i out = h.beside i out ∙ sym (h'.beside i out)

  pub set_up_layers : (all first heap stack whole : List ℕ)
      → all ≡ set_codes (layout_of c) ram 0 (replicate places (later_code (layout_of c) trusted))
      → first ≡ set_codes (layout_of c) all 0 (replicate 1 (start_code (layout_of c) trusted))
      → heap ≡ set_codes (layout_of c) first (heap_block c) (replicate (safe_block c - heap_block c) (free_code (layout_of c)))
      → stack ≡ set_codes (layout_of c) heap (safe_block c) (replicate (min 1 (blocks c - safe_block c)) (start_code (layout_of c) trusted))
      → whole ≡ set_codes (layout_of c) stack (blocks c) (replicate (to_whole (layout_of c) (blocks c)) (free_code (layout_of c)))
      → whole ≡ set_up_ram (layout_of c) c ram
  unfolding set_up_code set_up_ram
  set_up_layers all first heap stack whole e₁ e₂ e₃ e₄ e₅ =
      let some = heap_block_pos g in
      let order = heap_block≤safe_block g in
      let room = safe_block≤blocks g in
      let start_lt = start_code_lt (layout_of c) trusted (domain_at c trusted (trusted_domain c)) in
      let later_lt = later_code_lt (layout_of c) trusted (domain_at c trusted (trusted_domain c)) in
      let free_lt = free_code_lt (layout_of c) in
      let k₀ : Kept ram = record { long = sized; fits = bytes; beside = λ i out. refl } in
      let (k₁, s₁) = layer _ _ _ _ _ e₁ later_lt (omega arith) k₀ in
      let (k₂, s₂) = layer _ _ 0 1 _ e₂ start_lt (omega (arith, places_are)) k₁ in
      let (k₃, s₃) = layer _ _ _ _ _ e₃ free_lt (omega (arith, places_are)) k₂ in
      let (k₄, s₄) = layer _ _ _ _ _ e₄ start_lt (omega (arith, places_are)) k₃ in
      let (k₅, s₅) = layer _ _ _ _ _ e₅ free_lt (omega (arith, places_are)) k₄ in
      let rule = written ram 0 (set_up_codes c 0 places) k₀ (set_up_codes-below c 0 places) (rw length-set_up_codes (omega arith)) in
      decided whole (set_up_ram (layout_of c) c ram) k₅ rule
      (λ j l. rw (s₅ j l, s₄ j l, s₃ j l, s₂ j l, s₁ j l, set_up_ram_code c ram g sized j l, places_are)
      (by_areas j (heap_block c) (safe_block c) (blocks c) (to_whole (layout_of c) (blocks c)) _ _ _ _ (start_trusted (layout_of c)) some order room (omega (arith, places_are))))
