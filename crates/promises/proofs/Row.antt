-- Segments in a row through the heap: the codes that they give the blocks, and what entering one, or putting something in one's place, does
-- to the row and to the codes.
-- Assumes nothing.
use Rattle.std.proofs.Common.{ℕ, zero, suc, ◌+◌, ◌≤◌, ◌<◌, ◌≡◌, refl, sym, ap, ◌∙◌, ◌≢◌, inl, inr, true, false, ◌&&◌, true≢false, List, [], ◌∷◌, ◌++◌, arith, get_or, ltb, eqb, ltb-true, ltb-false, lt-ltb, eq-eqb, ne_eqb}
use Rattle.std.proofs.Math.Decide.{ℕ_discrete}
use Rattle.rules.specs.declared.Config.{Config}
use Rattle.rules.specs.Memory.{layout_of, start_code, later_code, free_code, starts_segment, segment_codes, is_domain, is_module}
use Rattle.laws.proofs.Tests.{by_test, both, and-true}
use Rattle.laws.proofs.Blocks.{start_mono, start_lt, block_bytes_pos}
use Rattle.laws.proofs.Codes.{module_domain, domain_at, module_at, start≢free, start≢later, later≢free, starts_later, starts_free, get_or-segment_codes-first, get_or-segment_codes-later}
use Rattle.promises.specs.Ledger.{Segment, entered, replaced_at, struck, made_over, first_block, end_block, HeapSegment, Apart, code_by}
use Rattle.promises.specs.Promise.{◌∈◌}

module _ (c : Config) where
  -- each in the heap, and behind block k and those before it
  abbrev pub Row : ℕ → List Segment → Type 0
  Row k [] = Unit {0}
  Row k (g ∷ gs) = HeapSegment c g × (k ≤ first_block c g) × Row (end_block c g) gs

  pub row_apart : (k : ℕ) (gs : List Segment) → Row k gs → Apart c k gs
  row_apart k [] r = tt
  row_apart k (g ∷ gs) r = (r.1, row_apart (end_block c g) gs r.2)

  pub row_in_heap : (k : ℕ) (gs : List Segment) → Row k gs → (g : Segment) → g ∈ gs → HeapSegment c g
  row_in_heap k [] r g m = absurd m
  row_in_heap k (f ∷ fs) r g (inl e) = rw e r.0
  row_in_heap k (f ∷ fs) r g (inr m) = row_in_heap (end_block c f) fs r.2 g m

  pub row_lower : (j k : ℕ) (gs : List Segment) → j ≤ k → Row k gs → Row j gs
  row_lower j k [] h r = tt
  row_lower j k (g ∷ gs) h r = (r.0, omega arith, r.2)

  -- ---- the codes

  pub code_first : (g : Segment) (gs : List Segment) (k : ℕ) → k ≡ first_block c g → code_by c (g ∷ gs) k ≡ start_code (layout_of c) g.owner
  unfolding code_by
  code_first g gs k e = rw (eq-eqb k (first_block c g) e)

  pub code_later : (g : Segment) (gs : List Segment) (k : ℕ) → first_block c g < k → k < end_block c g
      → code_by c (g ∷ gs) k ≡ later_code (layout_of c) g.owner
  unfolding code_by
  code_later g gs k l u =
      rw (ne_eqb k (first_block c g) (λ e. omega arith), lt-ltb (first_block c g) k l, lt-ltb k (end_block c g) u)

  pub code_past : (g : Segment) (gs : List Segment) (k : ℕ) → 0 < g.blocks → (first_block c g ≤ k → end_block c g ≤ k)
      → code_by c (g ∷ gs) k ≡ code_by c gs k
  unfolding code_by
  code_past g gs k p out =
      rw (ne_eqb k (first_block c g) (λ e. omega (arith, out (omega arith))))
      (by_test (ltb (first_block c g) k && ltb k (end_block c g))
      (λ t.
      let (l, u) = both (ltb (first_block c g) k) (ltb k (end_block c g)) t in
      let m : first_block c g < k = ltb-true (first_block c g) k l in
      absurd (omega (arith, out (omega arith), ltb-true k (end_block c g) u)))
      (λ t. rw t))

  pub code_none : (k : ℕ) → code_by c [] k ≡ free_code (layout_of c)
  unfolding code_by
  code_none k = refl

  -- below the row all is free
  pub code_below : (lo : ℕ) (gs : List Segment) → Row lo gs → (k : ℕ) → k < lo → code_by c gs k ≡ free_code (layout_of c)
  code_below lo [] r k h = code_none k
  code_below lo (g ∷ gs) r k h =
      let l : k < first_block c g = omega arith in
      code_past g gs k r.0.some (λ q. absurd (omega arith)) ∙ code_below (end_block c g) gs r.2 k (omega arith)

  -- a block of g has its code from g alone, and any other from the rest
  pub code_in : (g : Segment) (gs fs : List Segment) (k : ℕ) → first_block c g ≤ k → k < end_block c g
      → code_by c (g ∷ gs) k ≡ code_by c (g ∷ fs) k
  code_in g gs fs k l u =
      elim (ℕ_discrete k (first_block c g)) [
        | yes e ↦ code_first g gs k e ∙ sym (code_first g fs k e)
        | no n ↦ code_later g gs k (omega arith) u ∙ sym (code_later g fs k (omega arith) u)
      ]

  -- those of g, in order
  pub code_segment : (g : Segment) (gs : List Segment) (i : ℕ) → i < g.blocks
      → code_by c (g ∷ gs) (first_block c g + i) ≡ get_or (segment_codes (layout_of c) g.owner g.blocks) i 0
  code_segment g gs zero l =
      code_first g gs (first_block c g + 0) (omega arith) ∙ sym (get_or-segment_codes-first (layout_of c) g.owner g.blocks l)
  code_segment g gs (suc i) l =
      code_later g gs (first_block c g + suc i) (omega arith) (omega arith) ∙ sym (get_or-segment_codes-later (layout_of c) g.owner g.blocks i l)

  code_cong : (g : Segment) (gs fs : List Segment) (k : ℕ) → code_by c gs k ≡ code_by c fs k → code_by c (g ∷ gs) k ≡ code_by c (g ∷ fs) k
  unfolding code_by
  code_cong g gs fs k e = rw e

  code_swap : (g f : Segment) (fs : List Segment) (k : ℕ) → 0 < f.blocks → 0 < g.blocks → end_block c f ≤ first_block c g
      → code_by c (f ∷ g ∷ fs) k ≡ code_by c (g ∷ f ∷ fs) k
  code_swap g f fs k p q l =
      by_test (ltb k (end_block c f))
      (λ t.
      let u : k < end_block c f = ltb-true k (end_block c f) t in
      code_cong f (g ∷ fs) fs k (code_past g fs k q (λ h. absurd (omega arith)))
      ∙ sym (code_past g (f ∷ fs) k q (λ h. absurd (omega arith))))
      (λ t.
      let u : end_block c f ≤ k = ltb-false k (end_block c f) t in
      code_past f (g ∷ fs) k p (λ h. u) ∙ sym (code_cong g (f ∷ fs) fs k (code_past f fs k p (λ h. u))))

  -- no block of a segment is free
  code_held : (g : Segment) (gs : List Segment) (k : ℕ) → is_module c g.owner ≡ true → first_block c g ≤ k → k < end_block c g
      → code_by c (g ∷ gs) k ≢ free_code (layout_of c)
  code_held g gs k m l u e =
      elim (ℕ_discrete k (first_block c g)) [
        | yes q ↦ start≢free (layout_of c) g.owner (module_at c g.owner m) (sym (code_first g gs k q) ∙ e)
        | no n ↦ later≢free (layout_of c) g.owner (domain_at c g.owner (module_domain c g.owner m)) (sym (code_later g gs k (omega arith) u) ∙ e)
      ]

  -- ---- blocks and addresses of segments

  address_lt : (g f : Segment) → HeapSegment c g → HeapSegment c f → g.address < f.address → first_block c g < first_block c f
  address_lt g f hg hf l =
      by_test (ltb (first_block c g) (first_block c f)) (λ t. ltb-true _ _ t)
      (λ t. absurd (omega (arith, hg.at_block, hf.at_block, start_mono c (ltb-false (first_block c g) (first_block c f) t))))

  address_le : (g f : Segment) → HeapSegment c g → HeapSegment c f → g.address ≤ f.address → first_block c g ≤ first_block c f
  address_le g f hg hf l =
      by_test (ltb (first_block c f) (first_block c g))
      (λ t. absurd (omega (arith, hg.at_block, hf.at_block, block_bytes_pos c, start_lt c (ltb-true (first_block c f) (first_block c g) t))))
      (λ t. ltb-false _ _ t)

  -- ---- entering

  pub enter_row : (lo : ℕ) (g : Segment) (gs : List Segment) → HeapSegment c g → lo ≤ first_block c g → Row lo gs
      → ((k : ℕ) → first_block c g ≤ k → k < end_block c g → code_by c gs k ≡ free_code (layout_of c))
      → Row lo (entered g gs) × ((k : ℕ) → code_by c (entered g gs) k ≡ code_by c (g ∷ gs) k)
  unfolding entered
  enter_row lo g [] hg l r free = ((hg, l, tt), λ k. refl)
  enter_row lo g (f ∷ fs) hg l r free =
      by_test (ltb g.address f.address)
      (λ t.
      let b : first_block c g < first_block c f = address_lt g f hg r.0 (ltb-true _ _ t) in
      rw t (
        (
          hg,
          l,
          (
            r.0,
            by_test (ltb (first_block c f) (end_block c g))
                (λ u. absurd (start≢free (layout_of c) f.owner (module_at c f.owner r.0.by_module)
                (sym (code_first f fs (first_block c f) refl) ∙ free (first_block c f) (omega arith) (ltb-true _ _ u))))
                (λ u. ltb-false _ _ u),
            r.2,
          ),
        ),
        λ k. refl,
      ))
      (λ t.
      let b : first_block c f ≤ first_block c g = address_le f g r.0 hg (ltb-false _ _ t) in
      let past : end_block c f ≤ first_block c g =
      by_test (ltb (first_block c g) (end_block c f))
      (λ u. absurd (code_held f fs (first_block c g) r.0.by_module b (ltb-true _ _ u)
      (free (first_block c g) (omega arith) (omega (arith, hg.some)))))
      (λ u. ltb-false _ _ u) in
      let (row, codes) =
      enter_row (end_block c f) g fs hg past r.2
      (λ k m u. sym (code_past f fs k r.0.some (λ h. omega arith)) ∙ free k m u) in
      rw t (
        (r.0, r.1, row),
        λ k. code_cong f (entered g fs) (g ∷ fs) k (codes k) ∙ code_swap g f fs k r.0.some hg.some past,
      ))

  -- ---- a segment of the row

  pub member_behind : (lo : ℕ) (gs : List Segment) → Row lo gs → (g : Segment) → g ∈ gs → lo ≤ first_block c g
  member_behind lo [] r g m = absurd m
  member_behind lo (f ∷ fs) r g (inl e) = rw e r.1
  member_behind lo (f ∷ fs) r g (inr m) = omega (arith, r.1, member_behind (end_block c f) fs r.2 g m)

  -- two that have a block in common are one
  pub member_one : (lo : ℕ) (gs : List Segment) → Row lo gs → (f g : Segment) → f ∈ gs → g ∈ gs → (k : ℕ)
      → first_block c f ≤ k → k < end_block c f → first_block c g ≤ k → k < end_block c g → f ≡ g
  member_one lo [] r f g m n k fl fu gl gu = absurd m
  member_one lo (e ∷ es) r f g (inl p) (inl q) k fl fu gl gu = p ∙ sym q
  member_one lo (e ∷ es) r f g (inl p) (inr n) k fl fu gl gu =
      absurd (omega (arith, ap (end_block c) p, member_behind (end_block c e) es r.2 g n))
  member_one lo (e ∷ es) r f g (inr m) (inl q) k fl fu gl gu =
      absurd (omega (arith, ap (end_block c) q, member_behind (end_block c e) es r.2 f m))
  member_one lo (e ∷ es) r f g (inr m) (inr n) k fl fu gl gu = member_one (end_block c e) es r.2 f g m n k fl fu gl gu

  pub member_code : (lo : ℕ) (gs : List Segment) → Row lo gs → (g : Segment) → g ∈ gs → (k : ℕ) → first_block c g ≤ k → k < end_block c g
      → code_by c gs k ≡ code_by c (g ∷ []) k
  member_code lo [] r g m k l u = absurd m
  member_code lo (f ∷ fs) r g (inl e) k l u = rw (← e) (code_in g fs [] k l u)
  member_code lo (f ∷ fs) r g (inr m) k l u =
      let b : end_block c f ≤ first_block c g = member_behind (end_block c f) fs r.2 g m in
      code_past f fs k r.0.some (λ h. omega arith) ∙ member_code (end_block c f) fs r.2 g m k l u

  -- where the row may begin, nothing goes on
  code_edge : (lo : ℕ) (gs : List Segment) → Row lo gs → (d : ℕ) → is_domain c d ≡ true → code_by c gs lo ≢ later_code (layout_of c) d
  code_edge lo [] r d w e = later≢free (layout_of c) d (domain_at c d w) (sym e ∙ code_none lo)
  code_edge lo (g ∷ gs) r d w e =
      elim (ℕ_discrete lo (first_block c g)) [
        | yes q ↦ start≢later (layout_of c) g.owner d (sym (code_first g gs lo q) ∙ e)
        | no n ↦
            let l : lo < first_block c g = omega (arith, r.1) in
            later≢free (layout_of c) d (domain_at c d w)
            (sym e ∙ code_past g gs lo r.0.some (λ h. absurd (omega arith)) ∙ code_below (end_block c g) gs r.2 lo (omega arith))
      ]

  -- nor does it behind a segment
  pub code_behind : (lo : ℕ) (gs : List Segment) → Row lo gs → (g : Segment) → g ∈ gs → (d : ℕ) → is_domain c d ≡ true
      → code_by c gs (end_block c g) ≢ later_code (layout_of c) d
  code_behind lo [] r g m d w e = absurd m
  code_behind lo (f ∷ fs) r g (inl q) d w e =
      code_edge (end_block c f) fs r.2 d w (sym (code_past f fs (end_block c f) r.0.some (λ h. omega arith)) ∙ (rw q at e))
  code_behind lo (f ∷ fs) r g (inr m) d w e =
      let b : end_block c f ≤ first_block c g = member_behind (end_block c f) fs r.2 g m in
      code_behind (end_block c f) fs r.2 g m d w (sym (code_past f fs (end_block c g) r.0.some (λ h. omega arith)) ∙ e)

  -- a block that starts a segment is the first of one of the row
  pub holder : (lo : ℕ) (gs : List Segment) → Row lo gs → (k : ℕ) → starts_segment (layout_of c) (code_by c gs k) ≡ true
      → (g : Segment) × (g ∈ gs) × (first_block c g ≡ k)
  holder lo [] r k h = absurd (true≢false (sym h ∙ ap (starts_segment (layout_of c)) (code_none k) ∙ starts_free (layout_of c)))
  holder lo (f ∷ fs) r k h =
      elim (ℕ_discrete k (first_block c f)) [
        | yes e ↦ (f, inl refl, sym e)
        | no n ↦
            by_test (ltb (first_block c f) k && ltb k (end_block c f))
            (λ t.
            let (l, u) = both (ltb (first_block c f) k) (ltb k (end_block c f)) t in
            absurd (true≢false (sym h ∙ ap (starts_segment (layout_of c)) (code_later f fs k (ltb-true _ _ l) (ltb-true _ _ u)) ∙ starts_later (layout_of c) f.owner)))
            (λ t.
            let out : first_block c f ≤ k → end_block c f ≤ k =
            λ q. by_test (ltb k (end_block c f))
            (λ u. absurd (true≢false (sym (and-true _ _ (lt-ltb (first_block c f) k (omega arith)) u) ∙ t)))
            (λ u. ltb-false _ _ u) in
            let (g, m, e) = holder (end_block c f) fs r.2 k (sym (ap (starts_segment (layout_of c)) (code_past f fs k r.0.some out)) ∙ h) in
            (g, inr m, e))
      ]

  -- ---- putting something in a segment's place

  -- a segment behind f has another address
  address_behind : (f : Segment) (fs : List Segment) → HeapSegment c f → Row (end_block c f) fs → (g : Segment) → g ∈ fs → eqb f.address g.address ≡ false
  address_behind f fs hf r g m =
      let hg : HeapSegment c g = row_in_heap (end_block c f) fs r g m in
      let b : end_block c f ≤ first_block c g = member_behind (end_block c f) fs r g m in
      let l : first_block c f < first_block c g = omega (arith, hf.some) in
      ne_eqb f.address g.address (λ e. omega (arith, hf.at_block, hg.at_block, block_bytes_pos c, start_lt c l))

  -- what may stand in g's place: it fits there, and has its codes in g's blocks alone
  pub record InPlaceOf (g : Segment) (new : List Segment) : Type 0 where
    pub fits : (lo : ℕ) (fs : List Segment) → lo ≤ first_block c g → Row (end_block c g) fs → Row lo (new ++ fs)
    pub inside : (fs : List Segment) (k : ℕ) → Row (end_block c g) fs → first_block c g ≤ k → k < end_block c g
        → code_by c (new ++ fs) k ≡ code_by c new k
    pub outside : (fs : List Segment) (k : ℕ) → (first_block c g ≤ k → end_block c g ≤ k) → code_by c (new ++ fs) k ≡ code_by c fs k

  pub struck_place : (g : Segment) → HeapSegment c g → InPlaceOf g (struck g)
  struck_place g h =
      record {
        fits = λ lo fs l r. row_lower lo (end_block c g) fs (omega arith) r;
        inside = λ fs k r l u. code_below (end_block c g) fs r k u ∙ sym (code_none k);
        outside = λ fs k out. refl;
      }

  pub over_place : (d : ℕ) → is_module c d ≡ true → (g : Segment) → HeapSegment c g → InPlaceOf g (made_over d g)
  over_place d m g h =
      let f : Segment = record { address = g.address; blocks = g.blocks; owner = d } in
      let over : HeapSegment c f =
      record { at_block = h.at_block; from_heap = h.from_heap; to_safe = h.to_safe; some = h.some; by_module = m } in
      record {
        fits = λ lo fs l r. (over, l, r);
        inside = λ fs k r l u. code_in f fs [] k l u;
        outside = λ fs k out. code_past f fs k h.some out;
      }

  in_front : (f : Segment) (xs ys : List Segment) → f ∈ xs → f ∈ xs ++ ys
  in_front f [] ys m = absurd m
  in_front f (x ∷ xs) ys (inl e) = inl e
  in_front f (x ∷ xs) ys (inr m) = inr (in_front f xs ys m)

  pub replaced_has : (put : Segment → List Segment) (g f : Segment) → f ∈ put g → (lo : ℕ) (gs : List Segment) → Row lo gs → g ∈ gs
      → f ∈ replaced_at g.address put gs
  unfolding replaced_at
  replaced_has put g f p lo [] r m = absurd m
  replaced_has put g f p lo (e ∷ es) r (inl q) = rw (← q, eq-eqb g.address g.address refl) (in_front f (put g) es p)
  replaced_has put g f p lo (e ∷ es) r (inr m) =
      rw (address_behind e es r.0 r.2 g m) (inr (replaced_has put g f p (end_block c e) es r.2 m))

  pub replace_row : (put : Segment → List Segment) (g : Segment) → InPlaceOf g (put g) → (lo : ℕ) (gs : List Segment) → Row lo gs → g ∈ gs
      → Row lo (replaced_at g.address put gs)
      × ((k : ℕ) → first_block c g ≤ k → k < end_block c g → code_by c (replaced_at g.address put gs) k ≡ code_by c (put g) k)
      × ((k : ℕ) → (first_block c g ≤ k → end_block c g ≤ k) → code_by c (replaced_at g.address put gs) k ≡ code_by c gs k)
  unfolding replaced_at
  replace_row put g new lo [] r m = absurd m
  replace_row put g new lo (f ∷ fs) r (inl e) =
      let r' : Row lo (g ∷ fs) = rw e r in
      rw (← e, eq-eqb g.address g.address refl) (
        new.fits lo fs r'.1 r'.2,
        λ k l u. new.inside fs k r'.2 l u,
        λ k out. new.outside fs k out ∙ sym (code_past g fs k r'.0.some out),
      )
  replace_row put g new lo (f ∷ fs) r (inr m) =
      let (row, inside, outside) = replace_row put g new (end_block c f) fs r.2 m in
      let b : end_block c f ≤ first_block c g = member_behind (end_block c f) fs r.2 g m in
      rw (address_behind f fs r.0 r.2 g m) (
        (r.0, r.1, row),
        λ k l u. code_past f (replaced_at g.address put fs) k r.0.some (λ h. omega arith) ∙ inside k l u,
        λ k out. code_cong f (replaced_at g.address put fs) fs k (outside k out),
      )

  -- a free block stays free: it is none of g's
  pub replaced_free : (put : Segment → List Segment) (g : Segment) → InPlaceOf g (put g) → (lo : ℕ) (gs : List Segment) → Row lo gs → g ∈ gs
      → (k : ℕ) → code_by c gs k ≡ free_code (layout_of c) → code_by c (replaced_at g.address put gs) k ≡ free_code (layout_of c)
  replaced_free put g new lo gs r m k free =
      let (row, inside, outside) = replace_row put g new lo gs r m in
      outside k
      (λ l. by_test (ltb k (end_block c g))
      (λ t. absurd (code_held g [] k (row_in_heap lo gs r g m).by_module l (ltb-true _ _ t) (sym (member_code lo gs r g m k l (ltb-true _ _ t)) ∙ free)))
      (λ t. ltb-false _ _ t))
      ∙ free
