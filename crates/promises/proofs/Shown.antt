-- What the map shows: if the heap blocks have the codes of a row of segments, it shows that row.
-- Assumes nothing.
use Rattle.std.proofs.Common.{ℕ, zero, suc, ◌+◌, ◌-◌, ◌≤◌, ◌<◌, ◌≡◌, refl, sym, ap, ◌∙◌, inl, true, false, List, [], ◌∷◌, arith}
use Rattle.std.proofs.Math.Decide.{ℕ_discrete}
use Rattle.rules.specs.declared.Config.{Config}
use Rattle.rules.specs.Memory.{layout_of, start_of, heap_block, safe_block, Codes, start_code, later_code, free_code, owner_of, starts_segment, is_domain}
use Rattle.rules.specs.Free.{segment_blocks}
use Rattle.laws.proofs.Codes.{module_domain, domain_at, module_at, owner_of-start, starts_start, starts_later, starts_free}
use Rattle.laws.proofs.Segments.{segment_is}
use Rattle.promises.specs.Ledger.{Segment, first_block, end_block, HeapSegment, code_by, segment_at, shown_from, shown}
use Rattle.promises.specs.Promise.{◌∈◌}
use Rattle.promises.proofs.Row.{Row, row_in_heap, member_behind, member_code, code_behind, code_first, code_later, code_past, code_none, code_below}

module _ (c : Config) (codes : Codes) where
  -- from block lo on, the heap's codes are those of gs
  abbrev pub HasCodes : ℕ → List Segment → Type 0
  HasCodes lo gs = (k : ℕ) → lo ≤ k → k < safe_block c → codes k ≡ code_by c gs k

  -- ---- a segment of the row, as free and change find it

  module _ (lo : ℕ) (gs : List Segment) (row : Row c lo gs) (same : HasCodes lo gs) (g : Segment) (m : g ∈ gs) where
    pub member_first : codes (first_block c g) ≡ start_code (layout_of c) g.owner
    member_first =
        let h : HeapSegment c g = row_in_heap c lo gs row g m in
        let l : first_block c g < end_block c g = omega (arith, h.some) in
        same (first_block c g) (member_behind c lo gs row g m) (omega (arith, h.to_safe))
        ∙ member_code c lo gs row g m (first_block c g) (omega arith) l
        ∙ code_first c g [] (first_block c g) refl

    member_domain : is_domain c g.owner ≡ true
    member_domain = module_domain c g.owner (row_in_heap c lo gs row g m).by_module

    pub member_owner : owner_of (layout_of c) (codes (first_block c g)) ≡ g.owner
    member_owner = ap (owner_of (layout_of c)) member_first ∙ owner_of-start (layout_of c) g.owner (domain_at c g.owner member_domain)

    pub member_later : (k : ℕ) → first_block c g < k → k < end_block c g → codes k ≡ later_code (layout_of c) g.owner
    member_later k l u =
        let h : HeapSegment c g = row_in_heap c lo gs row g m in
        same k (omega (arith, member_behind c lo gs row g m)) (omega (arith, h.to_safe))
        ∙ member_code c lo gs row g m k (omega arith) u
        ∙ code_later c g [] k l u

    pub member_blocks : segment_blocks c codes (first_block c g) ≡ g.blocks
    member_blocks =
        let h : HeapSegment c g = row_in_heap c lo gs row g m in
        segment_is c codes g.owner (first_block c g) g.blocks member_owner h.some h.to_safe member_later
        (λ l q. code_behind c lo gs row g m g.owner member_domain
        (sym (same (end_block c g) (omega (arith, member_behind c lo gs row g m)) l) ∙ q))

  -- ---- the whole row

  skip : (k left : ℕ) → starts_segment (layout_of c) (codes k) ≡ false → shown_from c codes k (suc left) ≡ shown_from c codes (suc k) left
  unfolding shown_from
  skip k left h = rw h

  meet : (k left : ℕ) → starts_segment (layout_of c) (codes k) ≡ true
      → shown_from c codes k (suc left) ≡ segment_at c codes k ∷ shown_from c codes (suc k) left
  unfolding shown_from
  meet k left h = rw h

  free_skips : (gs : List Segment) (k : ℕ) → codes k ≡ code_by c gs k → code_by c gs k ≡ free_code (layout_of c)
      → starts_segment (layout_of c) (codes k) ≡ false
  free_skips gs k e f = ap (starts_segment (layout_of c)) (e ∙ f) ∙ starts_free (layout_of c)

  -- up to block lo nothing starts, and from it on the same are those of gs
  shown_from_lem : (left k lo : ℕ) (gs : List Segment) → k + left ≡ safe_block c → k ≤ lo → Row c lo gs
      → ((j : ℕ) → k ≤ j → j < lo → j < safe_block c → starts_segment (layout_of c) (codes j) ≡ false) → HasCodes lo gs
      → shown_from c codes k left ≡ gs
  unfolding shown_from
  shown_from_lem zero k lo [] q l row quiet same = refl
  shown_from_lem zero k lo (g ∷ gs) q l row quiet same = absurd (omega (arith, row.1, row.0.to_safe, row.0.some))
  shown_from_lem (suc left) k lo [] q l row quiet same =
      elim (ℕ_discrete k lo) [
        | yes e ↦
            skip k left (free_skips [] k (same k (omega arith) (omega arith)) (code_none c k))
            ∙ shown_from_lem left (suc k) (suc k) [] (omega arith) (omega arith) tt (λ j a b d. absurd (omega arith))
            (λ j a d. same j (omega arith) d)
        | no n ↦
            skip k left (quiet k (omega arith) (omega arith) (omega arith))
            ∙ shown_from_lem left (suc k) lo [] (omega arith) (omega arith) row (λ j a b d. quiet j (omega arith) b d) same
      ]
  shown_from_lem (suc left) k lo (g ∷ gs) q l row quiet same =
      elim (ℕ_discrete k lo) [
        | yes e ↦
            elim (ℕ_discrete k (first_block c g)) [
              | yes f ↦
                  let first : starts_segment (layout_of c) (codes k) ≡ true =
                  rw f (ap (starts_segment (layout_of c)) (member_first lo (g ∷ gs) row same g (inl refl)) ∙ starts_start (layout_of c) g.owner (module_at c g.owner row.0.by_module)) in
                  let place : start_of c k ≡ g.address = rw f row.0.at_block in
                  let count : segment_blocks c codes k ≡ g.blocks = rw f (member_blocks lo (g ∷ gs) row same g (inl refl)) in
                  let whose : owner_of (layout_of c) (codes k) ≡ g.owner = rw f (member_owner lo (g ∷ gs) row same g (inl refl)) in
                  let one : segment_at c codes k ≡ g = λ i. record { address = place i; blocks = count i; owner = whose i } in
                  let rest : shown_from c codes (suc k) left ≡ gs =
                  shown_from_lem left (suc k) (end_block c g) gs (omega arith) (omega (arith, row.0.some)) row.2
                  (λ j a b d. ap (starts_segment (layout_of c)) (member_later lo (g ∷ gs) row same g (inl refl) j (omega arith) b) ∙ starts_later (layout_of c) g.owner)
                  (λ j a d. same j (omega (arith, row.1)) d ∙ code_past c g gs j row.0.some (λ h. a)) in
                  meet k left first ∙ (rw (one, rest))
              | no n ↦
                  let below : k < first_block c g = omega (arith, row.1) in
                  skip k left
                  (free_skips (g ∷ gs) k (same k (omega arith) (omega arith))
                  (code_below c (suc k) (g ∷ gs) (row.0, below, row.2) k (omega arith)))
                  ∙ shown_from_lem left (suc k) (suc k) (g ∷ gs) (omega arith) (omega arith) (row.0, below, row.2)
                  (λ j a b d. absurd (omega arith)) (λ j a d. same j (omega arith) d)
            ]
        | no n ↦
            skip k left (quiet k (omega arith) (omega arith) (omega arith))
            ∙ shown_from_lem left (suc k) lo (g ∷ gs) (omega arith) (omega arith) row (λ j a b d. quiet j (omega arith) b d) same
      ]

  pub row_shown : (gs : List Segment) → heap_block c ≤ safe_block c → Row c (heap_block c) gs → HasCodes (heap_block c) gs → shown c codes ≡ gs
  unfolding shown
  row_shown gs h row same =
      shown_from_lem (safe_block c - heap_block c) (heap_block c) (heap_block c) gs (omega arith) (omega arith) row
      (λ j a b d. absurd (omega arith)) same
