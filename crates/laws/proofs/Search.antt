-- Malloc's search: what a free run is, what the search finds and when it finds nothing, and its steps.
-- Assumes nothing.
use Rattle.std.proofs.Common.{ℕ, zero, suc, ◌+◌, ◌-◌, ◌<◌, ◌≤◌, ◌≡◌, refl, sym, ap, ◌∙◌, true, false, true≢false, arith, leb, ltb-true, leb-true, eqb-true, lt-ltb, le-leb, eq-eqb, Some, None}
use Rattle.std.proofs.Math.Decide.{ℕ_discrete}
use Rattle.laws.proofs.Tests.{by_test, both, and-true}
use Rattle.rules.specs.declared.Block.{Block}
use Rattle.rules.specs.declared.Config.{Config}
use Rattle.rules.specs.Memory.{heap_block, safe_block, in_heap, layout_of, Codes, free_code, is_free}
use Rattle.rules.specs.Malloc.{block, free_run, first_run, lowest_run}

-- ---- a free block

pub free_block : (c : Config) (codes : Codes) (k : ℕ) → is_free c codes k ≡ true
    → (heap_block c ≤ k) × (k < safe_block c) × (codes k ≡ free_code (layout_of c))
unfolding is_free
free_block c codes k h =
    let (i, e) = both (in_heap c k) _ h in
    let (l, u) = both (leb (heap_block c) k) _ i in
    (leb-true _ _ l, ltb-true _ _ u, eqb-true _ _ e)

pub block_free : (c : Config) (codes : Codes) (k : ℕ) → heap_block c ≤ k → k < safe_block c → codes k ≡ free_code (layout_of c)
    → is_free c codes k ≡ true
unfolding is_free
block_free c codes k l u e = simp (le-leb _ _ l, lt-ltb _ _ u, eq-eqb _ _ e)

-- ---- a free run

module _ (c : Config) (codes : Codes) where
  pub free_run_at : (n k : ℕ) → free_run c codes k n ≡ true → (j : ℕ) → k ≤ j → j < k + n → is_free c codes j ≡ true
  unfolding free_run
  free_run_at zero k h j l u = absurd (omega arith)
  free_run_at (suc n) k h j l u =
      let (f, g) = both (is_free c codes k) _ h in
      elim (ℕ_discrete j k) [ yes e ↦ rw e f | no d ↦ free_run_at n (suc k) g j (omega arith) (omega arith) ]

  pub free_run_lem : (n k : ℕ) → ((j : ℕ) → k ≤ j → j < k + n → is_free c codes j ≡ true) → free_run c codes k n ≡ true
  unfolding free_run
  free_run_lem zero k h = refl
  free_run_lem (suc n) k h =
      and-true _ _ (h k (omega arith) (omega arith)) (free_run_lem n (suc k) (λ j l u. h j (omega arith) (omega arith)))

  -- a block that is not free breaks each run that it would be in
  pub broken_run : (n k j : ℕ) → k ≤ j → j < k + n → is_free c codes j ≡ false → free_run c codes k n ≡ false
  broken_run n k j l u f =
      by_test (free_run c codes k n) (λ t. absurd (true≢false (sym (free_run_at n k t j l u) ∙ f))) (λ t. t)

  -- outside the heap no block is free
  pub run_in_heap : (n k : ℕ) → free_run c codes k n ≡ true → 0 < n → (heap_block c ≤ k) × (k + n ≤ safe_block c)
  run_in_heap n k h p =
      let (l, _, _) = free_block c codes k (free_run_at n k h k (omega arith) (omega arith)) in
      let (_, u, _) = free_block c codes (k + n - 1) (free_run_at n k h (k + n - 1) (omega arith) (omega arith)) in
      (l, omega arith)

  -- ---- the steps of the search

  pub search_here : (n k left : ℕ) → free_run c codes k n ≡ true → first_run c codes n k (suc left) ≡ Some (block k)
  unfolding first_run
  search_here n k left h = rw h

  pub search_next : (n k left : ℕ) → free_run c codes k n ≡ false → first_run c codes n k (suc left) ≡ first_run c codes n (suc k) left
  unfolding first_run
  search_next n k left h = rw h

  -- block j is not free: none of the blocks from k to j starts a run (and where no more than those are left, there is none)
  pub search_skip : (n k left j : ℕ) → k ≤ j → j < k + n → is_free c codes j ≡ false
      → first_run c codes n k left ≡ first_run c codes n (suc j) (left - (suc j - k))
  unfolding first_run
  search_skip n k zero j l u f = let e : 0 - (suc j - k) ≡ 0 = omega arith in rw e
  search_skip n k (suc left) j l u f =
      search_next n k left (broken_run n k j l u f)
      ∙ elim (ℕ_discrete j k) [
        | yes q ↦ let e : suc left - (suc j - k) ≡ left = omega arith in rw (e, q)
        | no d ↦
            let e : suc left - (suc j - k) ≡ left - (suc j - suc k) = omega arith in
            rw e (search_skip n (suc k) left j (omega arith) (omega arith) f)
      ]

  pub search_nowhere : (n k left : ℕ) → ((j : ℕ) → k ≤ j → free_run c codes j n ≡ false) → first_run c codes n k left ≡ None
  unfolding first_run
  search_nowhere n k zero h = refl
  search_nowhere n k (suc left) h = search_next n k left (h k (omega arith)) ∙ search_nowhere n (suc k) left (λ j l. h j (omega arith))

  -- the blocks up to the safe stack area are too few
  pub search_past : (n k left : ℕ) → 0 < n → safe_block c < k + n → first_run c codes n k left ≡ None
  search_past n k left p u =
      search_nowhere n k left
      (λ j l. by_test (free_run c codes j n) (λ t. absurd (let (_, i) = run_in_heap n j t p in omega arith)) (λ t. t))

  -- ---- what the search finds

  first_found : (n k left : ℕ) (b : Block) → first_run c codes n k left ≡ Some b
      → (k ≤ b.0) × (free_run c codes b.0 n ≡ true) × ((j : ℕ) → k ≤ j → j < b.0 → free_run c codes j n ≡ false)
  unfolding first_run
  first_found n k zero b h = absurd cc
  first_found n k (suc left) b h =
      by_test (free_run c codes k n)
      (λ t.
      let s : Some (block k) ≡ Some b = sym (search_here n k left t) ∙ h in
      let e : block k ≡ b = cc in
      let q : k ≡ b.0 = ap (λ (x : Block). x.0) e in
      (omega arith, rw q at t, λ j l u. absurd (omega arith)))
      (λ t.
      let (l, r, m) = first_found n (suc k) left b (sym (search_next n k left t) ∙ h) in
      (omega arith, r, λ j g u. elim (ℕ_discrete j k) [ yes e ↦ rw e t | no d ↦ m j (omega arith) u ]))

  first_nowhere : (n k left : ℕ) → first_run c codes n k left ≡ None → (j : ℕ) → k ≤ j → j < k + left → free_run c codes j n ≡ false
  unfolding first_run
  first_nowhere n k zero h j l u = absurd (omega arith)
  first_nowhere n k (suc left) h j l u =
      by_test (free_run c codes k n)
      (λ t.
      let s : Some (block k) ≡ None = sym (search_here n k left t) ∙ h in
      absurd cc)
      (λ t.
      elim (ℕ_discrete j k) [
        | yes e ↦ rw e t
        | no d ↦ first_nowhere n (suc k) left (sym (search_next n k left t) ∙ h) j (omega arith) (omega arith)
      ])

  pub found : (n : ℕ) (b : Block) → lowest_run c codes n ≡ Some b
      → (heap_block c ≤ b.0) × (free_run c codes b.0 n ≡ true) × ((j : ℕ) → heap_block c ≤ j → j < b.0 → free_run c codes j n ≡ false)
  unfolding lowest_run
  found n b h = first_found n _ _ b h

  pub found_in_heap : (n : ℕ) (b : Block) → lowest_run c codes n ≡ Some b → 0 < n → b.0 + n ≤ safe_block c
  found_in_heap n b h p = (run_in_heap n b.0 (found n b h).1 p).1

  pub not_found : (n : ℕ) → lowest_run c codes n ≡ None → 0 < n → (j : ℕ) → free_run c codes j n ≡ false
  unfolding lowest_run
  not_found n h p j =
      by_test (free_run c codes j n)
      (λ t. let (l, u) = run_in_heap n j t p in first_nowhere n _ _ h j l (omega arith))
      (λ t. t)

  pub run_found : (n j : ℕ) → free_run c codes j n ≡ true → 0 < n → lowest_run c codes n ≡ None → ⊥
  run_found n j f p h = true≢false (sym f ∙ not_found n h p j)
