-- A run of stores, in RAM and in a part of it that was lent: which bytes it changes, and what slices are after it.
-- Assumes nothing.
use Rattle.std.proofs.Common.{ℕ, zero, suc, ◌+◌, ◌-◌, ◌<◌, ◌≤◌, ◌≡◌, refl, sym, ap, ◌∙◌, List, [], ◌∷◌, ◌++◌, arith, length, get_or, take, drop, set, length-set, length-append, get_or-set_same, get_or-set_other, drop-set-lt, take-take, drop-drop, take-add, take_at, drop_at, length-take-le}
use Rattle.std.proofs.Math.Nat.{sub-zero, zero-sub, suc-sub-suc}
use Rattle.std.proofs.Math.Seq.{sets, slice, sets-eq, drop-set-add, take-set-le, take-set-lt, take-nil}
use borrow.Rule.Slice.PartMut.{mid_of, put_mid, put_same}

-- ---- a run of stores

module _ {A : Type 0} where
  pub get_d_sets_before : (l : List A) (p : ℕ) (vs : List A) (i : ℕ) (d : A) → i < p → get_or (sets l p vs) i d ≡ get_or l i d
  get_d_sets_before l p [] i d h = refl
  get_d_sets_before l p (v ∷ vs) i d h =
      get_d_sets_before (set l p v) (suc p) vs i d (omega arith) ∙ get_or-set_other l p i v d (omega arith)

  pub get_or-sets-after : (l : List A) (p : ℕ) (vs : List A) (i : ℕ) (d : A) → p + length vs ≤ i → get_or (sets l p vs) i d ≡ get_or l i d
  get_or-sets-after l p [] i d h = refl
  get_or-sets-after l p (v ∷ vs) i d h =
      get_or-sets-after (set l p v) (suc p) vs i d (omega arith) ∙ get_or-set_other l p i v d (omega arith)

  pub get_or-sets-inside : (l : List A) (p : ℕ) (vs : List A) (i : ℕ) (d : A) → i < length vs → p + length vs ≤ length l
      → get_or (sets l p vs) (p + i) d ≡ get_or vs i d
  get_or-sets-inside l p [] i d h g = absurd (omega arith)
  get_or-sets-inside l p (v ∷ vs) zero d h g =
      let e : p + 0 ≡ p = omega arith in
      rw e (get_d_sets_before (set l p v) (suc p) vs p d (omega arith) ∙ get_or-set_same l p v d (omega arith))
  get_or-sets-inside l p (v ∷ vs) (suc i) d h g =
      let e : p + suc i ≡ suc p + i = omega arith in
      rw e (get_or-sets-inside (set l p v) (suc p) vs i d (omega arith) (omega (arith, length-set l p v)))

  pub take-sets : (n : ℕ) (l : List A) (p : ℕ) (vs : List A) → n ≤ p → take n (sets l p vs) ≡ take n l
  take-sets n l p [] h = refl
  take-sets n l p (v ∷ vs) h = take-sets n (set l p v) (suc p) vs (omega arith) ∙ take-set-le n l p v h

  pub drop-sets : (n : ℕ) (l : List A) (p : ℕ) (vs : List A) → p + length vs ≤ n → drop n (sets l p vs) ≡ drop n l
  drop-sets n l p [] h = refl
  drop-sets n l p (v ∷ vs) h = drop-sets n (set l p v) (suc p) vs (omega arith) ∙ drop-set-lt n l p v (omega arith)

-- ---- bytes stay bytes

pub set-bytes : (l : List ℕ) (p v : ℕ) → ((i : ℕ) → get_or l i 0 < 256) → v < 256 → (i : ℕ) → get_or (set l p v) i 0 < 256
set-bytes [] p v h b i = h i
set-bytes (x ∷ xs) zero v h b zero = b
set-bytes (x ∷ xs) zero v h b (suc i) = h (suc i)
set-bytes (x ∷ xs) (suc p) v h b zero = h 0
set-bytes (x ∷ xs) (suc p) v h b (suc i) = set-bytes xs p v (λ j. h (suc j)) b i

pub sets-bytes : (l : List ℕ) (p : ℕ) (vs : List ℕ) → ((i : ℕ) → get_or l i 0 < 256) → ((i : ℕ) → get_or vs i 0 < 256)
    → (i : ℕ) → get_or (sets l p vs) i 0 < 256
sets-bytes l p [] h b = h
sets-bytes l p (v ∷ vs) h b = sets-bytes (set l p v) (suc p) vs (set-bytes l p v h (b 0)) (λ j. b (suc j))

-- ---- a part lent, changed and put back

module _ {A : Type 0} where
  -- a run of stores in the part is the run of stores in the whole
  pub put_sets : (a k : ℕ) (xs : List A) (j : ℕ) (vs : List A) → j + length vs ≤ k
      → put_mid a k xs (sets (mid_of a k xs) j vs) ≡ sets xs (a + j) vs
  put_sets a k xs j [] h = put_same a k xs
  put_sets a k xs j (v ∷ vs) h =
      let inside : j < k = omega arith in
      let behind : a ≤ a + j = omega arith in
      let e : a + suc j ≡ suc (a + j) = omega arith in
      rw (e, drop-set-add a xs j v, take-set-lt k (drop a xs) j v, take-set-le a xs (a + j) v, drop-set-lt k (drop a xs) j v)
      at (put_sets a k (set xs (a + j) v) (suc j) vs (omega arith))

  -- ---- slices

  pub slice_as : (f t : ℕ) (l : List A) → slice f t l ≡ take (t - f) (drop f l)
  slice_as zero t l = rw (sub-zero t)
  slice_as (suc f) zero l = rw (zero-sub (suc f))
  slice_as (suc f) (suc t) [] = sym (take-nil (suc t - suc f))
  slice_as (suc f) (suc t) (x ∷ xs) = rw (suc-sub-suc t f) (slice_as f t xs)

  pub slice-split : (a b c : ℕ) (l : List A) → a ≤ b → b ≤ c → slice a c l ≡ slice a b l ++ slice b c l
  slice-split a b c l g h =
      let e : c - a ≡ (b - a) + (c - b) = omega arith in
      let i : a + (b - a) ≡ b = omega arith in
      rw (slice_as a c l, slice_as a b l, slice_as b c l, e, take-add, drop-drop, i)

  -- a run of stores behind the slice, and one before it (a store is a run of one)
  pub slice-sets-before : (f t : ℕ) (l : List A) (p : ℕ) (vs : List A) → t ≤ p → slice f t (sets l p vs) ≡ slice f t l
  slice-sets-before f t l p vs h = rw (take-sets t l p vs h)

  pub slice-sets-same : (l : List A) (p : ℕ) (vs : List A) → p + length vs ≤ length l → slice p (p + length vs) (sets l p vs) ≡ vs
  slice-sets-same l p vs h =
      let m : length (take p l) ≡ p = length-take-le p l (omega arith) in
      let n : length (take p l ++ vs) ≡ p + length vs = length-append (take p l) vs ∙ ap (λ (i : ℕ). i + length vs) m in
      rw (sets-eq vs l p h, take_at (take p l ++ vs) (drop (p + length vs) l) (p + length vs) n) (drop_at (take p l) vs p m)

  -- bytes pushed at the end of a slice
  pub slice-pushed : (f p : ℕ) (l vs : List A) → f ≤ p → p + length vs ≤ length l
      → slice f (p + length vs) (sets l p vs) ≡ slice f p l ++ vs
  slice-pushed f p l vs g h =
      slice-split f p (p + length vs) (sets l p vs) g (omega arith)
      ∙ (rw (slice-sets-before f p l p vs (omega arith), slice-sets-same l p vs h))

  -- the first n of a part
  pub take_part : (f t n : ℕ) (l : List A) → f + n ≤ t → take n (mid_of f (t - f) l) ≡ slice f (f + n) l
  take_part f t n l h =
      let e : f + n - f ≡ n = omega arith in
      rw (slice_as f (f + n) l, e) (take-take n (t - f) (drop f l) (omega arith))
