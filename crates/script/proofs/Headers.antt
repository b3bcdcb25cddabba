-- What a good header tells, and its pairs: the rules take them one at a time at their place, the code as chunks of four bytes.
-- Assumes nothing.
use Rattle.std.proofs.Common.{◌≡◌, ℕ, zero, suc, ◌+◌, ◌-◌, ◌*◌, ◌/◌, ◌<◌, ◌≤◌, true, false, List, [], ◌∷◌, length, get_or, set, replicate, take, drop, Option, Some, fold, leb, refl, ap, ◌∙◌, sub-one, arith, lt-ltb, le-ltb, leb-true, ltb-true}
use Rattle.std.specs.Simd.{first_chunks}
use Rattle.std.specs.List.{list_all}
use Rattle.std.specs.Option.{option_map}
use Rattle.std.proofs.lemmas.List.{length-take, length-drop, take-take, drop-take, drop-drop, get_or-take, get_or-drop}
use Rattle.std.proofs.lemmas.Bool.Decides.{nat_tests}
use Rattle.rules.specs.Code.{table_words}
use Rattle.rules.specs.Bytes.{word_at}
use Rattle.rules.specs.Script.{mark_bytes, version_at, mark_good, pairs_place, count_at, operations_place, indices_good, entries_at, header_good, table_at}
use Rattle.laws.proofs.Tests.{both, each}
use Rattle.script.specs.declared.header.Header.{Header}
use Rattle.script.specs.Header.{index_good, with_pair, table_of, pairs_of, header_with, header_of}

-- the first chunks of four bytes, where no more bytes stand than they take
chunks_within : (n : ℕ) (xs : List ℕ) → first_chunks 4 n (take (4 * n) xs) ≡ first_chunks 4 n xs
chunks_within zero xs = refl
chunks_within (suc n) xs =
    let e : 4 * suc n ≡ 4 + 4 * n = omega arith in
    rw (e, take-take 4 (4 + 4 * n) xs (omega arith), drop-take 4 (4 * n) xs, chunks_within n (drop 4 xs))

module _ (input : List ℕ) where
  word_in : (at k i : ℕ) → k + 1 < 4 → i ≡ at + k → word_at (take 4 (drop at input)) k ≡ word_at input i
  word_in at k i h e =
      let near = get_or-take 4 (drop at input) k 0 (omega arith) in
      let far = get_or-take 4 (drop at input) (k + 1) 0 h in
      rw (e, near, far, get_or-drop at input k 0, get_or-drop at input (k + 1) 0)
      (ap (λ j. get_or input (at + k) 0 + 256 * get_or input j 0) (omega arith))

  indices_by_pairs : (n at : ℕ) → indices_good input at n ≡ list_all index_good (first_chunks 4 n (drop at input))
  unfolding indices_good
  indices_by_pairs zero at = refl
  indices_by_pairs (suc n) at = rw (word_in at 0 at (omega arith) (omega arith), drop-drop 4 at input, indices_by_pairs n (at + 4))

  entries_by_pairs : (n at : ℕ) (table : List ℕ) → entries_at input at n table ≡ fold with_pair table (first_chunks 4 n (drop at input))
  unfolding entries_at
  entries_by_pairs zero at table = refl
  entries_by_pairs (suc n) at table =
      let i = word_in at 0 at (omega arith) (omega arith) in
      let e = word_in at 2 (at + 2) (omega arith) refl in
      let d = drop-drop 4 at input in
      let rest = entries_by_pairs n (at + 4) (set table (word_at input at) (word_at input (at + 2))) in
      cc

  -- the pairs of a whole header, where they were taken from the bytes that hold them
  pairs_there : (bytes : List ℕ) → operations_place input ≤ length input
      → bytes ≡ take (operations_place input - pairs_place (version_at input)) (drop (pairs_place (version_at input)) input)
      → first_chunks 4 (length bytes / 4) bytes ≡ pairs_of input
  pairs_there bytes h e =
      let n = count_at input in
      let behind = drop (pairs_place (version_at input)) input in
      let f : bytes ≡ take (4 * n) behind = e ∙ ap (λ k. take k behind) (omega arith) in
      let g : length bytes / 4 ≡ n = rw (f, length-take, length-drop) (omega arith) in
      rw (g, f) (chunks_within n behind)

  module _ (whole : operations_place input ≤ length input) (mark : mark_good input ≡ true) where
    good_by_indices : header_good input ≡ indices_good input (pairs_place (version_at input)) (count_at input)
    good_by_indices = grind (arith, nat_tests)

    -- a header that is whole and begins well is good if a table can be made of its pairs
    pub header_by_pairs : (bytes : List ℕ) (table : Option (List ℕ))
        → bytes ≡ take (operations_place input - pairs_place (version_at input)) (drop (pairs_place (version_at input)) input)
        → table ≡ table_of (first_chunks 4 (length bytes / 4) bytes)
        → header_of input ≡ option_map (λ (t : List ℕ). header_with input t) table
    header_by_pairs bytes table e r =
        let at = pairs_place (version_at input) in
        let n = count_at input in
        let p = pairs_there bytes whole e in
        let g = good_by_indices in
        let i = indices_by_pairs n at in
        let t = entries_by_pairs n at (replicate table_words 0) in
        grind arith

  -- what is told of a header is told of a good one
  pub header_told : (h : Header) → Some h ≡ header_of input → h ≡ header_with input (table_at input)
  header_told h e = grind arith

-- what a good header tells
pub header_facts : (input : List ℕ) → header_good input ≡ true
    → (operations_place input ≤ length input) × (indices_good input (pairs_place (version_at input)) (count_at input) ≡ true)
header_facts input g =
    let at = pairs_place (version_at input) in
    let behind = leb at (length input) ∷ leb (operations_place input) (length input) ∷ indices_good input at (count_at input) ∷ [] in
    let (a, (m, (h, (e, f)))) = each (leb mark_bytes (length input)) (mark_good input ∷ behind) g in
    (leb-true (operations_place input) (length input) e, f)

module _ (input : List ℕ) (at : ℕ) where
  pub indices_none : (n : ℕ) → n ≤ 0 → indices_good input at n ≡ true
  unfolding indices_good
  indices_none zero h = refl
  indices_none (suc n) h = absurd (omega arith)

  pub indices_next : (n : ℕ) → 0 < n → word_at input at < table_words → indices_good input at n ≡ indices_good input (at + 4) (n - 1)
  unfolding indices_good
  indices_next zero h w = absurd (omega arith)
  indices_next (suc n) h w = rw (sub-one, lt-ltb (word_at input at) table_words w)

  pub indices_over : (n : ℕ) → 0 < n → table_words ≤ word_at input at → indices_good input at n ≡ false
  unfolding indices_good
  indices_over zero h w = absurd (omega arith)
  indices_over (suc n) h w = rw (le-ltb (word_at input at) table_words w)

  -- what the rest of good indices tells
  pub indices_here : (n : ℕ) → 0 < n → indices_good input at n ≡ true → word_at input at < table_words
  unfolding indices_good
  indices_here zero h g = absurd (omega arith)
  indices_here (suc n) h g = ltb-true (word_at input at) table_words (both _ _ g).0

  pub entries_none : (n : ℕ) (table : List ℕ) → n ≤ 0 → entries_at input at n table ≡ table
  unfolding entries_at
  entries_none zero table h = refl
  entries_none (suc n) table h = absurd (omega arith)

  pub entries_next : (n : ℕ) (table : List ℕ) → 0 < n
      → entries_at input at n table ≡ entries_at input (at + 4) (n - 1) (set table (word_at input at) (word_at input (at + 2)))
  unfolding entries_at
  entries_next zero table h = absurd (omega arith)
  entries_next (suc n) table h = rw sub-one
