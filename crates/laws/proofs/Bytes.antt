-- Numbers and a configuration as bytes, at any place: what was written is read back, and what is read is written again.
-- Assumes nothing.
use Rattle.std.proofs.Common.{ℕ, zero, suc, ◌+◌, ◌*◌, ◌<◌, ◌≤◌, ◌≡◌, refl, sym, ap, ◌∙◌, List, [], ◌∷◌, ◌++◌, append_assoc, arith, length, get_or, drop, drop-cons, drop-drop, get_or-drop}
use Rattle.rules.specs.declared.Range.{Range}
use Rattle.rules.specs.declared.Config.{Config}
use Rattle.rules.specs.Code.{domains, empty_range}
use Rattle.rules.specs.Bytes.{low, high, word_bytes, word_at, words_at, config_bytes, ranges_place, range_at, ranges_at, config_at, ranges_as_bytes, bounds_as_bytes, config_as_bytes}
use Rattle.laws.proofs.Frames.{word_of_bytes}

-- each number of a list is a byte
abbrev pub Bytes : List ℕ → Type 0
Bytes l = (i : ℕ) → get_or l i 0 < 256

-- ---- lengths

length-ranges_as_bytes : (rs : List Range) → length (ranges_as_bytes rs) ≡ 4 * length rs
unfolding ranges_as_bytes
length-ranges_as_bytes [] = refl
length-ranges_as_bytes (r ∷ rs) = omega (arith, length-ranges_as_bytes rs)

pub length-config_as_bytes : (c : Config) → length c.ranges ≡ domains → length (config_as_bytes c) ≡ config_bytes
length-config_as_bytes c eight = omega (arith, length-ranges_as_bytes c.ranges)

pub length-ranges_at : (bytes : List ℕ) (at n : ℕ) → length (ranges_at bytes at n) ≡ n
unfolding ranges_at
length-ranges_at bytes at zero = refl
length-ranges_at bytes at (suc n) = ap suc (length-ranges_at bytes (at + 4) n)

pub length-words_at : (bytes : List ℕ) (at n : ℕ) → length (words_at bytes at n) ≡ n
unfolding words_at
length-words_at bytes at zero = refl
length-words_at bytes at (suc n) = ap suc (length-words_at bytes (at + 2) n)

-- ---- one of several

pub get_or-words_at : (bytes : List ℕ) (at n i : ℕ) → i < n → get_or (words_at bytes at n) i 0 ≡ word_at bytes (at + 2 * i)
unfolding words_at
get_or-words_at bytes at zero i h = absurd (omega arith)
get_or-words_at bytes at (suc n) zero h = let e : at + 2 * 0 ≡ at = omega arith in rw e
get_or-words_at bytes at (suc n) (suc i) h =
    let e : at + 2 * suc i ≡ at + 2 + 2 * i = omega arith in
    rw e (get_or-words_at bytes (at + 2) n i (omega arith))

-- the code range of a domain
pub get_or-ranges_at : (bytes : List ℕ) (at n d : ℕ) → d < n → get_or (ranges_at bytes at n) d empty_range ≡ range_at bytes (at + 4 * d)
unfolding ranges_at
get_or-ranges_at bytes at zero d h = absurd (omega arith)
get_or-ranges_at bytes at (suc n) zero h = let e : at + 4 * 0 ≡ at = omega arith in rw e
get_or-ranges_at bytes at (suc n) (suc d) h =
    let e : at + 4 * suc d ≡ at + 4 + 4 * d = omega arith in
    rw e (get_or-ranges_at bytes (at + 4) n d (omega arith))

-- ---- what was written is read back

-- a number of what stands from a place on
pub word_drop : (bytes : List ℕ) (at i : ℕ) → word_at bytes (at + i) ≡ word_at (drop at bytes) i
word_drop bytes at i =
    let e : at + i + 1 ≡ at + (i + 1) = omega arith in
    rw (e, get_or-drop at bytes i 0, get_or-drop at bytes (i + 1) 0)

pub word_from : (bytes : List ℕ) (at : ℕ) → word_at bytes at ≡ word_at (drop at bytes) 0
word_from bytes at = let e : at + 0 ≡ at = omega arith in rw e at (word_drop bytes at 0)

ranges_back : (bytes : List ℕ) (rs : List Range) (ys : List ℕ) (at : ℕ) → drop at bytes ≡ ranges_as_bytes rs ++ ys → ranges_at bytes at (length rs) ≡ rs
unfolding ranges_as_bytes ranges_at
ranges_back bytes [] ys at e = refl
ranges_back bytes (r ∷ rs) ys at e =
    let more : drop (at + 4) bytes ≡ ranges_as_bytes rs ++ ys = sym (drop-drop 4 at bytes) ∙ ap (drop 4) e in
    let start : word_at bytes at ≡ r.start.0 = (rw (word_from bytes at, e) (word_of_bytes r.start.0)) in
    let end : word_at bytes (at + 2) ≡ r.end.0 = (rw (word_drop bytes at 2, e) (word_of_bytes r.end.0)) in
    rw (start, end, ranges_back bytes rs ys (at + 4) more)

pub config_back : (bytes : List ℕ) (c : Config) (ys : List ℕ) (at : ℕ) → length c.ranges ≡ domains → drop at bytes ≡ config_as_bytes c ++ ys
    → config_at bytes at ≡ c
config_back bytes c ys at eight e =
    let assoc : drop at bytes ≡ bounds_as_bytes c ++ (ranges_as_bytes c.ranges ++ ys) =
    e ∙ append_assoc (bounds_as_bytes c) (ranges_as_bytes c.ranges) ys in
    let front : (i w : ℕ) → word_at (bounds_as_bytes c ++ (ranges_as_bytes c.ranges ++ ys)) i ≡ w → word_at bytes (at + i) ≡ w =
    λ i w h. rw (word_drop bytes at i, assoc) h in
    let behind : drop (ranges_place at) bytes ≡ ranges_as_bytes c.ranges ++ ys = sym (drop-drop 10 at bytes) ∙ ap (drop 10) assoc in
    let ranges : ranges_at bytes (ranges_place at) domains ≡ c.ranges = rw (← eight) (ranges_back bytes c.ranges ys (ranges_place at) behind) in
    let first : word_at bytes at ≡ c.bot.0 = (rw (word_from bytes at, assoc) (word_of_bytes c.bot.0)) in
    rw (
      first,
      front 2 c.heap.0 (word_of_bytes c.heap.0),
      front 4 c.safe.0 (word_of_bytes c.safe.0),
      front 6 c.top.0 (word_of_bytes c.top.0),
      front 8 c.jt.0 (word_of_bytes c.jt.0),
      ranges,
    )

-- ---- what is read is written again

pub word_again : (l : List ℕ) (at : ℕ) → Bytes l → at + 1 < length l → drop at l ≡ word_bytes (word_at l at) ++ drop (at + 2) l
word_again l at bytes h =
    let e : suc at ≡ at + 1 = omega arith in
    let f : suc (at + 1) ≡ at + 2 = omega arith in
    let lo : low (word_at l at) ≡ get_or l at 0 = omega (arith, bytes at, bytes (at + 1)) in
    let hi : high (word_at l at) ≡ get_or l (at + 1) 0 = omega (arith, bytes at, bytes (at + 1)) in
    rw (drop-cons l at 0 (omega arith), e, drop-cons l (at + 1) 0 h, f, lo, hi)

ranges_again : (l : List ℕ) (at n : ℕ) → Bytes l → at + 4 * n ≤ length l → drop at l ≡ ranges_as_bytes (ranges_at l at n) ++ drop (at + 4 * n) l
unfolding ranges_as_bytes ranges_at
ranges_again l at zero bytes h = let e : at + 4 * 0 ≡ at = omega arith in rw e
ranges_again l at (suc n) bytes h =
    let e : at + 4 * suc n ≡ at + 4 + 4 * n = omega arith in
    let f : at + 2 + 2 ≡ at + 4 = omega arith in
    rw (word_again l at bytes (omega arith), word_again l (at + 2) bytes (omega arith), f, ranges_again l (at + 4) n bytes (omega arith), e)

pub config_again : (l : List ℕ) (at : ℕ) → Bytes l → at + config_bytes ≤ length l
    → drop at l ≡ config_as_bytes (config_at l at) ++ drop (at + config_bytes) l
config_again l at bytes h =
    let word : (i : ℕ) → i + 1 < config_bytes → drop (at + i) l ≡ word_bytes (word_at l (at + i)) ++ drop (at + (i + 2)) l =
    λ i k. let e : at + i + 2 ≡ at + (i + 2) = omega arith in (rw e at (word_again l (at + i) bytes (omega arith))) in
    let first : drop at l ≡ word_bytes (word_at l at) ++ drop (at + 2) l = word_again l at bytes (omega arith) in
    let e : ranges_place at + 4 * domains ≡ at + config_bytes = omega arith in
    let ranges : drop (ranges_place at) l ≡ ranges_as_bytes (ranges_at l (ranges_place at) domains) ++ drop (at + config_bytes) l =
    (rw e at (ranges_again l (ranges_place at) domains bytes (omega arith))) in
    rw (word 2 (omega arith), word 4 (omega arith), word 6 (omega arith), word 8 (omega arith), ranges) at first
