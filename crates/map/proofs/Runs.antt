-- The steps of the loops over a run of blocks: what is left of a list of codes decides what RAM becomes.
-- Assumes nothing.
use Prim.Native.Nat.{ℕ, suc, ◌+◌, ◌-◌, ◌*◌, ◌/◌, ◌%◌, ◌≤◌, ◌<◌}
use mathlib.Core.Path.{◌≡◌, refl, sym, ap, ◌∙◌}
use mathlib.Core.List.{List, [], ◌∷◌}
use native.Mathlib.Decide.{ℕ_discrete}
use native.Mathlib.Omega.{arith}
use mathlib.Core.Logic.{◌≢◌}
use lib.ListN.{length, get_or, set, replicate, length-replicate, replicate-append-replicate}
use lib.Dec.{ltb}
use lib.Seq.{get_or-set_same, get_or-set_other}
use borrow.Author.Tests.{ltb-true, ltb-false}
use Rattle.rules.specs.declared.RamByte.{RamByte}
use Rattle.rules.specs.declared.Config.{Config}
use Rattle.rules.specs.Memory.{radix, per_byte, layout_of, codes_of, safe_block, map_byte, map_digit, code_of, set_code, set_codes, later_code, owner_of}
use Rattle.rules.specs.State.{ram_byte}
use Rattle.rules.specs.Free.{segment_blocks}
use Rattle.laws.proofs.Tests.{by_test}
use Rattle.laws.proofs.Map.{Bytes, set_codes-append}
use Rattle.laws.proofs.Segments.{segment_is}
use Rattle.address.specs.Places.{map_at}
use Rattle.map.proofs.Halves.{set_both}

-- ---- writing one code to a run of blocks

-- the same places, counted from another byte on
place_next : (b b' : RamByte) (k k' : ℕ) → map_byte (map_at b) k ≡ map_byte (map_at b') k' → map_digit (map_at b) k ≡ map_digit (map_at b') k'
    → (map_byte (map_at b) (suc k) ≡ map_byte (map_at b') (suc k')) × (map_digit (map_at b) (suc k) ≡ map_digit (map_at b') (suc k'))
unfolding map_byte map_digit per_byte
place_next b b' k k' e f = (omega arith, omega arith)

places_same : (b b' : RamByte) (ram : List ℕ) (k k' : ℕ) (vs : List ℕ) → map_byte (map_at b) k ≡ map_byte (map_at b') k' → map_digit (map_at b) k ≡ map_digit (map_at b') k'
    → set_codes (map_at b) ram k vs ≡ set_codes (map_at b') ram k' vs
unfolding set_codes set_code radix
places_same b b' ram k k' [] e f = refl
places_same b b' ram k k' (v ∷ vs) e f =
    let (e', f') = place_next b b' k k' e f in
    rw (e, f) (places_same b b' (set_code (map_at b') ram k' v) (suc k) (suc k') vs e' f')

pub from_even : (b bot : RamByte) (ram : List ℕ) (k : ℕ) (vs : List ℕ) → b.0 ≡ map_byte (map_at bot) k → map_digit (map_at bot) k ≡ 0
    → set_codes (map_at b) ram 0 vs ≡ set_codes (map_at bot) ram k vs
unfolding map_byte map_digit per_byte
from_even b bot ram k vs e f = places_same b bot ram 0 k vs (omega arith) (omega arith)

-- whole bytes: the first, and those that are left
pub bytes_next : (ram : List ℕ) (at left v : ℕ) → at < length ram → get_or ram at 0 < 256 → v < 16
    → set_codes (map_at (ram_byte at)) ram 0 (replicate (suc left * 2) v) ≡ set_codes (map_at (ram_byte (at + 1))) (set ram at (v * 16 + v)) 0 (replicate (left * 2) v)
unfolding set_codes map_byte map_digit per_byte
bytes_next ram at left v inside byte small =
    let two : suc left * 2 ≡ suc (suc (left * 2)) = omega arith in
    let both = set_both (ram_byte at) ram 0 at v v (omega arith) refl inside byte small in
    rw (two, both) (sym (from_even (ram_byte (at + 1)) (ram_byte at) (set_code (map_at (ram_byte at)) (set_code (map_at (ram_byte at)) ram 0 v) 1 v) 2 (replicate (left * 2) v) (omega arith) refl))

pub bytes_stay : (ram : List ℕ) (at v : ℕ) → at < length ram → v < 256 → Bytes ram → Bytes (set ram at v)
bytes_stay ram at v inside small bytes i =
    elim (ℕ_discrete i at) [ yes e ↦ rw (e, get_or-set_same ram at v 0 inside) small | no d ↦ rw get_or-set_other (bytes i) ]

-- the first m blocks, and those that are left
pub run_parts : (bot : RamByte) (ram : List ℕ) (k m n v : ℕ) → m ≤ n
    → set_codes (map_at bot) (set_codes (map_at bot) ram k (replicate m v)) (k + m) (replicate (n - m) v) ≡ set_codes (map_at bot) ram k (replicate n v)
run_parts bot ram k m n v fits =
    let all : m + (n - m) ≡ n = omega arith in
    sym ((rw length-replicate at (set_codes-append (map_at bot) ram k (replicate m v) (replicate (n - m) v))))
    ∙ ap (set_codes (map_at bot) ram k) (replicate-append-replicate m (n - m) v ∙ ap (λ (i : ℕ). replicate i v) all)

-- a run of n blocks from an even one on: whole bytes, and a last block if n is odd
pub run_even : (bot : RamByte) (ram : List ℕ) (k n v : ℕ) → n % 2 ≡ 0 → set_codes (map_at bot) ram k (replicate (n / 2 * 2) v) ≡ set_codes (map_at bot) ram k (replicate n v)
run_even bot ram k n v even = let all : n / 2 * 2 ≡ n = omega arith in rw all

pub run_odd : (bot : RamByte) (ram : List ℕ) (k n v : ℕ) → n % 2 ≢ 0
    → set_code (map_at bot) (set_codes (map_at bot) ram k (replicate (n / 2 * 2) v)) (k + (n - 1)) v ≡ set_codes (map_at bot) ram k (replicate n v)
unfolding set_codes
run_odd bot ram k n v odd =
    let last : k + (n - 1) ≡ k + n / 2 * 2 = omega arith in
    let one : n - n / 2 * 2 ≡ 1 = omega arith in
    rw last (rw one at (run_parts bot ram k (n / 2 * 2) n v (omega arith)))

-- the first block, and those that are left
pub run_first : (bot : RamByte) (ram : List ℕ) (k first : ℕ) (vs : List ℕ) → set_codes (map_at bot) (set_code (map_at bot) ram k first) (k + 1) vs ≡ set_codes (map_at bot) ram k (first ∷ vs)
unfolding set_codes
run_first bot ram k first vs = let next : suc k ≡ k + 1 = omega arith in rw (← next)

-- ---- counting a segment

-- behind block next, which is counted if it is odd, comes an even one
pub even_fits : (next end : ℕ) → next ≤ end → ((2 - next % 2) % 2 ≢ 0 → next ≢ end) → next + (2 - next % 2) % 2 ≤ end
even_fits next end h odd = elim (ℕ_discrete ((2 - next % 2) % 2) 0) [ yes e ↦ omega arith | no d ↦ omega (arith, odd d) ]

-- n blocks from block k on: those before block from continue it, and so do m more
pub segment_count : (c : Config) (ram : List ℕ) (k n from m later : ℕ) → later ≡ later_code (layout_of c) (owner_of (layout_of c) (code_of (layout_of c) ram k))
    → k < from → k + n ≡ from + m → from + m ≤ safe_block c → ((j : ℕ) → k < j → j < from → code_of (layout_of c) ram j ≡ later)
    → ((i : ℕ) → i < m → code_of (layout_of c) ram (from + i) ≡ later) → (from + m < safe_block c → code_of (layout_of c) ram (from + m) ≢ later)
    → n ≡ segment_blocks c (codes_of c ram) k
segment_count c ram k n from m later code some all fits before more stop =
    sym (segment_is c (codes_of c ram) _ k n refl (omega arith) (omega arith)
    (λ j l u. rw (← code) (by_test (ltb j from) (λ t. before j l (ltb-true j from t))
    (λ t. let at : from + (j - from) ≡ j = omega (arith, ltb-false j from t) in rw at at (more (j - from) (omega arith)))))
    (λ h. rw (← code, all) (stop (omega arith))))
