-- The slot of document 02, Ask 1: packing and unpacking a state undo each other, which bytes a call or a return changes, and that a good
-- state's slot holds bytes.
-- Assumes nothing.
use Rattle.std.proofs.Common.{ℕ, ◌+◌, ◌<◌, ◌≤◌, ◌≡◌, refl, sym, ap, ◌∙◌, true, List, [], ◌∷◌, ◌++◌, append-nil, arith, length, get_or, take, drop, length-append, drop_of_length-le, leb, leb-true, take_at, drop-cons, get_or-drop, get_or-append-add, drop_at}
use Rattle.std.proofs.Math.Seq.{sets, set-get_or, sets-eq}
use Rattle.rules.specs.declared.FlashWord.{FlashWord}
use Rattle.rules.specs.declared.Range.{Range}
use Rattle.rules.specs.declared.Config.{Config}
use Rattle.rules.specs.declared.State.{State}
use Rattle.rules.specs.Memory.{trusted}
use Rattle.rules.specs.Code.{domains, ordered}
use Rattle.rules.specs.State.{good_state}
use Rattle.rules.specs.Bytes.{word_at, ranges_place, ranges_as_bytes, bounds_as_bytes, config_as_bytes}
use Rattle.rules.specs.Slot.{slot_bytes, config_part, run_part, bound_place, safepointer_place, domain_place, zero_part, config_in, state_in, run_as_bytes, slot_of}
use Rattle.laws.proofs.Parts.{get_or-sets-after}
use Rattle.laws.proofs.Tests.{each}
use Rattle.laws.proofs.Good.{GoodState, good_state-facts, domain≤trusted, bot<heap}
use Rattle.laws.proofs.Frames.{word_of_bytes, AllBytes, byte_at}
use Rattle.laws.proofs.Bytes.{Bytes, length-config_as_bytes, length-ranges_at, word_drop, word_from, config_back, word_again, config_again}

-- the bytes behind the configuration
abbrev behind : State → List ℕ
behind s = run_as_bytes s ++ (0 ∷ [])

parts : (s : State) → slot_of s ≡ config_as_bytes s.config ++ behind s
unfolding slot_of
parts s = refl

pub length-slot_of : (s : State) → length s.config.ranges ≡ domains → length (slot_of s) ≡ slot_bytes
length-slot_of s eight =
    rw (parts s, length-append (config_as_bytes s.config) (behind s)) (omega (arith, length-config_as_bytes s.config eight))

-- ---- a good state's slot holds bytes

bytes-append : (xs ys : List ℕ) → AllBytes xs → AllBytes ys → AllBytes (xs ++ ys)
bytes-append [] ys h k = k
bytes-append (x ∷ xs) ys h k = (h.0, bytes-append xs ys h.1 k)

-- "start <= end <= jt", and jt is of sixteen bits
ranges_bytes : (jt : FlashWord) (rs : List Range) → jt.0 < 65536 → ordered jt rs ≡ true → AllBytes (ranges_as_bytes rs)
unfolding ranges_as_bytes ordered
ranges_bytes jt [] h o = tt
ranges_bytes jt (r ∷ rs) h o =
    let (a, (b, more)) = each (leb r.start.0 r.end.0) (leb r.end.0 jt.0 ∷ ordered jt rs ∷ []) o in
    let l : r.start.0 ≤ r.end.0 = leb-true r.start.0 r.end.0 a in
    let u : r.end.0 ≤ jt.0 = leb-true r.end.0 jt.0 b in
    (omega arith, (omega arith, (omega arith, (omega arith, ranges_bytes jt rs h more))))

pub slot_of-bytes : (s : State) → good_state s ≡ true → Bytes (slot_of s)
slot_of-bytes s h =
    let g : GoodState s = good_state-facts s h in
    let c : Config = s.config in
    let d : s.domain ≤ trusted = domain≤trusted g in
    rw (parts s)
    (byte_at (config_as_bytes c ++ behind s)
    (bytes-append (config_as_bytes c) (behind s)
    (bytes-append (bounds_as_bytes c) (ranges_as_bytes c.ranges) (omega (arith, bot<heap g.config))
    (ranges_bytes c.jt c.ranges (omega arith) g.config.ranges_ordered))
    (omega arith)))

-- ---- unpacking a packed state

-- "Packing and unpacking a good state are shown to undo each other": unpacking what was packed, of any state with eight ranges
pub state_in-slot_of : (s : State) → length s.config.ranges ≡ domains → state_in (slot_of s) ≡ s
state_in-slot_of s eight =
    let config : config_in (slot_of s) ≡ s.config = config_back (slot_of s) s.config (behind s) config_part eight (parts s) in
    let run : drop run_part (slot_of s) ≡ behind s =
    rw (parts s) (drop_at (config_as_bytes s.config) (behind s) run_part (length-config_as_bytes s.config eight)) in
    let bound : word_at (slot_of s) bound_place ≡ s.bound.0 = rw (word_from (slot_of s) bound_place, run) (word_of_bytes s.bound.0) in
    let pointer : word_at (slot_of s) safepointer_place ≡ s.safepointer.0 =
    rw (word_drop (slot_of s) run_part 2, run) (word_of_bytes s.safepointer.0) in
    let domain : get_or (slot_of s) domain_place 0 ≡ s.domain = sym (get_or-drop run_part (slot_of s) 4 0) ∙ ap (λ (l : List ℕ). get_or l 4 0) run in
    rw (config, bound, pointer, domain)

pub slot_of-zero : (s : State) → length s.config.ranges ≡ domains → get_or (slot_of s) zero_part 0 ≡ 0
slot_of-zero s eight =
    let e : zero_part ≡ length (config_as_bytes s.config) + 5 = omega (arith, length-config_as_bytes s.config eight) in
    rw (parts s, e) (get_or-append-add (config_as_bytes s.config) (behind s) 5 0)

-- ---- packing an unpacked slot

module _ (l : List ℕ) (size : length l ≡ slot_bytes) (bytes : Bytes l) where
  front : l ≡ config_as_bytes (config_in l) ++ drop run_part l
  front = config_again l config_part bytes (omega arith)

  -- a slot whose configuration stays: the bytes behind it are written, and no other
  pub slot_of_over : (s' : State) → s'.config ≡ config_in l → slot_of s' ≡ sets l run_part (run_as_bytes s' ++ (0 ∷ []))
  slot_of_over s' same =
      let long : length (config_as_bytes (config_in l)) ≡ run_part =
      length-config_as_bytes (config_in l) (length-ranges_at l (ranges_place config_part) domains) in
      let e : take run_part l ≡ config_as_bytes (config_in l) =
      ap (take run_part) front ∙ take_at (config_as_bytes (config_in l)) (drop run_part l) run_part long in
      rw (parts s', same, sets-eq (behind s') l run_part (omega arith), e, drop_of_length-le l {i = slot_bytes} (omega arith))
      (sym (append-nil (config_as_bytes (config_in l) ++ behind s')))

  module _ (z : get_or l zero_part 0 ≡ 0) where
    -- packing what was unpacked
    pub slot_of-state_in : slot_of (state_in l) ≡ l
    slot_of-state_in =
        let last : drop domain_place l ≡ get_or l domain_place 0 ∷ 0 ∷ [] =
        rw (drop-cons l domain_place 0 (omega arith), drop-cons l zero_part 0 (omega arith), z, drop_of_length-le l {i = slot_bytes} (omega arith)) in
        rw (parts (state_in l))
        (sym (rw (word_again l bound_place bytes (omega arith), word_again l safepointer_place bytes (omega arith), last) at front))

    -- a call or a return changes the bound, the safe pointer and the domain: these five bytes and no other
    pub slot_of-changed : (s' : State) → s'.config ≡ config_in l → slot_of s' ≡ sets l run_part (run_as_bytes s')
    slot_of-changed s' same =
        let written : List ℕ = sets l run_part (run_as_bytes s') in
        let still : get_or written zero_part 0 ≡ 0 = get_or-sets-after l run_part (run_as_bytes s') zero_part 0 (omega arith) ∙ z in
        slot_of_over s' same ∙ (rw still at (set-get_or written zero_part 0))
