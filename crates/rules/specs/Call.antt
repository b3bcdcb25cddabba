-- Section 5: call.
use Rattle.std.specs.Prelude.{ℕ, ◌+◌, ◌-◌, Bool, cond, not, ◌&&◌, ◌||◌, List, [], ◌∷◌, length, leb, ltb, Ok}
use Rattle.std.proofs.lemmas.List.Edits.{sets}
use Rattle.rules.specs.declared.RamByte.{RamByte}
use Rattle.rules.specs.declared.FlashWord.{FlashWord}
use Rattle.rules.specs.declared.State.{State}
use Rattle.rules.specs.declared.Frame.{Frame}
use Rattle.rules.specs.declared.Frame.TheVariants.{Local, Cross, Damage}
use Rattle.rules.specs.Answers.{Answer, ◌⇒◌∣◌}
use Rattle.rules.specs.declared.Refusal.TheVariants.{SiteOutside, TargetOutside, PastTables, BadEntry, PointerOutside, PassesTop}
use Rattle.rules.specs.Code.{table_words, range_of, in_range, is_local, table_word, called_domain, entry_of, good_entry, good_site}
use Rattle.rules.specs.State.{ram_byte, running}
use Rattle.rules.specs.Bytes.{low, high}

-- the tag of a local frame
abbrev pub local_tag : ℕ
local_tag = 255

-- "three bytes: return site low, high, 255"; "five bytes: return site low, high, old bound low, high, calling domain"
abbrev pub frame_bytes : Frame → List ℕ
frame_bytes (Local site) = low site.0 ∷ high site.0 ∷ local_tag ∷ []
frame_bytes (Cross site bound domain) = low site.0 ∷ high site.0 ∷ low bound.0 ∷ high bound.0 ∷ domain ∷ []
frame_bytes Damage = []

-- the frame that a call pushes
abbrev pub frame_of : State → FlashWord → FlashWord → Frame
frame_of s t site = cond (is_local s.config t) (Local site) (Cross site s.bound s.domain)

-- "needs top - 1 <= pointer <= bound"
abbrev pub pointer_outside : State → RamByte → Bool
pointer_outside s p = ltb p.0 (s.config.top.0 - 1) || ltb s.bound.0 p.0

-- a cross-domain call
abbrev pub is_cross : State → FlashWord → Bool
is_cross s t = not (is_local s.config t)

-- "A local call needs its target there too, ignores the stack pointer"; "Value: target of a local call, table entry of a cross-domain
-- call."
abbrev pub call_rows : State → List ℕ → FlashWord → FlashWord → RamByte → Answer
call_rows s table t site p =
    not (good_site s.config s.domain site) ⇒ SiteOutside ∣
    is_local s.config t && not (in_range (range_of s.config s.domain) t) ⇒ TargetOutside ∣
    is_cross s t && leb table_words (table_word s.config t) ⇒ PastTables ∣
    is_cross s t && not (good_entry s.config table t) ⇒ BadEntry ∣
    is_cross s t && pointer_outside s p ⇒ PointerOutside ∣
    ltb s.config.top.0 (s.safepointer.0 + length (frame_bytes (frame_of s t site))) ⇒ PassesTop ∣
    Ok (cond (is_local s.config t) t.0 (entry_of s.config table t).0)

-- the state with a frame pushed: "then the called domain is current and the bound is the pointer"
abbrev pub called : State → FlashWord → FlashWord → RamByte → State
called s t site p =
    running s
    (cond (is_local s.config t) s.domain (called_domain s.config t))
    (cond (is_local s.config t) s.bound p)
    (ram_byte (s.safepointer.0 + length (frame_bytes (frame_of s t site))))

abbrev pub pushed : State → List ℕ → FlashWord → FlashWord → List ℕ
pushed s ram t site = sets ram s.safepointer.0 (frame_bytes (frame_of s t site))
