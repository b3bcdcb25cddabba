-- The rows of a call's table that stand below those of every call, and what a call gives by them: a local call, and a cross-domain call.
use Rattle.std.specs.Prelude.{ℕ, ◌+◌, ◌≤◌, ◌<◌, ◌≡◌, Bool, cond, not, ◌&&◌, List, length, replicate, leb, ltb, eqb, Ok}
use Rattle.std.proofs.lemmas.List.Edits.{sets}
use Rattle.rules.specs.declared.RamByte.{RamByte}
use Rattle.rules.specs.declared.FlashWord.{FlashWord}
use Rattle.rules.specs.declared.Range.{Range}
use Rattle.rules.specs.declared.Config.{Config}
use Rattle.rules.specs.declared.State.{State}
use Rattle.rules.specs.declared.Frame.TheVariants.{Local, Cross}
use Rattle.rules.specs.declared.Refusal.TheVariants.{SiteOutside, TargetOutside, PastTables, BadEntry, PointerOutside, PassesTop}
use Rattle.rules.specs.Answers.{Answer, Given, give, ◌⇒◌∣◌}
use Rattle.rules.specs.Code.{table_words, flash_word, range_of, in_range, is_local, table_word, called_domain, good_site}
use Rattle.rules.specs.State.{ram_byte, running}
use Rattle.rules.specs.Call.{frame_bytes, pointer_outside}

-- A call looks at one word of its table at most, so a table that has this word everywhere gives what each table gives that has it there.
unfoldable pub table_of : ℕ → List ℕ
table_of word = replicate table_words word

-- the code range of the domain that a cross-domain call calls
abbrev pub CalledCode : State → FlashWord → Range → Type 0
CalledCode s t r = s.config.jt.0 ≤ t.0 → table_word s.config t < table_words → r ≡ range_of s.config (called_domain s.config t)

-- how long a frame is does not depend on its return site, so the target stands for it
abbrev pub local_rows : State → FlashWord → Answer
local_rows s t =
    not (in_range (range_of s.config s.domain) t) ⇒ TargetOutside ∣
    ltb s.config.top.0 (s.safepointer.0 + length (frame_bytes (Local t))) ⇒ PassesTop ∣
    Ok t.0

unfoldable pub local_given : State → List ℕ → FlashWord → FlashWord → Given
local_given s ram t site =
    give (local_rows s t) s ram (running s s.domain s.bound (ram_byte (s.safepointer.0 + 3))) (sets ram s.safepointer.0 (frame_bytes (Local site)))

-- the word that a cross-domain call finds at its target is a good entry
abbrev pub good_word : Config → ℕ → FlashWord → Bool
good_word c word t = not (eqb word 0) && in_range (range_of c (called_domain c t)) (flash_word word)

abbrev pub cross_rows : State → ℕ → FlashWord → RamByte → Answer
cross_rows s word t p =
    leb table_words (table_word s.config t) ⇒ PastTables ∣
    not (good_word s.config word t) ⇒ BadEntry ∣
    pointer_outside s p ⇒ PointerOutside ∣
    ltb s.config.top.0 (s.safepointer.0 + length (frame_bytes (Cross t s.bound s.domain))) ⇒ PassesTop ∣
    Ok word

unfoldable pub cross_given : State → List ℕ → ℕ → FlashWord → FlashWord → RamByte → Given
cross_given s ram word t site p =
    give (cross_rows s word t p) s ram (running s (called_domain s.config t) p (ram_byte (s.safepointer.0 + 5)))
    (sets ram s.safepointer.0 (frame_bytes (Cross site s.bound s.domain)))

-- what a call answers that finds this word at its target
abbrev pub word_rows : State → ℕ → FlashWord → FlashWord → RamByte → Answer
word_rows s word t site p =
    not (good_site s.config s.domain site) ⇒ SiteOutside ∣
    cond (is_local s.config t) (local_rows s t) (cross_rows s word t p)
