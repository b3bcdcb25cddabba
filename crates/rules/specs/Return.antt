-- Section 5: return.
use Rattle.std.specs.Prelude.{ℕ, ◌-◌, Bool, true, cond, not, ◌||◌, List, length, get_or, leb, ltb, eqb, Ok}
use Rattle.std.proofs.Math.Seq.{slice}
use Rattle.rules.specs.declared.State.{State}
use Rattle.rules.specs.declared.Frame.{Frame}
use Rattle.rules.specs.declared.Frame.TheVariants.{Local, Cross, Damage}
use Rattle.rules.specs.Answers.{Answer, ◌⇒◌∣◌}
use Rattle.rules.specs.declared.Refusal.TheVariants.{NoFrame, DamagedFrame}
use Rattle.rules.specs.Memory.{ram_bytes, trusted}
use Rattle.rules.specs.Code.{flash_word, good_site}
use Rattle.rules.specs.State.{ram_byte, running}
use Rattle.rules.specs.Bytes.{word_at}
use Rattle.rules.specs.Call.{local_tag}

-- the last frame of the bytes from safe to the safe pointer. "Reads the tag below the safe pointer: 255 a local frame, 0 to 7 a
-- cross-domain frame, anything else damage. Damage too: fewer bytes above safe than the frame needs"
unfoldable pub read_frame : List ℕ → Frame
read_frame used =
    let n = length used in
    let tag = get_or used (n - 1) 0 in
    cond (eqb tag local_tag) (cond (ltb n 3) Damage (Local (flash_word (word_at used (n - 3)))))
    (cond (leb tag trusted) (cond (ltb n 5) Damage (Cross (flash_word (word_at used (n - 5))) (ram_byte (word_at used (n - 3))) tag))
    Damage)

abbrev pub top_frame : State → List ℕ → Frame
top_frame s ram = read_frame (slice s.config.safe.0 s.safepointer.0 ram)

-- "an address outside the code range of the domain returned to; an old bound below the present one or above 4095"
abbrev pub damaged : State → Frame → Bool
damaged s (Local site) = not (good_site s.config s.domain site)
damaged s (Cross site bound domain) = not (good_site s.config domain site) || ltb bound.0 s.bound.0 || leb ram_bytes bound.0
damaged s Damage = true

-- "Value: the address."
abbrev pub site_of : Frame → ℕ
site_of (Local site) = site.0
site_of (Cross site bound domain) = site.0
site_of Damage = 0

abbrev pub return_rows : State → Frame → Answer
return_rows s frame =
    eqb s.safepointer.0 s.config.safe.0 ⇒ NoFrame ∣
    damaged s frame ⇒ DamagedFrame ∣
    Ok (site_of frame)

-- the state with a frame popped: "A cross-domain frame restores domain and bound. Popped bytes stay in RAM."
abbrev pub returned : State → Frame → State
returned s (Local site) = running s s.domain s.bound (ram_byte (s.safepointer.0 - 3))
returned s (Cross site bound domain) = running s domain bound (ram_byte (s.safepointer.0 - 5))
returned s Damage = s
