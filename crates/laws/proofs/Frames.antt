-- Frames: a word as two bytes, and the frame that a return reads is the frame that a call pushed.
-- Assumes nothing.
use Rattle.std.proofs.Common.{ℕ, zero, suc, ◌+◌, ◌-◌, ◌*◌, ◌<◌, ◌≤◌, ◌≡◌, ◌∙◌, List, [], ◌∷◌, ◌++◌, arith, length, get_or, length-append, get_or-append-add, ne_eqb, eq-eqb, le-ltb, le-leb}
use Rattle.rules.specs.declared.RamByte.{RamByte}
use Rattle.rules.specs.declared.FlashWord.{FlashWord}
use Rattle.rules.specs.declared.Frame.{Frame}
use Rattle.rules.specs.declared.Frame.TheVariants.{Local, Cross, Damage}
use Rattle.rules.specs.Memory.{trusted}
use Rattle.rules.specs.Code.{flash_word}
use Rattle.rules.specs.State.{ram_byte}
use Rattle.rules.specs.Bytes.{low, high, word_at}
use Rattle.rules.specs.Call.{local_tag, frame_bytes}
use Rattle.rules.specs.Return.{read_frame}

-- ---- a word as two bytes

pub word_of_bytes : (n : ℕ) → low n + 256 * high n ≡ n
word_of_bytes n = omega arith

-- ---- a frame read back

-- what makes the last bytes a local frame, and what a cross-domain one
pub read_local : (used : List ℕ) (w : ℕ) → 3 ≤ length used → get_or used (length used - 1) 0 ≡ local_tag
    → word_at used (length used - 3) ≡ w → read_frame used ≡ Local (flash_word w)
unfolding read_frame
read_local used w l t e = rw (eq-eqb _ _ t, le-ltb _ _ l, e)

pub read_cross : (used : List ℕ) (w b d : ℕ) → 5 ≤ length used → get_or used (length used - 1) 0 ≡ d → d ≤ trusted
    → word_at used (length used - 5) ≡ w → word_at used (length used - 3) ≡ b → read_frame used ≡ Cross (flash_word w) (ram_byte b) d
unfolding read_frame
read_cross used w b d l t g e f = rw (t, ne_eqb d local_tag (omega arith), le-leb d trusted g, le-ltb _ _ l, e, f)

-- a byte of ys behind xs, at an index that is known by an equation
behind : (xs ys : List ℕ) (i j : ℕ) → j ≡ length xs + i → get_or (xs ++ ys) j 0 ≡ get_or ys i 0
behind xs ys i j e = rw e (get_or-append-add xs ys i 0)

word_behind : (xs ys : List ℕ) (i j : ℕ) → j ≡ length xs + i → word_at (xs ++ ys) j ≡ word_at ys i
word_behind xs ys i j e = rw (behind xs ys i j e, behind xs ys (i + 1) (j + 1) (omega arith))

pub read_frame-local : (xs : List ℕ) (site : FlashWord) → read_frame (xs ++ frame_bytes (Local site)) ≡ Local site
read_frame-local xs site =
    let ys : List ℕ = frame_bytes (Local site) in
    let l : length (xs ++ ys) ≡ length xs + 3 = length-append xs ys in
    let n : ℕ = length (xs ++ ys) in
    read_local (xs ++ ys) site.0 (omega arith) (behind xs ys 2 (n - 1) (omega arith))
    (word_behind xs ys 0 (n - 3) (omega arith) ∙ word_of_bytes site.0)

pub read_frame-cross : (xs : List ℕ) (site : FlashWord) (bound : RamByte) (d : ℕ) → d ≤ trusted
    → read_frame (xs ++ frame_bytes (Cross site bound d)) ≡ Cross site bound d
read_frame-cross xs site bound d g =
    let ys : List ℕ = frame_bytes (Cross site bound d) in
    let l : length (xs ++ ys) ≡ length xs + 5 = length-append xs ys in
    let n : ℕ = length (xs ++ ys) in
    read_cross (xs ++ ys) site.0 bound.0 d (omega arith) (behind xs ys 4 (n - 1) (omega arith)) g
    (word_behind xs ys 0 (n - 5) (omega arith) ∙ word_of_bytes site.0)
    (word_behind xs ys 2 (n - 3) (omega arith) ∙ word_of_bytes bound.0)

-- a frame that a call in a good state pushes
abbrev pub IsFrame : Frame → Type 0
IsFrame (Local site) = Unit
IsFrame (Cross site bound d) = d ≤ trusted
IsFrame Damage = ⊥

pub read_frame-back : (f : Frame) → IsFrame f → (xs : List ℕ) → read_frame (xs ++ frame_bytes f) ≡ f
read_frame-back (Local site) h xs = read_frame-local xs site
read_frame-back (Cross site bound d) h xs = read_frame-cross xs site bound d h
read_frame-back Damage h xs = absurd h

-- ---- the bytes of a frame are bytes

-- its site and bound are of sixteen bits, its domain of eight
abbrev pub Fits : Frame → Type 0
Fits (Local site) = site.0 < 65536
Fits (Cross site bound d) = (site.0 < 65536) × (bound.0 < 65536) × (d < 256)
Fits Damage = Unit

abbrev pub AllBytes : List ℕ → Type 0
AllBytes [] = Unit
AllBytes (x ∷ xs) = (x < 256) × AllBytes xs

pub byte_at : (xs : List ℕ) → AllBytes xs → (i : ℕ) → get_or xs i 0 < 256
byte_at [] h i = omega arith
byte_at (x ∷ xs) h zero = h.0
byte_at (x ∷ xs) h (suc i) = byte_at xs h.1 i

pub frame_bytes_lem : (f : Frame) → Fits f → (i : ℕ) → get_or (frame_bytes f) i 0 < 256
frame_bytes_lem (Local site) h = byte_at (frame_bytes (Local site)) (omega arith)
frame_bytes_lem (Cross site bound d) h = byte_at (frame_bytes (Cross site bound d)) (omega arith)
frame_bytes_lem Damage h = byte_at [] tt
