-- A call that is done: the frame fits in the part of RAM that is lent, and what is handed back is what the rule gives.
-- Assumes nothing.
use Prim.Native.Nat.{ℕ, ◌+◌, ◌-◌, ◌<◌, ◌≤◌}
use mathlib.Core.Path.{◌≡◌, ◌∙◌}
use mathlib.Core.Bool.{true}
use mathlib.Core.List.{List}
use native.Mathlib.Omega.{arith}
use lib.ListN.{length}
use lib.Seq.{sets}
use borrow.Author.Tests.{lt-ltb, le-ltb, leb-false}
use borrow.Rule.Slice.PartMut.{put_mid}
use Rattle.rules.specs.declared.RamByte.{RamByte}
use Rattle.rules.specs.declared.FlashWord.{FlashWord}
use Rattle.rules.specs.declared.State.{State}
use Rattle.rules.specs.declared.Frame.{Frame}
use Rattle.rules.specs.declared.Frame.TheVariants.{Local, Cross}
use Rattle.rules.specs.declared.Operation.TheVariants.{Call}
use Rattle.std.specs.Prelude.{Ok}
use Rattle.rules.specs.Memory.{ram_bytes}
use Rattle.rules.specs.Code.{table_words, table_word, called_domain}
use Rattle.rules.specs.State.{good_state, ram_byte, running}
use Rattle.rules.specs.Answers.{Answer, Gives}
use Rattle.rules.specs.Call.{frame_bytes, call_rows}
use Rattle.rules.specs.Operations.{lending, call_of}
use Rattle.laws.proofs.Parts.{put_sets}
use Rattle.operations.specs.CallRows.{table_of}
use Rattle.operations.proofs.Gives.{done}
use Rattle.operations.proofs.SafeStack.{Area, lent}
use Rattle.operations.proofs.CallRows.{CallDone, table_of-lent}

-- ---- the frame

-- a frame written to the part is the frame written to RAM
pub put_frame : (s : State) (ram : List ℕ) → Area s ram → (f : Frame) (last : List ℕ)
    → s.safepointer.0 + length (frame_bytes f) ≤ s.config.top.0
    → last ≡ sets (lent s ram) (s.safepointer.0 - s.config.safe.0) (frame_bytes f)
    → put_mid s.config.safe.0 (s.config.top.0 - s.config.safe.0) ram last ≡ sets ram s.safepointer.0 (frame_bytes f)
put_frame s ram a f last fits e =
    let i : s.config.safe.0 + (s.safepointer.0 - s.config.safe.0) ≡ s.safepointer.0 = omega arith in
    rw e
    (put_sets s.config.safe.0 (s.config.top.0 - s.config.safe.0) ram (s.safepointer.0 - s.config.safe.0) (frame_bytes f) (omega arith)
    ∙ (rw i))

-- ---- what is handed back

module _ (s : State) (ram : List ℕ) (word : ℕ) (t site : FlashWord) (p : RamByte) (ready : (length ram ≡ ram_bytes) × (good_state s ≡ true))
    (answer : Answer) (right : answer ≡ call_rows s (table_of word) t site p) (v : ℕ) (told : answer ≡ Ok v) (pointer : RamByte) (ram' : List ℕ) where
  pub gives_local : t.0 < s.config.jt.0 → pointer ≡ ram_byte (s.safepointer.0 + 3)
      → ram' ≡ sets ram s.safepointer.0 (frame_bytes (Local site))
      → Gives (record { answer = answer; state = running s s.domain s.bound pointer }) ram' (call_of s ram (table_of word) t site p)
  gives_local h e f =
      done s ram (lending (table_of word)) (Call t site p) (table_of-lent word t site p) ready answer right v told _ ram'
      (rw (lt-ltb t.0 s.config.jt.0 h, e)) (f ∙ (rw (lt-ltb t.0 s.config.jt.0 h)))

  pub gives_cross : s.config.jt.0 ≤ t.0 → (domain : ℕ) → domain ≡ called_domain s.config t → pointer ≡ ram_byte (s.safepointer.0 + 5)
      → ram' ≡ sets ram s.safepointer.0 (frame_bytes (Cross site s.bound s.domain))
      → Gives (record { answer = answer; state = running s domain p pointer }) ram' (call_of s ram (table_of word) t site p)
  gives_cross h domain d e f =
      done s ram (lending (table_of word)) (Call t site p) (table_of-lent word t site p) ready answer right v told _ ram'
      (rw (le-ltb t.0 s.config.jt.0 h, d, e)) (f ∙ (rw (le-ltb t.0 s.config.jt.0 h)))

-- ---- room for the frame, and the word within the tables

module _ (s : State) (t site : FlashWord) (d : CallDone s t site) where
  pub local_fits : t.0 < s.config.jt.0 → s.safepointer.0 + length (frame_bytes (Local site)) ≤ s.config.top.0
  local_fits h = rw (lt-ltb t.0 s.config.jt.0 h) at d.fits

  pub cross_fits : s.config.jt.0 ≤ t.0 → s.safepointer.0 + length (frame_bytes (Cross site s.bound s.domain)) ≤ s.config.top.0
  cross_fits h = rw (le-ltb t.0 s.config.jt.0 h) at d.fits

  pub word_within : s.config.jt.0 ≤ t.0 → table_word s.config t < table_words
  word_within h = leb-false table_words (table_word s.config t) (rw (le-ltb t.0 s.config.jt.0 h) at d.within)
