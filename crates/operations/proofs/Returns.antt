-- Return: the frame that is read, and what a return gives.
-- Assumes nothing.
use Prim.Native.Nat.{ℕ, ◌-◌, ◌≤◌}
use mathlib.Core.Path.{◌≡◌, refl, ap}
use mathlib.Core.Bool.{Bool, true, false, cond}
use mathlib.Core.List.{List}
use native.Mathlib.Omega.{arith}
use lib.ListN.{length, get_or, take}
use lib.Dec.{eqb, leb, ltb}
use lib.Seq.{slice, length-slice}
use borrow.Author.Tests.{eq-eqb, ltb-false, leb-true}
use Rattle.rules.specs.declared.RamByte.{RamByte}
use Rattle.rules.specs.declared.FlashWord.{FlashWord}
use Rattle.rules.specs.declared.State.{State}
use Rattle.rules.specs.declared.Frame.{Frame}
use Rattle.rules.specs.declared.Frame.TheVariants.{Local, Cross, Damage}
use Rattle.rules.specs.declared.Operation.TheVariants.{Return}
use Rattle.rules.specs.declared.Outcome.{Outcome}
use Rattle.rules.specs.Answers.{Answer}
use Rattle.std.specs.Prelude.{Ok, Err}
use Rattle.rules.specs.declared.Refusal.TheVariants.{NoFrame}
use Rattle.rules.specs.Memory.{ram_bytes, trusted}
use Rattle.rules.specs.State.{good_state}
use Rattle.rules.specs.Answers.{Gives, give}
use Rattle.rules.specs.Call.{local_tag, frame_bytes}
use Rattle.rules.specs.Return.{read_frame, top_frame, return_rows, returned}
use Rattle.rules.specs.Operations.{nothing, return_of}
use Rattle.laws.proofs.Good.{good_state-facts, domain≤trusted}
use Rattle.laws.proofs.Operations.{gives_below}
use Rattle.operations.specs.ReturnRows.{caller_of, handed, returning}
use Rattle.operations.proofs.SafeStack.{Area, lent, slice_of}

-- ---- the frame that is read

by_cond : (P : Frame → Type 0) (t : Bool) {a b : Frame} → (t ≡ true → P a) → (t ≡ false → P b) → P (cond t a b)
by_cond P true y n = y refl
by_cond P false y n = n refl

-- what holds of damage, of a local frame of three bytes and of a cross-domain frame of five holds of the frame that is read
read_by : (P : Frame → Type 0) (used : List ℕ) → P Damage → ((w : FlashWord) → 3 ≤ length used → P (Local w))
    → ((w : FlashWord) (b : RamByte) (d : ℕ) → 5 ≤ length used → d ≤ trusted → P (Cross w b d)) → P (read_frame used)
unfolding read_frame
read_by P used damage local cross =
    let tag : ℕ = get_or used (length used - 1) 0 in
    by_cond P (eqb tag local_tag)
    (λ _. by_cond P (ltb (length used) 3) (λ _. damage) (λ n. local _ (ltb-false (length used) 3 n)))
    (λ _. by_cond P (leb tag trusted)
    (λ t. by_cond P (ltb (length used) 5) (λ _. damage) (λ n. cross _ _ tag (ltb-false (length used) 5 n) (leb-true tag trusted t)))
    (λ _. damage))

module _ (s : State) (ram : List ℕ) (f : Frame) (is : f ≡ top_frame s ram) where
  -- it returns to a domain
  pub caller≤trusted : good_state s ≡ true → caller_of s f ≤ trusted
  caller≤trusted good =
      let own : s.domain ≤ trusted = domain≤trusted (good_state-facts s good) in
      rw is (read_by (λ (f : Frame). caller_of s f ≤ trusted) (slice s.config.safe.0 s.safepointer.0 ram) own (λ w n. own) (λ w b d n t. t))

  module _ (a : Area s ram) where
    -- it lies below the safe pointer
    pub frame_below : length (frame_bytes f) ≤ s.safepointer.0
    frame_below =
        let used : List ℕ = slice s.config.safe.0 s.safepointer.0 ram in
        let n : length used ≡ s.safepointer.0 - s.config.safe.0 = length-slice s.config.safe.0 s.safepointer.0 ram (omega arith) in
        rw is
        (read_by (λ (f : Frame). length (frame_bytes f) ≤ s.safepointer.0) used (omega arith) (λ w h. omega arith) (λ w b d h t. omega arith))

-- what is read from the part that is lent
pub frame_read : (s : State) (ram : List ℕ) → Area s ram → read_frame (take (s.safepointer.0 - s.config.safe.0) (lent s ram)) ≡ top_frame s ram
frame_read s ram a = ap read_frame (slice_of s.config.safe.0 s.safepointer.0 s.config.top.0 ram a.safe≤pointer a.pointer≤top)

-- ---- what a return gives

handed_gives : (a : Answer) (s s' : State) (ram : List ℕ) → Gives (handed a s s') ram (give a s ram s' ram)
handed_gives (Ok v) s s' ram = (refl, refl, refl)
handed_gives (Err r) s s' ram = (refl, refl, refl)

module _ (s : State) (ram : List ℕ) (ready : (length ram ≡ ram_bytes) × (good_state s ≡ true)) where
  pub gives_no_frame : s.safepointer.0 ≡ s.config.safe.0 → Gives (record { answer = Err NoFrame; state = s }) ram (return_of s ram)
  gives_no_frame h = gives_below s ram nothing Return refl ready.0 ready.1 _ ram (rw (eq-eqb s.safepointer.0 s.config.safe.0 h) (refl, refl, refl))

  -- what was handed back for the frame below the safe pointer is what the rule gives
  pub gives_returning : (f : Frame) → f ≡ top_frame s ram → (r : Outcome) → r ≡ returning s f → Gives r ram (return_of s ram)
  gives_returning f is r e =
      gives_below s ram nothing Return refl ready.0 ready.1 r ram
      (rw (e, is) (handed_gives (return_rows s (top_frame s ram)) s (returned s (top_frame s ram)) ram))
