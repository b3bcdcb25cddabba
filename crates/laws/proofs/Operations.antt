-- The rows that every operation's table begins with, what is below them, and what every operation keeps.
-- Assumes nothing.
use Rattle.std.proofs.Common.{ℕ, ◌≡◌, refl, true, false, not, ◌||◌, List, length, eqb, eq-eqb, ne_eqb, eqb-true, Ok, Err}
use Rattle.std.proofs.Math.Bool.{or-true}
use borrow.Author.Tests.{not-false}
use Rattle.rules.specs.declared.State.{State}
use Rattle.rules.specs.declared.Outcome.{Outcome}
use Rattle.rules.specs.declared.Frame.{Frame}
use Rattle.rules.specs.declared.Frame.TheVariants.{Local, Cross, Damage}
use Rattle.rules.specs.declared.Operation.{Operation}
use Rattle.rules.specs.declared.Operation.TheVariants.{Store, Call, Return, Malloc, Free, Change}
use Rattle.rules.specs.Answers.{Answer, Gives, give}
use Rattle.rules.specs.declared.Refusal.TheVariants.{WrongSize, BadState}
use Rattle.rules.specs.Memory.{ram_bytes, in_use, layout_of}
use Rattle.rules.specs.State.{good_state}
use Rattle.rules.specs.Return.{read_frame, returned}
use Rattle.rules.specs.Operations.{Lent, wrong_lent, Seen, seen_by, rows_of, state_after, ram_after, answer_by, operation_of}
use Rattle.laws.proofs.Tests.{neither}
use Rattle.laws.proofs.Rows.{row_passed}

-- ---- the two first rows

module _ (s : State) (ram : List ℕ) (l : Lent) (op : Operation) where
  pub wrong_lent_lem : wrong_lent l op ≡ true → Gives (record { answer = Err WrongSize; state = s }) ram (operation_of s ram l op)
  wrong_lent_lem h = rw h (refl, refl, refl)

  pub wrong_ram : (length ram ≡ ram_bytes → ⊥) → Gives (record { answer = Err WrongSize; state = s }) ram (operation_of s ram l op)
  wrong_ram h = rw (ne_eqb (length ram) ram_bytes h, or-true) (refl, refl, refl)

  module _ (lent : wrong_lent l op ≡ false) (size : length ram ≡ ram_bytes) where
    pub bad_state : good_state s ≡ false → Gives (record { answer = Err BadState; state = s }) ram (operation_of s ram l op)
    bad_state g = rw (lent, eq-eqb (length ram) ram_bytes size, g) (refl, refl, refl)

    -- past them only the operation's own rows are left
    pub below : good_state s ≡ true → answer_by in_use s ram l op ≡ rows_of s (seen_by in_use s ram) l op
    below g = rw (lent, eq-eqb (length ram) ram_bytes size, g)

    pub gives_below : good_state s ≡ true → (r : Outcome) (ram' : List ℕ)
        → Gives r ram' (give (rows_of s (seen_by in_use s ram) l op) s ram (state_after s (seen_by in_use s ram) op) (ram_after (layout_of s.config) s ram op))
        → Gives r ram' (operation_of s ram l op)
    gives_below g r ram' w = rw (below g) w

  -- what is done has passed both
  pub done_below : (v : ℕ) → answer_by in_use s ram l op ≡ Ok v
      → (length ram ≡ ram_bytes) × (good_state s ≡ true) × (rows_of s (seen_by in_use s ram) l op ≡ Ok v)
  done_below v e =
      let (sizes, more) = row_passed (wrong_lent l op || not (eqb (length ram) ram_bytes)) WrongSize _ v e in
      let (good, rest) = row_passed (not (good_state s)) BadState (rows_of s (seen_by in_use s ram) l op) v more in
      let (_, size) = neither (wrong_lent l op) (not (eqb (length ram) ram_bytes)) sizes in
      (eqb-true (length ram) ram_bytes (not-false (eqb (length ram) ram_bytes) size), not-false (good_state s) good, rest)

-- ---- the configuration stays

pub returned_config : (s : State) (f : Frame) → (returned s f).config ≡ s.config
returned_config s (Local site) = refl
returned_config s (Cross site bound domain) = refl
returned_config s Damage = refl

pub config_stays : (s : State) (v : Seen) (op : Operation) → (state_after s v op).config ≡ s.config
config_stays s v (Store a b) = refl
config_stays s v (Call t site p) = refl
config_stays s v Return = returned_config s (read_frame v.frames)
config_stays s v (Malloc size) = refl
config_stays s v (Free a) = refl
config_stays s v (Change a d) = refl

-- whatever is answered
pub config_after : (s : State) (ram : List ℕ) (l : Lent) (op : Operation) → (operation_of s ram l op).state.config ≡ s.config
config_after s ram l op = by (answer_by in_use s ram l op)
  where
    by : (x : Answer) → (give x s ram (state_after s (seen_by in_use s ram) op) (ram_after (layout_of s.config) s ram op)).state.config ≡ s.config
    by (Ok v) = config_stays s (seen_by in_use s ram) op
    by (Err r) = refl
