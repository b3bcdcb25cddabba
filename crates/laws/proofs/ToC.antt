-- What a function called from C gives, from what the operation gave it (document 02, Ask 1).
-- Assumes nothing.
use Rattle.std.proofs.Common.{ℕ, ◌≡◌, refl, sym, ◌∙◌, Bool, true, false, not, List, [], ◌∷◌, ◌++◌, length, get_or, eqb, eqb-true, eq-eqb, ne_eqb, Ok, Err}
use Rattle.std.proofs.Math.Bool.{and-false}
use Rattle.std.proofs.Math.Seq.{sets}
use borrow.Author.Tests.{not-false}
use Rattle.rules.specs.declared.Config.{Config}
use Rattle.rules.specs.declared.State.{State}
use Rattle.rules.specs.declared.Outcome.{Outcome}
use Rattle.rules.specs.declared.Operation.{Operation}
use Rattle.rules.specs.Answers.{Answer, Given, Gives, give}
use Rattle.rules.specs.declared.Refusal.TheVariants.{WrongSize, BadState}
use Rattle.rules.specs.Memory.{ram_bytes, in_use, layout_of}
use Rattle.rules.specs.Code.{table_words}
use Rattle.rules.specs.State.{good_state, fresh, zeros}
use Rattle.rules.specs.SetUp.{set_up_answer, set_up_ram, set_up_of}
use Rattle.rules.specs.Operations.{lending, nothing, lent_table, wrong_lent, seen_by, state_after, ram_after, answer_by, operation_of}
use Rattle.rules.specs.Slot.{slot_bytes, run_part, zero_part, config_in, state_in, run_as_bytes, slot_of, packed, GivesToC, to_c, wrong_size, c_set_up_of, table_bytes, table_in, wrong_table, c_operation, c_operation_of}
use Rattle.laws.proofs.Tests.{both, neither}
use Rattle.laws.proofs.Bytes.{Bytes, length-words_at}
use Rattle.laws.proofs.Slot.{slot_of-state_in, slot_of_over, slot_of-changed}
use Rattle.laws.proofs.Operations.{config_stays}

-- the slot after an answer: as it was after a refusal, else as it is when done
abbrev pub after : Answer → List ℕ → List ℕ → List ℕ
after (Ok v) slot done = done
after (Err r) slot done = slot

after_same : (a : Answer) (slot : List ℕ) → slot ≡ after a slot slot
after_same (Ok v) slot = refl
after_same (Err r) slot = refl

-- ---- the tests before an operation

pub right_size : (slot ram : List ℕ) → wrong_size slot ram ≡ false → (length slot ≡ slot_bytes) × (length ram ≡ ram_bytes)
right_size slot ram h =
    let (a, b) = neither (not (eqb (length slot) slot_bytes)) (not (eqb (length ram) ram_bytes)) h in
    (eqb-true (length slot) slot_bytes (not-false (eqb (length slot) slot_bytes) a), eqb-true (length ram) ram_bytes (not-false (eqb (length ram) ram_bytes) b))

-- the words of a table of bytes are as many as are wanted
pub right_table : (table : List ℕ) (op : Operation) → wrong_lent (lending (table_in table)) op ≡ false
right_table table op = rw (eq-eqb (length (table_in table)) table_words (length-words_at table 0 table_words)) (and-false (lent_table op))

-- and where a table of bytes is wrong, so is no table
pub no_table : (table : List ℕ) (op : Operation) → wrong_table table op ≡ true → wrong_lent nothing op ≡ true
no_table table op h = rw (both (lent_table op) (not (eqb (length table) table_bytes)) h).0

-- lengths, byte 47 and the state are good
pub record Ready (slot ram : List ℕ) : Type 0 where
  pub sizes : wrong_size slot ram ≡ false
  pub zero : get_or slot zero_part 0 ≡ 0
  pub good : good_state (state_in slot) ≡ true

module _ {slot ram : List ℕ} (h : Ready slot ram) where
  pub slot_size : length slot ≡ slot_bytes
  slot_size = (right_size slot ram h.sizes).0

  pub ram_size : length ram ≡ ram_bytes
  ram_size = (right_size slot ram h.sizes).1

-- the refusals of these tests, as a number, for any operation whose table has its length
module _ (slot ram : List ℕ) (n : ℕ) (table : List ℕ) (op : Operation) (right : wrong_table table op ≡ false) where
  pub refused_size : wrong_size slot ram ≡ true → n ≡ packed (Err WrongSize) → GivesToC n slot ram (c_operation_of slot ram table op)
  refused_size w e = rw (right, w) (e, refl, refl)

  pub refused_zero : wrong_size slot ram ≡ false → (get_or slot zero_part 0 ≡ 0 → ⊥) → n ≡ packed (Err BadState)
      → GivesToC n slot ram (c_operation_of slot ram table op)
  refused_zero w z e = rw (right, w, ne_eqb (get_or slot zero_part 0) 0 z) (e, refl, refl)

  pub refused_state : wrong_size slot ram ≡ false → get_or slot zero_part 0 ≡ 0 → good_state (state_in slot) ≡ false → n ≡ packed (Err BadState)
      → GivesToC n slot ram (c_operation_of slot ram table op)
  refused_state w z b e =
      rw (right, w, eq-eqb (get_or slot zero_part 0) 0 z, right_table table op, eq-eqb (length ram) ram_bytes (right_size slot ram w).1, b) (e, refl, refl)

passed : (wrong : Bool) (slot ram : List ℕ) → wrong ≡ false → get_or slot zero_part 0 ≡ 0 → (g : Given) → c_operation wrong slot ram g ≡ to_c slot ram g
passed wrong slot ram w z g = rw (w, eq-eqb (get_or slot zero_part 0) 0 z)

-- ---- an operation carried out

-- an outcome handed on: its answer as one number, and the slot written only when done, with what packs the state
to_c_lem : (a : Answer) (s s' : State) (slot ram slot' ram' done : List ℕ) (r : Outcome) (n : ℕ) (pack : State → List ℕ)
    → Gives r ram' (give a s ram s' done) → n ≡ packed r.answer → slot' ≡ after r.answer slot (pack r.state)
    → slot_of s' ≡ pack s' → GivesToC n slot' ram' (to_c slot ram (give a s ram s' done))
to_c_lem (Ok v) s s' slot ram slot' ram' done r n pack (e, f, g) p w h = (rw e at p, (rw (e, f) at w) ∙ sym h, g)
to_c_lem (Err q) s s' slot ram slot' ram' done r n pack (e, f, g) p w h = (rw e at p, rw e at w, g)

-- set-up: "Set-up reads only the configuration from the slot."
pub set_up_to_c : (slot ram slot' ram' : List ℕ) (r : Outcome) (n : ℕ) → Bytes slot → wrong_size slot ram ≡ false
    → Gives r ram' (set_up_of (config_in slot) ram) → n ≡ packed r.answer
    → slot' ≡ after r.answer slot (sets slot run_part (run_as_bytes r.state ++ (0 ∷ [])))
    → GivesToC n slot' ram' (c_set_up_of slot ram)
set_up_to_c slot ram slot' ram' r n bytes sizes g p w =
    let c : Config = config_in slot in
    rw sizes
    (to_c_lem (set_up_answer c ram) zeros (fresh c) slot ram slot' ram' (set_up_ram (layout_of c) c ram) r n
    (λ s. sets slot run_part (run_as_bytes s ++ (0 ∷ []))) g p w
    (slot_of_over slot (right_size slot ram sizes).0 bytes (fresh c) refl))

module _ (slot ram table : List ℕ) (op : Operation) (bytes : Bytes slot) (lent : wrong_table table op ≡ false) (ready : Ready slot ram) where
  through : c_operation_of slot ram table op ≡ to_c slot ram (operation_of (state_in slot) ram (lending (table_in table)) op)
  through =
      rw lent
      (passed (wrong_size slot ram) slot ram ready.sizes ready.zero (operation_of (state_in slot) ram (lending (table_in table)) op))

  -- an operation that keeps the state, and so the slot
  pub kept_to_c : (ram' : List ℕ) (r : Outcome) (n : ℕ) → state_after (state_in slot) (seen_by in_use (state_in slot) ram) op ≡ state_in slot
      → Gives r ram' (operation_of (state_in slot) ram (lending (table_in table)) op) → n ≡ packed r.answer
      → GivesToC n slot ram' (c_operation_of slot ram table op)
  kept_to_c ram' r n same g p =
      rw through
      (to_c_lem (answer_by in_use (state_in slot) ram (lending (table_in table)) op) (state_in slot)
      (state_after (state_in slot) (seen_by in_use (state_in slot) ram) op) slot ram slot ram' (ram_after (layout_of (config_in slot)) (state_in slot) ram op)
      r n (λ s. slot) g p (after_same r.answer slot)
      (rw same (slot_of-state_in slot (right_size slot ram ready.sizes).0 bytes ready.zero)))

  -- any operation, since each keeps the configuration
  pub changed_to_c : (slot' ram' : List ℕ) (r : Outcome) (n : ℕ)
      → Gives r ram' (operation_of (state_in slot) ram (lending (table_in table)) op) → n ≡ packed r.answer
      → slot' ≡ after r.answer slot (sets slot run_part (run_as_bytes r.state))
      → GivesToC n slot' ram' (c_operation_of slot ram table op)
  changed_to_c slot' ram' r n g p w =
      rw through
      (to_c_lem (answer_by in_use (state_in slot) ram (lending (table_in table)) op) (state_in slot)
      (state_after (state_in slot) (seen_by in_use (state_in slot) ram) op) slot ram slot' ram' (ram_after (layout_of (config_in slot)) (state_in slot) ram op)
      r n (λ s. sets slot run_part (run_as_bytes s)) g p w
      (slot_of-changed slot (right_size slot ram ready.sizes).0 bytes ready.zero
      (state_after (state_in slot) (seen_by in_use (state_in slot) ram) op) (config_stays (state_in slot) (seen_by in_use (state_in slot) ram) op)))
