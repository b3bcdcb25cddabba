-- Demand 1: every answer's number is one of document 01's for what was asked, and a refusal alters nothing.
-- Assumes nothing.
use Rattle.std.proofs.Common.{ℕ, ◌≡◌, refl, sym, subst, inl, inr, ◌≢◌, Bool, true, false, cond, not, ◌&&◌, ◌||◌, List, [], ◌∷◌, length, eqb, eqb-true, Ok, Err}
use Rattle.std.proofs.Math.Bool.{false≢true}
use Rattle.rules.specs.declared.State.{State}
use Rattle.rules.specs.Answers.{Answer, ◌⇒◌∣◌, give, number_of, number_of_refusal}
use Rattle.rules.specs.declared.Operation.{Operation}
use Rattle.rules.specs.declared.Operation.TheVariants.{Store, Call, Return, Malloc, Free, Change}
use Rattle.rules.specs.declared.Refusal.{Refusal}
use Rattle.rules.specs.declared.Refusal.TheVariants.{WrongSize, BadState}
use Rattle.rules.specs.Memory.{ram_bytes, in_use, layout_of}
use Rattle.rules.specs.Code.{is_local, entry_of}
use Rattle.rules.specs.State.{good_state, fresh, zeros}
use Rattle.rules.specs.SetUp.{set_up_answer, set_up_ram}
use Rattle.rules.specs.Return.{read_frame, site_of}
use Rattle.rules.specs.Malloc.{room_for, address_of}
use Rattle.rules.specs.Free.{blocks_at}
use Rattle.rules.specs.Operations.{Lent, wrong_lent, Seen, seen_by, rows_of, state_after, ram_after, answer_by}
use Rattle.laws.proofs.Tests.{by_test, both}
use Rattle.laws.proofs.Rows.{rows, give_answer}
use Rattle.promises.specs.Promise.{◌∈◌}
use Rattle.promises.specs.Demand1.{set_up_numbers, numbers_of, Unaltered, Demand1}
use Rattle.promises.proofs.Says.{answer_by_lem}
use Rattle.promises.proofs.SetUp.{set_up_tests}
use Rattle.promises.proofs.Store.{store_tests}
use Rattle.promises.proofs.Call.{call_tests}
use Rattle.promises.proofs.Return.{return_tests}
use Rattle.promises.proofs.Malloc.{malloc_tests}
use Rattle.promises.proofs.Free.{free_tests, change_tests}

-- ---- the numbers of a table

abbrev among : ℕ → List ℕ → Bool
among n [] = false
among n (m ∷ ms) = eqb n m || among n ms

abbrev all_among : List ℕ → List (Bool × Refusal) → Bool
all_among ns [] = true
all_among ns (r ∷ rs) = among (number_of_refusal r.1) ns && all_among ns rs

one_of : (n : ℕ) (ns : List ℕ) → among n ns ≡ true → n ∈ ns
one_of n [] t = absurd (false≢true t)
one_of n (m ∷ ms) t = by_test (eqb n m) (λ e. inl (eqb-true n m e)) (λ e. inr (one_of n ms (rw e at t)))

row_number : (ns : List ℕ) (t : Bool) (r : Refusal) (below : Answer) → number_of_refusal r ∈ ns → number_of below ∈ ns
    → number_of (t ⇒ r ∣ below) ∈ ns
row_number ns true r below here there = here
row_number ns false r below here there = there

rows_number : (ns : List ℕ) (rs : List (Bool × Refusal)) (v : ℕ) → all_among ns rs ≡ true → 0 ∈ ns → number_of (rows rs (Ok v)) ∈ ns
rows_number ns [] v t z = z
rows_number ns (r ∷ rs) v t z =
    let (one, others) = both (among (number_of_refusal r.1) ns) (all_among ns rs) t in
    row_number ns r.0 r.1 (rows rs (Ok v)) (one_of (number_of_refusal r.1) ns one) (rows_number ns rs v others z)

-- an operation's own rows
own_number : (s : State) (v : Seen) (l : Lent) (op : Operation) → number_of (rows_of s v l op) ∈ numbers_of op
own_number s v l (Store a b) = rows_number (numbers_of (Store a b)) (store_tests s v.codes a) 0 refl (inl refl)
own_number s v l (Call t site p) =
    rows_number (numbers_of (Call t site p)) (call_tests s l.table t site p)
    (cond (is_local s.config t) t.0 (entry_of s.config l.table t).0) refl (inl refl)
own_number s v l Return = rows_number (numbers_of Return) (return_tests s (read_frame v.frames)) (site_of (read_frame v.frames)) refl (inl refl)
own_number s v l (Malloc size) =
    rows_number (numbers_of (Malloc size)) (malloc_tests s v.codes size) (address_of s.config (room_for s v.codes size)) refl (inl refl)
own_number s v l (Free a) = rows_number (numbers_of (Free a)) (free_tests s v.codes a) (blocks_at s v.codes a) refl (inl refl)
own_number s v l (Change a d) =
    rows_number (numbers_of (Change a d)) (change_tests s v.codes a d) (blocks_at s v.codes a) refl (inl refl)

-- below the two first
answer_number : (s : State) (ram : List ℕ) (l : Lent) (op : Operation) → number_of (answer_by in_use s ram l op) ∈ numbers_of op
answer_number s ram l op =
    row_number (numbers_of op) (wrong_lent l op || not (eqb (length ram) ram_bytes)) WrongSize _ (inr (inl refl))
    (row_number (numbers_of op) (not (good_state s)) BadState _ (inr (inr (inl refl))) (own_number s (seen_by in_use s ram) l op))

-- ---- what is refused

unaltered : (x : Answer) (s : State) (ram : List ℕ) (s' : State) (ram' : List ℕ) → number_of (give x s ram s' ram').answer ≢ 0
    → Unaltered (give x s ram s' ram') s ram
unaltered (Ok v) s ram s' ram' n = absurd (n refl)
unaltered (Err r) s ram s' ram' n = record { value = refl; state = refl; memory = refl }

pub demand_1 : Demand1
demand_1 =
    record {
      set_up_number = λ c ram.
          rw (give_answer (set_up_answer c ram) zeros ram (fresh c) (set_up_ram (layout_of c) c ram))
          (rows_number set_up_numbers (set_up_tests c ram) 0 refl (inl refl));
      number = λ s ram l op. subst (λ (a : Answer). number_of a ∈ numbers_of op) (sym (answer_by_lem s ram l op)) (answer_number s ram l op);
      set_up_refused = λ c ram. unaltered (set_up_answer c ram) zeros ram (fresh c) (set_up_ram (layout_of c) c ram);
      refused = λ s ram l op.
          unaltered (answer_by in_use s ram l op) s ram (state_after s (seen_by in_use s ram) op) (ram_after (layout_of s.config) s ram op);
    }
