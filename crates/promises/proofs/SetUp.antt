-- After an accepted set-up the invariant holds: no segment, no open call, and the map as set-up wrote it.
-- Assumes nothing.
use Rattle.std.proofs.Common.{ℕ, ◌≡◌, refl, sym, ◌∙◌, Bool, true, not, List, [], ◌∷◌, arith, length, eqb, eqb-true, Ok, Err}
use Rattle.std.proofs.Math.Seq.{slice_empty}
use borrow.Author.Tests.{not-false}
use Rattle.rules.specs.declared.Config.{Config}
use Rattle.rules.specs.Answers.{Answer, give}
use Rattle.rules.specs.declared.Refusal.{Refusal}
use Rattle.rules.specs.declared.Refusal.TheVariants.{WrongSize, BrokenRule}
use Rattle.rules.specs.Memory.{ram_bytes, layout_of}
use Rattle.rules.specs.State.{good_config, fresh, zeros}
use Rattle.rules.specs.SetUp.{set_up_ram, set_up_answer, set_up_of}
use Rattle.laws.proofs.Rows.{passed, give_answer}
use Rattle.laws.proofs.SetUp.{length-set_up_ram, set_up_ram-bytes, set_up_ram_code}
use Rattle.laws.proofs.Codes.{set_up_code-heap}
use Rattle.laws.proofs.Good.{GoodConfig, good_config-facts, good_state-facts, fresh_good, heap_block_pos, safe_block≤blocks, blocks≤places}
use Rattle.promises.specs.History.{Bytes}
use Rattle.promises.specs.Calls.{frames_of}
use Rattle.promises.proofs.Row.{code_none}
use Rattle.promises.proofs.Holds.{Holds}

-- the table of set-up
abbrev pub set_up_tests : Config → List ℕ → List (Bool × Refusal)
set_up_tests c ram = (not (eqb (length ram) ram_bytes), WrongSize) ∷ (not (good_config c), BrokenRule) ∷ []

fresh_holds : (c : Config) (ram : List ℕ) → good_config c ≡ true → length ram ≡ ram_bytes → Holds (fresh c) (set_up_ram (layout_of c) c ram) [] []
unfolding frames_of
fresh_holds c ram g n =
    let facts : GoodConfig c = good_config-facts c g in
    record {
      good = good_state-facts (fresh c) (fresh_good c g);
      size = length-set_up_ram c ram ∙ n;
      row = tt;
      heap = λ k l u.
          set_up_ram_code c ram facts n k (omega (arith, safe_block≤blocks facts, blocks≤places facts))
          ∙ set_up_code-heap c k (heap_block_pos facts) l u ∙ sym (code_none c k);
      other = λ k l out. set_up_ram_code c ram facts n k l;
      frames = slice_empty c.safe.0 (set_up_ram (layout_of c) c ram);
      current = refl;
      bound = refl;
      chain = tt;
    }

pub set_up_holds : (c : Config) (ram : List ℕ) → (set_up_of c ram).answer ≡ Ok 0
    → let g = set_up_of c ram in
    (g.state.config ≡ c) × Holds g.state g.ram [] []
set_up_holds c ram e =
    let q : set_up_answer c ram ≡ Ok 0 = sym (give_answer (set_up_answer c ram) zeros ram (fresh c) (set_up_ram (layout_of c) c ram)) ∙ e in
    let (t, _) = passed (set_up_tests c ram) (Ok 0) 0 q in
    rw q (refl, fresh_holds c ram (not-false _ t.1.0) (eqb-true _ _ (not-false _ t.0)))

-- and RAM that held bytes holds bytes
pub set_up_bytes : (c : Config) (ram : List ℕ) → Bytes ram → Bytes (set_up_of c ram).ram
set_up_bytes c ram bytes = by (set_up_answer c ram)
  where
    by : (x : Answer) → Bytes (give x zeros ram (fresh c) (set_up_ram (layout_of c) c ram)).ram
    by (Ok v) = set_up_ram-bytes c ram bytes
    by (Err r) = bytes
