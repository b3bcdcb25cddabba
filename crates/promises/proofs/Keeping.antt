-- A segment is given up by its own domain alone: every operation but its free or change leaves it in the ledger; and a free or a change
-- that is accepted is of a segment of the domain that asks.
-- Assumes nothing.
use Rattle.std.proofs.Common.{ℕ, ◌≡◌, refl, sym, ap, ◌∙◌, subst, inl, inr, ◌≢◌, List, [], ◌∷◌, ◌++◌, ltb, eqb, ne_eqb, Ok}
use Rattle.std.proofs.Math.Decide.{ℕ_discrete}
use Rattle.rules.specs.declared.RamByte.{RamByte}
use Rattle.rules.specs.declared.State.{State}
use Rattle.rules.specs.Answers.{Answer}
use Rattle.rules.specs.declared.Operation.{Operation}
use Rattle.rules.specs.declared.Operation.TheVariants.{Malloc, Free, Change}
use Rattle.rules.specs.Memory.{in_use, layout_of, block_of, blocks_for, heap_block, codes_of, owner_of}
use Rattle.rules.specs.State.{ram_byte}
use Rattle.rules.specs.Free.{segment_blocks}
use Rattle.rules.specs.Operations.{seen_by, rows_of}
use Rattle.laws.proofs.Tests.{by_test}
use Rattle.laws.proofs.Blocks.{blocks_for-holds, blocks_for_less}
use Rattle.promises.specs.History.{Asked, History, ◌then◌, state_of, ram_of, config_of, answer_to}
use Rattle.promises.specs.Ledger.{Segment, entered, replaced_at, struck, made_over, booked, ledger}
use Rattle.promises.specs.Calls.{OpenCall, domain_left, open_calls}
use Rattle.promises.specs.Promise.{◌∈◌, OwnSegment, GivenSegment, GivesUp}
use Rattle.promises.proofs.Row.{replaced_has}
use Rattle.promises.proofs.Says.{done_says, rows_done}
use Rattle.promises.proofs.Sorts.{Booking, enters, strikes, makes_over, leaves, booking, by_answer}
use Rattle.promises.proofs.Shown.{member_blocks, member_owner}
use Rattle.promises.proofs.Holds.{Holds, HoldsAfter}
use Rattle.promises.proofs.Free.{Own, freed_own, changed_own, SegmentAt, segment_at_lem}

-- ---- the lists

entered_keeps : (f g : Segment) (gs : List Segment) → g ∈ gs → g ∈ entered f gs
unfolding entered
entered_keeps f g [] m = absurd m
entered_keeps f g (e ∷ es) (inl q) =
    by_test (ltb f.address e.address) (λ t. rw t (inr (inl q))) (λ t. rw t (inl q))
entered_keeps f g (e ∷ es) (inr m) =
    by_test (ltb f.address e.address) (λ t. rw t (inr (inr m))) (λ t. rw t (inr (entered_keeps f g es m)))

behind : (g : Segment) (xs ys : List Segment) → g ∈ ys → g ∈ xs ++ ys
behind g [] ys m = m
behind g (x ∷ xs) ys m = inr (behind g xs ys m)

replaced_keeps : (a : ℕ) (put : Segment → List Segment) (g : Segment) → g.address ≢ a → (gs : List Segment) → g ∈ gs → g ∈ replaced_at a put gs
unfolding replaced_at
replaced_keeps a put g n [] m = absurd m
replaced_keeps a put g n (e ∷ es) (inl q) =
    rw (ne_eqb e.address a (λ w. n (ap (λ (f : Segment). f.address) q ∙ w))) (inl q)
replaced_keeps a put g n (e ∷ es) (inr m) =
    by_test (eqb e.address a) (λ t. rw t (behind g (put e) es m)) (λ t. rw t (inr (replaced_keeps a put g n es m)))

-- ---- the operations

module _ (s : State) (ram : List ℕ) (gs : List Segment) (ks : List OpenCall) (i : Holds s ram gs ks) (g : Segment) (m : g ∈ gs) (a : RamByte) (v : ℕ)
    (own : Own s (codes_of s.config ram) a v) where
  -- what was asked of a segment's address was asked by its owner, and the value is how many blocks it has
  own_segment : g.address ≡ a.0 → (s.domain ≡ g.owner) × (v ≡ g.blocks)
  own_segment q = (
    sym own.owner
        ∙ ap (λ (x : ℕ). owner_of (layout_of s.config) (codes_of s.config ram (block_of s.config (ram_byte x)))) (sym q)
        ∙ member_owner s.config (codes_of s.config ram) (heap_block s.config) gs i.row i.heap g m,
    sym own.count
        ∙ ap (λ (x : ℕ). segment_blocks s.config (codes_of s.config ram) (block_of s.config (ram_byte x))) (sym q)
        ∙ member_blocks s.config (codes_of s.config ram) (heap_block s.config) gs i.row i.heap g m,
  )

  free_stays : (g.address ≡ a.0 → s.domain ≡ g.owner → v ≡ g.blocks → ⊥) → g ∈ replaced_at a.0 struck gs
  free_stays other = replaced_keeps a.0 struck g (λ q. other q (own_segment q).0 (own_segment q).1) gs m

  -- made over to the domain that has it, it is what it was
  change_stays : (d : ℕ) → (g.address ≡ a.0 → s.domain ≡ g.owner → v ≡ g.blocks → d ≢ g.owner → ⊥) → g ∈ replaced_at a.0 (made_over d) gs
  change_stays d other =
      elim (ℕ_discrete g.address a.0) [
        | no n ↦ replaced_keeps a.0 (made_over d) g n gs m
        | yes q ↦
            elim (ℕ_discrete d g.owner) [
              | no n ↦ absurd (other q (own_segment q).0 (own_segment q).1 n)
              | yes w ↦
                  subst (λ (x : ℕ). g ∈ replaced_at x (made_over d) gs) q
                  (replaced_has s.config (made_over d) g g
                  (inl (λ j. record { address = g.address; blocks = g.blocks; owner = sym w j }))
                  (heap_block s.config) gs i.row m)
            ]
      ]

-- what the rows of what is asked say of it when it is done
pub done_rows : (h : History) (o : Asked) (op : Operation) → o.operation ≡ op → (v : ℕ) → answer_to h o ≡ Ok v
    → rows_of (state_of h) (seen_by in_use (state_of h) (ram_of h)) o.lent op ≡ Ok v
done_rows h o op q v e = rw q at (rows_done (state_of h) (ram_of h) o.lent o.operation v e)

pub segment_stays : (h : History) → HoldsAfter h
    → (g : Segment) → g ∈ ledger h → (o : Asked) → (GivesUp g h o → ⊥) → g ∈ ledger (h then o)
unfolding ledger
segment_stays h i g m o keeps =
    by_answer (λ gs. g ∈ gs) (config_of h) (domain_left (open_calls h)) o.operation (ledger h) m (answer_to h o)
    (done o.operation (booking o.operation) refl)
  where
    done : (op : Operation) → Booking op → o.operation ≡ op → (v : ℕ) → answer_to h o ≡ Ok v
        → g ∈ booked (config_of h) (domain_left (open_calls h)) op (Ok v) (ledger h)
    done op (leaves same) q v e = rw (same (config_of h) (domain_left (open_calls h)) v (ledger h)) m
    done op (enters size) q v e = entered_keeps _ g (ledger h) m
    done op (strikes a) q v e =
        free_stays (state_of h) (ram_of h) (ledger h) (open_calls h) i g m a v
        (freed_own (state_of h) (codes_of (state_of h).config (ram_of h)) a v (done_rows h o (Free a) q v e))
        (λ w own n. keeps (own, done_says _ _ (e ∙ ap Ok n), inl (q ∙ ap (λ (x : ℕ). Free (ram_byte x)) (sym w))))
    done op (makes_over a d) q v e =
        change_stays (state_of h) (ram_of h) (ledger h) (open_calls h) i g m a v
        (changed_own (state_of h) (codes_of (state_of h).config (ram_of h)) a d v (done_rows h o (Change a d) q v e)).0 d
        (λ w own n other. keeps (own, done_says _ _ (e ∙ ap Ok n), inr (d, other, q ∙ ap (λ (x : ℕ). Change (ram_byte x) d) (sym w))))

-- ---- what is given is as large as was asked

entered_has : (g : Segment) (gs : List Segment) → g ∈ entered g gs
unfolding entered
entered_has g [] = inl refl
entered_has g (e ∷ es) = by_test (ltb g.address e.address) (λ t. rw t (inl refl)) (λ t. rw t (inr (entered_has g es)))

pub given_segment : (h : History) → HoldsAfter h → (o : Asked) (size v : ℕ) → o.operation ≡ Malloc size → answer_to h o ≡ Ok v
    → GivenSegment h o size v
unfolding ledger
given_segment h i o size v q e =
    let d : ℕ = domain_left (open_calls h) in
    let g : Segment = record { address = v; blocks = blocks_for (config_of h) size; owner = d } in (
      g,
      subst (λ (op : Operation). g ∈ booked (config_of h) d op (answer_to h o) (ledger h)) (sym q)
          (subst (λ (x : Answer). g ∈ booked (config_of h) d (Malloc size) x (ledger h)) (sym e) (entered_has g (ledger h))),
      refl,
      sym i.current,
      blocks_for-holds (config_of h) size,
      blocks_for_less (config_of h) size,
    )

-- ---- what is given up is the domain's own

module _ (h : History) (i : HoldsAfter h) (o : Asked) (a : RamByte) (n : ℕ) where
  has_own : Own (state_of h) (codes_of (state_of h).config (ram_of h)) a n → OwnSegment h a n
  has_own own =
      let at : SegmentAt (state_of h) (codes_of (state_of h).config (ram_of h)) (ledger h) a =
      segment_at_lem (state_of h) (ram_of h) (ledger h) (open_calls h) i a own.segment in
      (at.segment, at.member, at.address, sym at.count ∙ own.count, sym at.owner ∙ own.owner)

  pub freed_segment : o.operation ≡ Free a → answer_to h o ≡ Ok n → OwnSegment h a n
  freed_segment q e = has_own (freed_own (state_of h) (codes_of (state_of h).config (ram_of h)) a n (done_rows h o (Free a) q n e))

  pub changed_segment : (d : ℕ) → o.operation ≡ Change a d → answer_to h o ≡ Ok n → OwnSegment h a n
  changed_segment d q e =
      has_own (changed_own (state_of h) (codes_of (state_of h).config (ram_of h)) a d n (done_rows h o (Change a d) q n e)).0
