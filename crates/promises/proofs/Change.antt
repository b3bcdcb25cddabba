-- Which bytes an operation may change, and who is then current: bytes of a segment, and bytes of the stack above the pointer of an open
-- cross-domain call; for one operation, and for a stretch of a history.
-- Assumes nothing.
use Rattle.std.proofs.Common.{ℕ, ◌≤◌, ◌<◌, ◌≡◌, refl, sym, ap, ◌∙◌, subst, ◌⊎◌, inl, inr, ⊎_elim, ◌≢◌, List, [], ◌∷◌, arith, Ok, Err}
use Rattle.std.proofs.Math.Decide.{ℕ_discrete}
use Rattle.rules.specs.declared.RamByte.{RamByte}
use Rattle.rules.specs.declared.Config.{Config}
use Rattle.rules.specs.declared.State.{State}
use Rattle.rules.specs.Answers.{Answer}
use Rattle.rules.specs.declared.Operation.{Operation}
use Rattle.rules.specs.declared.Operation.TheVariants.{Store}
use Rattle.rules.specs.Memory.{layout_of, block_of, heap_block, codes_of, owner_of, trusted}
use Rattle.rules.specs.State.{ram_byte}
use Rattle.rules.specs.Store.{owner_at, store_rows}
use Rattle.laws.proofs.Blocks.{start_add, start_from, block_from, block_before}
use Rattle.laws.proofs.Codes.{module_domain, domain_at, owner_of-later}
use Rattle.laws.proofs.Good.{GoodConfig, in_heap}
use Rattle.promises.specs.History.{Asked, History, ◌then◌, after, state_of, ram_of, config_of, domain_of, answer_to, byte_at, Stores, StoredBy, Assumed, Stretch, none, next}
use Rattle.promises.specs.Ledger.{Segment, booked, ledger, first_block, end_block, InSegment, HeapSegment}
use Rattle.promises.specs.Calls.{Kind, cross, OpenCall, bound_inside, domain_left, bound_left, noted, open_calls}
use Rattle.promises.specs.Promise.{◌∈◌, StoredByHolder, AbovePointer}
use Rattle.promises.proofs.Says.{says_done, done_says, rows_done}
use Rattle.promises.proofs.Sorts.{NoStore, as_store}
use Rattle.promises.proofs.Row.{row_in_heap, member_one}
use Rattle.promises.proofs.Shown.{member_owner, member_later}
use Rattle.promises.proofs.Holds.{Chain, Holds, Out}
use Rattle.promises.proofs.Store.{OwnStore, stored}
use Rattle.promises.proofs.Steps.{Always, kept, next_always}

-- the bound is at most the pointer of each open cross-domain call
chain_bound : (c : Config) (ks : List OpenCall) → Chain c ks
    → (k : OpenCall) → k ∈ ks → (d : ℕ) (p : RamByte) → k.kind ≡ cross d p → (bound_left ks).0 ≤ p.0
chain_bound c [] r k m d p e = absurd m
chain_bound c (j ∷ js) r k (inl q) d p e =
    let left : bound_inside j.kind j.bound ≡ p =
    ap (λ (kind : Kind). bound_inside kind j.bound) (sym (ap (λ (l : OpenCall). l.kind) q) ∙ e) in
    omega (arith, ap (λ (a : RamByte). a.0) left)
chain_bound c (j ∷ js) r k (inr m) d p e =
    omega (arith, r.0.bound≤, ap (λ (a : RamByte). a.0) r.0.bound, chain_bound c js r.1 k m d p e)

-- ---- where the bytes of a segment lie, and those above the pointer of an open cross-domain call

module _ (s : State) (ram : List ℕ) (gs : List Segment) (ks : List OpenCall) (i : Holds s ram gs ks) where
  segment_block : (g : Segment) → g ∈ gs → (a : RamByte) → InSegment s.config g a.0
      → (first_block s.config g ≤ block_of s.config a) × (block_of s.config a < end_block s.config g)
  segment_block g m a q =
      let c : Config = s.config in
      let u : HeapSegment c g = row_in_heap c (heap_block c) gs i.row g m in (
        block_from c a (first_block c g) (omega (arith, u.at_block, q.0)),
        block_before c a (end_block c g) (omega (arith, u.at_block, q.0, start_from c (first_block c g)))
            (omega (arith, u.at_block, q.1, start_add c (first_block c g) g.blocks)),
      )

  shared : (f g : Segment) → f ∈ gs → g ∈ gs → (x : ℕ) → InSegment s.config f x → InSegment s.config g x → f ≡ g
  shared f g m n x p q =
      let (fl, fu) = segment_block f m (ram_byte x) p in
      let (gl, gu) = segment_block g n (ram_byte x) q in
      member_one s.config (heap_block s.config) gs i.row f g m n (block_of s.config (ram_byte x)) fl fu gl gu

  owner_of_lem : (g : Segment) → g ∈ gs → (a : RamByte) → InSegment s.config g a.0 → owner_at s.config (codes_of s.config ram) a ≡ g.owner
  owner_of_lem g m a q =
      let c : Config = s.config in
      let k : ℕ = block_of c a in
      let (l, u) = segment_block g m a q in
      elim (ℕ_discrete (first_block c g) k) [
        | yes e ↦
            ap (λ (j : ℕ). owner_of (layout_of c) (codes_of c ram j)) (sym e)
            ∙ member_owner c (codes_of c ram) (heap_block c) gs i.row i.heap g m
        | no n ↦
            ap (owner_of (layout_of c)) (member_later c (codes_of c ram) (heap_block c) gs i.row i.heap g m k (omega arith) u)
            ∙ owner_of-later (layout_of c) g.owner
            (domain_at c g.owner (module_domain c g.owner (row_in_heap c (heap_block c) gs i.row g m).by_module))
      ]

  place_of : (g : Segment) → g ∈ gs → (a : RamByte) → InSegment s.config g a.0 → (s.config.heap.0 ≤ a.0) × (a.0 < s.config.safe.0)
  place_of g m a q =
      let c : Config = s.config in
      let u : HeapSegment c g = row_in_heap c (heap_block c) gs i.row g m in
      let (l, r) = segment_block g m a q in
      in_heap i.good.config a (omega (arith, u.at_block, q.0, start_from c (first_block c g)))
      (omega (arith, u.from_heap)) (omega (arith, u.to_safe))

  above_bound_lem : (k : OpenCall) → k ∈ ks → (x : ℕ) → AbovePointer k x → (s.bound.0 < x) × (s.config.top.0 ≤ x)
  above_bound_lem k m x (d, p, e, above, inside) =
      let b : s.bound.0 ≤ p.0 = rw i.bound (chain_bound s.config ks i.chain k m d p e) in
      (omega arith, omega (arith, i.good.top≤bound))

-- ---- the same of a history

module _ (h : History) (k : Always h) where
  -- the configuration that was given is the state's
  here : (g : Segment) (x : ℕ) → InSegment (config_of h) g x → InSegment (state_of h).config g x
  here g x q = subst (λ (c : Config). InSegment c g x) (sym k.0) q

  pub none_shared_lem : (f g : Segment) → f ∈ ledger h → g ∈ ledger h → (x : ℕ) → InSegment (config_of h) f x → InSegment (config_of h) g x → f ≡ g
  none_shared_lem f g m n x p q = shared (state_of h) (ram_of h) (ledger h) (open_calls h) k.1 f g m n x (here f x p) (here g x q)

  pub segment_owner : (g : Segment) → g ∈ ledger h → (x : ℕ) → InSegment (config_of h) g x
      → owner_at (state_of h).config (codes_of (state_of h).config (ram_of h)) (ram_byte x) ≡ g.owner
  segment_owner g m x q = owner_of_lem (state_of h) (ram_of h) (ledger h) (open_calls h) k.1 g m (ram_byte x) (here g x q)

  pub segment_place : (g : Segment) → g ∈ ledger h → (x : ℕ) → InSegment (config_of h) g x
      → ((state_of h).config.heap.0 ≤ x) × (x < (state_of h).config.safe.0)
  segment_place g m x q = place_of (state_of h) (ram_of h) (ledger h) (open_calls h) k.1 g m (ram_byte x) (here g x q)

  segment_out : (g : Segment) → g ∈ ledger h → (x : ℕ) → InSegment (config_of h) g x → Out (config_of h) x
  segment_out g m x q =
      let good : GoodConfig (state_of h).config = k.1.good.config in
      let (from, to) = segment_place g m x q in
      subst (λ (c : Config). Out c x) k.0
      (λ place. elim place [
        | inl p ↦ omega (arith, p.1, from, good.map≤heap)
        | inr p ↦ omega (arith, p.0, to)
      ])

  stack_out : (c : OpenCall) → c ∈ open_calls h → (x : ℕ) → AbovePointer c x → Out (config_of h) x
  stack_out c m x q =
      let good : GoodConfig (state_of h).config = k.1.good.config in
      let (_, t) = above_bound_lem (state_of h) (ram_of h) (ledger h) (open_calls h) k.1 c m x q in
      subst (λ (c : Config). Out c x) k.0
      (λ place. elim place [
        | inl p ↦ omega (arith, p.1, good.map≤heap, good.heap≤safe, good.safe≤top)
        | inr p ↦ omega (arith, p.1)
      ])

-- ---- one operation

-- a store leaves both ghosts
booked_store : (c : Config) (d : ℕ) (a : RamByte) (b : ℕ) (x : Answer) (gs : List Segment) → booked c d (Store a b) x gs ≡ gs
booked_store c d a b (Ok v) gs = refl
booked_store c d a b (Err r) gs = refl

noted_store : (c : Config) (a : RamByte) (b : ℕ) (x : Answer) (ks : List OpenCall) → noted c (Store a b) x ks ≡ ks
noted_store c a b (Ok v) ks = refl
noted_store c a b (Err r) ks = refl

module _ (h : History) (k : Always h) (o : Asked) where
  abbrev Changed : ℕ → Type 0
  Changed x = byte_at (h then o) x ≢ byte_at h x

  -- outside the map and the safe stack area bytes are changed by stores alone
  touched : (x : ℕ) → Out (config_of h) x → Changed x → StoredBy h o x (domain_of h)
  unfolding after
  touched x out n =
      let (b, e, done) = (kept h k o).changes x (subst (λ (c : Config). Out c x) (sym k.0) out) n in
      (b, e, done_says _ 0 done, refl)

  -- by the trusted domain, or by a module that may
  by_whom : (x d : ℕ) → StoredBy h o x d
      → (domain_of h ≡ trusted) ⊎ OwnStore (state_of h) (codes_of (state_of h).config (ram_of h)) (ram_byte x)
  by_whom x d (b, e, done, _) =
      let rows : store_rows (state_of h) (codes_of (state_of h).config (ram_of h)) (ram_byte x) ≡ Ok 0 =
      rw e at (rows_done (state_of h) (ram_of h) o.lent o.operation 0 (says_done (answer_to h o) 0 done)) in
      (stored (state_of h) (codes_of (state_of h).config (ram_of h)) (ram_byte x) 0 k.1.good.domain rows).1

  -- what is no store keeps what holds
  after_other : NoStore o.operation → Always (h then o)
  after_other n = next_always h k o (λ x b e. absurd (n x b e))

  -- ---- a segment's bytes

  held_step : (g : Segment) → g ∈ ledger h → (x : ℕ) → InSegment (config_of h) g x → Changed x → StoredByHolder g x h o
  held_step g m x q n =
      let (from, to) = segment_place h k g m x q in
      let w : StoredBy h o x (domain_of h) = touched x (segment_out h k g m x q) n in
      ⊎_elim
      (λ t. inr (subst (λ (d : ℕ). StoredBy h o x d) t w))
      (λ own.
      let d : domain_of h ≡ g.owner =
      sym (own.own_block (omega (arith, to, k.1.good.config.safe≤top))) ∙ segment_owner h k g m x q in
      inl (subst (λ (d : ℕ). StoredBy h o x d) d w))
      (by_whom x (domain_of h) w)

  -- one that the operation makes lies where no operation but a store changes anything
  made_out : NoStore o.operation → (g : Segment) → g ∈ ledger (h then o) → (x : ℕ) → InSegment (config_of h) g x → Out (config_of h) x
  unfolding config_of
  made_out n g m x q = segment_out (h then o) (after_other n) g m x q

  after_store : (g : Segment) (y b : ℕ) → Stores o.operation y b → g ∈ ledger (h then o) → g ∈ ledger h
  unfolding ledger
  after_store g y b e m =
      subst (λ (gs : List Segment). g ∈ gs) (booked_store (config_of h) (domain_left (open_calls h)) (ram_byte y) b (answer_to h o) (ledger h))
      (subst (λ (op : Operation). g ∈ booked (config_of h) (domain_left (open_calls h)) op (answer_to h o) (ledger h)) e m)

  same_by_other : NoStore o.operation → (x : ℕ) → Out (config_of h) x → Changed x → ⊥
  same_by_other s x out n = let (b, e, _, _) = touched x out n in s x b e

  pub segment_step_lem : (g : Segment) → (g ∈ ledger h) ⊎ (g ∈ ledger (h then o)) → (x : ℕ) → InSegment (config_of h) g x
      → Changed x → StoredByHolder g x h o
  segment_step_lem g (inl m) x q n = held_step g m x q n
  segment_step_lem g (inr m) x q n =
      ⊎_elim
      (λ w. held_step g (after_store g w.0 w.1 w.2 m) x q n)
      (λ s. absurd (same_by_other s x (made_out s g m x q) n))
      (as_store o.operation)

  -- ---- stack bytes above the pointer of an open cross-domain call

  open_step : (c : OpenCall) → c ∈ open_calls h → (x : ℕ) → AbovePointer c x → Changed x → StoredBy h o x trusted
  open_step c m x q n =
      let (above, t) = above_bound_lem (state_of h) (ram_of h) (ledger h) (open_calls h) k.1 c m x q in
      let w : StoredBy h o x (domain_of h) = touched x (stack_out h k c m x q) n in
      ⊎_elim
      (λ d. subst (λ (d : ℕ). StoredBy h o x d) d w)
      (λ own. absurd (omega (arith, own.to_bound t)))
      (by_whom x (domain_of h) w)

  opened_out : NoStore o.operation → (c : OpenCall) → c ∈ open_calls (h then o) → (x : ℕ) → AbovePointer c x → Out (config_of h) x
  unfolding config_of
  opened_out n c m x q = stack_out (h then o) (after_other n) c m x q

  still_open : (c : OpenCall) (y b : ℕ) → Stores o.operation y b → c ∈ open_calls (h then o) → c ∈ open_calls h
  unfolding open_calls
  still_open c y b e m =
      subst (λ (ks : List OpenCall). c ∈ ks) (noted_store (config_of h) (ram_byte y) b (answer_to h o) (open_calls h))
      (subst (λ (op : Operation). c ∈ noted (config_of h) op (answer_to h o) (open_calls h)) e m)

  pub stack_step_lem : (c : OpenCall) → (c ∈ open_calls h) ⊎ (c ∈ open_calls (h then o)) → (x : ℕ) → AbovePointer c x
      → Changed x → StoredBy h o x trusted
  stack_step_lem c (inl m) x q n = open_step c m x q n
  stack_step_lem c (inr m) x q n =
      ⊎_elim
      (λ w. open_step c (still_open c w.0 w.1 w.2 m) x q n)
      (λ s. absurd (same_by_other s x (opened_out s c m x q) n))
      (as_store o.operation)

-- ---- a stretch: what no operation of it changes stays

pub stretch_same : (P : History → Asked → Type 0) (x : ℕ) (from : History) (c : Config)
    → ((l : History) (o : Asked) → config_of l ≡ c → Assumed l → P l o → byte_at (l then o) x ≡ byte_at l x)
    → {h : History} → config_of h ≡ c → Assumed h → Stretch P from h → byte_at h x ≡ byte_at from x
unfolding config_of
stretch_same P x from c stays e a none = refl
stretch_same P x from c stays e a (next {h = h} {o = o} before p) =
    stays h o e a.0 p ∙ stretch_same P x from c stays e a.0 before

-- a byte whose change would need what did not happen
pub unchanged : {W : Type 0} (x y : ℕ) → (x ≢ y → W) → (W → ⊥) → x ≡ y
unchanged x y needs never = elim (ℕ_discrete x y) [ yes e ↦ e | no n ↦ absurd (never (needs n)) ]
