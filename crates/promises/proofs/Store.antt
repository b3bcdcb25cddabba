-- A store keeps the invariant: one that is carried out lands neither in the map nor in the safe stack area.
-- Assumes nothing.
use Rattle.std.proofs.Common.{ℕ, ◌*◌, ◌≤◌, ◌<◌, ◌≡◌, refl, sym, ap, ◌∙◌, inl, inr, ⊎_elim, ◌⊎◌, Bool, true, false, not, ◌&&◌, List, [], ◌∷◌, arith, length, set, length-set, get_or-set_other, ltb, leb, ltb-true, ltb-false, eqb-true, le-leb, lt-ltb, Ok}
use Rattle.std.proofs.Math.Decide.{ℕ_discrete}
use borrow.Author.Tests.{eqb-false, not-false}
use Rattle.rules.specs.declared.RamByte.{RamByte}
use Rattle.rules.specs.declared.Config.{Config}
use Rattle.rules.specs.declared.State.{State}
use Rattle.rules.specs.declared.Operation.TheVariants.{Store}
use Rattle.rules.specs.declared.Refusal.{Refusal}
use Rattle.rules.specs.declared.Refusal.TheVariants.{PastRam, OtherOwner, AboveBound}
use Rattle.rules.specs.Memory.{ram_bytes, layout_of, block_of, heap_block, safe_block, blocks, per_byte, map_bytes, Codes, codes_of, owner_of, trusted, is_domain, is_module}
use Rattle.rules.specs.State.{ram_byte}
use Rattle.rules.specs.Store.{is_trusted, owner_at, of_other, above_bound, store_rows}
use Rattle.rules.specs.Operations.{Lent, operation_of}
use Rattle.laws.proofs.Tests.{by_test, neither}
use Rattle.laws.proofs.Rows.{passed}
use Rattle.laws.proofs.Parts.{set-bytes}
use Rattle.laws.proofs.Codes.{module_lt, domain_module, set_up_code-owner}
use Rattle.laws.proofs.Good.{GoodConfig, safe_block≤blocks, blocks≤places, to_top, in_heap}
use Rattle.promises.specs.Ledger.{Segment}
use Rattle.promises.specs.Calls.{OpenCall}
use Rattle.promises.proofs.Holds.{Holds, Out, Kept, by_rows, same_code, same-slice}

-- a store of a module that is carried out: in its own block, or on the stack up to the bound
pub record OwnStore (s : State) (codes : Codes) (a : RamByte) : Type 0 where
  pub by_module : is_module s.config s.domain ≡ true
  pub from_bot : s.config.bot.0 ≤ a.0
  pub own_block : a.0 < s.config.top.0 → owner_at s.config codes a ≡ s.domain
  pub to_bound : s.config.top.0 ≤ a.0 → a.0 ≤ s.bound.0

-- the table of store
abbrev pub store_tests : State → Codes → RamByte → List (Bool × Refusal)
store_tests s codes a =
    (leb ram_bytes a.0, PastRam)
    ∷ (not (is_trusted s) && of_other s codes a, OtherOwner)
    ∷ (not (is_trusted s) && above_bound s a, AboveBound)
    ∷ []

pub stored : (s : State) (codes : Codes) (a : RamByte) (v : ℕ) → is_domain s.config s.domain ≡ true → store_rows s codes a ≡ Ok v
    → (v ≡ 0) × ((s.domain ≡ trusted) ⊎ OwnStore s codes a)
stored s codes a v d e =
    let (n, last) = passed (store_tests s codes a) (Ok 0) v e in (
      (cc),
      by_test (is_trusted s)
          (λ t. inl (eqb-true _ _ t))
          (λ t.
          let other : of_other s codes a ≡ false = rw t at n.1.0 in
          let above : above_bound s a ≡ false = rw t at n.1.1.0 in
          let (low, own) = neither _ _ other in
          inr (record {
            by_module = domain_module s.config s.domain d (eqb-false s.domain trusted t);
            from_bot = ltb-false _ _ low;
            own_block = λ u. eqb-true _ _ (not-false _ (rw (lt-ltb a.0 s.config.top.0 u) at own));
            to_bound = λ u. ltb-false _ _ (rw (le-leb s.config.top.0 a.0 u) at above);
          })),
    )

module _ (s : State) (ram : List ℕ) (gs : List Segment) (ks : List OpenCall) (h : Holds s ram gs ks) where
  -- a block whose owner is a module lies in the heap
  owned_in_heap : (k : ℕ) → k < blocks s.config → owner_of (layout_of s.config) (codes_of s.config ram k) < trusted
      → (heap_block s.config ≤ k) × (k < safe_block s.config)
  owned_in_heap k l o =
      let c : Config = s.config in
      let outside : (heap_block c ≤ k → safe_block c ≤ k) → ⊥ =
      λ out. omega (arith, ap (owner_of (layout_of c)) (h.other k (omega (arith, blocks≤places h.good.config)) out) ∙ set_up_code-owner c k) in
      by_test (ltb k (heap_block c))
      (λ t. absurd (outside (λ r. absurd (omega (arith, ltb-true k (heap_block c) t)))))
      (λ t.
      by_test (ltb k (safe_block c))
      (λ u. (ltb-false _ _ t, ltb-true _ _ u))
      (λ u. absurd (outside (λ r. ltb-false _ _ u))))

  -- a module's store is no store to the map or the safe stack area
  own_store_place : (a : RamByte) → OwnStore s (codes_of s.config ram) a → Out s.config a.0
  own_store_place a o place =
      let c : Config = s.config in
      let g : GoodConfig c = h.good.config in
      by_test (ltb a.0 c.top.0)
      (λ t.
      let u : a.0 < c.top.0 = ltb-true _ _ t in
      let k : ℕ = block_of c a in
      let fits : k < blocks c = to_top g a o.from_bot u in
      let (l, r) = owned_in_heap k fits (omega (arith, o.own_block u, module_lt c s.domain o.by_module)) in
      let (from, to) = in_heap g a o.from_bot l r in
      elim place [
        | inl m ↦ omega (arith, m.1, from, g.map≤heap)
        | inr m ↦ omega (arith, m.0, to)
      ])
      (λ t. elim place [
        | inl m ↦ omega (arith, ltb-false a.0 c.top.0 t, m.1, g.map≤heap, g.heap≤safe, g.safe≤top)
        | inr m ↦ omega (arith, ltb-false a.0 c.top.0 t, m.1)
      ])

  -- any other store keeps what holds
  store_keeps : (x b : ℕ) → Out s.config x → Holds s (set ram x b) gs ks
  store_keeps x b out =
      let c : Config = s.config in
      let g : GoodConfig c = h.good.config in
      let n : length (set ram x b) ≡ length ram = length-set ram x b in
      let same : (k : ℕ) → k < map_bytes c * per_byte (layout_of c) → codes_of c (set ram x b) k ≡ codes_of c ram k =
      same_code c ram (set ram x b) (λ y m. get_or-set_other ram x y b 0 (λ e. out (inl (rw e at m)))) in
      record {
        good = h.good;
        size = n ∙ h.size;
        row = h.row;
        heap = λ k l u. same k (omega (arith, safe_block≤blocks g, blocks≤places g)) ∙ h.heap k l u;
        other = λ k l q. same k l ∙ h.other k l q;
        frames =
            same-slice c.safe.0 s.safepointer.0 ram (set ram x b)
            (omega (arith, h.size, h.good.safepointer≤top, g.top≤ram)) (omega (arith, n, h.size, h.good.safepointer≤top, g.top≤ram))
            (λ y l u. get_or-set_other ram x y b 0 (λ e. out (inr (omega arith, omega (arith, h.good.safepointer≤top)))))
            ∙ h.frames;
        current = h.current;
        bound = h.bound;
        chain = h.chain;
      }

  pub store_kept : (l : Lent) (a : RamByte) (b : ℕ) → Kept s ram gs ks (Store a b) (operation_of s ram l (Store a b))
  store_kept l a b =
      by_rows s ram gs ks (Store a b) h l
      (λ v e.
      let (zero, who) = stored s (codes_of s.config ram) a v h.good.domain e in
      record {
        holds = λ quiet. store_keeps a.0 b (⊎_elim (quiet a.0 b refl (ap Ok zero)) (own_store_place a) who);
        changes = λ x out n.
            elim (ℕ_discrete a.0 x) [
              | yes q ↦ (b, ap (λ (y : ℕ). Store (ram_byte y) b) q, ap Ok zero)
              | no q ↦ absurd (n (get_or-set_other ram a.0 x b 0 (λ w. q (sym w))))
            ];
        bytes = λ before given. set-bytes ram a.0 b before (given a.0 b refl);
      })
