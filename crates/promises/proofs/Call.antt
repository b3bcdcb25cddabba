-- A call keeps the invariant: its frame stands behind those of the calls that were open.
-- Assumes nothing.
use Rattle.std.proofs.Common.{ℕ, ◌+◌, ◌-◌, ◌*◌, ◌≤◌, ◌<◌, ◌≡◌, refl, ap, ◌∙◌, inr, Bool, true, false, not, cond, ◌&&◌, List, [], ◌∷◌, ◌++◌, arith, length, leb, ltb, leb-false, ltb-true, ltb-false, Ok}
use Rattle.std.proofs.Math.Seq.{sets, length-sets}
use borrow.Author.Tests.{not-false}
use Rattle.rules.specs.declared.RamByte.{RamByte}
use Rattle.rules.specs.declared.FlashWord.{FlashWord}
use Rattle.rules.specs.declared.Config.{Config}
use Rattle.rules.specs.declared.State.{State}
use Rattle.rules.specs.declared.Operation.TheVariants.{Call}
use Rattle.rules.specs.declared.Refusal.{Refusal}
use Rattle.rules.specs.declared.Refusal.TheVariants.{SiteOutside, TargetOutside, PastTables, BadEntry, PointerOutside, PassesTop}
use Rattle.rules.specs.Memory.{layout_of, per_byte, map_bytes, codes_of, is_domain}
use Rattle.rules.specs.Code.{table_words, range_of, in_range, is_local, table_word, called_domain, entry_of, good_entry, good_site}
use Rattle.rules.specs.State.{ram_byte, running}
use Rattle.rules.specs.Call.{frame_bytes, frame_of, pointer_outside, is_cross}
use Rattle.rules.specs.Operations.{Lent, operation_of}
use Rattle.laws.proofs.Tests.{by_test, neither}
use Rattle.laws.proofs.Rows.{passed}
use Rattle.laws.proofs.Parts.{get_d_sets_before, get_or-sets-after, sets-bytes, slice-pushed}
use Rattle.laws.proofs.Frames.{Fits, frame_bytes_lem}
use Rattle.laws.proofs.Codes.{called_domain_lem}
use Rattle.laws.proofs.Good.{GoodConfig, domain≤trusted, safe_block≤blocks, blocks≤places, site_fits}
use Rattle.promises.specs.Ledger.{Segment}
use Rattle.promises.specs.Calls.{Kind, local, cross, OpenCall, domain_inside, bound_inside, frame_for, frames_of}
use Rattle.promises.proofs.Holds.{Holds, Kept, Keeps, done_by, plain, by_rows, same_code}

-- the table of call
abbrev pub call_tests : State → List ℕ → FlashWord → FlashWord → RamByte → List (Bool × Refusal)
call_tests s table t site p =
    (not (good_site s.config s.domain site), SiteOutside)
    ∷ (is_local s.config t && not (in_range (range_of s.config s.domain) t), TargetOutside)
    ∷ (is_cross s t && leb table_words (table_word s.config t), PastTables)
    ∷ (is_cross s t && not (good_entry s.config table t), BadEntry)
    ∷ (is_cross s t && pointer_outside s p, PointerOutside)
    ∷ (ltb s.config.top.0 (s.safepointer.0 + length (frame_bytes (frame_of s t site))), PassesTop)
    ∷ []

-- a call of the current domain
abbrev made_here : State → Kind → FlashWord → OpenCall
made_here s kind site = record { kind = kind; site = site; domain = s.domain; bound = s.bound }

module _ (s : State) (ram : List ℕ) (gs : List Segment) (ks : List OpenCall) (h : Holds s ram gs ks) where
  frame_fits : (kind : Kind) (site : FlashWord) → good_site s.config s.domain site ≡ true → Fits (frame_for kind (made_here s kind site))
  frame_fits local site e = omega (arith, site_fits h.good.config s.domain site e)
  frame_fits (cross d p) site e = (
    omega (arith, site_fits h.good.config s.domain site e),
    omega (arith, h.good.bound<ram),
    omega (arith, domain≤trusted h.good),
  )

  push_keeps : (kind : Kind) (site : FlashWord) (d : ℕ) (b : RamByte)
      → let k = made_here s kind site in
      let vs = frame_bytes (frame_for kind k) in
      d ≡ domain_inside kind s.domain → b ≡ bound_inside kind s.bound → good_site s.config s.domain site ≡ true
      → is_domain s.config d ≡ true → s.config.top.0 - 1 ≤ b.0 → b.0 ≤ s.bound.0 → s.safepointer.0 + length vs ≤ s.config.top.0
      → Keeps s ram (running s d b (ram_byte (s.safepointer.0 + length vs))) (sets ram s.safepointer.0 vs) gs (k ∷ ks)
  unfolding frames_of
  push_keeps kind site d b current bound e m from to fits =
      let c : Config = s.config in
      let g : GoodConfig c = h.good.config in
      let vs : List ℕ = frame_bytes (frame_for kind (made_here s kind site)) in
      let n : length (sets ram s.safepointer.0 vs) ≡ length ram = length-sets ram s.safepointer.0 vs in
      let same : (k : ℕ) → k < map_bytes c * per_byte (layout_of c) → codes_of c (sets ram s.safepointer.0 vs) k ≡ codes_of c ram k =
      same_code c ram (sets ram s.safepointer.0 vs)
      (λ x q. get_d_sets_before ram s.safepointer.0 vs x 0
      (omega (arith, q.1, g.map≤heap, g.heap≤safe, h.good.safe≤safepointer))) in (
        record {
          good =
              record {
                config = g;
                domain = m;
                top≤bound = from;
                bound<ram = omega (arith, h.good.bound<ram);
                safe≤safepointer = omega (arith, h.good.safe≤safepointer);
                safepointer≤top = fits;
              };
          size = n ∙ h.size;
          row = h.row;
          heap = λ k l u. same k (omega (arith, safe_block≤blocks g, blocks≤places g)) ∙ h.heap k l u;
          other = λ k l q. same k l ∙ h.other k l q;
          frames =
              slice-pushed c.safe.0 s.safepointer.0 ram vs h.good.safe≤safepointer (omega (arith, h.size, g.top≤ram))
              ∙ ap (λ (xs : List ℕ). xs ++ vs) h.frames;
          current = current;
          bound = bound;
          chain = (
            record {
              domain = h.current;
              bound = h.bound;
              site = e;
              by_domain = h.good.domain;
              bound≤ = rw (← bound) to;
              bound<ram = h.good.bound<ram;
            },
            h.chain,
          );
        },
        λ x out.
            by_test (ltb x s.safepointer.0)
            (λ t. get_d_sets_before ram s.safepointer.0 vs x 0 (ltb-true _ _ t))
            (λ t.
            let l : s.safepointer.0 ≤ x = ltb-false x s.safepointer.0 t in
            get_or-sets-after ram s.safepointer.0 vs x 0
            (by_test (ltb x c.top.0)
            (λ u. absurd (out (inr (omega (arith, h.good.safe≤safepointer), ltb-true _ _ u))))
            (λ u. omega (arith, ltb-false x c.top.0 u)))),
        λ bytes. sets-bytes ram s.safepointer.0 vs bytes (frame_bytes_lem (frame_for kind (made_here s kind site)) (frame_fits kind site e)),
      )

  pub call_kept : (l : Lent) (t site : FlashWord) (p : RamByte) → Kept s ram gs ks (Call t site p) (operation_of s ram l (Call t site p))
  call_kept l t site p =
      by_rows s ram gs ks (Call t site p) h l
      (λ v e.
      let c : Config = s.config in
      let (n, _) = passed (call_tests s l.table t site p) (Ok (cond (is_local c t) t.0 (entry_of c l.table t).0)) v e in
      let good : good_site c s.domain site ≡ true = not-false _ n.0 in
      let fits : s.safepointer.0 + length (frame_bytes (frame_of s t site)) ≤ c.top.0 = ltb-false _ _ n.1.1.1.1.1.0 in
      plain s ram gs ks (Call t site p) (done_by s ram (Call t site p) v)
      (by_test (is_local c t)
      (λ u.
      rw (u, ← h.current, ← h.bound) (push_keeps local site s.domain s.bound refl refl good h.good.domain h.good.top≤bound (omega arith) (rw u at fits)))
      (λ u.
      let past : leb table_words (table_word c t) ≡ false = rw u at n.1.1.0 in
      let pointer : pointer_outside s p ≡ false = rw u at n.1.1.1.1.0 in
      let (low, high) = neither _ _ pointer in
      rw (u, ← h.current, ← h.bound) (push_keeps (cross (called_domain c t) p) site (called_domain c t) p refl refl good
      (called_domain_lem c (table_word c t) (leb-false table_words (table_word c t) past)) (ltb-false _ _ low) (ltb-false _ _ high) (rw u at fits)))))
