-- `hmt_c::in_good_state` meets its contract.
use Rattle.std.proofs.Common.{◌≡◌, false, refl, sym, inl, inr}
use Rattle.std.proofs.lemmas.Bool.{eq-eqb, ne_eqb}
use Rattle.rules.specs.Slot.{wrong_size}
use Rattle.laws.proofs.ToC.{refused_size, refused_zero, refused_state}
use Rattle.hmt_c.proofs.in_good_state.Goals as goal
use Rattle.hmt_c.proofs.in_good_state.Goals.{then-slot-ne0-via-then-slot-ne0, then-slot-ne0-via-else-slot-ne0+then-not-good_state}

pub returns-in_default-as_mut_array : goal.returns-in_default-as_mut_array
returns-in_default-as_mut_array g c =
    inl (λ table op right. rw c.in-Some.ensures.cases.same (refused_size _ _ _ table op right (simp (ne_eqb _ _ c.in_default-as_mut_array.ensures.cases)) refl))

pub invariant_of-good : goal.invariant_of-good
invariant_of-good g c = record { good = rw c.state_in.ensures (sym c.if-not-good_state.ensures) }

pub operation-requires : goal.operation-requires
operation-requires g c = c.requires _ _ c.state_in.ensures

pub returns-then-slot-ne0 : goal.returns-then-slot-ne0
returns-then-slot-ne0 g c =
    let slot = c.in-Some-as_mut_array.ensures.cases in
    let ram = c.in-Some.ensures.cases in
    let sizes : wrong_size c.args.slot.now c.args.ram.now ≡ false = simp (eq-eqb _ _ slot.long, eq-eqb _ _ ram.long) in
    elim c.then-slot-ne0.branch [
      | then-slot-ne0-via-then-slot-ne0 w ↦ inl (λ table op right. rw (w.slot-is, w.ram-is, slot.same, ram.same) (refused_zero _ _ _ table op right sizes (rw slot.same at w.if-slot-ne0.true) refl))
      | then-slot-ne0-via-else-slot-ne0+then-not-good_state w ↦ inl (λ table op right. rw (w.slot-is, w.ram-is, slot.same, ram.same)
          (refused_state _ _ _ table op right sizes (rw slot.same at w.if-slot-ne0.false) (rw slot.same at (sym w.if-not-good_state.ensures)) refl))
    ]

pub returns : goal.returns
returns g c =
    let slot = c.in-Some-as_mut_array.ensures.cases in
    let ram = c.in-Some.ensures.cases in
    inr
    (record {
      ready = record {
        sizes = simp (eq-eqb _ _ slot.long, eq-eqb _ _ ram.long);
        zero = rw slot.same at c.if-slot-ne0.false;
        good = rw slot.same at (sym c.if-not-good_state.ensures);
      };
      good = _;
      is = rw slot.same at c.state_in.ensures;
      lent = _;
      left = _;
      shows = (ram.same, slot.same);
      met = c.operation.ensures;
      leaves = (refl, refl);
    })
