-- A return finds the frame of the newest open call, gives what that call wants, and keeps the invariant.
-- Assumes nothing.
use Rattle.std.proofs.Common.{ℕ, ◌+◌, ◌-◌, ◌≤◌, ◌<◌, ◌≡◌, refl, sym, ap, ◌∙◌, Bool, false, List, [], ◌∷◌, arith, length, length-append, take, drop, take-take, take_at, eqb, eq-eqb, ne_eqb, le-ltb, Ok, Err}
use Rattle.std.proofs.Math.Seq.{slice, length-slice}
use borrow.Author.Tests.{lt-leb}
use Rattle.rules.specs.declared.State.{State}
use Rattle.rules.specs.declared.Config.{Config}
use Rattle.rules.specs.declared.Frame.{Frame}
use Rattle.rules.specs.declared.Refusal.{Refusal}
use Rattle.rules.specs.declared.Operation.TheVariants.{Return}
use Rattle.rules.specs.declared.Refusal.TheVariants.{NoFrame, DamagedFrame}
use Rattle.rules.specs.Memory.{ram_bytes, in_use}
use Rattle.rules.specs.State.{ram_byte, running}
use Rattle.rules.specs.Call.{frame_bytes}
use Rattle.rules.specs.Return.{read_frame, top_frame, damaged, site_of, returned}
use Rattle.rules.specs.Operations.{Lent, answer_by, operation_of}
use Rattle.laws.proofs.Tests.{or_false}
use Rattle.laws.proofs.Rows.{none_holds}
use Rattle.laws.proofs.Parts.{slice_as}
use Rattle.laws.proofs.Frames.{IsFrame, read_frame-back}
use Rattle.laws.proofs.Codes.{domain_le}
use Rattle.laws.proofs.Good.{good_state-true}
use Rattle.laws.proofs.Operations.{below}
use Rattle.promises.specs.Ledger.{Segment}
use Rattle.promises.specs.Calls.{Kind, local, cross, OpenCall, domain_inside, bound_inside, frame_for, frames_of, Returns}
use Rattle.promises.proofs.Holds.{Link, Holds, Kept, plain}

-- the table of return
abbrev pub return_tests : State → Frame → List (Bool × Refusal)
return_tests s frame = (eqb s.safepointer.0 s.config.safe.0, NoFrame) ∷ (damaged s frame, DamagedFrame) ∷ []

-- ---- a frame by the call's kind

frame_some : (kind : Kind) (k : OpenCall) → 0 < length (frame_bytes (frame_for kind k))
frame_some local k = omega arith
frame_some (cross f p) k = omega arith

site_of_lem : (kind : Kind) (k : OpenCall) → site_of (frame_for kind k) ≡ k.site.0
site_of_lem local k = refl
site_of_lem (cross f p) k = refl

module _ (s : State) (k : OpenCall) (ks : List OpenCall) (link : Link s.config k ks) where
  is_frame : (kind : Kind) → IsFrame (frame_for kind k)
  is_frame local = tt
  is_frame (cross f p) = domain_le s.config k.domain link.by_domain

  sound : (kind : Kind) → s.domain ≡ domain_inside kind k.domain → s.bound.0 ≤ k.bound.0 → damaged s (frame_for kind k) ≡ false
  sound local current bound = rw (current, link.site)
  sound (cross f p) current bound =
      rw link.site
      (or_false _ _ (le-ltb k.bound.0 s.bound.0 bound) (lt-leb ram_bytes k.bound.0 link.bound<ram))

  -- the state as it was before the call, the frame gone
  abbrev before : Kind → State
  before kind = running s k.domain k.bound (ram_byte (s.safepointer.0 - length (frame_bytes (frame_for kind k))))

  back : (kind : Kind) → s.domain ≡ domain_inside kind k.domain → s.bound ≡ bound_inside kind k.bound → returned s (frame_for kind k) ≡ before kind
  back local current bound =
      λ i. running s (current i) (bound i) (ram_byte (s.safepointer.0 - 3))
  back (cross f p) current bound = refl

-- ---- no call is open

module _ (s : State) (ram : List ℕ) (gs : List Segment) (h : Holds s ram gs []) where
  nothing_held : s.safepointer.0 ≡ s.config.safe.0
  unfolding frames_of
  nothing_held =
      let l : length (slice s.config.safe.0 s.safepointer.0 ram) ≡ s.safepointer.0 - s.config.safe.0 =
      length-slice s.config.safe.0 s.safepointer.0 ram (omega (arith, h.size, h.good.safepointer≤top, h.good.config.top≤ram)) in
      omega (arith, l, ap length h.frames, h.good.safe≤safepointer)

  no_frame : (l : Lent) → answer_by in_use s ram l Return ≡ Err NoFrame
  no_frame l =
      below s ram l Return refl h.size (good_state-true s h.good) ∙ (rw (eq-eqb s.safepointer.0 s.config.safe.0 nothing_held))

-- ---- a call is open

module _ (s : State) (ram : List ℕ) (gs : List Segment) (k : OpenCall) (ks : List OpenCall) (h : Holds s ram gs (k ∷ ks)) where
  abbrev bytes : List ℕ
  bytes = frame_bytes (frame_for k.kind k)

  -- the bound that comes back is no lower
  bound≤ : s.bound.0 ≤ k.bound.0
  bound≤ = rw h.bound h.chain.0.bound≤

  held : s.safepointer.0 - s.config.safe.0 ≡ length (frames_of ks) + length bytes
  unfolding frames_of
  held =
      sym (length-slice s.config.safe.0 s.safepointer.0 ram (omega (arith, h.size, h.good.safepointer≤top, h.good.config.top≤ram)))
      ∙ ap length h.frames ∙ length-append (frames_of ks) bytes

  top_frame_lem : top_frame s ram ≡ frame_for k.kind k
  unfolding frames_of
  top_frame_lem = ap read_frame h.frames ∙ read_frame-back (frame_for k.kind k) (is_frame s k ks h.chain.0 k.kind) (frames_of ks)

  returns_site : (l : Lent) → answer_by in_use s ram l Return ≡ Ok k.site.0
  returns_site l =
      below s ram l Return refl h.size (good_state-true s h.good)
      ∙ none_holds (return_tests s (top_frame s ram)) (Ok (site_of (top_frame s ram))) (
        ne_eqb s.safepointer.0 s.config.safe.0 (λ e. omega (arith, held, frame_some k.kind k)),
        (ap (damaged s) top_frame_lem ∙ sound s k ks h.chain.0 k.kind h.current bound≤, tt),
      )
      ∙ ap Ok (ap site_of top_frame_lem ∙ site_of_lem k.kind k)

  returns_state : returned s (top_frame s ram) ≡ before s k ks h.chain.0 k.kind
  returns_state = ap (returned s) top_frame_lem ∙ back s k ks h.chain.0 k.kind h.current h.bound

  pop_keeps : Holds (before s k ks h.chain.0 k.kind) ram gs ks
  unfolding frames_of
  pop_keeps =
      let c : Config = s.config in
      let n : ℕ = length bytes in
      let q : s.safepointer.0 - n - c.safe.0 ≡ length (frames_of ks) = omega (arith, held) in
      record {
        good =
            record {
              config = h.good.config;
              domain = h.chain.0.by_domain;
              top≤bound = omega (arith, h.good.top≤bound, bound≤);
              bound<ram = h.chain.0.bound<ram;
              safe≤safepointer = omega (arith, held, h.good.safe≤safepointer, frame_some k.kind k);
              safepointer≤top = omega (arith, h.good.safepointer≤top);
            };
        size = h.size;
        row = h.row;
        heap = h.heap;
        other = h.other;
        frames =
            slice_as c.safe.0 (s.safepointer.0 - n) ram
            ∙ sym (take-take (s.safepointer.0 - n - c.safe.0) (s.safepointer.0 - c.safe.0) (drop c.safe.0 ram) (omega arith))
            ∙ ap (take (s.safepointer.0 - n - c.safe.0)) (sym (slice_as c.safe.0 s.safepointer.0 ram) ∙ h.frames)
            ∙ take_at (frames_of ks) bytes (s.safepointer.0 - n - c.safe.0) (sym q);
        current = h.chain.0.domain;
        bound = h.chain.0.bound;
        chain = h.chain.1;
      }

-- ---- both

pub return_gives : (s : State) (ram : List ℕ) (gs : List Segment) (ks : List OpenCall) → Holds s ram gs ks → (l : Lent)
    → Returns ks (operation_of s ram l Return)
return_gives s ram gs [] h l = rw (no_frame s ram gs h l) (refl, refl)
return_gives s ram gs (k ∷ ks) h l =
    rw (returns_site s ram gs k ks h l)
    ((refl, refl), ap (λ (t : State). t.domain) (returns_state s ram gs k ks h), ap (λ (t : State). t.bound) (returns_state s ram gs k ks h))

pub return_kept : (s : State) (ram : List ℕ) (gs : List Segment) (ks : List OpenCall) → Holds s ram gs ks → (l : Lent)
    → Kept s ram gs ks Return (operation_of s ram l Return)
return_kept s ram gs [] h l =
    rw (no_frame s ram gs h l)
    (plain s ram gs [] Return (record { answer = Err NoFrame; state = s; ram = ram }) (h, λ x out. refl, λ b. b))
return_kept s ram gs (k ∷ ks) h l =
    let s' : State = before s k ks h.chain.0 k.kind in
    rw (returns_site s ram gs k ks h l, returns_state s ram gs k ks h)
    (plain s ram gs (k ∷ ks) Return (record { answer = Ok k.site.0; state = s'; ram = ram })
    (pop_keeps s ram gs k ks h, λ x out. refl, λ b. b))
