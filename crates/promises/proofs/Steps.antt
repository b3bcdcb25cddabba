-- Each operation keeps the invariant, so every history that is as assumed has it.
-- Assumes nothing.
use Rattle.std.proofs.Common.{ℕ, ◌≡◌, refl, sym, ◌∙◌, subst, Ok}
use Rattle.rules.specs.declared.Config.{Config}
use Rattle.rules.specs.declared.Operation.{Operation}
use Rattle.rules.specs.declared.Operation.TheVariants.{Store, Call, Return, Malloc, Free, Change}
use Rattle.rules.specs.Memory.{trusted}
use Rattle.rules.specs.Operations.{operation_of}
use Rattle.laws.proofs.Operations.{config_after}
use Rattle.promises.specs.History.{Asked, History, set_up, ◌then◌, after, state_of, ram_of, config_of, domain_of, answer_to, Stores, Bytes, BytesGiven, Assumed, Stretch, none, next}
use Rattle.promises.specs.Ledger.{booked, ledger}
use Rattle.promises.specs.Calls.{domain_left, noted, open_calls}
use Rattle.promises.proofs.Holds.{Holds, Out, Kept, HoldsAfter}
use Rattle.promises.proofs.Says.{says_done, done_says}
use Rattle.promises.proofs.SetUp.{set_up_holds, set_up_bytes}
use Rattle.promises.proofs.Store.{store_kept}
use Rattle.promises.proofs.Call.{call_kept}
use Rattle.promises.proofs.Return.{return_kept}
use Rattle.promises.proofs.Malloc.{malloc_kept}
use Rattle.promises.proofs.Free.{free_kept, change_kept}

-- ---- one operation

-- the configuration is the one that was given, and the invariant holds
abbrev pub Always : History → Type 0
Always h = ((state_of h).config ≡ config_of h) × HoldsAfter h

module _ (h : History) (k : Always h) (o : Asked) where
  pub kept : Kept (state_of h) (ram_of h) (ledger h) (open_calls h) o.operation (operation_of (state_of h) (ram_of h) o.lent o.operation)
  kept = of o.operation
    where
      of : (op : Operation) → Kept (state_of h) (ram_of h) (ledger h) (open_calls h) op (operation_of (state_of h) (ram_of h) o.lent op)
      of (Store a b) = store_kept (state_of h) (ram_of h) (ledger h) (open_calls h) k.1 o.lent a b
      of (Call t site p) = call_kept (state_of h) (ram_of h) (ledger h) (open_calls h) k.1 o.lent t site p
      of Return = return_kept (state_of h) (ram_of h) (ledger h) (open_calls h) k.1 o.lent
      of (Malloc size) = malloc_kept (state_of h) (ram_of h) (ledger h) (open_calls h) k.1 o.lent size
      of (Free a) = free_kept (state_of h) (ram_of h) (ledger h) (open_calls h) k.1 o.lent a
      of (Change a d) = change_kept (state_of h) (ram_of h) (ledger h) (open_calls h) k.1 o.lent a d

  -- any but a trusted store to the map or the safe stack area
  pub next_always : ((x b : ℕ) → Stores o.operation x b → answer_to h o ≡ Ok 0 → domain_of h ≡ trusted → Out (config_of h) x)
      → Always (h then o)
  unfolding after config_of ledger open_calls
  next_always quiet = (
    config_after (state_of h) (ram_of h) o.lent o.operation ∙ k.0,
    subst
        (λ (c : Config). Holds (state_of (h then o)) (ram_of (h then o))
        (booked c (domain_left (open_calls h)) o.operation (answer_to h o) (ledger h)) (noted c o.operation (answer_to h o) (open_calls h)))
        k.0 (kept.holds (λ x b e done d. subst (λ (c : Config). Out c x) (sym k.0) (quiet x b e done d))),
  )

-- ---- every history

pub always : (h : History) → Assumed h → Always h
unfolding after config_of ledger open_calls
always (set_up c ram) a = set_up_holds c ram (says_done _ 0 a)
always (h then o) a = next_always h (always h a.0) o (λ x b e done d. a.1 x (b, e, done_says _ 0 done, d))

-- RAM stays bytes, if set-up was lent bytes and bytes are stored
pub stays_bytes : (h : History) → Assumed h → BytesGiven h → Bytes (ram_of h)
unfolding after
stays_bytes (set_up c ram) a b = set_up_bytes c ram b
stays_bytes (h then o) a b = (kept h (always h a.0) o).bytes (stays_bytes h a.0 b.0) b.1

-- a history is as assumed at each moment of it
pub earlier : (P : History → Asked → Type 0) (from : History) {h : History} → Assumed h → Stretch P from h → Assumed from
earlier P from a none = a
earlier P from a (next before p) = earlier P from a.0 before

-- and has one configuration
pub same_config_lem : (P : History → Asked → Type 0) (from : History) {l : History} → Stretch P from l → config_of l ≡ config_of from
unfolding config_of
same_config_lem P from none = refl
same_config_lem P from (next before p) = same_config_lem P from before
