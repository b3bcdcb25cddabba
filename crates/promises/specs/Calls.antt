-- The open calls, made from the accepted calls and returns, and the bytes of their frames.
-- No axiom.
use Rattle.std.specs.Prelude.{ℕ, ◌-◌, ◌≡◌, cond, List, [], ◌∷◌, ◌++◌, Ok, Err}
use Rattle.rules.specs.declared.RamByte.{RamByte}
use Rattle.rules.specs.declared.FlashWord.{FlashWord}
use Rattle.rules.specs.declared.Config.{Config}
use Rattle.rules.specs.declared.Frame.{Frame}
use Rattle.rules.specs.declared.Frame.TheVariants.{Local, Cross}
use Rattle.rules.specs.declared.Operation.{Operation}
use Rattle.rules.specs.declared.Operation.TheVariants.{Store, Call, Return, Malloc, Free, Change}
use Rattle.rules.specs.Answers.{Answer, Given}
use Rattle.rules.specs.Memory.{ram_bytes, trusted}
use Rattle.rules.specs.Code.{is_local, called_domain}
use Rattle.rules.specs.State.{ram_byte}
use Rattle.rules.specs.Call.{frame_bytes}
use Rattle.promises.specs.History.{History, set_up, ◌then◌, config_of, answer_to, Says}

-- a cross-domain call was made to a domain, with a stack pointer
pub data Kind : Type 0 where
  local : Kind
  cross : (called : ℕ) (pointer : RamByte) → Kind

-- its kind, its return site, and the domain and the stack bound that were there before it
pub record OpenCall : Type 0 where
  pub kind : Kind
  pub site : FlashWord
  pub domain : ℕ
  pub bound : RamByte

-- ---- what they leave: the called domain and the pointer of the newest that is cross-domain, what was there before a local one; with none
-- open, what a fresh state has (section 4)

abbrev pub domain_inside : Kind → ℕ → ℕ
domain_inside local d = d
domain_inside (cross e p) d = e

abbrev pub bound_inside : Kind → RamByte → RamByte
bound_inside local b = b
bound_inside (cross e p) b = p

abbrev pub domain_left : List OpenCall → ℕ
domain_left [] = trusted
domain_left (k ∷ ks) = domain_inside k.kind k.domain

abbrev pub bound_left : List OpenCall → RamByte
bound_left [] = ram_byte (ram_bytes - 1)
bound_left (k ∷ ks) = bound_inside k.kind k.bound

-- ---- made from what was asked and answered. It never looks at the machine.

abbrev pub opened : Config → List OpenCall → FlashWord → FlashWord → RamByte → OpenCall
opened c ks t site p =
    record {
      kind = cond (is_local c t) local (cross (called_domain c t) p);
      site = site;
      domain = domain_left ks;
      bound = bound_left ks;
    }

-- without the newest
abbrev pub older : List OpenCall → List OpenCall
older [] = []
older (k ∷ ks) = ks

-- what an operation and its answer make of the open calls, newest first
abbrev pub noted : Config → Operation → Answer → List OpenCall → List OpenCall
noted c op (Err r) ks = ks
noted c (Call t site p) (Ok v) ks = opened c ks t site p ∷ ks
noted c Return (Ok v) ks = older ks
-- the others leave them
noted c (Store a b) (Ok v) ks = ks
noted c (Malloc size) (Ok v) ks = ks
noted c (Free a) (Ok v) ks = ks
noted c (Change a d) (Ok v) ks = ks

unfoldable pub open_calls : History → List OpenCall
open_calls (set_up c ram) = []
open_calls (h then o) = noted (config_of h) o.operation (answer_to h o) (open_calls h)

-- ---- their frames

abbrev pub frame_for : Kind → OpenCall → Frame
frame_for local k = Local k.site
frame_for (cross e p) k = Cross k.site k.bound k.domain

-- "oldest first"
unfoldable pub frames_of : List OpenCall → List ℕ
frames_of [] = []
frames_of (k ∷ ks) = frames_of ks ++ frame_bytes (frame_for k.kind k)

-- what a return must give, by the calls that are open: refused with 13 if there are none; otherwise the newest one's return site, and
-- the domain and the bound that were there before it
abbrev pub Returns : List OpenCall → Given → Type 0
Returns [] g = Says g.answer 13 0
Returns (k ∷ ks) g = Says g.answer 0 k.site.0 × (g.state.domain ≡ k.domain) × (g.state.bound ≡ k.bound)
