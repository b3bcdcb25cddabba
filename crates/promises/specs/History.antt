-- Histories: a set-up and any sequence of operations after it, refused ones included; and all that is assumed of one.
-- No axiom.
use Rattle.std.specs.Prelude.{ℕ, ◌+◌, ◌≤◌, ◌<◌, ◌≡◌, ◌⊎◌, List, get_or}
use Rattle.rules.specs.declared.Config.{Config}
use Rattle.rules.specs.declared.State.{State}
use Rattle.rules.specs.Answers.{Answer, Given, number_of, value_of}
use Rattle.rules.specs.declared.Operation.{Operation}
use Rattle.rules.specs.declared.Operation.TheVariants.{Store}
use Rattle.rules.specs.Memory.{map_bytes, trusted}
use Rattle.rules.specs.State.{ram_byte}
use Rattle.rules.specs.SetUp.{set_up_of}
use Rattle.rules.specs.Operations.{Lent, operation_of}

-- what is asked of the machine: an operation, and what is lent with it beside RAM. What is said of an operation holds whatever is lent.
pub record Asked : Type 0 where
  pub operation : Operation
  pub lent : Lent

infixl 5 ◌then◌
-- read from left to right: `set_up c ram then o then p` is a set-up, then o was asked, then p
pub data History : Type 0 where
  set_up : (config : Config) (ram : List ℕ) → History
  ◌then◌ : History → Asked → History

-- what the last operation of a history answered, and the machine that it left
unfoldable pub after : History → Given
after (set_up c ram) = set_up_of c ram
after (h then o) = let m = after h in operation_of m.state m.ram o.lent o.operation

abbrev pub state_of : History → State
state_of h = (after h).state

abbrev pub ram_of : History → List ℕ
ram_of h = (after h).ram

-- the configuration that set-up was given
unfoldable pub config_of : History → Config
config_of (set_up c ram) = c
config_of (h then o) = config_of h

-- the domain that is current, and the byte at an address
abbrev pub domain_of : History → ℕ
domain_of h = (state_of h).domain

abbrev pub byte_at : History → ℕ → ℕ
byte_at h x = get_or (ram_of h) x 0

-- an answer as section 6 numbers it: its number is n and its value v; 0 is done
abbrev pub Says : Answer → ℕ → ℕ → Type 0
Says a n v = (number_of a ≡ n) × (value_of a ≡ v)

-- what is answered when o is asked next
abbrev pub answer_to : History → Asked → Answer
answer_to h o = (operation_of (state_of h) (ram_of h) o.lent o.operation).answer

-- an operation is to store byte b to address x
abbrev pub Stores : Operation → ℕ → ℕ → Type 0
Stores op x b = op ≡ Store (ram_byte x) b

-- the operation asked next stores some byte b to address x, and is carried out while domain d is current
abbrev pub StoredBy : History → Asked → ℕ → ℕ → Type 0
StoredBy h o x d = (b : ℕ) × Stores o.operation x b × Says (answer_to h o) 0 0 × (domain_of h ≡ d)

-- address x lies in the map; in the safe stack area
abbrev pub InMap : Config → ℕ → Type 0
InMap c x = (c.bot.0 ≤ x) × (x < c.bot.0 + map_bytes c)

abbrev pub InSafeStack : Config → ℕ → Type 0
InSafeStack c x = (c.safe.0 ≤ x) × (x < c.top.0)

-- All that is assumed: "after an accepted set-up", and "where no store by the trusted domain lands in the map or the safe stack area"
abbrev pub Assumed : History → Type 0
Assumed (set_up c ram) = Says (set_up_of c ram).answer 0 0
Assumed (h then o) = Assumed h × ((x : ℕ) → StoredBy h o x trusted → InMap (config_of h) x ⊎ InSafeStack (config_of h) x → ⊥)

-- each number of a list is a byte; and each was one that set-up was lent, or that was to be stored
abbrev pub Bytes : List ℕ → Type 0
Bytes ram = (i : ℕ) → get_or ram i 0 < 256

abbrev pub BytesGiven : History → Type 0
BytesGiven (set_up c ram) = Bytes ram
BytesGiven (h then o) = BytesGiven h × ((x b : ℕ) → Stores o.operation x b → b < 256)

-- a stretch of a history, from one moment to a later one: P holds of each of its operations and of the history before that operation
pub data Stretch (P : History → Asked → Type 0) (from : History) : History → Type 0 where
  none : Stretch P from from
  next : {h : History} {o : Asked} → Stretch P from h → P h o → Stretch P from (h then o)
