-- Demand 3: "Take any sequence of the six operations after an accepted set-up, refused ones included, each given the state and RAM the last
-- one left, where no store by the trusted domain lands in the map or the safe stack area." What is promised then, with the demand's words
-- above each part. `promise` of proofs/Theorem.antt proves it. Lib.antt says how the signs are read.
-- No axiom.
use Rattle.std.specs.Prelude.{ℕ, ◌+◌, ◌*◌, ◌≤◌, ◌<◌, ◌≡◌, true, ◌⊎◌, ◌≢◌, List, [], ◌∷◌, length}
use Rattle.std.proofs.Math.Seq.{slice}
use Rattle.rules.specs.declared.RamByte.{RamByte}
use Rattle.rules.specs.declared.Config.{Config}
use Rattle.rules.specs.declared.Operation.TheVariants.{Return, Malloc, Free, Change}
use Rattle.rules.specs.Memory.{ram_bytes, layout_of, block_bytes, heap_block, safe_block, map_bytes, per_byte, Codes, codes_of, trusted}
use Rattle.rules.specs.State.{ram_byte, good_state}
use Rattle.rules.specs.SetUp.{set_up_code}
use Rattle.promises.specs.History.{Asked, History, ◌then◌, after, state_of, ram_of, config_of, domain_of, answer_to, byte_at, StoredBy, Says, Bytes, BytesGiven, Assumed, Stretch}
use Rattle.promises.specs.Ledger.{Segment, ledger, InSegment, HeapSegment, Apart, code_by, shown}
use Rattle.promises.specs.Calls.{OpenCall, cross, open_calls, domain_left, bound_left, frames_of, Returns}

infix 4 ◌∈◌
-- x is one of a list
abbrev pub ◌∈◌ : {A : Type 0} → A → List A → Type 0
x ∈ [] = ⊥
x ∈ (y ∷ ys) = (x ≡ y) ⊎ (x ∈ ys)

abbrev pub IsHeapBlock : Config → ℕ → Type 0
IsHeapBlock c k = (heap_block c ≤ k) × (k < safe_block c)

-- the codes of the map as it is after h
abbrev pub codes_after : History → Codes
codes_after h = codes_of (config_of h) (ram_of h)

-- at address a starts a segment of n blocks of the domain that is current
abbrev pub OwnSegment : History → RamByte → ℕ → Type 0
OwnSegment h a n = (g : Segment) × (g ∈ ledger h) × (g.address ≡ a.0) × (g.blocks ≡ n) × (g.owner ≡ domain_of h)

-- after o the domain that was current has a segment at address v, of size bytes and less than a block more
abbrev pub GivenSegment : History → Asked → ℕ → ℕ → Type 0
GivenSegment h o size v =
    let bytes = block_bytes (config_of h) in
    (g : Segment) × (g ∈ ledger (h then o)) × (g.address ≡ v) × (g.owner ≡ domain_of h)
    × (size ≤ g.blocks * bytes) × (g.blocks * bytes < size + bytes)

-- the operation asked next gives g up: it is done while g's own domain is current, and frees g or makes it over to another domain
abbrev pub GivesUp : Segment → History → Asked → Type 0
GivesUp g h o =
    (domain_of h ≡ g.owner)
    × Says (answer_to h o) 0 g.blocks
    × ((o.operation ≡ Free (ram_byte g.address)) ⊎ ((e : ℕ) × (e ≢ g.owner) × (o.operation ≡ Change (ram_byte g.address) e)))

-- the operation asked next is a store to x that is carried out while the segment's domain, or the trusted one, is current
abbrev pub StoredByHolder : Segment → ℕ → History → Asked → Type 0
StoredByHolder g x h o = StoredBy h o x g.owner ⊎ StoredBy h o x trusted

-- x is a byte of the run-time stack above the pointer with which the cross-domain call k was made
abbrev pub AbovePointer : OpenCall → ℕ → Type 0
AbovePointer k x = (e : ℕ) × (p : RamByte) × (k.kind ≡ cross e p) × (p.0 < x) × (x < ram_bytes)

pub record Promise (h : History) : Type 0 where
  -- "The map then shows exactly the segments that the accepted requests leave": in address order;
  pub map_shows : shown (config_of h) (codes_after h) ≡ ledger h
  -- so each heap block has the code that these segments give it,
  pub heap_codes : (k : ℕ) → IsHeapBlock (config_of h) k → codes_after h k ≡ code_by (config_of h) (ledger h) k
  -- and each other place of the map the code that set-up wrote
  pub other_codes : (k : ℕ) → k < map_bytes (config_of h) * per_byte (layout_of (config_of h)) → (IsHeapBlock (config_of h) k → ⊥)
      → codes_after h k ≡ set_up_code (config_of h) k
  -- "no two sharing a block": they follow each other, and what has a byte in common is one segment;
  pub apart : Apart (config_of h) (heap_block (config_of h)) (ledger h)
  pub none_shared : (f g : Segment) → f ∈ ledger h → g ∈ ledger h → (x : ℕ)
      → InSegment (config_of h) f x → InSegment (config_of h) g x → f ≡ g
  -- each lies in the heap, none is empty, and their owners are 0 to 6
  pub in_heap : (g : Segment) → g ∈ ledger h → HeapSegment (config_of h) g
  -- only its own domain gives a segment up: it stays, whatever else is asked or refused next
  pub stays : (g : Segment) → g ∈ ledger h → (o : Asked) → (GivesUp g h o → ⊥) → g ∈ ledger (h then o)
  -- a malloc that is accepted gives the domain that asks a segment at the address that is its value, as large as was asked and less than
  -- a block larger
  pub given : (o : Asked) (size v : ℕ) → o.operation ≡ Malloc size → Says (answer_to h o) 0 v → GivenSegment h o size v
  -- a free or a change of owner that is accepted is of a segment of the domain that asks, and its value is how many blocks that has
  pub freed : (o : Asked) (a : RamByte) (n : ℕ) → o.operation ≡ Free a → Says (answer_to h o) 0 n → OwnSegment h a n
  pub changed : (o : Asked) (a : RamByte) (d n : ℕ) → o.operation ≡ Change a d → Says (answer_to h o) 0 n → OwnSegment h a n
  -- "The safe stack holds exactly the accepted calls not yet returned, oldest first": these are the open calls, and the bytes from safe to
  -- the safe pointer are their frames
  pub safe_stack : slice (config_of h).safe.0 (state_of h).safepointer.0 (ram_of h) ≡ frames_of (open_calls h)
  -- and the current domain and the stack bound are those that the open calls leave, the trusted domain and 4095 if there are none
  pub current : domain_of h ≡ domain_left (open_calls h)
  pub bound : (state_of h).bound ≡ bound_left (open_calls h)
  -- "a return is refused only when there are none, and otherwise restores its own call's address, domain and stack bound"
  pub returns : (o : Asked) → o.operation ≡ Return → Returns (open_calls h) (after (h then o))
  -- "While a segment stays with one domain, its bytes change only by stores made when that domain or the trusted one is current": if the
  -- operation asked next changes one, it is such a store, whether the segment was there before or is made by that operation;
  pub segment_step : (g : Segment) (o : Asked) → (g ∈ ledger h) ⊎ (g ∈ ledger (h then o)) → (x : ℕ) → InSegment (config_of h) g x
      → byte_at (h then o) x ≢ byte_at h x → StoredByHolder g x h o
  -- and over any stretch up to now in which the segment was made or stayed, a byte of it is what it was if no such store was made to it
  pub segment_stretch : (g : Segment) (x : ℕ) → InSegment (config_of h) g x → (from : History)
      → Stretch (λ l o. ((g ∈ ledger l) ⊎ (g ∈ ledger (l then o))) × (StoredByHolder g x l o → ⊥)) from h → byte_at h x ≡ byte_at from x
  -- "While a cross-domain call is open, stack bytes above the pointer it was made with change only by trusted stores": if the operation
  -- asked next changes one, it is a trusted store, whether the call was open before or is opened by that operation;
  pub stack_step : (k : OpenCall) (o : Asked) → (k ∈ open_calls h) ⊎ (k ∈ open_calls (h then o)) → (x : ℕ) → AbovePointer k x
      → byte_at (h then o) x ≢ byte_at h x → StoredBy h o x trusted
  -- and over any stretch up to now in which the call was opened or open, whatever calls and returns lie between, such a byte is what it
  -- was if no trusted store was made to it
  pub stack_stretch : (k : OpenCall) (x : ℕ) → AbovePointer k x → (from : History)
      → Stretch (λ l o. ((k ∈ open_calls l) ⊎ (k ∈ open_calls (l then o))) × (StoredBy l o x trusted → ⊥)) from h → byte_at h x ≡ byte_at from x
  -- the configuration stays as it was given, the state stays good, and RAM stays 4,096 bytes; each stays below 256 if RAM held such bytes
  -- before set-up and only such were to be stored
  pub same_config : (state_of h).config ≡ config_of h
  pub good : good_state (state_of h) ≡ true
  pub size : length (ram_of h) ≡ ram_bytes
  pub bytes : BytesGiven h → Bytes (ram_of h)

-- every history that is as assumed keeps the promise
abbrev pub Demand3 : Type 0
Demand3 = (h : History) → Assumed h → Promise h
