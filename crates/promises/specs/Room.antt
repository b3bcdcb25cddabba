-- Demand 2: malloc is refused for lack of room only if there is none, and what was freed is room again.
-- The theorems are `room_found`, `freed_room` and `room_stays` of proofs/Room.antt.
-- No axiom.
use Rattle.std.specs.Prelude.{ℕ, ◌+◌, ◌*◌, ◌≤◌, ◌<◌, ◌≡◌, true, ◌↔◌, ◌≢◌, List, length}
use Rattle.rules.specs.declared.RamByte.{RamByte}
use Rattle.rules.specs.declared.Config.{Config}
use Rattle.rules.specs.declared.State.{State}
use Rattle.rules.specs.declared.Operation.TheVariants.{Malloc, Free}
use Rattle.rules.specs.Memory.{ram_bytes, block_bytes, block_of, blocks_for, Codes, codes_of, is_free, trusted}
use Rattle.rules.specs.State.{good_state}
use Rattle.rules.specs.Operations.{Lent, operation_of}
use Rattle.promises.specs.History.{Asked, History, ◌then◌, config_of, domain_of, answer_to, Says, Assumed, Stretch}
use Rattle.promises.specs.Promise.{codes_after}

-- the n blocks from k on are free heap blocks
abbrev pub FreeBlocks : Config → Codes → ℕ → ℕ → Type 0
FreeBlocks c codes k n = (j : ℕ) → k ≤ j → j < k + n → is_free c codes j ≡ true

-- malloc by a module, of more than 0 bytes, is refused with 17 if and only if nowhere enough free heap blocks stand in a row
abbrev pub RoomFound : Type 0
RoomFound =
    (s : State) (ram : List ℕ) (l : Lent) (size : ℕ)
    → good_state s ≡ true → length ram ≡ ram_bytes → s.domain ≢ trusted → 0 < size
    → Says (operation_of s ram l (Malloc size)).answer 17 0
    ↔ ((k : ℕ) → FreeBlocks s.config (codes_of s.config ram) k (blocks_for s.config size) → ⊥)

-- after an accepted free of n blocks those blocks are free, and malloc by any module, of more than 0 and up to as many bytes as they have,
-- is accepted
abbrev pub FreedRoom : Type 0
FreedRoom =
    (s : State) (ram : List ℕ) (l : Lent) (a : RamByte) (n : ℕ)
    → let freed = operation_of s ram l (Free a) in
    Says freed.answer 0 n
    → FreeBlocks s.config (codes_of s.config freed.ram) (block_of s.config a) n
    × ((next : State) (m : Lent) (size : ℕ)
    → next.config ≡ s.config → good_state next ≡ true → next.domain ≢ trusted → 0 < size → size ≤ n * block_bytes s.config
    → (v : ℕ) × Says (operation_of next freed.ram m (Malloc size)).answer 0 v)

-- and both are so after any operations that follow the free, of whatever domains, as long as no malloc is accepted and demand 3's premise
-- is kept: no trusted store lands in the map or the safe stack area (`Assumed`)
abbrev pub RoomStays : Type 0
RoomStays =
    (h : History) (o : Asked) (a : RamByte) (n : ℕ) → o.operation ≡ Free a → Says (answer_to h o) 0 n
    → (l : History) → Assumed l
    → Stretch (λ k p. (size v : ℕ) → p.operation ≡ Malloc size → Says (answer_to k p) 0 v → ⊥) (h then o) l
    → FreeBlocks (config_of l) (codes_after l) (block_of (config_of l) a) n
    × (domain_of l ≢ trusted → (p : Asked) (size : ℕ) → p.operation ≡ Malloc size → 0 < size → size ≤ n * block_bytes (config_of l)
    → (v : ℕ) × Says (answer_to l p) 0 v)
