-- Section 2: set-up.
use Rattle.std.specs.Prelude.{ℕ, zero, suc, ◌*◌, cond, not, List, [], ◌∷◌, length, ltb, eqb, Ok}
use Rattle.rules.specs.declared.Config.{Config}
use Rattle.rules.specs.Answers.{Answer, ◌⇒◌∣◌, Given, give}
use Rattle.rules.specs.declared.Refusal.TheVariants.{WrongSize, BrokenRule}
use Rattle.rules.specs.Memory.{ram_bytes, Order, in_use, Layout, layout_by, layout_of, blocks, heap_block, safe_block, map_bytes, per_byte, set_codes, start_code, later_code, free_code, trusted}
use Rattle.rules.specs.State.{good_config, fresh, zeros}

-- "block 0 gets 15, the other blocks below heap 14; heap blocks 15; the first block of the safe stack area, if there is one, 15
-- and its others 14. If n is odd the unused half is 15."
unfoldable pub set_up_code : Config → ℕ → ℕ
set_up_code c k =
    let m : Layout = layout_of c in
    cond (eqb k 0) (start_code m trusted)
    (cond (ltb k (heap_block c)) (later_code m trusted)
    (cond (ltb k (safe_block c)) (free_code m)
    (cond (eqb k (safe_block c)) (start_code m trusted)
    (cond (ltb k (blocks c)) (later_code m trusted)
    (free_code m)))))

-- those of the n places from k on
unfoldable pub set_up_codes : Config → ℕ → ℕ → List ℕ
set_up_codes c k zero = []
set_up_codes c k (suc n) = set_up_code c k ∷ set_up_codes c (suc k) n

-- "Set-up writes the map and nothing else": every place of its m bytes
unfoldable pub set_up_ram : Layout → Config → List ℕ → List ℕ
set_up_ram m c ram = set_codes m ram 0 (set_up_codes c 0 (map_bytes c * per_byte m))

abbrev pub set_up_answer : Config → List ℕ → Answer
set_up_answer c ram =
    not (eqb (length ram) ram_bytes) ⇒ WrongSize ∣
    not (good_config c) ⇒ BrokenRule ∣
    Ok 0

-- "a refused set-up hands back a state of zeros"
abbrev pub set_up_by : Order → Config → List ℕ → Given
set_up_by o c ram = give (set_up_answer c ram) zeros ram (fresh c) (set_up_ram (layout_by o c) c ram)

-- in the order that is in use
abbrev pub set_up_of : Config → List ℕ → Given
set_up_of = set_up_by in_use
