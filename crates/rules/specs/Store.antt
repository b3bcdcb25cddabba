-- Section 5: store.
use Rattle.std.specs.Prelude.{ℕ, Bool, not, ◌&&◌, ◌||◌, List, set, leb, ltb, eqb, Ok}
use Rattle.rules.specs.declared.RamByte.{RamByte}
use Rattle.rules.specs.declared.Config.{Config}
use Rattle.rules.specs.declared.State.{State}
use Rattle.rules.specs.Answers.{Answer, ◌⇒◌∣◌}
use Rattle.rules.specs.declared.Refusal.TheVariants.{PastRam, OtherOwner, AboveBound}
use Rattle.rules.specs.Memory.{ram_bytes, layout_of, block_of, Codes, owner_of, trusted}

abbrev pub is_trusted : State → Bool
is_trusted s = eqb s.domain trusted

-- who owns the block that an address of the protected range lies in
abbrev pub owner_at : Config → Codes → RamByte → ℕ
owner_at c codes a = owner_of (layout_of c) (codes (block_of c a))

-- "below `bot` never; in the protected range only if the block's owner is the current domain"
abbrev pub of_other : State → Codes → RamByte → Bool
of_other s codes a =
    ltb a.0 s.config.bot.0 || ltb a.0 s.config.top.0 && not (eqb (owner_at s.config codes a) s.domain)

-- "from `top` up only if the address is at most the bound"
abbrev pub above_bound : State → RamByte → Bool
above_bound s a = leb s.config.top.0 a.0 && ltb s.bound.0 a.0

-- "Domain 7 may store anywhere in RAM."; "Store's value is 0."
abbrev pub store_rows : State → Codes → RamByte → Answer
store_rows s codes a =
    leb ram_bytes a.0 ⇒ PastRam ∣
    not (is_trusted s) && of_other s codes a ⇒ OtherOwner ∣
    not (is_trusted s) && above_bound s a ⇒ AboveBound ∣
    Ok 0

abbrev pub stored : List ℕ → RamByte → ℕ → List ℕ
stored ram a b = set ram a.0 b
