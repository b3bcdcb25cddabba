-- RAM after set-up: as long as before, bytes if it was bytes, and at every place of the map the code that set-up writes there.
-- Assumes nothing.
use Rattle.std.proofs.Common.{ℕ, ◌+◌, ◌*◌, ◌<◌, ◌≡◌, ◌∙◌, List, zero-add, arith, length, get_or}
use Rattle.rules.specs.declared.Config.{Config}
use Rattle.rules.specs.Memory.{ram_bytes, layout_of, per_byte, map_bytes, code_of}
use Rattle.rules.specs.SetUp.{set_up_code, set_up_codes, set_up_ram}
use Rattle.laws.proofs.Map.{Bytes, length-set_codes, codes_inside, set_codes-bytes}
use Rattle.laws.proofs.Codes.{set_up_codes-below, length-set_up_codes, get_or-set_up_codes}
use Rattle.laws.proofs.Good.{GoodConfig, place<heap}

module _ (c : Config) (ram : List ℕ) where
  pub length-set_up_ram : length (set_up_ram (layout_of c) c ram) ≡ length ram
  unfolding set_up_ram
  length-set_up_ram = length-set_codes (layout_of c) ram 0 (set_up_codes c 0 (map_bytes c * per_byte (layout_of c)))

  pub set_up_ram-bytes : Bytes ram → Bytes (set_up_ram (layout_of c) c ram)
  unfolding set_up_ram
  set_up_ram-bytes = set_codes-bytes (layout_of c) ram 0 (set_up_codes c 0 (map_bytes c * per_byte (layout_of c))) (set_up_codes-below c 0 (map_bytes c * per_byte (layout_of c)))

  pub set_up_ram_code : GoodConfig c → length ram ≡ ram_bytes → (k : ℕ) → k < map_bytes c * per_byte (layout_of c)
      → code_of (layout_of c) (set_up_ram (layout_of c) c ram) k ≡ set_up_code c k
  unfolding set_up_ram
  set_up_ram_code g n k l =
      let m : ℕ = map_bytes c * per_byte (layout_of c) in
      let inside : code_of (layout_of c) (set_up_ram (layout_of c) c ram) (0 + k) ≡ get_or (set_up_codes c 0 m) k 0 =
      codes_inside (layout_of c) ram 0 (set_up_codes c 0 m) k (set_up_codes-below c 0 m) (rw length-set_up_codes l)
      (rw (zero-add k, n) (omega (arith, place<heap g l, g.heap≤safe, g.safe≤top, g.top≤ram))) in
      (rw zero-add at (inside ∙ get_or-set_up_codes c 0 m k l))
