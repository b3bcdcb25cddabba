-- P1 to P10 hold: the checker computes each.
-- Assumes nothing.
use Rattle.std.proofs.Common.{refl}
use Rattle.rules.specs.Memory.{divided_up, block_bytes, block_of, blocks_for, blocks, heap_block, safe_block, is_multiple, radix, per_byte, map_bytes_for, map_bytes, digit, set_digit, map_byte, map_digit, code_of, set_code, set_codes, start_code, later_code, free_code, owner_of, starts_segment, is_domain, is_module}
use Rattle.rules.specs.Code.{ordered, apart_from, all_apart}
use Rattle.rules.specs.State.{good_config, good_state}
use Rattle.rules.specs.SetUp.{set_up_code, set_up_codes, set_up_ram}
use Rattle.promises.specs.Limits.{Limits}

pub limits : Limits
unfolding divided_up block_bytes block_of blocks_for blocks heap_block safe_block is_multiple radix per_byte map_bytes_for map_bytes digit set_digit map_byte map_digit code_of set_code set_codes start_code later_code free_code owner_of starts_segment is_domain is_module ordered apart_from all_apart good_config good_state set_up_code set_up_codes set_up_ram
limits =
    record {
      p1 = refl;
      p2 = refl;
      p3 = refl;
      p4 = (refl, refl);
      p5 = (refl, refl);
      p6 = (refl, refl);
      p7 = (refl, refl);
      p8 = (refl, refl, refl);
      p9 = (refl, refl, refl);
      p10 = refl;
    }
