-- The rules give the sample's lines: the checker computes them.
-- Assumes nothing.
use Rattle.std.proofs.Common.{◌≡◌, refl}
use Rattle.rules.specs.Memory.{divided_up, block_bytes, start_of, block_of, blocks_for, blocks, heap_block, safe_block, is_multiple, radix, per_byte, map_bytes_for, map_bytes, digit, set_digit, map_byte, map_digit, code_of, set_code, set_codes, start_code, later_code, free_code, owner_of, starts_segment, is_domain, is_module, is_free}
use Rattle.rules.specs.Code.{ordered, apart_from, all_apart}
use Rattle.rules.specs.State.{good_config, good_state}
use Rattle.rules.specs.SetUp.{set_up_code, set_up_codes, set_up_ram, set_up_of}
use Rattle.rules.specs.Return.{read_frame}
use Rattle.rules.specs.Malloc.{free_run, first_run, lowest_run}
use Rattle.rules.specs.Free.{continued, segment_blocks}
use Rattle.promises.specs.Sample.{sample, sample_table, zero_ram, sample_operations, lines_given, sample_lines}

pub sample_lines_lem :
    let g = set_up_of sample zero_ram in
    lines_given sample_table g.state g.ram sample_operations ≡ sample_lines
unfolding divided_up block_bytes block_of blocks_for blocks heap_block safe_block is_multiple radix per_byte map_bytes_for map_bytes digit set_digit map_byte map_digit code_of set_code set_codes start_code later_code free_code owner_of starts_segment is_domain is_module ordered apart_from all_apart good_config good_state set_up_code set_up_codes set_up_ram start_of is_free read_frame free_run first_run lowest_run continued segment_blocks
sample_lines_lem = refl
