-- Section 8: both sides of each limit, P1 to P10, with the sample's configuration, in the terms of the rules.
use Rattle.std.specs.Prelude.{ℕ, ◌+◌, ◌≡◌, true, false, List, [], ◌∷◌, get_or, leb}
use Rattle.std.proofs.Math.Seq.{slice}
use Rattle.rules.specs.Memory.{Layout, layout_of, block_of, blocks_for, map_bytes_for, map_byte, set_codes, free_code, starts_segment, owner_of}
use Rattle.rules.specs.Code.{flash_word, table_words, table_word, called_domain}
use Rattle.rules.specs.State.{ram_byte, fresh}
use Rattle.rules.specs.SetUp.{set_up_of}
use Rattle.rules.specs.Operations.{call_of}
use Rattle.promises.specs.Sample.{sample, sample_table, zero_ram}

-- its map's layout
abbrev pub sample_map : Layout
sample_map = layout_of sample

-- RAM after set-up, and after the sample's first call: "call 4096, 50, 4000"
abbrev pub after_set_up : List ℕ
after_set_up = (set_up_of sample zero_ram).ram

abbrev pub after_call : List ℕ
after_call = (call_of (fresh sample) after_set_up sample_table (flash_word 4096) (flash_word 50) (ram_byte 4000)).ram

pub record Limits : Type 0 where
  -- "P1 address 343 is in block 10."
  pub p1 : block_of sample (ram_byte 343) ≡ 10
  -- "P2 the first map byte after set-up is 239."
  pub p2 : get_or after_set_up sample.bot.0 0 ≡ 239
  -- "P3 codes 0 (block 10) and 15 (block 11) make 240."
  pub p3 : get_or (set_codes sample_map zero_ram 10 (0 ∷ free_code sample_map ∷ [])) (map_byte sample_map 10) 0 ≡ 240
  -- "P4 code 3 starts a segment of domain 1."
  pub p4 : (starts_segment sample_map 3 ≡ true) × (owner_of sample_map 3 ≡ 1)
  -- "P5 target 4224 is domain 1, word 128."
  pub p5 : (called_domain sample (flash_word 4224) ≡ 1) × (table_word sample (flash_word 4224) ≡ 128)
  -- "P6 target 5119 is domain 7, word 1023."
  pub p6 : (called_domain sample (flash_word 5119) ≡ 7) × (table_word sample (flash_word 5119) ≡ 1023)
  -- "P7 target 5120 is past the tables.", and 5119 is not
  pub p7 : (leb table_words (table_word sample (flash_word 5120)) ≡ true) × (leb table_words (table_word sample (flash_word 5119)) ≡ false)
  -- "P8 sizes 8, 9 and 65535 take 1, 2 and 8192 blocks."
  pub p8 : (blocks_for sample 8 ≡ 1) × (blocks_for sample 9 ≡ 2) × (blocks_for sample 65535 ≡ 8192)
  -- "P9 31, 32 and 512 blocks need 16, 16 and 256 map bytes."
  pub p9 : (map_bytes_for sample_map 31 ≡ 16) × (map_bytes_for sample_map 32 ≡ 16) × (map_bytes_for sample_map 512 ≡ 256)
  -- "P10 the sample's first frame is 50, 0, 255, 15, 7."
  pub p10 : slice sample.safe.0 (sample.safe.0 + 5) after_call ≡ 50 ∷ 0 ∷ 255 ∷ 15 ∷ 7 ∷ []
