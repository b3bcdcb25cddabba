-- Section 7: the sample's configuration, jump table and operations, and the lines that they give.
use Rattle.std.specs.Prelude.{ℕ, List, [], ◌∷◌, replicate, set}
use Rattle.rules.specs.declared.Range.{Range}
use Rattle.rules.specs.declared.Config.{Config}
use Rattle.rules.specs.declared.State.{State}
use Rattle.rules.specs.declared.Operation.{Operation}
use Rattle.rules.specs.declared.Operation.TheVariants.{Store, Call, Return, Malloc, Free, Change}
use Rattle.rules.specs.Memory.{ram_bytes}
use Rattle.rules.specs.Code.{flash_word, empty_range, table_words}
use Rattle.rules.specs.State.{ram_byte}
use Rattle.rules.specs.Answers.{Given, number_of, value_of}
use Rattle.rules.specs.Operations.{lending, operation_of}

abbrev pub range : ℕ → ℕ → Range
range start end = record { start = flash_word start; end = flash_word end }

-- "256, 320, 448, 512, jt 4096; ranges 0: 100 to 200, 1: 200 to 300, 7: 10 to 100, others 0 to 0"
abbrev pub sample : Config
sample =
    record {
      bot = ram_byte 256;
      heap = ram_byte 320;
      safe = ram_byte 448;
      top = ram_byte 512;
      jt = flash_word 4096;
      ranges =
          range 100 200
          ∷ range 200 300
          ∷ empty_range
          ∷ empty_range
          ∷ empty_range
          ∷ empty_range
          ∷ empty_range
          ∷ range 10 100
          ∷ [];
    }

-- "entries 0 is 100, 128 is 200"
abbrev pub sample_table : List ℕ
sample_table = set (set (replicate table_words 0) 0 100) 128 200

-- "RAM starts as zeros."
abbrev pub zero_ram : List ℕ
zero_ram = replicate ram_bytes 0

-- the sample's operations
abbrev pub sample_operations : List Operation
sample_operations =
    Call (flash_word 4096) (flash_word 50) (ram_byte 4000)
    ∷ Malloc 20
    ∷ Store (ram_byte 343) 9
    ∷ Store (ram_byte 344) 9
    ∷ Call (flash_word 4224) (flash_word 150) (ram_byte 3990)
    ∷ Store (ram_byte 320) 1
    ∷ Store (ram_byte 3991) 1
    ∷ Store (ram_byte 3990) 1
    ∷ Malloc 8
    ∷ Change (ram_byte 344) 0
    ∷ Free (ram_byte 344)
    ∷ Return
    ∷ Free (ram_byte 344)
    ∷ Call (flash_word 120) (flash_word 130) (ram_byte 0)
    ∷ Return
    ∷ Return
    ∷ Return
    ∷ []

-- a line of the text without its count: answer number, value, domain, bound, safe pointer
pub record Line : Type 0 where
  pub number : ℕ
  pub value : ℕ
  pub domain : ℕ
  pub bound : ℕ
  pub safepointer : ℕ

abbrev pub line : ℕ → ℕ → ℕ → ℕ → ℕ → Line
line n v d b p = record { number = n; value = v; domain = d; bound = b; safepointer = p }

abbrev pub line_given : Given → Line
line_given g =
    line (number_of g.answer) (value_of g.answer) g.state.domain g.state.bound.0 g.state.safepointer.0

-- what the operations give, one after the other, with one table lent to every call
abbrev pub lines_given : List ℕ → State → List ℕ → List Operation → List Line
lines_given table s ram [] = []
lines_given table s ram (op ∷ ops) =
    let g = operation_of s ram (lending table) op in line_given g ∷ lines_given table g.state g.ram ops

-- the sample's lines
abbrev pub sample_lines : List Line
sample_lines =
    line 0 100 0 4000 453
    ∷ line 0 320 0 4000 453
    ∷ line 0 0 0 4000 453
    ∷ line 5 0 0 4000 453
    ∷ line 0 200 1 3990 458
    ∷ line 5 0 1 3990 458
    ∷ line 6 0 1 3990 458
    ∷ line 0 0 1 3990 458
    ∷ line 0 344 1 3990 458
    ∷ line 0 1 1 3990 458
    ∷ line 19 0 1 3990 458
    ∷ line 0 150 0 4000 453
    ∷ line 0 1 0 4000 453
    ∷ line 0 120 0 4000 456
    ∷ line 0 130 0 4000 453
    ∷ line 0 50 7 4095 448
    ∷ line 13 0 7 4095 448
    ∷ []
