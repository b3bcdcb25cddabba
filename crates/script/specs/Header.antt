-- What a header tells, and its pairs as chunks of four bytes.
use Rattle.std.specs.Prelude.{ℕ, Bool, cond, List, Option, Some, None, drop, set, replicate, fold, ltb}
use Rattle.std.specs.List.{list_all}
use Rattle.std.specs.Simd.{first_chunks}
use Rattle.rules.specs.Code.{table_words}
use Rattle.rules.specs.Bytes.{word_at}
use Rattle.rules.specs.Script.{version_at, pairs_place, count_at, header_good, header_config, table_at, operations_place}
use Rattle.script.specs.declared.header.Header.{Header}

-- whether the index of a pair is at most 1023
abbrev pub index_good : List ℕ → Bool
index_good pair = ltb (word_at pair 0) table_words

-- a table with a pair written to it
abbrev pub with_pair : List ℕ → List ℕ → List ℕ
with_pair table pair = set table (word_at pair 0) (word_at pair 2)

-- pairs, written to a table of zeros
abbrev pub table_of : List (List ℕ) → Option (List ℕ)
table_of pairs = cond (list_all index_good pairs) (Some (fold with_pair (replicate table_words 0) pairs)) None

-- the pairs of a header
abbrev pub pairs_of : List ℕ → List (List ℕ)
pairs_of input = first_chunks 4 (count_at input) (drop (pairs_place (version_at input)) input)

-- what a header tells, and the jump table
abbrev pub header_with : List ℕ → List ℕ → Header
header_with input table = record { config = header_config input; table = table; operations = operations_place input }

-- what a good header tells
abbrev pub header_of : List ℕ → Option Header
header_of input = cond (header_good input) (Some (header_with input (table_at input))) None
