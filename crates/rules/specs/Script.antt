-- Section 7: the script program, from the bytes that it reads to the text that it prints.
use Rattle.std.specs.Prelude.{ℕ, zero, suc, ◌+◌, ◌-◌, ◌*◌, ◌/◌, ◌%◌, Bool, true, cond, ◌&&◌, List, [], ◌∷◌, ◌++◌, length, get_or, set, replicate, leb, ltb, eqb}
use Rattle.rules.specs.declared.Config.{Config}
use Rattle.rules.specs.declared.State.{State}
use Rattle.rules.specs.declared.Operation.{Operation}
use Rattle.rules.specs.declared.Operation.TheVariants.{Store, Call, Return, Malloc, Free, Change}
use Rattle.rules.specs.declared.Read.{Read}
use Rattle.rules.specs.declared.Read.TheVariants.{Whole, Cut, End}
use Rattle.rules.specs.Memory.{ram_bytes}
use Rattle.rules.specs.Code.{table_words, flash_word}
use Rattle.rules.specs.State.{ram_byte}
use Rattle.rules.specs.Bytes.{word_at, config_bytes, config_at}
use Rattle.rules.specs.Answers.{Given, number_of, value_of}
use Rattle.rules.specs.SetUp.{set_up_of}
use Rattle.rules.specs.Operations.{lending, operation_of}

-- ---- the header

-- "Reads standard input, 65,536 bytes at most."
abbrev pub most_bytes : ℕ
most_bytes = 65536

-- "Mark `HMT`; version 1": how many bytes that is, and which versions there are
abbrev pub mark_bytes : ℕ
mark_bytes = 4

abbrev pub version_at : List ℕ → ℕ
version_at input = get_or input 3 0

abbrev pub known_version : ℕ → Bool
known_version v = eqb v 1

abbrev pub mark_good : List ℕ → Bool
mark_good input = eqb (get_or input 0 0) 72 && eqb (get_or input 1 0) 77 && eqb (get_or input 2 0) 84 && known_version (version_at input)

-- where the parts of a header stand, by its version: the configuration behind the mark, the count behind that, then the pairs
abbrev pub config_place : ℕ → ℕ
config_place v = mark_bytes

abbrev pub count_place : ℕ → ℕ
count_place v = config_place v + config_bytes

abbrev pub pairs_place : ℕ → ℕ
pairs_place v = count_place v + 2

abbrev pub header_config : List ℕ → Config
header_config input = config_at input (config_place (version_at input))

-- "a count and that many pairs of table index and entry"
abbrev pub count_at : List ℕ → ℕ
count_at input = word_at input (count_place (version_at input))

-- "then operations to the end"
abbrev pub operations_place : List ℕ → ℕ
operations_place input = pairs_place (version_at input) + 4 * count_at input

-- "(later ones win, others 0)": the table with the n pairs from place at on written to it
unfoldable pub entries_at : List ℕ → ℕ → ℕ → List ℕ → List ℕ
entries_at input at zero table = table
entries_at input at (suc n) table = entries_at input (at + 4) n (set table (word_at input at) (word_at input (at + 2)))

abbrev pub table_at : List ℕ → List ℕ
table_at input = entries_at input (pairs_place (version_at input)) (count_at input) (replicate table_words 0)

-- each of the n pairs from place at on has an index of at most 1023
unfoldable pub indices_good : List ℕ → ℕ → ℕ → Bool
indices_good input at zero = true
indices_good input at (suc n) = ltb (word_at input at) table_words && indices_good input (at + 4) n

-- "a wrong mark or version, a cut header or an index above 1023 prints `bad` alone"
abbrev pub header_good : List ℕ → Bool
header_good input =
    leb mark_bytes (length input)
    && mark_good input
    && leb (pairs_place (version_at input)) (length input)
    && leb (operations_place input) (length input)
    && indices_good input (pairs_place (version_at input)) (count_at input)

-- ---- an operation

-- one that ends before place next, or is cut
abbrev pub up_to : List ℕ → ℕ → Operation → Read
up_to input next op = cond (leb next (length input)) (Whole op next) Cut

-- "1 store (address, byte), 2 call (target, site, pointer), 3 return, 4 malloc (size), 5 free (address), 6 change (address,
-- domain in one byte)"; "An unknown or cut operation"
abbrev pub operation_numbered : List ℕ → ℕ → ℕ → Read
operation_numbered input at number =
    cond (eqb number 1) (up_to input (at + 4) (Store (ram_byte (word_at input (at + 1))) (get_or input (at + 3) 0)))
    (cond (eqb number 2) (up_to input (at + 7) (Call (flash_word (word_at input (at + 1))) (flash_word (word_at input (at + 3))) (ram_byte (word_at input (at + 5)))))
    (cond (eqb number 3) (up_to input (at + 1) Return)
    (cond (eqb number 4) (up_to input (at + 3) (Malloc (word_at input (at + 1))))
    (cond (eqb number 5) (up_to input (at + 3) (Free (ram_byte (word_at input (at + 1)))))
    (cond (eqb number 6) (up_to input (at + 4) (Change (ram_byte (word_at input (at + 1))) (get_or input (at + 3) 0)))
    Cut)))))

unfoldable pub operation_at : List ℕ → ℕ → Read
operation_at input at = cond (leb (length input) at) End (operation_numbered input at (get_or input at 0))

-- ---- the text

abbrev pub space : ℕ
space = 32

abbrev pub new_line : ℕ
new_line = 10

-- a digit as text
abbrev pub digit_text : ℕ → ℕ
digit_text n = 48 + n

-- the last digits of n in decimal, at most as many as the first argument says
unfoldable pub last_digits : ℕ → ℕ → List ℕ
last_digits zero n = []
last_digits (suc most) n = let above = last_digits most (n / 10) ++ (digit_text (n % 10) ∷ []) in cond (ltb n 10) (digit_text n ∷ []) above

-- a number in decimal; all that are printed have at most five digits
unfoldable pub decimal : ℕ → List ℕ
decimal n = last_digits 5 n

-- "count from 1, answer number, value, domain, bound, safe pointer"
unfoldable pub line_of : ℕ → Given → List ℕ
line_of count g =
    decimal count
    ++ (space ∷ decimal (number_of g.answer))
    ++ (space ∷ decimal (value_of g.answer))
    ++ (space ∷ decimal g.state.domain)
    ++ (space ∷ decimal g.state.bound.0)
    ++ (space ∷ decimal g.state.safepointer.0)
    ++ (new_line ∷ [])

-- "long", "bad", "cut", each a line
abbrev pub long_text : List ℕ
long_text = 108 ∷ 111 ∷ 110 ∷ 103 ∷ new_line ∷ []

abbrev pub bad_text : List ℕ
bad_text = 98 ∷ 97 ∷ 100 ∷ new_line ∷ []

abbrev pub cut_text : List ℕ
cut_text = 99 ∷ 117 ∷ 116 ∷ new_line ∷ []

-- "HMT and the version, then setup and its number"
abbrev pub set_up_text : Given → List ℕ
set_up_text g =
    72 ∷ 77 ∷ 84 ∷ space ∷ 49 ∷ new_line ∷ 115 ∷ 101 ∷ 116 ∷ 117 ∷ 112 ∷ space ∷ (decimal (number_of g.answer) ++ (new_line ∷ []))

-- what follows a reading: nothing at the end, "An unknown or cut operation prints cut and stops", or what the operation gives
abbrev pub on_read : Read → (Operation → ℕ → List ℕ) → List ℕ
on_read End carry_out = []
on_read Cut carry_out = cut_text
on_read (Whole op next) carry_out = carry_out op next

-- the lines of the operations from place at on, in a state and RAM, the first with this count. The first argument bounds their number:
-- as many as bytes are left, since no operation is shorter than a byte
unfoldable pub lines_from : ℕ → List ℕ → List ℕ → State → List ℕ → ℕ → ℕ → List ℕ
lines_from zero input table s ram at count = []
lines_from (suc left) input table s ram at count =
    on_read (operation_at input at)
    (λ op next. let g = operation_of s ram (lending table) op in line_of count g ++ lines_from left input table g.state g.ram next (count + 1))

-- "RAM starts as zeros."; "After a refused set-up it stops."
unfoldable pub run_text : List ℕ → List ℕ
run_text input =
    let g = set_up_of (header_config input) (replicate ram_bytes 0) in
    let lines = lines_from (length input - operations_place input) input (table_at input) g.state g.ram (operations_place input) 1 in
    set_up_text g ++ cond (eqb (number_of g.answer) 0) lines []

-- "A longer file prints long alone; else a wrong mark or version, a cut header or an index above 1023 prints bad alone."
unfoldable pub script_text : List ℕ → List ℕ
script_text input = let run = run_text input in cond (ltb most_bytes (length input)) long_text (cond (header_good input) run bad_text)
