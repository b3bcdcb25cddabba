-- Demand 1: "Every operation ends, for every configuration, state, buffer and operand. The runtime does its own checking. A refused operation
-- gives a number from document 01, value 0, the state it was given (a zero state from set-up) and RAM unaltered." `demand_1` of
-- proofs/Demand1.antt proves it of the rules, for any numbers whatever in place of a configuration, a state, RAM, a table and operands. That the
-- code ends, and gives what the rules give with nothing asked of its caller, is proved of each public function with its contract.
-- No axiom.
use Rattle.std.specs.Prelude.{ℕ, ◌≡◌, ◌≢◌, List, [], ◌∷◌}
use Rattle.rules.specs.declared.Config.{Config}
use Rattle.rules.specs.declared.State.{State}
use Rattle.rules.specs.declared.Operation.{Operation}
use Rattle.rules.specs.declared.Operation.TheVariants.{Store, Call, Return, Malloc, Free, Change}
use Rattle.rules.specs.State.{zeros}
use Rattle.rules.specs.Answers.{Given, number_of, value_of}
use Rattle.rules.specs.SetUp.{set_up_of}
use Rattle.rules.specs.Operations.{Lent, operation_of}
use Rattle.promises.specs.Promise.{◌∈◌}

-- the table of section 6: the numbers of set-up,
abbrev pub set_up_numbers : List ℕ
set_up_numbers = 0 ∷ 1 ∷ 2 ∷ []

-- those that an operation has for itself,
abbrev pub own_numbers : Operation → List ℕ
own_numbers (Store a b) = 4 ∷ 5 ∷ 6 ∷ []
own_numbers (Call t site p) = 7 ∷ 8 ∷ 9 ∷ 10 ∷ 11 ∷ 12 ∷ []
own_numbers Return = 13 ∷ 14 ∷ []
own_numbers (Malloc size) = 15 ∷ 16 ∷ 17 ∷ []
own_numbers (Free a) = 18 ∷ 19 ∷ []
own_numbers (Change a d) = 18 ∷ 19 ∷ 20 ∷ []

-- and with them those that each operation can be given
abbrev pub numbers_of : Operation → List ℕ
numbers_of op = 0 ∷ 1 ∷ 3 ∷ own_numbers op

-- what a refusal gives: value 0, this state and this RAM
pub record Unaltered (g : Given) (s : State) (ram : List ℕ) : Type 0 where
  pub value : value_of g.answer ≡ 0
  pub state : g.state ≡ s
  pub memory : g.ram ≡ ram

pub record Demand1 : Type 0 where
  -- "Every operation ends, for every configuration, state, buffer and operand. The runtime does its own checking.": nothing is asked of what
  -- it is given, and it is answered; each time with "a number from document 01" that the document has for it,
  pub set_up_number : (c : Config) (ram : List ℕ) → number_of (set_up_of c ram).answer ∈ set_up_numbers
  pub number : (s : State) (ram : List ℕ) (l : Lent) (op : Operation) → number_of (operation_of s ram l op).answer ∈ numbers_of op
  -- and if that is not 0, with "value 0, the state it was given (a zero state from set-up) and RAM unaltered"
  pub set_up_refused : (c : Config) (ram : List ℕ) → number_of (set_up_of c ram).answer ≢ 0 → Unaltered (set_up_of c ram) zeros ram
  pub refused : (s : State) (ram : List ℕ) (l : Lent) (op : Operation) → number_of (operation_of s ram l op).answer ≢ 0
      → Unaltered (operation_of s ram l op) s ram
