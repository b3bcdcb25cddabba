-- Two histories that are as assumed, so that what is promised is promised of something: the sample's seventeen operations (section 7) and a
-- trusted store after them; and an incident. And the first of them as a run from C. One table is lent to every operation.
use Rattle.std.specs.Prelude.{ℕ, ◌≡◌, List, [], ◌∷◌, ◌++◌, take, replicate, set}
use Rattle.rules.specs.declared.Operation.{Operation}
use Rattle.rules.specs.declared.Operation.TheVariants.{Store, Call, Return, Malloc, Free}
use Rattle.rules.specs.Memory.{trusted}
use Rattle.rules.specs.Code.{flash_word}
use Rattle.rules.specs.State.{ram_byte}
use Rattle.rules.specs.Bytes.{config_as_bytes}
use Rattle.rules.specs.Operations.{lending}
use Rattle.rules.specs.Slot.{table_bytes}
use Rattle.promises.specs.History.{Asked, History, set_up, ◌then◌, StoredBy}
use Rattle.promises.specs.Calls.{cross, open_calls}
use Rattle.promises.specs.Ledger.{Segment, ledger}
use Rattle.promises.specs.FromC.{AskedFromC, RunFromC, set_up_from_c, ◌next◌, history_from_c}
use Rattle.promises.specs.Sample.{sample, sample_table, zero_ram, sample_operations}

-- an operation of a script, with the sample's table
abbrev pub scripted : Operation → Asked
scripted op = record { operation = op; lent = lending sample_table }

abbrev pub played : History → List Operation → History
played h [] = h
played h (op ∷ ops) = played (h then scripted op) ops

-- the history of a script, with the sample's configuration
abbrev pub history_of_script : List Operation → History
history_of_script = played (set_up sample zero_ram)

abbrev pub sample_history : History
sample_history = history_of_script sample_operations

-- at the sample's end the trusted domain is current: it stores to a byte of domain 0's segment
abbrev pub last_store : Operation
last_store = Store (ram_byte 320) 5

abbrev pub store_after : History
store_after = sample_history then scripted last_store

-- domain 0 gets one block and frees it; domain 1 gets it, and calls domain 0
abbrev pub incident_operations : List Operation
incident_operations =
    Call (flash_word 4096) (flash_word 50) (ram_byte 4000)
    ∷ Malloc 8
    ∷ Free (ram_byte 320)
    ∷ Return
    ∷ Call (flash_word 4224) (flash_word 50) (ram_byte 4000)
    ∷ Malloc 8
    ∷ Call (flash_word 4096) (flash_word 250) (ram_byte 3990)
    ∷ []

abbrev pub incident_history : History
incident_history = history_of_script incident_operations

abbrev pub segment : ℕ → ℕ → ℕ → Segment
segment a n d = record { address = a; blocks = n; owner = d }

-- what the promise is about in the sample: the segments and the open calls after the ninth operation and at the end
pub record Ghosts : Type 0 where
  pub ninth_ledger : ledger (history_of_script (take 9 sample_operations)) ≡ segment 320 3 0 ∷ segment 344 1 1 ∷ []
  pub ninth_calls : open_calls (history_of_script (take 9 sample_operations))
      ≡ record { kind = cross 1 (ram_byte 3990); site = flash_word 150; domain = 0; bound = ram_byte 4000 }
      ∷ record { kind = cross 0 (ram_byte 4000); site = flash_word 50; domain = 7; bound = ram_byte 4095 }
      ∷ []
  pub end_ledger : ledger store_after ≡ segment 320 3 0 ∷ []
  pub end_calls : open_calls store_after ≡ []
  -- the trusted store is carried out
  pub trusted_store : StoredBy sample_history (scripted last_store) 320 trusted

-- ---- the same from C

-- the sample's configuration in a slot, the rest of it 0; and the sample's table as bytes
abbrev pub sample_slot : List ℕ
sample_slot = config_as_bytes sample ++ replicate 6 0

abbrev pub sample_table_bytes : List ℕ
sample_table_bytes = set (set (replicate table_bytes 0) 0 100) 256 200

abbrev pub called_from_c : Operation → AskedFromC
called_from_c op = record { operation = op; table = sample_table_bytes }

abbrev pub played_from_c : RunFromC → List Operation → RunFromC
played_from_c r [] = r
played_from_c r (op ∷ ops) = played_from_c (r next called_from_c op) ops

-- the sample's operations and the trusted store after them, called from C: the history that this is
abbrev pub sample_run : RunFromC
sample_run = played_from_c (set_up_from_c sample_slot zero_ram) sample_operations next called_from_c last_store

abbrev pub SampleFromC : Type 0
SampleFromC = history_from_c sample_run ≡ store_after
