-- Where malloc's search ends, by the run's first address.
use Rattle.std.specs.Prelude.{Option, Some, None}
use Rattle.rules.specs.declared.RamByte.{RamByte}
use Rattle.rules.specs.declared.Block.{Block}
use Rattle.rules.specs.declared.Config.{Config}
use Rattle.rules.specs.Memory.{start_of}
use Rattle.rules.specs.State.{ram_byte}

abbrev pub run_of : Config → Option Block → Option RamByte
run_of c (Some k) = Some (ram_byte (start_of c k.0))
run_of c None = None
