-- `script::header::Header::parse` meets its contract.
use Rattle.std.proofs.Common.{arith}
use Rattle.script.proofs.Headers.{header_by_pairs}
use Rattle.script.proofs.header.Header.parse.Goals as goal

pub returns-in_err-table_of : goal.returns-in_err-table_of
returns-in_err-table_of c = grind (arith, header_by_pairs)

pub returns : goal.returns
returns c = grind (arith, header_by_pairs)
