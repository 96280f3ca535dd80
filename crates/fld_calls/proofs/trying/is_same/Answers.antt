use Rattle.std.proofs.Common.{rules}
use Rattle.std.proofs.lemmas.Nat.{be_bytes_8}
use Rattle.fld_calls.proofs.Names.{same_numbers}
use Rattle.fld_calls.proofs.trying.is_same.Goals as goal

pub returns : goal.returns
returns c =
    same_numbers c.args.name.0 c.args.other.0 c.from_be_bytes.result c.from_be_bytes-2.result
    (be_bytes_8 c.args.name.0 c.from_be_bytes.result (search rules) (search rules) c.from_be_bytes.ensures)
    (be_bytes_8 c.args.other.0 c.from_be_bytes-2.result (search rules) (search rules) c.from_be_bytes-2.ensures)
    c.from_be_bytes.ensures c.from_be_bytes-2.ensures
