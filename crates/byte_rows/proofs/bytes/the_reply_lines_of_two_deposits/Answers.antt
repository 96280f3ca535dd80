use Rattle.std.proofs.Common.{refl}
use Rattle.std.specs.Fmt.{digits}
use Rattle.byte_rows.proofs.bytes.the_reply_lines_of_two_deposits.Goals as goal

pub returns-clause-refused : goal.returns-clause-refused
unfolding digits
returns-clause-refused c = refl
