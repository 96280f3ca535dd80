use Rattle.std.proofs.Common.{arith}
use Rattle.fld_calls.proofs.NumberSizes.{number_below}
use Rattle.fld_calls.proofs.field.number_of.Goals as goal

pub returns-clause-small : goal.returns-clause-small
returns-clause-small c = number_below c.args.field.now.kind c.args.held.now _ (λ i. omega (arith, c.type_inv.held i))
    c.read_number.ensures.exact
