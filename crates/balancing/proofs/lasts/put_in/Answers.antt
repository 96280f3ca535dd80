use Rattle.std.proofs.Common.{◌∙◌, ap, arith}
use Rattle.balancing.specs.Numbered.{as_last, lasts_in}
use Rattle.balancing.proofs.lasts.put_in.Goals as goal
use Rattle.plain_laws.proofs.Places.{map_insert}
use Rattle.plain_laws.proofs.Results.{is_ok_then}

pub returns-in-Some-clause-items : goal.returns-in-Some-clause-items
returns-in-Some-clause-items c =
    ap lasts_in (is_ok_then c.insert.result c.insert.new.self.items _ _
    (c.insert.ensures.succeeds (omega (arith, c.requires.some, c.requires.room))) c.insert.ensures.items)
    ∙ map_insert (λ b. as_last b.value) c.args.terminals.now.items c.args.at _
