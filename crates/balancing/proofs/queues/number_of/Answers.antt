use Rattle.std.proofs.Common.{rules, ap}
use Rattle.std.proofs.lemmas.Nat.{be_bytes_8}
use Rattle.balancing.proofs.queues.number_of.Goals as goal

pub returns : goal.returns
returns c =
    ap (λ text. record { 0 = text })
    (be_bytes_8 c.args.name.0 c.from_be_bytes.result (search rules) (search rules) c.from_be_bytes.ensures)
