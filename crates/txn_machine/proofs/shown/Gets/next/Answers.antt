use Rattle.std.proofs.Common.{◌≡◌, ◌<◌, length, arith}
use Rattle.txn_machine.specs.Knowing.{segment_on}
use Rattle.txn_machine.proofs.ShownLemmas.{shown_set, show_moves}
use Rattle.txn_machine.proofs.shown.Gets.next.Goals as goal

pub returns-clause-shows : goal.returns-clause-shows
returns-clause-shows c =
    let is : c.from.result ≡ c.args.self.db = omega arith in
    let lt : c.from.result < length c.args.self.older = omega arith in
    show_moves (segment_on c.args.db c.args.newest) c.args.self.older c.from.result c.args.self.db c.args.self.newest is
    lt

pub returns-clause-fit : goal.returns-clause-fit
returns-clause-fit c = λ defs all h.
    let is : c.from.result ≡ c.args.self.db = omega arith in
    let lt : c.from.result < length c.args.self.older = omega arith in
    shown_set defs c.args.self c.from.result c.args.db c.args.newest is lt all h
