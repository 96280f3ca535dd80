use Rattle.std.proofs.Common.{◌≡◌, rules}
use Rattle.txn_machine.proofs.known.Known.show.Goals as goal

pub returns-clause-fit : goal.returns-clause-fit
returns-clause-fit c = λ defs all h. c.show-gets.ensures.fit defs
    (let is : c.take.result ≡ c.args.self.now.gets = search rules in rw is all) h
