use Rattle.txn_machine.proofs.SettingLemmas.{set_alike}
use Rattle.txn_machine.proofs.known.Known.set.Goals as goal

pub returns-clause-ok : goal.returns-clause-ok
returns-clause-ok c = λ answers. set_alike c.args.self.now c.insert.new.self c.args.name c.args.text answers
    (c.in_ok-insert.ensures.updates.0)
