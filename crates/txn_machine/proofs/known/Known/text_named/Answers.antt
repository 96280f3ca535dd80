use Rattle.txn_machine.proofs.known.Known.text_named.Goals as goal

pub returns-in-Field : goal.returns-in-Field
returns-in-Field c = rw c.in-Field.is (c.shown_field.ensures c.args.message.now)
