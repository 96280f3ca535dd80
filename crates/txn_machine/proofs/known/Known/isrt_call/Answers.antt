use Rattle.std.proofs.Common.{arith}
use Rattle.std.proofs.lemmas.Grind.{common_steps}
use Rattle.txn_machine.proofs.known.Known.isrt_call.Goals as goal

pub returns-in_err-layout : goal.returns-in_err-layout
returns-in_err-layout c =
    let none = c.in_err-layout.ensures.none c.args.message.now in grind (arith, common_steps, none)

pub returns-in_err-segment : goal.returns-in_err-segment
returns-in_err-segment c =
    let layout = c.in_ok-layout.ensures.ok c.args.message.now in grind (arith, common_steps, layout)

pub returns-in_err-bytes : goal.returns-in_err-bytes
returns-in_err-bytes c =
    let layout = c.in_ok-layout.ensures.ok c.args.message.now in grind (arith, common_steps, layout)

pub returns : goal.returns
returns c =
    let layout = c.in_ok-layout.ensures.ok c.args.message.now in grind (arith, common_steps, layout)
