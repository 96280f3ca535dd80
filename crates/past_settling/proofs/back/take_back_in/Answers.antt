use Rattle.std.proofs.Common.{arith}
use Rattle.past_settling.proofs.BackLemmas.{takes_back}
use Rattle.past_settling.proofs.back.take_back_in.Goals as goal

pub returns : goal.returns
returns c =
    takes_back c.args.pasts.now c.args.place c.args.number c.from.result c.index-pasts-from.result c.from.ensures
    (omega (arith, c.from.ensures, c.requires)) c.take_back.new.self c.args.key.now c.take_back.ensures.before
    c.take_back.ensures.none c.take_back.ensures.late c.take_back.ensures.count
