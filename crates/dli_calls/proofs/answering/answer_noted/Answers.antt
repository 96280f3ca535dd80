use Rattle.dli_calls.proofs.StoreLemmas.{is_good}
use Rattle.dli_calls.proofs.answering.answer_noted.Goals as goal

pub answer-requires-clause-looks : goal.answer-requires-clause-looks
answer-requires-clause-looks c =
    let whole = is_good c.args.looks.now.msdbs.now c.args.looks.now.number c.args.database.now.def.now
    c.requires.stored in
    record { good = c.requires.good; finds = c.requires.stored; standing = whole; visible = whole }
