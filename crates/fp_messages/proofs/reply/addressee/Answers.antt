use Rattle.std.proofs.Common.{rules, ◌∙◌}
use Rattle.fp_messages.proofs.WordLemmas.{told_is}
use Rattle.fp_messages.proofs.reply.addressee.Goals as goal

pub returns-then-is_name : goal.returns-then-is_name
returns-then-is_name c =
    let word = c.split_word.ensures.word in
    word ∙ told_is c.args.line.now (search rules)
