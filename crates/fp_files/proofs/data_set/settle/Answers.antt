-- Each call comes behind those before it.
use Rattle.fp_files.proofs.data_set.settle.Goals as goal

pub returns-in_err-map_err-clause-kept : goal.returns-in_err-map_err-clause-kept
returns-in_err-map_err-clause-kept c n call is = c.rewrite-answer.ensures.kept n call (c.length_of.ensures.kept n call
    is)

pub returns-clause-kept : goal.returns-clause-kept
returns-clause-kept c n call is = c.sync-answer.ensures.kept n call (c.rewrite-answer.ensures.kept n call
    (c.length_of.ensures.kept n call is))
