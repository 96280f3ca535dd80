use Rattle.std.proofs.Common.{◌∙◌, sym}
use Rattle.txn_lang.proofs.KeywordLemmas.{in_blocks, in_gets}
use Rattle.txn_lang.proofs.statements.keyword_of.Goals as goal

pub returns-in-Some : goal.returns-in-Some
returns-in-Some c = in_blocks c.args.name.now c.in-Some.keyword (sym c.block_keyword.ensures ∙ c.in-Some.is)

pub returns-in-Some-get_keyword : goal.returns-in-Some-get_keyword
returns-in-Some-get_keyword c = in_gets c.args.name.now c.in-Some-get_keyword.keyword
    (sym c.block_keyword.ensures ∙ c.in-None.is) (sym c.get_keyword.ensures ∙ c.in-Some-get_keyword.is)
