use Rattle.std.proofs.Common.{rules, tests, arith, ◌∙◌, sym, length}
use Rattle.std.specs.Prelude.{nat_le}
use Rattle.std.proofs.lemmas.Iterator.{YieldsList-from_slice}
use Rattle.std.proofs.lemmas.Iterator.Search.{all_from_yields_List}
use Rattle.txn_tokens.proofs.LookupLemmas.{tested_fit}
use Rattle.fp_vectors.proofs.scripts.fits.Goals as goal

pub returns : goal.returns
returns c = λ yes.
    let all = all_from_yields_List (λ def. nat_le (length def.segments) 15) _ _ c.all.result c.all.ensures.ran
    (YieldsList-from_slice c.args.defs.now.dedbs cc) (λ x b q k. search (rules, tests)) in
    tested_fit c.args.defs.now (omega (arith, c.len.ensures, c.if-len-gt32.false))
    (omega (arith, c.len-else-len-gt32.ensures, c.if-len-gt16.false)) (sym all ∙ yes)
