use Rattle.std.proofs.Common.{◌∙◌, ap}
use Rattle.std.specs.Prelude.{slice_get, option_and_then}
use Rattle.fp_model.specs.Texts.{same_text}
use Rattle.txn_lang.proofs.NumberLemmas.{found_at}
use Rattle.txn_lang.proofs.scripts.Scripts.find.Goals as goal

pub returns-clause-script : goal.returns-clause-script
returns-clause-script c =
    ap (option_and_then (slice_get c.args.self.now.scripts))
    (c.copied.ensures ∙ c.get.ensures.value ∙ c.args.self.now.indexed c.args.tran.now)
    ∙ found_at (λ s. same_text s.name.0 c.args.tran.now.0) c.args.self.now.scripts
