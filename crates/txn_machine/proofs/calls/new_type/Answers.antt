use Rattle.std.proofs.Common.{◌∙◌, ap, arith}
use Rattle.fp_model.specs.declared.scripts.SsaText.{SsaText}
use Rattle.txn_machine.proofs.FilledLemmas.{last_type}
use Rattle.txn_machine.proofs.calls.new_type.Goals as goal

pub returns-in-len1-up : goal.returns-in-len1-up
returns-in-len1-up c = λ defs message. ap (λ (s : SsaText). s.segment) c.last-item.is ∙ last_type defs message
    c.args.ssas.now c.last-item.result (omega arith)
