use Rattle.std.specs.Prelude.{Result, Ok, Err, OnOk}
use Rattle.log_groups.proofs.FrontsKept.{opened_from}
use Rattle.log_groups.proofs.gated.write_gated.Goals as goal

-- what two things at Ok lead to
both_ok : {T E P Q R : Type 0} (r : Result T E) → OnOk r P → OnOk r Q → (P → Q → R) → OnOk r R
both_ok (Ok v) p q f = f p q
both_ok (Err e) p q f = tt

pub returns-clause-opened : goal.returns-clause-opened
returns-clause-opened g c t le = both_ok c.write.result (c.write.ensures.durable t) (c.write.ensures.text t le)
    (λ durable text. opened_from ((g.S.Site.disk c.args.site.now).contents 0) c.args.gate c.args.bytes.now le
    (g.S.Site.disk c.write.new.site) durable text)
