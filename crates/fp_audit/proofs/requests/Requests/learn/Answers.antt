use Rattle.std.proofs.Common.{sym, subst, ℕ}
use Rattle.fp_model.specs.History.{with_entry}
use Rattle.fp_model.specs.Lasts.{Last}
use Rattle.std.specs.Prelude.{Option}
use Rattle.fp_audit.specs.Numbers.{AreKept, KnowsLines}
use Rattle.fp_audit.specs.inside.Numbers.{with_used}
use Rattle.fp_audit.proofs.NumberLemmas.{knows_more}
use Rattle.fp_audit.proofs.requests.Requests.learn.Goals as goal

pub returns : goal.returns
returns c = λ h next knows.
    let e = c.args.e.now in
    let old = c.args.self.now in
    let new = c.put_used.new.lasts.entries in
    subst (λ (format : ℕ). KnowsLines format new (with_entry e next h)) (sym c.format_behind-self.ensures)
    (knows_more old.format old.lasts.entries new h e next knows
    (λ lasts are. subst (λ (used : Option Last). AreKept new (with_used used lasts)) c.in_ok-used.ensures
    (c.in_ok-put_used.ensures lasts are)))
