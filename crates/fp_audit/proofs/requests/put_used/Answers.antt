use Rattle.std.proofs.Common.{sym, subst}
use Rattle.std.specs.Prelude.{Option}
use Rattle.std.specs.Option.{option_map}
use Rattle.fp_model.specs.declared.name.Name.{Name}
use Rattle.fp_audit.specs.declared.kept.Kept.{Kept}
use Rattle.fp_audit.specs.Numbers.{AreKept}
use Rattle.fp_audit.specs.inside.Numbers.{last_by_name, with_used}
use Rattle.fp_audit.proofs.NumberLemmas.{kept_more}
use Rattle.fp_audit.proofs.requests.put_used.Goals as goal

pub returns-in_ok-insert : goal.returns-in_ok-insert
returns-in_ok-insert c = λ before are.
    subst (λ (used : Option (Name × Kept)). AreKept c.insert.new.self.entries
    (with_used (option_map last_by_name used) before)) (sym c.in-Some.is)
    (kept_more c.args.lasts.now.entries c.insert.new.self.entries before (c.in-Some.lterm, c.in-Some.kept) are
    (λ name. c.in_ok-insert.ensures.updates.0 name))
