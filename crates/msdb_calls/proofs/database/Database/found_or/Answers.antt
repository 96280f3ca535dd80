use Rattle.std.proofs.Common.{◌≡◌, ap, ◌∙◌, length, subst}
use Rattle.std.specs.Prelude.{IfSome}
use Rattle.msdb_calls.proofs.database.Database.found_or.Goals as goal
use Rattle.model_laws.proofs.Layouts.{key_whole}

pub returns-clause-change : goal.returns-clause-change
returns-clause-change c =
    ap length (c.in_ok-from_slice-2.ensures ∙ c.key_in.ensures)
    ∙ key_whole c.args.self.now.def.now c.in-Some.segment.now c.requires.good
    (subst (λ o. IfSome o (λ s. length s.now ≡ c.args.self.now.def.now.length)) c.in-Some.is c.requires.whole)
