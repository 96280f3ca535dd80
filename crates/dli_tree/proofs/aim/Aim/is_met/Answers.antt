use Rattle.std.proofs.Common.{sym, ◌∙◌}
use Rattle.dli_tree.proofs.Entering.{not_behind, not_within}
use Rattle.dli_tree.proofs.aim.Aim.is_met.Goals as goal

pub returns-then-is_some : goal.returns-then-is_some
returns-then-is_some c = sym (not_behind c.args.self (sym c.is_some.ensures ∙ c.if-is_some.true))

pub returns-then-is_some-2 : goal.returns-then-is_some-2
returns-then-is_some-2 c = sym (not_within c.args.self (sym c.is_some-2.ensures ∙ c.if-is_some-2.true))
