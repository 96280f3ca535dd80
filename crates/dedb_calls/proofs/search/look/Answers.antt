use Rattle.std.proofs.Common.{sym, ◌∙◌}
use Rattle.std.specs.Option.{option_copied}
use Rattle.dedb_calls.proofs.SearchLemmas.{looked_with, nothing_behind, nothing_within}
use Rattle.dedb_calls.proofs.search.look.Goals as goal
use Rattle.plain_laws.proofs.Results.{if_ok_then}

pub returns-in_default : goal.returns-in_default
returns-in_default c order =
    sym (nothing_behind c.args.anchor c.args.segments.now c.args.roots.now (option_copied c.args.quest.behind)
    (option_copied c.args.quest.within) c.args.quest.ssas.now (sym c.in_default.ensures))

pub returns-in_default-within_here : goal.returns-in_default-within_here
returns-in_default-within_here c order =
    sym (nothing_within c.args.anchor c.args.segments.now c.args.roots.now (option_copied c.args.quest.behind)
    (option_copied c.args.quest.within) c.args.quest.ssas.now (sym c.in_default-within_here.ensures))

pub returns : goal.returns
returns c order =
    if_ok_then c.first_after.result (c.first_after.ensures order)
    (λ found is. is ∙ looked_with c.args.anchor c.args.segments.now c.args.roots.now
    (option_copied c.args.quest.behind) (option_copied c.args.quest.within) c.args.quest.ssas.now
    (option_copied c.in-Some.behind) (option_copied c.in-Some-within_here.within) (sym c.in-Some.ensures)
    (sym c.in-Some-within_here.ensures))
