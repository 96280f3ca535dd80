use Rattle.std.proofs.Common.{◌∙◌, ap}
use Rattle.std.specs.Prelude.{option_map}
use Rattle.fp_model.specs.Order.{direct, key_in, one_down}
use Rattle.dli_tree.specs.inside.Aims.{aim_of}
use Rattle.dli_tree.proofs.Roots.{root_none, root_some}
use Rattle.dli_tree.proofs.first.in_root.Goals as goal
use Rattle.plain_laws.proofs.Results.{if_ok_by}

pub returns-in-None : goal.returns-in-None
returns-in-None c shape =
    root_none c.args.segments.now (aim_of c.args.aim) c.args.root.now c.key_in-key.result.now c.enter.result
    (c.key_in-key.ensures ∙ ap (key_in c.args.segments.now 0) c.as_slice.ensures) c.enter.ensures c.in-None.is

pub returns-in_ok-found-in-Some : goal.returns-in_ok-found-in-Some
returns-in_ok-found-in-Some c shape =
    let key = c.key_in-key.result.now in
    let same = c.key_in-key.ensures ∙ ap (key_in c.args.segments.now 0) c.as_slice.ensures in
    let whole = root_some c.args.segments.now (aim_of c.args.aim) c.args.root.now key c.enter.result c.in-Some.below
    same c.enter.ensures c.in-Some.is in
    let found = c.in_ok-found-in-Some.ensures shape in
    if_ok_by _ _ c.all_under.result (λ r is. is ∙ ap (option_map (one_down (direct 0 key))) found ∙ whole)
    c.all_under.ensures
