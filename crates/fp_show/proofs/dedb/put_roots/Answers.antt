use Rattle.std.proofs.Common.{◌≤◌, ℕ, List, ◌++◌, ◌∙◌, length, ap, arith}
use Rattle.std.specs.Prelude.{flat_map}
use Rattle.std.proofs.lemmas.List.{take_all}
use Rattle.fp_model.specs.declared.database.Root.{Root}
use Rattle.fp_show.specs.inside.Walk.{root_text}
use Rattle.fp_show.proofs.Walking.{roots_lines}
use Rattle.fp_show.proofs.dedb.put_roots.Goals as goal

-- roots with all below them are the segments in hierarchical order
pub returns : goal.returns
returns c =
    let types = c.args.types.now in
    let roots = c.args.roots.now in
    let end : length roots ≤ c.loop-root.root-index = omega arith in
    let lines : List Root → List ℕ = λ rs. flat_map (root_text types) rs in
    c.loop-root.invariant
    ∙ ap (λ (rs : List Root). c.args.into.now ++ lines rs) (take_all c.loop-root.root-index roots end)
    ∙ ap (λ (text : List ℕ). c.args.into.now ++ text) (roots_lines types roots)
