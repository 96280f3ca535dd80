use Rattle.std.proofs.Common.{◌∙◌, List, ap}
use Rattle.fp_model.specs.State.{roots_at}
use Rattle.fp_model.specs.declared.database.Dedb.{Dedb}
use Rattle.past_anchors.specs.Databases.{state_of}
use Rattle.past_anchors.proofs.anchors.Anchors.roots.Goals as goal

pub returns : goal.returns
returns c = λ msdbs.
    c.roots_at.ensures msdbs ∙ ap (λ (ds : List Dedb). roots_at (state_of msdbs ds) c.args.dedb c.args.anchor)
    (c.as_slice.ensures ∙ c.self.view_is)
