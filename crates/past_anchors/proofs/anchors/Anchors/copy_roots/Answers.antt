use Rattle.std.proofs.Common.{◌≡◌, ◌∙◌, [], List, arith, subst, sym}
use Rattle.fp_model.specs.State.{roots_at}
use Rattle.fp_model.specs.declared.database.Msdb.{Msdb}
use Rattle.fp_model.specs.declared.database.Root.{Root}
use Rattle.past_anchors.specs.Databases.{FitsAnchor, state_of}
use Rattle.past_anchors.proofs.Standing.{roots_fit}
use Rattle.past_anchors.proofs.anchors.Anchors.copy_roots.Goals as goal
use Rattle.plain_laws.proofs.Lists.{take_whole}

copied : (c : goal.After-loop-root) (msdbs : List Msdb)
    → c.loop-root.copies ≡ roots_at (state_of msdbs c.args.self.now) c.args.dedb c.args.anchor
copied c msdbs =
    c.loop-root.invariant
    ∙ take_whole c.roots-root-items.result.now c.loop-root.root-index (omega arith)
    ∙ c.roots-root-items.ensures msdbs

pub returns-clause-copy : goal.returns-clause-copy
returns-clause-copy c msdbs = copied c msdbs

pub returns-clause-shape : goal.returns-clause-shape
returns-clause-shape c defs shape =
    subst (λ (roots : List Root). FitsAnchor defs c.args.dedb c.args.anchor roots) (sym (copied c []))
    (roots_fit defs [] c.args.self.now c.args.dedb c.args.anchor shape)
