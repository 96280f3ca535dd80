-- What a call that gives an anchor roots leaves where it comes to its end, and which interval it names.
use Rattle.std.specs.Prelude.{◌≢◌, ◌⊎◌, ℕ, List}
use Rattle.ci_space.specs.declared.intervals.Shape.{Shape}
use Rattle.ci_overflow.specs.Lists.{IsInOrder}
use Rattle.fp_model.specs.declared.definitions.SegDef.{SegDef}
use Rattle.fp_model.specs.declared.database.Root.{Root}
use Rattle.root_changes.specs.Differing.{RootsDiffer}
use Rattle.root_changes.specs.Gaining.{RootsGain}
use Rattle.root_anchor.specs.Damage.{ChainFails}
use Rattle.root_anchor.specs.Differing.{ChangesAlone}
use Rattle.root_anchor.specs.Faults.{ListsFail}
use Rattle.root_anchor.specs.Formed.{IsFormed, HasChain, HasRoots, NewAreOwn}
use Rattle.root_anchor.specs.Gaps.{AddsOne, FewChange, SegmentsStay}
use Rattle.root_anchor.specs.Keeping.{KeepsElements}
use Rattle.root_anchor.specs.Stored.{ApartKeep, OthersKeep, KeepsSequential}

-- what a store leaves in an area that was whole
pub record IsStored (shape : Shape) (types : List SegDef) (old new : List (List ℕ)) (anchor : ℕ) (roots : List Root) :
    Type 0 where
  pub stored : HasRoots shape types new anchor roots
  pub others : OthersKeep shape types old new anchor
  pub sequential : KeepsSequential shape old new
  pub formed : IsFormed shape types new

-- what it leaves in any area
pub record Stores (shape : Shape) (types : List SegDef) (old new : List (List ℕ)) (anchor : ℕ) (roots : List Root) :
    Type 0 where
  pub whole : IsFormed shape types old → IsStored shape types old new anchor roots
  pub apart : IsInOrder shape old → ApartKeep shape types old new anchor
  pub own : IsInOrder shape old → NewAreOwn shape types old new anchor
  pub keep : IsInOrder shape old → KeepsElements shape types old new anchor roots
  pub stood : HasChain shape types old anchor

-- what a rewrite leaves
pub record Rewrites (shape : Shape) (types : List SegDef) (old new : List (List ℕ)) (anchor : ℕ)
    (before after : List Root) : Type 0 where
  pub whole : HasRoots shape types old anchor before → IsFormed shape types old
      → IsStored shape types old new anchor after
  pub sequential : IsFormed shape types old → KeepsSequential shape old new
  pub apart : HasRoots shape types old anchor before → IsInOrder shape old → ApartKeep shape types old new anchor
  pub own : HasRoots shape types old anchor before → IsInOrder shape old → NewAreOwn shape types old new anchor
  pub keep : HasRoots shape types old anchor before → IsInOrder shape old → ¬ RootsGain before after
      → KeepsElements shape types old new anchor after
  pub alone : HasRoots shape types old anchor before → RootsDiffer before after
      → ChangesAlone shape types old new anchor before after
  pub few : HasRoots shape types old anchor before → IsInOrder shape old → RootsGain before after → FewChange old new
  pub stay : HasRoots shape types old anchor before → IsInOrder shape old → RootsGain before after
      → SegmentsStay types old new
  pub one : HasRoots shape types old anchor before → IsInOrder shape old → RootsGain before after
      → AddsOne shape types old new anchor
  pub stood : before ≢ after → HasChain shape types old anchor ⊎ ChangesAlone shape types old new anchor before after

-- The interval that such a call names: the one that is damaged where the anchor's chain is broken, and else one that is
-- at fault in the overflow lists, so none where they are in order.
pub record Names (shape : Shape) (types : List SegDef) (area : List (List ℕ)) (anchor ci : ℕ) : Type 0 where
  pub sound : IsInOrder shape area → HasChain shape types area anchor → ⊥
  pub damaged : ¬ HasChain shape types area anchor → ChainFails shape types area anchor ci
  pub lists : HasChain shape types area anchor → ListsFail shape types area anchor ci
