-- A root whose newest serial is set.
use Rattle.std.specs.Prelude.{ℕ, zero, suc, List, [], ◌∷◌}
use Rattle.ci_space.specs.declared.intervals.Shape.{Shape}
use Rattle.fp_model.specs.declared.definitions.SegDef.{SegDef}
use Rattle.fp_model.specs.declared.database.Root.{Root}
use Rattle.anchor_elements.specs.Elements.{Pointer, Segment}
use Rattle.anchor_elements.specs.Puts.{PutsSegment}
use Rattle.root_anchor.specs.Chains.{newest, root_of}
use Rattle.root_anchor.specs.Roots.{IsRootAt}

-- roots of which that of this number has another newest serial
abbrev pub with_newest : ℕ → ℕ → List Root → List Root
with_newest number serial [] = []
with_newest zero serial (root ∷ roots) = record root { seqs = newest serial } ∷ roots
with_newest (suc k) serial (root ∷ roots) = root ∷ with_newest k serial roots

-- the element of an anchor's root of this number says another newest serial; what else it says stays, every other
-- element, and every other interval
pub record SetsNewest (shape : Shape) (types : List SegDef) (old new : List (List ℕ)) (anchor number serial : ℕ) : Type
    0
  where
    pub place : Pointer
    pub segment : Segment
    pub is_root : IsRootAt types old (root_of shape old anchor) number place segment
    pub puts : PutsSegment types old new 0 place (record segment { serial = serial })
