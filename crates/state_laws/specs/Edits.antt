-- Edits that fit the roots of an anchor.
use Rattle.std.specs.Prelude.{◌≡◌, ⊤, ℕ, List, [], ◌∷◌, true, None, IfSome, slice_get}
use Rattle.std.specs.List.{AllByRecursion}
use Rattle.fp_model.specs.declared.database.Root.{Root}
use Rattle.fp_model.specs.declared.definitions.DedbDef.{DedbDef}
use Rattle.fp_model.specs.declared.definitions.SegDef.{SegDef}
use Rattle.fp_model.specs.Exits.{anchor_of}
use Rattle.fp_model.specs.Order.{Edit, Inserts, Replaces, Deletes, Step, bytes_at, key_in}
use Rattle.fp_model.specs.Shape.{has_length}

-- the path begins at a root, and its steps are of direct segments
abbrev pub AreDirect : List Step → Type 0
AreDirect path = IfSome (slice_get path 0) (λ s. s.segment ≡ 0) × AllByRecursion (λ s. s.serial ≡ 0) path

-- bytes as long as the type at the end of the path, with the key that stands there
abbrev pub FitsEnd : List SegDef → List Step → List ℕ → Type 0
FitsEnd types [] bytes = ⊤
FitsEnd types (s ∷ []) bytes = (has_length types s.segment bytes ≡ true) × (key_in types s.segment bytes ≡ s.key)
FitsEnd types (s ∷ t ∷ ts) bytes = FitsEnd types (t ∷ ts) bytes

-- bytes that an edit puts do so
abbrev pub FitsBytes : List SegDef → List Step → Edit → Type 0
FitsBytes types path (Inserts bytes) = FitsEnd types path bytes
FitsBytes types path (Replaces bytes) = FitsEnd types path bytes
FitsBytes types path Deletes = ⊤

-- what is inserted isn't there yet, and its root is sent to the anchor
abbrev pub IsNew : DedbDef → ℕ → List Root → List Step → Edit → Type 0
IsNew def anchor roots path (Inserts bytes) =
    (bytes_at def.segments roots path ≡ None) × IfSome (slice_get path 0) (λ s. anchor_of def s.key ≡ anchor)
IsNew def anchor roots path (Replaces bytes) = ⊤
IsNew def anchor roots path Deletes = ⊤

-- An edit that fits the roots of an anchor.
pub record FitsEdit (def : DedbDef) (anchor : ℕ) (roots : List Root) (path : List Step) (edit : Edit) : Type 0 where
  pub direct : AreDirect path
  pub bytes_fit : FitsBytes def.segments path edit
  pub new : IsNew def anchor roots path edit
