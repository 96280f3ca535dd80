-- The anchors that a transaction holds, with their roots as it sees them: in order of database and anchor, each once.
use Rattle.std.specs.Prelude.{◌≡◌, ⊤, ℕ, List, [], ◌∷◌, Bool, true, false, ◌&&◌, ◌||◌, ◌==◌, nat_lt, if◌then◌else◌, Option, Some, find}
use Rattle.std.specs.List.{AllByRecursion}
use Rattle.fp_model.specs.declared.calls.AnchorChange.{AnchorChange}
use Rattle.fp_model.specs.declared.database.Db.{Db}
use Rattle.fp_model.specs.State.{roots_at}
use Rattle.dedb_calls.specs.declared.anchors.HeldAnchor.{HeldAnchor}

-- it stands before an anchor: by database, then by number
abbrev pub stands_before : ℕ → ℕ → HeldAnchor → Bool
stands_before dedb anchor a = nat_lt a.dedb dedb || a.dedb == dedb && nat_lt a.anchor anchor

abbrev pub is_anchor_of : ℕ → ℕ → HeldAnchor → Bool
is_anchor_of dedb anchor a = a.dedb == dedb && a.anchor == anchor

-- each stands before all that follow
abbrev pub Ascend : List HeldAnchor → Type 0
Ascend [] = ⊤
Ascend (a ∷ others) = AllByRecursion (λ b. stands_before b.dedb b.anchor a ≡ true) others × Ascend others

-- what is held of an anchor
abbrev pub held_at : List HeldAnchor → ℕ → ℕ → Option HeldAnchor
held_at anchors dedb anchor = find (is_anchor_of dedb anchor) anchors

abbrev pub change_of : HeldAnchor → AnchorChange
change_of a = record { dedb = a.dedb; anchor = a.anchor; roots = a.roots }

-- the anchors that were changed, in their order
abbrev pub changes_in : List HeldAnchor → List AnchorChange
changes_in [] = []
changes_in (a ∷ others) = if a.is_changed then change_of a ∷ changes_in others else changes_in others

-- The roots of those that weren't changed are those of the database.
abbrev pub Sees : Db → List HeldAnchor → Type 0
Sees db anchors =
    (dedb anchor : ℕ) (a : HeldAnchor) → held_at anchors dedb anchor ≡ Some a → a.is_changed ≡ false
    → roots_at db dedb anchor ≡ a.roots
