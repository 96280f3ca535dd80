-- Inserts and edits: what is judged of an insert, and what an edit leaves.
use Rattle.std.specs.Prelude.{◌≡◌, ⊤, ℕ, List, [], ◌∷◌, ◌++◌, Bool, true, false, slice_set}
use Rattle.fp_model.specs.declared.calls.SeqInsert.{SeqInsert}
use Rattle.fp_model.specs.declared.calls.Ssa.{Ssa}
use Rattle.fp_model.specs.declared.database.Root.{Root}
use Rattle.fp_model.specs.declared.definitions.DedbDef.{DedbDef}
use Rattle.fp_model.specs.declared.definitions.SegDef.{SegDef}
use Rattle.fp_model.specs.DedbCalls.{anchor_of_path, are_insert_arguments, insert_path, type_of_last}
use Rattle.fp_model.specs.FitCalls.{AreFitSsas}
use Rattle.fp_model.specs.Order.{Step, last_type}
use Rattle.fp_model.specs.Shape.{has_length}
use Rattle.fp_model.specs.Workspace.{DedbPosition}
use Rattle.dli_tree.specs.Descents.{AreDirect}
use Rattle.dli_tree.specs.Paths.{steps_of}
use Rattle.dedb_calls.specs.inside.Anchors.{IsEdited}
use Rattle.dedb_calls.specs.Progress.{DedbProgress, position_in}
use Rattle.dedb_calls.specs.inside.Progress.{with_position_at}
use Rattle.dedb_calls.specs.declared.insert.Judged.{Judged}
use Rattle.dedb_calls.specs.declared.insert.NewSegment.{NewSegment}
use Rattle.dedb_calls.specs.declared.insert.Judged.TheVariants as judged

-- The path of an insert: its arguments are such, fit the types, and the bytes are as long as the type that they name
-- last.
pub record IsInsert (def : DedbDef) (dedb : ℕ) (ssas : List Ssa) (path : List Step) (bytes : List ℕ) : Type 0 where
  pub arguments : are_insert_arguments def dedb ssas ≡ true
  pub path_is : path ≡ insert_path def dedb ssas bytes
  pub fits : AreFitSsas def.segments ssas
  pub long : has_length def.segments (last_type 0 ssas) bytes ≡ true

-- a new segment of an insert with these arguments
pub record IsNewOf (def : DedbDef) (dedb : ℕ) (ssas : List Ssa) (new : NewSegment) : Type 0 where
  pub insert : IsInsert def dedb ssas (steps_of new.path.steps) new.bytes
  pub segment : new.segment ≡ type_of_last def dedb ssas
  pub anchor : new.anchor ≡ anchor_of_path def dedb (steps_of new.path.steps)

-- a path of direct segments, or none at all
abbrev pub AreDirectOrNone : List SegDef → List Step → Type 0
AreDirectOrNone types [] = ⊤
AreDirectOrNone types (s ∷ ss) = AreDirect types (s ∷ ss)

-- what becomes of an insert, by whether its anchor is locked, its parents stand, its type is sequential, and it is
-- there
abbrev pub HasJudged : Judged → Bool → Bool → Bool → Bool → Type 0
HasJudged judged.Unlocked locked parents sequential there = locked ≡ false
HasJudged judged.NoParent locked parents sequential there = (locked ≡ true) × (parents ≡ false)
HasJudged judged.Sequential locked parents sequential there =
    (locked ≡ true) × (parents ≡ true) × (sequential ≡ true)
HasJudged judged.There locked parents sequential there =
    (locked ≡ true) × (parents ≡ true) × (sequential ≡ false) × (there ≡ true)
HasJudged judged.Free locked parents sequential there =
    (locked ≡ true) × (parents ≡ true) × (sequential ≡ false) × (there ≡ false)

-- with one more insert in the queue, and without a hold
abbrev pub with_queued : ℕ → SeqInsert → DedbProgress → DedbProgress
with_queued dedb i work =
    record (with_position_at dedb (record (position_in work dedb) { held = false }) work)
    { inserts = work.inserts ++ i ∷ [] }

-- What an edit of an anchor leaves: other roots there, a position, and a queue.
pub record IsEditedTo (dedb anchor : ℕ) (roots : List Root) (p : DedbPosition) (queue : List SeqInsert)
    (old new : DedbProgress) : Type 0 where
  pub anchors : IsEdited dedb anchor roots old.anchors new.anchors
  pub positions : new.positions ≡ slice_set old.positions dedb p
  pub inserts : new.inserts ≡ queue
