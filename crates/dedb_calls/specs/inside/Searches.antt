-- Searches over the anchors of a database.
use Rattle.std.specs.Prelude.{◌≡◌, ℕ, ◌-◌, List, Bool, true, ◌==◌, nat_lt, if◌then◌else◌, Option, Some, None}
use Rattle.fp_model.specs.declared.calls.Get.{Get}
use Rattle.fp_model.specs.declared.calls.Ssa.{Ssa}
use Rattle.fp_model.specs.declared.database.Root.{Root}
use Rattle.fp_model.specs.declared.definitions.DedbDef.{DedbDef}
use Rattle.fp_model.specs.DedbCalls.{begins_behind, first_found, first_unlocked, stays_below}
use Rattle.fp_model.specs.Order.{Occurrence, Place, Step, first_admitted}
use Rattle.fp_model.specs.State.{numbers_up}
use Rattle.dli_tree.specs.Paths.{occurrence_of}
use Rattle.dedb_calls.specs.Anchors.{held_at}
use Rattle.dedb_calls.specs.Progress.{DedbProgress, position_in}
use Rattle.dedb_calls.specs.inside.Progress.{roots_in}
use Rattle.dedb_calls.specs.declared.anchors.HeldAnchor.{HeldAnchor}
use Rattle.dedb_calls.specs.declared.search.Found.{Found}
use Rattle.dedb_calls.specs.declared.search.Looked.{Looked}
use Rattle.dedb_calls.specs.declared.search.Looked.TheVariants as looked
use Rattle.dedb_calls.specs.declared.search.Stretch.{Stretch}

-- what is left of the place behind which all is looked for, at an anchor, unless nothing there is behind it
abbrev pub behind_here : Option Place → ℕ → Option (Option (List Step))
behind_here None anchor = Some None
behind_here (Some p) anchor =
    if p.anchor == anchor then Some (Some p.path) else if nat_lt p.anchor anchor then Some None else None

-- the same of the parent below which all is looked for
abbrev pub within_here : Option Place → ℕ → Option (Option (List Step))
within_here None anchor = Some None
within_here (Some p) anchor = if p.anchor == anchor then Some (Some p.path) else None

-- what a get finds at an anchor that is held
abbrev pub look_in : DedbDef → ℕ → DedbProgress → Get → List Ssa → ℕ → Option Occurrence
look_in def dedb work get ssas anchor =
    first_admitted def.segments anchor (roots_in work.anchors dedb anchor)
    (begins_behind def dedb (position_in work dedb) get) (stays_below def dedb (position_in work dedb) get) ssas

-- roots that are held of an anchor, which is locked as it needs to be
pub record HasRoots (dedb anchor : ℕ) (held : List HeldAnchor) (roots : List Root) (is_locked : Bool) : Type 0 where
  pub locked : is_locked ≡ true
  pub one : HeldAnchor
  pub there : held_at held dedb anchor ≡ Some one
  pub its : roots ≡ one.roots

abbrev pub numbers_in : Stretch → List ℕ
numbers_in stretch = numbers_up (stretch.to - stretch.from) stretch.from

abbrev pub found_there : Found → ℕ × Occurrence
found_there found = (found.anchor, occurrence_of (found.path, found.bytes))

-- What a search over these anchors came to: the first that isn't locked, what was found at the first where something
-- is, or nothing.
abbrev pub HasLooked : Looked → (ℕ → Bool) → (ℕ → Option Occurrence) → List ℕ → Type 0
HasLooked (looked.Unlocked anchor) is_locked look anchors = first_unlocked is_locked look anchors ≡ Some anchor
HasLooked (looked.Found found) is_locked look anchors =
    (first_unlocked is_locked look anchors ≡ None) × (first_found look anchors ≡ Some (found_there found))
HasLooked looked.Nothing is_locked look anchors =
    (first_unlocked is_locked look anchors ≡ None) × (first_found look anchors ≡ None)
