-- What bodies and proofs need of Calls, beside what contracts say.
use Rattle.std.specs.Prelude.{◌≡◌, ℕ, List, [], Bool, true, false, codes, not, if◌then◌else◌, Option, Some, None, is_some}
use Rattle.fp_model.specs.declared.calls.Answer.{Answer}
use Rattle.fp_model.specs.declared.calls.Get.{Get}
use Rattle.fp_model.specs.declared.calls.Get.TheVariants as get
use Rattle.fp_model.specs.declared.calls.Mode.{Mode}
use Rattle.fp_model.specs.declared.calls.Resource.{Resource}
use Rattle.fp_model.specs.declared.calls.Resource.TheVariants.{Anchor}
use Rattle.fp_model.specs.declared.calls.Ssa.{Ssa}
use Rattle.fp_model.specs.declared.definitions.DedbDef.{DedbDef}
use Rattle.fp_model.specs.Answers.{serves}
use Rattle.fp_model.specs.DedbCalls.{are_get_arguments}
use Rattle.fp_model.specs.Order.{Place}
use Rattle.fp_model.specs.Shape.{has_length}
use Rattle.fp_model.specs.Texts.{same_text, trimmed}
use Rattle.fp_model.specs.Workspace.{DedbPosition}
use Rattle.dedb_calls.specs.Progress.{DedbProgress, position_in}
use Rattle.dedb_calls.specs.inside.Searches.{found_there}
use Rattle.dedb_calls.specs.declared.search.Found.{Found}

-- a get below a parent, where the position has none
abbrev pub lacks_parent_at : DedbPosition → Get → Bool
lacks_parent_at p get.Unique = false
lacks_parent_at p get.Next = false
lacks_parent_at p get.NextInParent = not (is_some p.parent)

-- where a segment was found
abbrev pub place_found : Found → Place
place_found found = record { anchor = found.anchor; path = (found_there found).1.path }

-- the letters of a get that is refused before it looks anywhere
abbrev pub refusal_of : DedbDef → ℕ → DedbProgress → Get → List Ssa → Option (List ℕ)
refusal_of def dedb work get ssas =
    if not (are_get_arguments def dedb ssas) then Some (codes "AM")
    else if lacks_parent_at (position_in work dedb) get then Some (codes "GP")
    else None

-- an anchor is held as strongly as it needs to be
abbrev pub is_locked : (Resource → Option Mode) → ℕ → Mode → ℕ → Bool
is_locked held dedb mode anchor = serves (held (Anchor dedb anchor)) mode

-- an answer that says that it found shows a whole segment of its type
abbrev pub ShowsWhole : DedbDef → Answer → Type 0
ShowsWhole def answer =
    same_text (trimmed answer.status) [] ≡ true → has_length def.segments answer.segment answer.bytes ≡ true

-- letters that don't say so
abbrev pub SaysNot : List ℕ → Type 0
SaysNot status = same_text (trimmed status) [] ≡ false
