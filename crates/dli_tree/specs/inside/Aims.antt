-- What a search looks for below a segment: the part of the position, of the parent and of the arguments that is left
-- there.
use Rattle.std.specs.Prelude.{ℕ, List, [], ◌∷◌, Bool, true, false, not, ◌&&◌, ◌||◌, ◌==◌, if◌then◌else◌, Option, Some, None, option_and_then, option_map, slice_get}
use Rattle.std.specs.List.{list_all, list_any}
use Rattle.std.specs.Option.{option_copied, option_map_or}
use Rattle.fp_model.specs.declared.calls.Ssa.{Ssa}
use Rattle.fp_model.specs.declared.definitions.SegDef.{SegDef}
use Rattle.fp_model.specs.Order.{Occurrence, Step, is_proper_prefix, last_type, line_to, path_precedes, same_step, step_precedes}
use Rattle.fp_model.specs.Texts.{same_text}
use Rattle.dli_tree.specs.Paths.{steps_of}
use Rattle.dli_tree.specs.declared.aim.Aim.{Aim}

-- What a search looks for below a segment of a type: paths from there on that are behind a position and below a parent,
-- where these are given, and that the arguments admit.
pub record Search : Type 0 where
  pub ssas : List Ssa
  pub above : ℕ
  pub behind : Option (List Step)
  pub within : Option (List Step)

abbrev pub is_past : Option (List Step) → List Step → Bool
is_past None path = true
is_past (Some position) path = path_precedes position path

abbrev pub is_inside : Option (List Step) → List Step → Bool
is_inside None path = true
is_inside (Some parent) path = is_proper_prefix parent path

-- the last argument names this type, or there is none
abbrev pub ends_here : List Ssa → ℕ → Bool
ends_here [] type = true
ends_here (ssa ∷ ssas) type = type == last_type ssa.segment ssas

-- the same of the type at the end of a path below a segment of a type
abbrev pub ends_below : List Ssa → ℕ → List Step → Bool
ends_below ssas type [] = ends_here ssas type
ends_below ssas type (s ∷ ss) = ends_below ssas s.segment ss

-- an argument of the step's type has no other key
abbrev pub fits : Step → Ssa → Bool
fits s ssa = if s.segment == ssa.segment then option_map_or (λ key. same_text s.key key) ssa.key true else true

abbrev pub agrees : List Ssa → Step → Bool
agrees ssas s = list_all (fits s) ssas

abbrev pub wants : Search → List Step → Bool
wants aim path =
    (is_past aim.behind path && is_inside aim.within path)
    && (ends_below aim.ssas aim.above path && list_all (agrees aim.ssas) path)

abbrev pub looks_for : Search → Occurrence → Bool
looks_for aim occurrence = wants aim occurrence.path

-- ---- one step down

-- what is left of the position behind which all is looked for, unless nothing is there
abbrev pub past_step : Option (List Step) → Step → Option (Option (List Step))
past_step None d = Some None
past_step (Some []) d = Some None
past_step (Some (s ∷ ss)) d =
    if same_step s d then Some (Some ss) else if step_precedes s d then Some None else None

-- the same of the parent below which all is looked for
abbrev pub inside_step : Option (List Step) → Step → Option (Option (List Step))
inside_step None d = Some None
inside_step (Some []) d = Some None
inside_step (Some (s ∷ ss)) d = if same_step s d then Some (Some ss) else None

-- what is looked for below a step, unless nothing is there
abbrev pub entered : Search → Step → Option Search
entered aim d =
    if agrees aim.ssas d
    then option_and_then (λ behind. option_map (λ within. record aim
    { above = d.segment; behind = behind; within = within })
    (inside_step aim.within d)) (past_step aim.behind d)
    else None

-- ---- arguments and types

-- each qualified argument names a type on the line to this one
abbrev pub can_stand : List SegDef → ℕ → List Ssa → Bool
can_stand types last ssas =
    list_all (λ ssa. option_map_or (λ key. list_any (λ t. t == ssa.segment) (line_to types last)) ssa.key true) ssas

-- the arguments can be met by a path
abbrev pub can_be_met : List SegDef → List Ssa → Bool
can_be_met types [] = true
can_be_met types (ssa ∷ ssas) = can_stand types (last_type ssa.segment ssas) (ssa ∷ ssas)

-- a segment that is looked for may stand at or below one of this type
abbrev pub leads_on : List SegDef → List Ssa → ℕ → Bool
leads_on types [] type = true
leads_on types (ssa ∷ ssas) type = list_any (λ t. t == type) (line_to types (last_type ssa.segment ssas))

-- ---- of the code

abbrev pub aim_of : Aim → Search
aim_of aim = record {
  ssas = aim.ssas.now;
  above = aim.above;
  behind = option_map steps_of (option_copied aim.behind);
  within = option_map steps_of (option_copied aim.within);
}
