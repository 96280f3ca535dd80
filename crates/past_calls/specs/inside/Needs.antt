-- The anchors that a call may need, and of how many of them a transaction has no roots.
use Rattle.std.specs.Prelude.{ℕ, suc, List, [], ◌∷◌, Bool, if◌then◌else◌, Option, Some, None, is_some}
use Rattle.fp_model.specs.declared.calls.Call.{Call}
use Rattle.fp_model.specs.declared.calls.Call.TheVariants as call
use Rattle.fp_model.specs.declared.definitions.DedbDef.{DedbDef}
use Rattle.fp_model.specs.Calls.{Target, OnMsdb, OnDedb, Nowhere}
use Rattle.fp_model.specs.DedbCalls.{anchor_of_path, anchors_searched, held_place, insert_path, position_of, root_named}
use Rattle.fp_model.specs.Order.{Place}
use Rattle.fp_model.specs.Workspace.{Workspace}
use Rattle.dedb_calls.specs.Anchors.{held_at}
use Rattle.past_calls.specs.Progress.{Progress}

abbrev pub anchors_at : Option Place → List ℕ
anchors_at None = []
anchors_at (Some place) = place.anchor ∷ []

-- in the order in which it looks at them
abbrev pub may_need : DedbDef → ℕ → Workspace → Call → List ℕ
may_need def dedb own (call.Get get hold n ssas) =
    anchors_searched def dedb (position_of def dedb own) get (root_named def dedb ssas)
may_need def dedb own (call.Fld n key fsas) = []
may_need def dedb own (call.Isrt n ssas bytes) = anchor_of_path def dedb (insert_path def dedb ssas bytes) ∷ []
may_need def dedb own (call.Repl n bytes) = anchors_at (held_place def dedb own)
may_need def dedb own (call.Dlet n) = anchors_at (held_place def dedb own)

abbrev pub lacking : (ℕ → Bool) → List ℕ → ℕ
lacking has [] = 0
lacking has (n ∷ ns) = if has n then lacking has ns else suc (lacking has ns)

-- of its anchors, those whose roots the transaction lacks
abbrev pub lacking_on : Target → Progress → Call → ℕ
lacking_on (OnMsdb def msdb) work c = 0
lacking_on (OnDedb def dedb) work c =
    lacking (λ n. is_some (held_at work.anchors dedb n)) (may_need def dedb work.own c)
lacking_on Nowhere work c = 0
