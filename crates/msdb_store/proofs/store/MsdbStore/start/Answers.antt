use Rattle.std.proofs.Common.{rules, ap, List, ℕ}
use Rattle.fp_model.specs.declared.database.Msdb.{Msdb}
use Rattle.msdb_store.proofs.Loads.{next_table}
use Rattle.msdb_store.proofs.store.MsdbStore.start.Goals as goal

abbrev to_msdb : List (List ℕ) → Msdb
to_msdb segments = record { segments = segments }

pub loop-def-init : goal.loop-def-init
loop-def-init c = record { layouts = search rules; segments = search rules; each = search rules; few = search rules }

pub loop-def-preserved : goal.loop-def-preserved
loop-def-preserved c =
    next_table _ _ c.as_slice-def-items.result.now c.loop-def.def-index c.def-item.result c.loop-def.tables.items
    c.push.new.self.items c.in_ok-loaded.field-0
    (search rules) (search rules) c.loop-def.invariant c.in_ok-push.ensures.items c.in_ok-loaded.ensures.fields
    (ap to_msdb c.in_ok-loaded.ensures.segments) c.in_ok-loaded.ensures.good c.in_ok-loaded.ensures.few
