use Rattle.std.proofs.Common.{◌≡◌, ◌∙◌, ◌<◌, sym, ap, subst, List, Some, length}
use Rattle.std.proofs.lemmas.List.{length-map}
use Rattle.fp_model.specs.declared.database.Msdb.{Msdb}
use Rattle.msdb_store.specs.declared.table.Table.{Table}
use Rattle.fp_model.specs.declared.definitions.MsdbDef.{MsdbDef}
use Rattle.std.specs.Option.{option_copied}
use Rattle.msdb_store.specs.Store.{IsOf, found_after}
use Rattle.msdb_store.proofs.Tables.{after_in, with_room}
use Rattle.key_order.proofs.Ascending.{stands_there}
use Rattle.msdb_store.proofs.store.MsdbStore.after.Goals as goal

at_key : (c : goal.After-above) (defs : List MsdbDef) → IsOf defs c.args.self.now
    → option_copied c.above.result ≡ found_after defs c.args.self.now c.args.msdb (Some c.in-Some.key.now)
at_key c defs of =
    let msdb : Table → Msdb = λ t. record { segments = t.segments.items } in
    let tables = c.self.inside.tables.items in
    let within : c.args.msdb < length tables = subst (λ n. c.args.msdb < n)
    (ap (λ s. length s.msdbs) (sym c.self.view_is) ∙ length-map tables msdb) c.requires in
    subst (λ s. option_copied c.above.result ≡ found_after defs s c.args.msdb (Some c.in-Some.key.now)) c.self.view_is
    (after_in (λ t. t.fields) msdb defs tables c.args.msdb c.index-in-Some.result.now c.in-Some.key.now
    (option_copied c.above.result)
    (with_room 0 (subst (IsOf defs) (sym c.self.view_is) of))
    (stands_there tables c.args.msdb c.index-in-Some.result.now within ∙ ap Some (sym c.index-in-Some.ensures))
    c.above.ensures)

pub returns-in-Some : goal.returns-in-Some
returns-in-Some c defs of =
    subst (λ k. option_copied c.above.result ≡ found_after defs c.args.self.now c.args.msdb (option_copied k))
    (sym c.in-Some.is) (at_key c defs of)
