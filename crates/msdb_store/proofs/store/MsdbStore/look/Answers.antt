use Rattle.std.proofs.Common.{◌≡◌, ◌∙◌, ◌<◌, sym, ap, subst, Some, length}
use Rattle.std.proofs.lemmas.List.{length-map}
use Rattle.fp_model.specs.declared.database.Msdb.{Msdb}
use Rattle.msdb_store.specs.declared.table.Table.{Table}
use Rattle.std.specs.Option.{option_copied}
use Rattle.msdb_store.specs.Store.{IsOf, found}
use Rattle.msdb_store.proofs.Tables.{found_in, with_room}
use Rattle.key_order.proofs.Ascending.{stands_there}
use Rattle.msdb_store.proofs.store.MsdbStore.look.Goals as goal

pub returns : goal.returns
returns c defs of =
    let msdb : Table → Msdb = λ t. record { segments = t.segments.items } in
    let tables = c.self.inside.tables.items in
    let within : c.args.msdb < length tables = subst (λ n. c.args.msdb < n)
    (ap (λ s. length s.msdbs) (sym c.self.view_is) ∙ length-map tables msdb) c.requires in
    subst (λ s. option_copied c.look.result ≡ found defs s c.args.msdb c.args.key.now) c.self.view_is
    (found_in (λ t. t.fields) msdb defs tables c.args.msdb c.index.result.now c.args.key.now
    (option_copied c.look.result)
    (with_room 0 (subst (IsOf defs) (sym c.self.view_is) of))
    (stands_there tables c.args.msdb c.index.result.now within ∙ ap Some (sym c.index.ensures)) c.look.ensures)
