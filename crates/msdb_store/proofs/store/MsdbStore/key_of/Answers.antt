use Rattle.std.proofs.Common.{◌∙◌, ◌<◌, sym, ap, subst, take, Some, length}
use Rattle.std.proofs.lemmas.List.{length-map}
use Rattle.fp_model.specs.State.{key_of as key_of_fields}
use Rattle.fp_model.specs.declared.database.Msdb.{Msdb}
use Rattle.msdb_store.specs.declared.table.Table.{Table}
use Rattle.msdb_store.specs.Store.{IsOf}
use Rattle.key_order.proofs.Ascending.{stands_there}
use Rattle.msdb_store.proofs.Calls.{key_by}
use Rattle.msdb_store.proofs.Tables.{belongs, with_room}
use Rattle.msdb_store.proofs.store.MsdbStore.key_of.Goals as goal

pub returns : goal.returns
returns c defs of =
    let msdb : Table → Msdb = λ t. record { segments = t.segments.items } in
    let tables = c.self.inside.tables.items in
    let within : c.args.msdb < length tables = subst (λ n. c.args.msdb < n)
    (ap (λ s. length s.msdbs) (sym c.self.view_is) ∙ length-map tables msdb) c.requires in
    let b = belongs (λ t. t.fields) msdb defs tables c.args.msdb c.index.result.now
    (with_room 0 (subst (IsOf defs) (sym c.self.view_is) of))
    (stands_there tables c.args.msdb c.index.result.now within ∙ ap Some (sym c.index.ensures)) in
    c.key_in.ensures ∙ ap (take c.key_length.result) c.as_slice.ensures ∙ ap (λ n. take n c.args.bytes.now)
    c.key_length.ensures ∙ ap (λ fs. key_of_fields fs c.args.bytes.now) b.same ∙ sym
    (key_by defs c.args.msdb b.def c.args.bytes.now b.there)
