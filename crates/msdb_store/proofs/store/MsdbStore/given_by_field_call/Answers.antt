use Rattle.std.proofs.Common.{◌∙◌, ◌<◌, sym, ap, subst, length, arith}
use Rattle.std.proofs.lemmas.List.{length-map}
use Rattle.fp_model.specs.WellFormed.{IsMsdbDef, StandFrom}
use Rattle.fp_model.specs.declared.calls.Deferred.TheVariants.{Fld}
use Rattle.fp_model.specs.declared.database.Msdb.{Msdb}
use Rattle.msdb_store.specs.declared.table.Table.{Table}
use Rattle.msdb_store.specs.Store.{Stored}
use Rattle.msdb_store.proofs.Calls.{all_got, call_within, fields_at, given_changed, whole_in}
use Rattle.fld_calls.proofs.Kept.{has_key}
use Rattle.msdb_store.proofs.store.MsdbStore.given_by_field_call.Goals as goal

abbrev msdb_of : Table → Msdb
msdb_of t = record { segments = t.segments.items }

abbrev no_room : Stored → Stored
no_room s = record s { spare = 0 }

pub current-requires : goal.current-requires
current-requires c = call_within c.requires.0 c.args.self.now.msdbs
    (Fld c.args.key.now.msdb c.args.key.now.key.items c.args.fsas.now) c.requires.2.of.each c.requires.2.fit

pub index-requires : goal.index-requires
index-requires c =
    let within : c.args.key.now.msdb < length c.args.self.now.msdbs =
    call_within c.requires.0 c.args.self.now.msdbs
    (Fld c.args.key.now.msdb c.args.key.now.key.items c.args.fsas.now) c.requires.2.of.each c.requires.2.fit in
    omega (
      arith,
      subst (λ n. c.args.key.now.msdb < n)
          (ap (λ s. length s.msdbs) (sym c.self.view_is) ∙ length-map c.self.inside.tables.items msdb_of) within,
      c.self.inside.tables.ok.0,
    )

pub changed-requires-clause-fields : goal.changed-requires-clause-fields
changed-requires-clause-fields c =
    let at = c.requires.2 in
    let def = at.fit.0.0 in
    let there = at.fit.0.1 in
    let has = has_key def (all_got IsMsdbDef c.requires.0 c.args.key.now.msdb def at.defined there) in
    let whole = whole_in c.requires.0 c.requires.1 at.stages.of c.args.key.now.msdb def there c.args.key.now.key.items
    c.in-Some.segment.now (sym (c.in-Some.ensures c.requires.0 c.requires.1 at.of at.stages)) in
    subst (λ fs. StandFrom 0 fs (length c.in-Some.segment.now))
    (sym (fields_at (λ t. t.fields) msdb_of c.requires.0 c.args.self.now c.self.inside.tables.items
    c.args.key.now.msdb c.index.result.now def (ap no_room c.self.view_is) at.of c.index.ensures there))
    (subst (StandFrom 0 def.fields) (sym whole.long) has.stand)

pub returns : goal.returns
returns c defs now at =
    given_changed defs now at.stages.of at.defined c.args.key.now.msdb c.args.key.now.key.items c.args.fsas.now
    c.in-Some.segment.now c.changed.result at.fit
    (sym (c.in-Some.ensures defs now at.of at.stages))
    (λ def there. c.changed.ensures def (sym (fields_at (λ t. t.fields) msdb_of defs c.args.self.now
    c.self.inside.tables.items c.args.key.now.msdb c.index.result.now def (ap no_room c.self.view_is) at.of
    c.index.ensures there)))
