use Rattle.std.proofs.Common.{◌∙◌, sym, ap}
use Rattle.std.specs.Prelude.{position}
use Rattle.fp_model.specs.declared.definitions.DedbDef.{DedbDef}
use Rattle.fp_model.specs.declared.definitions.MsdbDef.{MsdbDef}
use Rattle.txn_tokens.specs.Lookups.{has_name}
use Rattle.txn_tokens.proofs.LookupLemmas.{db_main, db_entry, db_none}
use Rattle.txn_tokens.proofs.lookups.db_of.Goals as goal

pub returns-in-Some : goal.returns-in-Some
returns-in-Some c = record {
  exact = db_main c.args.defs.now c.args.name.now c.in-Some.place
      (ap (position (λ (def : MsdbDef). has_name c.args.name.now def.name)) (sym c.as_slice.ensures)
      ∙ sym c.msdb_place.ensures ∙ c.in-Some.is);
}

pub returns-in-Some-dedb_place : goal.returns-in-Some-dedb_place
returns-in-Some-dedb_place c = record {
  exact = rw c.len.ensures (db_entry c.args.defs.now c.args.name.now c.in-Some-dedb_place.place
      (ap (position (λ (def : MsdbDef). has_name c.args.name.now def.name)) (sym c.as_slice.ensures)
      ∙ sym c.msdb_place.ensures ∙ c.in-None.is)
      (ap (position (λ (def : DedbDef). has_name c.args.name.now def.name)) (sym c.as_slice-in-None.ensures)
      ∙ sym c.dedb_place.ensures ∙ c.in-Some-dedb_place.is));
}

pub returns-in-None-dedb_place : goal.returns-in-None-dedb_place
returns-in-None-dedb_place c = record {
  exact = db_none c.args.defs.now c.args.name.now
      (ap (position (λ (def : MsdbDef). has_name c.args.name.now def.name)) (sym c.as_slice.ensures)
      ∙ sym c.msdb_place.ensures ∙ c.in-None.is)
      (ap (position (λ (def : DedbDef). has_name c.args.name.now def.name)) (sym c.as_slice-in-None.ensures)
      ∙ sym c.dedb_place.ensures ∙ c.in-None-dedb_place.is);
}
