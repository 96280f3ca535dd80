use Rattle.std.proofs.Common.{◌≡◌, ◌≢◌, Result, Ok, Err, List, ℕ, sym, subst, arith, false, IsTrue}
use Rattle.std.specs.Prelude.{IfOk, IfErr}
use Rattle.fp_model.specs.declared.definitions.Defs.{Defs}
use Rattle.def_tables.specs.Readings.{Gives}
use Rattle.fp_defs.specs.Whole.{defs_of}
use Rattle.def_tables.specs.declared.fault.DefsFault.{DefsFault}
use Rattle.def_tables.specs.declared.fault.DefsFault.TheVariants.{Memory}
use Rattle.fp_defs.proofs.WholeLemmas.{read_document, read_nothing}
use Rattle.fp_defs.proofs.WholeKeeps.{given_are_defs}
use Rattle.fp_defs.proofs.whole.read_text.Goals as goal

given_ok : (text : List ℕ) (result : Result Defs DefsFault)
    → Gives {X = Defs} {Y = Defs} (λ defs. defs) result (defs_of text) → IfOk result (λ defs. defs_of text ≡ Ok defs)
given_ok text (Ok defs) gives = gives
given_ok text (Err fault) gives = tt

given_fault : (text : List ℕ) (result : Result Defs DefsFault)
    → Gives {X = Defs} {Y = Defs} (λ defs. defs) result (defs_of text)
    → IfErr result (λ fault. fault ≢ Memory → defs_of text ≡ Err fault)
given_fault text (Ok defs) gives = tt
given_fault text (Err fault) gives = gives

pub returns-in-Ok : goal.returns-in-Ok
returns-in-Ok c =
    let given : Gives {X = Defs} {Y = Defs} (λ defs. defs) c.defs_in.result (defs_of c.args.bytes.now) =
    subst (Gives {X = Defs} {Y = Defs} (λ defs. defs) c.defs_in.result)
    (sym (read_document c.args.bytes.now _ (omega arith) c.in-Ok.ensures.ok.0 c.in-Ok.ensures.ok.1))
    c.defs_in.ensures
    in
    record {
      ok = given_ok c.args.bytes.now c.defs_in.result given;
      fault =
          given_fault c.args.bytes.now c.defs_in.result given;
      valid =
          given_are_defs c.args.bytes.now c.defs_in.result given;
    }

pub returns-else-is_memory : goal.returns-else-is_memory
returns-else-is_memory c = record {
  ok = tt;
  fault = λ real. read_nothing c.args.bytes.now (omega arith)
      (c.in-Err.ensures.refused (λ is. let said : IsTrue false = c.if-is_memory.ensures.1 is in absurd (cc)));
  valid = tt;
}
