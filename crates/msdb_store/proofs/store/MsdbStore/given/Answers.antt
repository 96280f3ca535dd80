use Rattle.std.proofs.Common.{sym, subst}
use Rattle.std.specs.Prelude.{Ok}
use Rattle.fp_model.specs.FitCalls.{IsFitDeferred}
use Rattle.fp_model.specs.declared.calls.Deferred.TheVariants.{Repl, Isrt}
use Rattle.msdb_store.specs.inside.Steps.{IsGiven}
use Rattle.msdb_store.proofs.Calls.{given_isrt, given_repl}
use Rattle.msdb_store.proofs.store.MsdbStore.given.Goals as goal

pub returns-in_ok-copy-in-Repl : goal.returns-in_ok-copy-in-Repl
returns-in_ok-copy-in-Repl c defs now at =
    subst (λ call. IsGiven defs now call (Ok c.in_ok-copy-in-Repl.field-0)) (sym c.in-Repl.is)
    (subst (λ bytes. IsGiven defs now (Repl c.in-Repl.msdb c.in-Repl.bytes) (Ok bytes))
    (sym c.in_ok-copy-in-Repl.ensures)
    (given_repl defs now at.stages.of at.defined c.in-Repl.msdb c.in-Repl.bytes
    (subst (IsFitDeferred defs) c.in-Repl.is at.fit)))

pub returns-in_ok-copy-in-Isrt : goal.returns-in_ok-copy-in-Isrt
returns-in_ok-copy-in-Isrt c defs now at =
    subst (λ call. IsGiven defs now call (Ok c.in_ok-copy-in-Isrt.field-0)) (sym c.in-Isrt.is)
    (subst (λ bytes. IsGiven defs now (Isrt c.in-Isrt.msdb c.in-Isrt.bytes) (Ok bytes))
    (sym c.in_ok-copy-in-Isrt.ensures)
    (given_isrt defs now at.stages.of at.defined c.in-Isrt.msdb c.in-Isrt.bytes
    (subst (IsFitDeferred defs) c.in-Isrt.is at.fit)))
