use Rattle.std.proofs.Common.{subst}
use Rattle.fp_model.specs.FitCalls.{IsFitDeferred}
use Rattle.fp_model.specs.declared.calls.Deferred.TheVariants.{Repl, Isrt}
use Rattle.msdb_store.proofs.Calls.{call_within}
use Rattle.msdb_store.proofs.store.MsdbStore.named.Goals as goal

pub key_of-requires : goal.key_of-requires
key_of-requires c = call_within c.requires.0 c.args.self.now.msdbs (Repl c.in-Repl.msdb c.in-Repl.bytes)
    c.requires.1.each (subst (IsFitDeferred c.requires.0) c.in-Repl.is c.requires.2)

pub key_of-requires-in-Isrt : goal.key_of-requires-in-Isrt
key_of-requires-in-Isrt c = call_within c.requires.0 c.args.self.now.msdbs (Isrt c.in-Isrt.msdb c.in-Isrt.bytes)
    c.requires.1.each (subst (IsFitDeferred c.requires.0) c.in-Isrt.is c.requires.2)
