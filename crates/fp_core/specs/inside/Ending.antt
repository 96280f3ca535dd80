-- What a transaction under way comes to: the draft of its sync point, or the entry of one that is refused by itself.
use Rattle.std.specs.Prelude.{⊤, ℕ, List, []}
use Rattle.fp_model.specs.declared.log.Entry.{Entry}
use Rattle.fp_model.specs.declared.log.Outcome.{Outcome}
use Rattle.fp_model.specs.declared.log.Outcome.TheVariants as outcome
use Rattle.sync_point.specs.declared.committing.Draft.{Draft}
use Rattle.fp_core.specs.declared.engine.Active.{Active}

-- the outcomes by which one is refused by itself
abbrev pub IsRefusal : Outcome → Type 0
IsRefusal (outcome.Verify call fsa found) = ⊤
IsRefusal (outcome.Roll code) = ⊤
IsRefusal (outcome.SeqFull set begin end n) = ⊤
IsRefusal (outcome.Deadlock cycle) = ⊤
IsRefusal _ = ⊥

-- its entry then, with these notes
abbrev pub refused_entry : Active → Outcome → List ℕ → Entry
refused_entry active outcome notes = record {
  from = active.from;
  outcome = outcome;
  line = active.message.line;
  reply = [];
  notes = notes;
  items = [];
}

-- what it hands to its sync point, with this reply
abbrev pub draft_of : Active → List ℕ → Draft
draft_of active reply = record {
  from = active.from;
  line = active.message.line;
  reply = reply;
  notes = active.work.notes;
  deferred = active.work.own.deferred;
}
