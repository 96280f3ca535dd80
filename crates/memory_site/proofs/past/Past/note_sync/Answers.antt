use Rattle.std.proofs.Common.{[], refl}
use Rattle.memory_site.specs.declared.call.Call.TheVariants.{Sync}
use Rattle.memory_site.proofs.Histories.{noted, noted_all}
use Rattle.memory_site.proofs.past.Past.note_sync.Goals as goal

pub invariant_of-self : goal.invariant_of-self
invariant_of-self c = let past = c.args.self.now in
    record {
      all_kept = noted_all past.calls.items _ (Sync c.args.set) past.kept.items _ [] c.note.ensures.calls
          c.note.ensures.kept past.all_kept refl;
    }

pub returns : goal.returns
returns c =
    let past = c.args.self.now in
    noted past.start past.calls.items _ (Sync c.args.set) past.kept.items _ [] c.note.ensures.calls c.note.ensures.kept
    past.all_kept
