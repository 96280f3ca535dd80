use Rattle.std.proofs.Common.{◌∷◌, length, refl, ◌∙◌, ap}
use Rattle.std.proofs.Math.Seq.{take-length}
use Rattle.memory_site.specs.declared.call.Call.TheVariants.{Send}
use Rattle.memory_site.specs.History.Event.{Sent}
use Rattle.memory_site.specs.Past.{past_of}
use Rattle.memory_site.proofs.Histories.{noted, noted_all}
use Rattle.memory_site.proofs.past.Past.note_send.Goals as goal

pub invariant_of-self : goal.invariant_of-self
invariant_of-self c = let past = c.args.self.now in
    record {
      all_kept = noted_all past.calls.items _ (Send (length c.args.text.now)) past.kept.items _ c.args.text.now
          c.note.ensures.calls c.note.ensures.kept past.all_kept refl;
    }

pub returns : goal.returns
returns c =
    let past = c.args.self.now in
    noted past.start past.calls.items _ (Send (length c.args.text.now)) past.kept.items _ c.args.text.now
    c.note.ensures.calls c.note.ensures.kept past.all_kept ∙ ap (λ l. Sent l ∷ past_of past)
    (take-length c.args.text.now)
