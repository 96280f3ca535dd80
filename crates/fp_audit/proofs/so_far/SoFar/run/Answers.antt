use Rattle.std.proofs.Common.{◌∙◌, ◌+◌, ap, sym, subst, length, take, drop, ◌++◌, List}
use Rattle.fp_model.specs.History.{states_of}
use Rattle.fp_model.specs.SerialHistory.{NeverFalls}
use Rattle.past_segments.specs.Times.{Past}
use Rattle.past_replay.specs.Ends.{with_next}
use Rattle.past_replay.specs.States.{AreStatesOf, state_at}
use Rattle.fp_audit.specs.inside.Judging.{rules_by}
use Rattle.fp_audit.proofs.Founds.{found_run}
use Rattle.fp_audit.proofs.StateLemmas.{all_changed, notes_within}
use Rattle.fp_audit.proofs.so_far.SoFar.run.Goals as goal

pub replay-requires-clause-notes : goal.replay-requires-clause-notes
replay-requires-clause-notes g c = notes_within c.args.e.now.from c.args.self.now.place c.args.e.now.notes c.requires.order

pub returns-clause-found : goal.returns-clause-found
returns-clause-found g c = λ h stands asks.
    let it = c.args.self.now in
    let e = c.args.e.now in
    let old = it.pasts.items in
    let new = c.replay.new.pasts in
    let place = it.place in
    let kept = all_changed old new it.pasts.len (c.replay.auto.pasts ∙ ap length c.deref_mut.ensures.value)
    (sym c.deref_mut.ensures.len ∙ ap length c.deref_mut.ensures.value) in
    let alone = c.in_ok-alone.alone in
    found_run (rules_by it) h e c.args.message.now
    (state_at (place + 1) (take it.pasts.len (new ++ drop (length new) old)) c.replay.new.anchors) alone c.ends_as.result asks
    (subst (λ p. NeverFalls e.from e.notes p) stands.place c.requires.order)
    (c.in_ok-alone.ensures.alone h.now (states_of h)
    (subst (λ ps. AreStatesOf ps it.anchors place h.now (states_of h)) (sym c.deref_mut.ensures.value) stands.states)
    ∙ ap (λ (ps : List Past). with_next (state_at (place + 1) ps c.replay.new.anchors) alone) (sym kept))
    c.ends_as.ensures
