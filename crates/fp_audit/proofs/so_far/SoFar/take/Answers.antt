use Rattle.std.proofs.Common.{◌∙◌, ◌+◌, ap, sym, subst, refl}
use Rattle.fp_model.specs.Entries.{MayStandAt}
use Rattle.fp_model.specs.History.{states_of, with_entry}
use Rattle.fp_model.specs.SerialHistory.{Leads}
use Rattle.past_replay.specs.States.{AreStatesOf, state_at}
use Rattle.fp_audit.specs.inside.Judging.{Finds, rules_by}
use Rattle.fp_audit.specs.Numbers.{KnowsLines}
use Rattle.fp_audit.proofs.StateLemmas.{place_more, states_more}
use Rattle.fp_audit.proofs.so_far.SoFar.take.Goals as goal

pub returns-clause-legal : goal.returns-clause-legal
returns-clause-legal g c = λ h stands is.
    let it = c.args.self.now in
    let e = c.args.e.now in
    let new = c.leads.new.self in
    let keeps = c.leads.ensures.keeps in
    let next = state_at (it.place + 1) new.pasts.items new.anchors in (
      next,
      (
        record {
          form = subst (λ p. MayStandAt p e) stands.place (c.may_stand.ensures.0 c.if-not-may_stand.false);
          leads = subst (λ b. Finds (Leads (rules_by it) h e e.outcome) next b) c.if-not-branch.false
              (c.in_ok-leads.ensures.found h stands);
        },
        record {
          lines = c.in_ok-learn.ensures h next
              (subst (λ r. KnowsLines r.format r.lasts.entries h) (sym keeps.requests) stands.lines);
          place = c.in-Some.ensures.1 ∙ ap (λ p. p + 1) stands.place ∙ sym (place_more h e next);
          states = subst (λ p. AreStatesOf new.pasts.items new.anchors p next (states_of (with_entry e next h))) (sym c.in-Some.ensures.1)
              (states_more it.pasts.items new.pasts.items it.anchors new.anchors it.place h e next stands.states keeps.before refl);
        },
      ),
    )
