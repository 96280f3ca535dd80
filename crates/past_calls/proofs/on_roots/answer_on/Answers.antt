use Rattle.std.proofs.Common.{◌≡◌, ◌∙◌, ◌+◌, ◌≤◌, List, Some, arith, ap, refl, sym, subst, true}
use Rattle.dedb_calls.specs.Anchors.{Sees}
use Rattle.dli_tree.specs.InOrder.{any_ends}
use Rattle.fp_model.specs.declared.calls.Resource.TheVariants.{Anchor}
use Rattle.fp_model.specs.declared.database.Root.{Root}
use Rattle.fp_model.specs.Calls.{database_of, reply_to, target_of}
use Rattle.fp_model.specs.Shape.{is_anchor}
use Rattle.fp_model.specs.Workspace.{Workspace}
use Rattle.past_calls.specs.inside.Needs.{lacking_on}
use Rattle.past_calls.specs.Progress.{Progress}
use Rattle.past_calls.specs.Targets.{anchor_needed}
use Rattle.past_calls.proofs.HandLemmas.{any_target, few_on, fewer_on, fits_still, leaves_on, still_sees}
use Rattle.past_calls.proofs.on_roots.answer_on.Goals as goal

pub loop-init : goal.loop-init
loop-init g c = record {
  of = c.requires.work;
  own = refl;
  changed = refl;
  sees = λ now roots sees. sees;
  few = let few = few_on c.args.defs.now (database_of c.args.call.now) c.args.work.now c.args.call.now c.requires.dedbs in
      omega (arith, few);
}

pub answer-requires-clause-call : goal.answer-requires-clause-call
answer-requires-clause-call g c =
    fits_still (target_of c.args.defs.now (database_of c.args.call.now)) c.args.work.now c.loop.work c.args.call.now
    c.loop.invariant.own c.requires.call

pub returns-in-Answer-clause-answer : goal.returns-in-Answer-clause-answer
returns-in-Answer-clause-answer g c now visible same other roots sees =
    let here = c.loop.invariant.sees now roots sees in
    let so = rw c.in-Answer.is at (c.in_ok-answer.ensures.answer now visible same other
    (any_target (target_of c.args.defs.now (database_of c.args.call.now)) (Sees now c.loop.work.anchors) here)) in
    subst (λ (own : Workspace). reply_to c.args.defs.now now visible own c.args.call.now
    ≡ record { answer = c.in-Answer.answer; own = c.answer.new.work.own }) c.loop.invariant.own so

pub returns-in-Answer-clause-sees : goal.returns-in-Answer-clause-sees
returns-in-Answer-clause-sees g c now roots sees =
    still_sees (target_of c.args.defs.now (database_of c.args.call.now)) c.loop.work c.answer.new.work now
    c.answer.ensures.others (c.loop.invariant.sees now roots sees)

pub returns-in-Answer-clause-leaves : goal.returns-in-Answer-clause-leaves
returns-in-Answer-clause-leaves g c =
    leaves_on (target_of c.args.defs.now (database_of c.args.call.now)) c.args.work.now c.loop.work c.answer.new.work
    c.loop.invariant.own c.loop.invariant.changed c.answer.ensures.others

-- the anchor is handed in
pub loop-preserved : goal.loop-preserved
loop-preserved g c =
    let call = c.args.call.now in
    let target = target_of c.args.defs.now (database_of call) in
    let dedb = c.in-Need.dedb in
    let anchor = c.in-Need.anchor in
    let (now, roots, sees) = c.requires.somewhere in
    let still : c.answer.new.work ≡ c.loop.work = rw c.in-Need.is at c.in_ok-answer.ensures.needing in
    let own : c.hold_anchor.new.self.own ≡ c.answer.new.work.own =
    ap (λ (w : Progress). w.own) c.hold_anchor.ensures.same in
    let needs : Some (Anchor dedb anchor) ≡ anchor_needed target now c.loop.work call =
    rw c.in-Need.is at (c.in_ok-answer.ensures.need now
    (any_target target (Sees now c.loop.work.anchors) (c.loop.invariant.sees now roots sees))) in
    let fewer : lacking_on target c.hold_anchor.new.self call + 1 ≤ lacking_on target c.answer.new.work call =
    fewer_on now c.answer.new.work c.hold_anchor.new.self call dedb anchor own
    c.in_ok-hold_anchor-in-Need.ensures.has c.hold_anchor.ensures.others target
    (subst (λ (w : Progress). Some (Anchor dedb anchor) ≡ anchor_needed target now w call) (sym still) needs) in
    let same : lacking_on target c.answer.new.work call ≡ lacking_on target c.loop.work call =
    ap (λ (w : Progress). lacking_on target w call) still in
    record {
      of =
          c.hold_anchor.ensures.of c.args.defs.now
          (λ def at. subst (λ (rs : List Root). is_anchor def anchor any_ends rs ≡ true)
          (sym c.in_ok-roots-in-Need.ensures) (c.requires.shapes dedb anchor def at))
          c.answer.ensures.of;
      own = own ∙ ap (λ (w : Progress). w.own) still ∙ c.loop.invariant.own;
      changed =
          ap (λ (w : Progress). w.changed) c.hold_anchor.ensures.same ∙ ap (λ (w : Progress). w.changed) still
          ∙ c.loop.invariant.changed;
      sees = λ at its seen.
          c.hold_anchor.ensures.sees at (its dedb anchor ∙ sym c.in_ok-roots-in-Need.ensures)
          (subst (λ (w : Progress). Sees at w.anchors) (sym still) (c.loop.invariant.sees at its seen));
      few = let few = c.loop.invariant.few in omega (arith, fewer, same, few);
    }
