use Rattle.std.proofs.Common.{◌∙◌, arith}
use Rattle.fp_model.specs.Fsas.{fsas_in}
use Rattle.fld_calls.specs.Forms.{lent_form_of}
use Rattle.fld_calls.proofs.Fronts.{first_left, none_left}
use Rattle.fld_calls.proofs.ListLemmas.{tries_all, tries_end, tries_on}
use Rattle.fld_calls.proofs.trying.try_list.Goals as goal

pub loop-front-init : goal.loop-front-init
loop-front-init c = record {
  whole = c.requires.whole;
  tries = rw c.new-letters.ensures (tries_all c.args.def.now c.args.bytes.now c.args.segment.now c.requires.list);
}

pub loop-front-preserved : goal.loop-front-preserved
loop-front-preserved c =
    let t = c.loop-front.invariant.tries in
    let front = c.in-Some.front in
    let e = c.in-Some.ensures in
    record {
      whole = omega (arith, c.try_fsa-outcome.auto.segment, c.loop-front.invariant.whole);
      tries = rw c.in_ok-push.ensures.ok (tries_on c.args.def.now (fsas_in c.args.bytes.now) c.args.segment.now
          c.loop-front.letters c.loop-front.rest.now c.loop-front.segment (lent_form_of front.fsa) front.rest.now t
          (first_left c.loop-front.rest.now t.left (lent_form_of front.fsa) front.connector front.rest.now t.reads
          e.connector e.rest e.fsa) c.letter.result c.try_fsa-outcome.new.segment
          (c.letter.ensures ∙ c.try_fsa-outcome.ensures.letter) c.try_fsa-outcome.ensures.segment);
    }

pub returns-clause-letters : goal.returns-clause-letters
returns-clause-letters c =
    let t = c.loop-front.invariant.tries in
    (tries_end c.args.def.now (fsas_in c.args.bytes.now) c.args.segment.now c.loop-front.letters c.loop-front.rest.now
    c.loop-front.segment t (none_left c.loop-front.rest.now t.left t.reads c.in_default.ensures.none)).0

pub returns-clause-segment : goal.returns-clause-segment
returns-clause-segment c =
    let t = c.loop-front.invariant.tries in
    (tries_end c.args.def.now (fsas_in c.args.bytes.now) c.args.segment.now c.loop-front.letters c.loop-front.rest.now
    c.loop-front.segment t (none_left c.loop-front.rest.now t.left t.reads c.in_default.ensures.none)).1
