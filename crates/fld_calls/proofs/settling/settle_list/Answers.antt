use Rattle.std.proofs.Common.{◌∙◌, ◌==◌, refl, sym, ap, arith, rules}
use Rattle.fp_model.specs.Fsas.{fsas_in}
use Rattle.fld_calls.specs.Forms.{lent_form_of}
use Rattle.fld_calls.proofs.Fronts.{first_left, none_left}
use Rattle.fld_calls.proofs.SettleLemmas.{bad_letter, good_letter, settles_all, settles_end, settles_not, settles_on}
use Rattle.fld_calls.proofs.settling.settle_list.Goals as goal

pub loop-front-init : goal.loop-front-init
loop-front-init c = record {
  whole = refl;
  settles = settles_all c.args.fields.now c.args.bytes.now c.args.segment.now c.requires.list;
}

pub returns-then-is_err : goal.returns-then-is_err
returns-then-is_err c =
    let s = c.loop-front.invariant.settles in
    let front = c.in-Some.front in
    let e = c.in-Some.ensures in
    settles_not c.args.fields.now (fsas_in c.args.bytes.now) c.args.segment.now c.loop-front.place c.loop-front.rest.now
    c.loop-front.segment (lent_form_of front.fsa) front.rest.now s
    (first_left c.loop-front.rest.now s.left (lent_form_of front.fsa) front.connector front.rest.now s.reads
    e.connector e.rest e.fsa) c.in_ok-found.field-0
    (ap (λ l. l == 32) (sym c.try_fsa.ensures.letter) ∙ bad_letter c.try_fsa.result
    (sym c.is_err.ensures.value ∙ c.if-is_err.true))
    (search rules)

pub loop-front-preserved : goal.loop-front-preserved
loop-front-preserved c =
    let s = c.loop-front.invariant.settles in
    let front = c.in-Some.front in
    let e = c.in-Some.ensures in
    record {
      whole = omega (arith, c.try_fsa.auto.segment, c.loop-front.invariant.whole);
      settles = settles_on c.args.fields.now (fsas_in c.args.bytes.now) c.args.segment.now c.loop-front.place
          c.loop-front.rest.now c.loop-front.segment (lent_form_of front.fsa) front.rest.now s
          (first_left c.loop-front.rest.now s.left (lent_form_of front.fsa) front.connector front.rest.now s.reads
          e.connector e.rest e.fsa) c.try_fsa.new.segment
          (sym (good_letter c.try_fsa.result (sym c.is_err.ensures.value ∙ c.if-is_err.false)) ∙
          c.try_fsa.ensures.letter) c.try_fsa.ensures.segment;
    }

pub returns : goal.returns
returns c =
    let s = c.loop-front.invariant.settles in
    settles_end c.args.fields.now (fsas_in c.args.bytes.now) c.args.segment.now c.loop-front.place c.loop-front.rest.now
    c.loop-front.segment s (none_left c.loop-front.rest.now s.left s.reads c.in_default.ensures.none)
