use Rattle.std.proofs.Common.{◌≡◌, ◌≢◌, ◌∙◌, ◌+◌, ◌<◌, true, false, if◌then◌else◌, length, ap, sym, arith}
use Rattle.fp_model.specs.Fsas.{Fsa, Whole}
use Rattle.fld_calls.specs.declared.arguments.Fsa.{Fsa as Argument}
use Rattle.fld_calls.specs.Forms.{form_of, forms}
use Rattle.fld_calls.specs.inside.Forms.{is_last}
use Rattle.fld_calls.proofs.ReadLemmas.{at-start, at-short, at-bad, at-last, at-more, forms-more, short-more}
use Rattle.fld_calls.proofs.layout.read_list.Goals as goal

pub loop-front-init : goal.loop-front-init
loop-front-init c = record {
  within = omega arith;
  stands = rw c.new-fsas.ensures (at-start c.args.bytes.now);
  short =
      rw c.new-fsas.ensures tt;
}

pub returns-in_default-clause-exact : goal.returns-in_default-clause-exact
returns-in_default-clause-exact c =
    at-short c.args.bytes.now (forms c.loop-front.fsas) c.loop-front.place c.loop-front.rest.now
    c.loop-front.invariant.stands c.in_default.ensures.none

pub returns-then-front-connector-clause-exact : goal.returns-then-front-connector-clause-exact
returns-then-front-connector-clause-exact c =
    let front = c.in-Some.front in
    let e = c.in-Some.ensures in
    let bad : front.connector ≢ (if is_last front.rest.now then 32 else 42) =
    rw (c.connector.ensures, c.is_last-last.ensures) at c.if-front-connector.true in
    at-bad c.loop-front.rest.now _ front.connector (length front.fsa.operand.now) front.rest.now e.connector e.operand
    e.rest e.fsa c.args.bytes.now (forms c.loop-front.fsas) c.loop-front.place c.loop-front.invariant.stands bad

pub returns-then-last-clause-exact : goal.returns-then-last-clause-exact
returns-then-last-clause-exact c =
    let front = c.in-Some.front in
    let e = c.in-Some.ensures in
    let last : is_last front.rest.now ≡ true = sym c.is_last-last.ensures ∙ c.if-last.true in
    let good : front.connector ≡ (if is_last front.rest.now then 32 else 42) =
    rw (c.connector.ensures, c.is_last-last.ensures) at c.if-front-connector.false in
    let blank : front.connector ≡ 32 = rw last at good in
    let fsa : Argument = c.in_ok-to_fsa.field-0 in
    at-last c.loop-front.rest.now (form_of fsa) front.connector (length front.fsa.operand.now) front.rest.now
    e.connector
    e.operand e.rest (e.fsa ∙ sym c.in_ok-to_fsa.ensures) c.args.bytes.now (forms c.loop-front.fsas) c.loop-front.place
    c.loop-front.invariant.stands last blank
    ∙ ap Whole (sym (forms-more c.loop-front.fsas fsa) ∙ ap forms (sym c.in_ok-push.ensures.ok))

pub returns-then-last-clause-short : goal.returns-then-last-clause-short
returns-then-last-clause-short c =
    let fsa : Argument = c.in_ok-to_fsa.field-0 in
    let operand : length fsa.operand ≡ length c.in-Some.front.fsa.operand.now =
    ap (λ (f : Fsa). length f.operand) c.in_ok-to_fsa.ensures in
    let fits : length fsa.operand < 65536 = omega (arith, operand, c.in-Some.ensures.short) in
    rw c.in_ok-push.ensures.ok (short-more c.loop-front.fsas fsa c.loop-front.invariant.short fits)

pub loop-front-preserved : goal.loop-front-preserved
loop-front-preserved c =
    let front = c.in-Some.front in
    let e = c.in-Some.ensures in
    let more : is_last front.rest.now ≡ false = sym c.is_last-last.ensures ∙ c.if-last.false in
    let good : front.connector ≡ (if is_last front.rest.now then 32 else 42) =
    rw (c.connector.ensures, c.is_last-last.ensures) at c.if-front-connector.false in
    let star : front.connector ≡ 42 = rw more at good in
    let fsa : Argument = c.in_ok-to_fsa.field-0 in
    let place : c.loop-front.place + 12 + length front.fsa.operand.now + 1 ≡ c.loop-front.place + 13 + length
    front.fsa.operand.now = omega arith in
    let all = e.all in
    let stands = at-more c.loop-front.rest.now (form_of fsa) front.connector (length front.fsa.operand.now)
    front.rest.now
    e.connector e.operand e.rest (e.fsa ∙ sym c.in_ok-to_fsa.ensures) c.args.bytes.now (forms c.loop-front.fsas)
    c.loop-front.place c.loop-front.invariant.stands (omega (arith, all)) more star in
    let operand : length fsa.operand ≡ length front.fsa.operand.now =
    ap (λ (f : Fsa). length f.operand) c.in_ok-to_fsa.ensures in
    let fits : length fsa.operand < 65536 = omega (arith, operand, e.short) in
    record {
      within = omega (arith, all, c.loop-front.invariant.within);
      stands = rw (c.in_ok-push.ensures.ok, place, forms-more c.loop-front.fsas fsa) stands;
      short = rw c.in_ok-push.ensures.ok (short-more c.loop-front.fsas fsa c.loop-front.invariant.short fits);
    }
