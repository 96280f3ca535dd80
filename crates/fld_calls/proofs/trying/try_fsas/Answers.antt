use Rattle.std.proofs.Common.{rules, ◌≡◌, ◌<◌, ◌+◌, ◌∙◌, length, arith, sym, subst, drop, take}
use Rattle.std.proofs.lemmas.List.{take_more_set, drop-set-lt, take_all, drop_all}
use Rattle.fp_model.specs.Fsas.{Fsa, fsa_on, letter_of}
use Rattle.fp_model.specs.WellFormed.{StandFrom}
use Rattle.fld_calls.specs.declared.arguments.Fsa.{Fsa as Argument}
use Rattle.fld_calls.specs.inside.Refusals.{letter_in}
use Rattle.fld_calls.proofs.ListLemmas.{trying-step, trying-end}
use Rattle.fld_calls.proofs.trying.try_fsas.Goals as goal
use Rattle.plain_laws.proofs.Places.{drop_got}

pub try_fsa-outcome-requires : goal.try_fsa-outcome-requires
try_fsa-outcome-requires c = subst (StandFrom 0 c.args.def.now.fields) (sym c.loop-at.invariant.whole) c.requires.fields

pub loop-at-preserved : goal.loop-at-preserved
loop-at-preserved c =
    let fsas = c.loop-at.fsas in
    let i = c.loop-at.at in
    let x : Argument = c.item_mut-fsa.result.now in
    let y : Argument = record x { status = c.letter-fsa.result } in
    let t = c.loop-at.invariant.trying in
    let lt : i < length fsas = omega arith in
    let here = drop_got fsas i x c.item_mut-fsa.ensures.value in
    let step = trying-step c.args.def.now c.args.fsas.now c.args.segment.now (take i fsas) x (drop (i + 1) fsas)
    c.loop-at.segment c.try_fsa-outcome.new.segment c.loop-at.good c.try_fsa-outcome.result (rw here at t)
    (subst (λ (f : Fsa). letter_in c.try_fsa-outcome.result ≡ letter_of c.args.def.now f c.loop-at.segment)
    c.lent.ensures.form c.try_fsa-outcome.ensures.letter)
    (subst (λ (f : Fsa). c.try_fsa-outcome.new.segment ≡ (fsa_on c.args.def.now f c.loop-at.segment).segment)
    c.lent.ensures.form c.try_fsa-outcome.ensures.segment) in
    record {
      all = search rules;
      whole = omega (arith, c.try_fsa-outcome.auto.segment, c.loop-at.invariant.whole);
      trying = rw (
        take_more_set fsas i y lt,
        drop-set-lt (i + 1) fsas i y (omega arith),
        c.letter-fsa.ensures,
        c.is_ok-good.ensures.value,
      ) step;
    }

pub returns-clause-good : goal.returns-clause-good
returns-clause-good c =
    let fsas = c.loop-at.fsas in
    let none = drop_all c.loop-at.at fsas (omega arith) in
    (trying-end c.args.def.now c.args.fsas.now c.args.segment.now (take c.loop-at.at fsas) c.loop-at.segment
    c.loop-at.good (rw none at c.loop-at.invariant.trying)).0

pub returns-clause-letters : goal.returns-clause-letters
returns-clause-letters c =
    let fsas = c.loop-at.fsas in
    let none = drop_all c.loop-at.at fsas (omega arith) in
    let all = take_all c.loop-at.at fsas (omega arith) in
    sym all ∙ (trying-end c.args.def.now c.args.fsas.now c.args.segment.now (take c.loop-at.at fsas) c.loop-at.segment
    c.loop-at.good (rw none at c.loop-at.invariant.trying)).1.0

pub returns-clause-segment : goal.returns-clause-segment
returns-clause-segment c =
    let fsas = c.loop-at.fsas in
    let none = drop_all c.loop-at.at fsas (omega arith) in
    (trying-end c.args.def.now c.args.fsas.now c.args.segment.now (take c.loop-at.at fsas) c.loop-at.segment
    c.loop-at.good (rw none at c.loop-at.invariant.trying)).1.1
