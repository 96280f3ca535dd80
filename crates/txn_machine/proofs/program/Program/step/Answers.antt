use Rattle.std.proofs.Common.{◌∙◌, sym, ap, arith, refl, subst, length, List}
use Rattle.std.specs.Prelude.{slice_get}
use Rattle.fp_model.specs.declared.scripts.Statement.{Statement}
use Rattle.txn_machine.specs.declared.place.Frame.{Frame}
use Rattle.txn_machine.specs.Places.{block_at}
use Rattle.txn_machine.specs.declared.doing.Deed.{Deed}
use Rattle.txn_machine.specs.inside.Doing.{Does, IsCall}
use Rattle.txn_machine.proofs.FitStatements.{fit_at, fit_block, result_fits, result_holds, statement_fit}
use Rattle.txn_machine.proofs.SuitLemmas.{ends_suit, statement_suits}
use Rattle.txn_machine.specs.Fit.{type_shown}
use Rattle.txn_machine.specs.Running.{IsSuitedNext}
use Rattle.txn_lang.specs.Suiting.{suits_step}
use Rattle.fp_model.specs.FitCalls.{fits_step}
use Rattle.txn_lang.proofs.Fitting.{fits_judges, suits_judges}
use Rattle.txn_machine.specs.inside.Stepping.{IsDeed}
use Rattle.txn_machine.proofs.program.Program.step.Goals as goal
use Rattle.plain_laws.proofs.Places.{stands_at}

-- the statement at the place, and its deed
deed_here : (c : goal.After-act) → IsDeed c.args.defs.now c.args.statements.now c.args.message.now
    (length c.args.statements.now)
    c.args.self.now c.in_ok-deed.deed
deed_here c = record {
  ends = refl;
  statement = c.index-block-self.result;
  here = ap (λ (b : List Statement). slice_get b c.args.self.now.place.at)
      (sym (c.block_at-block.ensures ∙ ap (λ (fs : List Frame). block_at fs c.args.statements.now) c.as_slice.ensures))
      ∙ stands_at c.block_at-block.result.now c.args.self.now.place.at c.index-block-self.result (omega arith)
      c.index-block-self.is;
  does = c.in_ok-deed.ensures.does;
  costs = c.in_ok-deed.ensures.costs;
}

pub returns-then-self-block-clause-alike : goal.returns-then-self-block-clause-alike
returns-then-self-block-clause-alike c = c.act.ensures.alike c.args.defs.now c.args.statements.now c.args.message.now
    (deed_here c)

pub returns-then-self-block-clause-asked : goal.returns-then-self-block-clause-asked
returns-then-self-block-clause-asked c = c.act.ensures.asked c.args.defs.now c.args.statements.now c.args.message.now
    (deed_here c)

pub returns-then-self-block-clause-call : goal.returns-then-self-block-clause-call
returns-then-self-block-clause-call c = c.act.ensures.call c.args.defs.now c.args.statements.now c.args.message.now
    (deed_here c)

pub returns-then-self-block-clause-less : goal.returns-then-self-block-clause-less
returns-then-self-block-clause-less c = c.act.ensures.less c.args.defs.now c.args.statements.now c.args.message.now
    (deed_here c)

pub returns-then-self-block-clause-fit_call : goal.returns-then-self-block-clause-fit_call
unfolding deed_here
returns-then-self-block-clause-fit_call c = λ well fit shown.
    let d = deed_here c in
    result_fits c.args.defs.now.msdbs c.in_ok-deed.deed c.act.result c.act.ensures.given (λ asked is.
    statement_fit c.args.defs.now c.args.message.now c.args.self.now.known asked well shown c.index-block-self.result
    (fit_at (fits_step c.args.defs.now) (fits_judges c.args.defs.now)
    (block_at c.args.self.now.place.frames c.args.statements.now) c.args.self.now.place.at c.index-block-self.result
    (fit_block (fits_step c.args.defs.now) (fits_judges c.args.defs.now) c.args.self.now.place.frames
    c.args.statements.now fit) d.here)
    (c.in_ok-deed.ensures.spelled (subst (λ (x : Deed). IsCall x) (sym is) tt))
    (subst (λ (x : Deed). Does c.args.defs.now c.args.message.now c.args.self.now.known c.index-block-self.result x) is
    c.in_ok-deed.ensures.does))

pub returns-then-self-block-clause-suits_call : goal.returns-then-self-block-clause-suits_call
unfolding deed_here
returns-then-self-block-clause-suits_call c = λ well good suits shown.
    let d = deed_here c in
    let defs = c.args.defs.now in
    result_holds (IsSuitedNext defs (type_shown c.args.self.now.known.gets))
    (ends_suit defs (type_shown c.args.self.now.known.gets)) c.in_ok-deed.deed c.act.result c.act.ensures.given
    (λ asked is.
    statement_suits defs c.args.message.now c.args.self.now.known asked well good shown c.index-block-self.result
    (fit_at (suits_step defs) (suits_judges defs) (block_at c.args.self.now.place.frames c.args.statements.now)
    c.args.self.now.place.at c.index-block-self.result
    (fit_block (suits_step defs) (suits_judges defs) c.args.self.now.place.frames c.args.statements.now suits) d.here)
    (c.in_ok-deed.ensures.spelled (subst (λ (x : Deed). IsCall x) (sym is) tt))
    (subst (λ (x : Deed). Does defs c.args.message.now c.args.self.now.known c.index-block-self.result x) is
    c.in_ok-deed.ensures.does))
