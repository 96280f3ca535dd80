use Rattle.std.proofs.Common.{◌≡◌, sym, ◌∙◌, ap, subst, ℕ, List, ◌∷◌, ◌++◌, [], Some, None, true}
use Rattle.ci_locks.specs.Table.{standing}
use Rattle.fp_model.specs.declared.calls.Answer.{Answer}
use Rattle.fp_model.specs.Answers.{Replied}
use Rattle.fp_model.specs.Asking.{Ask}
use Rattle.dli_calls.proofs.TargetLemmas.{leaves_msdb, msdb_fits, msdb_only}
use Rattle.dli_calls.specs.Targets.{IfDedb, LeavesDedbs}
use Rattle.fp_exits.specs.Kinds.{has_kind, kinds_of}
use Rattle.fp_model.specs.Calls.{database_of, reply_to, looks_unheld, target_of}
use Rattle.fp_model.specs.WellFormed.{IsDedbDef}
use Rattle.std.specs.List.{AllByRecursion}
use Rattle.fp_model.specs.Product.{rules_of}
use Rattle.fp_model.specs.Turns.{noted}
use Rattle.fp_model.specs.Workspace.{Workspace}
use Rattle.txn_machine.specs.Running.{IsAt}
use Rattle.fp_core.specs.declared.engine.Ahead.TheVariants as ahead
use Rattle.fp_core.specs.inside.Answering.{lock_for}
use Rattle.fp_core.proofs.Goings.{keeps, needs_are, noted_is, nothing}
use Rattle.fp_core.proofs.answering.take_call.Goals as goal
use Rattle.plain_laws.proofs.Results.{on_err}
use Rattle.dli_calls.specs.declared.work.Work.{Work}
use Rattle.fp_core.specs.Relation.{IsTransaction}

pub answer-requires-clause-defs : goal.answer-requires-clause-defs
answer-requires-clause-defs g c = c.requires.under.1.1.setup.defined.each_msdb

pub answer-requires-clause-work : goal.answer-requires-clause-work
answer-requires-clause-work g c = c.requires.under.1.1.is.of

pub answer-requires-clause-call : goal.answer-requires-clause-call
answer-requires-clause-call g c =
    msdb_fits c.args.defs.now c.args.active.now.work c.args.call c.requires.under.1.1.ahead.fits

pub answer-requires-clause-known : goal.answer-requires-clause-known
answer-requires-clause-known g c = msdb_only c.args.defs.now _ c.args.call c.requires.under.1.1.ahead.fits

-- there are no data entry databases
pub answer-requires-clause-dedbs : goal.answer-requires-clause-dedbs
answer-requires-clause-dedbs g c = subst (AllByRecursion IsDedbDef) (sym c.requires.under.1.1.setup.no_dedbs) tt

pub answer-requires-clause-exits : goal.answer-requires-clause-exits
answer-requires-clause-exits g c =
    subst (AllByRecursion (λ dedb. has_kind (kinds_of c.args.exits.now).spreaders dedb.randomizer ≡ true))
    (sym c.requires.under.1.1.setup.no_dedbs) tt

pub give-requires : goal.give-requires
give-requires g c = (c.args.call, c.requires.under.1.1.ahead.waits)

pub returns-in_err-ready-clause-err : goal.returns-in_err-ready-clause-err
returns-in_err-ready-clause-err g c scripts t s =
    on_err c.from_residual.result (subst (λ (w : Work). IsTransaction c.args.defs.now scripts
    (record c.args.active.now { work = w }) t) (sym c.in_err-ready.ensures.err) s)

pub returns-in-Answer-clause-acted : goal.returns-in-Answer-clause-acted
returns-in-Answer-clause-acted g c scripts now t e h =
    let defs = c.args.defs.now in
    let call = c.args.call in
    let given : Answer = c.in-Answer.given in
    let one = c.args.active.now in
    let s1 = h.is in
    let is = h.ahead in
    let old = one.work in
    let new = c.answer.new.work in
    let alone : (P : Type 0) → IfDedb (target_of defs (database_of call)) P = λ P. msdb_only defs P call is.fits in
    let needed = rw c.in-Answer.is at (c.in_ok-ready.ensures.need now e (alone _)) in
    let answered : reply_to defs now now old.own call ≡ record { answer = given; own = new.own } =
    rw c.in-Answer.is at (c.in_ok-ready.ensures.answer now e (alone _)) in
    let reply : reply_to defs now now t.point.own call ≡ record { answer = given; own = new.own } =
    ap (λ own. reply_to defs now now own call) (sym s1.own) ∙ answered in
    let own : (reply_to defs now now t.point.own call).own ≡ new.own = ap (λ (r : Replied). r.own) reply in
    let notes = rw c.in-Answer.is at c.in_ok-ready.ensures.notes in
    let looks : looks_unheld defs old.own call ≡ looks_unheld defs t.point.own call =
    ap (λ own. looks_unheld defs own call) s1.own in
    let fits = rw c.in-Answer.is at c.in_ok-ready.ensures.shown in
    let others : LeavesDedbs old new = leaves_msdb defs call old new is.fits c.answer.ensures.others in
    record {
      call = call;
      asked = is.asked;
      ready = needs_are defs scripts one t s1 ((standing c.args.locks.now).holds c.args.region) now call None needed;
      is = record {
        from = s1.from;
        message = s1.message;
        short = s1.short;
        tries = s1.tries;
        refusal = s1.refusal;
        own = sym own;
        notes = notes ∙ noted_is (rules_of defs scripts) (looks_unheld defs old.own call) old.notes c.args.count
            ∙ ap (λ b. noted (rules_of defs scripts) b old.notes c.args.count) looks
            ∙ ap (λ (ns : List ℕ). noted (rules_of defs scripts) (looks_unheld defs t.point.own call) ns c.args.count)
            s1.notes;
        of = c.answer.ensures.of;
        changes = ap (λ (w : Workspace). w.changes) own ∙ others.changes ∙ ap (λ (w : Workspace). w.changes)
            s1.own ∙ s1.changes;
        inserts = ap (λ (w : Workspace). w.inserts) own ∙ others.inserts ∙ ap (λ (w : Workspace). w.inserts)
            s1.own ∙ s1.inserts;
        script = s1.script;
        named = s1.named;
        numbered = rw c.give.ensures.number s1.numbered;
        at = subst (λ (a : Answer). IsAt defs s1.script.statements t.message (t.point.answers ++ a ∷ [])
            c.give.new.self)
            (sym (ap (λ (r : Replied). r.answer) reply))
            (c.give.ensures.at defs s1.script.statements t.message t.point.answers s1.at);
        fit = c.give.ensures.fit defs call is.waits s1.fit fits;
        ahead = nothing _ one.ahead h.taken;
      };
    }

pub returns-in-Need-clause-acted : goal.returns-in-Need-clause-acted
returns-in-Need-clause-acted g c scripts now t e h =
    let defs = c.args.defs.now in
    let call = c.args.call in
    let one = c.args.active.now in
    let s1 = h.is in
    let held = (standing c.args.locks.now).holds c.args.region in
    let is = h.ahead in
    let needed = rw c.in-Need.is at (c.in_ok-ready.ensures.need now e (msdb_only defs _ call is.fits)) in
    let same = rw c.in-Need.is at c.in_ok-ready.ensures.needing in
    record {
      needs = ap (λ (a : Ask). lock_for (rules_of defs scripts) held now t a) is.asked
          ∙ needs_are defs scripts one t s1 held now call
          (Some (record { resource = c.in-Need.resource; mode = c.in-Need.mode })) needed;
      is = rw same (keeps defs scripts one t s1 (Some (ahead.Call call)) is);
    }
