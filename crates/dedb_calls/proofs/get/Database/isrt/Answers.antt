use Rattle.std.proofs.Common.{List, ℕ, sym, subst}
use Rattle.fp_model.specs.DedbCalls.{dedb_need, isrt_reply}
use Rattle.fp_model.specs.declared.calls.Call.TheVariants as call
use Rattle.dedb_calls.specs.Readiness.{ComesTo}
use Rattle.dedb_calls.proofs.InsertLemmas.{insert_refused}
use Rattle.dedb_calls.proofs.SeenLemmas.{let_go_fits, lets_go}
use Rattle.dedb_calls.proofs.get.Database.isrt.Goals as goal

pub returns-then-not-are_insert_arguments-clause-comes : goal.returns-then-not-are_insert_arguments-clause-comes
returns-then-not-are_insert_arguments-clause-comes g c n =
    insert_refused c.args.self.def.now c.args.self.number (g.L.AnchorLocks.modes c.args.locks.now c.args.work.now)
    c.args.work.now c.args.ssas.now c.args.bytes.now n
    (sym (c.if-not-are_insert_arguments.ensures c.args.self.number)) c.refused.new.work c.refused.result
    c.refused.ensures.work c.refused.ensures.answer

pub returns-then-not-are_insert_arguments-clause-goes : goal.returns-then-not-are_insert_arguments-clause-goes
returns-then-not-are_insert_arguments-clause-goes g c =
    lets_go c.args.self.number c.args.work.now c.refused.new.work c.refused.ensures.work

pub returns-then-not-are_insert_arguments-clause-fits : goal.returns-then-not-are_insert_arguments-clause-fits
returns-then-not-are_insert_arguments-clause-fits g c =
    let_go_fits c.args.self.def.now c.args.self.number c.args.work.now c.refused.new.work c.requires.fits
    c.refused.ensures.work

pub new_segment-requires-clause-arguments : goal.new_segment-requires-clause-arguments
new_segment-requires-clause-arguments g c = sym (c.if-not-are_insert_arguments.ensures c.args.self.number)

pub returns-clause-comes : goal.returns-clause-comes
returns-clause-comes g c n =
    let new = c.in_ok-new.ensures in
    subst (λ (b : List ℕ). ComesTo c.args.self.number
    (λ db own. dedb_need c.args.self.def.now c.args.self.number db own (g.L.AnchorLocks.modes c.args.locks.now
    c.args.work.now)
    (call.Isrt n c.args.ssas.now b))
    (λ db own. isrt_reply c.args.self.def.now c.args.self.number db own c.args.ssas.now b)
    c.args.work.now c.isrt_new.new.work c.in_ok-isrt_new.field-0) new.bytes
    (c.in_ok-isrt_new.ensures.comes c.args.ssas.now n
    (record { insert = new.insert; segment = new.segment; anchor = new.anchor }))
