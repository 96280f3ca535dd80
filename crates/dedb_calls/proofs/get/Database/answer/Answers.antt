use Rattle.std.proofs.Common.{◌≡◌, ◌∙◌, List, ap, sym, subst, true, false}
use Rattle.std.specs.Prelude.{option_map, IfOk}
use Rattle.fp_model.specs.DedbCalls.{root_named}
use Rattle.fp_model.specs.Exits.{anchor_of}
use Rattle.fp_model.specs.declared.calls.Call.{Call}
use Rattle.fp_model.specs.declared.calls.Call.TheVariants as call
use Rattle.fp_model.specs.declared.calls.Ssa.{Ssa}
use Rattle.fp_model.specs.Calls.{OnDedb}
use Rattle.fp_model.specs.FitCalls.{FitsAnswerOf}
use Rattle.dedb_calls.specs.Readiness.{IfAnswer}
use Rattle.dedb_calls.proofs.CallLemmas.{ComesBy, comes_as}
use Rattle.dedb_calls.proofs.SeenLemmas.{let_go_fits, lets_go, never_finds}
use Rattle.dedb_calls.proofs.get.Database.answer.Goals as goal

none : false ≡ true → ⊥
none e = cc

pub get-requires-clause-root : goal.get-requires-clause-root
get-requires-clause-root g c =
    c.root_anchor-root.ensures c.args.self.number
    ∙ ap (λ (ssas : List Ssa). option_map (anchor_of c.args.self.def.now)
    (root_named c.args.self.def.now c.args.self.number ssas)) c.as_slice.ensures

pub returns-in-Get-clause-comes : goal.returns-in-Get-clause-comes
returns-in-Get-clause-comes g c =
    comes_as c.get.result c.args.self.def.now c.args.self.number (g.L.AnchorLocks.modes c.args.locks.now
    c.args.work.now)
    c.args.call.now
    (call.Get c.in-Get.get c.in-Get.hold c.in-Get.db c.in-Get.ssas) c.args.work.now c.get.new.work c.in-Get.is
    c.get.ensures.comes

pub returns-in-Fld-clause-goes : goal.returns-in-Fld-clause-goes
returns-in-Fld-clause-goes g c =
    lets_go c.args.self.number c.args.work.now c.refused.new.work c.refused.ensures.work

pub returns-in-Fld-clause-fits : goal.returns-in-Fld-clause-fits
returns-in-Fld-clause-fits g c =
    let_go_fits c.args.self.def.now c.args.self.number c.args.work.now c.refused.new.work c.requires.fits
    c.refused.ensures.work

pub returns-in-Isrt-clause-comes : goal.returns-in-Isrt-clause-comes
returns-in-Isrt-clause-comes g c =
    comes_as c.isrt.result c.args.self.def.now c.args.self.number (g.L.AnchorLocks.modes c.args.locks.now
    c.args.work.now)
    c.args.call.now
    (call.Isrt c.in-Isrt.db c.in-Isrt.ssas c.in-Isrt.bytes) c.args.work.now c.isrt.new.work c.in-Isrt.is
    (subst (λ (ssas : List Ssa). ComesBy c.isrt.result c.args.self.def.now c.args.self.number
    (g.L.AnchorLocks.modes c.args.locks.now c.args.work.now) (call.Isrt c.in-Isrt.db ssas c.in-Isrt.bytes)
    c.args.work.now
    c.isrt.new.work) c.as_slice-ssas.ensures (c.isrt.ensures.comes c.in-Isrt.db))

pub returns-in-Repl-clause-comes : goal.returns-in-Repl-clause-comes
returns-in-Repl-clause-comes g c =
    comes_as c.repl.result c.args.self.def.now c.args.self.number (g.L.AnchorLocks.modes c.args.locks.now
    c.args.work.now)
    c.args.call.now
    (call.Repl c.in-Repl.db c.in-Repl.bytes) c.args.work.now c.repl.new.work c.in-Repl.is
    (c.repl.ensures.comes c.in-Repl.db)

pub returns-in-Dlet-clause-comes : goal.returns-in-Dlet-clause-comes
returns-in-Dlet-clause-comes g c =
    comes_as c.dlet.result c.args.self.def.now c.args.self.number (g.L.AnchorLocks.modes c.args.locks.now
    c.args.work.now)
    c.args.call.now
    (call.Dlet c.in-Dlet.db) c.args.work.now c.dlet.new.work c.in-Dlet.is
    (c.dlet.ensures.comes c.in-Dlet.db)

pub returns-in-Get-clause-shown : goal.returns-in-Get-clause-shown
returns-in-Get-clause-shown g c =
    subst (λ (k : Call). IfOk c.get.result (λ came. IfAnswer came
    (FitsAnswerOf (OnDedb c.args.self.def.now c.args.self.number) k))) (sym c.in-Get.is) c.get.ensures.shown

pub returns-in-Isrt-clause-shown : goal.returns-in-Isrt-clause-shown
returns-in-Isrt-clause-shown g c =
    subst (λ (k : Call). IfOk c.isrt.result (λ came. IfAnswer came
    (FitsAnswerOf (OnDedb c.args.self.def.now c.args.self.number) k))) (sym c.in-Isrt.is)
    (never_finds c.isrt.result _ (λ a e. absurd (none e)))

pub returns-in-Repl-clause-shown : goal.returns-in-Repl-clause-shown
returns-in-Repl-clause-shown g c =
    subst (λ (k : Call). IfOk c.repl.result (λ came. IfAnswer came
    (FitsAnswerOf (OnDedb c.args.self.def.now c.args.self.number) k))) (sym c.in-Repl.is)
    (never_finds c.repl.result _ (λ a e. absurd (none e)))

pub returns-in-Dlet-clause-shown : goal.returns-in-Dlet-clause-shown
returns-in-Dlet-clause-shown g c =
    subst (λ (k : Call). IfOk c.dlet.result (λ came. IfAnswer came
    (FitsAnswerOf (OnDedb c.args.self.def.now c.args.self.number) k))) (sym c.in-Dlet.is)
    (never_finds c.dlet.result _ (λ a e. absurd (none e)))
