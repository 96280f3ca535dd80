use Rattle.std.proofs.Common.{◌∙◌, sym, ap, List}
use Rattle.fp_model.specs.DedbCalls.{not_found}
use Rattle.fp_model.specs.declared.calls.Ssa.{Ssa}
use Rattle.dedb_calls.proofs.GetLemmas.{comes_found, comes_nothing, comes_refused, comes_unlocked, found_fits, found_long, held_found, looked_is, moved}
use Rattle.dedb_calls.proofs.SeenLemmas.{let_go_fits, lets_go, moved_fits, moves_to, needs_nothing, shows_found, shows_not, subst_fits}
use Rattle.dedb_calls.proofs.get.Database.get.Goals as goal

pub returns-in-Some-clause-comes : goal.returns-in-Some-clause-comes
returns-in-Some-clause-comes g c =
    comes_refused c.args.self.def.now c.args.self.number (g.L.AnchorLocks.modes c.args.locks.now c.args.work.now)
    c.args.work.now
    c.requires.order c.requires.known c.args.asked.get c.args.asked.hold c.args.asked.ssas.now c.in-Some.status
    c.refused.new.work c.refused.result (sym c.refusal.ensures.status ∙ c.in-Some.is)
    c.refused.ensures.work c.refused.ensures.answer

pub returns-in-Some-clause-goes : goal.returns-in-Some-clause-goes
returns-in-Some-clause-goes g c =
    lets_go c.args.self.number c.args.work.now c.refused.new.work c.refused.ensures.work

pub returns-in-Some-clause-fits : goal.returns-in-Some-clause-fits
returns-in-Some-clause-fits g c =
    let_go_fits c.args.self.def.now c.args.self.number c.args.work.now c.refused.new.work c.requires.fits
    c.refused.ensures.work

pub returns-in-Unlocked-clause-comes : goal.returns-in-Unlocked-clause-comes
returns-in-Unlocked-clause-comes g c =
    comes_unlocked c.args.self.def.now c.args.self.number (g.L.AnchorLocks.modes c.args.locks.now c.args.work.now)
    c.args.work.now
    c.requires.order c.requires.known c.args.asked.get c.args.asked.hold c.args.asked.ssas.now c.in-Unlocked.anchor
    c.lock_of.result (sym c.refusal.ensures.status ∙ c.in_default.is)
    (c.lock_of.ensures c.args.self.def.now c.args.self.number)
    (looked_is _ _ _ _ _ c.in-Unlocked.is c.in_ok-anchor.ensures)

pub returns-in-Nothing-clause-comes : goal.returns-in-Nothing-clause-comes
returns-in-Nothing-clause-comes g c =
    comes_nothing c.args.self.def.now c.args.self.number (g.L.AnchorLocks.modes c.args.locks.now c.args.work.now)
    c.args.work.now
    c.requires.order c.requires.known c.args.asked.get c.args.asked.hold c.args.asked.ssas.now c.not_found-status.result
    c.refused-in-Nothing.new.work c.refused-in-Nothing.result
    (sym c.refusal.ensures.status ∙ c.in_default.is)
    (c.not_found-status.ensures.status c.args.self.def.now c.args.self.number
    ∙ ap (λ (ssas : List Ssa). not_found c.args.self.def.now c.args.self.number c.args.asked.get ssas)
    c.as_slice.ensures)
    c.refused-in-Nothing.ensures.work c.refused-in-Nothing.ensures.answer
    (looked_is _ _ _ _ _ c.in-Nothing.is c.in_ok-anchor.ensures)

pub returns-in-Nothing-clause-goes : goal.returns-in-Nothing-clause-goes
returns-in-Nothing-clause-goes g c =
    lets_go c.args.self.number c.args.work.now c.refused-in-Nothing.new.work c.refused-in-Nothing.ensures.work

pub returns-in-Nothing-clause-fits : goal.returns-in-Nothing-clause-fits
returns-in-Nothing-clause-fits g c =
    let_go_fits c.args.self.def.now c.args.self.number c.args.work.now c.refused-in-Nothing.new.work c.requires.fits
    c.refused-in-Nothing.ensures.work

pub returns-in_ok-show-in-Found-clause-comes : goal.returns-in_ok-show-in-Found-clause-comes
returns-in_ok-show-in-Found-clause-comes g c =
    comes_found c.args.self.def.now c.args.self.number (g.L.AnchorLocks.modes c.args.locks.now c.args.work.now)
    c.args.work.now
    c.requires.order c.requires.known c.args.asked.get c.args.asked.hold c.args.asked.ssas.now c.in-Found.found
    c.show.new.work c.in_ok-show-in-Found.field-0
    (sym c.refusal.ensures.status ∙ c.in_default.is)
    (c.in_ok-show-in-Found.ensures.work c.args.self.def.now)
    (c.in_ok-show-in-Found.ensures.answer c.args.self.def.now)
    (looked_is _ _ _ _ _ c.in-Found.is c.in_ok-anchor.ensures)

pub returns-in_ok-show-in-Found-clause-goes : goal.returns-in_ok-show-in-Found-clause-goes
returns-in_ok-show-in-Found-clause-goes g c =
    moves_to c.args.self.number _ c.args.work.now c.show.new.work
    (c.in_ok-show-in-Found.ensures.work c.args.self.def.now)

pub returns-in_ok-show-in-Found-clause-fits : goal.returns-in_ok-show-in-Found-clause-fits
returns-in_ok-show-in-Found-clause-fits g c =
    subst_fits c.args.self.def.now c.args.self.number
    (moved c.args.self.def.now c.args.self.number (g.L.AnchorLocks.modes c.args.locks.now c.args.work.now)
    c.args.work.now
    c.requires.order c.requires.known c.args.asked.get c.args.asked.hold c.args.asked.ssas.now c.in-Found.found)
    c.show.new.work (c.in_ok-show-in-Found.ensures.work c.args.self.def.now)
    (moved_fits c.args.self.def.now c.args.self.number _ c.args.work.now c.requires.fits
    (λ place e. held_found c.args.self.def.now c.args.self.number (g.L.AnchorLocks.modes c.args.locks.now
    c.args.work.now)
    c.args.work.now
    c.requires.order c.requires.known c.args.asked.get c.args.asked.hold c.args.asked.ssas.now c.in-Found.found place
    (found_fits c.args.self.def.now c.args.self.number (g.L.AnchorLocks.modes c.args.locks.now c.args.work.now)
    c.args.work.now
    c.requires.order c.requires.known c.args.asked.get c.args.asked.hold c.args.asked.ssas.now c.in-Found.found
    c.requires.fits
    (looked_is _ _ _ _ _ c.in-Found.is c.in_ok-anchor.ensures)) e))

pub returns-in_ok-show-in-Found-clause-needing : goal.returns-in_ok-show-in-Found-clause-needing
returns-in_ok-show-in-Found-clause-needing g c =
    needs_nothing c.in_ok-show-in-Found.field-0 _ _ (c.in_ok-show-in-Found.ensures.answer c.args.self.def.now)

pub returns-in-Some-clause-shown : goal.returns-in-Some-clause-shown
returns-in-Some-clause-shown g c =
    shows_not c.args.self.def.now c.refused.result c.in-Some.status c.refused.ensures.answer c.in-Some.ensures.says

pub returns-in-Nothing-clause-shown : goal.returns-in-Nothing-clause-shown
returns-in-Nothing-clause-shown g c =
    shows_not c.args.self.def.now c.refused-in-Nothing.result c.not_found-status.result
    c.refused-in-Nothing.ensures.answer c.not_found-status.ensures.says

pub returns-in_ok-show-in-Found-clause-shown : goal.returns-in_ok-show-in-Found-clause-shown
returns-in_ok-show-in-Found-clause-shown g c =
    shows_found c.args.self.def.now c.in_ok-show-in-Found.field-0 _ _
    (c.in_ok-show-in-Found.ensures.answer c.args.self.def.now)
    (found_long c.args.self.def.now c.args.self.number (g.L.AnchorLocks.modes c.args.locks.now c.args.work.now)
    c.args.work.now
    c.requires.order c.requires.known c.args.asked.get c.args.asked.hold c.args.asked.ssas.now c.in-Found.found
    c.requires.fits
    (looked_is _ _ _ _ _ c.in-Found.is c.in_ok-anchor.ensures))
