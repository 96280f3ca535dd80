use Rattle.std.proofs.Common.{refl}
use Rattle.dedb_calls.specs.Progress.{position_in}
use Rattle.dedb_calls.proofs.EditLemmas.{edited_fits, edited_goes}
use Rattle.dedb_calls.proofs.HeldLemmas.{anchor_there, dlet_done, dlet_shape, dropped, held_done, held_none, held_unlocked, place_is}
use Rattle.dedb_calls.proofs.SeenLemmas.{in_order, let_go_fits, lets_go}
use Rattle.dedb_calls.proofs.get.Database.dlet.Goals as goal

pub returns-in-NotHeld-clause-comes : goal.returns-in-NotHeld-clause-comes
returns-in-NotHeld-clause-comes g c n =
    held_none c.args.self.def.now c.args.self.number (g.L.AnchorLocks.modes c.args.locks.now c.args.work.now)
    c.args.work.now
    c.requires.order c.requires.known (dropped c.args.self.def.now c.args.self.number
    (g.L.AnchorLocks.modes c.args.locks.now c.args.work.now) c.args.work.now c.requires.order c.requires.known)
    c.refused.new.work c.refused.result (λ db own. refl)
    c.in-NotHeld.ensures c.refused.ensures.work c.refused.ensures.answer

pub returns-in-NotHeld-clause-goes : goal.returns-in-NotHeld-clause-goes
returns-in-NotHeld-clause-goes g c =
    lets_go c.args.self.number c.args.work.now c.refused.new.work c.refused.ensures.work

pub returns-in-NotHeld-clause-fits : goal.returns-in-NotHeld-clause-fits
returns-in-NotHeld-clause-fits g c =
    let_go_fits c.args.self.def.now c.args.self.number c.args.work.now c.refused.new.work c.requires.fits
    c.refused.ensures.work

pub returns-in-Unlocked-clause-comes : goal.returns-in-Unlocked-clause-comes
returns-in-Unlocked-clause-comes g c n =
    held_unlocked c.args.self.def.now c.args.self.number (g.L.AnchorLocks.modes c.args.locks.now c.args.work.now)
    c.args.work.now c.requires.order c.requires.known (dropped c.args.self.def.now c.args.self.number
    (g.L.AnchorLocks.modes c.args.locks.now c.args.work.now) c.args.work.now c.requires.order c.requires.known)
    c.in-Unlocked.anchor c.in-Unlocked.ensures.0
    c.in-Unlocked.ensures.1 c.in-Unlocked.ensures.2

pub returns-in_ok-delete-in-Direct-clause-comes : goal.returns-in_ok-delete-in-Direct-clause-comes
returns-in_ok-delete-in-Direct-clause-comes g c n =
    let place = c.in-Direct.ensures.0 in
    let so = c.in-Direct.ensures.1 in
    let a = anchor_there c.args.self.def.now c.args.self.number (g.L.AnchorLocks.modes c.args.locks.now c.args.work.now)
    c.args.work.now c.requires.order c.requires.known place so.lock in
    let order = in_order c.args.self.def.now place.anchor a.0.roots (c.requires.fits.shapes place.anchor a.0 a.1) in
    let its = place_is (position_in c.args.work.now c.args.self.number) place so.its in
    let edit = c.in_ok-delete-in-Direct.ensures.work c.requires.order place a.0 its a.1 order in
    held_done c.args.self.def.now c.args.self.number (g.L.AnchorLocks.modes c.args.locks.now c.args.work.now)
    c.args.work.now
    c.requires.order c.requires.known (dropped c.args.self.def.now c.args.self.number
    (g.L.AnchorLocks.modes c.args.locks.now c.args.work.now) c.args.work.now c.requires.order c.requires.known) place
    c.delete.new.work c.in_ok-delete-in-Direct.field-0
    (dlet_done c.args.self.def.now c.args.self.number (g.L.AnchorLocks.modes c.args.locks.now c.args.work.now)
    c.args.work.now
    c.requires.order c.requires.known place a.0 c.delete.new.work c.requires.fits.counted c.in-Direct.ensures.2 a.1
    edit)
    so c.in_ok-delete-in-Direct.ensures.answer

pub returns-in_ok-delete-in-Direct-clause-goes : goal.returns-in_ok-delete-in-Direct-clause-goes
returns-in_ok-delete-in-Direct-clause-goes g c =
    let place = c.in-Direct.ensures.0 in
    let so = c.in-Direct.ensures.1 in
    let a = anchor_there c.args.self.def.now c.args.self.number (g.L.AnchorLocks.modes c.args.locks.now c.args.work.now)
    c.args.work.now c.requires.order c.requires.known place so.lock in
    let order = in_order c.args.self.def.now place.anchor a.0.roots (c.requires.fits.shapes place.anchor a.0 a.1) in
    let its = place_is (position_in c.args.work.now c.args.self.number) place so.its in
    edited_goes c.args.self.number place.anchor _ _ _ c.args.work.now c.delete.new.work
    (c.in_ok-delete-in-Direct.ensures.work c.requires.order place a.0 its a.1 order) a.0 a.1

pub returns-in_ok-delete-in-Direct-clause-fits : goal.returns-in_ok-delete-in-Direct-clause-fits
returns-in_ok-delete-in-Direct-clause-fits g c =
    let place = c.in-Direct.ensures.0 in
    let so = c.in-Direct.ensures.1 in
    let a = anchor_there c.args.self.def.now c.args.self.number (g.L.AnchorLocks.modes c.args.locks.now c.args.work.now)
    c.args.work.now c.requires.order c.requires.known place so.lock in
    let order = in_order c.args.self.def.now place.anchor a.0.roots (c.requires.fits.shapes place.anchor a.0 a.1) in
    let its = place_is (position_in c.args.work.now c.args.self.number) place so.its in
    edited_fits c.args.self.number place.anchor _ _ _ c.args.work.now c.delete.new.work
    (c.in_ok-delete-in-Direct.ensures.work c.requires.order place a.0 its a.1 order) c.args.self.def.now c.requires.fits
    (dlet_shape c.args.self.def.now c.args.self.number (g.L.AnchorLocks.modes c.args.locks.now c.args.work.now)
    c.args.work.now
    c.requires.order c.requires.known c.requires.fits place so.its a.0 a.1 c.in-Direct.ensures.2) refl

pub returns-in-Sequential-clause-goes : goal.returns-in-Sequential-clause-goes
returns-in-Sequential-clause-goes g c =
    lets_go c.args.self.number c.args.work.now c.refused-in-Sequential.new.work c.refused-in-Sequential.ensures.work

pub returns-in-Sequential-clause-fits : goal.returns-in-Sequential-clause-fits
returns-in-Sequential-clause-fits g c =
    let_go_fits c.args.self.def.now c.args.self.number c.args.work.now c.refused-in-Sequential.new.work c.requires.fits
    c.refused-in-Sequential.ensures.work
