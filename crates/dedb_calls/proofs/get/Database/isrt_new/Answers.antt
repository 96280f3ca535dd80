use Rattle.std.proofs.Common.{refl}
use Rattle.dedb_calls.proofs.EditLemmas.{edited_fits, edited_goes}
use Rattle.dedb_calls.proofs.InsertLemmas.{free_shape, insert_free, insert_parentless, insert_queued, insert_twin, insert_unlocked, one_there, queued_fits, queued_goes}
use Rattle.dedb_calls.proofs.SeenLemmas.{in_order, let_go_fits, lets_go}
use Rattle.dedb_calls.proofs.get.Database.isrt_new.Goals as goal

pub returns-in-Unlocked-clause-comes : goal.returns-in-Unlocked-clause-comes
returns-in-Unlocked-clause-comes g c ssas n its =
    insert_unlocked c.args.self.def.now c.requires.good c.args.self.number
    (g.L.AnchorLocks.modes c.args.locks.now c.args.work.now) c.args.work.now c.requires.fits c.requires.order
    c.requires.known
    ssas c.args.new its n c.in-Unlocked.ensures

pub returns-in-NoParent-clause-comes : goal.returns-in-NoParent-clause-comes
returns-in-NoParent-clause-comes g c ssas n its =
    insert_parentless c.args.self.def.now c.requires.good c.args.self.number
    (g.L.AnchorLocks.modes c.args.locks.now c.args.work.now) c.args.work.now c.requires.fits c.requires.order
    c.requires.known
    ssas c.args.new its n c.refused.new.work c.refused.result c.refused.ensures.work
    c.refused.ensures.answer c.in-NoParent.ensures

pub returns-in-NoParent-clause-goes : goal.returns-in-NoParent-clause-goes
returns-in-NoParent-clause-goes g c =
    lets_go c.args.self.number c.args.work.now c.refused.new.work c.refused.ensures.work

pub returns-in-NoParent-clause-fits : goal.returns-in-NoParent-clause-fits
returns-in-NoParent-clause-fits g c =
    let_go_fits c.args.self.def.now c.args.self.number c.args.work.now c.refused.new.work c.requires.fits
    c.refused.ensures.work

pub returns-in-There-clause-comes : goal.returns-in-There-clause-comes
returns-in-There-clause-comes g c ssas n its =
    insert_twin c.args.self.def.now c.requires.good c.args.self.number
    (g.L.AnchorLocks.modes c.args.locks.now c.args.work.now) c.args.work.now c.requires.fits c.requires.order
    c.requires.known
    ssas c.args.new its n c.refused-in-There.new.work c.refused-in-There.result
    c.refused-in-There.ensures.work c.refused-in-There.ensures.answer c.in-There.ensures

pub returns-in-There-clause-goes : goal.returns-in-There-clause-goes
returns-in-There-clause-goes g c =
    lets_go c.args.self.number c.args.work.now c.refused-in-There.new.work c.refused-in-There.ensures.work

pub returns-in-There-clause-fits : goal.returns-in-There-clause-fits
returns-in-There-clause-fits g c =
    let_go_fits c.args.self.def.now c.args.self.number c.args.work.now c.refused-in-There.new.work c.requires.fits
    c.refused-in-There.ensures.work

pub returns-in_ok-queue-in-Sequential-clause-comes : goal.returns-in_ok-queue-in-Sequential-clause-comes
returns-in_ok-queue-in-Sequential-clause-comes g c ssas n its =
    insert_queued c.args.self.def.now c.requires.good c.args.self.number
    (g.L.AnchorLocks.modes c.args.locks.now c.args.work.now) c.args.work.now c.requires.fits c.requires.order
    c.requires.known
    ssas c.args.new its n c.queue.new.work c.in_ok-queue-in-Sequential.field-0
    (c.in_ok-queue-in-Sequential.ensures.work c.args.self.def.now)
    c.in_ok-queue-in-Sequential.ensures.answer c.in-Sequential.ensures

pub returns-in_ok-queue-in-Sequential-clause-goes : goal.returns-in_ok-queue-in-Sequential-clause-goes
returns-in_ok-queue-in-Sequential-clause-goes g c =
    queued_goes c.args.self.def.now c.requires.good c.args.self.number
    (g.L.AnchorLocks.modes c.args.locks.now c.args.work.now) c.args.work.now c.requires.fits c.requires.order
    c.requires.known
    c.requires.insert.0 c.args.new c.requires.insert.1 _ c.queue.new.work
    (c.in_ok-queue-in-Sequential.ensures.work c.args.self.def.now)

pub returns-in_ok-queue-in-Sequential-clause-fits : goal.returns-in_ok-queue-in-Sequential-clause-fits
returns-in_ok-queue-in-Sequential-clause-fits g c =
    queued_fits c.args.self.def.now c.requires.good c.args.self.number
    (g.L.AnchorLocks.modes c.args.locks.now c.args.work.now) c.args.work.now c.requires.fits c.requires.order
    c.requires.known
    c.requires.insert.0 c.args.new c.requires.insert.1 _ c.queue.new.work
    (c.in_ok-queue-in-Sequential.ensures.work c.args.self.def.now)

pub returns-in_ok-put-in-Free-clause-comes : goal.returns-in_ok-put-in-Free-clause-comes
returns-in_ok-put-in-Free-clause-comes g c ssas n its =
    let a = one_there c.args.self.def.now c.requires.good c.args.self.number
    (g.L.AnchorLocks.modes c.args.locks.now c.args.work.now) c.args.work.now c.requires.fits c.requires.order
    c.requires.known
    ssas c.args.new its c.in-Free.ensures.0 in
    let order = in_order c.args.self.def.now c.args.new.anchor a.0.roots
    (c.requires.fits.shapes c.args.new.anchor a.0 a.1) in
    insert_free c.args.self.def.now c.requires.good c.args.self.number
    (g.L.AnchorLocks.modes c.args.locks.now c.args.work.now) c.args.work.now c.requires.fits c.requires.order
    c.requires.known
    ssas c.args.new its n c.put.new.work c.in_ok-put-in-Free.field-0 a.0 a.1
    (c.in_ok-put-in-Free.ensures.work c.requires.order a.0 a.1 order)
    c.in_ok-put-in-Free.ensures.answer c.in-Free.ensures

pub returns-in_ok-put-in-Free-clause-goes : goal.returns-in_ok-put-in-Free-clause-goes
returns-in_ok-put-in-Free-clause-goes g c =
    let a = one_there c.args.self.def.now c.requires.good c.args.self.number
    (g.L.AnchorLocks.modes c.args.locks.now c.args.work.now) c.args.work.now c.requires.fits c.requires.order
    c.requires.known
    c.requires.insert.0 c.args.new c.requires.insert.1 c.in-Free.ensures.0 in
    let order = in_order c.args.self.def.now c.args.new.anchor a.0.roots
    (c.requires.fits.shapes c.args.new.anchor a.0 a.1) in
    edited_goes c.args.self.number c.args.new.anchor _ _ _ c.args.work.now c.put.new.work
    (c.in_ok-put-in-Free.ensures.work c.requires.order a.0 a.1 order) a.0 a.1

pub returns-in_ok-put-in-Free-clause-fits : goal.returns-in_ok-put-in-Free-clause-fits
returns-in_ok-put-in-Free-clause-fits g c =
    let a = one_there c.args.self.def.now c.requires.good c.args.self.number
    (g.L.AnchorLocks.modes c.args.locks.now c.args.work.now) c.args.work.now c.requires.fits c.requires.order
    c.requires.known
    c.requires.insert.0 c.args.new c.requires.insert.1 c.in-Free.ensures.0 in
    let order = in_order c.args.self.def.now c.args.new.anchor a.0.roots
    (c.requires.fits.shapes c.args.new.anchor a.0 a.1) in
    edited_fits c.args.self.number c.args.new.anchor _ _ _ c.args.work.now c.put.new.work
    (c.in_ok-put-in-Free.ensures.work c.requires.order a.0 a.1 order) c.args.self.def.now c.requires.fits
    (free_shape c.args.self.def.now c.requires.good c.args.self.number
    (g.L.AnchorLocks.modes c.args.locks.now c.args.work.now) c.args.work.now c.requires.fits c.requires.order
    c.requires.known
    c.requires.insert.0 c.args.new c.requires.insert.1 a.0 a.1 c.in-Free.ensures.3) refl
