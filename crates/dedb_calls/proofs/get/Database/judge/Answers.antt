use Rattle.std.proofs.Common.{refl, sym, true, false}
use Rattle.dedb_calls.proofs.InsertLemmas.{kind_as, parents_as, there_as}
use Rattle.dedb_calls.proofs.get.Database.judge.Goals as goal

pub returns-then-not-parents_stand : goal.returns-then-not-parents_stand
returns-then-not-parents_stand g c = (
  c.in-Some.ensures.locked,
  sym (parents_as c.args.self.def.now c.requires.good c.args.self.number
      (g.L.AnchorLocks.modes c.args.locks.now c.args.work.now) c.args.work.now c.requires.fits c.requires.order
      c.requires.known
      c.requires.insert.0 c.args.new.now
      c.requires.insert.1 c.args.work.now.anchors refl c.in-Some.roots.now c.in-Some.ensures
      c.as_slice-segments.result.now c.as_slice-segments.ensures c.as_slice-roots.result.now c.as_slice-roots.ensures
      c.as_slice-steps.result.now c.as_slice-steps.ensures false c.if-not-parents_stand.ensures),
)

pub returns-then-is_sequential : goal.returns-then-is_sequential
returns-then-is_sequential g c = (
  c.in-Some.ensures.locked,
  sym (parents_as c.args.self.def.now c.requires.good c.args.self.number
      (g.L.AnchorLocks.modes c.args.locks.now c.args.work.now) c.args.work.now c.requires.fits c.requires.order
      c.requires.known
      c.requires.insert.0 c.args.new.now
      c.requires.insert.1 c.args.work.now.anchors refl c.in-Some.roots.now c.in-Some.ensures
      c.as_slice-segments.result.now c.as_slice-segments.ensures c.as_slice-roots.result.now c.as_slice-roots.ensures
      c.as_slice-steps.result.now c.as_slice-steps.ensures true c.if-not-parents_stand.ensures),
  sym (kind_as c.args.self.def.now c.requires.good c.args.self.number
      (g.L.AnchorLocks.modes c.args.locks.now c.args.work.now) c.args.work.now c.requires.fits c.requires.order
      c.requires.known
      c.requires.insert.0 c.args.new.now
      c.requires.insert.1 c.args.work.now.anchors refl c.in-Some.roots.now c.in-Some.ensures
      c.as_slice-segments.result.now c.as_slice-segments.ensures c.as_slice-roots.result.now c.as_slice-roots.ensures
      c.as_slice-steps.result.now c.as_slice-steps.ensures true c.if-is_sequential.ensures),
)

pub returns-then-leads_to : goal.returns-then-leads_to
returns-then-leads_to g c =
    let direct = sym (kind_as c.args.self.def.now c.requires.good c.args.self.number
    (g.L.AnchorLocks.modes c.args.locks.now c.args.work.now) c.args.work.now c.requires.fits c.requires.order
    c.requires.known
    c.requires.insert.0 c.args.new.now
    c.requires.insert.1 c.args.work.now.anchors refl c.in-Some.roots.now c.in-Some.ensures
    c.as_slice-segments.result.now c.as_slice-segments.ensures c.as_slice-roots.result.now c.as_slice-roots.ensures
    c.as_slice-steps.result.now c.as_slice-steps.ensures false c.if-is_sequential.ensures) in (
      c.in-Some.ensures.locked,
      sym (parents_as c.args.self.def.now c.requires.good c.args.self.number
          (g.L.AnchorLocks.modes c.args.locks.now c.args.work.now) c.args.work.now c.requires.fits c.requires.order
          c.requires.known
          c.requires.insert.0 c.args.new.now
          c.requires.insert.1 c.args.work.now.anchors refl c.in-Some.roots.now c.in-Some.ensures
          c.as_slice-segments.result.now c.as_slice-segments.ensures c.as_slice-roots.result.now
          c.as_slice-roots.ensures
          c.as_slice-steps.result.now c.as_slice-steps.ensures true c.if-not-parents_stand.ensures),
      direct,
      sym (there_as c.args.self.def.now c.requires.good c.args.self.number
          (g.L.AnchorLocks.modes c.args.locks.now c.args.work.now) c.args.work.now c.requires.fits c.requires.order
          c.requires.known
          c.requires.insert.0 c.args.new.now
          c.requires.insert.1 c.args.work.now.anchors refl c.in-Some.roots.now c.in-Some.ensures
          c.as_slice-segments.result.now c.as_slice-segments.ensures c.as_slice-roots.result.now
          c.as_slice-roots.ensures
          c.as_slice-steps.result.now c.as_slice-steps.ensures true c.if-leads_to.ensures direct),
    )

pub returns : goal.returns
returns g c =
    let direct = sym (kind_as c.args.self.def.now c.requires.good c.args.self.number
    (g.L.AnchorLocks.modes c.args.locks.now c.args.work.now) c.args.work.now c.requires.fits c.requires.order
    c.requires.known
    c.requires.insert.0 c.args.new.now
    c.requires.insert.1 c.args.work.now.anchors refl c.in-Some.roots.now c.in-Some.ensures
    c.as_slice-segments.result.now c.as_slice-segments.ensures c.as_slice-roots.result.now c.as_slice-roots.ensures
    c.as_slice-steps.result.now c.as_slice-steps.ensures false c.if-is_sequential.ensures) in (
      c.in-Some.ensures.locked,
      sym (parents_as c.args.self.def.now c.requires.good c.args.self.number
          (g.L.AnchorLocks.modes c.args.locks.now c.args.work.now) c.args.work.now c.requires.fits c.requires.order
          c.requires.known
          c.requires.insert.0 c.args.new.now
          c.requires.insert.1 c.args.work.now.anchors refl c.in-Some.roots.now c.in-Some.ensures
          c.as_slice-segments.result.now c.as_slice-segments.ensures c.as_slice-roots.result.now
          c.as_slice-roots.ensures
          c.as_slice-steps.result.now c.as_slice-steps.ensures true c.if-not-parents_stand.ensures),
      direct,
      sym (there_as c.args.self.def.now c.requires.good c.args.self.number
          (g.L.AnchorLocks.modes c.args.locks.now c.args.work.now) c.args.work.now c.requires.fits c.requires.order
          c.requires.known
          c.requires.insert.0 c.args.new.now
          c.requires.insert.1 c.args.work.now.anchors refl c.in-Some.roots.now c.in-Some.ensures
          c.as_slice-segments.result.now c.as_slice-segments.ensures c.as_slice-roots.result.now
          c.as_slice-roots.ensures
          c.as_slice-steps.result.now c.as_slice-steps.ensures false c.if-leads_to.ensures direct),
    )
