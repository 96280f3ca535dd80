use Rattle.std.proofs.Common.{◌≡◌}
use Rattle.anchor_elements.proofs.ReadLemmas.{refused}
use Rattle.root_anchor.proofs.WalkLemmas.{wrong_met, all_stand_pushed}
use Rattle.root_anchor.proofs.walk.visit.Goals as goal

pub returns-then-has_met-clause-wrong : goal.returns-then-has_met-clause-wrong
returns-then-has_met-clause-wrong g c = λ t ci e.
    let same : c.args.from ≡ ci = cc in
    wrong_met _ _ _ c.args.from ci c.args.segment c.args.at same
    ((c.has_met.ensures (g.I.Intervals.number c.args.i.now) c.requires.walk).0 c.if-has_met.true)

pub returns-clause-fresh : goal.returns-clause-fresh
returns-clause-fresh g c = refused (c.has_met.ensures (g.I.Intervals.number c.args.i.now) c.requires.walk)
    c.if-has_met.false

pub returns-clause-walk : goal.returns-clause-walk
returns-clause-walk g c =
    let fresh = refused (c.has_met.ensures (g.I.Intervals.number c.args.i.now) c.requires.walk) c.if-has_met.false in
    c.in_ok-note.ensures.walk (g.I.Intervals.number c.args.i.now) c.requires.walk fresh c.in_ok-said.ensures.below
    c.in_ok-said.ensures.inside

pub returns-clause-stand : goal.returns-clause-stand
returns-clause-stand g c = λ t stand.
    all_stand_pushed _ _ c.args.walk.now c.note.new.self _ _ _ (c.in_ok-said.ensures.says t) c.in_ok-note.ensures.met
    stand
