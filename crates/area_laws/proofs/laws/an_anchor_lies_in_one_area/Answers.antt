use Rattle.area_laws.proofs.AnchorAreas.{anchor_area, one_area}
use Rattle.area_laws.proofs.laws.an_anchor_lies_in_one_area.Goals as goal

pub returns-clause-some : goal.returns-clause-some
returns-clause-some c = λ defs db change good there.
    let a = anchor_area defs db change good there in
    (a.set, a.place, a.is_place, a.has)

pub returns-clause-one : goal.returns-clause-one
returns-clause-one c = one_area
