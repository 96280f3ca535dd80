use Rattle.std.proofs.Common.{◌≤◌, length, sym, ap, ◌∙◌, arith}
use Rattle.std.proofs.lemmas.List.{length-take-le}
use Rattle.ci_space.proofs.Contents.{IsWithin, room-within}
use Rattle.anchor_elements.proofs.ElementLemmas.{got_length, got_room, says_front}
use Rattle.anchor_elements.proofs.saying.say.Goals as goal

pub spell-requires-clause-room : goal.spell-requires-clause-room
spell-requires-clause-room c = let w : IsWithin c.args.interval.now c.args.at _ = room-within _ _ _ c.requires in
    omega (arith, w.room, w.limit)

pub slice_bounds-content-end : goal.slice_bounds-content-end
slice_bounds-content-end c =
    let l : length c.content-length.result.now ≤ 4096 = got_length _ _ _ _ c.requires c.content-length.ensures in
    omega (arith, l, c.spell.auto.content)

pub slice_bounds-rewrite-end : goal.slice_bounds-rewrite-end
slice_bounds-rewrite-end c =
    let l : length c.content-length.result.now ≤ 4096 = got_length _ _ _ _ c.requires c.content-length.ensures in
    sym (length-take-le (length c.content-length.result.now) c.spell.new.content
    (omega (arith, l, c.spell.auto.content)))

pub rewrite-requires-clause-whole : goal.rewrite-requires-clause-whole
rewrite-requires-clause-whole c = λ type was used.
    let l : length c.content-length.result.now ≤ 4096 = got_length _ _ _ _ c.requires c.content-length.ensures in
    sym (ap length (c.content-length.ensures type was used)) ∙ sym
    (length-take-le (length c.content-length.result.now) c.spell.new.content
    (omega (arith, l, c.spell.auto.content)))

pub returns-clause-says : goal.returns-clause-says
returns-clause-says c =
    let l : length c.content-length.result.now ≤ 4096 = got_length _ _ _ _ c.requires c.content-length.ensures in
    says_front _ _ _ _ _ _ _ (got_room _ _ _ _ c.requires c.content-length.ensures)
    (omega (arith, l, c.spell.auto.content)) c.spell.ensures c.rewrite.ensures.element
