use Rattle.std.proofs.Common.{◌≡◌, ◌+◌, ◌≤◌, length, ◌∙◌, arith}
use Rattle.ci_space.proofs.Walks.{IsWhole}
use Rattle.ci_space.proofs.Tilings.{used-whole, used-front, used-back, freed-used, frees-used}
use Rattle.ci_space.proofs.Standing.{freed-gone, freed-others}
use Rattle.ci_space.proofs.elements.free.Goals as goal

pub start_of_free-start-requires-clause-end : goal.start_of_free-start-requires-clause-end
start_of_free-start-requires-clause-end c =
    let w : IsWhole c.args.bytes.now c.args.at (length c.args.bytes.now) = used-whole _ _ c.requires in
    omega arith

pub start_of_free-start-requires-clause-tiled : goal.start_of_free-start-requires-clause-tiled
start_of_free-start-requires-clause-tiled c = (
  c.requires.used.before,
  used-front _ _ _ _ _ c.requires.used.place c.requires.used.tiles,
)

pub length_at-requires : goal.length_at-requires
length_at-requires c =
    let w : IsWhole c.args.bytes.now c.args.at (length c.args.bytes.now) = used-whole _ _ c.requires in
    omega arith

pub end_of_free-end-requires : goal.end_of_free-end-requires
end_of_free-end-requires c =
    let back = used-back _ _ _ _ _ c.requires.used.place c.requires.used.tiles in
    let e : c.length_at.result ≡ 4 + length c.requires.content = c.length_at.ensures.length ∙ back.0.0.is_length in
    (c.requires.used.after, rw e back.1)

pub overflow_sub-end : goal.overflow_sub-end
overflow_sub-end c = (freed-used _ c.args.at _ _ _ c.requires c.length_at.ensures.length c.start_of_free-start.ensures
    c.end_of_free-end.ensures).order

pub put_element-requires-clause-room : goal.put_element-requires-clause-room
put_element-requires-clause-room c = (freed-used _ c.args.at _ _ _ c.requires c.length_at.ensures.length
    c.start_of_free-start.ensures c.end_of_free-end.ensures).room

pub put_element-requires-clause-fits : goal.put_element-requires-clause-fits
put_element-requires-clause-fits c = (freed-used _ c.args.at _ _ _ c.requires c.length_at.ensures.length
    c.start_of_free-start.ensures c.end_of_free-end.ensures).fits

pub returns-clause-freed : goal.returns-clause-freed
returns-clause-freed c = λ before after segment content p t.
    frees-used _ _ c.args.at _ _ _ before after segment content p t c.length_at.ensures.length
    c.start_of_free-start.ensures c.end_of_free-end.ensures c.put_element.auto.bytes c.put_element.ensures

pub returns-clause-head : goal.returns-clause-head
returns-clause-head c =
    let low : 32 ≤ c.start_of_free-start.result = (freed-used _ c.args.at _ _ _ c.requires c.length_at.ensures.length
    c.start_of_free-start.ensures c.end_of_free-end.ensures).low in
    λ k x y. c.put_element.ensures.below k x (omega arith)

pub returns-clause-gone : goal.returns-clause-gone
returns-clause-gone c = freed-gone _ _ _ c.requires (λ before after segment content p t.
    frees-used _ _ c.args.at _ _ _ before after segment content p t c.length_at.ensures.length
    c.start_of_free-start.ensures c.end_of_free-end.ensures c.put_element.auto.bytes c.put_element.ensures)

pub returns-clause-others : goal.returns-clause-others
returns-clause-others c = freed-others _ _ _ c.requires (λ before after segment content p t.
    frees-used _ _ c.args.at _ _ _ before after segment content p t c.length_at.ensures.length
    c.start_of_free-start.ensures c.end_of_free-end.ensures c.put_element.auto.bytes c.put_element.ensures)
