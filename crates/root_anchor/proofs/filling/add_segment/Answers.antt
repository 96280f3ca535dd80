use Rattle.std.proofs.Common.{◌∙◌, List, length, replicate, ap}
use Rattle.std.proofs.lemmas.Result.{err_from_is_err_and}
use Rattle.fp_model.specs.declared.definitions.SegDef.{SegDef}
use Rattle.fp_model.specs.Order.{child_types}
use Rattle.anchor_elements.specs.Elements.{nothing}
use Rattle.root_anchor.proofs.FillLemmas.{adds_made, says_made}
use Rattle.root_anchor.proofs.filling.add_segment.Goals as goal

pub returns-in_err-at-clause-lists : goal.returns-in_err-at-clause-lists
returns-in_err-at-clause-lists g c = λ told ci e.
    let p = err_from_is_err_and c.from_residual-in_err-at.result c.from_residual-in_err-at.ensures.1 in
    c.in_err-at.ensures.lists told ci (cc (p.1, p.2, c.in_err-at.was))

pub returns-in_err-put_segment-clause-lists : goal.returns-in_err-put_segment-clause-lists
returns-in_err-put_segment-clause-lists g c = λ told ci e.
    let p = err_from_is_err_and c.from_residual-in_err-put_segment.result c.from_residual-in_err-put_segment.ensures.1 in
    absurd (c.put_segment.ensures.sound (c.take_element.ensures.goes_on.tells told)
    (c.in_ok-at.ensures.takes told).takes.has_room ci (cc (p.1, p.2, c.in_err-put_segment.was)))

pub returns-clause-adds : goal.returns-clause-adds
returns-clause-adds g c = λ told.
    let types = c.args.home.now.segments.now in
    let t = c.in_ok-at.ensures.takes told in
    let put = c.in_ok-put_segment.ensures.put (c.take_element.ensures.goes_on.tells told) t.takes.has_room in
    let count = ap length (c.as_slice-2.ensures.value ∙ c.in_ok-below.ensures.types)
    ∙ ap (λ (ts : List SegDef). length (child_types ts c.args.added.segment)) c.as_slice.ensures in
    let firsts = c.as_slice-3.ensures.value ∙ c.in_ok-firsts.ensures.nothing
    ∙ ap (λ n. replicate n nothing) count in
    adds_made c.args.home.now.shape.now types _ _ _ c.args.home.now.anchor c.args.added c.in_ok-at.at _
    c.requires.anchor t (says_made types c.args.added _ _ firsts c.as_slice-4.ensures) put
