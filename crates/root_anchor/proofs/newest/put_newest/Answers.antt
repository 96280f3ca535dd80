use Rattle.std.proofs.Common.{◌∙◌, ℕ, List, [], sym, ap, subst}
use Rattle.std.proofs.lemmas.Result.{err_from_is_err_and}
use Rattle.ci_space.specs.Interval.{HasRoom}
use Rattle.ci_overflow.specs.Lists.{bytes_at}
use Rattle.anchor_elements.specs.Elements.{content_length}
use Rattle.anchor_elements.specs.Reading.{segment_of, pointers_of}
use Rattle.root_anchor.proofs.NewestLemmas.{newest_puts}
use Rattle.root_anchor.proofs.OneChain.{one_segment}
use Rattle.root_anchor.proofs.Sound.{right}
use Rattle.root_anchor.proofs.TypeLemmas.{root-direct}
use Rattle.root_anchor.proofs.newest.put_newest.Goals as goal
use Rattle.plain_laws.proofs.Alls.{contains_nothing}
use Rattle.plain_laws.proofs.Results.{on_ok_map}

pub returns-in_err-said-clause-sound : goal.returns-in_err-said-clause-sound
returns-in_err-said-clause-sound g c = λ t s has ci e.
    let p = err_from_is_err_and c.from_residual.result c.from_residual.ensures.1 in
    right s has (contains_nothing c.args.at) (c.read_element.ensures.wrong t ci (cc (p.1, p.2, c.in_err-said.was)) [])

pub put_segment-requires-clause-segment : goal.put_segment-requires-clause-segment
put_segment-requires-clause-segment g c = (root-direct _ c.args.segments.now c.requires.types).direct

pub returns-clause-put : goal.returns-clause-put
returns-clause-put g c = λ t s has.
    let types = c.args.segments.now in
    let same = c.read_element.ensures.same t in
    let says = one_segment (c.in_ok-said.ensures.says t) has in
    let P : List (List ℕ) → Type 0 = λ a. HasRoom (bytes_at a c.args.at.0) c.args.at.1 (content_length types 0) in
    let room = subst P (sym same) (record { segment = 0; content = has.content; used = has.used; fits = has.fits }) in
    on_ok_map _ _ _ (λ put. newest_puts types _ _ _ c.args.at s (segment_of c.in_ok-said.said) _ _ c.args.serial put
    same
    says
    (c.as_slice-2.ensures.value ∙ c.in_ok-firsts.ensures ∙ ap pointers_of c.as_slice.ensures.value)
    c.as_slice-3.ensures)
    (c.put_segment.ensures.put (c.read_element.ensures.goes_on.tells t) room)
