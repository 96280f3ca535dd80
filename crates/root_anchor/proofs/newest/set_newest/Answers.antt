use Rattle.std.proofs.Common.{sym, subst}
use Rattle.std.proofs.lemmas.Result.{err_from_is_err_and}
use Rattle.anchor_elements.specs.Elements.{HasSegment}
use Rattle.anchor_elements.specs.Puts.{PutsSegment}
use Rattle.root_anchor.proofs.NewestLemmas.{root_has, root_found}
use Rattle.root_anchor.proofs.newest.set_newest.Goals as goal

pub returns-in_err-put_newest-clause-damaged : goal.returns-in_err-put_newest-clause-damaged
returns-in_err-put_newest-clause-damaged g c = λ t ci e.
    let p = err_from_is_err_and c.from_residual-in_err-put_newest.result c.from_residual-in_err-put_newest.ensures.1 in
    let same = c.root_place.ensures.same t in
    let found = root_found _ c.in-Some.place _ c.in-Some.is (c.in_ok-place.ensures.place t) in
    let has = subst (λ a. HasSegment c.args.segments.now a 0 (c.in-Some.place.ci, c.in-Some.place.at) found.segment)
    (sym same) (root_has found.is_root) in
    absurd (c.put_newest.ensures.sound (c.root_place.ensures.goes_on.tells t) found.segment has ci
    (cc (p.1, p.2, c.in_err-put_newest.was)))

pub returns-in_err-put_newest-clause-sound : goal.returns-in_err-put_newest-clause-sound
returns-in_err-put_newest-clause-sound g c = λ t chain ci e.
    let p = err_from_is_err_and c.from_residual-in_err-put_newest.result c.from_residual-in_err-put_newest.ensures.1 in
    let same = c.root_place.ensures.same t in
    let found = root_found _ c.in-Some.place _ c.in-Some.is (c.in_ok-place.ensures.place t) in
    let has = subst (λ a. HasSegment c.args.segments.now a 0 (c.in-Some.place.ci, c.in-Some.place.at) found.segment)
    (sym same) (root_has found.is_root) in
    c.put_newest.ensures.sound (c.root_place.ensures.goes_on.tells t) found.segment has ci
    (cc (p.1, p.2, c.in_err-put_newest.was))

pub returns-clause-set : goal.returns-clause-set
returns-clause-set g c = λ t yes.
    let same = c.root_place.ensures.same t in
    let found = root_found _ c.in-Some.place _ c.in-Some.is (c.in_ok-place.ensures.place t) in
    let has = subst (λ a. HasSegment c.args.segments.now a 0 (c.in-Some.place.ci, c.in-Some.place.at) found.segment)
    (sym same) (root_has found.is_root) in
    let put = c.in_ok-put_newest.ensures.put (c.root_place.ensures.goes_on.tells t) found.segment has in
    record {
      place = (c.in-Some.place.ci, c.in-Some.place.at);
      segment = found.segment;
      is_root = found.is_root;
      puts = subst (λ a. PutsSegment c.args.segments.now a (g.I.Intervals.intervals c.put_newest.new.i) 0
          (c.in-Some.place.ci, c.in-Some.place.at) (record found.segment { serial = c.args.serial })) same put;
    }
