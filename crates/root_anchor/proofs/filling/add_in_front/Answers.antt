use Rattle.std.proofs.Common.{refl}
use Rattle.std.proofs.lemmas.Result.{err_from_is_err_and}
use Rattle.root_anchor.specs.inside.Gaps.{AddsInFront}
use Rattle.root_anchor.proofs.Rebuilt.{place-stays}
use Rattle.root_anchor.proofs.TypeLemmas.{root-direct, root_form}
use Rattle.root_anchor.proofs.filling.add_in_front.Goals as goal
use Rattle.plain_laws.proofs.Results.{on_ok_map}

pub add_segment-requires-clause-fits : goal.add_segment-requires-clause-fits
add_segment-requires-clause-fits g c =
    let types = c.args.home.now.segments.now in
    let shape = root_form types c.args.root.now c.requires.root in
    record {
      direct = root-direct _ types c.requires.types;
      bytes = shape.bytes;
      serial = λ e. c.newest_of.ensures.none types shape.seqs e;
    }

pub returns-clause-filled : goal.returns-clause-filled
returns-clause-filled g c = λ told base.
    let types = c.args.home.now.segments.now in
    let adds = c.in_ok-at.ensures.adds told in
    let shape = root_form types c.args.root.now c.requires.root in
    on_ok_map _ _ _ (λ put. (let made : AddsInFront c.args.home.now.shape.now types
    (g.I.Intervals.intervals c.args.i.now) (g.I.Intervals.intervals c.put_root.new.i) c.args.home.now.anchor c.args.first
    c.args.root.now = record {
      added = _;
      is_root = refl;
      is_next = refl;
      is_newest = c.newest_of.ensures.newest types shape.seqs;
      has_bytes = refl;
      at = c.in_ok-at.at;
      middle = g.I.Intervals.intervals c.add_segment.new.i;
      adds = adds;
      put = put;
    } in made))
    (c.put_root.ensures.put (c.add_segment.ensures.goes_on.tells told)
    (place-stays _ _ _ _ _ _ adds.exchange base))

pub returns-clause-lists : goal.returns-clause-lists
returns-clause-lists g c = λ told base ci e.
    let adds = c.in_ok-at.ensures.adds told in
    absurd (c.put_root.ensures.sound (c.add_segment.ensures.goes_on.tells told)
    (place-stays _ _ _ _ _ _ adds.exchange base) ci e)

pub returns-in_err-at-clause-lists : goal.returns-in_err-at-clause-lists
returns-in_err-at-clause-lists g c = λ told base ci e.
    let p = err_from_is_err_and c.from_residual.result c.from_residual.ensures.1 in
    c.in_err-at.ensures.lists told ci (cc (p.1, p.2, c.in_err-at.was))
