use Rattle.std.proofs.Common.{◌≡◌, ◌∙◌, length}
use Rattle.ci_space.specs.Interval.{empty_bytes}
use Rattle.ci_space.proofs.Contents.{whole-again}
use Rattle.ci_space.proofs.Empties.{empty-interval, tiled-tiles, kind-empty}
use Rattle.ci_space.proofs.interval.Interval.empty.Goals as goal

pub invariant_of-result : goal.invariant_of-result
invariant_of-result c =
    let e = whole-again c.put_empty.new.bytes c.in_ok-bytes.bytes.items c.in_ok-bytes.bytes.len
    (c.put_empty.auto.bytes ∙ c.deref_mut.ensures.len) in
    let n : length c.deref_mut.result.now ≡ c.args.size =
    c.deref_mut.ensures.len ∙ c.in_ok-bytes.ensures.len ∙ c.from.ensures in
    let f : c.put_empty.new.bytes ≡ empty_bytes c.args.size c.args.kind = rw n at c.put_empty.ensures in
    rw (e, f) (empty-interval c.args.size c.args.kind c.requires.size c.requires.kind)

pub returns-clause-one_free : goal.returns-clause-one_free
returns-clause-one_free c =
    let e = whole-again c.put_empty.new.bytes c.in_ok-bytes.bytes.items c.in_ok-bytes.bytes.len
    (c.put_empty.auto.bytes ∙ c.deref_mut.ensures.len) in
    let n : length c.deref_mut.result.now ≡ c.args.size =
    c.deref_mut.ensures.len ∙ c.in_ok-bytes.ensures.len ∙ c.from.ensures in
    let f : c.put_empty.new.bytes ≡ empty_bytes c.args.size c.args.kind = rw n at c.put_empty.ensures in
    rw (e, f) (tiled-tiles c.args.size c.args.kind c.requires.size c.requires.kind)

pub returns-clause-kind : goal.returns-clause-kind
returns-clause-kind c =
    let e = whole-again c.put_empty.new.bytes c.in_ok-bytes.bytes.items c.in_ok-bytes.bytes.len
    (c.put_empty.auto.bytes ∙ c.deref_mut.ensures.len) in
    let n : length c.deref_mut.result.now ≡ c.args.size =
    c.deref_mut.ensures.len ∙ c.in_ok-bytes.ensures.len ∙ c.from.ensures in
    let f : c.put_empty.new.bytes ≡ empty_bytes c.args.size c.args.kind = rw n at c.put_empty.ensures in
    rw (e, f) (kind-empty c.args.size c.args.kind)
