use Rattle.std.proofs.Common.{◌≡◌, ◌∙◌}
use Rattle.ci_space.proofs.Contents.{whole-again}
use Rattle.ci_space.proofs.interval.Interval.set_ends.Goals as goal

pub invariant_of-self : goal.invariant_of-self
invariant_of-self c =
    let v : c.deref_mut.result.now ≡ c.args.self.now = c.deref_mut.ensures.value ∙ c.self.view_is in
    let e = whole-again c.put_ends.new.bytes c.self.inside.bytes.items c.self.inside.bytes.len
    (c.put_ends.auto.bytes ∙ c.deref_mut.ensures.len) in
    rw e (record {
      elements = c.self.invariant.elements;
      tiles =
          c.put_ends.ensures.tiles _ (rw v (rw (← c.self.view_is) c.self.invariant.tiles));
    })

pub returns-clause-ends : goal.returns-clause-ends
returns-clause-ends c =
    let v : c.deref_mut.result.now ≡ c.args.self.now = c.deref_mut.ensures.value ∙ c.self.view_is in
    let e = whole-again c.put_ends.new.bytes c.self.inside.bytes.items c.self.inside.bytes.len
    (c.put_ends.auto.bytes ∙ c.deref_mut.ensures.len) in
    rw e c.put_ends.ensures.ends

pub returns-clause-head : goal.returns-clause-head
returns-clause-head c =
    let v : c.deref_mut.result.now ≡ c.args.self.now = c.deref_mut.ensures.value ∙ c.self.view_is in
    let e = whole-again c.put_ends.new.bytes c.self.inside.bytes.items c.self.inside.bytes.len
    (c.put_ends.auto.bytes ∙ c.deref_mut.ensures.len) in
    rw (e, ← v) c.put_ends.ensures.head
