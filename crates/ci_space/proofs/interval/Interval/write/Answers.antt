use Rattle.std.proofs.Common.{◌≡◌, ◌∙◌}
use Rattle.ci_space.proofs.Contents.{whole-again}
use Rattle.ci_space.proofs.interval.Interval.write.Goals as goal

pub invariant_of-self : goal.invariant_of-self
invariant_of-self c =
    let v : c.deref_mut.result.now ≡ c.args.self.now = c.deref_mut.ensures.value ∙ c.self.view_is in
    let e = whole-again c.write.new.bytes c.self.inside.bytes.items c.self.inside.bytes.len
    (c.write.auto.bytes ∙ c.deref_mut.ensures.len) in
    rw e (record {
      elements = _;
      tiles = c.write.ensures.wrote c.requires.used.before c.requires.used.after c.requires.segment c.requires.content
          (c.from.ensures ∙ c.requires.used.place) (rw v c.requires.used.tiles);
    })

pub returns-clause-wrote : goal.returns-clause-wrote
returns-clause-wrote c =
    let v : c.deref_mut.result.now ≡ c.args.self.now = c.deref_mut.ensures.value ∙ c.self.view_is in
    let e = whole-again c.write.new.bytes c.self.inside.bytes.items c.self.inside.bytes.len
    (c.write.auto.bytes ∙ c.deref_mut.ensures.len) in
    rw (e, ← v, ← c.from.ensures) c.write.ensures.wrote

pub returns-clause-head : goal.returns-clause-head
returns-clause-head c =
    let v : c.deref_mut.result.now ≡ c.args.self.now = c.deref_mut.ensures.value ∙ c.self.view_is in
    let e = whole-again c.write.new.bytes c.self.inside.bytes.items c.self.inside.bytes.len
    (c.write.auto.bytes ∙ c.deref_mut.ensures.len) in
    rw (e, ← v) c.write.ensures.head
