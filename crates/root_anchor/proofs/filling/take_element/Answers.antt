use Rattle.std.proofs.Common.{◌≡◌, ℕ, Err, sym, subst, ap, ◌∙◌, arith}
use Rattle.ci_space.proofs.Tilings.{size-bounds}
use Rattle.ci_overflow.specs.Faults.{FitsEmpty}
use Rattle.ci_overflow.specs.inside.Rooms.{TakesOne}
use Rattle.ci_overflow.specs.declared.SpaceFault.TheVariants.{Damaged as SpaceDamaged}
use Rattle.anchor_elements.specs.declared.fault.AnchorFault.TheVariants.{Damaged}
use Rattle.root_anchor.proofs.TypeLemmas.{fits-empty, content-small}
use Rattle.root_anchor.proofs.filling.take_element.Goals as goal

pub overflow_cast-length : goal.overflow_cast-length
overflow_cast-length g c =
    let b = size-bounds _ (g.met.I.Intervals.is_sized c.args.i.now) in
    let s = content-small _ _ _ c.requires.types c.requires.direct b.1 in
    omega (arith, s, c.content_length-length.ensures.exact)

pub returns-in-Ok-clause-takes : goal.returns-in-Ok-clause-takes
returns-in-Ok-clause-takes g c = λ t. subst (λ n. TakesOne c.args.home.now.shape.now
    (g.I.Intervals.intervals c.args.i.now) (g.I.Intervals.intervals c.find_room.new.i) c.args.home.now.anchor n
    c.in-Ok.at) c.content_length-length.ensures.exact (record {
      takes = c.in-Ok.ensures.takes t;
      own = c.in-Ok.ensures.own t;
      finds = c.in-Ok.ensures.room t;
      in_order = c.in-Ok.ensures.lists t;
    })

pub returns-in-Err-clause-lists : goal.returns-in-Err-clause-lists
returns-in-Err-clause-lists g c = λ t ci e.
    let fault : c.fault_of.result ≡ Damaged ci = cc in
    let was : c.in-Err.fault ≡ SpaceDamaged ci = c.fault_of.ensures.damaged ci fault in
    let P : ℕ → Type 0 = λ n. FitsEmpty (g.I.Intervals.size c.args.i.now) n in
    let fits = subst P (sym c.content_length-length.ensures.exact) (fits-empty _ _ _ c.requires.types c.requires.direct)
    in
    c.find_room.ensures.damaged t fits ci (c.in-Err.is ∙ ap Err was)
