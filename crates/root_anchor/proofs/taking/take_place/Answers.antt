use Rattle.std.proofs.Common.{◌≡◌, ℕ, Err, sym, subst, ap, ◌∙◌, arith}
use Rattle.ci_space.proofs.Tilings.{size-bounds}
use Rattle.ci_overflow.specs.Faults.{FitsEmpty}
use Rattle.ci_overflow.specs.declared.SpaceFault.TheVariants.{Damaged as SpaceDamaged}
use Rattle.anchor_elements.specs.declared.fault.AnchorFault.TheVariants.{Damaged}
use Rattle.root_anchor.specs.Faults.{as_it_is, room_taken}
use Rattle.root_anchor.proofs.TypeLemmas.{fits-empty, content-small}
use Rattle.root_anchor.proofs.Steps.{finds-place, keeps-place}
use Rattle.root_anchor.proofs.taking.take_place.Goals as goal

pub returns-in-Some-clause-place : goal.returns-in-Some-clause-place
returns-in-Some-clause-place g c = λ t s h. keeps-place _ _ _ _ _ _ _ c.in-Some.is h

pub returns-in-Some-clause-comes : goal.returns-in-Some-clause-comes
returns-in-Some-clause-comes g c = λ t s elements. as_it_is _

pub overflow_cast-length : goal.overflow_cast-length
overflow_cast-length g c =
    let b = size-bounds _ (g.met.I.Intervals.is_sized c.args.i.now) in
    let s = content-small _ _ _ c.requires.types c.requires.direct b.1 in
    omega (arith, s, c.content_length-length.ensures.exact)

pub returns-in-Ok-clause-place : goal.returns-in-Ok-clause-place
returns-in-Ok-clause-place g c = λ t s h. finds-place _ _ _ _ _ _ _ _ _ c.in_default.is
    c.content_length-length.ensures.exact (c.in-Ok.ensures.takes t s) (c.in-Ok.ensures.lists t s) (c.in-Ok.ensures.own t s)
    c.requires.anchor

pub returns-in-Ok-clause-comes : goal.returns-in-Ok-clause-comes
returns-in-Ok-clause-comes g c = λ t s elements. room_taken _ _ _ _ c.in-Ok.at (as_it_is _) (c.in-Ok.ensures.takes t s)

pub returns-in-Err-clause-damaged : goal.returns-in-Err-clause-damaged
returns-in-Err-clause-damaged g c = λ t s ci e.
    let fault : c.fault_of.result ≡ Damaged ci = cc in
    let was : c.in-Err.fault ≡ SpaceDamaged ci = c.fault_of.ensures.damaged ci fault in
    let P : ℕ → Type 0 = λ n. FitsEmpty (g.I.Intervals.size c.args.i.now) n in
    let fits = subst P (sym c.content_length-length.ensures.exact) (fits-empty _ _ _ c.requires.types c.requires.direct)
    in
    c.find_room_seen.ensures.damaged t s fits ci (c.in-Err.is ∙ ap Err was)

pub returns-in-Some-clause-planned : goal.returns-in-Some-clause-planned
returns-in-Some-clause-planned g c = λ at e. let is = c.in-Some.is in cc

pub returns-in-Ok-clause-planned : goal.returns-in-Ok-clause-planned
returns-in-Ok-clause-planned g c = λ at e. let is = c.in_default.is in absurd (cc)
