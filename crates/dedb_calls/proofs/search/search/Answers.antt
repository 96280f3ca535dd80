use Rattle.std.proofs.Common.{◌≡◌, ◌∙◌, List, sym, ap, true, subst}
use Rattle.std.specs.Prelude.{option_map}
use Rattle.std.specs.Option.{option_copied}
use Rattle.fp_model.specs.declared.database.Root.{Root}
use Rattle.fp_model.specs.Order.{first_admitted}
use Rattle.dli_tree.specs.InOrder.{are_in_order}
use Rattle.dli_tree.specs.Paths.{occurrence_of}
use Rattle.dedb_calls.proofs.SearchLemmas.{goes_on, held_roots, stops_found, stops_unlocked}
use Rattle.dedb_calls.proofs.search.search.Goals as goal

pub returns-in_default : goal.returns-in_default
returns-in_default g c =
    stops_unlocked _ _ c.args.stretch.from c.args.stretch.to c.loop-number.number c.loop-number.invariant.locked
    c.loop-number.invariant.found c.loop-number-test.true c.in_default.ensures

pub returns-in-Some-2 : goal.returns-in-Some-2
returns-in-Some-2 g c =
    let has = c.in-Some.ensures in
    let roots = held_roots c.args.reach.now.work.now.anchors c.args.reach.now.dedb c.loop-number.number has.one
    c.in-Some.roots.now has.there
    has.its in
    let order : are_in_order c.args.segments.now c.in-Some.roots.now ≡ true =
    subst (λ (rs : List Root). are_in_order c.args.segments.now rs ≡ true) (sym has.its)
    (c.requires.shapes c.loop-number.number has.one has.there) in
    stops_found _ _ c.args.stretch.from c.args.stretch.to c.loop-number.number c.loop-number.invariant.locked
    c.loop-number.invariant.found c.loop-number-test.true (occurrence_of (c.in-Some-2.path, c.in-Some-2.bytes))
    has.locked
    (ap (λ (rs : List Root). first_admitted c.args.segments.now c.loop-number.number rs
    (option_copied c.args.quest.behind) (option_copied c.args.quest.within) c.args.quest.ssas.now) roots
    ∙ sym (c.in_ok-path.ensures order)
    ∙ ap (λ found. option_map occurrence_of found) c.in-Some-2.is)

pub loop-number-preserved : goal.loop-number-preserved
loop-number-preserved g c =
    let has = c.in-Some.ensures in
    let roots = held_roots c.args.reach.now.work.now.anchors c.args.reach.now.dedb c.loop-number.number has.one
    c.in-Some.roots.now has.there
    has.its in
    let order : are_in_order c.args.segments.now c.in-Some.roots.now ≡ true =
    subst (λ (rs : List Root). are_in_order c.args.segments.now rs ≡ true) (sym has.its)
    (c.requires.shapes c.loop-number.number has.one has.there) in
    let on = goes_on _ _ c.args.stretch.from c.args.stretch.to c.loop-number.number c.loop-number.invariant.locked
    c.loop-number.invariant.found c.loop-number-test.true has.locked
    (ap (λ (rs : List Root). first_admitted c.args.segments.now c.loop-number.number rs
    (option_copied c.args.quest.behind) (option_copied c.args.quest.within) c.args.quest.ssas.now) roots
    ∙ sym (c.in_ok-path.ensures order)
    ∙ ap (λ found. option_map occurrence_of found) c.in_default-2.is) in
    record { locked = on.0; found = on.1 }
