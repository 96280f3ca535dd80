use Rattle.std.proofs.Common.{◌≡◌, ◌∙◌, ℕ, Some, ap, sym, subst, arith, slice_get, slice_set}
use Rattle.past_anchors.specs.Databases.{state_of}
use Rattle.past_anchors.specs.inside.Places.{area_of}
use Rattle.past_anchors.proofs.Dropping.{anchors_within, fall_there, in_areas, in_dedbs, purged_is}
use Rattle.past_anchors.proofs.purging.purge_area.Goals as goal

pub item_mut-requires : goal.item_mut-requires
item_mut-requires c = omega (arith, in_dedbs c.args.dedbs.now (area_of c.args.area.now) c.requires, c.from.ensures)

pub purge_in-requires-clause-number : goal.purge_in-requires-clause-number
purge_in-requires-clause-number c =
    in_areas c.args.dedbs.now (area_of c.args.area.now) c.requires c.item_mut.result.now
    (subst (λ (k : ℕ). slice_get c.args.dedbs.now k ≡ Some c.item_mut.result.now) c.from.ensures
    c.item_mut.ensures.value)

pub purge_in-requires-clause-anchors : goal.purge_in-requires-clause-anchors
purge_in-requires-clause-anchors c =
    anchors_within c.args.dedbs.now (area_of c.args.area.now) c.requires c.item_mut.result.now
    (subst (λ (k : ℕ). slice_get c.args.dedbs.now k ≡ Some c.item_mut.result.now) c.from.ensures
    c.item_mut.ensures.value)

pub purge_in-requires-clause-fall : goal.purge_in-requires-clause-fall
purge_in-requires-clause-fall c =
    fall_there c.args.dedbs.now (area_of c.args.area.now) c.requires c.item_mut.result.now
    (subst (λ (k : ℕ). slice_get c.args.dedbs.now k ≡ Some c.item_mut.result.now) c.from.ensures
    c.item_mut.ensures.value)

pub returns : goal.returns
returns c msdbs =
    purged_is c.args.dedbs.now (area_of c.args.area.now) c.requires c.item_mut.result.now
    (subst (λ (k : ℕ). slice_get c.args.dedbs.now k ≡ Some c.item_mut.result.now) c.from.ensures
    c.item_mut.ensures.value) msdbs c.args.n c.purge_in.new.dedb c.purge_in.ensures
    ∙ ap (λ (k : ℕ). state_of msdbs (slice_set c.args.dedbs.now k c.purge_in.new.dedb)) (sym c.from.ensures)
