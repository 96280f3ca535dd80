use Rattle.std.proofs.Common.{◌≡◌, ◌<◌, ◌∙◌, ℕ, Some, None, ap, sym, subst, length, arith, refl, slice_get, slice_set}
use Rattle.fp_model.specs.declared.database.Dedb.{Dedb}
use Rattle.past_anchors.specs.Databases.{state_of}
use Rattle.past_anchors.specs.inside.Inserts.{with_numbered}
use Rattle.past_anchors.specs.inside.Places.{area_of}
use Rattle.past_anchors.proofs.Inserting.{anchor_within, dedb_good, dedb_within, ends_there, inserted, its_area, its_def, keys_ascend, last_is, no_area, no_database, number_within, roots_there}
use Rattle.past_anchors.proofs.Lists.{on_ok}
use Rattle.past_anchors.proofs.numbering.insert.Goals as goal

pub returns-then-at-len : goal.returns-then-at-len
returns-then-at-len c msdbs =
    no_database c.args.defs.now msdbs c.args.dedbs.now c.args.insert (omega (arith, c.from-at.ensures, c.len.ensures))

pub item_mut-requires : goal.item_mut-requires
item_mut-requires c =
    let less : c.from-at.result < length c.args.defs.now.dedbs = omega (arith, c.len.ensures) in
    let defined = its_def c.args.defs.now.dedbs c.as_slice.result.now c.from-at.result c.from-at.result
    c.index-as_slice-at.result c.as_slice.ensures refl less c.index-as_slice-at.is in
    dedb_within c.args.defs.now c.args.dedbs.now c.from-at.result c.index-as_slice-at.result c.requires.shape defined

pub insert_in-requires-clause-number : goal.insert_in-requires-clause-number
insert_in-requires-clause-number c =
    let defs = c.args.defs.now in
    let dedbs = c.args.dedbs.now in
    let i = c.args.insert in
    let def = c.index-as_slice-at.result in
    let less : c.from-at.result < length defs.dedbs = omega (arith, c.len.ensures) in
    let defined = its_def defs.dedbs c.as_slice.result.now c.from-at.result i.dedb def c.as_slice.ensures
    c.from-at.ensures less c.index-as_slice-at.is in
    let d = c.item_mut.result.now in
    let area = area_of c.in-Some.area in
    let now = subst (λ (k : ℕ). slice_get dedbs k ≡ Some d) c.from-at.ensures c.item_mut.ensures.value in
    let good = dedb_good defs dedbs i.dedb def d c.requires.shape defined now in
    let found = its_area i.dedb i.anchor c.as_slice-2.result.now def.areas (Some area) c.in-Some.ensures
    c.as_slice-2.ensures in
    number_within def d good i.dedb i.anchor area found

pub insert_in-requires-clause-anchor : goal.insert_in-requires-clause-anchor
insert_in-requires-clause-anchor c =
    let defs = c.args.defs.now in
    let dedbs = c.args.dedbs.now in
    let i = c.args.insert in
    let def = c.index-as_slice-at.result in
    let less : c.from-at.result < length defs.dedbs = omega (arith, c.len.ensures) in
    let defined = its_def defs.dedbs c.as_slice.result.now c.from-at.result i.dedb def c.as_slice.ensures
    c.from-at.ensures less c.index-as_slice-at.is in
    let d = c.item_mut.result.now in
    let area = area_of c.in-Some.area in
    let now = subst (λ (k : ℕ). slice_get dedbs k ≡ Some d) c.from-at.ensures c.item_mut.ensures.value in
    let good = dedb_good defs dedbs i.dedb def d c.requires.shape defined now in
    let found = its_area i.dedb i.anchor c.as_slice-2.result.now def.areas (Some area) c.in-Some.ensures
    c.as_slice-2.ensures in
    anchor_within def d good i.dedb i.anchor area found

pub insert_in-requires-clause-last : goal.insert_in-requires-clause-last
insert_in-requires-clause-last c =
    let defs = c.args.defs.now in
    let dedbs = c.args.dedbs.now in
    let i = c.args.insert in
    let def = c.index-as_slice-at.result in
    let less : c.from-at.result < length defs.dedbs = omega (arith, c.len.ensures) in
    let defined = its_def defs.dedbs c.as_slice.result.now c.from-at.result i.dedb def c.as_slice.ensures
    c.from-at.ensures less c.index-as_slice-at.is in
    let d = c.item_mut.result.now in
    let area = area_of c.in-Some.area in
    let now = subst (λ (k : ℕ). slice_get dedbs k ≡ Some d) c.from-at.ensures c.item_mut.ensures.value in
    let good = dedb_good defs dedbs i.dedb def d c.requires.shape defined now in
    let found = its_area i.dedb i.anchor c.as_slice-2.result.now def.areas (Some area) c.in-Some.ensures
    c.as_slice-2.ensures in
    last_is def d good i.dedb i.anchor area found

pub insert_in-requires-clause-order : goal.insert_in-requires-clause-order
insert_in-requires-clause-order c =
    let defs = c.args.defs.now in
    let dedbs = c.args.dedbs.now in
    let i = c.args.insert in
    let def = c.index-as_slice-at.result in
    let less : c.from-at.result < length defs.dedbs = omega (arith, c.len.ensures) in
    let defined = its_def defs.dedbs c.as_slice.result.now c.from-at.result i.dedb def c.as_slice.ensures
    c.from-at.ensures less c.index-as_slice-at.is in
    let d = c.item_mut.result.now in
    let area = area_of c.in-Some.area in
    let now = subst (λ (k : ℕ). slice_get dedbs k ≡ Some d) c.from-at.ensures c.item_mut.ensures.value in
    let good = dedb_good defs dedbs i.dedb def d c.requires.shape defined now in
    let found = its_area i.dedb i.anchor c.as_slice-2.result.now def.areas (Some area) c.in-Some.ensures
    c.as_slice-2.ensures in
    keys_ascend def d good i.dedb i.anchor area found

pub returns-in-Some : goal.returns-in-Some
returns-in-Some c msdbs =
    let defs = c.args.defs.now in
    let dedbs = c.args.dedbs.now in
    let i = c.args.insert in
    let def = c.index-as_slice-at.result in
    let less : c.from-at.result < length defs.dedbs = omega (arith, c.len.ensures) in
    let defined = its_def defs.dedbs c.as_slice.result.now c.from-at.result i.dedb def c.as_slice.ensures
    c.from-at.ensures less c.index-as_slice-at.is in
    let d = c.item_mut.result.now in
    let area = area_of c.in-Some.area in
    let now = subst (λ (k : ℕ). slice_get dedbs k ≡ Some d) c.from-at.ensures c.item_mut.ensures.value in
    let good = dedb_good defs dedbs i.dedb def d c.requires.shape defined now in
    let found = its_area i.dedb i.anchor c.as_slice-2.result.now def.areas (Some area) c.in-Some.ensures
    c.as_slice-2.ensures in
    let ends = ends_there def d good i.dedb i.anchor area found in
    let roots = roots_there def d good i.dedb i.anchor area found in
    on_ok c.insert_in.result
    (λ (e : c.insert_in.new.dedb ≡ with_numbered def.segments area.number i ends.0 roots.0 d).
    inserted defs msdbs dedbs i def defined area d ends.0 roots.0 found now ends.1 roots.1
    ∙ ap (λ (x : Dedb). state_of msdbs (slice_set dedbs i.dedb x)) (sym e)
    ∙ ap (λ (k : ℕ). state_of msdbs (slice_set dedbs k c.insert_in.new.dedb)) (sym c.from-at.ensures))
    (c.insert_in.ensures ends.0 roots.0 ends.1 roots.1)

pub returns-in-None : goal.returns-in-None
returns-in-None c msdbs =
    let defs = c.args.defs.now in
    let dedbs = c.args.dedbs.now in
    let i = c.args.insert in
    let def = c.index-as_slice-at.result in
    let less : c.from-at.result < length defs.dedbs = omega (arith, c.len.ensures) in
    let defined = its_def defs.dedbs c.as_slice.result.now c.from-at.result i.dedb def c.as_slice.ensures
    c.from-at.ensures less c.index-as_slice-at.is in
    no_area defs msdbs dedbs i def defined
    (its_area i.dedb i.anchor c.as_slice-2.result.now def.areas None c.in-None.ensures c.as_slice-2.ensures)
