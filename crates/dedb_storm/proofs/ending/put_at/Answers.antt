use Rattle.std.proofs.Common.{◌≡◌, ◌∙◌, ◌^◌, ℕ, List, refl, sym, ap, subst, true, false, slice_set, arith}
use Rattle.std.specs.Option.{option_map_or}
use Rattle.fp_model.specs.declared.database.Root.{Root}
use Rattle.fp_model.specs.declared.database.SeqItem.{SeqItem}
use Rattle.fp_model.specs.declared.definitions.SegDef.{SegDef}
use Rattle.fp_model.specs.Commit.{with_newest}
use Rattle.fp_model.specs.Order.{sequential_type}
use Rattle.fp_model.specs.Shape.{are_newest_first, has_length, is_anchor}
use Rattle.dli_tree.specs.InOrder.{any_ends}
use Rattle.dedb_calls.proofs.ArgumentLemmas.{indexed}
use Rattle.dedb_storm.proofs.Endings.{in_place, passes_with}
use Rattle.dedb_storm.proofs.ending.put_at.Goals as goal
use Rattle.std.proofs.lemmas.Option.{same_Some}

pub returns : goal.returns
returns c anchor e =
    let root : Root = c.item_mut.result.now in
    let item : SeqItem = record { serial = c.args.serial; bytes = c.args.bytes } in
    let here = indexed c.args.roots.now c.as_slice-2.result.now c.index-as_slice-at.result c.args.at c.args.at
    c.as_slice-2.ensures refl c.index-as_slice-at.is c.requires in
    let same : c.index-as_slice-at.result ≡ root =
    same_Some c.index-as_slice-at.result root (sym here ∙ c.item_mut.ensures.value) in
    let newer = subst (λ (items : List SeqItem). are_newest_first 0 (2 ^ 64) items ≡ true
    → are_newest_first 0 c.args.serial items ≡ true)
    (c.as_slice-3.ensures ∙ ap (λ (r : Root). r.seqs) (sym c.index-as_slice-at.is ∙ same)) (c.if-not-is_newer.ensures refl) in
    let dependent = subst (λ (b : List ℕ). option_map_or (λ type. has_length c.as_slice-types.result.now type b)
    (sequential_type c.as_slice-types.result.now) false ≡ true) c.as_slice.ensures
    (c.if-not-is_dependent.ensures refl) in
    let long = subst (λ (types : List SegDef). option_map_or (λ type. has_length types type c.args.bytes)
    (sequential_type types) false ≡ true) c.as_slice-types.ensures dependent in
    subst (λ (r : Root). is_anchor c.args.def.now anchor any_ends (slice_set c.args.roots.now c.args.at r) ≡ true)
    (sym c.in_ok-put_newest.ensures)
    (in_place c.args.def.now anchor c.args.roots.now c.args.at root (with_newest item root) c.item_mut.ensures.value
    refl (passes_with c.args.def.now anchor root item newer long (omega (arith, c.ranges.serial.fits))) e)
