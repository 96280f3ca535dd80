-- The roots that stand at an anchor have its shape between any ends.
use Rattle.std.proofs.Common.{◌≡◌, ℕ, ◌+◌, ◌^◌, ◌<◌, ◌≤◌, List, [], ◌∷◌, map, length, Option, Some, None, refl, sym, ◌∙◌, ap, subst, Bool, true, false, ◌&&◌, ◌==◌, nat_le, nat_lt, slice_get, arith}
use Rattle.std.specs.Prelude.{sum_by, unwrap_or}
use Rattle.std.specs.List.{list_all}
use Rattle.std.specs.Option.{option_map_or}
use Rattle.std.proofs.lemmas.Bool.Decides.{nat_tests}
use Rattle.fp_model.specs.Exits.{anchor_of}
use Rattle.fp_model.specs.Order.{child_types, root_key}
use Rattle.fp_model.specs.Shape.{IsDedbOf, are_ends, are_newest_first, are_rows, has_length, have_lengths, is_anchor, is_root, seen_as}
use Rattle.fp_model.specs.State.{anchors_in, anchor_count, ascend, roots_at}
use Rattle.fp_model.specs.declared.database.AreaEnds.{AreaEnds}
use Rattle.fp_model.specs.declared.database.Dedb.{Dedb}
use Rattle.fp_model.specs.declared.database.Msdb.{Msdb}
use Rattle.fp_model.specs.declared.database.Root.{Root}
use Rattle.fp_model.specs.declared.database.SeqItem.{SeqItem}
use Rattle.fp_model.specs.declared.definitions.DedbDef.{DedbDef}
use Rattle.fp_model.specs.declared.definitions.Defs.{Defs}
use Rattle.fp_model.specs.declared.definitions.SegDef.{SegDef}
use Rattle.past_anchors.specs.Databases.{AreDedbsOf, FitsAnchor, any_ends, state_of}
use Rattle.state_laws.proofs.Areas.{placed}
use Rattle.state_laws.proofs.Lists.{each_at}
use Rattle.state_laws.proofs.Purging.{ends_are, partner}
use Rattle.state_laws.proofs.Stands.{area_of_anchor}
use Rattle.std.proofs.lemmas.Bool.{and_from}
use Rattle.plain_laws.proofs.Truths.{first_of_both, second_of_both}
use Rattle.std.proofs.lemmas.Option.{slice_get_within}
use Rattle.plain_laws.proofs.Numbers.{is_le, lt_is, lt_true}

-- ---- wider ends

newest_wider : (begin end last : ℕ) (items : List SeqItem) → end ≤ last → are_newest_first begin end items ≡ true
    → are_newest_first 0 last items ≡ true
newest_wider begin end last [] le e = refl
newest_wider begin end last (item ∷ items) le e =
    let front = first_of_both (nat_le begin item.serial && nat_lt item.serial end)
    (are_newest_first begin item.serial items) e in
    let less = lt_is item.serial end (second_of_both (nat_le begin item.serial) (nat_lt item.serial end) front) in
    and_from (nat_le 0 item.serial && nat_lt item.serial last) (are_newest_first 0 item.serial items)
    (and_from (nat_le 0 item.serial) (nat_lt item.serial last) (is_le 0 item.serial (omega arith))
    (lt_true item.serial last (omega (arith, less, le))))
    (newest_wider begin item.serial item.serial items (omega arith)
    (second_of_both (nat_le begin item.serial && nat_lt item.serial end) (are_newest_first begin item.serial items) e))

root_wider : (types : List SegDef) (ends : AreaEnds) (root : Root) → ends.end ≤ 2 ^ 62
    → is_root types ends root ≡ true → is_root types any_ends root ≡ true
root_wider types ends root last e =
    let a = has_length types 0 root.bytes in
    let b = are_rows types (child_types types 0) (map (map (seen_as types)) root.children) in
    let c = are_newest_first ends.begin ends.end root.seqs in
    let d = have_lengths types root.seqs in
    let wide = are_newest_first 0 (2 ^ 64) root.seqs in
    let abc = first_of_both ((a && b) && c) d e in
    and_from ((a && b) && wide) d
    (and_from (a && b) wide (first_of_both (a && b) c abc)
    (newest_wider ends.begin ends.end (2 ^ 64) root.seqs (omega (arith, last)) (second_of_both (a && b) c abc)))
    (second_of_both ((a && b) && c) d e)

roots_wider : (types : List SegDef) (ends : AreaEnds) (roots : List Root) → ends.end ≤ 2 ^ 62
    → list_all (is_root types ends) roots ≡ true → list_all (is_root types any_ends) roots ≡ true
roots_wider types ends [] last e = refl
roots_wider types ends (root ∷ roots) last e =
    and_from (is_root types any_ends root) (list_all (is_root types any_ends) roots)
    (root_wider types ends root last (first_of_both (is_root types ends root) (list_all (is_root types ends) roots) e))
    (roots_wider types ends roots last
    (second_of_both (is_root types ends root) (list_all (is_root types ends) roots) e))

anchor_wider : (def : DedbDef) (anchor : ℕ) (ends : AreaEnds) (roots : List Root) → ends.end ≤ 2 ^ 62
    → is_anchor def anchor ends roots ≡ true → is_anchor def anchor any_ends roots ≡ true
anchor_wider def anchor ends roots last e =
    let a = list_all (is_root def.segments ends) roots in
    let b = ascend (map (root_key def.segments) roots) in
    let c = list_all (λ root. anchor_of def (root_key def.segments root) == anchor) roots in
    let wide = list_all (is_root def.segments any_ends) roots in
    let ab = first_of_both (a && b) c e in
    and_from (wide && b) c
    (and_from wide b (roots_wider def.segments ends roots last (first_of_both a b ab)) (second_of_both a b ab))
    (second_of_both (a && b) c e)

-- ---- what stands

at_its_anchor : (def : DedbDef) (d : Dedb) (anchor : ℕ) (roots : List Root) → IsDedbOf def d
    → slice_get d.anchors anchor ≡ Some roots → is_anchor def anchor any_ends roots ≡ true
at_its_anchor def d anchor roots good at =
    let low = slice_get_within d.anchors anchor roots at in
    let long : length d.anchors ≡ anchor_count def = good.anchors in
    let has = area_of_anchor 0 0 0 def.areas anchor (omega arith) (omega (arith, low, long)) in
    let p = placed 0 0 0 def.areas has.area has.there in
    let place : p.place ≡ has.area.number = omega (arith, p.its_number) in
    let area_at : slice_get def.areas has.area.number ≡ Some has.area.def =
    subst (λ (k : ℕ). slice_get def.areas k ≡ Some has.area.def) place p.its_def in
    let e = partner (λ area ends. are_ends area.capacity ends ≡ true) def.areas d.areas has.area.number has.area.def
    good.areas area_at in
    let its = ends_are has.area.def.capacity e.0
    (each_at (λ area ends. are_ends area.capacity ends ≡ true) def.areas d.areas has.area.number has.area.def e.0
    good.areas area_at e.1) in
    anchor_wider def anchor e.0 roots its.last (good.each_anchor has.area e.0 anchor roots has.there e.1 has.has at)

-- the roots of an anchor have its shape
pub roots_fit : (defs : Defs) (msdbs : List Msdb) (dedbs : List Dedb) (dedb anchor : ℕ) → AreDedbsOf defs dedbs
    → FitsAnchor defs dedb anchor (roots_at (state_of msdbs dedbs) dedb anchor)
roots_fit defs msdbs dedbs dedb anchor shape def defined = by (slice_get dedbs dedb) refl
  where
    at_one : (d : Dedb) → slice_get dedbs dedb ≡ Some d → (o : Option (List Root)) → slice_get d.anchors anchor ≡ o
        → is_anchor def anchor any_ends (unwrap_or o []) ≡ true
    at_one d now None is = refl
    at_one d now (Some roots) is =
        at_its_anchor def d anchor roots (each_at IsDedbOf defs.dedbs dedbs dedb def d shape defined now) is

    by : (o : Option Dedb) → slice_get dedbs dedb ≡ o → is_anchor def anchor any_ends
        (option_map_or (λ (d : Dedb). unwrap_or (slice_get d.anchors anchor) []) o []) ≡ true
    by None is = refl
    by (Some d) is = at_one d is (slice_get d.anchors anchor) refl
