-- What settling and purging change: nothing that isn't held Exclusive, and nothing outside the area.
use Rattle.std.proofs.Common.{◌≡◌, ℕ, zero, suc, ◌+◌, ◌<◌, ◌≤◌, List, [], ◌∷◌, ◌++◌, map, take, drop, Option, Some, None, ◌⊎◌, inl, inr, refl, sym, ◌∙◌, ap, subst, Bool, true, false, ◌&&◌, if◌then◌else◌, arith, slice_get, slice_set}
use Rattle.std.specs.Prelude.{find, unwrap_or, nat_lt, nat_le, min}
use Rattle.std.specs.List.{AllByRecursion}
use Rattle.std.specs.Option.{option_map_or}
use Rattle.std.proofs.lemmas.Bool.{cases_eq}
use Rattle.std.proofs.lemmas.Grind.{common_steps}
use Rattle.fp_model.specs.declared.definitions.Defs.{Defs}
use Rattle.fp_model.specs.declared.database.Db.{Db}
use Rattle.fp_model.specs.declared.database.Dedb.{Dedb}
use Rattle.fp_model.specs.declared.database.AreaEnds.{AreaEnds}
use Rattle.fp_model.specs.declared.database.Root.{Root}
use Rattle.fp_model.specs.declared.database.SeqItem.{SeqItem}
use Rattle.fp_model.specs.declared.calls.AnchorChange.{AnchorChange}
use Rattle.fp_model.specs.declared.calls.Resource.{Resource}
use Rattle.fp_model.specs.declared.calls.Resource.TheVariants.{Segment, Anchor}
use Rattle.fp_model.specs.declared.calls.SeqInsert.{SeqInsert}
use Rattle.fp_model.specs.State.{Area, anchors_in, areas_of, has_anchor, roots_at, with_roots, change_key}
use Rattle.fp_model.specs.Order.{root_key}
use Rattle.fp_model.specs.Commit.{ends_at, with_dedb, with_ends, takes, with_anchors, types_of, with_newest, with_dependent, numbered_at, with_insert, with_inserts, kept_from, in_anchors, purged_area, area_of_set, purged}
use Rattle.fp_model.specs.Product.{is_anchor_of_set}
use Rattle.serial_order.specs.Laws.{RootsAre}
use Rattle.serial_order.specs.ProductView.{seen_in}
use Rattle.serial_order.proofs.Lists.{eqb_same, true_is_not_false}
use Rattle.plain_laws.proofs.Places.{get_other, get_outside, get_set_same}
use Rattle.std.proofs.lemmas.Option.{none-some, same_Some}

-- ---- elements at a place

-- ---- roots

module _ (dedb anchor : ℕ) where
  -- a data entry database changed where it leaves the anchor
  pub roots_with_dedb : (number : ℕ) (change : Dedb → Dedb) (db : Db)
      → ((d : Dedb) → dedb ≡ number → unwrap_or (slice_get (change d).anchors anchor) [] ≡ unwrap_or
      (slice_get d.anchors anchor) [])
      → roots_at (with_dedb number change db) dedb anchor ≡ roots_at db dedb anchor
  roots_with_dedb number change db leaves = at (slice_get db.dedbs number) refl
    where
      at : (o : Option Dedb) → slice_get db.dedbs number ≡ o
          → option_map_or (λ (d : Dedb). unwrap_or (slice_get d.anchors anchor) [])
          (slice_get (option_map_or (λ (d : Dedb). slice_set db.dedbs number (change d)) o db.dedbs) dedb) [] ≡
          roots_at db dedb anchor
      at None is = refl
      at (Some d) is = elim (cases_eq dedb number) [
        | inl same ↦
            let here : slice_get db.dedbs dedb ≡ Some d =
            subst (λ (n : ℕ). slice_get db.dedbs n ≡ Some d) (sym same) is in
            let there : slice_get (slice_set db.dedbs number (change d)) dedb ≡ Some (change d) =
            subst (λ (n : ℕ). slice_get (slice_set db.dedbs number (change d)) n ≡ Some (change d)) (sym same)
            (get_set_same db.dedbs number (change d) d is) in
            rw (here, there) (leaves d same)
        | inr other ↦ ap (λ (o : Option Dedb). option_map_or (λ (d : Dedb). unwrap_or (slice_get d.anchors anchor) []) o
            []) (get_other db.dedbs number dedb (change d) other)
      ]

  -- other ends
  pub roots_with_ends : (area : Area) (ends : AreaEnds) (db : Db)
      → roots_at (with_ends area ends db) dedb anchor ≡ roots_at db dedb anchor
  roots_with_ends area ends db = roots_with_dedb area.dedb
      (λ d. record d { areas = slice_set d.areas area.number ends }) db (λ d e. refl)

  -- other roots at another anchor
  roots_with_roots : (c : AnchorChange) (db : Db) → ¬ (Anchor c.dedb c.anchor ≡ Anchor dedb anchor)
      → roots_at (with_roots c.dedb c.anchor c.roots db) dedb anchor ≡ roots_at db dedb anchor
  roots_with_roots c db ne = roots_with_dedb c.dedb (λ d. record d { anchors = slice_set d.anchors c.anchor c.roots })
      db
      (λ d same. ap (λ (o : Option (List Root)). unwrap_or o [])
      (get_other d.anchors c.anchor anchor c.roots
      (λ e. ne (ap (λ (n : ℕ). Anchor n c.anchor) (sym same) ∙ ap (λ (n : ℕ). Anchor dedb n) (sym e)))))

  -- all changed anchors
  pub roots_with_anchors : (cs : List AnchorChange) (db : Db)
      → AllByRecursion (λ (c : AnchorChange). ¬ (Anchor c.dedb c.anchor ≡ Anchor dedb anchor)) cs
      → roots_at (with_anchors cs db) dedb anchor ≡ roots_at db dedb anchor
  roots_with_anchors [] db h = refl
  roots_with_anchors (c ∷ cs) db h = roots_with_anchors cs (with_roots c.dedb c.anchor c.roots db) h.1 ∙
      roots_with_roots c db h.0

  -- a sequential insert at another anchor
  roots_with_insert : (defs : Defs) (db : Db) (i : SeqInsert) → ¬ (Anchor i.dedb i.anchor ≡ Anchor dedb anchor)
      → roots_at (with_insert defs db i) dedb anchor ≡ roots_at db dedb anchor
  roots_with_insert defs db i ne = at (find (λ area. takes area i) (areas_of defs))
    where
      dependent : (item : SeqItem) → roots_at (with_dependent defs i item db) dedb anchor ≡ roots_at db dedb anchor
      dependent item = roots_with_dedb i.dedb (λ d. record d {
        anchors = option_map_or (λ roots. slice_set d.anchors i.anchor
            (change_key (root_key (types_of defs i.dedb)) i.key (with_newest item) roots))
            (slice_get d.anchors i.anchor)
            d.anchors;
      }) db
          (λ d same. put d (slice_get d.anchors i.anchor)
          (λ e. ne (ap (λ (n : ℕ). Anchor n i.anchor) (sym same) ∙ ap (λ (n : ℕ). Anchor dedb n) (sym e))))
        where
          put : (d : Dedb) (o : Option (List Root)) → ¬ (anchor ≡ i.anchor)
              → unwrap_or (slice_get (option_map_or
              (λ roots. slice_set d.anchors i.anchor
              (change_key (root_key (types_of defs i.dedb)) i.key (with_newest item) roots)) o d.anchors) anchor) []
              ≡ unwrap_or (slice_get d.anchors anchor) []
          put d None other = refl
          put d (Some roots) other = ap (λ (o : Option (List Root)). unwrap_or o [])
              (get_other d.anchors i.anchor anchor
              (change_key (root_key (types_of defs i.dedb)) i.key (with_newest item) roots) other)

      at : (o : Option Area) → roots_at (option_map_or (λ area. numbered_at defs i area db) o db) dedb anchor ≡ roots_at
          db dedb anchor
      at None = refl
      at (Some area) = roots_with_ends area (record (ends_at db area) { end = (ends_at db area).end + 1 })
          (with_dependent defs i (record { serial = (ends_at db area).end; bytes = i.bytes }) db) ∙ dependent
          (record { serial = (ends_at db area).end; bytes = i.bytes })

  -- all sequential inserts
  pub roots_with_inserts : (defs : Defs) (is : List SeqInsert) (db : Db)
      → AllByRecursion (λ (i : SeqInsert). ¬ (Anchor i.dedb i.anchor ≡ Anchor dedb anchor)) is
      → roots_at (with_inserts defs is db) dedb anchor ≡ roots_at db dedb anchor
  roots_with_inserts defs [] db h = refl
  roots_with_inserts defs (i ∷ is) db h = roots_with_inserts defs is (with_insert defs db i) h.1 ∙ roots_with_insert
      defs db i h.0

-- ---- Purge

-- an anchor that an area doesn't have, of its database
lies_outside : (area : Area) (anchor : ℕ) → has_anchor area area.dedb anchor ≡ false → (anchor < area.first_anchor)
    ⊎ (area.first_anchor + anchors_in area.def ≤ anchor)
lies_outside area anchor e = either (nat_le area.first_anchor anchor)
    (nat_lt anchor (area.first_anchor + anchors_in area.def)) refl refl (rw (eqb_same area.dedb) at e)
  where
    either : (a b : Bool) → nat_le area.first_anchor anchor ≡ a
        → nat_lt anchor (area.first_anchor + anchors_in area.def) ≡ b → (a && b) ≡ false → (anchor < area.first_anchor)
        ⊎ (area.first_anchor + anchors_in area.def ≤ anchor)
    either true true p q e = absurd (true_is_not_false e)
    either true false p q e =
        inr (let h : area.first_anchor + anchors_in area.def ≤ anchor = grind (arith, common_steps, q) in h)
    either false b p q e = inl (let h : anchor < area.first_anchor = grind (arith, common_steps, p) in h)

-- A Purge leaves the anchors outside of its area.
roots_with_purge : (area : Area) (n : ℕ) (db : Db) (dedb anchor : ℕ) → has_anchor area dedb anchor ≡ false
    → roots_at (purged_area area n db) dedb anchor ≡ roots_at db dedb anchor
roots_with_purge area n db dedb anchor outside =
    let begin : ℕ = min (ends_at db area).end ((ends_at db area).begin + n) in
    let change : Dedb → Dedb = λ d. record d { anchors = in_anchors area (map (kept_from begin)) d.anchors } in
    roots_with_ends dedb anchor area (record (ends_at db area) { begin = begin }) (with_dedb area.dedb change db)
    ∙ roots_with_dedb dedb anchor area.dedb change db
    (λ d same. ap (λ (o : Option (List Root)). unwrap_or o [])
    (get_outside area.first_anchor (anchors_in area.def) (area.first_anchor + anchors_in area.def)
    (map (kept_from begin)) d.anchors anchor refl
    (lies_outside area anchor (subst (λ (k : ℕ). has_anchor area k anchor ≡ false) same outside))))

-- A Purge changes nothing that isn't an anchor of its area.
pub purge_leaves : (defs : Defs) (set n : ℕ) (db next : Db) → purged defs set n db ≡ Some next → (resource : Resource)
    → is_anchor_of_set defs set resource ≡ false → seen_in defs resource next ≡ seen_in defs resource db
unfolding purged
purge_leaves defs set n db next e resource outside = by (area_of_set defs set) refl e
  where
    in_area : (area : Area) (resource : Resource) → area_of_set defs set ≡ Some area
        → is_anchor_of_set defs set resource ≡ false
        → seen_in defs resource (purged_area area n db) ≡ seen_in defs resource db
    in_area area (Segment msdb key) is outside = refl
    in_area area (Anchor dedb anchor) is outside =
        ap (λ (roots : List Root). RootsAre roots) (roots_with_purge area n db dedb anchor
        (subst (λ (o : Option Area). option_map_or (λ area. has_anchor area dedb anchor) o false ≡ false) is
        outside))

    by : (o : Option Area) → area_of_set defs set ≡ o
        → option_map_or (λ area. if nat_lt 0 area.def.capacity then Some (purged_area area n db) else None) o None ≡
        Some next → seen_in defs resource next ≡ seen_in defs resource db
    by None is e = absurd (none-some next e)
    by (Some area) is e = either (nat_lt 0 area.def.capacity) e
      where
        either : (b : Bool) → (if b then Some (purged_area area n db) else None) ≡ Some next
            → seen_in defs resource next ≡ seen_in defs resource db
        either true e = subst (λ (q : Db). seen_in defs resource q ≡ seen_in defs resource db)
            (same_Some (purged_area area n db) next e) (in_area area resource is outside)
        either false e = absurd (none-some next e)
