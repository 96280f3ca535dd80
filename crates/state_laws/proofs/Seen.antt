-- The roots of an anchor as a transaction sees them fit the state, and an edit of them does too.
use Rattle.std.proofs.Common.{◌≡◌, ℕ, List, [], ◌∷◌, map, length, Option, Some, None, refl, sym, ◌∙◌, subst, Bool, true, false, ◌==◌, slice_get, arith, inl, inr}
use Rattle.std.specs.Prelude.{Contains, find, if◌then◌else◌, unwrap_or}
use Rattle.std.specs.List.{AllByRecursion}
use Rattle.std.specs.Option.{option_map_or}
use Rattle.fp_model.specs.declared.calls.AnchorChange.{AnchorChange}
use Rattle.fp_model.specs.declared.database.AreaEnds.{AreaEnds}
use Rattle.fp_model.specs.declared.database.Db.{Db}
use Rattle.fp_model.specs.declared.database.Dedb.{Dedb}
use Rattle.fp_model.specs.declared.database.Root.{Root}
use Rattle.fp_model.specs.declared.definitions.DedbDef.{DedbDef}
use Rattle.fp_model.specs.declared.definitions.Defs.{Defs}
use Rattle.fp_model.specs.DedbCalls.{is_change_of, roots_seen}
use Rattle.fp_model.specs.Order.{Edit, Inserts, Replaces, Deletes, Step, below_edited, edited, key_in, new_root, root_key, roots_edited}
use Rattle.fp_model.specs.Shape.{IsDedbOf, are_ends, is_anchor}
use Rattle.fp_model.specs.State.{Area, anchor_count, areas_from, ascend, change_key, has_anchor, roots_at}
use Rattle.fp_model.specs.Texts.{same_text}
use Rattle.fp_model.specs.Workspace.{Workspace}
use Rattle.state_laws.specs.Changes.{FitsChange, HasNoneOrNow}
use Rattle.state_laws.specs.Edits.{AreDirect, FitsBytes, FitsEdit}
use Rattle.state_laws.specs.Parts.{FitsAnchorChange}
use Rattle.state_laws.specs.Workspaces.{ChangeMayStand, MayStand}
use Rattle.state_laws.proofs.Areas.{placed}
use Rattle.key_order.proofs.Ascending.{all_but, all_put}
use Rattle.state_laws.proofs.Lists.{found_has}
use Rattle.state_laws.proofs.Nodes.{each_contained}
use Rattle.state_laws.proofs.Purging.{partner}
use Rattle.state_laws.proofs.Roots.{edited_good, to_good}
use Rattle.state_laws.proofs.Stands.{area_of_anchor}
use Rattle.plain_laws.proofs.Truths.{first_of_both, second_of_both}
use Rattle.plain_laws.proofs.Alls.{found_passes}
use Rattle.std.proofs.lemmas.Option.{same_Some, slice_get_within}
use Rattle.model_laws.proofs.Texts.{same_text_is}

-- keys ascend where roots may stand
pub keys_ascend : (def : DedbDef) (anchor : ℕ) (roots : List Root) → MayStand def anchor roots
    → ascend (map (root_key def.segments) roots) ≡ true
keys_ascend def anchor roots stand = (to_good def anchor stand.0 roots stand.1).1

-- no roots may stand anywhere
pub none_may_stand : (def : DedbDef) (anchor : ℕ) → MayStand def anchor []
none_may_stand def anchor = (record { begin = 1; end = 1 }, refl)

-- ---- edits

module _ (def : DedbDef) (now : List Root) where
  abbrev key : Root → List ℕ
  key = root_key def.segments

  abbrev IsKept : Root → Type 0
  IsKept = HasNoneOrNow key now

  -- a root of the same key with the same dependents
  still_kept : (r q : Root) → key q ≡ key r → q.seqs ≡ r.seqs → IsKept r → IsKept q
  still_kept r q same_key same_seqs (inl none) = inl (same_seqs ∙ none)
  still_kept r q same_key same_seqs (inr its) = inr (
    its.0,
    record {
      there = its.1.there;
      same_key = its.1.same_key ∙ sym same_key;
      same_dependents = same_seqs ∙ its.1.same_dependents;
    },
  )

  kept_changed : (k : List ℕ) (change : Root → Root)
      → ((r : Root) → key r ≡ k → (key (change r) ≡ key r) × ((change r).seqs ≡ r.seqs)) → (roots : List Root)
      → AllByRecursion IsKept roots → AllByRecursion IsKept (change_key key k change roots)
  kept_changed k change keeps [] all = tt
  kept_changed k change keeps (r ∷ rs) all = (by (same_text (key r) k) refl, kept_changed k change keeps rs all.1)
    where
      by : (b : Bool) → same_text (key r) k ≡ b → IsKept (if b then change r else r)
      by true e = let its = keeps r (same_text_is (key r) k e) in still_kept r (change r) its.0 its.1 all.0
      by false e = all.0

  root_kept : (edit : Edit) (s : Step) (roots : List Root) → s.segment ≡ 0 → FitsBytes def.segments (s ∷ []) edit
      → AllByRecursion IsKept roots → AllByRecursion IsKept (roots_edited def.segments s edit roots)
  root_kept (Inserts bytes) s roots kind fits all =
      all_put key IsKept (new_root def.segments bytes) roots (inl refl) all
  root_kept (Replaces bytes) s roots kind fits all =
      let its : key_in def.segments 0 bytes ≡ s.key =
      subst (λ (t : ℕ). key_in def.segments t bytes ≡ s.key) kind fits.1 in
      kept_changed s.key (λ (r : Root). record r { bytes = bytes }) (λ r is. (its ∙ sym is, refl)) roots all
  root_kept Deletes s roots kind fits all = all_but key IsKept s.key roots all

  -- an edit brings no sequential dependents
  edit_kept : (edit : Edit) (path : List Step) (roots : List Root) → AreDirect path → FitsBytes def.segments path edit
      → AllByRecursion IsKept roots → AllByRecursion IsKept (edited def.segments roots path edit)
  edit_kept edit [] roots direct fits all = all
  edit_kept edit (s ∷ []) roots direct fits all = root_kept edit s roots direct.0 fits all
  edit_kept edit (s ∷ t ∷ ts) roots direct fits all =
      kept_changed s.key
      (λ (r : Root). record r { children = below_edited def.segments edit 0 (t ∷ ts) r.children })
      (λ r is. (refl, refl)) roots all

-- an edit that fits keeps roots that may stand
pub edited_may_stand : (def : DedbDef) (anchor : ℕ) (roots : List Root) (path : List Step) (edit : Edit)
    → MayStand def anchor roots → FitsEdit def anchor roots path edit
    → MayStand def anchor (edited def.segments roots path edit)
edited_may_stand def anchor roots path edit stand fits =
    (stand.0, edited_good def anchor stand.0 roots path edit stand.1 fits)

-- and a change that fits
pub edited_fits : (def : DedbDef) (dedb : Dedb) (anchor : ℕ) (roots : List Root) (path : List Step) (edit : Edit)
    → MayStand def anchor roots → FitsEdit def anchor roots path edit → FitsChange def dedb anchor roots
    → FitsChange def dedb anchor (edited def.segments roots path edit)
edited_fits def dedb anchor roots path edit stand fits change = record {
  keys = keys_ascend def anchor (edited def.segments roots path edit)
      (edited_may_stand def anchor roots path edit stand fits);
  in_shape = λ area ends there at has.
      edited_good def anchor ends roots path edit (change.in_shape area ends there at has) fits;
  dependents = λ now at.
      edit_kept def now edit path roots fits.direct fits.bytes_fit (change.dependents now at);
}

-- ---- the roots that stand

module _ (def : DedbDef) (dedb : Dedb) (good : IsDedbOf def dedb) (anchor : ℕ) where
  -- the roots of an anchor
  abbrev stand_at : Option (List Root) → List Root
  stand_at o = unwrap_or o []

  its_own : (key : Root → List ℕ) (roots : List Root) → AllByRecursion (HasNoneOrNow key roots) roots
  its_own key roots =
      each_contained (HasNoneOrNow key roots) roots
      (λ r c. inr (r, record { there = c; same_key = refl; same_dependents = refl }))

  roots_may_stand : MayStand def anchor (stand_at (slice_get dedb.anchors anchor))
  roots_may_stand = by (slice_get dedb.anchors anchor) refl
    where
      by : (o : Option (List Root)) → slice_get dedb.anchors anchor ≡ o → MayStand def anchor (stand_at o)
      by None e = none_may_stand def anchor
      by (Some roots) e =
          let low = slice_get_within dedb.anchors anchor roots e in
          let long : length dedb.anchors ≡ anchor_count def = good.anchors in
          let its = area_of_anchor 0 0 0 def.areas anchor (omega arith) (omega (arith, low, long)) in
          let p = placed 0 0 0 def.areas its.area its.there in
          let place : p.place ≡ its.area.number = omega (arith, p.its_number) in
          let at : slice_get def.areas its.area.number ≡ Some its.area.def =
          subst (λ (k : ℕ). slice_get def.areas k ≡ Some its.area.def) place p.its_def in
          let ends = partner (λ area ends. are_ends area.capacity ends ≡ true) def.areas dedb.areas its.area.number
          its.area.def good.areas at in
          (ends.0, good.each_anchor its.area ends.0 anchor roots its.there ends.1 its.has e)

  roots_fit : FitsChange def dedb anchor (stand_at (slice_get dedb.anchors anchor))
  roots_fit = record {
    keys = keys_ascend def anchor (stand_at (slice_get dedb.anchors anchor)) roots_may_stand;
    in_shape = λ area ends there at has. shape (slice_get dedb.anchors anchor) refl area ends there at has;
    dependents = λ now e.
        subst (λ (o : Option (List Root)). AllByRecursion (HasNoneOrNow (root_key def.segments) now) (stand_at o))
        (sym e) (its_own (root_key def.segments) now);
  }
    where
      shape : (o : Option (List Root)) → slice_get dedb.anchors anchor ≡ o → (area : Area) (ends : AreaEnds)
          → Contains (areas_from 0 0 0 def.areas) area → slice_get dedb.areas area.number ≡ Some ends
          → has_anchor area 0 anchor ≡ true → is_anchor def anchor ends (stand_at o) ≡ true
      shape None e area ends there at has = refl
      shape (Some roots) e area ends there at has = good.each_anchor area ends anchor roots there at has e

-- ---- the roots seen

-- roots that fit a database, and may stand
pub record AreSeen (def : DedbDef) (dedb : Dedb) (anchor : ℕ) (roots : List Root) : Type 0 where
  pub fit : FitsChange def dedb anchor roots
  pub may_stand : MayStand def anchor roots

module _ (defs : Defs) (db : Db) (own : Workspace) (changes : AllByRecursion (FitsAnchorChange defs db) own.changes)
    (stand : AllByRecursion (ChangeMayStand defs) own.changes) (number : ℕ) (def : DedbDef) (dedb : Dedb)
    (defined : slice_get defs.dedbs number ≡ Some def) (now : slice_get db.dedbs number ≡ Some dedb)
    (good : IsDedbOf def dedb) (anchor : ℕ) where
  seen_at : (c : AnchorChange) → is_change_of def number anchor c ≡ true → FitsAnchorChange defs db c
      → ChangeMayStand defs c → AreSeen def dedb anchor c.roots
  seen_at c e fit may =
      let dedb_is = number_is c.dedb number (first_of_both (c.dedb == number) (c.anchor == anchor) e) in
      let anchor_is = number_is c.anchor anchor (second_of_both (c.dedb == number) (c.anchor == anchor) e) in
      let defined2 : slice_get defs.dedbs c.dedb ≡ Some def =
      subst (λ (n : ℕ). slice_get defs.dedbs n ≡ Some def) (sym dedb_is) defined in
      let now2 : slice_get db.dedbs c.dedb ≡ Some dedb =
      subst (λ (n : ℕ). slice_get db.dedbs n ≡ Some dedb) (sym dedb_is) now in
      let def_is : fit.def ≡ def = same_Some fit.def def (sym fit.defined ∙ defined2) in
      let dedb_same : fit.dedb ≡ dedb = same_Some fit.dedb dedb (sym fit.now ∙ now2) in
      let one : FitsChange def fit.dedb c.anchor c.roots =
      subst (λ (d : DedbDef). FitsChange d fit.dedb c.anchor c.roots) def_is fit.fits in
      let two : FitsChange def dedb c.anchor c.roots =
      subst (λ (d : Dedb). FitsChange def d c.anchor c.roots) dedb_same one in
      record {
        fit = subst (λ (n : ℕ). FitsChange def dedb n c.roots) anchor_is two;
        may_stand = subst (λ (n : ℕ). MayStand def n c.roots) anchor_is (may def defined2);
      }
    where
      number_is : (a b : ℕ) → (a == b) ≡ true → a ≡ b
      number_is a b e = grind arith

  pub seen_good : AreSeen def dedb anchor (roots_seen def number db own anchor)
  seen_good = by (find (is_change_of def number anchor) own.changes) refl
    where
      by : (o : Option AnchorChange) → find (is_change_of def number anchor) own.changes ≡ o
          → AreSeen def dedb anchor (option_map_or (λ c. c.roots) o (roots_at db number anchor))
      by None e =
          let same : roots_at db number anchor ≡ unwrap_or (slice_get dedb.anchors anchor) [] = rw now refl in
          subst (AreSeen def dedb anchor) (sym same) (record {
            fit = roots_fit def dedb good anchor;
            may_stand = roots_may_stand def dedb good anchor;
          })
      by (Some c) e =
          seen_at c (found_passes (is_change_of def number anchor) own.changes c e)
          (found_has (FitsAnchorChange defs db) (is_change_of def number anchor) own.changes c changes e)
          (found_has (ChangeMayStand defs) (is_change_of def number anchor) own.changes c stand e)
