-- Edits of the roots of an anchor.
use Rattle.std.proofs.Common.{◌≡◌, ℕ, List, [], ◌∷◌, ◌++◌, map, Option, Some, None, refl, sym, ◌∙◌, ap, subst, Bool, true, false, ◌&&◌, ◌==◌}
use Rattle.std.specs.Prelude.{Contains, find}
use Rattle.std.specs.List.{AllByRecursion, list_all}
use Rattle.std.specs.Option.{option_map_or}
use Rattle.std.proofs.lemmas.List.Elements.{Contains-append_right}
use Rattle.fp_model.specs.declared.database.AreaEnds.{AreaEnds}
use Rattle.fp_model.specs.declared.database.Root.{Root}
use Rattle.fp_model.specs.declared.definitions.DedbDef.{DedbDef}
use Rattle.fp_model.specs.Exits.{anchor_of}
use Rattle.fp_model.specs.Order.{Edit, Inserts, Replaces, Deletes, Occurrence, Step, at_end, below_edited, child_types, direct, edited, key_in, new_root, node_order, one_down, root_key, root_order, rows_in_order, same_path, same_step, sequence, sequentials}
use Rattle.fp_model.specs.Shape.{are_newest_first, are_rows, has_length, have_lengths, is_anchor, is_root, seen_as}
use Rattle.fp_model.specs.State.{ascend}
use Rattle.fp_model.specs.Texts.{same_text}
use Rattle.state_laws.specs.Edits.{FitsBytes, FitsEdit, IsNew}
use Rattle.state_laws.proofs.Nodes.{IsFree, IsGood, below_good, change_good, drop_good, each_contained, empty_rows, fits_later, from_all, none_found, other_key, put_good, step_is, is_number}
use Rattle.std.proofs.lemmas.Bool.{and_from}
use Rattle.plain_laws.proofs.Alls.{all_of_list_all, contains_first, flat_map_contains, map_contains}
use Rattle.plain_laws.proofs.Truths.{first_of_both, second_of_both, not_second}
use Rattle.model_laws.proofs.Texts.{text_is_same}
use Rattle.std.proofs.lemmas.Option.{none-some}

both_all : {X : Type 0} (p q : X → Bool) (xs : List X) → AllByRecursion (λ x. p x ≡ true) xs
    → AllByRecursion (λ x. q x ≡ true) xs → AllByRecursion (λ x. (p x && q x) ≡ true) xs
both_all p q [] a b = tt
both_all p q (x ∷ xs) a b = (and_from (p x) (q x) a.0 b.0, both_all p q xs a.1 b.1)

first_all : {X : Type 0} (p q : X → Bool) (xs : List X) → AllByRecursion (λ x. (p x && q x) ≡ true) xs
    → AllByRecursion (λ x. p x ≡ true) xs
first_all p q [] a = tt
first_all p q (x ∷ xs) a = (first_of_both (p x) (q x) a.0, first_all p q xs a.1)

second_all : {X : Type 0} (p q : X → Bool) (xs : List X) → AllByRecursion (λ x. (p x && q x) ≡ true) xs
    → AllByRecursion (λ x. q x ≡ true) xs
second_all p q [] a = tt
second_all p q (x ∷ xs) a = (second_of_both (p x) (q x) a.0, second_all p q xs a.1)

found_nothing : (o : Option Occurrence) → option_map_or (λ (s : Occurrence). Some s.bytes) o None ≡ None → o ≡ None
found_nothing None e = refl
found_nothing (Some s) e = absurd (none-some s.bytes (sym e))

module _ (def : DedbDef) (anchor : ℕ) (ends : AreaEnds) where
  abbrev sent : Root → Bool
  sent root = anchor_of def (root_key def.segments root) == anchor

  abbrev pub passes : Root → Bool
  passes root = is_root def.segments ends root && sent root

  abbrev pub AreGood : List Root → Type 0
  AreGood roots = IsGood (root_key def.segments) passes roots

  pub to_good : (roots : List Root) → is_anchor def anchor ends roots ≡ true → AreGood roots
  to_good roots e =
      let a = list_all (is_root def.segments ends) roots in
      let b = ascend (map (root_key def.segments) roots) in
      let c = list_all sent roots in
      let ab = first_of_both (a && b) c e in (
        both_all (is_root def.segments ends) sent roots (all_of_list_all (is_root def.segments ends) roots (first_of_both a b ab))
            (all_of_list_all sent roots (second_of_both (a && b) c e)),
        second_of_both a b ab,
      )

  pub from_good : (roots : List Root) → AreGood roots → is_anchor def anchor ends roots ≡ true
  from_good roots good =
      let a = list_all (is_root def.segments ends) roots in
      let b = ascend (map (root_key def.segments) roots) in
      let c = list_all sent roots in
      and_from (a && b) c (and_from a b (from_all (is_root def.segments ends) roots
      (first_all (is_root def.segments ends) sent roots good.0)) good.1)
      (from_all sent roots (second_all (is_root def.segments ends) sent roots good.0))

  -- the parts of a root
  pub record IsWhole (root : Root) : Type 0 where
    pub long : has_length def.segments 0 root.bytes ≡ true
    pub rows : are_rows def.segments (child_types def.segments 0) (map (map (seen_as def.segments)) root.children) ≡
        true
    pub newest : are_newest_first ends.begin ends.end root.seqs ≡ true
    pub lengths : have_lengths def.segments root.seqs ≡ true
    pub here : sent root ≡ true

  pub whole : (root : Root) → passes root ≡ true → IsWhole root
  whole root e =
      let a = has_length def.segments 0 root.bytes in
      let b = are_rows def.segments (child_types def.segments 0) (map (map (seen_as def.segments)) root.children) in
      let c = are_newest_first ends.begin ends.end root.seqs in
      let d = have_lengths def.segments root.seqs in
      let abcd = first_of_both (((a && b) && c) && d) (sent root) e in
      let abc = first_of_both ((a && b) && c) d abcd in
      let ab = first_of_both (a && b) c abc in
      record {
        long = first_of_both a b ab;
        rows = second_of_both a b ab;
        newest = second_of_both (a && b) c abc;
        lengths =
            second_of_both ((a && b) && c) d abcd;
        here = second_of_both (((a && b) && c) && d) (sent root) e;
      }

  pub of_parts : (root : Root) → IsWhole root → passes root ≡ true
  of_parts root k =
      let a = has_length def.segments 0 root.bytes in
      let b = are_rows def.segments (child_types def.segments 0) (map (map (seen_as def.segments)) root.children) in
      let c = are_newest_first ends.begin ends.end root.seqs in
      let d = have_lengths def.segments root.seqs in
      and_from (((a && b) && c) && d) (sent root) (and_from ((a && b) && c) d
      (and_from (a && b) c (and_from a b k.long k.rows) k.newest) k.lengths) k.here

  -- ---- what is inserted isn't there

  -- what a root shows has another path
  abbrev IsFreeAt : Edit → List Root → List Step → Type 0
  IsFreeAt (Inserts bytes) roots path = (occurrence : Occurrence) → Contains (sequence def.segments roots) occurrence
      → same_path occurrence.path path ≡ false
  IsFreeAt (Replaces bytes) roots path = Unit {0}
  IsFreeAt Deletes roots path = Unit {0}

  free_at : (edit : Edit) (roots : List Root) (path : List Step) → IsNew def anchor roots path edit
      → IsFreeAt edit roots path
  free_at (Inserts bytes) roots path new = λ occurrence c.
      none_found (λ (s : Occurrence). same_path s.path path) (sequence def.segments roots) occurrence
      (found_nothing (find (λ (s : Occurrence). same_path s.path path) (sequence def.segments roots)) new.0) c
  free_at (Replaces bytes) roots path new = tt
  free_at Deletes roots path new = tt

  others : (roots : List Root) (s : Step) → s.segment ≡ 0 → s.serial ≡ 0
      → ((occurrence : Occurrence) → Contains (sequence def.segments roots) occurrence
      → same_path occurrence.path (s ∷ []) ≡ false)
      → AllByRecursion (λ (y : Root). same_text (root_key def.segments y) s.key ≡ false) roots
  others roots s kind serial free = each_contained (λ (y : Root). same_text (root_key def.segments y) s.key ≡ false)
      roots (λ r c.
      let first : Occurrence = one_down (direct 0 (root_key def.segments r)) (at_end r.bytes) in
      other_key def.segments 0 (root_key def.segments r) s (sym kind) serial
      (free first (flat_map_contains (root_order def.segments) roots r first c (contains_first _ _))))

  free_root : (edit : Edit) (roots : List Root) (s t : Step) (ts : List Step) (r : Root) → s.segment ≡ 0 → s.serial ≡ 0
      → Contains roots r → root_key def.segments r ≡ s.key → IsFreeAt edit roots (s ∷ t ∷ ts)
      → IsFree def.segments edit 0 r.children (t ∷ ts)
  free_root (Inserts bytes) roots s t ts r kind serial c is free = λ occurrence d.
      let step : Step = direct 0 (root_key def.segments r) in
      let below : List Occurrence = rows_in_order (child_types def.segments 0)
      (map (map (node_order def.segments)) r.children) in
      let front : List Occurrence = at_end r.bytes ∷ sequentials def.segments r.seqs in
      let shown : Contains (root_order def.segments r) (one_down step occurrence) =
      map_contains (one_down step) (front ++ below) occurrence (Contains-append_right front below occurrence d) in
      not_second (same_step step s) (same_path occurrence.path (t ∷ ts))
      (step_is def.segments 0 (root_key def.segments r) s (sym kind) serial
      (subst (λ (k : List ℕ). same_text k s.key ≡ true) (sym is) (text_is_same s.key)))
      (free (one_down step occurrence) (flat_map_contains (root_order def.segments) roots r (one_down step occurrence) c
      shown))
  free_root (Replaces bytes) roots s t ts r kind serial c is free = tt
  free_root Deletes roots s t ts r kind serial c is free = tt

  -- ---- edits

  root_edited : (edit : Edit) (roots : List Root) (s : Step) → s.segment ≡ 0 → s.serial ≡ 0
      → FitsBytes def.segments (s ∷ []) edit → IsNew def anchor roots (s ∷ []) edit → AreGood roots
      → AreGood (edited def.segments roots (s ∷ []) edit)
  root_edited (Inserts bytes) roots s kind serial fits new good =
      let long : has_length def.segments 0 bytes ≡ true =
      subst (λ (t : ℕ). has_length def.segments t bytes ≡ true) kind fits.0 in
      let key : key_in def.segments 0 bytes ≡ s.key =
      subst (λ (t : ℕ). key_in def.segments t bytes ≡ s.key) kind fits.1 in
      let at : anchor_of def (key_in def.segments 0 bytes) ≡ anchor = ap (anchor_of def) key ∙ new.1 in
      put_good (root_key def.segments) passes (new_root def.segments bytes) roots
      (of_parts (new_root def.segments bytes) (record {
        long = long;
        rows = empty_rows def.segments (child_types def.segments 0);
        newest = refl;
        lengths = refl;
        here = subst (λ (a : ℕ). (anchor_of def (key_in def.segments 0 bytes) == a) ≡ true) at
            (is_number def.segments (anchor_of def (key_in def.segments 0 bytes)));
      }))
      (subst (λ (k : List ℕ). AllByRecursion (λ (y : Root). same_text (root_key def.segments y) k ≡ false) roots)
      (sym key) (others roots s kind serial (free_at (Inserts bytes) roots (s ∷ []) new)))
      good
  root_edited (Replaces bytes) roots s kind serial fits new good =
      let long : has_length def.segments 0 bytes ≡ true =
      subst (λ (t : ℕ). has_length def.segments t bytes ≡ true) kind fits.0 in
      let key : key_in def.segments 0 bytes ≡ s.key =
      subst (λ (t : ℕ). key_in def.segments t bytes ≡ s.key) kind fits.1 in
      change_good (root_key def.segments) passes s.key (λ (r : Root). record r { bytes = bytes }) roots
      (each_contained _ roots (λ r c passing is.
      let k = whole r passing in (
        of_parts (record r { bytes = bytes }) (record {
          long = long;
          rows = k.rows;
          newest = k.newest;
          lengths = k.lengths;
          here = subst (λ (j : List ℕ). (anchor_of def j == anchor) ≡ true) (is ∙ sym key) k.here;
        }),
        key ∙ sym is,
      ))) good
  root_edited Deletes roots s kind serial fits new good = drop_good (root_key def.segments) passes s.key roots good

  pub edit_good : (edit : Edit) (roots : List Root) (path : List Step) → FitsEdit def anchor roots path edit
      → AreGood roots → AreGood (edited def.segments roots path edit)
  edit_good edit roots [] fits good = good
  edit_good edit roots (s ∷ []) fits good = root_edited edit roots s fits.direct.0 fits.direct.1.0 fits.bytes_fit
      fits.new good
  edit_good edit roots (s ∷ t ∷ ts) fits good =
      let free = free_at edit roots (s ∷ t ∷ ts) fits.new in
      change_good (root_key def.segments) passes s.key
      (λ (r : Root). record r { children = below_edited def.segments edit 0 (t ∷ ts) r.children }) roots
      (each_contained _ roots (λ r c passing is.
      let k = whole r passing in (
        of_parts (record r { children = below_edited def.segments edit 0 (t ∷ ts) r.children }) (record {
          long = k.long;
          rows = below_good def.segments edit (t ∷ ts) 0 r.children fits.direct.1.1
              (fits_later def.segments edit s t ts fits.bytes_fit)
              (free_root edit roots s t ts r fits.direct.0 fits.direct.1.0 c is free) k.rows;
          newest = k.newest;
          lengths = k.lengths;
          here = k.here;
        }),
        refl,
      ))) good

pub edited_good : (def : DedbDef) (anchor : ℕ) (ends : AreaEnds) (roots : List Root) (path : List Step) (edit : Edit)
    → is_anchor def anchor ends roots ≡ true → FitsEdit def anchor roots path edit
    → is_anchor def anchor ends (edited def.segments roots path edit) ≡ true
edited_good def anchor ends roots path edit e fits =
    from_good def anchor ends (edited def.segments roots path edit)
    (edit_good def anchor ends edit roots path fits (to_good def anchor ends roots e))
