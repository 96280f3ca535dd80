-- Edits at the end of a path: every row stays in shape.
use Rattle.std.proofs.Common.{◌≡◌, ℕ, zero, suc, List, [], ◌∷◌, map, length, get_or, replicate, Option, Some, None, refl, sym, ◌∙◌, ap, subst, Bool, true, false, ◌&&◌, ◌==◌, slice_get, slice_set, arith, ◌⊎◌, inl, inr}
use Rattle.std.specs.Prelude.{Contains, find, flat_map, if◌then◌else◌, position}
use Rattle.std.specs.List.{AllByRecursion, list_all}
use Rattle.std.specs.Option.{option_map_or}
use Rattle.std.proofs.lemmas.List.Quantifiers.{position-Some}
use Rattle.std.proofs.lemmas.Option.{slice_get-get_or, none-some, same_Some}
use Rattle.std.proofs.lemmas.List.Elements.{Contains-append_left, Contains-append_right}
use Rattle.fp_model.specs.declared.database.Node.{Node, out-Node, out-roll-Node, roll-Node}
use Rattle.fp_model.specs.declared.database.Node.TheFolds.{fold_out-Node}
use Rattle.fp_model.specs.declared.database.Node.TheOpen.{Node-F}
use Rattle.fp_model.specs.declared.definitions.SegDef.{SegDef}
use Rattle.fp_model.specs.Order.{Edit, Inserts, Replaces, Deletes, Occurrence, Step, at_end, below_edited, child_types, direct, key_in, node_key, node_order, node_step, nodes_edited, one_down, row_changed, rows_in_order, same_path, same_step, under}
use Rattle.fp_model.specs.Shape.{Seen, are_rows, has_length, is_row, seen_as, seen_step}
use Rattle.fp_model.specs.State.{ascend, change_key, drop_key, put_by_key}
use Rattle.fp_model.specs.Texts.{same_text}
use Rattle.state_laws.specs.Edits.{FitsBytes}
use Rattle.key_order.proofs.Ascending.{all_but, all_put, put_ascends, still_ascends}
use Rattle.state_laws.proofs.Lists.{true_is_not_false}
use Rattle.std.proofs.lemmas.Bool.{and_from}
use Rattle.plain_laws.proofs.Alls.{all_of_list_all, contains_cases, contains_first, contains_later, contains_nothing, flat_map_contains, map_contains}
use Rattle.plain_laws.proofs.Truths.{first_of_both, second_of_both, not_second}
use Rattle.model_laws.proofs.Texts.{same_text_is, text_is_same}

-- ---- tests and lists

pub from_all : {X : Type 0} (p : X → Bool) (xs : List X) → AllByRecursion (λ x. p x ≡ true) xs → list_all p xs ≡ true
from_all p [] all = refl
from_all p (x ∷ xs) all = and_from (p x) (list_all p xs) all.0 (from_all p xs all.1)

pub each_contained : {X : Type 0} (P : X → Type 0) (xs : List X) → ((x : X) → Contains xs x → P x) → AllByRecursion P xs
each_contained P [] h = tt
each_contained P (x ∷ xs) h = (h x (contains_first x xs), each_contained P xs (λ y c. h y (contains_later x xs y c)))

-- where nothing is found, each fails the test
pub none_found : {X : Type 0} (p : X → Bool) (xs : List X) (x : X) → find p xs ≡ None → Contains xs x → p x ≡ false
none_found p [] x e c = absurd (contains_nothing x c)
none_found {X} p (y ∷ ys) x e c = by (p y) refl e (λ f d. none_found p ys x f d) (contains_cases y ys x c)
  where
    by : (b : Bool) → p y ≡ b → (if b then Some y else find p ys) ≡ None
        → (find p ys ≡ None → Contains ys x → p x ≡ false) → (y ≡ x) ⊎ Contains ys x → p x ≡ false
    by true is e later at = absurd (none-some y (sym e))
    by false is e later (inl same) = ap p (sym same) ∙ is
    by false is e later (inr there) = later e there

-- ---- lists by key

module _ {X : Type 0} (key : X → List ℕ) (p : X → Bool) where
  -- each passes, and keys ascend
  abbrev pub IsGood : List X → Type 0
  IsGood xs = AllByRecursion (λ x. p x ≡ true) xs × (ascend (map key xs) ≡ true)

  pub put_good : (x : X) (xs : List X) → p x ≡ true → AllByRecursion (λ y. same_text (key y) (key x) ≡ false) xs
      → IsGood xs → IsGood (put_by_key key x xs)
  put_good x xs one others good = (all_put key (λ y. p y ≡ true) x xs one good.0, put_ascends key x xs good.1 others)

  pub drop_good : (k : List ℕ) (xs : List X) → IsGood xs → IsGood (drop_key key k xs)
  drop_good k xs good = (all_but key (λ y. p y ≡ true) k xs good.0, still_ascends key k xs good.1)

  -- a change that leaves the key, and passes where the element did
  abbrev pub Changes : List ℕ → (X → X) → X → Type 0
  Changes k change x = p x ≡ true → key x ≡ k → (p (change x) ≡ true) × (key (change x) ≡ key x)

  module _ (k : List ℕ) (change : X → X) where
    abbrev one : X → X
    one x = if same_text (key x) k then change x else x

    one_good : (x : X) → p x ≡ true → Changes k change x → (p (one x) ≡ true) × (key (one x) ≡ key x)
    one_good x good h = by (same_text (key x) k) refl
      where
        by : (b : Bool) → same_text (key x) k ≡ b → (p (if b then change x else x) ≡ true)
            × (key (if b then change x else x) ≡ key x)
        by true e = h good (same_text_is (key x) k e)
        by false e = (good, refl)

    all_changed : (xs : List X) → AllByRecursion (Changes k change) xs → AllByRecursion (λ x. p x ≡ true) xs
        → AllByRecursion (λ x. p x ≡ true) (change_key key k change xs)
    all_changed [] h all = tt
    all_changed (x ∷ xs) h all = ((one_good x all.0 h.0).0, all_changed xs h.1 all.1)

    same_keys : (xs : List X) → AllByRecursion (Changes k change) xs → AllByRecursion (λ x. p x ≡ true) xs
        → map key (change_key key k change xs) ≡ map key xs
    same_keys [] h all = refl
    same_keys (x ∷ xs) h all = ap (λ j. j ∷ map key (change_key key k change xs)) (one_good x all.0 h.0).1 ∙ ap
        (λ js. key x ∷ js) (same_keys xs h.1 all.1)

    pub change_good : (xs : List X) → AllByRecursion (Changes k change) xs → IsGood xs
        → IsGood (change_key key k change xs)
    change_good xs h good = (all_changed xs h good.0, ap ascend (same_keys xs h good.0) ∙ good.1)

-- ---- nodes

module _ (types : List SegDef) where
  abbrev in_shape : ℕ → Node → Bool
  in_shape type node = (seen_as types node type).in_shape

  abbrev seen_rows : List (List Node) → List (List (ℕ → Seen))
  seen_rows rows = map (map (seen_as types)) rows

  abbrev pub AreRows : ℕ → List (List Node) → Type 0
  AreRows type rows = are_rows types (child_types types type) (seen_rows rows) ≡ true

  abbrev pub IsRow : ℕ → List Node → Type 0
  IsRow type row = IsGood (node_key types type) (in_shape type) row

  shape_is : (type : ℕ) (node : Node) → in_shape type node ≡
      (has_length types type (out-Node node).bytes && are_rows types (child_types types type)
      (seen_rows (out-Node node).children))
  shape_is type node = ap (λ (f : ℕ → Seen). (f type).in_shape) (fold_out-Node (ℕ → Seen) (seen_step types) node)

  rolled_shape : (type : ℕ) (f : Node-F Node) → in_shape type (roll-Node f) ≡
      (has_length types type f.bytes && are_rows types (child_types types type) (seen_rows f.children))
  rolled_shape type f = shape_is type (roll-Node f) ∙ ap
      (λ (g : Node-F Node). has_length types type g.bytes && are_rows types (child_types types type)
      (seen_rows g.children)) (out-roll-Node f)

  rolled_key : (type : ℕ) (f : Node-F Node) → node_key types type (roll-Node f) ≡ key_in types type f.bytes
  rolled_key type f = ap (λ (g : Node-F Node). key_in types type g.bytes) (out-roll-Node f)

  bytes_are : (type : ℕ) (node : Node) → (seen_as types node type).bytes ≡ (out-Node node).bytes
  bytes_are type node = ap (λ (f : ℕ → Seen). (f type).bytes) (fold_out-Node (ℕ → Seen) (seen_step types) node)

  all_seen : (type : ℕ) (row : List Node) → list_all (λ (seen : ℕ → Seen). (seen type).in_shape)
      (map (seen_as types) row) ≡ list_all (in_shape type) row
  all_seen type [] = refl
  all_seen type (n ∷ row) = ap (λ b. in_shape type n && b) (all_seen type row)

  keys_seen : (type : ℕ) (row : List Node) → map (λ (seen : ℕ → Seen). key_in types type (seen type).bytes)
      (map (seen_as types) row) ≡ map (node_key types type) row
  keys_seen type [] = refl
  keys_seen type (n ∷ row) =
      ap (λ bytes. key_in types type bytes ∷ map (λ (seen : ℕ → Seen). key_in types type (seen type).bytes)
      (map (seen_as types) row)) (bytes_are type n)
      ∙ ap (λ ks. node_key types type n ∷ ks) (keys_seen type row)

  to_row : (type : ℕ) (row : List Node) → is_row types type (map (seen_as types) row) ≡ true → IsRow type row
  to_row type row e =
      let a = list_all (λ (seen : ℕ → Seen). (seen type).in_shape) (map (seen_as types) row) in
      let b = ascend (map (λ (seen : ℕ → Seen). key_in types type (seen type).bytes) (map (seen_as types) row)) in (
        all_of_list_all (in_shape type) row (sym (all_seen type row) ∙ first_of_both a b e),
        sym (ap ascend (keys_seen type row)) ∙ second_of_both a b e,
      )

  from_row : (type : ℕ) (row : List Node) → IsRow type row → is_row types type (map (seen_as types) row) ≡ true
  from_row type row good =
      let a = list_all (λ (seen : ℕ → Seen). (seen type).in_shape) (map (seen_as types) row) in
      let b = ascend (map (λ (seen : ℕ → Seen). key_in types type (seen type).bytes) (map (seen_as types) row)) in
      and_from a b (all_seen type row ∙ from_all (in_shape type) row good.0) (ap ascend (keys_seen type row) ∙ good.1)

  -- ---- rows

  row_in : (kinds : List ℕ) (rows : List (List Node)) (at type : ℕ) (row : List Node) → slice_get kinds at ≡ Some type
      → slice_get rows at ≡ Some row → are_rows types kinds (seen_rows rows) ≡ true → IsRow type row
  row_in [] rows at type row kind there e = absurd (none-some type kind)
  row_in (k ∷ ks) [] at type row kind there e = absurd (none-some row there)
  row_in (k ∷ ks) (r ∷ rs) zero type row kind there e =
      let here = to_row k r (first_of_both (is_row types k (map (seen_as types) r)) (are_rows types ks (seen_rows rs)) e)
      in
      subst (λ (t : ℕ). IsRow t row) (same_Some k type kind) (subst (IsRow k) (same_Some r row there) here)
  row_in (k ∷ ks) (r ∷ rs) (suc at) type row kind there e =
      row_in ks rs at type row kind there (second_of_both (is_row types k (map (seen_as types) r))
      (are_rows types ks (seen_rows rs)) e)

  row_set : (kinds : List ℕ) (rows : List (List Node)) (at type : ℕ) (row : List Node) → slice_get kinds at ≡ Some type
      → IsRow type row → are_rows types kinds (seen_rows rows) ≡ true
      → are_rows types kinds (seen_rows (slice_set rows at row)) ≡ true
  row_set [] [] at type row kind good e = refl
  row_set [] (r ∷ rs) at type row kind good e = absurd (none-some type kind)
  row_set (k ∷ ks) [] at type row kind good e = e
  row_set (k ∷ ks) (r ∷ rs) zero type row kind good e =
      and_from (is_row types k (map (seen_as types) row)) (are_rows types ks (seen_rows rs))
      (from_row k row (subst (λ (t : ℕ). IsRow t row) (sym (same_Some k type kind)) good))
      (second_of_both (is_row types k (map (seen_as types) r)) (are_rows types ks (seen_rows rs)) e)
  row_set (k ∷ ks) (r ∷ rs) (suc at) type row kind good e =
      and_from (is_row types k (map (seen_as types) r)) (are_rows types ks (seen_rows (slice_set rs at row)))
      (first_of_both (is_row types k (map (seen_as types) r)) (are_rows types ks (seen_rows rs)) e)
      (row_set ks rs at type row kind good (second_of_both (is_row types k (map (seen_as types) r))
      (are_rows types ks (seen_rows rs)) e))

  number_is : (a b : ℕ) → (a == b) ≡ true → a ≡ b
  number_is a b e = grind arith

  -- the position of a type is its place
  position_at : (type : ℕ) (kinds : List ℕ) (at : ℕ) → position (λ t. t == type) kinds ≡ Some at
      → slice_get kinds at ≡ Some type
  position_at type kinds at e =
      let f = position-Some (λ t. t == type) kinds at 0 e in
      slice_get-get_or kinds at 0 f.0 ∙ ap (λ (n : ℕ). Some n) (number_is (get_or kinds at 0) type f.1)

  -- the rows of a parent with that of a type changed
  rows_changed : (parent type : ℕ) (change : List Node → List Node) (rows : List (List Node))
      → ((at : ℕ) (row : List Node) → slice_get (child_types types parent) at ≡ Some type → slice_get rows at ≡ Some row
      → IsRow type row → IsRow type (change row))
      → AreRows parent rows → AreRows parent (row_changed types parent type change rows)
  rows_changed parent type change rows keeps good = by (position (λ t. t == type) (child_types types parent)) refl
    where
      put : (at : ℕ) → slice_get (child_types types parent) at ≡ Some type → (o : Option (List Node))
          → slice_get rows at ≡ o → AreRows parent (option_map_or (λ row. slice_set rows at (change row)) o rows)
      put at kind None there = good
      put at kind (Some row) there = row_set (child_types types parent) rows at type (change row) kind
          (keeps at row kind there (row_in (child_types types parent) rows at type row kind there good)) good

      by : (o : Option ℕ) → position (λ t. t == type) (child_types types parent) ≡ o
          → AreRows parent (option_map_or (λ at. option_map_or (λ row. slice_set rows at (change row))
          (slice_get rows at) rows) o rows)
      by None e = good
      by (Some at) e = put at (position_at type (child_types types parent) at e) (slice_get rows at) refl

  -- ---- occurrences

  abbrev orders : List (List Node) → List (List (ℕ → List Occurrence))
  orders rows = map (map (node_order types)) rows

  order_is : (type : ℕ) (node : Node) → node_order types node type ≡ under (direct type (node_key types type node))
      (at_end (out-Node node).bytes ∷ rows_in_order (child_types types type) (orders (out-Node node).children))
  order_is type node = ap (λ (f : ℕ → List Occurrence). f type)
      (fold_out-Node (ℕ → List Occurrence) (node_step types) node)

  -- what a node of a row shows stands among what the rows show
  row_holds : (kinds : List ℕ) (rows : List (List Node)) (at type : ℕ) (row : List Node) (node : Node)
      (occurrence : Occurrence) → slice_get kinds at ≡ Some type → slice_get rows at ≡ Some row → Contains row node
      → Contains (node_order types node type) occurrence → Contains (rows_in_order kinds (orders rows)) occurrence
  row_holds [] rows at type row node occurrence kind there c d = absurd (none-some type kind)
  row_holds (k ∷ ks) [] at type row node occurrence kind there c d = absurd (none-some row there)
  row_holds (k ∷ ks) (r ∷ rs) zero type row node occurrence kind there c d =
      let c2 : Contains r node = subst (λ (l : List Node). Contains l node) (sym (same_Some r row there)) c in
      let d2 : Contains (node_order types node k) occurrence =
      subst (λ (t : ℕ). Contains (node_order types node t) occurrence) (sym (same_Some k type kind)) d in
      Contains-append_left (flat_map (λ (child : ℕ → List Occurrence). child k) (map (node_order types) r))
      (rows_in_order ks (orders rs)) occurrence
      (flat_map_contains (λ (child : ℕ → List Occurrence). child k) (map (node_order types) r) (node_order types node)
      occurrence (map_contains (node_order types) r node c2) d2)
  row_holds (k ∷ ks) (r ∷ rs) (suc at) type row node occurrence kind there c d =
      Contains-append_right (flat_map (λ (child : ℕ → List Occurrence). child k) (map (node_order types) r))
      (rows_in_order ks (orders rs)) occurrence (row_holds ks rs at type row node occurrence kind there c d)

  pub is_number : (a : ℕ) → (a == a) ≡ true
  is_number a = grind arith

  pub step_is : (type : ℕ) (key : List ℕ) (s : Step) → type ≡ s.segment → s.serial ≡ 0 → same_text key s.key ≡ true
      → same_step (direct type key) s ≡ true
  step_is type key s kind serial e =
      and_from (type == s.segment && same_text key s.key) (0 == s.serial)
      (and_from (type == s.segment) (same_text key s.key) (subst (λ (t : ℕ). (type == t) ≡ true) kind (is_number type))
      e)
      (subst (λ (n : ℕ). (0 == n) ≡ true) (sym serial) refl)

  -- nothing has the path of a direct segment: no key is that of its step
  pub other_key : (type : ℕ) (key : List ℕ) (s : Step) → type ≡ s.segment → s.serial ≡ 0
      → (same_step (direct type key) s && true) ≡ false → same_text key s.key ≡ false
  other_key type key s kind serial e = by (same_text key s.key) refl
    where
      by : (b : Bool) → same_text key s.key ≡ b → b ≡ false
      by true is = absurd (true_is_not_false (sym (and_from (same_step (direct type key) s) true
          (step_is type key s kind serial is) refl) ∙ e))
      by false is = refl

  -- ---- edits below a parent

  pub empty_rows : (kinds : List ℕ) → are_rows types kinds (seen_rows (replicate (length kinds) [])) ≡ true
  empty_rows [] = refl
  empty_rows (k ∷ ks) = empty_rows ks

  -- what is inserted has no twin of its key
  abbrev IsNewIn : Step → Edit → List Node → Type 0
  IsNewIn s (Inserts bytes) row = AllByRecursion (λ y. same_text (node_key types s.segment y) s.key ≡ false) row
  IsNewIn s (Replaces bytes) row = Unit {0}
  IsNewIn s Deletes row = Unit {0}

  nodes_good : (s : Step) (edit : Edit) (row : List Node) → FitsBytes types (s ∷ []) edit → IsNewIn s edit row
      → IsRow s.segment row → IsRow s.segment (nodes_edited types s edit row)
  nodes_good s (Inserts bytes) row fits new good =
      let f : Node-F Node = record { bytes = bytes; children = replicate (length (child_types types s.segment)) [] } in
      let key : node_key types s.segment (roll-Node f) ≡ s.key = rolled_key s.segment f ∙ fits.1 in
      put_good (node_key types s.segment) (in_shape s.segment) (roll-Node f) row
      (rolled_shape s.segment f ∙ and_from (has_length types s.segment bytes)
      (are_rows types (child_types types s.segment)
      (seen_rows (replicate (length (child_types types s.segment)) []))) fits.0
      (empty_rows (child_types types s.segment)))
      (subst (λ (k : List ℕ). AllByRecursion (λ y. same_text (node_key types s.segment y) k ≡ false) row) (sym key) new)
      good
  nodes_good s (Replaces bytes) row fits new good =
      change_good (node_key types s.segment) (in_shape s.segment) s.key
      (λ n. roll-Node (record (out-Node n) { bytes = bytes })) row
      (each_contained _ row (λ n c shape is.
      let f : Node-F Node = record (out-Node n) { bytes = bytes } in (
        rolled_shape s.segment f
            ∙ and_from (has_length types s.segment bytes)
            (are_rows types (child_types types s.segment) (seen_rows (out-Node n).children)) fits.0
            (second_of_both (has_length types s.segment (out-Node n).bytes)
            (are_rows types (child_types types s.segment) (seen_rows (out-Node n).children))
            (sym (shape_is s.segment n) ∙ shape)),
        rolled_key s.segment f ∙ fits.1 ∙ sym is,
      ))) good
  nodes_good s Deletes row fits new good = drop_good (node_key types s.segment) (in_shape s.segment) s.key row good

  -- what is inserted isn't among what these rows show
  abbrev pub IsFree : Edit → ℕ → List (List Node) → List Step → Type 0
  IsFree (Inserts bytes) parent rows path = (occurrence : Occurrence)
      → Contains (rows_in_order (child_types types parent) (orders rows)) occurrence
      → same_path occurrence.path path ≡ false
  IsFree (Replaces bytes) parent rows path = Unit {0}
  IsFree Deletes parent rows path = Unit {0}

  free_in : (edit : Edit) (parent : ℕ) (rows : List (List Node)) (s : Step) (at : ℕ) (row : List Node) → s.serial ≡ 0
      → slice_get (child_types types parent) at ≡ Some s.segment → slice_get rows at ≡ Some row
      → IsFree edit parent rows (s ∷ []) → IsNewIn s edit row
  free_in (Inserts bytes) parent rows s at row serial kind there free =
      each_contained (λ y. same_text (node_key types s.segment y) s.key ≡ false) row (λ n c.
      let shown = row_holds (child_types types parent) rows at s.segment row n
      (one_down (direct s.segment (node_key types s.segment n)) (at_end (out-Node n).bytes)) kind there c
      (subst (λ (l : List Occurrence). Contains l (one_down (direct s.segment (node_key types s.segment n))
      (at_end (out-Node n).bytes))) (sym (order_is s.segment n)) (contains_first _ _)) in
      other_key s.segment (node_key types s.segment n) s refl serial (free _ shown))
  free_in (Replaces bytes) parent rows s at row serial kind there free = tt
  free_in Deletes parent rows s at row serial kind there free = tt

  free_below : (edit : Edit) (parent : ℕ) (rows : List (List Node)) (s t : Step) (ts : List Step) (at : ℕ)
      (row : List Node) (n : Node) → s.serial ≡ 0 → slice_get (child_types types parent) at ≡ Some s.segment
      → slice_get rows at ≡ Some row → Contains row n
      → node_key types s.segment n ≡ s.key → IsFree edit parent rows (s ∷ t ∷ ts)
      → IsFree edit s.segment (out-Node n).children (t ∷ ts)
  free_below (Inserts bytes) parent rows s t ts at row n serial kind there c is free = λ occurrence d.
      let step : Step = direct s.segment (node_key types s.segment n) in
      let below : List Occurrence = rows_in_order (child_types types s.segment) (orders (out-Node n).children) in
      let shown = row_holds (child_types types parent) rows at s.segment row n (one_down step occurrence) kind there c
      (subst (λ (l : List Occurrence). Contains l (one_down step occurrence)) (sym (order_is s.segment n))
      (map_contains (one_down step) (at_end (out-Node n).bytes ∷ below) occurrence
      (contains_later (at_end (out-Node n).bytes) below occurrence d))) in
      not_second (same_step step s) (same_path occurrence.path (t ∷ ts))
      (step_is s.segment (node_key types s.segment n) s refl serial
      (subst (λ (k : List ℕ). same_text k s.key ≡ true) (sym is) (text_is_same s.key)))
      (free (one_down step occurrence) shown)
  free_below (Replaces bytes) parent rows s t ts at row n serial kind there c is free = tt
  free_below Deletes parent rows s t ts at row n serial kind there c is free = tt

  pub fits_later : (edit : Edit) (s t : Step) (ts : List Step) → FitsBytes types (s ∷ t ∷ ts) edit
      → FitsBytes types (t ∷ ts) edit
  fits_later (Inserts bytes) s t ts fits = fits
  fits_later (Replaces bytes) s t ts fits = fits
  fits_later Deletes s t ts fits = tt

  pub below_good : (edit : Edit) (path : List Step) (parent : ℕ) (rows : List (List Node))
      → AllByRecursion (λ s. s.serial ≡ 0) path → FitsBytes types path edit → IsFree edit parent rows path
      → AreRows parent rows
      → AreRows parent (below_edited types edit parent path rows)
  below_good edit [] parent rows serial fits free good = good
  below_good edit (s ∷ []) parent rows serial fits free good =
      rows_changed parent s.segment (nodes_edited types s edit) rows
      (λ at row kind there row_good. nodes_good s edit row fits
      (free_in edit parent rows s at row serial.0 kind there free) row_good) good
  below_good edit (s ∷ t ∷ ts) parent rows serial fits free good =
      let below : List (List Node) → List (List Node) = below_edited types edit s.segment (t ∷ ts) in
      let changed : Node → Node = λ n. roll-Node (record (out-Node n) { children = below (out-Node n).children }) in
      rows_changed parent s.segment (change_key (node_key types s.segment) s.key changed) rows
      (λ at row kind there row_good. change_good (node_key types s.segment) (in_shape s.segment) s.key changed row
      (each_contained _ row (λ n c shape is.
      let both = sym (shape_is s.segment n) ∙ shape in
      let a = has_length types s.segment (out-Node n).bytes in
      let b = are_rows types (child_types types s.segment) (seen_rows (out-Node n).children) in
      let f : Node-F Node = record (out-Node n) { children = below (out-Node n).children } in (
        rolled_shape s.segment f
            ∙ and_from a (are_rows types (child_types types s.segment) (seen_rows (below (out-Node n).children)))
            (first_of_both a b both)
            (below_good edit (t ∷ ts) s.segment (out-Node n).children serial.1 (fits_later edit s t ts fits)
            (free_below edit parent rows s t ts at row n serial.0 kind there c is free) (second_of_both a b both)),
        rolled_key s.segment f,
      ))) row_good) good
