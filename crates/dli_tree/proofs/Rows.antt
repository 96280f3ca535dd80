-- What a search finds in segments, rows of twins, and the rows of a parent, one after another.
use Rattle.std.proofs.Common.{◌≡◌, ℕ, zero, suc, ◌+◌, ◌<◌, ◌≤◌, List, [], ◌∷◌, ◌++◌, map, drop, length, get_or, slice_get, Option, Some, None, Ok, Err, Result, IfOk, Bool, true, false, ◌&&◌, not, refl, sym, ap, ◌∙◌, subst, slice_index_or, add-one, arith}
use Rattle.std.specs.Prelude.{find, flat_map, option_map, if◌then◌else◌}
use Rattle.std.specs.List.{AllByRecursion, AllWithin, list_all, list_any}
use Rattle.std.specs.Option.{option_or}
use Rattle.std.proofs.lemmas.List.{drop_all}
use Rattle.std.proofs.lemmas.List.Folds.{find-append, flat_map-map}
use Rattle.std.proofs.Math.Seq.{drop-cons}
use Rattle.fp_model.specs.declared.calls.Ssa.{Ssa}
use Rattle.fp_model.specs.declared.database.Node.{Node, out-Node}
use Rattle.fp_model.specs.declared.database.Node.TheFolds.{fold_out-Node}
use Rattle.fp_model.specs.declared.database.Node.TheOpen.{Node-F}
use Rattle.fp_model.specs.declared.definitions.SegDef.{SegDef}
use Rattle.fp_model.specs.Order.{Occurrence, Step, at_end, child_types, direct, is_child_of, key_in, last_type, node_key, node_order, node_step, numbers_from, one_down, rows_in_order, under}
use Rattle.fp_model.specs.Shape.{Seen, are_rows, has_length, is_row, seen_as, seen_step}
use Rattle.fp_model.specs.State.{ascend}
use Rattle.fp_model.specs.WellFormed.{HavePlaces}
use Rattle.dli_tree.specs.inside.Aims.{Search, agrees, aim_of, ends_below, ends_here, entered, is_inside, is_past, leads_on, looks_for, wants}
use Rattle.dli_tree.specs.declared.aim.Aim.{Aim}
use Rattle.dli_tree.specs.declared.path.Path.{Path}
use Rattle.dli_tree.specs.Paths.{occurrence_of}
use Rattle.dli_tree.specs.inside.Reaches.{IsLeft}
use Rattle.key_order.proofs.Ascending.{all_at, not_both, stands_there}
use Rattle.dli_tree.proofs.Entering.{find_under, found_below}
use Rattle.dli_tree.proofs.Lines.{IsFrom, IsLine, end_from, ends_are, first_stands, node_from, stands_on}
use Rattle.plain_laws.proofs.Truths.{and_false, first_of_both, second_of_both}

-- ---- answers

-- ---- one segment

module _ (types : List SegDef) where
  abbrev pub orders : List (List Node) → List (List (ℕ → List Occurrence))
  orders rows = map (map (node_order types)) rows

  abbrev pub seen_rows : List (List Node) → List (List (ℕ → Seen))
  seen_rows rows = map (map (seen_as types)) rows

  abbrev pub all_below : ℕ → Node → List Occurrence
  all_below type node = at_end (out-Node node).bytes ∷ rows_in_order (child_types types type)
      (orders (out-Node node).children)

  pub order_is : (type : ℕ) (node : Node) → node_order types node type ≡ under (direct type (node_key types type node))
      (all_below type node)
  order_is type node = ap (λ (f : ℕ → List Occurrence). f type)
      (fold_out-Node (ℕ → List Occurrence) (node_step types) node)

  find_node : (aim : Search) (type : ℕ) (node : Node)
      → find (looks_for aim) (node_order types node type) ≡ found_below (direct type (node_key types type node))
      (all_below type node) (entered aim (direct type (node_key types type node)))
  find_node aim type node = ap (find (looks_for aim)) (order_is type node) ∙ find_under aim
      (direct type (node_key types type node)) (all_below type node)

  -- nothing is found in a segment that isn't entered
  pub none_left : (aim : Search) (type : ℕ) (node : Node) → IsLeft aim type (node_key types type node)
      → find (looks_for aim) (node_order types node type) ≡ None
  none_left aim type node left = find_node aim type node ∙ ap
      (found_below (direct type (node_key types type node)) (all_below type node)) left

  pub node_none : (aim : Search) (type : ℕ) (node : Node) (key : List ℕ) (entering : Option Aim)
      → key ≡ node_key types type node → option_map aim_of entering ≡ entered aim (direct type key) → entering ≡ None
      → None ≡ find (looks_for aim) (node_order types node type)
  node_none aim type node key entering same is none =
      sym (none_left aim type node (subst (λ (k : List ℕ). entered aim (direct type k) ≡ None) same
      (sym is ∙ ap (option_map aim_of) none)))

  pub node_some : (aim : Search) (type : ℕ) (node : Node) (key : List ℕ) (entering : Option Aim) (below : Aim)
      → key ≡ node_key types type node → option_map aim_of entering ≡ entered aim (direct type key)
      → entering ≡ Some below
      → option_map (one_down (direct type key)) (find (looks_for (aim_of below)) (all_below type node)) ≡ find
      (looks_for aim) (node_order types node type)
  node_some aim type node key entering below same is some =
      let here : entered aim (direct type key) ≡ Some (aim_of below) = sym is ∙ ap (option_map aim_of) some in
      subst (λ (k : List ℕ). entered aim (direct type k) ≡ Some (aim_of below)
      → option_map (one_down (direct type k)) (find (looks_for (aim_of below)) (all_below type node)) ≡ find
      (looks_for aim) (node_order types node type)) (sym same)
      (λ e. sym (find_node aim type node ∙ ap (found_below (direct type (node_key types type node))
      (all_below type node)) e)) here

  -- ---- shapes

  abbrev in_shape : ℕ → Node → Bool
  in_shape type node = (seen_as types node type).in_shape

  shape_is : (type : ℕ) (node : Node) → in_shape type node ≡
      (has_length types type (out-Node node).bytes && are_rows types (child_types types type)
      (seen_rows (out-Node node).children))
  shape_is type node = ap (λ (f : ℕ → Seen). (f type).in_shape) (fold_out-Node (ℕ → Seen) (seen_step types) node)

  pub rows_shape : (type : ℕ) (node : Node) → in_shape type node ≡ true
      → are_rows types (child_types types type) (seen_rows (out-Node node).children) ≡ true
  rows_shape type node e = second_of_both (has_length types type (out-Node node).bytes)
      (are_rows types (child_types types type) (seen_rows (out-Node node).children)) (sym (shape_is type node) ∙ e)

  bytes_are : (type : ℕ) (node : Node) → (seen_as types node type).bytes ≡ (out-Node node).bytes
  bytes_are type node = ap (λ (f : ℕ → Seen). (f type).bytes) (fold_out-Node (ℕ → Seen) (seen_step types) node)

  keys_seen : (type : ℕ) (row : List Node) → map (λ (seen : ℕ → Seen). key_in types type (seen type).bytes)
      (map (seen_as types) row) ≡ map (node_key types type) row
  keys_seen type [] = refl
  keys_seen type (n ∷ ns) = ap (λ (b : List ℕ). key_in types type b ∷ map
      (λ (seen : ℕ → Seen). key_in types type (seen type).bytes) (map (seen_as types) ns)) (bytes_are type n) ∙ ap
      (λ (ks : List (List ℕ)). node_key types type n ∷ ks) (keys_seen type ns)

  pub row_ascends : (type : ℕ) (row : List Node) → is_row types type (map (seen_as types) row) ≡ true
      → ascend (map (node_key types type) row) ≡ true
  row_ascends type row e = sym (ap ascend (keys_seen type row)) ∙ second_of_both
      (list_all (λ (seen : ℕ → Seen). (seen type).in_shape) (map (seen_as types) row))
      (ascend (map (λ (seen : ℕ → Seen). key_in types type (seen type).bytes) (map (seen_as types) row))) e

  all_in : (type : ℕ) (row : List Node) → list_all (λ (seen : ℕ → Seen). (seen type).in_shape) (map (seen_as types) row)
      ≡ true → AllByRecursion (λ n. in_shape type n ≡ true) row
  all_in type [] e = tt
  all_in type (n ∷ ns) e = (
    first_of_both (in_shape type n)
        (list_all (λ (seen : ℕ → Seen). (seen type).in_shape) (map (seen_as types) ns)) e,
    all_in type ns (second_of_both (in_shape type n) (list_all (λ (seen : ℕ → Seen). (seen type).in_shape)
        (map (seen_as types) ns)) e),
  )

  pub all_in_shape : (type : ℕ) (row : List Node) → is_row types type (map (seen_as types) row) ≡ true
      → AllByRecursion (λ n. in_shape type n ≡ true) row
  all_in_shape type row e =
      all_in type row (first_of_both (list_all (λ (seen : ℕ → Seen). (seen type).in_shape) (map (seen_as types) row))
      (ascend (map (λ (seen : ℕ → Seen). key_in types type (seen type).bytes) (map (seen_as types) row))) e)

  pub twin_shape : (type : ℕ) (row : List Node) (i : ℕ) (node : Node)
      → is_row types type (map (seen_as types) row) ≡ true → i < length row → node ≡ get_or row i node
      → in_shape type node ≡ true
  twin_shape type row i node e within is =
      subst (λ (n : Node). in_shape type n ≡ true) (sym is)
      (all_at (λ n. in_shape type n ≡ true) row i node
      (all_in type row (first_of_both (list_all (λ (seen : ℕ → Seen). (seen type).in_shape) (map (seen_as types) row))
      (ascend (map (λ (seen : ℕ → Seen). key_in types type (seen type).bytes) (map (seen_as types) row))) e))
      within)

-- ---- lists, piece by piece

module _ {X Y : Type 0} (p : Y → Bool) (f : X → List Y) where
  abbrev pub found_from : ℕ → List X → Option Y
  found_from at xs = find p (flat_map f (drop at xs))

  piece : (x : X) (xs : List X) → find p (f x) ≡ None → find p (flat_map f (x ∷ xs)) ≡ find p (flat_map f xs)
  piece x xs none = find-append p (f x) (flat_map f xs) ∙ ap (λ (o : Option Y). option_or o (find p (flat_map f xs)))
      none

  here : (x : X) (xs : List X) (y : Y) → find p (f x) ≡ Some y → find p (flat_map f (x ∷ xs)) ≡ Some y
  here x xs y some = find-append p (f x) (flat_map f xs) ∙ ap (λ (o : Option Y). option_or o (find p (flat_map f xs)))
      some

  all_none : (xs : List X) → ((i : ℕ) (d : X) → i < length xs → find p (f (slice_index_or xs i d)) ≡ None)
      → find p (flat_map f xs) ≡ None
  all_none [] h = refl
  all_none (x ∷ xs) h = piece x xs (h 0 x (omega arith)) ∙ all_none xs
      (λ i d within. h (suc i) d (omega (arith, within)))

  pub skipped : (n : ℕ) (xs : List X) → n ≤ length xs
      → ((i : ℕ) (d : X) → i < n → find p (f (slice_index_or xs i d)) ≡ None) → find p (flat_map f xs) ≡ found_from n xs
  skipped zero xs within h = refl
  skipped (suc n) [] within h = absurd (omega (arith, within))
  skipped (suc n) (x ∷ xs) within h = piece x xs (h 0 x (omega arith)) ∙ skipped n xs (omega (arith, within))
      (λ i d lt. h (suc i) d (omega (arith, lt)))

  pub none_from : (n : ℕ) (xs : List X) → ((i : ℕ) (d : X) → n ≤ i → i < length xs
      → find p (f (slice_index_or xs i d)) ≡ None) → found_from n xs ≡ None
  none_from zero xs h = all_none xs (λ i d within. h i d (omega arith) within)
  none_from (suc n) [] h = refl
  none_from (suc n) (x ∷ xs) h = none_from n xs (λ i d low within. h (suc i) d (omega (arith, low))
      (omega (arith, within)))

  opened : (at : ℕ) (xs : List X) (x : X) → at < length xs → x ≡ get_or xs at x → drop at xs ≡ x ∷ drop (at + 1) xs
  opened at xs x within is = drop-cons xs at x within ∙ ap (λ (y : X). y ∷ drop (suc at) xs) (sym is) ∙ ap
      (λ (n : ℕ). x ∷ drop n xs) (sym (add-one at))

  pub found_next : (at : ℕ) (xs : List X) (x : X) → at < length xs → x ≡ get_or xs at x → find p (f x) ≡ None
      → found_from at xs ≡ found_from (at + 1) xs
  found_next at xs x within is none = ap (λ (ys : List X). find p (flat_map f ys)) (opened at xs x within is) ∙ piece x
      (drop (at + 1) xs) none

  pub found_here : (at : ℕ) (xs : List X) (x : X) (y : Y) → at < length xs → x ≡ get_or xs at x → find p (f x) ≡ Some y
      → found_from at xs ≡ Some y
  found_here at xs x y within is some = ap (λ (ys : List X). find p (flat_map f ys)) (opened at xs x within is) ∙ here x
      (drop (at + 1) xs) y some

-- ---- a type from which nothing that is looked for can be reached

none_passes : {X : Type 0} (p : X → Bool) (xs : List X) → AllByRecursion (λ x. p x ≡ false) xs → find p xs ≡ None
none_passes p [] all = refl
none_passes p (x ∷ xs) all = rw all.0 (none_passes p xs all.1)

module _ (types : List SegDef) (have : HavePlaces 0 types) where
  not_here : (ssas : List Ssa) (type : ℕ) (path : List Step) → leads_on types ssas type ≡ false → IsLine types type path
      → ends_here ssas (end_from type path) ≡ false
  not_here [] type path leads line = absurd (not_both leads)
  not_here (ssa ∷ ssas) type path leads line = by (ends_here (ssa ∷ ssas) (end_from type path)) refl
    where
      by : (b : Bool) → ends_here (ssa ∷ ssas) (end_from type path) ≡ b → b ≡ false
      by true e =
          let same : end_from type path ≡ last_type ssa.segment ssas = grind arith in
          absurd (not_both (sym (subst (λ (n : ℕ). stands_on types (length types) n type ≡ true) same
          (first_stands types have type path line)) ∙ leads))
      by false e = refl

  unwanted : (aim : Search) (type : ℕ) (path : List Step) → leads_on types aim.ssas type ≡ false
      → IsFrom types type path → wants aim path ≡ false
  unwanted aim type [] leads from = absurd from
  unwanted aim type (s ∷ ss) leads from =
      let none : ends_below aim.ssas s.segment ss ≡ false =
      ends_are aim.ssas s.segment ss ∙ not_here aim.ssas s.segment ss (ap (leads_on types aim.ssas) from.0 ∙ leads)
      (subst (λ (t : ℕ). IsLine types t ss) (sym from.0) from.1) in
      rw none (and_false (is_past aim.behind (s ∷ ss) && is_inside aim.within (s ∷ ss)))

  all_unwanted : (aim : Search) (type : ℕ) (os : List Occurrence) → leads_on types aim.ssas type ≡ false
      → AllByRecursion (λ o. IsFrom types type o.path) os → AllByRecursion (λ o. looks_for aim o ≡ false) os
  all_unwanted aim type [] leads all = tt
  all_unwanted aim type (o ∷ os) leads all = (
    unwanted aim type o.path leads all.0,
    all_unwanted aim type os leads all.1,
  )

  pub none_reached : (aim : Search) (type : ℕ) (twins : List Node) → leads_on types aim.ssas type ≡ false
      → find (looks_for aim) (flat_map (λ node. node_order types node type) twins) ≡ None
  none_reached aim type [] leads = refl
  none_reached aim type (n ∷ ns) leads =
      find-append (looks_for aim) (node_order types n type) (flat_map (λ node. node_order types node type) ns)
      ∙ ap (λ (o : Option Occurrence). option_or o (find (looks_for aim)
      (flat_map (λ node. node_order types node type) ns)))
      (none_passes (looks_for aim) (node_order types n type)
      (all_unwanted aim type (node_order types n type) leads (node_from types have n type)))
      ∙ none_reached aim type ns leads

-- ---- the rows of a parent

module _ (types : List SegDef) (test : SegDef → Bool) where
  -- the types at and behind a place that pass
  abbrev pub kinds_from : ℕ → List ℕ
  kinds_from at = numbers_from at test (drop at types)

  module _ (at : ℕ) (def : SegDef) (lt : at < length types) (is : def ≡ get_or types at def) where
    here_and : drop at types ≡ def ∷ drop (at + 1) types
    here_and = drop-cons types at def lt ∙ ap (λ (d : SegDef). d ∷ drop (suc at) types) (sym is) ∙ ap
        (λ (n : ℕ). def ∷ drop n types) (sym (add-one at))

    pub kinds_other : test def ≡ false → kinds_from at ≡ kinds_from (at + 1)
    kinds_other e = ap (λ (ds : List SegDef). numbers_from at test ds) here_and ∙ (rw e refl)

    pub kinds_next : test def ≡ true → kinds_from at ≡ at ∷ kinds_from (at + 1)
    kinds_next e = ap (λ (ds : List SegDef). numbers_from at test ds) here_and ∙ (rw e refl)

  pub kinds_end : (at : ℕ) → length types ≤ at → kinds_from at ≡ []
  kinds_end at past = ap (λ (ds : List SegDef). numbers_from at test ds) (drop_all at types past)

module _ (types : List SegDef) (aim : Search) where
  abbrev pub rows_left : List ℕ → List (List Node) → Option Occurrence
  rows_left kinds rows = find (looks_for aim) (rows_in_order kinds (orders types rows))

  abbrev pub row_of_kind : ℕ → List Node → List Occurrence
  row_of_kind type row = flat_map (λ node. node_order types node type) row

  row_first : (kind : ℕ) (kinds : List ℕ) (row : List Node) (rows : List (List Node))
      → rows_left (kind ∷ kinds) (row ∷ rows) ≡ option_or (find (looks_for aim) (row_of_kind kind row))
      (rows_left kinds rows)
  row_first kind kinds row rows =
      find-append (looks_for aim) (flat_map (λ (child : ℕ → List Occurrence). child kind) (map (node_order types) row))
      (rows_in_order kinds (orders types rows))
      ∙ ap (λ (os : List Occurrence). option_or (find (looks_for aim) os) (rows_left kinds rows))
      (flat_map-map (λ (child : ℕ → List Occurrence). child kind) (node_order types) row)

  -- what is left of the rows and of their types, in shape
  pub record IsLeftOf (all : Option Occurrence) (kinds : List ℕ) (rows : List (List Node)) : Type 0 where
    pub same : all ≡ rows_left kinds rows
    pub shape : are_rows types kinds (seen_rows types rows) ≡ true

  module _ (all : Option Occurrence) (kind : ℕ) (kinds : List ℕ) (row : List Node) (rows : List (List Node))
      (left : IsLeftOf all (kind ∷ kinds) (row ∷ rows)) where
    pub first_shape : is_row types kind (map (seen_as types) row) ≡ true
    first_shape = first_of_both (is_row types kind (map (seen_as types) row)) (are_rows types kinds (seen_rows types rows))
        left.shape

    pub row_next : find (looks_for aim) (row_of_kind kind row) ≡ None → IsLeftOf all kinds rows
    row_next none = record {
      same = left.same ∙ row_first kind kinds row rows ∙ ap
          (λ (o : Option Occurrence). option_or o (rows_left kinds rows)) none;
      shape = second_of_both (is_row types kind (map (seen_as types) row)) (are_rows types kinds (seen_rows types rows))
          left.shape;
    }

    pub row_found : (o : Occurrence) → find (looks_for aim) (row_of_kind kind row) ≡ Some o → all ≡ Some o
    row_found o some = left.same ∙ row_first kind kinds row rows ∙ ap
        (λ (q : Option Occurrence). option_or q (rows_left kinds rows)) some

  pub no_rows : (all : Option Occurrence) (kinds : List ℕ) → IsLeftOf all kinds [] → all ≡ None
  no_rows all [] left = left.same
  no_rows all (kind ∷ kinds) left = left.same

  pub no_kinds : (all : Option Occurrence) (rows : List (List Node)) → IsLeftOf all [] rows → all ≡ None
  no_kinds all rows left = left.same

pub opened_list : {X : Type 0} (at : ℕ) (xs : List X) (x : X) → at < length xs → x ≡ get_or xs at x
    → drop at xs ≡ x ∷ drop (at + 1) xs
opened_list at xs x within is = drop-cons xs at x within ∙ ap (λ (y : _). y ∷ drop (suc at) xs) (sym is) ∙ ap
    (λ (n : ℕ). x ∷ drop n xs) (sym (add-one at))

-- what is left, opened
pub is_left : (types : List SegDef) (aim : Search) (all : Option Occurrence) (kinds more : List ℕ)
    (rows rest : List (List Node)) → kinds ≡ more → rows ≡ rest → IsLeftOf types aim all kinds rows
    → IsLeftOf types aim all more rest
is_left types aim all kinds more rows rest e f left =
    subst (λ (rs : List (List Node)). IsLeftOf types aim all more rs) f
    (subst (λ (ks : List ℕ). IsLeftOf types aim all ks rows) e left)

-- what a search of a row answered
pub row_answer : (types : List SegDef) (aim : Search) (type : ℕ) (row twins : List Node)
    (found : Option (Path × List ℕ)) → twins ≡ row
    → (is_row types type (map (seen_as types) twins) ≡ true
    → option_map occurrence_of found ≡ find (looks_for aim) (flat_map (λ node. node_order types node type) twins))
    → is_row types type (map (seen_as types) row) ≡ true
    → option_map occurrence_of found ≡ find (looks_for aim) (row_of_kind types aim type row)
row_answer types aim type row twins found same answer shape =
    subst (λ (r : List Node). (is_row types type (map (seen_as types) r) ≡ true
    → option_map occurrence_of found ≡ find (looks_for aim) (flat_map (λ node. node_order types node type) r))) same
    answer shape
