-- That a path of direct segments leads to a segment exactly where one stands at it, in an anchor in order.
use Rattle.std.proofs.Common.{◌≡◌, ◌≢◌, ℕ, zero, suc, ◌+◌, ◌<◌, ◌≤◌, List, [], ◌∷◌, ◌++◌, map, length, Option, Some, None, Bool, true, false, ◌&&◌, ◌||◌, not, ◌==◌, refl, sym, ap, ◌∙◌, subst, slice_get, arith}
use Rattle.std.specs.Prelude.{find, flat_map, is_some, option_and_then, option_map, position, if◌then◌else◌}
use Rattle.std.specs.List.{AllByRecursion, list_all, list_any, position_from}
use Rattle.std.specs.Option.{option_map_or}
use Rattle.std.proofs.lemmas.Iterator.Adapters.{position_from-zero}
use Rattle.std.proofs.lemmas.List.Quantifiers.{position-Some}
use Rattle.std.proofs.lemmas.Option.{slice_get-get_or, none-some, same_Some}
use Rattle.fp_model.specs.declared.database.Node.{Node, out-Node}
use Rattle.fp_model.specs.declared.database.Root.{Root}
use Rattle.fp_model.specs.declared.database.SeqItem.{SeqItem}
use Rattle.fp_model.specs.declared.definitions.SegDef.{SegDef}
use Rattle.fp_model.specs.Order.{Occurrence, Step, at_end, bytes_at, child_types, dependent, direct, is_child_of, is_sequential, node_key, node_order, numbered, numbers_from, one_down, root_key, root_order, rows_in_order, same_path, same_step, sequence, sequential_type, sequentials, under}
use Rattle.fp_model.specs.Shape.{are_rows, is_root, is_row, seen_as}
use Rattle.fp_model.specs.State.{ascend, is_below}
use Rattle.fp_model.specs.Texts.{same_text}
use Rattle.dli_tree.specs.Descents.{AreDirect, leads_below, leads_to, twin_of}
use Rattle.dli_tree.specs.InOrder.{any_ends, are_in_order}
use Rattle.key_order.proofs.Ascending.{IsAscending, all_above, below_differs, differs_back, not_both, tail_ascends}
use Rattle.dli_tree.proofs.Editing.{row_shape}
use Rattle.dli_tree.proofs.Roots.{all_roots, roots_ascend, shaped}
use Rattle.dli_tree.proofs.Rows.{all_below, all_in_shape, order_is, orders, row_ascends, rows_shape, seen_rows}
use Rattle.plain_laws.proofs.Alls.{all_weaker}
use Rattle.plain_laws.proofs.Truths.{first_of_both, or_false, second_of_both}
use Rattle.plain_laws.proofs.Numbers.{number_is}
use Rattle.model_laws.proofs.Texts.{same_text_is}
use Rattle.model_laws.proofs.Layouts.{sequential_is}

-- ---- whether a path stands among occurrences

abbrev has : List Step → List Occurrence → Bool
has path os = list_any (λ o. same_path o.path path) os

any_is : {X : Type 0} (p : X → Bool) (xs : List X) → is_some (find p xs) ≡ list_any p xs
any_is p [] = refl
any_is {X} p (x ∷ xs) = by (p x) (any_is p xs)
  where
    by : (b : Bool) → is_some (find p xs) ≡ list_any p xs
        → is_some (if b then Some x else find p xs) ≡ (b || list_any p xs)
    by true e = refl
    by false e = e

any_append : {X : Type 0} (p : X → Bool) (xs ys : List X) → list_any p (xs ++ ys) ≡ (list_any p xs || list_any p ys)
any_append p [] ys = refl
any_append p (x ∷ xs) ys = by (p x) (any_append p xs ys)
  where
    by : (b : Bool) → list_any p (xs ++ ys) ≡ (list_any p xs || list_any p ys)
        → (b || list_any p (xs ++ ys)) ≡ ((b || list_any p xs) || list_any p ys)
    by true e = refl
    by false e = e

any_flat : {X Y : Type 0} (p : Y → Bool) (f : X → List Y) (xs : List X)
    → list_any p (flat_map f xs) ≡ list_any (λ x. list_any p (f x)) xs
any_flat p f [] = refl
any_flat p f (x ∷ xs) = any_append p (f x) (flat_map f xs) ∙ ap (λ (b : Bool). list_any p (f x) || b) (any_flat p f xs)

any_alike : {X : Type 0} (p q : X → Bool) (xs : List X) → ((x : X) → p x ≡ q x) → list_any p xs ≡ list_any q xs
any_alike p q [] h = refl
any_alike p q (x ∷ xs) h = rw (h x) (ap (λ (b : Bool). q x || b) (any_alike p q xs h))

none_any : {X : Type 0} (p : X → Bool) (xs : List X) → AllByRecursion (λ x. p x ≡ false) xs → list_any p xs ≡ false
none_any p [] all = refl
none_any p (x ∷ xs) all = rw all.0 (none_any p xs all.1)

has_under : (d p : Step) (ps : List Step) (below : List Occurrence)
    → has (p ∷ ps) (under d below) ≡ (same_step d p && has ps below)
has_under d p ps [] = by (same_step d p)
  where
    by : (b : Bool) → false ≡ (b && false)
    by true = refl
    by false = refl
has_under d p ps (o ∷ os) = ap (λ (b : Bool). (same_step d p && same_path o.path ps) || b) (has_under d p ps os) ∙ by
    (same_step d p) (same_path o.path ps) (has ps os)
  where
    by : (a b c : Bool) → ((a && b) || (a && c)) ≡ (a && (b || c))
    by true b c = refl
    by false b c = refl

-- ---- one of a key among elements whose keys ascend

module _ {X : Type 0} (key : X → List ℕ) (k : List ℕ) (b : X → Bool) where
  others_none : (x : X) (xs : List X) → same_text (key x) k ≡ true
      → AllByRecursion (λ y. is_below (key x) (key y) ≡ true) xs → list_any (λ y. same_text (key y) k && b y) xs ≡ false
  others_none x [] same all = refl
  others_none x (y ∷ ys) same all =
      let other : same_text (key y) k ≡ false = differs_back k (key y)
      (subst (λ (j : List ℕ). same_text j (key y) ≡ false) (same_text_is (key x) k same)
      (below_differs (key x) (key y) all.0)) in
      rw other (others_none x ys same all.1)

  pub any_one : (xs : List X) → IsAscending key xs → list_any (λ y. same_text (key y) k && b y) xs ≡ option_map_or b
      (find (λ y. same_text (key y) k) xs) false
  any_one [] up = refl
  any_one (x ∷ xs) up = by (same_text (key x) k) refl (any_one xs (tail_ascends key x xs up))
    where
      or_false : (c : Bool) → (c || false) ≡ c
      or_false true = refl
      or_false false = refl

      by : (t : Bool) → same_text (key x) k ≡ t → list_any (λ y. same_text (key y) k && b y) xs ≡ option_map_or b
          (find (λ y. same_text (key y) k) xs) false
          → ((t && b x) || list_any (λ y. same_text (key y) k && b y) xs) ≡ option_map_or b
          (if t then Some x else find (λ y. same_text (key y) k) xs) false
      by true e later = rw (others_none x xs e (all_above key x xs up)) (or_false (b x))
      by false e later = later

-- ---- a step of a direct segment

step_is : (type : ℕ) (key : List ℕ) (q : Step) → q.serial ≡ 0 → (type == q.segment) ≡ true
    → same_step (direct type key) q ≡ same_text key q.key
step_is type key q zero_is kind = rw (kind, zero_is) (by (same_text key q.key))
  where
    by : (b : Bool) → (b && true) ≡ b
    by true = refl
    by false = refl

step_not : (type : ℕ) (key : List ℕ) (q : Step) → (type == q.segment) ≡ false → same_step (direct type key) q ≡ false
step_not type key q kind = rw kind refl

-- ---- rows

module _ (types : List SegDef) where
  -- what stands at a path below a node: the node itself, or something below it
  abbrev below_has : ℕ → List Step → Node → Bool
  below_has type ps n = has ps (all_below types type n)

  node_has : (type : ℕ) (n : Node) (p : Step) (ps : List Step)
      → has (p ∷ ps) (node_order types n type) ≡ (same_step (direct type (node_key types type n)) p && below_has type ps
      n)
  node_has type n p ps = ap (has (p ∷ ps)) (order_is types type n) ∙ has_under (direct type (node_key types type n)) p
      ps (all_below types type n)

  row_has : (type : ℕ) (row : List Node) (p : Step) (ps : List Step)
      → has (p ∷ ps) (flat_map (λ (child : ℕ → List Occurrence). child type) (map (node_order types) row)) ≡ list_any
      (λ n. same_step (direct type (node_key types type n)) p && below_has type ps n) row
  row_has type [] p ps = refl
  row_has type (n ∷ ns) p ps =
      any_append (λ o. same_path o.path (p ∷ ps)) (node_order types n type)
      (flat_map (λ (child : ℕ → List Occurrence). child type) (map (node_order types) ns))
      ∙ ap (λ (b : Bool). b || has (p ∷ ps) (flat_map (λ (child : ℕ → List Occurrence). child type)
      (map (node_order types) ns))) (node_has type n p ps)
      ∙ ap (λ (b : Bool). (same_step (direct type (node_key types type n)) p && below_has type ps n) || b)
      (row_has type ns p ps)

  row_other : (type : ℕ) (row : List Node) (p : Step) (ps : List Step) → (type == p.segment) ≡ false
      → has (p ∷ ps) (flat_map (λ (child : ℕ → List Occurrence). child type) (map (node_order types) row)) ≡ false
  row_other type row p ps other = row_has type row p ps ∙ none row
    where
      none : (r : List Node) → list_any (λ n. same_step (direct type (node_key types type n)) p && below_has type ps n)
          r ≡ false
      none [] = refl
      none (n ∷ ns) = rw (step_not type (node_key types type n) p other) (none ns)

  row_same : (type : ℕ) (row : List Node) (p : Step) (ps : List Step) → (type == p.segment) ≡ true → p.serial ≡ 0
      → is_row types type (map (seen_as types) row) ≡ true
      → has (p ∷ ps) (flat_map (λ (child : ℕ → List Occurrence). child type) (map (node_order types) row)) ≡
      option_map_or (below_has type ps) (find (λ n. same_text (node_key types type n) p.key) row) false
  row_same type row p ps same serial good =
      row_has type row p ps
      ∙ any_alike (λ n. same_step (direct type (node_key types type n)) p && below_has type ps n)
      (λ n. same_text (node_key types type n) p.key && below_has type ps n) row
      (λ n. ap (λ (b : Bool). b && below_has type ps n) (step_is type (node_key types type n) p serial same))
      ∙ any_one (node_key types type) p.key (below_has type ps) row (row_ascends types type row good)

  -- types behind the one that is wanted
  abbrev AreAbove : ℕ → List ℕ → Type 0
  AreAbove type kinds = AllByRecursion (λ k. type < k) kinds

  rows_none : (kinds : List ℕ) (rows : List (List Node)) (p : Step) (ps : List Step)
      → AllByRecursion (λ k. (k == p.segment) ≡ false) kinds
      → has (p ∷ ps) (rows_in_order kinds (orders types rows)) ≡ false
  rows_none [] rows p ps all = refl
  rows_none (k ∷ ks) [] p ps all = refl
  rows_none (k ∷ ks) (r ∷ rs) p ps all =
      any_append (λ o. same_path o.path (p ∷ ps)) (flat_map (λ (child : ℕ → List Occurrence). child k)
      (map (node_order types) r)) (rows_in_order ks (orders types rs))
      ∙ ap (λ (b : Bool). b || has (p ∷ ps) (rows_in_order ks (orders types rs))) (row_other k r p ps all.0) ∙ rows_none
      ks rs p ps all.1

-- ---- the place of a type among the children of another

next_from : (t : ℕ → Bool) (n : ℕ) (xs : List ℕ) → position_from t (n + 1) xs ≡ option_map suc (position_from t n xs)
next_from t n [] = refl
next_from t n (x ∷ xs) = by (t x) (next_from t (n + 1) xs)
  where
    by : (b : Bool) → position_from t (n + 1 + 1) xs ≡ option_map suc (position_from t (n + 1) xs)
        → (if b then Some (n + 1) else position_from t (n + 1 + 1) xs) ≡ option_map suc
        (if b then Some n else position_from t (n + 1) xs)
    by true e = ap (λ (m : ℕ). Some m) (omega arith)
    by false e = e

position_here : (t : ℕ → Bool) (x : ℕ) (xs : List ℕ) → t x ≡ true → position t (x ∷ xs) ≡ Some 0
position_here t x xs e = position_from-zero t (x ∷ xs) ∙ (rw e refl)

position_later : (t : ℕ → Bool) (x : ℕ) (xs : List ℕ) → t x ≡ false
    → position t (x ∷ xs) ≡ option_map suc (position t xs)
position_later t x xs e = position_from-zero t (x ∷ xs) ∙ (rw e (next_from t 0 xs)) ∙ ap (option_map suc)
    (sym (position_from-zero t xs))

-- each is greater than those before
abbrev IsRising : List ℕ → Type 0
IsRising [] = Unit {0}
IsRising (k ∷ ks) = AllByRecursion (λ j. k < j) ks × IsRising ks

numbers_high : (test : SegDef → Bool) (at : ℕ) (defs : List SegDef)
    → AllByRecursion (λ k. at ≤ k) (numbers_from at test defs)
numbers_high test at [] = tt
numbers_high test at (d ∷ ds) = by (test d) (all_weaker (λ k. at + 1 ≤ k) (λ k. at ≤ k) (numbers_from (at + 1) test ds)
    (λ k le. omega (arith, le)) (numbers_high test (at + 1) ds))
  where
    by : (b : Bool) → AllByRecursion (λ k. at ≤ k) (numbers_from (at + 1) test ds)
        → AllByRecursion (λ k. at ≤ k) (if b then at ∷ numbers_from (at + 1) test ds else numbers_from (at + 1) test ds)
    by true later = (omega arith, later)
    by false later = later

numbers_rise : (test : SegDef → Bool) (at : ℕ) (defs : List SegDef) → IsRising (numbers_from at test defs)
numbers_rise test at [] = tt
numbers_rise test at (d ∷ ds) = by (test d) (all_weaker (λ k. at + 1 ≤ k) (λ k. at < k) (numbers_from (at + 1) test ds)
    (λ k le. omega (arith, le)) (numbers_high test (at + 1) ds)) (numbers_rise test (at + 1) ds)
  where
    by : (b : Bool) → AllByRecursion (λ k. at < k) (numbers_from (at + 1) test ds)
        → IsRising (numbers_from (at + 1) test ds) → IsRising
        (if b then at ∷ numbers_from (at + 1) test ds else numbers_from (at + 1) test ds)
    by true above later = (above, later)
    by false above later = later

module _ (types : List SegDef) (q : Step) (qs : List Step) (serial : q.serial ≡ 0) where
  abbrev kind_is : ℕ → Bool
  kind_is t = t == q.segment

  abbrev in_row : Option (List Node) → Option Node
  in_row row = option_and_then (λ r. find (λ n. same_text (node_key types q.segment n) q.key) r) row

  abbrev stands_in_rows : List (List Node) → Option ℕ → Bool
  stands_in_rows rows o = option_map_or (below_has types q.segment qs)
      (in_row (option_and_then (λ at. slice_get rows at) o)) false

  shift : (r : List Node) (rs : List (List Node)) (o : Option ℕ)
      → stands_in_rows (r ∷ rs) (option_map suc o) ≡ stands_in_rows rs o
  shift r rs None = refl
  shift r rs (Some n) = refl

  rows_has : (kinds : List ℕ) (rows : List (List Node)) → IsRising kinds
      → are_rows types kinds (seen_rows types rows) ≡ true
      → has (q ∷ qs) (rows_in_order kinds (orders types rows)) ≡ stands_in_rows rows (position kind_is kinds)
  rows_has [] rows rise shape = sym (ap (stands_in_rows rows) (position_from-zero kind_is []))
  rows_has (k ∷ ks) [] rise shape = absurd (not_both (sym shape))
  rows_has (k ∷ ks) (r ∷ rs) rise shape =
      any_append (λ o. same_path o.path (q ∷ qs)) (flat_map (λ (child : ℕ → List Occurrence). child k)
      (map (node_order types) r)) (rows_in_order ks (orders types rs))
      ∙ by (k == q.segment) refl (rows_has ks rs rise.1
      (second_of_both (is_row types k (map (seen_as types) r)) (are_rows types ks (seen_rows types rs)) shape))
    where
      good : is_row types k (map (seen_as types) r) ≡ true
      good = first_of_both (is_row types k (map (seen_as types) r)) (are_rows types ks (seen_rows types rs)) shape

      by : (b : Bool) → (k == q.segment) ≡ b → has (q ∷ qs) (rows_in_order ks (orders types rs)) ≡ stands_in_rows rs
          (position kind_is ks)
          → (has (q ∷ qs) (flat_map (λ (child : ℕ → List Occurrence). child k) (map (node_order types) r)) || has
          (q ∷ qs) (rows_in_order ks (orders types rs))) ≡ stands_in_rows (r ∷ rs) (position kind_is (k ∷ ks))
      by true e later =
          let kind : k ≡ q.segment = number_is k q.segment e in
          let rest = rows_none types ks rs q qs (all_weaker (λ j. k < j) (λ j. (j == q.segment) ≡ false) ks
          (λ j lt. let ne : j ≢ q.segment = omega (arith, lt, kind) in grind arith) rise.0) in
          ap (λ (c : Bool). c || has (q ∷ qs) (rows_in_order ks (orders types rs)))
          (row_same types k r q qs e serial good)
          ∙ ap (λ (c : Bool). option_map_or (below_has types k qs) (find (λ n. same_text (node_key types k n) q.key) r)
          false || c) rest
          ∙ or_false (option_map_or (below_has types k qs) (find (λ n. same_text (node_key types k n) q.key) r) false)
          ∙ ap (λ (t : ℕ). option_map_or (below_has types t qs) (find (λ n. same_text (node_key types t n) q.key) r)
          false) kind
          ∙ sym (ap (stands_in_rows (r ∷ rs)) (position_here kind_is k ks e))
      by false e later =
          ap (λ (c : Bool). c || has (q ∷ qs) (rows_in_order ks (orders types rs))) (row_other types k r q qs e)
          ∙ later ∙ sym (ap (stands_in_rows (r ∷ rs)) (position_later kind_is k ks e) ∙ shift r rs
          (position kind_is ks))

-- ---- what is found is in shape

found_has : {X : Type 0} (P : X → Type 0) (p : X → Bool) (xs : List X) (x : X) → AllByRecursion P xs
    → find p xs ≡ Some x → P x
found_has P p [] x all e = absurd (none-some x e)
found_has {X} P p (y ∷ ys) x all e = by (p y) e (λ f. found_has P p ys x all.1 f)
  where
    by : (b : Bool) → (if b then Some y else find p ys) ≡ Some x → (find p ys ≡ Some x → P x) → P x
    by true e later = subst P (same_Some y x e) all.0
    by false e later = later e

alike_at : {X : Type 0} (f g : X → Bool) (o : Option X) → ((x : X) → o ≡ Some x → f x ≡ g x)
    → option_map_or f o false ≡ option_map_or g o false
alike_at f g None h = refl
alike_at f g (Some x) h = h x refl

twin_good : (types : List SegDef) (parent : ℕ) (q : Step) (rows : List (List Node)) (n : Node)
    → are_rows types (child_types types parent) (seen_rows types rows) ≡ true → twin_of types parent q rows ≡ Some n
    → are_rows types (child_types types q.segment) (seen_rows types (out-Node n).children) ≡ true
twin_good types parent q rows n shape e = by (position (λ t. t == q.segment) (child_types types parent)) refl e
  where
    row_by : (at : ℕ) → position (λ t. t == q.segment) (child_types types parent) ≡ Some at → (row : Option (List Node))
        → slice_get rows at ≡ row → option_and_then (λ r. find (λ m. same_text (node_key types q.segment m) q.key) r)
        row ≡ Some n
        → are_rows types (child_types types q.segment) (seen_rows types (out-Node n).children) ≡ true
    row_by at is None there f = absurd (none-some n f)
    row_by at is (Some row) there f =
        let good = row_shape types parent q.segment at (Some at) rows row (sym is) refl there shape in
        rows_shape types q.segment n (found_has (λ m. (seen_as types m q.segment).in_shape ≡ true)
        (λ m. same_text (node_key types q.segment m) q.key) row n (all_in_shape types q.segment row good) f)

    by : (o : Option ℕ) → position (λ t. t == q.segment) (child_types types parent) ≡ o
        → option_and_then (λ r. find (λ m. same_text (node_key types q.segment m) q.key) r)
        (option_and_then (λ at. slice_get rows at) o) ≡ Some n
        → are_rows types (child_types types q.segment) (seen_rows types (out-Node n).children) ≡ true
    by None is f = absurd (none-some n f)
    by (Some at) is f = row_by at is (slice_get rows at) refl f

-- ---- paths below a parent

below_leads : (types : List SegDef) (parent : ℕ) (q : Step) (qs : List Step) (rows : List (List Node)) → q.serial ≡ 0
    → AllByRecursion (λ s. s.serial ≡ 0) qs → are_rows types (child_types types parent) (seen_rows types rows) ≡ true
    → has (q ∷ qs) (rows_in_order (child_types types parent) (orders types rows)) ≡ leads_below types parent (q ∷ qs)
    rows
below_leads types parent q [] rows serial more shape =
    rows_has types q [] serial (child_types types parent) rows
    (numbers_rise (λ def. is_child_of parent def && not def.sequential) 0 types) shape
below_leads types parent q (t ∷ ts) rows serial more shape =
    rows_has types q (t ∷ ts) serial (child_types types parent) rows
    (numbers_rise (λ def. is_child_of parent def && not def.sequential) 0 types) shape
    ∙ alike_at (below_has types q.segment (t ∷ ts)) (λ n. leads_below types q.segment (t ∷ ts) (out-Node n).children)
    (twin_of types parent q rows)
    (λ n e. below_leads types q.segment t ts (out-Node n).children more.0 more.1
    (twin_good types parent q rows n shape e))

-- ---- paths from the roots

seqs_have_not : (types : List SegDef) (items : List SeqItem) (q : Step) (qs : List Step)
    → is_sequential types q.segment ≡ false → has (q ∷ qs) (sequentials types items) ≡ false
seqs_have_not types items q qs direct_is = by (sequential_type types) refl
  where
    each : (type : ℕ) → (type == q.segment) ≡ false → (xs : List SeqItem)
        → has (q ∷ qs) (map (dependent type) xs) ≡ false
    each type other [] = refl
    each type other (x ∷ xs) = rw other (each type other xs)

    differs : (type : ℕ) → sequential_type types ≡ Some type → (b : Bool) → (type == q.segment) ≡ b → b ≡ false
    differs type e true is = absurd (not_both (sym (sequential_is types type e) ∙ ap (is_sequential types)
        (number_is type q.segment is) ∙ direct_is))
    differs type e false is = refl

    by : (o : Option ℕ) → sequential_type types ≡ o
        → has (q ∷ qs) (option_map_or (λ type. map (dependent type) items) o []) ≡ false
    by None e = refl
    by (Some type) e = each type (differs type e (type == q.segment) refl) items

module _ (types : List SegDef) where
  abbrev root_all : Root → List Occurrence
  root_all r = at_end r.bytes ∷ sequentials types r.seqs ++ rows_in_order (child_types types 0)
      (orders types r.children)

  sequence_has : (roots : List Root) (p : Step) (ps : List Step)
      → has (p ∷ ps) (sequence types roots) ≡ list_any
      (λ r. same_step (direct 0 (root_key types r)) p && has ps (root_all r)) roots
  sequence_has roots p ps = any_flat (λ o. same_path o.path (p ∷ ps)) (root_order types) roots ∙ any_alike
      (λ r. has (p ∷ ps) (root_order types r)) (λ r. same_step (direct 0 (root_key types r)) p && has ps (root_all r))
      roots (λ r. has_under (direct 0 (root_key types r)) p ps (root_all r))

  root_has : (r : Root) (ps : List Step) → AllByRecursion (λ s. s.serial ≡ 0) ps
      → AllByRecursion (λ s. is_sequential types s.segment ≡ false) ps
      → are_rows types (child_types types 0) (seen_rows types r.children) ≡ true
      → has ps (root_all r) ≡ leads_below types 0 ps r.children
  root_has r [] serials direct_are shape = refl
  root_has r (q ∷ qs) serials direct_are shape =
      any_append (λ o. same_path o.path (q ∷ qs)) (sequentials types r.seqs)
      (rows_in_order (child_types types 0) (orders types r.children))
      ∙ ap (λ (b : Bool). b || has (q ∷ qs) (rows_in_order (child_types types 0) (orders types r.children)))
      (seqs_have_not types r.seqs q qs direct_are.0)
      ∙ below_leads types 0 q qs r.children serials.0 serials.1 shape

  some_bytes : (o : Option Occurrence) → is_some (option_map_or (λ (s : Occurrence). Some s.bytes) o None) ≡ is_some o
  some_bytes None = refl
  some_bytes (Some s) = refl

  pub leads_is : (roots : List Root) (path : List Step) → are_in_order types roots ≡ true → AreDirect types path
      → leads_to types roots path ≡ is_some (bytes_at types roots path)
  leads_is roots [] order fits = absurd fits
  leads_is roots (p ∷ ps) order fits =
      sym (some_bytes (find (λ s. same_path s.path (p ∷ ps)) (sequence types roots)) ∙ any_is
      (λ s. same_path s.path (p ∷ ps)) (sequence types roots) ∙ sequence_has roots p ps
      ∙ any_alike (λ r. same_step (direct 0 (root_key types r)) p && has ps (root_all r))
      (λ r. same_text (root_key types r) p.key && has ps (root_all r)) roots
      (λ r. ap (λ (b : Bool). b && has ps (root_all r))
      (step_is 0 (root_key types r) p fits.1.0 (subst (λ (t : ℕ). (0 == t) ≡ true) (sym fits.0) refl)))
      ∙ any_one (root_key types) p.key (λ r. has ps (root_all r)) roots (roots_ascend types roots order)
      ∙ alike_at (λ r. has ps (root_all r)) (λ r. leads_below types 0 ps r.children)
      (find (λ r. same_text (root_key types r) p.key) roots)
      (λ r e. root_has r ps fits.1.1 fits.2.1 (shaped types r
      (found_has (λ x. is_root types any_ends x ≡ true) (λ x. same_text (root_key types x) p.key) roots r
      (all_roots types roots order) e)).rows))
