-- Edits among twins or roots, at the place of a key.
use Rattle.std.proofs.Common.{◌≡◌, ℕ, zero, suc, ◌+◌, ◌<◌, ◌≤◌, List, [], ◌∷◌, map, length, replicate, drop, get_or, Option, Some, None, Ok, Err, Result, OnErr, OnOk, ◌==◌, Bool, true, false, refl, sym, ap, ◌∙◌, subst, slice_get, slice_set, add-one, arith}
use Rattle.std.specs.Prelude.{find, option_and_then, position, if◌then◌else◌}
use Rattle.std.specs.List.{insert, remove}
use Rattle.std.specs.Option.{option_map_or}
use Rattle.fp_model.specs.declared.database.Node.{Node, out-Node, out-roll-Node, roll-Node}
use Rattle.fp_model.specs.declared.database.Node.TheOpen.{Node-F}
use Rattle.fp_model.specs.declared.database.Node.TheViews.{the_lemmas}
use Rattle.fp_model.specs.declared.database.Root.{Root}
use Rattle.fp_model.specs.declared.database.SeqItem.{SeqItem}
use Rattle.fp_model.specs.declared.definitions.SegDef.{SegDef}
use Rattle.fp_model.specs.Order.{Edit, Inserts, Replaces, Deletes, Step, below_edited, child_types, edited, key_in, new_node, new_root, node_key, nodes_edited, root_key, roots_edited, row_changed}
use Rattle.fp_model.specs.State.{ascend, change_key, drop_key, put_by_key}
use Rattle.fp_model.specs.Texts.{same_text}
use Rattle.fp_model.specs.Shape.{are_rows, is_row, seen_as}
use Rattle.std.proofs.lemmas.Option.{get_or_from_slice_get, slice_get-get_or, none-some, same_Some}
use Rattle.std.proofs.lemmas.List.Quantifiers.{position-Some}
use Rattle.dli_tree.specs.Paths.{step_of, steps_of}
use Rattle.dli_tree.specs.declared.path.Step.{Step as StepOf}
use Rattle.dli_tree.specs.inside.Changes.{IsPlaced, IsWithin, twins_edited}
use Rattle.dli_tree.specs.InOrder.{are_in_order}
use Rattle.dli_tree.specs.Descents.{leads_below, leads_to, twin_of}
use Rattle.dli_tree.specs.declared.place.Place.{Place}
use Rattle.dli_tree.specs.declared.place.Place.TheVariants.{Lacks, Stands}
use Rattle.key_order.proofs.Ascending.{changed_at, changed_none, dropped_at, dropped_none, found_at, found_there, no_same, not_both, put_at, put_behind}
use Rattle.plain_laws.proofs.Truths.{first_of_both, second_of_both}
use Rattle.plain_laws.proofs.Numbers.{number_is}
use Rattle.plain_laws.proofs.Places.{set_same}

-- a place among elements that are these, of a key that is this one
pub placed_in : {X : Type 0} (key : X → List ℕ) (k j : List ℕ) (xs ys : List X) (place : Place) → ys ≡ xs → j ≡ k
    → (ascend (map key ys) ≡ true → IsPlaced key j ys place) → ascend (map key xs) ≡ true → IsPlaced key k xs place
placed_in {X} key k j xs ys place e f h up =
    subst (λ (l : List ℕ). IsPlaced key l xs place) f
    (subst (λ (zs : List X). ascend (map key zs) ≡ true → IsPlaced key j zs place) e h up)

module _ {X : Type 0} (key : X → List ℕ) where
  pub put_stands : (x : X) (xs : List X) (n : ℕ) → ascend (map key xs) ≡ true → IsPlaced key (key x) xs (Stands n)
      → insert xs (n + 1) x ≡ put_by_key key x xs
  put_stands x xs n up p = ap (λ (m : ℕ). insert xs m x) (add-one n) ∙ sym (put_behind key x xs n p.1 up p.0 p.2 p.3)

  pub put_lacks : (x : X) (xs : List X) (n : ℕ) → n ≤ length xs → IsPlaced key (key x) xs (Lacks n)
      → insert xs n x ≡ put_by_key key x xs
  put_lacks x xs n within p = sym (put_at key x xs n p.0 (no_same key (key x) (slice_get xs n) p.1) within)

  some_is : (x y : X) → Some x ≡ Some y → x ≡ y
  some_is x y e = cc

  -- the element that stands there, changed
  pub change_stands : (k : List ℕ) (change : X → X) (xs : List X) (n : ℕ) (x : X) → ascend (map key xs) ≡ true
      → IsPlaced key k xs (Stands n) → slice_get xs n ≡ Some x → slice_set xs n (change x) ≡ change_key key k change xs
  change_stands k change xs n x up p at = ap (λ (y : X). slice_set xs n (change y)) (some_is x p.1 (sym at ∙ p.2)) ∙
      changed_at key k change xs n p.1 up p.0 p.2 p.3

  pub change_lacks : (k : List ℕ) (change : X → X) (xs : List X) (n : ℕ) → ascend (map key xs) ≡ true
      → IsPlaced key k xs (Lacks n) → xs ≡ change_key key k change xs
  change_lacks k change xs n up p = changed_none key k change xs n up p.0 p.1

  pub drop_stands : (k : List ℕ) (xs : List X) (n : ℕ) → ascend (map key xs) ≡ true → IsPlaced key k xs (Stands n)
      → remove xs n ≡ drop_key key k xs
  drop_stands k xs n up p = sym (dropped_at key k xs n p.1 up p.0 p.2 p.3)

  pub drop_lacks : (k : List ℕ) (xs : List X) (n : ℕ) → ascend (map key xs) ≡ true → IsPlaced key k xs (Lacks n)
      → xs ≡ drop_key key k xs
  drop_lacks k xs n up p = sym (dropped_none key k xs n up p.0 (no_same key k (slice_get xs n) p.1))

pub new_node_key : (types : List SegDef) (type : ℕ) (bytes : List ℕ)
    → node_key types type (new_node types type bytes) ≡ key_in types type bytes
new_node_key types type bytes = ap (λ (f : Node-F Node). key_in types type f.bytes)
    (out-roll-Node (record { bytes = bytes; children = replicate (length (child_types types type)) [] }))

-- ---- twins

pub row_end : (types : List SegDef) (edit : Edit) (s : Step) (rest : List StepOf) (twins : List Node)
    → (length rest == 0) ≡ true → nodes_edited types s edit twins ≡ twins_edited types edit s (steps_of rest) twins
row_end types edit s [] twins e = refl
row_end types edit s (t ∷ ts) twins e = absurd (omega (arith, number_is (suc (length ts)) 0 e))

-- the change of one twin, below it
abbrev pub changed_below : List SegDef → Edit → ℕ → List Step → Node → Node
changed_below types edit type path n = roll-Node (record (out-Node n)
    { children = below_edited types edit type path (out-Node n).children })

pub row_goes : (types : List SegDef) (edit : Edit) (s : Step) (rest : List StepOf) (twins : List Node)
    → (length rest == 0) ≡ false → change_key (node_key types s.segment) s.key
    (changed_below types edit s.segment (steps_of rest)) twins ≡ twins_edited types edit s (steps_of rest) twins
row_goes types edit s [] twins e = absurd (not_both e)
row_goes types edit s (t ∷ ts) twins e = refl

rolled : (n : Node) → roll-Node (out-Node n) ≡ n
rolled n = search the_lemmas

-- a twin with the children that it has
pub same_children : (twins : List Node) (i : ℕ) (n : Node) → slice_get twins i ≡ Some n
    → slice_set twins i (roll-Node (record { bytes = (out-Node n).bytes; children = (out-Node n).children })) ≡ twins
same_children twins i n at = ap (λ (m : Node). slice_set twins i m) (rolled n) ∙ set_same twins i n at

pub twin_there : {X : Type 0} (xs : List X) (i : ℕ) (x : X) → slice_get xs i ≡ Some x → x ≡ get_or xs i x
twin_there xs i x at = sym (get_or_from_slice_get xs i x x at)

-- ---- rows

pub first_step : (steps : List StepOf) (s : StepOf) → (length steps == 0) ≡ false → s ≡ get_or steps 0 s
    → steps_of steps ≡ step_of s ∷ steps_of (drop 1 steps)
first_step [] s e is = absurd (not_both e)
first_step (x ∷ xs) s e is = ap (λ (y : StepOf). step_of y ∷ steps_of xs) (sym is)

below_is : (types : List SegDef) (edit : Edit) (parent : ℕ) (s : Step) (rest : List Step) (rows : List (List Node))
    → below_edited types edit parent (s ∷ rest) rows ≡ row_changed types parent s.segment
    (twins_edited types edit s rest) rows
below_is types edit parent s [] rows = refl
below_is types edit parent s (t ∷ ts) rows = refl

abbrev place_of_kind : List SegDef → ℕ → ℕ → Option ℕ
place_of_kind types parent type = position (λ t. t == type) (child_types types parent)

abbrev at_row : List (List Node) → (List Node → List Node) → ℕ → List (List Node)
at_row rows change at = option_map_or (λ row. slice_set rows at (change row)) (slice_get rows at) rows

past_row : (rows : List (List Node)) (at : ℕ) → length rows ≤ at → slice_get rows at ≡ None
past_row [] at past = refl
past_row (r ∷ rs) zero past = absurd (omega (arith, past))
past_row (r ∷ rs) (suc at) past = past_row rs at (omega (arith, past))

module _ (types : List SegDef) (edit : Edit) (parent : ℕ) (steps : List StepOf) (s : StepOf) (rows : List (List Node))
    (some : (length steps == 0) ≡ false) (is : s ≡ get_or steps 0 s) where
  below_steps : below_edited types edit parent (steps_of steps) rows ≡ row_changed types parent s.segment
      (twins_edited types edit (step_of s) (steps_of (drop 1 steps))) rows
  below_steps = ap (λ (ss : List Step). below_edited types edit parent ss rows) (first_step steps s some is) ∙ below_is
      types edit parent (step_of s) (steps_of (drop 1 steps)) rows

  pub rows_none : (o : Option ℕ) → o ≡ place_of_kind types parent s.segment → o ≡ None
      → rows ≡ below_edited types edit parent (steps_of steps) rows
  rows_none o e none = sym (below_steps ∙ ap (λ (q : Option ℕ). option_map_or
      (at_row rows (twins_edited types edit (step_of s) (steps_of (drop 1 steps)))) q rows) (sym e ∙ none))

  pub rows_past : (o : Option ℕ) (at : ℕ) → o ≡ place_of_kind types parent s.segment → o ≡ Some at → length rows ≤ at
      → rows ≡ below_edited types edit parent (steps_of steps) rows
  rows_past o at e there past =
      sym (below_steps ∙ ap (λ (q : Option ℕ). option_map_or
      (at_row rows (twins_edited types edit (step_of s) (steps_of (drop 1 steps)))) q rows) (sym e ∙ there)
      ∙ ap (λ (r : Option (List Node)). option_map_or
      (λ row. slice_set rows at (twins_edited types edit (step_of s) (steps_of (drop 1 steps)) row)) r rows)
      (past_row rows at past))

  pub rows_at : (o : Option ℕ) (at : ℕ) (row : List Node) → o ≡ place_of_kind types parent s.segment → o ≡ Some at
      → slice_get rows at ≡ Some row
      → slice_set rows at (twins_edited types edit (step_of s) (steps_of (drop 1 steps)) row) ≡ below_edited types edit
      parent (steps_of steps) rows
  rows_at o at row e there here =
      sym (below_steps ∙ ap (λ (q : Option ℕ). option_map_or
      (at_row rows (twins_edited types edit (step_of s) (steps_of (drop 1 steps)))) q rows) (sym e ∙ there)
      ∙ ap (λ (r : Option (List Node)). option_map_or
      (λ row. slice_set rows at (twins_edited types edit (step_of s) (steps_of (drop 1 steps)) row)) r rows) here)

kind_at : (type : ℕ) (kinds : List ℕ) (at : ℕ) → position (λ t. t == type) kinds ≡ Some at
    → slice_get kinds at ≡ Some type
kind_at type kinds at e =
    let f = position-Some (λ t. t == type) kinds at 0 e in
    slice_get-get_or kinds at 0 f.0 ∙ ap (λ (n : ℕ). Some n) (number_is (get_or kinds at 0) type f.1)

row_in : (types : List SegDef) (kinds : List ℕ) (rows : List (List Node)) (at type : ℕ) (row : List Node)
    → slice_get kinds at ≡ Some type → slice_get rows at ≡ Some row
    → are_rows types kinds (map (map (seen_as types)) rows) ≡ true → is_row types type (map (seen_as types) row) ≡ true
row_in types [] rows at type row kind there e = absurd (none-some type kind)
row_in types (k ∷ ks) [] at type row kind there e = absurd (none-some row there)
row_in types (k ∷ ks) (r ∷ rs) zero type row kind there e =
    let here = first_of_both (is_row types k (map (seen_as types) r)) (are_rows types ks (map (map (seen_as types)) rs)) e in
    subst (λ (t : ℕ). is_row types t (map (seen_as types) row) ≡ true) (same_Some k type kind)
    (subst (λ (q : List Node). is_row types k (map (seen_as types) q) ≡ true) (same_Some r row there) here)
row_in types (k ∷ ks) (r ∷ rs) (suc at) type row kind there e =
    row_in types ks rs at type row kind there (second_of_both (is_row types k (map (seen_as types) r))
    (are_rows types ks (map (map (seen_as types)) rs)) e)

pub row_shape : (types : List SegDef) (parent type at : ℕ) (o : Option ℕ) (rows : List (List Node)) (row : List Node)
    → o ≡ place_of_kind types parent type → o ≡ Some at → slice_get rows at ≡ Some row
    → are_rows types (child_types types parent) (map (map (seen_as types)) rows) ≡ true
    → is_row types type (map (seen_as types) row) ≡ true
row_shape types parent type at o rows row e there here shape =
    row_in types (child_types types parent) rows at type row
    (kind_at type (child_types types parent) at (sym e ∙ there)) here shape

-- ---- roots

pub anchor_end : (types : List SegDef) (edit : Edit) (s : Step) (rest : List StepOf) (roots : List Root)
    → (length rest == 0) ≡ true → roots_edited types s edit roots ≡ edited types roots (s ∷ steps_of rest) edit
anchor_end types edit s [] roots e = refl
anchor_end types edit s (t ∷ ts) roots e = absurd (omega (arith, number_is (suc (length ts)) 0 e))

-- the change of one root, below it
abbrev pub root_changed : List SegDef → Edit → List Step → Root → Root
root_changed types edit path r = record r { children = below_edited types edit 0 path r.children }

pub anchor_goes : (types : List SegDef) (edit : Edit) (s : Step) (rest : List StepOf) (roots : List Root)
    → (length rest == 0) ≡ false → change_key (root_key types) s.key (root_changed types edit (steps_of rest)) roots ≡
    edited types roots (s ∷ steps_of rest) edit
anchor_goes types edit s [] roots e = absurd (not_both e)
anchor_goes types edit s (t ∷ ts) roots e = refl

pub no_steps : (types : List SegDef) (edit : Edit) (steps : List StepOf) (roots : List Root)
    → (length steps == 0) ≡ true → roots ≡ edited types roots (steps_of steps) edit
no_steps types edit [] roots e = refl
no_steps types edit (t ∷ ts) roots e = absurd (omega (arith, number_is (suc (length ts)) 0 e))

-- ---- what stands

module _ {X : Type 0} (key : X → List ℕ) where
  pub find_stands : (k : List ℕ) (xs : List X) (n : ℕ) (x : X) → ascend (map key xs) ≡ true
      → IsPlaced key k xs (Stands n) → slice_get xs n ≡ Some x → Some x ≡ find (λ y. same_text (key y) k) xs
  find_stands k xs n x up p at = sym (found_there key k xs n x p.0 up at
      (subst (λ (y : X). same_text (key y) k ≡ true) (same_Some p.1 x (sym p.2 ∙ at)) p.3))

  pub find_lacks : (k : List ℕ) (xs : List X) (n : ℕ) → ascend (map key xs) ≡ true → IsPlaced key k xs (Lacks n)
      → None ≡ find (λ y. same_text (key y) k) xs
  find_lacks k xs n up p = sym (found_at key k xs n up p.0 ∙ no_same key k (slice_get xs n) p.1)

abbrev in_row : List SegDef → Step → Option (List Node) → Option Node
in_row types s row = option_and_then (λ r. find (λ n. same_text (node_key types s.segment n) s.key) r) row

abbrev in_kind : List (List Node) → Option ℕ → Option (List Node)
in_kind rows o = option_and_then (λ at. slice_get rows at) o

module _ (types : List SegDef) (parent : ℕ) (s : Step) (rows : List (List Node)) where
  pub twin_no_kind : (o : Option ℕ) → o ≡ place_of_kind types parent s.segment → o ≡ None
      → None ≡ twin_of types parent s rows
  twin_no_kind o e none = sym (ap (λ (q : Option ℕ). in_row types s (in_kind rows q)) (sym e ∙ none))

  pub twin_no_row : (o : Option ℕ) (at : ℕ) → o ≡ place_of_kind types parent s.segment → o ≡ Some at → length rows ≤ at
      → None ≡ twin_of types parent s rows
  twin_no_row o at e there past = sym (ap (λ (q : Option ℕ). in_row types s (in_kind rows q)) (sym e ∙ there) ∙ ap
      (in_row types s) (past_row rows at past))

  pub twin_in_row : (o : Option ℕ) (at : ℕ) (row : List Node) (found : Option Node)
      → o ≡ place_of_kind types parent s.segment → o ≡ Some at → slice_get rows at ≡ Some row
      → found ≡ find (λ n. same_text (node_key types s.segment n) s.key) row
      → found ≡ twin_of types parent s rows
  twin_in_row o at row found e there here is = is ∙ sym
      (ap (λ (q : Option ℕ). in_row types s (in_kind rows q)) (sym e ∙ there) ∙ ap (in_row types s) here)

-- a root of these parts
pub root_made : {Y : Type 0} (f : Root → Y) (bytes : List ℕ) {rows others : List (List Node)} {seqs more : List SeqItem}
    → rows ≡ others → seqs ≡ more → f (record { bytes = bytes; children = rows; seqs = seqs }) ≡ f
    (record { bytes = bytes; children = others; seqs = more })
root_made f bytes {rows} {others} {seqs} {more} e g =
    ap (λ (r : List (List Node)). f (record { bytes = bytes; children = r; seqs = seqs })) e ∙ ap
    (λ (s : List SeqItem). f (record { bytes = bytes; children = others; seqs = s })) g

-- ---- where paths lead

abbrev below_twin : List SegDef → ℕ → List Step → Option Node → Bool
below_twin types type ss o = option_map_or (λ n. leads_below types type ss (out-Node n).children) o false

module _ (types : List SegDef) (parent : ℕ) (steps : List StepOf) (s : StepOf) (rows : List (List Node))
    (some : (length steps == 0) ≡ false) (is : s ≡ get_or steps 0 s) where
  leads_step : leads_below types parent (steps_of steps) rows ≡ below_twin types s.segment (steps_of (drop 1 steps))
      (twin_of types parent (step_of s) rows)
  leads_step = ap (λ (ss : List Step). leads_below types parent ss rows) (first_step steps s some is)

  pub leads_none : (found : Option Node) → found ≡ twin_of types parent (step_of s) rows → found ≡ None
      → false ≡ leads_below types parent (steps_of steps) rows
  leads_none found e none = sym (leads_step ∙ ap (below_twin types s.segment (steps_of (drop 1 steps))) (sym e ∙ none))

  pub leads_on_to : (found : Option Node) (n : Node) (b : Bool) → found ≡ twin_of types parent (step_of s) rows
      → found ≡ Some n → b ≡ leads_below types s.segment (steps_of (drop 1 steps)) (out-Node n).children
      → b ≡ leads_below types parent (steps_of steps) rows
  leads_on_to found n b e here later = later ∙ sym (leads_step ∙ ap
      (below_twin types s.segment (steps_of (drop 1 steps))) (sym e ∙ here))

pub leads_end : (types : List SegDef) (parent : ℕ) (steps : List StepOf) (rows : List (List Node))
    → (length steps == 0) ≡ true → true ≡ leads_below types parent (steps_of steps) rows
leads_end types parent [] rows e = refl
leads_end types parent (t ∷ ts) rows e = absurd (omega (arith, number_is (suc (length ts)) 0 e))

abbrev below_root : List SegDef → List Step → Option Root → Bool
below_root types ss o = option_map_or (λ r. leads_below types 0 ss r.children) o false

module _ (types : List SegDef) (roots : List Root) (steps : List StepOf) (s : StepOf)
    (some : (length steps == 0) ≡ false) (is : s ≡ get_or steps 0 s) where
  root_step : leads_to types roots (steps_of steps) ≡ below_root types (steps_of (drop 1 steps))
      (find (λ r. same_text (root_key types r) s.key) roots)
  root_step = ap (λ (ss : List Step). leads_to types roots ss) (first_step steps s some is)

  pub root_none_leads : None ≡ find (λ r. same_text (root_key types r) s.key) roots
      → false ≡ leads_to types roots (steps_of steps)
  root_none_leads e = sym (root_step ∙ ap (below_root types (steps_of (drop 1 steps))) (sym e))

  pub root_leads : (r : Root) (b : Bool) → Some r ≡ find (λ r. same_text (root_key types r) s.key) roots
      → b ≡ leads_below types 0 (steps_of (drop 1 steps)) r.children → b ≡ leads_to types roots (steps_of steps)
  root_leads r b e later = later ∙ sym (root_step ∙ ap (below_root types (steps_of (drop 1 steps))) (sym e))

pub no_steps_lead : (types : List SegDef) (roots : List Root) (steps : List StepOf) → (length steps == 0) ≡ true
    → false ≡ leads_to types roots (steps_of steps)
no_steps_lead types roots [] e = refl
no_steps_lead types roots (t ∷ ts) e = absurd (omega (arith, number_is (suc (length ts)) 0 e))

-- what was answered of rows that are these, and of steps that are these
pub leads_answer : (types : List SegDef) (parent : ℕ) (steps others : List StepOf) (rows given : List (List Node))
    (b : Bool) → others ≡ steps → given ≡ rows
    → (are_rows types (child_types types parent) (map (map (seen_as types)) given) ≡ true
    → b ≡ leads_below types parent (steps_of others) given)
    → are_rows types (child_types types parent) (map (map (seen_as types)) rows) ≡ true
    → b ≡ leads_below types parent (steps_of steps) rows
leads_answer types parent steps others rows given b e f h =
    subst (λ (xs : List StepOf). (are_rows types (child_types types parent) (map (map (seen_as types)) rows) ≡ true
    → b ≡ leads_below types parent (steps_of xs) rows)) e
    (subst (λ (rs : List (List Node)). (are_rows types (child_types types parent) (map (map (seen_as types)) rs) ≡ true
    → b ≡ leads_below types parent (steps_of others) rs)) f h)

-- ---- the calls

-- the same of types, roots and steps that are these
pub lead_answer : (types more : List SegDef) (roots others : List Root) (steps given : List StepOf) (b : Bool)
    → more ≡ types → others ≡ roots → given ≡ steps
    → (are_in_order more others ≡ true → b ≡ leads_to more others (steps_of given)) → are_in_order types roots ≡ true
    → b ≡ leads_to types roots (steps_of steps)
lead_answer types more roots others steps given b d e f h =
    subst (λ (xs : List StepOf). (are_in_order types roots ≡ true → b ≡ leads_to types roots (steps_of xs))) f
    (subst (λ (rs : List Root). (are_in_order types rs ≡ true → b ≡ leads_to types rs (steps_of given))) e
    (subst (λ (ts : List SegDef). (are_in_order ts others ≡ true → b ≡ leads_to ts others (steps_of given))) d h))

pub edit_answer : (types more : List SegDef) (roots after : List Root) (steps given : List StepOf) (edit : Edit)
    → more ≡ types → given ≡ steps
    → (are_in_order more roots ≡ true → after ≡ edited more roots (steps_of given) edit)
    → are_in_order types roots ≡ true → after ≡ edited types roots (steps_of steps) edit
edit_answer types more roots after steps given edit d f h =
    subst (λ (xs : List StepOf). (are_in_order types roots ≡ true → after ≡ edited types roots (steps_of xs) edit)) f
    (subst (λ (ts : List SegDef). (are_in_order ts roots ≡ true → after ≡ edited ts roots (steps_of given) edit)) d h)
