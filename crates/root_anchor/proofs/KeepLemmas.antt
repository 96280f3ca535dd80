-- A plan for segments that have the types and keys of those that stand: each has the element that it had.
use Rattle.std.proofs.Common.{Ordering, Equal, ◌≡◌, ◌≢◌, ℕ, zero, suc, ◌+◌, ◌-◌, ◌<◌, ◌≤◌, inl, inr, List, [], ◌∷◌, ◌++◌, length, get_or, take, map, flat_map, All, Some, refl, sym, ap, ◌∙◌, subst, append_assoc, arith}
use Rattle.std.specs.List.{AllByRecursion}
use Rattle.std.proofs.Math.Seq.{take-suc}
use Rattle.std.proofs.lemmas.List.{append-nil, map-append, length-append}
use Rattle.std.proofs.lemmas.List.Elements.{All-from_get_or, All-from_recursion, recursion_from_All}
use Rattle.std.proofs.lemmas.Grind.{flat_map-append}
use Rattle.std.proofs.lemmas.Cmp.{nat_list_cmp_total, tied_itself}
use Rattle.std.specs.Ordering.{nat_cmp}
use Rattle.std.specs.Cmp.Lexicographic.{slice_cmp}
use Rattle.fp_model.specs.declared.definitions.SegDef.{SegDef}
use Rattle.fp_model.specs.declared.database.Node.{Node, out-Node, map-Node, roll-Node}
use Rattle.fp_model.specs.declared.database.Node.TheFolds.{fold_out-Node, fold-roll-Node, ind-Node}
use Rattle.fp_model.specs.declared.database.Node.TheOpen.{Node-F}
use Rattle.fp_model.specs.declared.database.Root.{Root}
use Rattle.fp_model.specs.Order.{child_types}
use Rattle.fp_model.specs.WellFormed.{HavePlaces}
use Rattle.root_anchor.specs.declared.plan.Planned.{Planned}
use Rattle.root_anchor.specs.declared.standing.Standing.{Standing}
use Rattle.root_anchor.specs.Keeping.{keys_below, keys_in_rows, keys_of_rows, keys_of_roots, keys_of_segment, keys_step}
use Rattle.root_anchor.specs.inside.Keeping.{IsLastOf, IsPlanning, PlansAll, kept, keys_of_row, marks_of}
use Rattle.root_anchor.proofs.TypeLemmas.{child-behind}
use Rattle.plain_laws.proofs.Numbers.{same_or_other}

-- ---- the keys in one more segment or row

keys-below : (types : List SegDef) (type : ℕ) (node : Node)
    → keys_below types node type ≡ keys_of_segment types type (out-Node node).bytes (out-Node node).children
keys-below types type node = ap (λ (f : ℕ → List (ℕ × List ℕ)). f type)
    (fold_out-Node (ℕ → List (ℕ × List ℕ)) (keys_step types) node)

one_key : (types : List SegDef) (type : ℕ) (node : Node)
    → keys_of_row types type (node ∷ []) ≡ keys_of_segment types type (out-Node node).bytes (out-Node node).children
one_key types type node = append-nil (keys_below types node type) ∙ keys-below types type node

pub row-keys : (types : List SegDef) (type : ℕ) (row : List Node) (k : ℕ) (node : Node) → k < length row
    → node ≡ get_or row k node
    → keys_of_row types type (take (suc k) row) ≡ keys_of_row types type (take k row) ++ keys_of_segment types type
    (out-Node node).bytes (out-Node node).children
row-keys types type row k node b e =
    let t : take (suc k) row ≡ take k row ++ node ∷ [] =
    take-suc row k node b ∙ ap (λ n. take k row ++ n ∷ []) (sym e) in
    ap (λ (r : List Node). keys_of_row types type r) t
    ∙ ap (λ (r : List (ℕ → List (ℕ × List ℕ))). flat_map (λ node. node type) r)
    (map-append (keys_below types) (take k row) (node ∷ []))
    ∙ flat_map-append (λ (node : ℕ → List (ℕ × List ℕ)). node type) (map (keys_below types) (take k row))
    (map (keys_below types) (node ∷ []))
    ∙ ap (λ xs. keys_of_row types type (take k row) ++ xs) (one_key types type node)

pub in_rows_none : (kinds : List ℕ) → keys_in_rows kinds [] ≡ []
in_rows_none [] = refl
in_rows_none (k ∷ kinds) = refl

pub rows-keys : (types : List SegDef) (kinds : List ℕ) (rows : List (List Node)) (k : ℕ) (row : List Node)
    → length rows ≡ length kinds → k < length rows → row ≡ get_or rows k row
    → keys_of_rows types (take (suc k) kinds) (take (suc k) rows) ≡ keys_of_rows types (take k kinds) (take k rows) ++
    keys_of_row types (get_or kinds k 0) row
rows-keys types kinds [] k row l b e = absurd (omega (arith, b))
rows-keys types [] (r ∷ rows) k row l b e = absurd (omega (arith, l))
rows-keys types (t ∷ kinds) (r ∷ rows) zero row l b e =
    ap (λ xs. keys_of_row types t r ++ xs) (in_rows_none (take 0 kinds)) ∙ append-nil (keys_of_row types t r) ∙ ap
    (λ x. keys_of_row types t x) (sym e)
rows-keys types (t ∷ kinds) (r ∷ rows) (suc k) row l b e =
    ap (λ xs. keys_of_row types t r ++ xs) (rows-keys types kinds rows k row (omega (arith, l)) (omega (arith, b)) e)
    ∙ sym (append_assoc (keys_of_row types t r) (keys_of_rows types (take k kinds) (take k rows))
    (keys_of_row types (get_or kinds k 0) row))

pub roots-keys : (types : List SegDef) (roots : List Root) (k : ℕ) (root : Root) → k < length roots
    → root ≡ get_or roots k root
    → keys_of_roots types (take (suc k) roots) ≡ keys_of_roots types (take k roots) ++ keys_of_segment types 0
    root.bytes root.children
roots-keys types roots k root b e =
    let t : take (suc k) roots ≡ take k roots ++ root ∷ [] =
    take-suc roots k root b ∙ ap (λ n. take k roots ++ n ∷ []) (sym e) in
    ap (λ (r : List Root). keys_of_roots types r) t
    ∙ flat_map-append (λ (root : Root). keys_of_segment types 0 root.bytes root.children) (take k roots) (root ∷ [])
    ∙ ap (λ xs. keys_of_roots types (take k roots) ++ xs) (append-nil (keys_of_segment types 0 root.bytes root.children))

-- ---- the types below a segment are others

module _ (types : List SegDef) (places : HavePlaces 0 types) where
  abbrev AreBehind : ℕ → List (ℕ × List ℕ) → Type 0
  AreBehind bound marks = AllByRecursion (λ m. bound < m.0) marks

  both_behind : (bound : ℕ) (xs ys : List (ℕ × List ℕ)) → AreBehind bound xs → AreBehind bound ys
      → AreBehind bound (xs ++ ys)
  both_behind bound [] ys a b = b
  both_behind bound (x ∷ xs) ys a b = (a.0, both_behind bound xs ys a.1 b)

  abbrev KindsBehind : ℕ → List ℕ → Type 0
  KindsBehind bound kinds = AllByRecursion (λ k. bound < k) kinds

  lower_kinds : (bound type : ℕ) → bound < type → (kinds : List ℕ) → KindsBehind type kinds → KindsBehind bound kinds
  lower_kinds bound type l [] a = tt
  lower_kinds bound type l (k ∷ kinds) a = (omega (arith, l, a.0), lower_kinds bound type l kinds a.1)

  children_behind : (type : ℕ) → KindsBehind type (child_types types type)
  children_behind type = recursion_from_All (λ k. type < k) (child_types types type)
      (All-from_get_or (λ k. type < k) (child_types types type) 0 (λ k l. child-behind types type k places l))

  abbrev BelowBehind : Node → Type 0
  BelowBehind n = (bound type : ℕ) → bound < type → AreBehind bound (keys_below types n type)

  row_behind : (bound type : ℕ) → bound < type → (row : List Node) → AllByRecursion BelowBehind row
      → AreBehind bound (keys_of_row types type row)
  row_behind bound type l [] all = tt
  row_behind bound type l (n ∷ row) all = both_behind bound (keys_below types n type) (keys_of_row types type row)
      (all.0 bound type l) (row_behind bound type l row all.1)

  rows_behind : (bound : ℕ) (kinds : List ℕ) → KindsBehind bound kinds → (rows : List (List Node))
      → AllByRecursion (λ row. AllByRecursion BelowBehind row) rows → AreBehind bound (keys_of_rows types kinds rows)
  rows_behind bound [] d rows all = tt
  rows_behind bound (k ∷ kinds) d [] all = tt
  rows_behind bound (k ∷ kinds) d (row ∷ rows) all = both_behind bound (keys_of_row types k row)
      (keys_of_rows types kinds rows) (row_behind bound k d.0 row all.0) (rows_behind bound kinds d.1 rows all.1)

  nodes_of : (row : List ((n : Node) × BelowBehind n)) → AllByRecursion BelowBehind (map (λ e. e.0) row)
  nodes_of [] = tt
  nodes_of (n ∷ row) = (n.1, nodes_of row)

  rows_of : (rows : List (List ((n : Node) × BelowBehind n)))
      → AllByRecursion (λ row. AllByRecursion BelowBehind row) (map (map (λ e. e.0)) rows)
  rows_of [] = tt
  rows_of (row ∷ rows) = (nodes_of row, rows_of rows)

  rolled_behind : (y : Node-F ((n : Node) × BelowBehind n)) → BelowBehind (roll-Node (map-Node _ _ (λ e. e.0) y))
  rolled_behind y bound type l =
      let f : Node-F Node = map-Node _ _ (λ e. e.0) y in
      let rows : List (List Node) = map (map (λ e. e.0)) y.children in
      let e : keys_below types (roll-Node f) type ≡ keys_of_segment types type y.bytes rows =
      ap (λ (s : ℕ → List (ℕ × List ℕ)). s type) (fold-roll-Node (ℕ → List (ℕ × List ℕ)) (keys_step types) f) in
      subst (AreBehind bound) (sym e) (
        l,
        rows_behind bound (child_types types type)
            (lower_kinds bound type l (child_types types type) (children_behind type)) rows (rows_of y.children),
      )

  node_behind : (n : Node) → BelowBehind n
  node_behind = ind-Node BelowBehind (λ x y is. subst (λ (z : Node-F Node). BelowBehind (roll-Node z)) is
      (rolled_behind y))

  each_behind : (row : List Node) → AllByRecursion BelowBehind row
  each_behind [] = tt
  each_behind (n ∷ row) = (node_behind n, each_behind row)

  all_behind : (rows : List (List Node)) → AllByRecursion (λ row. AllByRecursion BelowBehind row) rows
  all_behind [] = tt
  all_behind (row ∷ rows) = (each_behind row, all_behind rows)

  other_types : (type : ℕ) (below : List Standing) → AreBehind type (marks_of below)
      → AllByRecursion (λ (s : Standing). s.segment ≢ type) below
  other_types type [] a = tt
  other_types type (s ∷ below) a = ((λ e. omega (arith, a.0, e)), other_types type below a.1)

  -- elements of the segments below one of a type have other types
  pub others-below : (type : ℕ) (rows : List (List Node)) (below : List Standing)
      → marks_of below ≡ keys_of_rows types (child_types types type) rows
      → All (λ (s : Standing). s.segment ≢ type) below
  others-below type rows below e = All-from_recursion (λ (s : Standing). s.segment ≢ type) below
      (other_types type below (subst (AreBehind type) (sym e)
      (rows_behind type (child_types types type) (children_behind type) rows (all_behind rows))))

-- ---- the last element of a type

at_front : (before : List Standing) (one : Standing) (below : List Standing) (d : Standing)
    → get_or (before ++ one ∷ below) (length before) d ≡ one
at_front [] one below d = refl
at_front (b ∷ before) one below d = at_front before one below d

behind_or : (before : List Standing) (one : Standing) (below : List Standing) (j n : ℕ) (d : Standing)
    → j ≡ length before + 1 + n → get_or (before ++ one ∷ below) j d ≡ get_or below n d
behind_or [] one below zero n d e = absurd (omega (arith, e))
behind_or [] one below (suc j) n d e = ap (λ k. get_or below k d) (omega (arith, e))
behind_or (b ∷ before) one below zero n d e = absurd (omega (arith, e))
behind_or (b ∷ before) one below (suc j) n d e = behind_or before one below j n d (omega (arith, e))

pub last-within : (xs : List Standing) (segment : ℕ) (key : List ℕ) (k : ℕ) → IsLastOf xs segment key k → k < length xs
last-within xs segment key k it =
    omega (arith, it.is_place, ap length it.parts ∙ length-append it.before (it.one ∷ it.below))

pub last-is : (xs : List Standing) (segment : ℕ) (key : List ℕ) (k j : ℕ) (e : Standing) → IsLastOf xs segment key k
    → j ≡ k → e ≡ get_or xs j e → (e.segment ≡ segment) × (e.key ≡ key)
last-is xs segment key k j e it p g =
    let n : j ≡ length it.before = p ∙ it.is_place in
    let P : ℕ → Type 0 = λ n. e ≡ get_or xs n e in
    let s : e ≡ it.one = subst P n g ∙ ap (λ ys. get_or ys (length it.before) e) it.parts
    ∙ at_front it.before it.one it.below e in
    (ap (λ (z : Standing). z.segment) s ∙ it.is_segment, ap (λ (z : Standing). z.key) s ∙ it.is_key)

pub last-other : (xs : List Standing) (segment : ℕ) (key : List ℕ) (k j : ℕ) (e : Standing)
    → IsLastOf xs segment key k → k < j → j < length xs → e ≡ get_or xs j e → e.segment ≢ segment
last-other xs segment key k j e it l b g =
    let long : length xs ≡ length it.before + length (it.one ∷ it.below) =
    ap length it.parts ∙ length-append it.before (it.one ∷ it.below) in
    let n : ℕ = j - length it.before - 1 in
    let p : j ≡ length it.before + 1 + n = omega (arith, l, it.is_place) in
    let s : e ≡ get_or it.below n e = g ∙ ap (λ ys. get_or ys j e) it.parts
    ∙ behind_or it.before it.one it.below j n e p in
    let o : (get_or it.below n e).segment ≢ segment = it.others n e (omega (arith, b, long, l, it.is_place)) in
    λ q. o (ap (λ (z : Standing). z.segment) (sym s) ∙ q)

-- the walk from the end comes to it first
pub here_only : (xs : List Standing) (segment : ℕ) (key : List ℕ) (k left : ℕ) (e : Standing)
    → IsLastOf xs segment key k → k < left → left ≤ length xs → e ≡ get_or xs (left - 1) e → e.segment ≡ segment
    → (left - 1 ≡ k) × (e.key ≡ key)
here_only xs segment key k left e it b l g s = elim (same_or_other (left - 1) k) as (λ _. (left - 1 ≡ k) × (e.key ≡ key)) [
  | inl p ↦ (p, (last-is xs segment key k (left - 1) e it p g).1)
  | inr n ↦ absurd (last-other xs segment key k (left - 1) e it (omega (arith, b, n)) (omega (arith, l, b)) g s)
]

pub further_on : (xs : List Standing) (segment : ℕ) (key : List ℕ) (k left : ℕ) (e : Standing)
    → IsLastOf xs segment key k → k < left → e ≡ get_or xs (left - 1) e → e.segment ≢ segment → k < left - 1
further_on xs segment key k left e it b g s = elim (same_or_other (left - 1) k) as (λ _. k < left - 1) [
  | inl p ↦ absurd (s ((last-is xs segment key k (left - 1) e it p g).0))
  | inr n ↦ omega (arith, b, n)
]

-- the same keys are tied
pub same-tied : (a b : List ℕ) (o : Ordering) → o ≡ slice_cmp nat_cmp a b → a ≡ b → o ≡ Equal
same-tied a b o e s = e ∙ ap (λ xs. slice_cmp nat_cmp xs b) s ∙ tied_itself nat_list_cmp_total b

-- ---- a plan, from its end

pub record IsCut (xs : List Standing) (first second : List (ℕ × List ℕ)) : Type 0 where
  pub front : List Standing
  pub back : List Standing
  pub parts : xs ≡ front ++ back
  pub are_front : marks_of front ≡ first
  pub are_back : marks_of back ≡ second

pub cut-marks : (xs : List Standing) (first second : List (ℕ × List ℕ)) → marks_of xs ≡ first ++ second
    → IsCut xs first second
cut-marks xs [] second e = record { front = []; back = xs; parts = refl; are_front = refl; are_back = e }
cut-marks [] (m ∷ first) second e = absurd (cc)
cut-marks (x ∷ xs) (m ∷ first) second e =
    let d : marks_of xs ≡ first ++ second = cc in
    let h : (let p : ℕ × List ℕ = (x.segment, x.key) in p) ≡ m = cc in
    let s : IsCut xs first second = cut-marks xs first second d in
    record {
      front = x ∷ s.front;
      back = s.back;
      parts = ap (λ l. x ∷ l) s.parts;
      are_front = rw (h, s.are_front) refl;
      are_back = s.are_back;
    }

pub planning-none : (before part standing : List Standing) (to : ℕ) (plan : List Planned) (marks : List (ℕ × List ℕ))
    → standing ≡ before ++ part → to ≡ length standing → marks_of part ≡ marks
    → IsPlanning before part standing to plan plan marks
planning-none before part standing to plan marks e t m = record {
  rest = part;
  done = [];
  parts = sym (append-nil part);
  are = m;
  left = e;
  ends = t;
  planned = refl;
}

pub planning-on : (before part standing standing2 : List Standing) (from to to2 : ℕ) (old now now2 : List Planned)
    (first second marks : List (ℕ × List ℕ)) → from ≤ length before → marks ≡ first ++ second
    → IsPlanning before part standing to old now marks
    → ((b p : List Standing) → standing ≡ b ++ p → to ≡ length standing → from ≤ length b → marks_of p ≡ second
    → PlansAll b p standing2 to2 now now2)
    → IsPlanning before part standing2 to2 old now2 first
planning-on before part standing standing2 from to to2 old now now2 first second marks l m d f =
    let s : IsCut d.rest first second = cut-marks d.rest first second (d.are ∙ m) in
    let long : length (before ++ s.front) ≡ length before + length s.front = length-append before s.front in
    let g : PlansAll (before ++ s.front) s.back standing2 to2 now now2 =
    f (before ++ s.front) s.back
    (d.left ∙ ap (λ xs. before ++ xs) s.parts ∙ sym (append_assoc before s.front s.back)) d.ends
    (omega (arith, l, long)) s.are_back in
    record {
      rest = s.front;
      done = s.back ++ d.done;
      parts = d.parts ∙ ap (λ xs. xs ++ d.done) s.parts ∙ append_assoc s.front s.back d.done;
      are = s.are_front;
      left = g.left;
      ends = g.ends ∙ ap length (sym g.left);
      planned = g.planned ∙ ap (λ xs. kept s.back ++ xs) d.planned ∙ sym (append_assoc (kept s.back) (kept d.done) old)
          ∙ ap (λ xs. xs ++ old) (sym (map-append
          (λ (x : Standing). (let p : Planned = record { segment = x.segment; at = Some x.at } in p)) s.back d.done));
    }

none_marked : (xs : List Standing) → marks_of xs ≡ [] → xs ≡ []
none_marked [] e = refl
none_marked (x ∷ xs) e = absurd (cc)

pub planning-whole : (before part standing : List Standing) (to : ℕ) (old now : List Planned)
    (marks : List (ℕ × List ℕ)) → marks ≡ [] → IsPlanning before part standing to old now marks
    → PlansAll before part standing to old now
planning-whole before part standing to old now marks m d =
    let none : d.rest ≡ [] = none_marked d.rest (d.are ∙ m) in
    let here : standing ≡ before = d.left ∙ ap (λ xs. before ++ xs) none ∙ append-nil before in
    let all : part ≡ d.done = d.parts ∙ ap (λ xs. xs ++ d.done) none in
    record {
      left = here;
      ends = d.ends ∙ ap length here;
      planned = d.planned ∙ ap (λ xs. kept xs ++ old) (sym all);
    }

-- ---- a segment and what is below it

pub record IsHeaded (before part standing : List Standing) (type : ℕ) (key : List ℕ) (marks : List (ℕ × List ℕ)) :
    Type 0 where
  pub one : Standing
  pub below : List Standing
  pub parts : part ≡ one ∷ below
  pub is_segment : one.segment ≡ type
  pub is_key : one.key ≡ key
  pub are : marks_of below ≡ marks
  pub stand : standing ≡ (before ++ one ∷ []) ++ below

pub headed : (before part standing : List Standing) (type : ℕ) (key : List ℕ) (marks : List (ℕ × List ℕ))
    → standing ≡ before ++ part → marks_of part ≡ (type, key) ∷ marks → IsHeaded before part standing type key marks
headed before [] standing type key marks e m = absurd (cc)
headed before (one ∷ below) standing type key marks e m =
    let d : marks_of below ≡ marks = cc in
    let h : (let p : ℕ × List ℕ = (one.segment, one.key) in p) ≡ (type, key) = cc in
    record {
      one = one;
      below = below;
      parts = refl;
      is_segment = ap (λ (p : ℕ × List ℕ). p.0) h;
      is_key = ap (λ (p : ℕ × List ℕ). p.1) h;
      are = d;
      stand = e ∙ sym (append_assoc before (one ∷ []) below);
    }

pub headed-last : (types : List SegDef) → HavePlaces 0 types → (before part standing : List Standing) (type : ℕ)
    (key : List ℕ) (rows : List (List Node))
    → (h : IsHeaded before part standing type key (keys_of_rows types (child_types types type) rows))
    → IsLastOf standing type key (length before)
headed-last types places before part standing type key rows h = record {
  before = before;
  one = h.one;
  below = h.below;
  parts = h.stand ∙ append_assoc before (h.one ∷ []) h.below;
  is_place = refl;
  is_segment = h.is_segment;
  is_key = h.is_key;
  others = others-below types places type rows h.below h.are;
}
