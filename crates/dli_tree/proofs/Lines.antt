-- The types along a path: each is a child of the one before, so they stand on the line to the last.
use Rattle.std.proofs.Common.{◌≡◌, ℕ, zero, suc, ◌+◌, ◌<◌, ◌≤◌, List, [], ◌∷◌, ◌++◌, map, length, Option, Some, None, Bool, true, false, ◌&&◌, ◌||◌, not, ◌==◌, refl, sym, ap, ◌∙◌, subst, slice_get, IfSome, arith}
use Rattle.std.specs.Prelude.{find, flat_map, if◌then◌else◌}
use Rattle.std.specs.List.{AllByRecursion, list_all, list_any}
use Rattle.std.specs.Option.{option_map_or}
use Rattle.fp_model.specs.declared.calls.Ssa.{Ssa}
use Rattle.fp_model.specs.declared.database.Node.{Node, map-Node, out-Node, roll-Node}
use Rattle.fp_model.specs.declared.database.Node.TheFolds.{fold-roll-Node, fold_out-Node, ind-Node}
use Rattle.fp_model.specs.declared.database.Node.TheOpen.{Node-F}
use Rattle.fp_model.specs.declared.definitions.SegDef.{SegDef}
use Rattle.fp_model.specs.Order.{Occurrence, Step, at_end, child_types, direct, is_child_of, key_in, last_type, line_to, line_within, node_order, node_step, numbers_from, one_down, parent_of, rows_in_order, under}
use Rattle.fp_model.specs.WellFormed.{HasPlace, HavePlaces}
use Rattle.dli_tree.specs.inside.Aims.{Search, agrees, ends_below, ends_here, is_inside, is_past, leads_on, looks_for, wants}
use Rattle.key_order.proofs.Ascending.{not_both}
use Rattle.dli_tree.proofs.Positions.{any_before, any_last, line_here}
use Rattle.plain_laws.proofs.Numbers.{number_is, same_number}
use Rattle.std.proofs.lemmas.Option.{none-some, same_Some}

-- ---- a parent's number is less

abbrev parent_at : List SegDef → ℕ → Option ℕ
parent_at defs k = option_map_or (λ (def : SegDef). def.parent) (slice_get defs k) None

parent_below : (place : ℕ) (defs : List SegDef) (k p : ℕ) → HavePlaces place defs → parent_at defs k ≡ Some p
    → p < place + k
parent_below place [] k p have e = absurd (none-some p e)
parent_below place (def ∷ defs) zero p have e =
    let here : IfSome (Some p) (λ (q : ℕ). q < place) =
    subst (λ (o : Option ℕ). IfSome o (λ (q : ℕ). q < place)) e have.0.0 in
    omega (arith, here)
parent_below place (def ∷ defs) (suc k) p have e = omega (arith, parent_below (place + 1) defs k p have.1 e)

pub parent_less : (types : List SegDef) (k p : ℕ) → HavePlaces 0 types → parent_of types k ≡ Some p → p < k
parent_less types k p have e = omega (arith, parent_below 0 types k p have e)

within_types : (types : List SegDef) (k p : ℕ) → parent_at types k ≡ Some p → k ≤ length types
within_types [] k p e = absurd (none-some p e)
within_types (def ∷ defs) zero p e = omega arith
within_types (def ∷ defs) (suc k) p e = omega (arith, within_types defs k p e)

-- ---- the line holds the parents of its types

any_front : (p : ℕ → Bool) (xs ys : List ℕ) → list_any p xs ≡ true → list_any p (xs ++ ys) ≡ true
any_front p [] ys e = absurd (not_both (sym e))
any_front p (x ∷ xs) ys e = by (p x) e (any_front p xs ys)
  where
    by : (b : Bool) → (b || list_any p xs) ≡ true → (list_any p xs ≡ true → list_any p (xs ++ ys) ≡ true)
        → (b || list_any p (xs ++ ys)) ≡ true
    by true e later = refl
    by false e later = later e

abbrev pub stands_on : List SegDef → ℕ → ℕ → ℕ → Bool
stands_on types n last type = list_any (λ t. t == type) (line_within n types last)

module _ (types : List SegDef) (have : HavePlaces 0 types) where
  pub parent_stands : (n last type parent : ℕ) → ((p : ℕ) → parent_of types last ≡ Some p → last ≤ n)
      → stands_on types n last type ≡ true → parent_of types type ≡ Some parent → stands_on types n last parent ≡ true
  parent_stands zero last type parent few on up = by (last == type) refl on
    where
      by : (b : Bool) → (last == type) ≡ b → (b || false) ≡ true → stands_on types 0 last parent ≡ true
      by true is on2 =
          let same : last ≡ type = number_is last type is in
          let none : last ≤ 0 = few parent (ap (parent_of types) same ∙ up) in
          absurd (omega (arith, none, same, parent_less types type parent have up))
      by false is on2 = absurd (not_both (sym on2))
  parent_stands (suc n) last type parent few on up =
      above (λ p few_left there. parent_stands n p type parent few_left there up) (parent_of types last) refl
    where
      both : ((p : ℕ) → ((q : ℕ) → parent_of types p ≡ Some q → p ≤ n) → stands_on types n p type ≡ true
          → stands_on types n p parent ≡ true) → (p : ℕ) → parent_of types last ≡ Some p → (b : Bool)
          → (last == type) ≡ b
          → list_any (λ t. t == type) (line_within n types p ++ last ∷ []) ≡ true
          → list_any (λ t. t == parent) (line_within n types p ++ last ∷ []) ≡ true
      both again p is true same there =
          let one : p ≡ parent = same_Some p parent (sym is ∙ ap (parent_of types) (number_is last type same) ∙ up) in
          any_front (λ t. t == parent) (line_within n types p) (last ∷ [])
          (line_here (λ t. t == parent) types n p (same_number p parent one))
      both again p is false same there =
          let less : p < last = parent_less types last p have is in
          let few_left : last ≤ suc n = few p is in
          any_front (λ t. t == parent) (line_within n types p) (last ∷ [])
          (again p (λ q f. omega (arith, less, few_left))
          (sym (any_before (λ t. t == type) types (line_within n types p) last same) ∙ there))

      above : ((p : ℕ) → ((q : ℕ) → parent_of types p ≡ Some q → p ≤ n) → stands_on types n p type ≡ true
          → stands_on types n p parent ≡ true) → (o : Option ℕ) → parent_of types last ≡ o
          → stands_on types (suc n) last parent ≡ true
      above again None is = absurd (by (last == type) refl
          (sym (ap (λ (o : Option ℕ). list_any (λ t. t == type)
          (option_map_or (λ q. line_within n types q ++ last ∷ []) o (last ∷ []))) is) ∙ on))
        where
          by : (b : Bool) → (last == type) ≡ b → (b || false) ≡ true → ⊥
          by true same e = none-some parent (sym is ∙ ap (parent_of types) (number_is last type same) ∙ up)
          by false same e = not_both (sym e)
      above again (Some p) is =
          let P : Option ℕ → Type 0 = λ o. list_any (λ t. t == parent)
          (option_map_or (λ q. line_within n types q ++ last ∷ []) o (last ∷ [])) ≡ true in
          subst P (sym is) (both again p is (last == type) refl
          (sym (ap (λ (o : Option ℕ). list_any (λ t. t == type)
          (option_map_or (λ q. line_within n types q ++ last ∷ []) o (last ∷ []))) is) ∙ on))

-- ---- paths

-- below a segment of a type, each type is a child of the one before
abbrev pub IsLine : List SegDef → ℕ → List Step → Type 0
IsLine types type [] = Unit {0}
IsLine types type (s ∷ ss) = (parent_of types s.segment ≡ Some type) × IsLine types s.segment ss

-- a path that begins with a segment of a type
abbrev pub IsFrom : List SegDef → ℕ → List Step → Type 0
IsFrom types type [] = ⊥
IsFrom types type (s ∷ ss) = (s.segment ≡ type) × IsLine types type ss

abbrev pub end_from : ℕ → List Step → ℕ
end_from type [] = type
end_from type (s ∷ ss) = end_from s.segment ss

pub ends_are : (ssas : List Ssa) (type : ℕ) (path : List Step)
    → ends_below ssas type path ≡ ends_here ssas (end_from type path)
ends_are ssas type [] = refl
ends_are ssas type (s ∷ ss) = ends_are ssas s.segment ss

module _ (types : List SegDef) (have : HavePlaces 0 types) where
  -- a type stands on the line to the type at the end of a path below it
  pub first_stands : (type : ℕ) (path : List Step) → IsLine types type path
      → stands_on types (length types) (end_from type path) type ≡ true
  first_stands type [] line = line_here (λ t. t == type) types (length types) type (same_number type type refl)
  first_stands type (s ∷ ss) line = parent_stands types have (length types) (end_from s.segment ss) s.segment type
      (λ p e. within_types types (end_from s.segment ss) p e) (first_stands s.segment ss line.1) line.0

  -- ---- what the order shows

  numbers_parent : (parent at : ℕ) (defs : List SegDef) → ((k : ℕ) → slice_get defs k ≡ slice_get types (at + k))
      → AllByRecursion (λ k. parent_of types k ≡ Some parent)
      (numbers_from at (λ def. is_child_of parent def && not def.sequential) defs)
  numbers_parent parent at [] same = tt
  numbers_parent parent at (def ∷ defs) same = by (is_child_of parent def && not def.sequential) refl
      (numbers_parent parent (at + 1) defs next)
    where
      next : (k : ℕ) → slice_get defs k ≡ slice_get types (at + 1 + k)
      next k = same (suc k) ∙ ap (slice_get types) (omega arith)

      here : slice_get types at ≡ Some def
      here = ap (slice_get types) (omega arith) ∙ sym (same 0)

      child : (o : Option ℕ) → (option_map_or (λ p. p == parent) o false && not def.sequential) ≡ true → o ≡ Some parent
      child None e = absurd (not_both (sym e))
      child (Some p) e = one (p == parent) refl e
        where
          one : (b : Bool) → (p == parent) ≡ b → (b && not def.sequential) ≡ true → Some p ≡ Some parent
          one true is e2 = ap (λ (n : ℕ). Some n) (number_is p parent is)
          one false is e2 = absurd (not_both (sym e2))

      by : (b : Bool) → (is_child_of parent def && not def.sequential) ≡ b
          → AllByRecursion (λ k. parent_of types k ≡ Some parent)
          (numbers_from (at + 1) (λ d. is_child_of parent d && not d.sequential) defs)
          → AllByRecursion (λ k. parent_of types k ≡ Some parent)
          (if b then at ∷ numbers_from (at + 1) (λ d. is_child_of parent d && not d.sequential) defs else
          numbers_from (at + 1) (λ d. is_child_of parent d && not d.sequential) defs)
      by true is later = (
        ap (λ (o : Option SegDef). option_map_or (λ (d : SegDef). d.parent) o None) here ∙ child
            def.parent is,
        later,
      )
      by false is later = later

  pub children_parent : (parent : ℕ) → AllByRecursion (λ k. parent_of types k ≡ Some parent) (child_types types parent)
  children_parent parent = numbers_parent parent 0 types (λ k. ap (slice_get types) (omega arith))

  pub all_append : {X : Type 0} (P : X → Type 0) (xs ys : List X) → AllByRecursion P xs → AllByRecursion P ys
      → AllByRecursion P (xs ++ ys)
  all_append P [] ys a b = b
  all_append P (x ∷ xs) ys a b = (a.0, all_append P xs ys a.1 b)

  all_flat : {X Y : Type 0} (P : Y → Type 0) (f : X → List Y) (xs : List X)
      → AllByRecursion (λ x. AllByRecursion P (f x)) xs → AllByRecursion P (flat_map f xs)
  all_flat P f [] all = tt
  all_flat P f (x ∷ xs) all = all_append P (f x) (flat_map f xs) all.0 (all_flat P f xs all.1)

  all_weaker : {X : Type 0} (P Q : X → Type 0) (xs : List X) → ((x : X) → P x → Q x) → AllByRecursion P xs
      → AllByRecursion Q xs
  all_weaker P Q [] h all = tt
  all_weaker P Q (x ∷ xs) h all = (h x all.0, all_weaker P Q xs h all.1)

  -- paths below a parent, from those of its children
  from_line : (parent type : ℕ) → parent_of types type ≡ Some parent → (o : Occurrence) → IsFrom types type o.path
      → IsLine types parent o.path
  from_line parent type up o from = by o.path from
    where
      by : (path : List Step) → IsFrom types type path → IsLine types parent path
      by [] from = absurd from
      by (s ∷ ss) from = (ap (parent_of types) from.0 ∙ up, subst (λ (t : ℕ). IsLine types t ss) (sym from.0) from.1)

  abbrev AreFrom : (ℕ → List Occurrence) → Type 0
  AreFrom f = (type : ℕ) → AllByRecursion (λ o. IsFrom types type o.path) (f type)

  rows_lines : (parent : ℕ) (kinds : List ℕ) (rows : List (List (ℕ → List Occurrence)))
      → AllByRecursion (λ k. parent_of types k ≡ Some parent) kinds → AllByRecursion (AllByRecursion AreFrom) rows
      → AllByRecursion (λ o. IsLine types parent o.path) (rows_in_order kinds rows)
  rows_lines parent [] rows up all = tt
  rows_lines parent (kind ∷ kinds) [] up all = tt
  rows_lines parent (kind ∷ kinds) (row ∷ rows) up all =
      all_append (λ o. IsLine types parent o.path) (flat_map (λ child. child kind) row) (rows_in_order kinds rows)
      (all_flat (λ o. IsLine types parent o.path) (λ (child : ℕ → List Occurrence). child kind) row
      (all_weaker AreFrom (λ f. AllByRecursion (λ o. IsLine types parent o.path) (f kind)) row
      (λ f from. all_weaker (λ o. IsFrom types kind o.path) (λ o. IsLine types parent o.path) (f kind)
      (from_line parent kind up.0) (from kind)) all.0))
      (rows_lines parent kinds rows up.1 all.1)

  pub under_from : (type : ℕ) (key : List ℕ) (os : List Occurrence) → AllByRecursion (λ o. IsLine types type o.path) os
      → AllByRecursion (λ o. IsFrom types type o.path) (under (direct type key) os)
  under_from type key [] all = tt
  under_from type key (o ∷ os) all = ((refl, all.0), under_from type key os all.1)

  step_from : (f : Node-F (ℕ → List Occurrence)) → AllByRecursion (AllByRecursion AreFrom) f.children
      → AreFrom (node_step types f)
  step_from f all type = under_from type (key_in types type f.bytes)
      (at_end f.bytes ∷ rows_in_order (child_types types type) f.children)
      (tt, rows_lines type (child_types types type) f.children (children_parent type) all)

  orders_from : (rows : List (List ((n : Node) × AreFrom (node_order types n))))
      → AllByRecursion (AllByRecursion AreFrom) (map (map (node_order types)) (map (map (λ e. e.0)) rows))
  orders_from [] = tt
  orders_from (row ∷ rows) = (one row, orders_from rows)
    where
      one : (r : List ((n : Node) × AreFrom (node_order types n)))
          → AllByRecursion AreFrom (map (node_order types) (map (λ e. e.0) r))
      one [] = tt
      one (e ∷ es) = (e.1, one es)

  pub node_from : (n : Node) → AreFrom (node_order types n)
  node_from = ind-Node (λ n. AreFrom (node_order types n)) (λ x y is.
      let rows = subst (λ (z : Node-F Node). AllByRecursion (AllByRecursion AreFrom)
      (map (map (node_order types)) z.children)) is (orders_from y.children) in
      subst AreFrom (sym (fold-roll-Node (ℕ → List Occurrence) (node_step types) x))
      (step_from (map-Node Node (ℕ → List Occurrence) (node_order types) x) rows))

  -- a child's number is greater
  pub child_above : (parent child : ℕ) (def : SegDef) → slice_get types child ≡ Some def
      → (is_child_of parent def && not def.sequential) ≡ true → parent < child
  child_above parent child def at passes = parent_less types child parent have
      (ap (λ (o : Option SegDef). option_map_or (λ (d : SegDef). d.parent) o None) at ∙ up def.parent passes)
    where
      up : (o : Option ℕ) → (option_map_or (λ p. p == parent) o false && not def.sequential) ≡ true → o ≡ Some parent
      up None e = absurd (not_both (sym e))
      up (Some p) e = one (p == parent) refl e
        where
          one : (b : Bool) → (p == parent) ≡ b → (b && not def.sequential) ≡ true → Some p ≡ Some parent
          one true is e2 = ap (λ (n : ℕ). Some n) (number_is p parent is)
          one false is e2 = absurd (not_both (sym e2))

  pub rows_line : (parent : ℕ) (rows : List (List Node))
      → AllByRecursion (λ o. IsLine types parent o.path)
      (rows_in_order (child_types types parent) (map (map (node_order types)) rows))
  rows_line parent rows = rows_lines parent (child_types types parent) (map (map (node_order types)) rows)
      (children_parent parent) (each rows)
    where
      one : (r : List Node) → AllByRecursion AreFrom (map (node_order types) r)
      one [] = tt
      one (n ∷ ns) = (node_from n, one ns)

      each : (rs : List (List Node)) → AllByRecursion (AllByRecursion AreFrom) (map (map (node_order types)) rs)
      each [] = tt
      each (r ∷ rs) = (one r, each rs)
