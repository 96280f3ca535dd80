-- That the arguments admit a path exactly where each of its steps agrees with them, of a path along the types of a
-- database.
use Rattle.std.proofs.Common.{◌≡◌, ℕ, zero, suc, ◌+◌, ◌<◌, ◌≤◌, List, [], ◌∷◌, ◌++◌, length, Option, Some, None, Bool, true, false, ◌&&◌, ◌||◌, ◌==◌, refl, sym, ap, ◌∙◌, subst, arith}
use Rattle.std.specs.Prelude.{find, if◌then◌else◌}
use Rattle.std.specs.List.{AllByRecursion, list_all, list_any}
use Rattle.std.specs.Option.{option_map_or}
use Rattle.fp_model.specs.declared.calls.Ssa.{Ssa}
use Rattle.fp_model.specs.declared.definitions.SegDef.{SegDef}
use Rattle.fp_model.specs.Order.{Occurrence, Step, admits, ends_in, last_type, line_to, line_within, parent_of, stands_in}
use Rattle.fp_model.specs.Texts.{same_text}
use Rattle.fp_model.specs.WellFormed.{HavePlaces}
use Rattle.dli_tree.specs.inside.Aims.{agrees, can_be_met, can_stand, ends_below, ends_here, fits}
use Rattle.key_order.proofs.Ascending.{not_both}
use Rattle.dli_tree.proofs.Lines.{IsFrom, IsLine, end_from, ends_are, first_stands, parent_less, stands_on}
use Rattle.dli_tree.proofs.Positions.{any_before, any_last, line_end, line_here, line_top, line_up}
use Rattle.plain_laws.proofs.Truths.{and_false, first_of_both, second_of_both}
use Rattle.plain_laws.proofs.Numbers.{number_is, other_number}

-- ---- a longer line holds what a shorter one does

further : (types : List SegDef) (n last type : ℕ) → stands_on types n last type ≡ true
    → stands_on types (suc n) last type ≡ true
further types zero last type on = line_here (λ t. t == type) types 1 last
    (sym (line_end (λ t. t == type) types last) ∙ on)
further types (suc n) last type on = by (last == type) refl (parent_of types last) refl
    (λ q h. further types n q type h)
  where
    by : (b : Bool) → (last == type) ≡ b → (o : Option ℕ) → parent_of types last ≡ o
        → ((q : ℕ) → stands_on types n q type ≡ true → stands_on types (suc n) q type ≡ true)
        → stands_on types (suc (suc n)) last type ≡ true
    by true same o is again = line_here (λ t. t == type) types (suc (suc n)) last same
    by false same None is again = absurd (not_both (sym on ∙ line_top (λ t. t == type) types n last same is))
    by false same (Some q) is again = line_up (λ t. t == type) types (suc n) last q same is ∙ again q
        (sym (line_up (λ t. t == type) types n last q same is) ∙ on)

-- ---- types in a path

abbrev has_type : ℕ → List Step → Bool
has_type type path = list_any (λ s. s.segment == type) path

module _ (types : List SegDef) (have : HavePlaces 0 types) where
  -- each type on the line to the end of a path stands in it, or above it
  in_path : (n type : ℕ) (path : List Step) (x : ℕ) → IsLine types type path
      → stands_on types n (end_from type path) x ≡ true → (has_type x path || stands_on types n type x) ≡ true
  in_path n type [] x line on = on
  in_path n type (s ∷ ss) x line on = by n (s.segment == x) refl (has_type x ss) (in_path n s.segment ss x line.1 on)
    where
      or_true : (b : Bool) → (b || true) ≡ true
      or_true true = refl
      or_true false = refl

      by : (m : ℕ) (b : Bool) → (s.segment == x) ≡ b → (h : Bool) → (h || stands_on types m s.segment x) ≡ true
          → ((b || h) || stands_on types m type x) ≡ true
      by m true same h e = refl
      by m false same true e = refl
      by zero false same false e = absurd (not_both (sym e ∙ line_end (λ t. t == x) types s.segment ∙ same))
      by (suc k) false same false e = further types k type x
          (sym (line_up (λ t. t == x) types k s.segment type same line.0) ∙ e)

  -- a type with a parent isn't the root's
  root_alone : (n x : ℕ) → stands_on types n 0 x ≡ true → (0 == x) ≡ true
  root_alone zero x on = sym (line_end (λ t. t == x) types 0) ∙ on
  root_alone (suc n) x on = by (0 == x) refl (parent_of types 0) refl
    where
      by : (b : Bool) → (0 == x) ≡ b → (o : Option ℕ) → parent_of types 0 ≡ o → b ≡ true
      by true same o is = refl
      by false same None is = absurd (not_both (sym on ∙ line_top (λ t. t == x) types n 0 same is))
      by false same (Some p) is = absurd (omega (arith, parent_less types 0 p have is))

  stands_there : (n : ℕ) (path : List Step) (x : ℕ) → IsFrom types 0 path → stands_on types n (end_from 0 path) x ≡ true
      → has_type x path ≡ true
  stands_there n [] x from on = absurd from
  stands_there n (s ∷ ss) x from on =
      by (has_type x ss) (subst (λ (t : ℕ). (has_type x ss || stands_on types n t x) ≡ true) from.0
      (in_path n s.segment ss x (subst (λ (t : ℕ). IsLine types t ss) (sym from.0) from.1) on))
    where
      by : (h : Bool) → (h || stands_on types n 0 x) ≡ true → ((s.segment == x) || h) ≡ true
      by true e = or_true (s.segment == x)
        where
          or_true : (b : Bool) → (b || true) ≡ true
          or_true true = refl
          or_true false = refl
      by false e = ap (λ (b : Bool). b || false) (ap (λ (t : ℕ). t == x) from.0 ∙ root_alone n x e)

  -- ---- one argument

  module _ (x : ℕ) (key : List ℕ) where
    abbrev stands : List Step → Bool
    stands path = list_any (λ s. s.segment == x && same_text s.key key) path

    abbrev agree : List Step → Bool
    agree path = list_all (λ s. if s.segment == x then same_text s.key key else true) path

    -- behind a type only greater ones follow
    none_follows : (type : ℕ) (path : List Step) → x ≤ type → IsLine types type path → (stands path ≡ false)
        × (agree path ≡ true)
    none_follows type [] low line = (refl, refl)
    none_follows type (s ∷ ss) low line =
        let above : type < s.segment = parent_less types s.segment type have line.0 in
        let differs : (s.segment == x) ≡ false = other_number s.segment x (λ e. absurd (omega (arith, above, low, e))) in
        let later = none_follows s.segment ss (omega (arith, above, low)) line.1 in
        (rw differs later.0, rw differs later.1)

    one_type : (type : ℕ) (path : List Step) → IsLine types type path → has_type x path ≡ true
        → stands path ≡ agree path
    one_type type [] line has = absurd (not_both (sym has))
    one_type type (s ∷ ss) line has = by (s.segment == x) refl has (one_type s.segment ss line.1)
      where
        same_and : (b : Bool) → (b || false) ≡ (b && true)
        same_and true = refl
        same_and false = refl

        by : (b : Bool) → (s.segment == x) ≡ b → (b || has_type x ss) ≡ true
            → (has_type x ss ≡ true → stands ss ≡ agree ss)
            → ((b && same_text s.key key) || stands ss) ≡ ((if b then same_text s.key key else true) && agree ss)
        by true same h later =
            let none = none_follows s.segment ss (omega (arith, number_is s.segment x same)) line.1 in
            rw (none.0, none.1) (same_and (same_text s.key key))
        by false same h later = later h

    -- what stands in a path stands on the line to its end
    on_line : (n : ℕ) (type : ℕ) (path : List Step) → n ≡ length types → IsLine types type path → stands path ≡ true
        → stands_on types n (end_from type path) x ≡ true
    on_line n type [] is line e = absurd (not_both (sym e))
    on_line n type (s ∷ ss) is line e = by (s.segment == x) refl e (on_line n s.segment ss is line.1)
      where
        by : (b : Bool) → (s.segment == x) ≡ b → ((b && same_text s.key key) || stands ss) ≡ true
            → (stands ss ≡ true → stands_on types n (end_from s.segment ss) x ≡ true)
            → stands_on types n (end_from s.segment ss) x ≡ true
        by true same f later =
            subst (λ (m : ℕ). stands_on types m (end_from s.segment ss) x ≡ true) (sym is)
            (subst (λ (y : ℕ). stands_on types (length types) (end_from s.segment ss) y ≡ true)
            (number_is s.segment x same) (first_stands types have s.segment ss line.1))
        by false same f later = later f

  -- ---- all arguments

  one_from_root : (x : ℕ) (key : List ℕ) (path : List Step) → IsFrom types 0 path → has_type x path ≡ true
      → stands x key path ≡ agree x key path
  one_from_root x key [] from has = absurd from
  one_from_root x key (s ∷ ss) from has = by (s.segment == x) refl has
    where
      line : IsLine types s.segment ss
      line = subst (λ (t : ℕ). IsLine types t ss) (sym from.0) from.1

      same_and : (b : Bool) → (b || false) ≡ (b && true)
      same_and true = refl
      same_and false = refl

      by : (b : Bool) → (s.segment == x) ≡ b → (b || has_type x ss) ≡ true
          → ((b && same_text s.key key) || stands x key ss) ≡
          ((if b then same_text s.key key else true) && agree x key ss)
      by true same h =
          let none = none_follows x key s.segment ss (omega (arith, number_is s.segment x same)) line in
          rw (none.0, none.1) (same_and (same_text s.key key))
      by false same h = one_type x key s.segment ss line h

  all_true : (path : List Step) (ssa : Ssa) → ssa.key ≡ None → list_all (λ s. fits s ssa) path ≡ true
  all_true [] ssa none = refl
  all_true (s ∷ ss) ssa none = rw none (rw (all_true ss ssa none) (by (s.segment == ssa.segment)))
    where
      by : (b : Bool) → ((if b then true else true) && true) ≡ true
      by true = refl
      by false = refl

  one_ssa : (path : List Step) (ssa : Ssa) → IsFrom types 0 path
      → option_map_or (λ key. list_any (λ t. t == ssa.segment) (line_to types (end_from 0 path))) ssa.key true ≡ true
      → stands_in path ssa ≡ list_all (λ s. fits s ssa) path
  one_ssa path ssa from can = by ssa.key refl can
    where
      by : (o : Option (List ℕ)) → ssa.key ≡ o → option_map_or
          (λ key. list_any (λ t. t == ssa.segment) (line_to types (end_from 0 path))) o true ≡ true
          → option_map_or (λ key. list_any (λ s. s.segment == ssa.segment && same_text s.key key) path) ssa.key true ≡
          list_all (λ s. fits s ssa) path
      by None is e = ap (λ (o : Option (List ℕ)). option_map_or
          (λ key. list_any (λ s. s.segment == ssa.segment && same_text s.key key) path) o true) is ∙ sym
          (all_true path ssa is)
      by (Some key) is e = rw is (one_from_root ssa.segment key path from
          (stands_there (length types) path ssa.segment from e))

  all_ssas : (path : List Step) (ssas : List Ssa) → IsFrom types 0 path → can_stand types (end_from 0 path) ssas ≡ true
      → list_all (stands_in path) ssas ≡ list_all (λ ssa. list_all (λ s. fits s ssa) path) ssas
  all_ssas path [] from can = refl
  all_ssas path (ssa ∷ ssas) from can =
      let a = option_map_or (λ (key : List ℕ). list_any (λ t. t == ssa.segment) (line_to types (end_from 0 path)))
      ssa.key true in
      let b = can_stand types (end_from 0 path) ssas in
      ap (λ (c : Bool). c && list_all (stands_in path) ssas) (one_ssa path ssa from (first_of_both a b can))
      ∙ ap (λ (c : Bool). list_all (λ s. fits s ssa) path && c) (all_ssas path ssas from (second_of_both a b can))

  -- an argument that names a type off the line stands in no path
  off_line : (path : List Step) (ssas : List Ssa) → IsFrom types 0 path → can_stand types (end_from 0 path) ssas ≡ false
      → list_all (stands_in path) ssas ≡ false
  off_line path [] from cannot = absurd (not_both cannot)
  off_line path (ssa ∷ ssas) from cannot = by ssa.key refl (can_stand types (end_from 0 path) ssas) refl cannot
      (off_line path ssas from)
    where
      no : (key : List ℕ) → list_any (λ t. t == ssa.segment) (line_to types (end_from 0 path)) ≡ false
          → stands ssa.segment key path ≡ false
      no key off = one (stands ssa.segment key path) refl
        where
          on : (p : List Step) → IsFrom types 0 p → stands ssa.segment key p ≡ true
              → stands_on types (length types) (end_from 0 p) ssa.segment ≡ true
          on [] f e = absurd f
          on (s ∷ ss) f e = here (s.segment == ssa.segment) refl e
            where
              line : IsLine types s.segment ss
              line = subst (λ (t : ℕ). IsLine types t ss) (sym f.0) f.1

              here : (b : Bool) → (s.segment == ssa.segment) ≡ b
                  → ((b && same_text s.key key) || stands ssa.segment key ss) ≡ true
                  → stands_on types (length types) (end_from s.segment ss) ssa.segment ≡ true
              here true same g = subst (λ (y : ℕ). stands_on types (length types) (end_from s.segment ss) y ≡ true)
                  (number_is s.segment ssa.segment same) (first_stands types have s.segment ss line)
              here false same g = on_line ssa.segment key (length types) s.segment ss refl line g

          one : (b : Bool) → stands ssa.segment key path ≡ b → b ≡ false
          one true e = absurd (not_both (sym (on path from e) ∙ off))
          one false e = refl

      by : (o : Option (List ℕ)) → ssa.key ≡ o → (c : Bool) → can_stand types (end_from 0 path) ssas ≡ c
          → (option_map_or (λ key. list_any (λ t. t == ssa.segment) (line_to types (end_from 0 path))) o true && c) ≡
          false
          → (can_stand types (end_from 0 path) ssas ≡ false → list_all (stands_in path) ssas ≡ false)
          → list_all (stands_in path) (ssa ∷ ssas) ≡ false
      by o is false more e later = rw (later more) (and_false (stands_in path ssa))
      by None is true more e later = absurd (not_both e)
      by (Some key) is true more e later = rw is (rw
          (no key (sym (true_and (list_any (λ t. t == ssa.segment) (line_to types (end_from 0 path)))) ∙ e)) refl)
        where
          true_and : (b : Bool) → (b && true) ≡ b
          true_and true = refl
          true_and false = refl

  -- ---- the order of the two does not matter

  none_fail : (path : List Step) → list_all (λ s. true) path ≡ true
  none_fail [] = refl
  none_fail (s ∷ ss) = none_fail ss

  swap_one : (a b c d : Bool) → ((a && b) && (c && d)) ≡ ((a && c) && (b && d))
  swap_one true true c d = refl
  swap_one true false true d = refl
  swap_one true false false d = refl
  swap_one false b c d = refl

  pub swapped : (ssas : List Ssa) (path : List Step)
      → list_all (λ ssa. list_all (λ s. fits s ssa) path) ssas ≡ list_all (agrees ssas) path
  swapped [] path = sym (none_fail path)
  swapped (ssa ∷ ssas) path = ap (λ (b : Bool). list_all (λ s. fits s ssa) path && b) (swapped ssas path) ∙ each path
    where
      each : (p : List Step) → (list_all (λ s. fits s ssa) p && list_all (agrees ssas) p) ≡ list_all
          (agrees (ssa ∷ ssas)) p
      each [] = refl
      each (s ∷ ss) = swap_one (fits s ssa) (list_all (λ t. fits t ssa) ss) (agrees ssas s) (list_all (agrees ssas) ss)
          ∙ ap (λ (b : Bool). (fits s ssa && agrees ssas s) && b) (each ss)

  -- ---- the end of a path

  ends_same : (type : ℕ) (s : Step) (ss : List Step) → ends_in type (s ∷ ss) ≡ (end_from s.segment ss == type)
  ends_same type s [] = refl
  ends_same type s (t ∷ ts) = ends_same type t ts

  end_is : (type : ℕ) (path : List Step) → IsFrom types 0 path → ends_in type path ≡ (end_from 0 path == type)
  end_is type [] from = absurd from
  end_is type (s ∷ ss) from = ends_same type s ss

  -- ---- paths that the arguments admit

  pub admitted : (ssas : List Ssa) (path : List Step) → IsFrom types 0 path → can_be_met types ssas ≡ true
      → admits ssas path ≡ (ends_below ssas 0 path && list_all (agrees ssas) path)
  admitted [] path from can = sym (ap (λ (b : Bool). b && list_all (agrees []) path) (ends_are [] 0 path) ∙ none_fail
      path)
  admitted (ssa ∷ ssas) path from can =
      ap (λ (b : Bool). b && list_all (stands_in path) (ssa ∷ ssas)) (end_is (last_type ssa.segment ssas) path from)
      ∙ by (end_from 0 path == last_type ssa.segment ssas) refl
      ∙ ap (λ (b : Bool). b && list_all (agrees (ssa ∷ ssas)) path) (sym (ends_are (ssa ∷ ssas) 0 path))
    where
      by : (b : Bool) → (end_from 0 path == last_type ssa.segment ssas) ≡ b
          → (b && list_all (stands_in path) (ssa ∷ ssas)) ≡ (b && list_all (agrees (ssa ∷ ssas)) path)
      by true e =
          all_ssas path (ssa ∷ ssas) from (subst (λ (n : ℕ). can_stand types n (ssa ∷ ssas) ≡ true)
          (sym (number_is (end_from 0 path) (last_type ssa.segment ssas) e)) can) ∙ swapped (ssa ∷ ssas) path
      by false e = refl

  pub not_admitted : (ssas : List Ssa) (path : List Step) → IsFrom types 0 path → can_be_met types ssas ≡ false
      → admits ssas path ≡ false
  not_admitted [] path from cannot = absurd (not_both cannot)
  not_admitted (ssa ∷ ssas) path from cannot = ap (λ (b : Bool). b && list_all (stands_in path) (ssa ∷ ssas))
      (end_is (last_type ssa.segment ssas) path from) ∙ by (end_from 0 path == last_type ssa.segment ssas) refl
    where
      by : (b : Bool) → (end_from 0 path == last_type ssa.segment ssas) ≡ b
          → (b && list_all (stands_in path) (ssa ∷ ssas)) ≡ false
      by true e = off_line path (ssa ∷ ssas) from (subst (λ (n : ℕ). can_stand types n (ssa ∷ ssas) ≡ false)
          (sym (number_is (end_from 0 path) (last_type ssa.segment ssas) e)) cannot)
      by false e = refl
