-- What a search finds at the roots of an anchor: in the sequential dependents of a root, at and below a root, in all of
-- them.
use Rattle.std.proofs.Common.{◌≡◌, ℕ, zero, suc, ◌+◌, ◌<◌, ◌≤◌, ◌^◌, List, [], ◌∷◌, ◌++◌, map, drop, length, get_or, Option, Some, None, Bool, true, false, ◌&&◌, ◌==◌, refl, sym, ap, ◌∙◌, subst, slice_index_or, slice_get, Result, IfOk, arith}
use Rattle.std.specs.Prelude.{find, flat_map, option_map, if◌then◌else◌, nat_le, nat_lt}
use Rattle.std.specs.List.{AllByRecursion, list_all}
use Rattle.std.specs.List.Sorted.{IsPartitionedBy}
use Rattle.std.specs.Option.{option_copied, option_map_or, option_or}
use Rattle.std.proofs.lemmas.List.Quantifiers.{position-Some}
use Rattle.std.proofs.lemmas.Option.{slice_get-get_or, none-some, same_Some}
use Rattle.std.proofs.lemmas.List.Concat.{flat_map_single}
use Rattle.std.proofs.lemmas.List.Folds.{find-append}
use Rattle.fp_model.specs.declared.calls.Ssa.{Ssa}
use Rattle.fp_model.specs.declared.database.Node.{Node}
use Rattle.fp_model.specs.declared.database.Root.{Root}
use Rattle.fp_model.specs.declared.database.SeqItem.{SeqItem}
use Rattle.fp_model.specs.declared.definitions.SegDef.{SegDef}
use Rattle.fp_model.specs.Order.{Occurrence, Place, Step, admits, at_end, child_types, dependent, direct, first_admitted, key_in, lies_within, node_order, numbered, one_down, parent_of, path_precedes, place_precedes, root_key, root_order, rows_in_order, same_step, sequence, sequential_type, sequentials, step_precedes, under}
use Rattle.fp_model.specs.Shape.{are_newest_first, are_rows, has_length, have_lengths, is_root, seen_as}
use Rattle.fp_model.specs.State.{ascend, is_below}
use Rattle.fp_model.specs.Texts.{same_text}
use Rattle.fp_model.specs.WellFormed.{HavePlaces}
use Rattle.dli_tree.specs.inside.Aims.{Search, aim_of, agrees, can_be_met, ends_below, ends_here, entered, is_inside, is_past, looks_for, wants}
use Rattle.dli_tree.specs.declared.aim.Aim.{Aim}
use Rattle.dli_tree.specs.declared.path.Path.{Path}
use Rattle.dli_tree.specs.declared.path.Step.{Step as StepOf}
use Rattle.dli_tree.specs.InOrder.{any_ends, are_in_order}
use Rattle.dli_tree.specs.Paths.{occurrence_of, place_of, step_of, steps_of}
use Rattle.dli_tree.specs.inside.Paths.{path_steps}
use Rattle.dli_tree.specs.inside.Reaches.{IsLeft}
use Rattle.dli_tree.proofs.Admitting.{admitted, not_admitted}
use Rattle.key_order.proofs.Ascending.{all_at, not_both}
use Rattle.dli_tree.proofs.Entering.{find_under, found_below, none_behind, none_within, wants_down}
use Rattle.dli_tree.proofs.Lines.{IsFrom, IsLine, all_append, rows_line, under_from}
use Rattle.dli_tree.proofs.Rows.{found_from, orders, skipped}
use Rattle.plain_laws.proofs.Alls.{all_of_list_all, all_weaker}
use Rattle.plain_laws.proofs.Truths.{and_false, first_of_both, second_of_both}
use Rattle.plain_laws.proofs.Numbers.{is_le, le_is as le_of, lt_is}

-- ---- one step

pub below_one : (aim : Search) (d : Step) (entering : Option Aim) (below : Aim)
    → option_map aim_of entering ≡ entered aim d → entering ≡ Some below → wants (aim_of below) [] ≡ wants aim (d ∷ [])
below_one aim d entering below is some =
    sym (wants_down aim d [] ∙ ap (λ (o : Option Search). option_map_or (λ b. wants b []) o false)
    (sym is ∙ ap (option_map aim_of) some))

pub none_below : (aim : Search) (d : Step) (entering : Option Aim) → option_map aim_of entering ≡ entered aim d
    → entering ≡ None → false ≡ wants aim (d ∷ [])
none_below aim d entering is none =
    sym (wants_down aim d [] ∙ ap (λ (o : Option Search). option_map_or (λ b. wants b []) o false)
    (sym is ∙ ap (option_map aim_of) none))

pub not_inside : (aim : Search) (xs : List StepOf) (d : Step) → aim.within ≡ Some (steps_of xs)
    → (length xs == 0) ≡ false → wants aim (d ∷ []) ≡ false
not_inside aim [] d e some = absurd (not_both some)
not_inside aim (x ∷ xs) d e some = rw e (rw (none_within (steps_of xs))
    (rw (and_false (same_step (step_of x) d)) (rw (and_false (is_past aim.behind (d ∷ []))) refl)))

no_key_below : (key : List ℕ) → is_below key [] ≡ false
no_key_below [] = refl
no_key_below (k ∷ ks) = refl

-- a dependent that isn't older than the one of the position
pub not_older : (aim : Search) (s : Step) (rest : List Step) (type serial : ℕ) → aim.behind ≡ Some (s ∷ rest)
    → s.segment ≡ type → s.serial ≤ serial → wants aim (numbered type serial ∷ []) ≡ false
not_older aim s rest type serial e same late =
    rw e (rw past refl)
  where
    is_type : (s.segment == type) ≡ true
    is_type = grind arith

    no_less : nat_lt serial s.serial ≡ false
    no_less = grind arith

    either : (b : Bool) → (if b then nat_lt serial s.serial else is_below s.key []) ≡ false
    either true = no_less
    either false = no_key_below s.key

    first : step_precedes s (numbered type serial) ≡ false
    first = rw is_type (either (same_text s.key []))

    choose : (b : Bool) → (if b then path_precedes rest [] else step_precedes s (numbered type serial)) ≡ false
    choose true = none_behind rest
    choose false = first

    past : (if same_step s (numbered type serial) then path_precedes rest [] else step_precedes s
        (numbered type serial)) ≡ false
    past = choose (same_step s (numbered type serial))

-- ---- sequential dependents

below_end : (begin end : ℕ) (xs : List SeqItem) (i : ℕ) (d : SeqItem) → are_newest_first begin end xs ≡ true
    → i < length xs → (slice_index_or xs i d).serial < end
below_end begin end [] i d newest within = absurd (omega (arith, within))
below_end begin end (x ∷ xs) zero d newest within =
    lt_is x.serial end (second_of_both (nat_le begin x.serial) (nat_lt x.serial end)
    (first_of_both (nat_le begin x.serial && nat_lt x.serial end) (are_newest_first begin x.serial xs) newest))
below_end begin end (x ∷ xs) (suc i) d newest within =
    let here = lt_is x.serial end (second_of_both (nat_le begin x.serial) (nat_lt x.serial end)
    (first_of_both (nat_le begin x.serial && nat_lt x.serial end) (are_newest_first begin x.serial xs) newest)) in
    let later = below_end begin x.serial xs i d (second_of_both (nat_le begin x.serial && nat_lt x.serial end)
    (are_newest_first begin x.serial xs) newest) (omega (arith, within)) in
    omega (arith, here, later)

pub newest_partitioned : (serial begin end : ℕ) (xs : List SeqItem) → are_newest_first begin end xs ≡ true
    → IsPartitionedBy (λ item. nat_le serial item.serial) xs
newest_partitioned serial begin end [] newest i j d le within passes = absurd (omega (arith, within))
newest_partitioned serial begin end (x ∷ xs) newest zero zero d le within passes = passes
newest_partitioned serial begin end (x ∷ xs) newest zero (suc j) d le within passes =
    let later = below_end begin x.serial xs j d (second_of_both (nat_le begin x.serial && nat_lt x.serial end)
    (are_newest_first begin x.serial xs) newest) (omega (arith, within)) in
    is_le serial x.serial (omega (arith, later, le_of serial (slice_index_or xs j d).serial passes))
newest_partitioned serial begin end (x ∷ xs) newest (suc i) zero d le within passes = absurd (omega (arith, le))
newest_partitioned serial begin end (x ∷ xs) newest (suc i) (suc j) d le within passes =
    newest_partitioned serial begin x.serial xs (second_of_both (nat_le begin x.serial && nat_lt x.serial end)
    (are_newest_first begin x.serial xs) newest) i j d (omega (arith, le)) (omega (arith, within)) passes

abbrev pub alone : ℕ → SeqItem → List Occurrence
alone type item = dependent type item ∷ []

pub one_none : (aim : Search) (type : ℕ) (item : SeqItem) → wants aim (numbered type item.serial ∷ []) ≡ false
    → find (looks_for aim) (alone type item) ≡ None
one_none aim type item e = rw e refl

pub one_some : (aim : Search) (type : ℕ) (item : SeqItem) → wants aim (numbered type item.serial ∷ []) ≡ true
    → find (looks_for aim) (alone type item) ≡ Some (dependent type item)
one_some aim type item e = rw e refl

pub seqs_are : (types : List SegDef) (type : ℕ) (o : Option ℕ) (items : List SeqItem) → o ≡ sequential_type types
    → o ≡ Some type → sequentials types items ≡ flat_map (alone type) items
seqs_are types type o items is some =
    ap (λ (q : Option ℕ). option_map_or (λ t. map (dependent t) items) q []) (sym is ∙ some) ∙ sym
    (flat_map_single (dependent type) items)

-- ---- one root

module _ (types : List SegDef) (aim : Search) (root : Root) where
  abbrev pub root_below : List Occurrence
  root_below = sequentials types root.seqs ++ rows_in_order (child_types types 0) (orders types root.children)

  pub root_past : wants aim [] ≡ false → find (looks_for aim) (at_end root.bytes ∷ root_below) ≡ option_or
      (find (looks_for aim) (sequentials types root.seqs))
      (find (looks_for aim) (rows_in_order (child_types types 0) (orders types root.children)))
  root_past e = rw e (find-append (looks_for aim) (sequentials types root.seqs)
      (rows_in_order (child_types types 0) (orders types root.children)))

  find_root : find (looks_for aim) (root_order types root) ≡ found_below (direct 0 (root_key types root))
      (at_end root.bytes ∷ root_below) (entered aim (direct 0 (root_key types root)))
  find_root = find_under aim (direct 0 (root_key types root)) (at_end root.bytes ∷ root_below)

  pub root_left : IsLeft aim 0 (root_key types root) → find (looks_for aim) (root_order types root) ≡ None
  root_left left = find_root ∙ ap (found_below (direct 0 (root_key types root)) (at_end root.bytes ∷ root_below)) left

  pub root_none : (key : List ℕ) (entering : Option Aim) → key ≡ root_key types root
      → option_map aim_of entering ≡ entered aim (direct 0 key) → entering ≡ None
      → None ≡ find (looks_for aim) (root_order types root)
  root_none key entering same is none = sym (root_left
      (subst (λ (k : List ℕ). entered aim (direct 0 k) ≡ None) same (sym is ∙ ap (option_map aim_of) none)))

  pub root_some : (key : List ℕ) (entering : Option Aim) (below : Aim) → key ≡ root_key types root
      → option_map aim_of entering ≡ entered aim (direct 0 key) → entering ≡ Some below
      → option_map (one_down (direct 0 key)) (find (looks_for (aim_of below)) (at_end root.bytes ∷ root_below)) ≡ find
      (looks_for aim) (root_order types root)
  root_some key entering below same is some =
      let here : entered aim (direct 0 key) ≡ Some (aim_of below) = sym is ∙ ap (option_map aim_of) some in
      subst (λ (k : List ℕ). entered aim (direct 0 k) ≡ Some (aim_of below)
      → option_map (one_down (direct 0 k)) (find (looks_for (aim_of below)) (at_end root.bytes ∷ root_below)) ≡ find
      (looks_for aim) (root_order types root)) (sym same)
      (λ e. sym (find_root ∙ ap (found_below (direct 0 (root_key types root)) (at_end root.bytes ∷ root_below)) e)) here

-- the parts of a root in shape
pub record IsShaped (types : List SegDef) (root : Root) : Type 0 where
  pub rows : are_rows types (child_types types 0) (map (map (seen_as types)) root.children) ≡ true
  pub newest : are_newest_first 0 (2 ^ 64) root.seqs ≡ true

pub shaped : (types : List SegDef) (root : Root) → is_root types any_ends root ≡ true → IsShaped types root
shaped types root e =
    let a = has_length types 0 root.bytes in
    let b = are_rows types (child_types types 0) (map (map (seen_as types)) root.children) in
    let c = are_newest_first 0 (2 ^ 64) root.seqs in
    let d = have_lengths types root.seqs in
    let abc = first_of_both ((a && b) && c) d e in
    record { rows = second_of_both a b (first_of_both (a && b) c abc); newest = second_of_both (a && b) c abc }

-- ---- all roots

pub roots_ascend : (types : List SegDef) (roots : List Root) → are_in_order types roots ≡ true
    → ascend (map (root_key types) roots) ≡ true
roots_ascend types roots e = second_of_both (list_all (is_root types any_ends) roots) (ascend (map (root_key types) roots)) e

pub all_roots : (types : List SegDef) (roots : List Root) → are_in_order types roots ≡ true
    → AllByRecursion (λ r. is_root types any_ends r ≡ true) roots
all_roots types roots e = all_of_list_all (is_root types any_ends) roots
    (first_of_both (list_all (is_root types any_ends) roots) (ascend (map (root_key types) roots)) e)

pub root_shape : (types : List SegDef) (roots : List Root) (i : ℕ) (root : Root) → are_in_order types roots ≡ true
    → i < length roots → root ≡ get_or roots i root → is_root types any_ends root ≡ true
root_shape types roots i root e within is =
    subst (λ (r : Root). is_root types any_ends r ≡ true) (sym is)
    (all_at (λ r. is_root types any_ends r ≡ true) roots i root
    (all_of_list_all (is_root types any_ends) roots (first_of_both (list_all (is_root types any_ends) roots)
    (ascend (map (root_key types) roots)) e)) within)

-- ---- the whole anchor

module _ (types : List SegDef) (have : HavePlaces 0 types) where
  sequential_parent : (place : ℕ) (defs : List SegDef) (k : ℕ) (def : SegDef) → HavePlaces place defs
      → slice_get defs k ≡ Some def → def.sequential ≡ true → def.parent ≡ Some 0
  sequential_parent place [] k def h at is = absurd (none-some def at)
  sequential_parent place (d ∷ ds) zero def h at is =
      subst (λ (x : SegDef). x.sequential ≡ true → x.parent ≡ Some 0) (same_Some d def at) (λ e. (h.0.3 e).1) is
  sequential_parent place (d ∷ ds) (suc k) def h at is = sequential_parent (place + 1) ds k def h.1 at is

-- the type that is sequential has the root's type above it
sequential_below : (types : List SegDef) → HavePlaces 0 types → (type : ℕ) → sequential_type types ≡ Some type
    → parent_of types type ≡ Some 0
sequential_below [] have type e = absurd (none-some type e)
sequential_below (d ∷ ds) have type e =
    let f = position-Some (λ (def : SegDef). def.sequential) (d ∷ ds) type d e in
    let at = slice_get-get_or (d ∷ ds) type d f.0 in
    ap (λ (o : Option SegDef). option_map_or (λ (def : SegDef). def.parent) o None) at ∙ sequential_parent (d ∷ ds) have
    0 (d ∷ ds) type (get_or (d ∷ ds) type d) have at f.1

find_alike_on : {X : Type 0} (p q : X → Bool) (xs : List X) → AllByRecursion (λ x. p x ≡ q x) xs → find p xs ≡ find q xs
find_alike_on p q [] all = refl
find_alike_on p q (x ∷ xs) all = rw all.0 (ap (λ (o : Option _). if q x then Some x else o)
    (find_alike_on p q xs all.1))

find_none_on : {X : Type 0} (p : X → Bool) (xs : List X) → AllByRecursion (λ x. p x ≡ false) xs → find p xs ≡ None
find_none_on p [] all = refl
find_none_on p (x ∷ xs) all = rw all.0 (find_none_on p xs all.1)

abbrev pub aim_at : List Ssa → Option (List Step) → Option (List Step) → Search
aim_at ssas behind within = record { ssas = ssas; above = 0; behind = behind; within = within }

module _ (types : List SegDef) (have : HavePlaces 0 types) where
  seqs_lines : (items : List SeqItem) → AllByRecursion (λ o. IsLine types 0 o.path) (sequentials types items)
  seqs_lines items = by (sequential_type types) refl
    where
      each : (type : ℕ) → parent_of types type ≡ Some 0 → (xs : List SeqItem)
          → AllByRecursion (λ o. IsLine types 0 o.path) (map (dependent type) xs)
      each type up [] = tt
      each type up (x ∷ xs) = ((up, tt), each type up xs)

      by : (o : Option ℕ) → sequential_type types ≡ o
          → AllByRecursion (λ o. IsLine types 0 o.path) (option_map_or (λ type. map (dependent type) items) o [])
      by None e = tt
      by (Some type) e = each type (sequential_below types have type e) items

  root_from : (root : Root) → AllByRecursion (λ o. IsFrom types 0 o.path) (root_order types root)
  root_from root =
      let rows = rows_in_order (child_types types 0) (orders types root.children) in
      under_from types have 0 (root_key types root) (at_end root.bytes ∷ sequentials types root.seqs ++ rows) (
        tt,
        all_append types have (λ o. IsLine types 0 o.path) (sequentials types root.seqs) rows (seqs_lines root.seqs)
            (rows_line types have 0 root.children),
      )

  sequence_from : (roots : List Root) → AllByRecursion (λ o. IsFrom types 0 o.path) (sequence types roots)
  sequence_from [] = tt
  sequence_from (r ∷ rs) = all_append types have (λ o. IsFrom types 0 o.path) (root_order types r) (sequence types rs)
      (root_from r) (sequence_from rs)

  module _ (ssas : List Ssa) (position within : Option Path) where
    abbrev at_anchor : Occurrence → Place
    at_anchor s = record { anchor = 0; path = s.path }

    abbrev passes : Occurrence → Bool
    passes s =
        option_map_or (λ p. place_precedes p (at_anchor s)) (option_map place_of position) true && option_map_or
        (λ p. lies_within p (at_anchor s)) (option_map place_of within) true && admits ssas s.path

    is_behind_is : (s : Occurrence) → option_map_or (λ p. place_precedes p (at_anchor s)) (option_map place_of position)
        true ≡ is_past (path_steps position) s.path
    is_behind_is s = by position
      where
        by : (o : Option Path) → option_map_or (λ p. place_precedes p (at_anchor s)) (option_map place_of o) true ≡
            is_past (path_steps o) s.path
        by None = refl
        by (Some p) = refl

    is_within_is : (s : Occurrence) → option_map_or (λ p. lies_within p (at_anchor s)) (option_map place_of within) true
        ≡ is_inside (path_steps within) s.path
    is_within_is s = by within
      where
        by : (o : Option Path) → option_map_or (λ p. lies_within p (at_anchor s)) (option_map place_of o) true ≡
            is_inside (path_steps o) s.path
        by None = refl
        by (Some p) = refl

    passes_is : can_be_met types ssas ≡ true → (s : Occurrence) → IsFrom types 0 s.path
        → looks_for (aim_at ssas (path_steps position) (path_steps within)) s ≡ passes s
    passes_is can s from = sym (rw (is_behind_is s, is_within_is s, admitted types have ssas s.path from can) refl)

    passes_not : can_be_met types ssas ≡ false → (s : Occurrence) → IsFrom types 0 s.path → passes s ≡ false
    passes_not cannot s from =
        rw (not_admitted types have ssas s.path from cannot)
        (and_false (option_map_or (λ p. place_precedes p (at_anchor s)) (option_map place_of position) true &&
        option_map_or (λ p. lies_within p (at_anchor s)) (option_map place_of within) true))

    pub whole_found : can_be_met types ssas ≡ true → (roots : List Root)
        → find (looks_for (aim_at ssas (path_steps position) (path_steps within))) (sequence types roots) ≡
        first_admitted types 0 roots (option_map place_of position) (option_map place_of within) ssas
    whole_found can roots =
        find_alike_on (looks_for (aim_at ssas (path_steps position) (path_steps within))) passes (sequence types roots)
        (all_weaker (λ o. IsFrom types 0 o.path) (λ o. looks_for (aim_at ssas (path_steps position) (path_steps within))
        o ≡ passes o) (sequence types roots) (passes_is can) (sequence_from roots))

    pub whole_none : can_be_met types ssas ≡ false → (roots : List Root)
        → first_admitted types 0 roots (option_map place_of position) (option_map place_of within) ssas ≡ None
    whole_none cannot roots =
        find_none_on passes (sequence types roots)
        (all_weaker (λ o. IsFrom types 0 o.path) (λ o. passes o ≡ false) (sequence types roots) (passes_not cannot)
        (sequence_from roots))

-- the same of types, roots and arguments that are these
pub whole_answer : (types more : List SegDef) (roots others : List Root) (ssas given : List Ssa)
    (position within : Option Path) (behind inside : Option (List Step)) → more ≡ types → others ≡ roots → given ≡ ssas
    → behind ≡ path_steps position → inside ≡ path_steps within
    → HavePlaces 0 types → can_be_met more given ≡ true
    → find (looks_for (aim_at given behind inside)) (sequence more others) ≡ first_admitted types 0 roots
    (option_map place_of position) (option_map place_of within) ssas
whole_answer types more roots others ssas given position within behind inside a b c d e have can =
    ap (λ (t : List SegDef). find (looks_for (aim_at given behind inside)) (sequence t others)) a
    ∙ ap (λ (r : List Root). find (looks_for (aim_at given behind inside)) (sequence types r)) b
    ∙ ap (λ (s : List Ssa). find (looks_for (aim_at s behind inside)) (sequence types roots)) c
    ∙ ap (λ (p : Option (List Step)). find (looks_for (aim_at ssas p inside)) (sequence types roots)) d
    ∙ ap (λ (p : Option (List Step)). find (looks_for (aim_at ssas (path_steps position) p)) (sequence types roots)) e
    ∙ whole_found types have ssas position within (subst (λ (s : List Ssa). can_be_met types s ≡ true) c
    (subst (λ (t : List SegDef). can_be_met t given ≡ true) a can)) roots

pub none_answer : (types more : List SegDef) (roots : List Root) (ssas given : List Ssa) (position within : Option Path)
    → more ≡ types → given ≡ ssas → HavePlaces 0 types → can_be_met more given ≡ false
    → None ≡ first_admitted types 0 roots (option_map place_of position) (option_map place_of within) ssas
none_answer types more roots ssas given position within a c have cannot =
    sym (whole_none types have ssas position within
    (subst (λ (s : List Ssa). can_be_met types s ≡ false) c
    (subst (λ (t : List SegDef). can_be_met t given ≡ false) a cannot)) roots)

-- what searches of the parts of a root answered
pub seq_answer : (types : List SegDef) (aim : Search) (seqs given : List SeqItem) (found : Option (Path × List ℕ))
    → given ≡ seqs
    → (are_newest_first 0 (2 ^ 64) given ≡ true → option_map occurrence_of found ≡ find (looks_for aim)
    (sequentials types given))
    → are_newest_first 0 (2 ^ 64) seqs ≡ true → option_map occurrence_of found ≡ find (looks_for aim)
    (sequentials types seqs)
seq_answer types aim seqs given found same answer newest =
    subst (λ (s : List SeqItem). (are_newest_first 0 (2 ^ 64) s ≡ true
    → option_map occurrence_of found ≡ find (looks_for aim) (sequentials types s))) same answer newest

pub rows_answer : {E : Type 0} (types : List SegDef) (aim : Search) (rows given : List (List Node))
    (r : Result (Option (Path × List ℕ)) E) → given ≡ rows
    → (are_rows types (child_types types 0) (map (map (seen_as types)) given) ≡ true
    → IfOk r (λ found. option_map occurrence_of found ≡ find (looks_for aim)
    (rows_in_order (child_types types 0) (orders types given))))
    → are_rows types (child_types types 0) (map (map (seen_as types)) rows) ≡ true
    → IfOk r (λ found. option_map occurrence_of found ≡ find (looks_for aim)
    (rows_in_order (child_types types 0) (orders types rows)))
rows_answer types aim rows given r same answer shape =
    subst (λ (rs : List (List Node)). (are_rows types (child_types types 0) (map (map (seen_as types)) rs) ≡ true
    → IfOk r (λ found. option_map occurrence_of found ≡ find (looks_for aim)
    (rows_in_order (child_types types 0) (orders types rs))))) same answer shape
