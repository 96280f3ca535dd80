-- Inserts: their paths, whether parents stand, and what an insert comes to.
use Rattle.std.proofs.Common.{◌≡◌, ℕ, zero, suc, ◌+◌, ◌-◌, ◌≤◌, List, [], ◌∷◌, ◌++◌, map, length, take, Option, Some, None, refl, sym, ◌∙◌, ap, subst, Bool, true, false, not, ◌==◌, ◌⊎◌, inl, inr, slice_get, unwrap_or, arith}
use Rattle.std.specs.Prelude.{codes, IfSome, if◌then◌else◌, is_some}
use Rattle.std.specs.List.{AllByRecursion}
use Rattle.std.specs.Option.{option_map_or}
use Rattle.fp_model.specs.declared.calls.Call.TheVariants as call
use Rattle.fp_model.specs.declared.calls.Mode.{Mode}
use Rattle.fp_model.specs.declared.calls.Mode.TheVariants.{Exclusive}
use Rattle.fp_model.specs.declared.calls.Resource.{Resource}
use Rattle.fp_model.specs.declared.calls.Resource.TheVariants.{Anchor}
use Rattle.fp_model.specs.declared.calls.SeqInsert.{SeqInsert}
use Rattle.fp_model.specs.declared.calls.Ssa.{Ssa}
use Rattle.fp_model.specs.declared.database.Db.{Db}
use Rattle.fp_model.specs.declared.database.Root.{Root}
use Rattle.fp_model.specs.declared.definitions.DedbDef.{DedbDef}
use Rattle.fp_model.specs.declared.definitions.FieldDef.{FieldDef}
use Rattle.fp_model.specs.declared.definitions.SegDef.{SegDef}
use Rattle.fp_model.specs.Answers.{Needed, Replied, answered, blank}
use Rattle.fp_model.specs.DedbCalls as dedb
use Rattle.fp_model.specs.Exits.{anchor_of}
use Rattle.fp_model.specs.FitCalls.{AreFitSsas, FitsSsa}
use Rattle.fp_model.specs.Order.{Inserts, Step, bytes_at, direct, edited, is_sequential, key_in, last_type, line_to, line_within, parent_of}
use Rattle.fp_model.specs.Shape.{has_length, is_anchor}
use Rattle.fp_model.specs.State.{key_length, key_of}
use Rattle.fp_model.specs.Texts.{same_text}
use Rattle.fp_model.specs.WellFormed.{IsDedbDef, StandFrom, IsNoSequentialChild, IsSegDef}
use Rattle.fp_model.specs.Workspace.{DedbPosition, Workspace}
use Rattle.dli_tree.specs.Descents.{leads_to}
use Rattle.dli_tree.specs.InOrder.{any_ends, are_in_order}
use Rattle.dli_tree.specs.Paths.{step_of, steps_of}
use Rattle.dli_tree.specs.declared.path.Step.{Step as StepOf}
use Rattle.dli_tree.proofs.Leading.{leads_is}
use Rattle.state_laws.specs.Edits.{AreDirect as EditDirect, FitsEdit, FitsEnd}
use Rattle.state_laws.proofs.Lists.{all_at}
use Rattle.state_laws.proofs.Paths.{ends_fit, insert_direct}
use Rattle.state_laws.proofs.Roots.{edited_good}
use Rattle.dedb_calls.specs.Anchors.{Ascend, Sees, held_at}
use Rattle.dedb_calls.specs.inside.Calls.{is_locked}
use Rattle.dedb_calls.specs.inside.Inserts.{AreDirectOrNone, HasJudged, IsEditedTo, IsNewOf, with_queued}
use Rattle.dedb_calls.specs.Progress.{DedbProgress, FitsDedb, GoesOn, Knows, position_in, with_progress}
use Rattle.dedb_calls.specs.inside.Progress.{roots_in, with_position_at}
use Rattle.dedb_calls.specs.Readiness.{ComesTo}
use Rattle.dedb_calls.specs.inside.Searches.{HasRoots}
use Rattle.dedb_calls.specs.declared.anchors.HeldAnchor.{HeldAnchor}
use Rattle.dedb_calls.specs.declared.insert.Judged.TheVariants as judged
use Rattle.dedb_calls.specs.declared.insert.NewSegment.{NewSegment}
use Rattle.dedb_calls.specs.declared.ready.DedbReady.{DedbReady}
use Rattle.dedb_calls.specs.declared.ready.DedbReady.TheVariants as ready
use Rattle.dedb_calls.proofs.RandomizerLemmas.{first_type, root_key_fits}
use Rattle.dedb_calls.proofs.SearchLemmas.{held_roots}
use Rattle.dedb_calls.proofs.EditLemmas.{edited_own}
use Rattle.dedb_calls.proofs.SeenLemmas.{in_order, is_there, let_go_fits, moves, seen_roots, serves_some}
use Rattle.plain_laws.proofs.Alls.{all_push, all_taken}
use Rattle.plain_laws.proofs.Truths.{first_of_both, second_of_both}
use Rattle.model_laws.proofs.Layouts.{key_within}
use Rattle.plain_laws.proofs.Lists.{map_length}
use Rattle.model_laws.proofs.Texts.{same_text_is}
use Rattle.std.proofs.lemmas.Option.{same_Some}

-- ---- lists

some_end : {X : Type 0} (zs : List X) (x : X) → 1 ≤ length (zs ++ x ∷ [])
some_end [] x = omega arith
some_end (z ∷ zs) x = omega arith

one_less : {X : Type 0} (y : X) (zs : List X) → 1 ≤ length zs → length (y ∷ zs) - 1 ≡ suc (length zs - 1)
one_less y zs least = omega arith

take_front : {X : Type 0} (xs : List X) (x : X) → take (length (xs ++ x ∷ []) - 1) (xs ++ x ∷ []) ≡ xs
take_front [] x = refl
take_front (y ∷ ys) x =
    ap (λ n. take n (y ∷ (ys ++ x ∷ []))) (one_less y (ys ++ x ∷ []) (some_end ys x))
    ∙ ap (λ rest. y ∷ rest) (take_front ys x)

take_map : {X Y : Type 0} (f : X → Y) (n : ℕ) (xs : List X) → take n (map f xs) ≡ map f (take n xs)
take_map f zero xs = refl
take_map f (suc n) [] = refl
take_map f (suc n) (x ∷ xs) = ap (λ rest. f x ∷ rest) (take_map f n xs)

all_mapped : {X Y : Type 0} (P : Y → Type 0) (f : X → Y) (xs : List X) → AllByRecursion P (map f xs)
    → AllByRecursion (λ x. P (f x)) xs
all_mapped P f [] all = tt
all_mapped P f (x ∷ xs) all = (all.0, all_mapped P f xs all.1)

-- ---- types on a line

module _ (def : DedbDef) (good : IsDedbDef def) where
  abbrev Direct : ℕ → Type 0
  Direct t = is_sequential def.segments t ≡ false

  -- nothing has the sequential type as its parent
  parent_direct : (t p : ℕ) → parent_of def.segments t ≡ Some p → Direct p
  parent_direct t p e = by (slice_get def.segments t) refl e
    where
      at : (d : SegDef) → slice_get def.segments t ≡ Some d → d.parent ≡ Some p → (o : Option SegDef)
          → slice_get def.segments p ≡ o → option_map_or (λ (q : SegDef). q.sequential) o false ≡ false
      at d there up None is = refl
      at d there up (Some q) is =
          let none : IsNoSequentialChild def.segments d =
          (all_at (IsSegDef def.segments) def.segments t d good.each_type there).parent in
          subst (λ o. IfSome o (λ parent. (x : SegDef) → slice_get def.segments parent ≡ Some x → x.sequential ≡ false))
          up none q is

      by : (o : Option SegDef) → slice_get def.segments t ≡ o
          → option_map_or (λ (d : SegDef). d.parent) o None ≡ Some p → Direct p
      by None is up = absurd (cc)
      by (Some d) is up = at d is up (slice_get def.segments p) refl

  line_direct : (n t : ℕ) → Direct t → AllByRecursion Direct (line_within n def.segments t)
  line_direct zero t direct = (direct, tt)
  line_direct (suc n) t direct = by (parent_of def.segments t) refl (λ p up. line_direct n p up)
    where
      by : (o : Option ℕ) → parent_of def.segments t ≡ o
          → ((p : ℕ) → Direct p → AllByRecursion Direct (line_within n def.segments p))
          → AllByRecursion Direct (option_map_or (λ p. line_within n def.segments p ++ t ∷ []) o (t ∷ []))
      by None is later = (direct, tt)
      by (Some p) is later = all_push Direct (line_within n def.segments p) t (later p (parent_direct t p is)) direct

  -- all on a line but its end
  front_direct : (n t : ℕ) → AllByRecursion Direct
      (take (length (line_within n def.segments t) - 1) (line_within n def.segments t))
  front_direct zero t = tt
  front_direct (suc n) t = by (parent_of def.segments t) refl
    where
      by : (o : Option ℕ) → parent_of def.segments t ≡ o
          → AllByRecursion Direct
          (take (length (option_map_or (λ p. line_within n def.segments p ++ t ∷ []) o (t ∷ [])) - 1)
          (option_map_or (λ p. line_within n def.segments p ++ t ∷ []) o (t ∷ [])))
      by None is = tt
      by (Some p) is =
          subst (AllByRecursion Direct) (sym (take_front (line_within n def.segments p) t))
          (line_direct n p (parent_direct t p is))

  -- ---- the path of an insert

  module _ (number : ℕ) (ssas : List Ssa) (bytes : List ℕ)
      (ok : dedb.are_insert_arguments def number ssas ≡ true) (fit : AreFitSsas def.segments ssas) where
    abbrev path : List Step
    path = dedb.insert_path def number ssas bytes

    abbrev type : ℕ
    type = dedb.type_of_last def number ssas

    only : dedb.only_last_unqualified def number ssas ≡ true
    only = first_of_both (dedb.only_last_unqualified def number ssas)
        (same_text (map (λ (a : Ssa). a.segment) ssas) (line_to def.segments type)) ok

    line : map (λ (a : Ssa). a.segment) ssas ≡ line_to def.segments type
    line = same_text_is (map (λ (a : Ssa). a.segment) ssas) (line_to def.segments type)
        (second_of_both (dedb.only_last_unqualified def number ssas)
        (same_text (map (λ (a : Ssa). a.segment) ssas) (line_to def.segments type)) ok)

    path_types : (list : List Ssa) → map (λ (s : Step). s.segment) (dedb.insert_path def number list bytes)
        ≡ map (λ (a : Ssa). a.segment) list
    path_types [] = refl
    path_types (a ∷ rest) = ap (λ ts. a.segment ∷ ts) (path_types rest)

    types_are : map (λ (s : Step). s.segment) path ≡ line_to def.segments type
    types_are = path_types ssas ∙ line

    long : length path ≡ length (line_to def.segments type)
    long = sym (map_length (λ (s : Step). s.segment) path) ∙ ap length types_are

    parents_all : AllByRecursion (λ (s : Step). is_sequential def.segments s.segment ≡ false) (dedb.parents_in path)
    parents_all = all_mapped Direct (λ (s : Step). s.segment) (take (length path - 1) path)
        (subst (AllByRecursion Direct)
        (ap (λ n. take (n - 1) (line_to def.segments type)) (sym long)
        ∙ ap (take (length path - 1)) (sym types_are)
        ∙ take_map (λ (s : Step). s.segment) (length path - 1) path)
        (front_direct (length def.segments) type))

    path_all : Direct type → AllByRecursion (λ (s : Step). is_sequential def.segments s.segment ≡ false) path
    path_all direct = all_mapped Direct (λ (s : Step). s.segment) path
        (subst (AllByRecursion Direct) (sym types_are) (line_direct (length def.segments) type direct))

    from_root : (steps : List Step) → IfSome (slice_get steps 0) (λ s. s.segment ≡ 0)
        → AllByRecursion (λ s. s.serial ≡ 0) steps
        → AllByRecursion (λ (s : Step). is_sequential def.segments s.segment ≡ false) steps
        → AreDirectOrNone def.segments steps
    from_root [] begins serials types = tt
    from_root (s ∷ ss) begins serials types = (begins, serials, types)

    first_taken : (n : ℕ) (steps : List Step) → IfSome (slice_get steps 0) (λ s. s.segment ≡ 0)
        → IfSome (slice_get (take n steps) 0) (λ s. s.segment ≡ 0)
    first_taken zero steps begins = tt
    first_taken (suc n) [] begins = tt
    first_taken (suc n) (s ∷ ss) begins = begins

    pub parents_direct : AreDirectOrNone def.segments (dedb.parents_in path)
    parents_direct =
        let d = insert_direct def number bytes ssas good.places fit ok in
        from_root (dedb.parents_in path) (first_taken (length path - 1) path d.0)
        (all_taken (λ s. s.serial ≡ 0) (length path - 1) path d.1) parents_all

    pub path_direct : Direct type → AreDirectOrNone def.segments path
    path_direct direct =
        let d = insert_direct def number bytes ssas good.places fit ok in
        from_root path d.0 d.1 (path_all direct)

-- ---- whether a path stands

pub stands_as : (def : DedbDef) (number : ℕ) (roots : List Root) (path : List Step)
    → are_in_order def.segments roots ≡ true → AreDirectOrNone def.segments path → (1 ≤ length path)
    → leads_to def.segments roots path ≡ dedb.stands_at def number roots path
stands_as def number roots [] order direct some = absurd (omega (arith, some))
stands_as def number roots (s ∷ ss) order direct some = leads_is def.segments roots (s ∷ ss) order direct

pub none_stand : (def : DedbDef) (number : ℕ) (roots : List Root) (path : List Step) → length path ≤ 1
    → true ≡ dedb.stands_at def number roots (dedb.parents_in path)
none_stand def number roots [] few = refl
none_stand def number roots (s ∷ []) few = refl
none_stand def number roots (s ∷ t ∷ ts) few = absurd (omega (arith, few))

parents_of : (steps : List StepOf) → steps_of (take (length steps - 1) steps) ≡ dedb.parents_in (steps_of steps)
parents_of steps =
    sym (take_map step_of (length steps - 1) steps)
    ∙ ap (λ n. take (n - 1) (steps_of steps)) (sym (map_length step_of steps))

some_left : (n : ℕ) → 2 ≤ n → 1 ≤ n - 1
some_left n more = omega (arith, more)

length_taken : {X : Type 0} (xs : List X) (n : ℕ) → n ≤ length xs → length (take n xs) ≡ n
length_taken xs zero few = refl
length_taken [] (suc n) few = absurd (omega (arith, few))
length_taken (x ∷ xs) (suc n) few = let later = length_taken xs n (omega (arith, few)) in omega (arith, later)

pub parents_lead : (types : List SegDef) (def : DedbDef) (number : ℕ) (roots : List Root) (steps : List StepOf)
    → def.segments ≡ types → are_in_order types roots ≡ true
    → AreDirectOrNone types (dedb.parents_in (steps_of steps)) → 2 ≤ length steps
    → leads_to types roots (steps_of (take (length steps - 1) steps))
    ≡ dedb.stands_at def number roots (dedb.parents_in (steps_of steps))
parents_lead types def number roots steps same order direct more =
    ap (leads_to types roots) (parents_of steps)
    ∙ ap (λ (ts : List SegDef). leads_to ts roots (dedb.parents_in (steps_of steps))) (sym same)
    ∙ stands_as def number roots (dedb.parents_in (steps_of steps))
    (subst (λ (ts : List SegDef). are_in_order ts roots ≡ true) (sym same) order)
    (subst (λ (ts : List SegDef). AreDirectOrNone ts (dedb.parents_in (steps_of steps))) (sym same) direct)
    (let long : length (dedb.parents_in (steps_of steps)) ≡ length steps - 1 =
    ap length (sym (parents_of steps)) ∙ map_length step_of (take (length steps - 1) steps)
    ∙ length_taken steps (length steps - 1) (omega arith) in
    let left = some_left (length steps) more in
    omega (arith, long, left))

-- ---- root keys of inserts

-- the key of a whole segment
key_long : (types : List SegDef) (d : SegDef) (type : ℕ) (bytes : List ℕ) → slice_get types type ≡ Some d
    → StandFrom 0 d.fields d.length → has_length types type bytes ≡ true
    → length (key_in types type bytes) ≡ key_length d.fields
key_long types d type bytes at stand long =
    ap (λ o. length (option_map_or (λ (x : SegDef). key_of x.fields bytes) o [])) at
    ∙ length_taken bytes (key_length d.fields)
    (let whole = number_is (length bytes) d.length
    (sym (ap (λ o. option_map_or (λ (x : SegDef). length bytes == x.length) o false) at) ∙ long) in
    let within = key_within d.fields d.length stand in
    omega (arith, whole, within))
  where
    number_is : (x y : ℕ) → (x == y) ≡ true → x ≡ y
    number_is x y h = grind arith

pub insert_key_fits : (def : DedbDef) (number : ℕ) (ssas : List Ssa) (bytes : List ℕ) (root : Step) → IsDedbDef def
    → dedb.are_insert_arguments def number ssas ≡ true → AreFitSsas def.segments ssas
    → has_length def.segments (last_type 0 ssas) bytes ≡ true
    → slice_get (dedb.insert_path def number ssas bytes) 0 ≡ Some root → (1 ≤ length root.key) × (length root.key ≤ 64)
insert_key_fits def number [] bytes root good ok fit long at = absurd (cc)
insert_key_fits def number (a ∷ rest) bytes root good ok fit long at =
    let its = fit.0 in
    let d = insert_direct def number bytes (a ∷ rest) good.places fit ok in
    let first : slice_get def.segments 0 ≡ Some its.def = ap (slice_get def.segments) (sym d.0) ∙ its.named in
    let bounds = root_key_fits def its.def good first in
    let type = first_type def its.def good first in
    let n : length root.key ≡ key_length its.def.fields =
    ap (λ (s : Step). length s.key) (sym (same_Some _ root at))
    ∙ by its rest a.key refl type.1 type.0
    (first_of_both (dedb.only_last_unqualified def number (a ∷ rest))
    (same_text (map (λ (b : Ssa). b.segment) (a ∷ rest))
    (line_to def.segments (dedb.type_of_last def number (a ∷ rest)))) ok) long in
    (omega (arith, bounds.0, n), omega (arith, bounds.1, n))
  where
    by : (its : FitsSsa def.segments a) (list : List Ssa) (o : Option (List ℕ)) → a.key ≡ o
        → its.def.sequential ≡ false → StandFrom 0 its.def.fields its.def.length
        → dedb.only_last_unqualified def number (a ∷ list) ≡ true
        → has_length def.segments (last_type 0 (a ∷ list)) bytes ≡ true
        → length (unwrap_or a.key (key_in def.segments a.segment bytes)) ≡ key_length its.def.fields
    by its list (Some key) is direct stand only long2 =
        ap (λ k. length (unwrap_or k (key_in def.segments a.segment bytes))) is ∙ fits its.key_fits
      where
        fits : (its.def.sequential ≡ true) ⊎ IfSome a.key (λ k. length k ≡ key_length its.def.fields)
            → length key ≡ key_length its.def.fields
        fits (inl s) = absurd (cc)
        fits (inr f) = subst (λ k. IfSome k (λ x. length x ≡ key_length its.def.fields)) is f
    by its [] None is direct stand only long2 =
        ap (λ k. length (unwrap_or k (key_in def.segments a.segment bytes))) is
        ∙ key_long def.segments its.def a.segment bytes its.named stand long2
    by its (b ∷ more) None is direct stand only long2 =
        absurd (not_qualified (sym (first_of_both (dedb.is_qualified a) (dedb.only_last_unqualified def number (b ∷ more))
        only) ∙ ap is_some is))
      where
        not_qualified : true ≡ false → ⊥
        not_qualified e = cc

-- ---- what an insert comes to

-- its arguments aren't such
pub insert_refused : (def : DedbDef) (number : ℕ) (held : Resource → Option Mode) (work : DedbProgress)
    → (ssas : List Ssa) (bytes : List ℕ) (n : ℕ) → dedb.are_insert_arguments def number ssas ≡ false
    → (end : DedbProgress) (came : DedbReady)
    → end ≡ with_position_at number (record (position_in work number) { held = false }) work
    → came ≡ ready.Answer (answered (codes "AM"))
    → ComesTo number (λ db own. dedb.dedb_need def number db own held (call.Isrt n ssas bytes))
    (λ db own. dedb.isrt_reply def number db own ssas bytes) work end came
insert_refused def number held work ssas bytes n e end came end_is came_is =
    subst (λ (w : DedbProgress). ComesTo number (λ db own. dedb.dedb_need def number db own held
    (call.Isrt n ssas bytes))
    (λ db own. dedb.isrt_reply def number db own ssas bytes) work w came) (sym end_is)
    (subst (λ (r : DedbReady). ComesTo number
    (λ db own. dedb.dedb_need def number db own held (call.Isrt n ssas bytes))
    (λ db own. dedb.isrt_reply def number db own ssas bytes) work
    (with_position_at number (record (position_in work number) { held = false }) work) r) (sym came_is) (record {
      need = λ db own sees.
          sym (ap (λ b. if b then dedb.unless_locked def number held Exclusive
          (dedb.anchor_of_path def number (dedb.insert_path def number ssas bytes)) else None) e);
      answer = λ db own sees.
          ap (λ b. if b then dedb.isrt_at def number (dedb.roots_seen def number db (with_progress work own)
          (dedb.anchor_of_path def number (dedb.insert_path def number ssas bytes))) (with_progress work own)
          (dedb.type_of_last def number ssas) (dedb.insert_path def number ssas bytes) bytes
          else dedb.refused def number (with_progress work own) (codes "AM")) e;
    }))

module _ (def : DedbDef) (good : IsDedbDef def) (number : ℕ) (held : Resource → Option Mode) (work : DedbProgress)
    (fits : FitsDedb def number work) (order : Ascend work.anchors) (known : Knows held work.anchors) (ssas : List Ssa)
    (new : NewSegment) (its : IsNewOf def number ssas new) where
  abbrev steps : List Step
  steps = steps_of new.path.steps

  abbrev lock : Bool
  lock = is_locked held number Exclusive new.anchor

  abbrev roots : List Root
  roots = roots_in work.anchors number new.anchor

  abbrev parents : Bool
  parents = dedb.stands_at def number roots (dedb.parents_in steps)

  abbrev there : Bool
  there = dedb.stands_at def number roots steps

  abbrev queues : Bool
  queues = is_sequential def.segments new.segment

  -- paths
  pub new_parents : AreDirectOrNone def.segments (dedb.parents_in steps)
  new_parents =
      subst (λ (p : List Step). AreDirectOrNone def.segments (dedb.parents_in p)) (sym its.insert.path_is)
      (parents_direct def good number ssas new.bytes its.insert.arguments its.insert.fits)

  pub new_path : queues ≡ false → AreDirectOrNone def.segments steps
  new_path direct =
      subst (AreDirectOrNone def.segments) (sym its.insert.path_is)
      (path_direct def good number ssas new.bytes its.insert.arguments its.insert.fits
      (ap (is_sequential def.segments) (sym its.segment) ∙ direct))

  -- what is held of its anchor
  pub one_there : lock ≡ true → (a : HeldAnchor) × (held_at work.anchors number new.anchor ≡ Some a)
  one_there locked =
      is_there (held_at work.anchors number new.anchor)
      (known number new.anchor (serves_some (held (Anchor number new.anchor)) Exclusive locked))

  -- what is judged
  some_steps : 1 ≤ length steps
  some_steps =
      let long : length steps ≡ length ssas =
      ap length its.insert.path_is
      ∙ map_length (λ (a : Ssa). direct a.segment (unwrap_or a.key (key_in def.segments a.segment new.bytes))) ssas in
      let some = few ssas (first_of_both (dedb.only_last_unqualified def number ssas)
      (same_text (map (λ (b : Ssa). b.segment) ssas) (line_to def.segments (dedb.type_of_last def number ssas)))
      its.insert.arguments) in
      omega (arith, long, some)
    where
      few : (list : List Ssa) → dedb.only_last_unqualified def number list ≡ true → 1 ≤ length list
      few [] e = absurd (cc)
      few (a ∷ rest) e = omega arith

  module _ (anchors : List HeldAnchor) (same : anchors ≡ work.anchors) (mine : List Root)
      (has : HasRoots number new.anchor anchors mine lock) (types : List SegDef) (types_are : types ≡ def.segments)
      (rs : List Root) (rs_are : rs ≡ mine) (list : List StepOf) (list_is : list ≡ new.path.steps) where
    at_one : held_at work.anchors number new.anchor ≡ Some has.one
    at_one = subst (λ (xs : List HeldAnchor). held_at xs number new.anchor ≡ Some has.one) same has.there

    roots_are : rs ≡ roots
    roots_are = rs_are ∙ sym (held_roots work.anchors number new.anchor has.one mine at_one has.its)

    roots_order : are_in_order def.segments roots ≡ true
    roots_order =
        subst (λ (xs : List Root). are_in_order def.segments xs ≡ true)
        (sym (held_roots work.anchors number new.anchor has.one has.one.roots at_one refl))
        (in_order def new.anchor has.one.roots (fits.shapes new.anchor has.one at_one))

    pub parents_as : (b : Bool)
        → (are_in_order types rs ≡ true → (d : DedbDef) (k : ℕ) → d.segments ≡ types
        → AreDirectOrNone types (dedb.parents_in (steps_of list))
        → b ≡ dedb.stands_at d k rs (dedb.parents_in (steps_of list)))
        → b ≡ parents
    parents_as b f =
        let f1 = subst (λ (ts : List SegDef). are_in_order ts rs ≡ true → (d : DedbDef) (k : ℕ) → d.segments ≡ ts
        → AreDirectOrNone ts (dedb.parents_in (steps_of list))
        → b ≡ dedb.stands_at d k rs (dedb.parents_in (steps_of list))) types_are f in
        let f2 = subst (λ (xs : List Root). are_in_order def.segments xs ≡ true → (d : DedbDef) (k : ℕ)
        → d.segments ≡ def.segments
        → AreDirectOrNone def.segments (dedb.parents_in (steps_of list))
        → b ≡ dedb.stands_at d k xs (dedb.parents_in (steps_of list))) roots_are f1 in
        let f3 = subst (λ (l : List StepOf). are_in_order def.segments roots ≡ true → (d : DedbDef) (k : ℕ)
        → d.segments ≡ def.segments
        → AreDirectOrNone def.segments (dedb.parents_in (steps_of l))
        → b ≡ dedb.stands_at d k roots (dedb.parents_in (steps_of l))) list_is f2 in
        f3 roots_order def number refl new_parents

    pub kind_as : (b : Bool) → b ≡ is_sequential types new.segment → b ≡ queues
    kind_as b f = f ∙ ap (λ (ts : List SegDef). is_sequential ts new.segment) types_are

    pub there_as : (b : Bool) → (are_in_order types rs ≡ true → b ≡ leads_to types rs (steps_of list))
        → queues ≡ false → b ≡ there
    there_as b f direct =
        let f1 = subst (λ (ts : List SegDef). are_in_order ts rs ≡ true → b ≡ leads_to ts rs (steps_of list))
        types_are f in
        let f2 = subst (λ (xs : List Root). are_in_order def.segments xs ≡ true
        → b ≡ leads_to def.segments xs (steps_of list)) roots_are f1 in
        let f3 = subst (λ (l : List StepOf). are_in_order def.segments roots ≡ true
        → b ≡ leads_to def.segments roots (steps_of l)) list_is f2 in
        f3 roots_order ∙ stands_as def number roots steps roots_order (new_path direct) some_steps

  module _ (n : ℕ) where
    abbrev Needs : Db → Workspace → Option Needed
    Needs db own = dedb.dedb_need def number db own held (call.Isrt n ssas new.bytes)

    abbrev Replies : Db → Workspace → Replied
    Replies db own = dedb.isrt_reply def number db own ssas new.bytes

    abbrev wanted : Needed
    wanted = record { resource = Anchor number new.anchor; mode = Exclusive }

    needs_is : (db : Db) (own : Workspace) → Needs db own ≡ (if lock then None else Some wanted)
    needs_is db own =
        ap (λ b. if b then dedb.unless_locked def number held Exclusive
        (dedb.anchor_of_path def number (dedb.insert_path def number ssas new.bytes)) else None) its.insert.arguments
        ∙ ap (λ (p : List Step). dedb.unless_locked def number held Exclusive (dedb.anchor_of_path def number p))
        (sym its.insert.path_is)
        ∙ ap (dedb.unless_locked def number held Exclusive) (sym its.anchor)

    abbrev answer_at : List Root → Workspace → Replied
    answer_at rs own = dedb.isrt_at def number rs own new.segment steps new.bytes

    reply_is : (db : Db) (own : Workspace)
        → Replies db own ≡ answer_at (dedb.roots_seen def number db own new.anchor) own
    reply_is db own =
        ap (λ b. if b then dedb.isrt_at def number (dedb.roots_seen def number db own (dedb.anchor_of_path def number
        (dedb.insert_path def number ssas new.bytes))) own (dedb.type_of_last def number ssas)
        (dedb.insert_path def number ssas new.bytes) new.bytes
        else dedb.refused def number own (codes "AM")) its.insert.arguments
        ∙ ap (λ (p : List Step). dedb.isrt_at def number (dedb.roots_seen def number db own (dedb.anchor_of_path def
        number p)) own (dedb.type_of_last def number ssas) p new.bytes) (sym its.insert.path_is)
        ∙ ap (λ (k : ℕ). dedb.isrt_at def number (dedb.roots_seen def number db own k) own
        (dedb.type_of_last def number ssas) steps new.bytes) (sym its.anchor)
        ∙ ap (λ (t : ℕ). dedb.isrt_at def number (dedb.roots_seen def number db own new.anchor) own t steps new.bytes)
        (sym its.segment)

    module _ (locked : lock ≡ true) where
      none_needed : (db : Db) (own : Workspace) → None ≡ Needs db own
      none_needed db own = sym (needs_is db own ∙ ap (λ b. if b then None else Some wanted) locked)

      answered_as : (db : Db) (own : Workspace) → Sees db work.anchors
          → Replies db (with_progress work own) ≡ answer_at roots (with_progress work own)
      answered_as db own sees =
          let a = one_there locked in
          reply_is db (with_progress work own)
          ∙ ap (λ (rs : List Root). answer_at rs (with_progress work own))
          (seen_roots def number new.anchor db work own a.0 order sees a.1
          ∙ sym (held_roots work.anchors number new.anchor a.0 a.0.roots a.1 refl))

      abbrev all : Workspace → Workspace
      all own = with_progress work own

      -- the answer, by what is judged
      by_parents : parents ≡ false → (own : Workspace)
          → answer_at roots (all own) ≡ dedb.refused def number (all own) (codes "GE")
      by_parents e own = ap (λ b. if not b then dedb.refused def number (all own) (codes "GE")
          else if queues then dedb.queued_insert def number (all own) steps new.bytes
          else if there then dedb.refused def number (all own) (codes "II")
          else dedb.inserted def number roots (all own) steps new.bytes) e

      by_kind : parents ≡ true → (b : Bool) → queues ≡ b → (own : Workspace)
          → answer_at roots (all own) ≡ (if b then dedb.queued_insert def number (all own) steps new.bytes
          else if there then dedb.refused def number (all own) (codes "II")
          else dedb.inserted def number roots (all own) steps new.bytes)
      by_kind e b f own =
          ap (λ b. if not b then dedb.refused def number (all own) (codes "GE")
          else if queues then dedb.queued_insert def number (all own) steps new.bytes
          else if there then dedb.refused def number (all own) (codes "II")
          else dedb.inserted def number roots (all own) steps new.bytes) e
          ∙ ap (λ b. if b then dedb.queued_insert def number (all own) steps new.bytes
          else if there then dedb.refused def number (all own) (codes "II")
          else dedb.inserted def number roots (all own) steps new.bytes) f

      by_twin : parents ≡ true → queues ≡ false → (b : Bool) → there ≡ b → (own : Workspace)
          → answer_at roots (all own) ≡ (if b then dedb.refused def number (all own) (codes "II")
          else dedb.inserted def number roots (all own) steps new.bytes)
      by_twin e f b g own =
          by_kind e false f own
          ∙ ap (λ b. if b then dedb.refused def number (all own) (codes "II")
          else dedb.inserted def number roots (all own) steps new.bytes) g

    ends_as : (end end2 : DedbProgress) (came came2 : DedbReady) → end ≡ end2 → came ≡ came2
        → ComesTo number Needs Replies work end2 came2 → ComesTo number Needs Replies work end came
    ends_as end end2 came came2 same answered_so h =
        subst (λ (w : DedbProgress). ComesTo number Needs Replies work w came) (sym same)
        (subst (λ (r : DedbReady). ComesTo number Needs Replies work end2 r) (sym answered_so) h)

    abbrev let_go : DedbProgress
    let_go = with_position_at number (record (position_in work number) { held = false }) work

    pub insert_unlocked : lock ≡ false → ComesTo number Needs Replies work work (ready.Need new.anchor Exclusive)
    insert_unlocked e = record {
      need = λ db own sees.
          sym (needs_is db (with_progress work own) ∙ ap (λ b. if b then None else Some wanted) e);
      answer = λ db own sees. tt;
    }

    pub insert_parentless : (end : DedbProgress) (came : DedbReady) → end ≡ let_go
        → came ≡ ready.Answer (answered (codes "GE")) → HasJudged judged.NoParent lock parents queues there
        → ComesTo number Needs Replies work end came
    insert_parentless end came end_is came_is h =
        ends_as end let_go came (ready.Answer (answered (codes "GE"))) end_is came_is (record {
          need = λ db own sees. none_needed h.0 db (with_progress work own);
          answer = λ db own sees. answered_as h.0 db own sees ∙ by_parents h.0 h.1 own;
        })

    pub insert_twin : (end : DedbProgress) (came : DedbReady) → end ≡ let_go
        → came ≡ ready.Answer (answered (codes "II")) → HasJudged judged.There lock parents queues there
        → ComesTo number Needs Replies work end came
    insert_twin end came end_is came_is h =
        ends_as end let_go came (ready.Answer (answered (codes "II"))) end_is came_is (record {
          need = λ db own sees. none_needed h.0 db (with_progress work own);
          answer = λ db own sees. answered_as h.0 db own sees ∙ by_twin h.0 h.1 h.2 true h.3 own;
        })

    abbrev queued : DedbProgress
    queued = with_queued number (record {
      dedb = number;
      anchor = new.anchor;
      key = dedb.root_key_of def number steps;
      bytes = new.bytes;
    }) work

    abbrev queues_at : Workspace → ℕ → Replied
    queues_at own k = record {
      answer = answered blank;
      own = record (dedb.hold_ended def number (with_progress work own)) {
        inserts = work.inserts ++ (record {
          dedb = number;
          anchor = k;
          key = dedb.root_key_of def number steps;
          bytes = new.bytes;
        }) ∷ [];
      };
    }

    pub insert_queued : (end : DedbProgress) (came : DedbReady) → end ≡ queued
        → came ≡ ready.Answer (answered blank) → HasJudged judged.Sequential lock parents queues there
        → ComesTo number Needs Replies work end came
    insert_queued end came end_is came_is h =
        ends_as end queued came (ready.Answer (answered blank)) end_is came_is (record {
          need = λ db own sees. none_needed h.0 db (with_progress work own);
          answer = λ db own sees.
              answered_as h.0 db own sees ∙ by_kind h.0 h.1 true h.2 own
              ∙ ap (λ (k : ℕ). queues_at own k) (sym its.anchor);
        })

    abbrev pub put_at : HeldAnchor → List Root
    put_at a = edited def.segments a.roots steps (Inserts new.bytes)

    abbrev pub new_position : DedbPosition
    new_position = record {
      place = Some (record { anchor = new.anchor; path = steps });
      parent = (position_in work number).parent;
      held = false;
    }

    abbrev puts : Workspace → ℕ → List Root → Replied
    puts own k rs = record {
      answer = answered blank;
      own = dedb.with_position def number (record {
        place = Some (record { anchor = k; path = steps });
        parent = (position_in work number).parent;
        held = false;
      }) (dedb.with_change def number k (edited def.segments rs steps (Inserts new.bytes)) (with_progress work own));
    }

    pub insert_free : (end : DedbProgress) (came : DedbReady) (a : HeldAnchor)
        → held_at work.anchors number new.anchor ≡ Some a
        → IsEditedTo number new.anchor (put_at a) new_position work.inserts work end
        → came ≡ ready.Answer (answered blank) → HasJudged judged.Free lock parents queues there
        → ComesTo number Needs Replies work end came
    insert_free end came a at edit came_is h =
        ends_as end end came (ready.Answer (answered blank)) refl came_is (record {
          need = λ db own sees. none_needed h.0 db (with_progress work own);
          answer = λ db own sees.
              answered_as h.0 db own sees ∙ by_twin h.0 h.1 h.2 false h.3 own
              ∙ ap (λ (k : ℕ). puts own k roots) (sym its.anchor)
              ∙ ap (λ (rs : List Root). puts own new.anchor rs)
              (held_roots work.anchors number new.anchor a a.roots at refl)
              ∙ ap (λ (w : Workspace). let r : Replied = record { answer = answered blank; own = w } in r)
              (sym (edited_own number new.anchor (put_at a) new_position work.inserts work end edit def own));
        })

  -- an insert that is free fits the anchor
  no_bytes : (rs : List Root) (path : List Step) → dedb.stands_at def number rs path ≡ false
      → bytes_at def.segments rs path ≡ None
  no_bytes rs [] e = absurd (cc)
  no_bytes rs (s ∷ ss) e = by (bytes_at def.segments rs (s ∷ ss)) e
    where
      by : (o : Option (List ℕ)) → is_some o ≡ false → o ≡ None
      by None f = refl
      by (Some b) f = absurd (cc)

  sent : (path : List Step) → new.anchor ≡ dedb.anchor_of_path def number path
      → IfSome (slice_get path 0) (λ s. anchor_of def s.key ≡ new.anchor)
  sent [] e = tt
  sent (s ∷ ss) e = sym e

  pub free_shape : (a : HeldAnchor) → held_at work.anchors number new.anchor ≡ Some a → there ≡ false
      → is_anchor def new.anchor any_ends (edited def.segments a.roots steps (Inserts new.bytes)) ≡ true
  free_shape a at free =
      let only : dedb.only_last_unqualified def number ssas ≡ true =
      first_of_both (dedb.only_last_unqualified def number ssas)
      (same_text (map (λ (b : Ssa). b.segment) ssas) (line_to def.segments (dedb.type_of_last def number ssas)))
      its.insert.arguments in
      let mine = held_roots work.anchors number new.anchor a a.roots at refl in
      let fits_edit : FitsEdit def new.anchor a.roots steps (Inserts new.bytes) = record {
        direct =
            subst EditDirect (sym its.insert.path_is)
            (insert_direct def number new.bytes ssas good.places its.insert.fits its.insert.arguments);
        bytes_fit =
            subst (λ (p : List Step). FitsEnd def.segments p new.bytes) (sym its.insert.path_is)
            (ends_fit def number new.bytes ssas only its.insert.long);
        new = (
          no_bytes a.roots steps (ap (λ (rs : List Root). dedb.stands_at def number rs steps) (sym mine) ∙ free),
          sent steps its.anchor,
        );
      } in
      edited_good def new.anchor any_ends a.roots steps (Inserts new.bytes) (fits.shapes new.anchor a at) fits_edit

  pub queued_goes : (i : SeqInsert) (end : DedbProgress) → end ≡ with_queued number i work → GoesOn number work end
  queued_goes i end is =
      let m = moves number (record (position_in work number) { held = false }) work in
      subst (GoesOn number work) (sym is) (record {
        count = m.count;
        order = m.order;
        positions = m.positions;
        anchors = m.anchors;
        known = m.known;
        sees = m.sees;
      })

  pub queued_fits : (i : SeqInsert) (end : DedbProgress) → end ≡ with_queued number i work → FitsDedb def number end
  queued_fits i end is =
      let f = let_go_fits def number work
      (with_position_at number (record (position_in work number) { held = false }) work) fits refl in
      subst (FitsDedb def number) (sym is) (record { counted = f.counted; shapes = f.shapes; place = f.place })
