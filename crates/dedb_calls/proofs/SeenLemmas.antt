-- What a transaction sees at an anchor that it holds, and which changes of its positions fit.
use Rattle.std.proofs.Common.{◌≡◌, ℕ, zero, suc, ◌<◌, List, [], ◌∷◌, map, length, Option, Some, None, refl, sym, ◌∙◌, ap, subst, Bool, true, false, ◌&&◌, ◌==◌, slice_get, slice_set, unwrap_or, arith}
use Rattle.std.proofs.lemmas.Bool.Decides.{nat_tests}
use Rattle.std.specs.Prelude.{find, if◌then◌else◌, is_some, option_map, IfOk, Result, Ok, Err}
use Rattle.std.specs.List.{AllByRecursion, list_all}
use Rattle.std.specs.Option.{option_map_or}
use Rattle.fp_model.specs.declared.calls.Answer.{Answer}
use Rattle.fp_model.specs.declared.calls.Mode.{Mode}
use Rattle.fp_model.specs.declared.database.Db.{Db}
use Rattle.fp_model.specs.declared.database.Root.{Root}
use Rattle.fp_model.specs.declared.definitions.DedbDef.{DedbDef}
use Rattle.fp_model.specs.Answers.{answered, serves, showing}
use Rattle.fp_model.specs.DedbCalls.{is_change_of, roots_seen}
use Rattle.fp_model.specs.Exits.{anchor_of}
use Rattle.fp_model.specs.Order.{Place, sequence, root_key}
use Rattle.fp_model.specs.Shape.{has_length, is_anchor, is_root}
use Rattle.fp_model.specs.State.{ascend, roots_at}
use Rattle.fp_model.specs.WellFormed.{IsDedbDef}
use Rattle.fp_model.specs.Workspace.{DedbPosition, Workspace, no_dedb_position}
use Rattle.dli_tree.specs.InOrder.{AreTypes, any_ends, are_in_order}
use Rattle.state_laws.specs.Workspaces.{FitsPlace}
use Rattle.state_laws.proofs.Sequences.{IsSegment, anchor_shows}
use Rattle.dedb_calls.specs.Anchors.{Ascend, Sees, change_of, changes_in, held_at, is_anchor_of}
use Rattle.dedb_calls.specs.Progress.{DedbProgress, FitsDedb, GoesOn, position_in, with_progress}
use Rattle.dedb_calls.specs.inside.Progress.{roots_in, with_position_at}
use Rattle.dedb_calls.specs.inside.Calls.{SaysNot, ShowsWhole}
use Rattle.dedb_calls.specs.Readiness.{IfAnswer, OnNeed}
use Rattle.dedb_calls.specs.declared.anchors.HeldAnchor.{HeldAnchor}
use Rattle.dedb_calls.specs.declared.ready.DedbReady.{DedbReady}
use Rattle.dedb_calls.specs.declared.ready.DedbReady.TheVariants as ready
use Rattle.dedb_calls.proofs.AnchorLemmas.{IsAfter, after_differs}
use Rattle.plain_laws.proofs.Places.{get_other, get_set, length_set}
use Rattle.plain_laws.proofs.Numbers.{both_numbers}
use Rattle.std.proofs.lemmas.Option.{same_Some}

-- ---- roots

module _ (def : DedbDef) (dedb anchor : ℕ) where
  not_after : (x y : HeldAnchor) → is_anchor_of dedb anchor x ≡ true → IsAfter x y → is_anchor_of dedb anchor y ≡ false
  not_after x y its after =
      let names = both_numbers x.dedb x.anchor dedb anchor its in
      ap (λ k. y.dedb == k && y.anchor == anchor) (sym names.0)
      ∙ ap (λ k. y.dedb == x.dedb && y.anchor == k) (sym names.1)
      ∙ after_differs x.dedb x.anchor y.dedb y.anchor after

  none_changed : (x : HeldAnchor) (xs : List HeldAnchor) → is_anchor_of dedb anchor x ≡ true
      → AllByRecursion (IsAfter x) xs → find (is_change_of def dedb anchor) (changes_in xs) ≡ None
  none_changed x [] its all = refl
  none_changed x (y ∷ ys) its all = by y.is_changed (none_changed x ys its all.1)
    where
      by : (t : Bool) → find (is_change_of def dedb anchor) (changes_in ys) ≡ None
          → find (is_change_of def dedb anchor) (if t then change_of y ∷ changes_in ys else changes_in ys) ≡ None
      by true later = rw (not_after x y its all.0) later
      by false later = later

  changed_roots : (xs : List HeldAnchor) (a : HeldAnchor) (roots : List Root) → Ascend xs
      → held_at xs dedb anchor ≡ Some a → (a.is_changed ≡ false → roots ≡ a.roots)
      → option_map_or (λ c. c.roots) (find (is_change_of def dedb anchor) (changes_in xs)) roots ≡ a.roots
  changed_roots [] a roots up at stay = absurd (cc)
  changed_roots (x ∷ xs) a roots up at stay =
      by (is_anchor_of dedb anchor x) refl at (changed_roots xs a roots up.1) x.is_changed refl
    where
      by : (b : Bool) → is_anchor_of dedb anchor x ≡ b → (if b then Some x else held_at xs dedb anchor) ≡ Some a
          → (held_at xs dedb anchor ≡ Some a → (a.is_changed ≡ false → roots ≡ a.roots)
          → option_map_or (λ c. c.roots) (find (is_change_of def dedb anchor) (changes_in xs)) roots ≡ a.roots)
          → (t : Bool) → x.is_changed ≡ t
          → option_map_or (λ c. c.roots) (find (is_change_of def dedb anchor)
          (if t then change_of x ∷ changes_in xs else changes_in xs)) roots ≡ a.roots
      by true its found later true kind = rw its (ap (λ (z : HeldAnchor). z.roots) (same_Some x a found))
      by true its found later false kind =
          let same : x ≡ a = same_Some x a found in
          rw (none_changed x xs its up.0) (stay (ap (λ (z : HeldAnchor). z.is_changed) (sym same) ∙ kind))
      by false its found later true kind = rw its (later found stay)
      by false its found later false kind = later found stay

  pub seen_roots : (db : Db) (work : DedbProgress) (own : Workspace) (a : HeldAnchor) → Ascend work.anchors
      → Sees db work.anchors → held_at work.anchors dedb anchor ≡ Some a
      → roots_seen def dedb db (with_progress work own) anchor ≡ a.roots
  seen_roots db work own a up sees at =
      changed_roots work.anchors a (roots_at db dedb anchor) up at (sees dedb anchor a at)

pub serves_some : (o : Option Mode) (mode : Mode) → serves o mode ≡ true → is_some o ≡ true
serves_some None mode e = absurd (cc)
serves_some (Some m) mode e = refl

pub is_there : (o : Option HeldAnchor) → is_some o ≡ true → (a : HeldAnchor) × (o ≡ Some a)
is_there None e = absurd (cc)
is_there (Some a) e = (a, refl)

-- ---- shapes

first_of : (a b c : Bool) → (a && b && c) ≡ true → (a && b) ≡ true
first_of true true c e = refl
first_of true false c e = e
first_of false b c e = e

pub in_order : (def : DedbDef) (anchor : ℕ) (roots : List Root) → is_anchor def anchor any_ends roots ≡ true
    → are_in_order def.segments roots ≡ true
in_order def anchor roots e =
    first_of (list_all (is_root def.segments any_ends) roots) (ascend (map (root_key def.segments) roots))
    (list_all (λ root. anchor_of def (root_key def.segments root) == anchor) roots) e

pub types_of : (def : DedbDef) → IsDedbDef def → AreTypes def.segments
types_of def good = record { some = good.types.0; few = good.types.1; places = good.places }

-- all segments of an anchor that is held
pub all_segments : (def : DedbDef) (dedb : ℕ) (work : DedbProgress) (anchor : ℕ) → FitsDedb def dedb work
    → AllByRecursion (IsSegment def dedb) (sequence def.segments (roots_in work.anchors dedb anchor))
all_segments def dedb work anchor fits = by (held_at work.anchors dedb anchor) refl
  where
    by : (o : Option HeldAnchor) → held_at work.anchors dedb anchor ≡ o
        → AllByRecursion (IsSegment def dedb) (sequence def.segments (option_map_or (λ a. a.roots) o []))
    by None e = tt
    by (Some a) e = anchor_shows def dedb anchor any_ends a.roots (fits.shapes anchor a e)

-- ---- positions

pub differ : (d n : ℕ) → (d == n) ≡ false → d ≡ n → ⊥
differ d n e same = grind (arith, nat_tests)

-- a call that moves the position leaves all else
pub moves : (dedb : ℕ) (p : DedbPosition) (work : DedbProgress) → GoesOn dedb work (with_position_at dedb p work)
moves dedb p work = record {
  count = length_set work.positions dedb p;
  order = λ up. up;
  positions = λ d other. get_other work.positions dedb d p (differ d dedb other);
  anchors = λ d anchor other. refl;
  known = λ d anchor. refl;
  sees = λ db sees. sees;
}

pub moved_fits : (def : DedbDef) (dedb : ℕ) (p : DedbPosition) (work : DedbProgress) → FitsDedb def dedb work
    → ((place : Place) → (if p.held then p.place else None) ≡ Some place → FitsPlace def dedb place)
    → FitsDedb def dedb (with_position_at dedb p work)
moved_fits def dedb p work fits place = record {
  counted = let same = length_set work.positions dedb p in let less = fits.counted in omega (arith, same, less);
  shapes = fits.shapes;
  place = λ at held. place at (sym (ap (λ (q : DedbPosition). if q.held then q.place else None) its) ∙ held);
}
  where
    its : position_in (with_position_at dedb p work) dedb ≡ p
    its = ap (λ o. unwrap_or o no_dedb_position) (get_set work.positions dedb p fits.counted)

-- so does one that stays, and one that ends the hold
pub not_held : (dedb : ℕ) (p : Option Place) (place : Place) → (if false then p else None) ≡ Some place → ⊥
not_held dedb p place e = cc

-- a call that ends the hold and no more
pub lets_go : (dedb : ℕ) (work new : DedbProgress)
    → new ≡ with_position_at dedb (record (position_in work dedb) { held = false }) work → GoesOn dedb work new
lets_go dedb work new is =
    subst (GoesOn dedb work) (sym is) (moves dedb (record (position_in work dedb) { held = false }) work)

pub let_go_fits : (def : DedbDef) (dedb : ℕ) (work new : DedbProgress) → FitsDedb def dedb work
    → new ≡ with_position_at dedb (record (position_in work dedb) { held = false }) work → FitsDedb def dedb new
let_go_fits def dedb work new fits is =
    subst (FitsDedb def dedb) (sym is)
    (moved_fits def dedb (record (position_in work dedb) { held = false }) work fits
    (λ place e. absurd (not_held dedb (position_in work dedb).place place e)))

pub moves_to : (dedb : ℕ) (p : DedbPosition) (work new : DedbProgress) → new ≡ with_position_at dedb p work
    → GoesOn dedb work new
moves_to dedb p work new is = subst (GoesOn dedb work) (sym is) (moves dedb p work)

pub subst_fits : (def : DedbDef) (dedb : ℕ) (there new : DedbProgress) → new ≡ there → FitsDedb def dedb there
    → FitsDedb def dedb new
subst_fits def dedb there new is fits = subst (FitsDedb def dedb) (sym is) fits

pub needs_nothing : (came : DedbReady) (answer : Answer) (P : Type 0) → came ≡ ready.Answer answer → OnNeed came P
needs_nothing came answer P is = subst (λ r. OnNeed r P) (sym is) tt

-- ---- options

pub option_is : {A : Type 0} (f : A → ℕ) (o : Option A) (n : ℕ) → Some n ≡ option_map f o
    → (a : A) × (o ≡ Some a) × (n ≡ f a)
option_is f None n e = absurd (cc)
option_is f (Some a) n e = (a, refl, same_Some n (f a) e)

pub option_none : {A : Type 0} (f : A → ℕ) (o : Option A) → None ≡ option_map f o → o ≡ None
option_none f None e = refl
option_none f (Some a) e = absurd (cc)

-- ---- what is shown

pub shows_not : (def : DedbDef) (came : DedbReady) (status : List ℕ) → came ≡ ready.Answer (answered status)
    → SaysNot status → IfAnswer came (ShowsWhole def)
shows_not def came status is says =
    subst (λ r. IfAnswer r (ShowsWhole def)) (sym is) (λ e. absurd (both_ways (sym e ∙ says)))
  where
    both_ways : true ≡ false → ⊥
    both_ways f = cc

pub shows_found : (def : DedbDef) (came : DedbReady) (type : ℕ) (bytes : List ℕ)
    → came ≡ ready.Answer (showing type bytes) → has_length def.segments type bytes ≡ true
    → IfAnswer came (ShowsWhole def)
shows_found def came type bytes is long = subst (λ r. IfAnswer r (ShowsWhole def)) (sym is) (λ e. long)

pub never_finds : {E : Type 0} (r : Result DedbReady E) (P : Answer → Type 0) → ((a : Answer) → P a)
    → IfOk r (λ came. IfAnswer came P)
never_finds (Err e) P all = tt
never_finds (Ok came) P all = by came
  where
    by : (came : DedbReady) → IfAnswer came P
    by (ready.Answer a) = all a
    by (ready.Need anchor mode) = tt
