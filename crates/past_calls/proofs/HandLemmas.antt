-- Anchors that are handed in one after another: each call for one leaves fewer that are lacking.
use Rattle.std.proofs.Common.{◌≡◌, refl, ap, sym, ◌∙◌, inl, inr, subst, arith, ℕ, zero, suc, ◌+◌, ◌-◌, ◌≤◌, List, [], ◌∷◌, length, Bool, true, false, ◌==◌, ◌&&◌, Option, Some, None, slice_get}
use Rattle.std.specs.Prelude.{if◌then◌else◌, is_some, nat_lt}
use Rattle.std.specs.List.{AllByRecursion}
use Rattle.std.specs.Option.{option_map_or}
use Rattle.fp_model.specs.declared.calls.Call.{Call}
use Rattle.fp_model.specs.declared.calls.Call.TheVariants as call
use Rattle.fp_model.specs.declared.calls.Get.{Get}
use Rattle.fp_model.specs.declared.calls.Get.TheVariants as get
use Rattle.fp_model.specs.declared.calls.Resource.TheVariants.{Anchor}
use Rattle.fp_model.specs.declared.database.Db.{Db}
use Rattle.fp_model.specs.declared.definitions.DedbDef.{DedbDef}
use Rattle.fp_model.specs.declared.definitions.Defs.{Defs}
use Rattle.fp_model.specs.declared.definitions.MsdbDef.{MsdbDef}
use Rattle.fp_model.specs.Calls.{Target, OnMsdb, OnDedb, Nowhere, dedb_target, target_of}
use Rattle.fp_model.specs.DedbCalls.{anchor_at, anchors_searched, anchors_up, held_place, position_of, root_named}
use Rattle.fp_model.specs.Exits.{anchor_of}
use Rattle.fp_model.specs.Order.{Place}
use Rattle.fp_model.specs.State.{anchor_count}
use Rattle.fp_model.specs.WellFormed.{IsDedbDef}
use Rattle.fp_model.specs.Workspace.{DedbPosition, Workspace}
use Rattle.dedb_calls.specs.Anchors.{Sees, held_at}
use Rattle.dedb_calls.specs.declared.anchors.HeldAnchor.{HeldAnchor}
use Rattle.past_calls.specs.inside.Needs.{anchors_at, lacking, lacking_on, may_need}
use Rattle.past_calls.specs.Progress.{Progress}
use Rattle.past_calls.specs.Targets.{FitsWork, IfDedb, LeavesMsdbs, LeavesOthers, anchor_needed}
use Rattle.past_calls.proofs.NeedLemmas.{Among, called}
use Rattle.model_laws.proofs.Numberings.{numbers_length}
use Rattle.plain_laws.proofs.Numbers.{both_numbers}

-- ---- counts

module _ (p q : ℕ → Bool) (more : (n : ℕ) → p n ≡ true → q n ≡ true) where
  no_more : (ns : List ℕ) → lacking q ns ≤ lacking p ns
  no_more [] = omega arith
  no_more (n ∷ ns) = by (p n) (q n) refl refl (no_more ns)
    where
      by : (b c : Bool) → p n ≡ b → q n ≡ c → lacking q ns ≤ lacking p ns
          → (if c then lacking q ns else suc (lacking q ns)) ≤ (if b then lacking p ns else suc (lacking p ns))
      by true true e f le = le
      by true false e f le = absurd (let so = more n e in cc)
      by false true e f le = omega (arith, le)
      by false false e f le = omega (arith, le)

  pub fewer : (a : ℕ) → p a ≡ false → q a ≡ true → (ns : List ℕ) → Among a ns → lacking q ns + 1 ≤ lacking p ns
  fewer a lacks has [] among = absurd among
  fewer a lacks has (n ∷ ns) (inl same) =
      here (p n) (q n) (ap p same ∙ lacks) (ap q same ∙ has) refl refl (no_more ns)
    where
      here : (b c : Bool) → p n ≡ false → q n ≡ true → p n ≡ b → q n ≡ c → lacking q ns ≤ lacking p ns
          → (if c then lacking q ns else suc (lacking q ns)) + 1 ≤ (if b then lacking p ns else suc (lacking p ns))
      here false true e f g h le = omega (arith, le)
      here true c e f g h le = absurd (cc)
      here false false e f g h le = absurd (cc)
  fewer a lacks has (n ∷ ns) (inr later) = by (p n) (q n) refl refl (fewer a lacks has ns later)
    where
      by : (b c : Bool) → p n ≡ b → q n ≡ c → lacking q ns + 1 ≤ lacking p ns
          → (if c then lacking q ns else suc (lacking q ns)) + 1 ≤ (if b then lacking p ns else suc (lacking p ns))
      by true true e f le = le
      by true false e f le = absurd (let so = more n e in cc)
      by false true e f le = omega (arith, le)
      by false false e f le = omega (arith, le)

at_most : (has : ℕ → Bool) (ns : List ℕ) → lacking has ns ≤ length ns
at_most has [] = omega arith
at_most has (n ∷ ns) = by (has n) (at_most has ns)
  where
    by : (b : Bool) → lacking has ns ≤ length ns
        → (if b then lacking has ns else suc (lacking has ns)) ≤ suc (length ns)
    by true le = omega (arith, le)
    by false le = omega (arith, le)

-- ---- the anchors of a call

module _ (def : DedbDef) (dedb : ℕ) (good : IsDedbDef def) where
  up : (from : ℕ) → length (anchors_up def dedb from) ≤ 65536
  up from = let same = numbers_length (anchor_count def - from) from in let few = good.anchors in omega (arith, same, few)

  searched : (p : DedbPosition) (g : Get) (key : Option (List ℕ)) → length (anchors_searched def dedb p g key) ≤ 65536
  searched p get.Unique None = up 0
  searched p get.Unique (Some key) = omega arith
  searched p get.Next None = up (anchor_at def dedb p.place)
  searched p get.Next (Some key) = by (nat_lt (anchor_of def key) (anchor_at def dedb p.place))
    where
      by : (b : Bool) → length (if b then [] else anchor_of def key ∷ []) ≤ 65536
      by true = omega arith
      by false = omega arith
  searched p get.NextInParent None = omega arith
  searched p get.NextInParent (Some key) = omega arith

  at_place : (place : Option Place) → length (anchors_at place) ≤ 65536
  at_place None = omega arith
  at_place (Some place) = omega arith

  few_needed : (own : Workspace) (c : Call) → length (may_need def dedb own c) ≤ 65536
  few_needed own (call.Get g hold n ssas) = searched (position_of def dedb own) g (root_named def dedb ssas)
  few_needed own (call.Fld n key fsas) = omega arith
  few_needed own (call.Isrt n ssas bytes) = omega arith
  few_needed own (call.Repl n bytes) = at_place (held_place def dedb own)
  few_needed own (call.Dlet n) = at_place (held_place def dedb own)

all_at : {X : Type 0} (P : X → Type 0) (xs : List X) (n : ℕ) (x : X) → AllByRecursion P xs → slice_get xs n ≡ Some x
    → P x
all_at P [] n x all at = absurd (cc)
all_at P (y ∷ ys) zero x all at = let same : y ≡ x = cc in subst P same all.0
all_at P (y ∷ ys) (suc n) x all at = all_at P ys n x all.1 at

-- no more than a database has
pub few_on : (defs : Defs) (n : ℕ) (work : Progress) (c : Call) → AllByRecursion IsDedbDef defs.dedbs
    → lacking_on (target_of defs n) work c ≤ 65536
few_on defs n work c good = by (slice_get defs.msdbs n)
  where
    within : (dedb : ℕ) (o : Option DedbDef) → slice_get defs.dedbs dedb ≡ o
        → lacking_on (option_map_or (λ def. OnDedb def dedb) o Nowhere) work c ≤ 65536
    within dedb None e = omega arith
    within dedb (Some def) e =
        let has : ℕ → Bool = λ k. is_some (held_at work.anchors dedb k) in
        let le = at_most has (may_need def dedb work.own c) in
        let few = few_needed def dedb (all_at IsDedbDef defs.dedbs dedb def good e) work.own c in
        omega (arith, le, few)

    by : (o : Option MsdbDef)
        → lacking_on (option_map_or (λ def. OnMsdb def n) o (dedb_target defs (n - length defs.msdbs))) work c ≤ 65536
    by (Some def) = omega arith
    by None = within (n - length defs.msdbs) (slice_get defs.dedbs (n - length defs.msdbs)) refl

-- ---- an anchor is handed in

module _ (now : Db) (old new : Progress) (c : Call) (d a : ℕ) (own : new.own ≡ old.own)
    (has : is_some (held_at new.anchors d a) ≡ true)
    (others : (k n : ℕ) → (k == d && n == a) ≡ false → held_at new.anchors k n ≡ held_at old.anchors k n) where
  grows : (dedb n : ℕ) → is_some (held_at old.anchors dedb n) ≡ true → is_some (held_at new.anchors dedb n) ≡ true
  grows dedb n was = by (dedb == d && n == a) refl
    where
      by : (b : Bool) → (dedb == d && n == a) ≡ b → is_some (held_at new.anchors dedb n) ≡ true
      by true same =
          let names = both_numbers dedb n d a same in
          ap (λ k. is_some (held_at new.anchors k n)) names.0 ∙ ap (λ k. is_some (held_at new.anchors d k)) names.1
          ∙ has
      by false other = ap is_some (others dedb n other) ∙ was

  pub fewer_on : (t : Target) → Some (Anchor d a) ≡ anchor_needed t now old c
      → lacking_on t new c + 1 ≤ lacking_on t old c
  fewer_on (OnMsdb def msdb) e = absurd (cc)
  fewer_on (OnDedb def dedb) e =
      let it = called def dedb old.anchors d a now old.own c (sym e) in
      let lacks : is_some (held_at old.anchors dedb a) ≡ false =
      ap (λ k. is_some (held_at old.anchors k a)) it.0 ∙ ap is_some it.2 in
      let gained : is_some (held_at new.anchors dedb a) ≡ true =
      ap (λ k. is_some (held_at new.anchors k a)) it.0 ∙ has in
      subst (λ (o : Workspace). lacking (λ n. is_some (held_at new.anchors dedb n)) (may_need def dedb o c) + 1
      ≤ lacking (λ n. is_some (held_at old.anchors dedb n)) (may_need def dedb old.own c)) (sym own)
      (fewer (λ n. is_some (held_at old.anchors dedb n)) (λ n. is_some (held_at new.anchors dedb n)) (grows dedb) a
      lacks gained (may_need def dedb old.own c) it.1)
  fewer_on Nowhere e = absurd (cc)

-- a call fits by what the transaction keeps besides the anchors
pub fits_still : (t : Target) (old new : Progress) (c : Call) → new.own ≡ old.own → FitsWork t old c → FitsWork t new c
fits_still (OnMsdb def msdb) old new c own fits = fits
fits_still (OnDedb def dedb) old new (call.Get g hold n ssas) own fits = fits
fits_still (OnDedb def dedb) old new (call.Fld n key fsas) own fits = fits
fits_still (OnDedb def dedb) old new (call.Isrt n ssas bytes) own fits = fits
fits_still (OnDedb def dedb) old new (call.Repl n bytes) own fits =
    λ place held. fits place (ap (held_place def dedb) (sym own) ∙ held)
fits_still (OnDedb def dedb) old new (call.Dlet n) own fits = fits
fits_still Nowhere old new c own fits = absurd fits

-- what is so whatever is named
pub any_target : (t : Target) (P : Type 0) → P → IfDedb t P
any_target (OnMsdb def msdb) P p = tt
any_target (OnDedb def dedb) P p = p
any_target Nowhere P p = tt

-- a call leaves the roots that weren't changed those of the state
pub still_sees : (t : Target) (old new : Progress) (now : Db) → LeavesOthers t old new → Sees now old.anchors
    → Sees now new.anchors
still_sees (OnMsdb def msdb) old new now leaves sees =
    subst (λ (xs : List HeldAnchor). Sees now xs) (sym leaves.anchors) sees
still_sees (OnDedb def dedb) old new now leaves sees = leaves.1.sees now sees
still_sees Nowhere old new now leaves sees = subst (λ (w : Progress). Sees now w.anchors) leaves sees

-- and what has to do with main storage databases, where it names a data entry database
pub leaves_on : (t : Target) (first old new : Progress) → old.own ≡ first.own → old.changed ≡ first.changed
    → LeavesOthers t old new → IfDedb t (LeavesMsdbs first new)
leaves_on (OnMsdb def msdb) first old new own changed leaves = tt
leaves_on (OnDedb def dedb) first old new own changed leaves = record {
  positions = leaves.0.positions ∙ ap (λ (o : Workspace). o.msdbs) own;
  deferred = leaves.0.deferred ∙ ap (λ (o : Workspace). o.deferred) own;
  changed = leaves.0.changed ∙ changed;
}
leaves_on Nowhere first old new own changed leaves = tt
