-- A commit: its changed anchors one after another, each of which fits what those before it left.
use Rattle.std.proofs.Common.{◌≡◌, ℕ, ◌<◌, List, [], ◌∷◌, Option, Some, refl, sym, ◌∙◌, ap, subst, Bool, true, false, ◌&&◌, ◌||◌, ◌==◌, nat_lt, slice_get, slice_set, arith, ◌⊎◌, inl, inr}
use Rattle.std.specs.Prelude.{unwrap_or}
use Rattle.std.specs.List.{AllByRecursion, AllZip}
use Rattle.std.specs.Option.{option_map_or}
use Rattle.std.proofs.lemmas.Bool.{cases_eq}
use Rattle.fp_model.specs.declared.calls.AnchorChange.{AnchorChange}
use Rattle.fp_model.specs.declared.database.AreaEnds.{AreaEnds}
use Rattle.fp_model.specs.declared.database.Db.{Db}
use Rattle.fp_model.specs.declared.database.Dedb.{Dedb}
use Rattle.fp_model.specs.declared.definitions.Defs.{Defs}
use Rattle.fp_model.specs.Commit.{ends_at, with_anchors}
use Rattle.fp_model.specs.Shape.{IsDbOf, IsDedbOf}
use Rattle.fp_model.specs.State.{Area, first_ends, with_roots}
use Rattle.fp_model.specs.Workspace.{change_precedes}
use Rattle.state_laws.specs.Changes.{with_anchor}
use Rattle.state_laws.specs.Parts.{FitsAnchorChange, changes_ascend}
use Rattle.state_laws.proofs.Changing.{changed_good}
use Rattle.state_laws.proofs.Lists.{each_at}
use Rattle.plain_laws.proofs.Alls.{each_set}
use Rattle.plain_laws.proofs.Truths.{first_of_both, second_of_both}
use Rattle.plain_laws.proofs.Places.{get_other, get_set_same}
use Rattle.plain_laws.proofs.Numbers.{lt_is}
use Rattle.std.proofs.lemmas.Option.{same_Some}

-- ---- the order of changes

-- a change of a later database, or of a later anchor there
abbrev IsAfter : AnchorChange → AnchorChange → Type 0
IsAfter c d = (c.dedb < d.dedb) ⊎ ((c.dedb ≡ d.dedb) × (c.anchor < d.anchor))

is_after : (c d : AnchorChange) → change_precedes c d ≡ true → IsAfter c d
is_after c d e = by (nat_lt c.dedb d.dedb) refl e
  where
    number_is : (a b : ℕ) → (a == b) ≡ true → a ≡ b
    number_is a b e = grind arith

    by : (b : Bool) → nat_lt c.dedb d.dedb ≡ b → (b || c.dedb == d.dedb && nat_lt c.anchor d.anchor) ≡ true
        → IsAfter c d
    by true is e = inl (lt_is c.dedb d.dedb is)
    by false is e = inr (
      number_is c.dedb d.dedb (first_of_both (c.dedb == d.dedb) (nat_lt c.anchor d.anchor) e),
      lt_is c.anchor d.anchor (second_of_both (c.dedb == d.dedb) (nat_lt c.anchor d.anchor) e),
    )

after_that : (c d e : AnchorChange) → IsAfter c d → IsAfter d e → IsAfter c e
after_that c d e (inl a) (inl b) = inl (omega (arith, a, b))
after_that c d e (inl a) (inr b) = inl (omega (arith, a, b.0))
after_that c d e (inr a) (inl b) = inl (omega (arith, a.0, b))
after_that c d e (inr a) (inr b) = inr (a.0 ∙ b.0, omega (arith, a.1, b.1))

-- all behind a change are after it
pub all_after : (c : AnchorChange) (others : List AnchorChange) → changes_ascend (c ∷ others) ≡ true
    → AllByRecursion (IsAfter c) others
all_after c [] e = tt
all_after c (d ∷ others) e =
    let first = is_after c d (first_of_both (change_precedes c d) (changes_ascend (d ∷ others)) e) in
    let later = all_after d others (second_of_both (change_precedes c d) (changes_ascend (d ∷ others)) e) in
    (first, those others later first)
  where
    those : (rest : List AnchorChange) → AllByRecursion (IsAfter d) rest → IsAfter c d → AllByRecursion (IsAfter c) rest
    those [] all first = tt
    those (x ∷ rest) all first = (after_that c d x first all.0, those rest all.1 first)

pub others_ascend : (c : AnchorChange) (others : List AnchorChange) → changes_ascend (c ∷ others) ≡ true
    → changes_ascend others ≡ true
others_ascend c [] e = refl
others_ascend c (d ∷ others) e = second_of_both (change_precedes c d) (changes_ascend (d ∷ others)) e

-- ---- one change

module _ (defs : Defs) (db : Db) (c : AnchorChange) (fit : FitsAnchorChange defs db c) where
  abbrev after : Db
  after = with_roots c.dedb c.anchor c.roots db

  changed_to : after.dedbs ≡ slice_set db.dedbs c.dedb (with_anchor c.anchor c.roots fit.dedb)
  changed_to = rw fit.now refl

  -- the database is changed there
  there : slice_get after.dedbs c.dedb ≡ Some (with_anchor c.anchor c.roots fit.dedb)
  there = ap (λ (ds : List Dedb). slice_get ds c.dedb) changed_to
      ∙ get_set_same db.dedbs c.dedb (with_anchor c.anchor c.roots fit.dedb) fit.dedb fit.now

  -- and nowhere else
  elsewhere : (n : ℕ) → ¬ (n ≡ c.dedb) → slice_get after.dedbs n ≡ slice_get db.dedbs n
  elsewhere n other = ap (λ (ds : List Dedb). slice_get ds n) changed_to
      ∙ get_other db.dedbs c.dedb n (with_anchor c.anchor c.roots fit.dedb) other

  change_good : IsDbOf defs db → IsDbOf defs after
  change_good good =
      let its = each_at IsDedbOf defs.dedbs db.dedbs c.dedb fit.def fit.dedb good.dedbs fit.defined fit.now in
      record {
        msdbs = good.msdbs;
        dedbs = subst (AllZip IsDedbOf defs.dedbs) (sym changed_to)
            (each_set IsDedbOf defs.dedbs db.dedbs c.dedb fit.def (with_anchor c.anchor c.roots fit.dedb) good.dedbs
            fit.defined (changed_good fit.def fit.dedb c.anchor c.roots its fit.fits));
      }

  -- a later change fits as before
  still_fits : (d : AnchorChange) → IsAfter c d → FitsAnchorChange defs db d → FitsAnchorChange defs after d
  still_fits d (inl other) one = record {
    def = one.def;
    dedb = one.dedb;
    defined = one.defined;
    now = elsewhere d.dedb (λ e. absurd (omega (arith, e, other))) ∙ one.now;
    fits = one.fits;
  }
  still_fits d (inr later) one =
      let at : slice_get db.dedbs c.dedb ≡ Some one.dedb =
      subst (λ (n : ℕ). slice_get db.dedbs n ≡ Some one.dedb) (sym later.0) one.now in
      let same : fit.dedb ≡ one.dedb = same_Some fit.dedb one.dedb (sym fit.now ∙ at) in
      let at_changed : slice_get after.dedbs d.dedb ≡ Some (with_anchor c.anchor c.roots fit.dedb) =
      subst (λ (n : ℕ). slice_get after.dedbs n ≡ Some (with_anchor c.anchor c.roots fit.dedb)) later.0 there in
      record {
        def = one.def;
        dedb = with_anchor c.anchor c.roots one.dedb;
        defined = one.defined;
        now = at_changed ∙ ap (λ (x : Dedb). Some (with_anchor c.anchor c.roots x)) same;
        fits = record {
          keys = one.fits.keys;
          in_shape = one.fits.in_shape;
          dependents = λ now e. one.fits.dependents now
              (sym (get_other one.dedb.anchors c.anchor d.anchor c.roots
              (λ q. absurd (omega (arith, q, later.1)))) ∙ e);
        };
      }

  all_still_fit : (others : List AnchorChange) → AllByRecursion (IsAfter c) others
      → AllByRecursion (FitsAnchorChange defs db) others → AllByRecursion (FitsAnchorChange defs after) others
  all_still_fit [] later all = tt
  all_still_fit (d ∷ others) later all = (still_fits d later.0 all.0, all_still_fit others later.1 all.1)

  -- the ends stay
  same_ends : (area : Area) → ends_at after area ≡ ends_at db area
  same_ends area = elim (cases_eq area.dedb c.dedb) [
    | inl same ↦
        let at : slice_get after.dedbs area.dedb ≡ Some (with_anchor c.anchor c.roots fit.dedb) =
        subst (λ (n : ℕ). slice_get after.dedbs n ≡ Some (with_anchor c.anchor c.roots fit.dedb)) (sym same) there in
        let was : slice_get db.dedbs area.dedb ≡ Some fit.dedb =
        subst (λ (n : ℕ). slice_get db.dedbs n ≡ Some fit.dedb) (sym same) fit.now in
        ap (ends_of area) at ∙ sym (ap (ends_of area) was)
    | inr other ↦ ap (ends_of area) (elsewhere area.dedb other)
  ]
    where
      ends_of : Area → Option Dedb → AreaEnds
      ends_of area o = option_map_or (λ (d : Dedb). unwrap_or (slice_get d.areas area.number) first_ends) o first_ends

-- ---- all changes

pub anchors_good : (defs : Defs) (changes : List AnchorChange) (db : Db) → IsDbOf defs db
    → changes_ascend changes ≡ true → AllByRecursion (FitsAnchorChange defs db) changes
    → IsDbOf defs (with_anchors changes db)
anchors_good defs [] db good up all = good
anchors_good defs (c ∷ others) db good up all =
    anchors_good defs others (with_roots c.dedb c.anchor c.roots db) (change_good defs db c all.0 good)
    (others_ascend c others up) (all_still_fit defs db c all.0 others (all_after c others up) all.1)

pub anchors_leave_ends : (defs : Defs) (changes : List AnchorChange) (db : Db) → changes_ascend changes ≡ true
    → AllByRecursion (FitsAnchorChange defs db) changes → (area : Area)
    → ends_at (with_anchors changes db) area ≡ ends_at db area
anchors_leave_ends defs [] db up all area = refl
anchors_leave_ends defs (c ∷ others) db up all area =
    anchors_leave_ends defs others (with_roots c.dedb c.anchor c.roots db) (others_ascend c others up)
    (all_still_fit defs db c all.0 others (all_after c others up) all.1) area
    ∙ same_ends defs db c all.0 area
