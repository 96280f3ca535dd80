-- The areas of a database: their numbers differ, and their anchors lie apart.
use Rattle.std.proofs.Common.{◌≡◌, ℕ, zero, suc, ◌+◌, ◌<◌, ◌≤◌, List, [], ◌∷◌, Some, refl, sym, ◌∙◌, subst, true, ◌&&◌, ◌==◌, slice_get, arith, ◌⊎◌, inl, inr}
use Rattle.std.specs.Prelude.{Contains, nat_le, nat_lt}
use Rattle.std.proofs.lemmas.Bool.Decides.{nat_tests}
use Rattle.std.proofs.lemmas.List.Elements.{Contains-append_left, Contains-append_right, Contains-append_cases, Contains-push, Contains-push_cases}
use Rattle.fp_model.specs.declared.definitions.AreaDef.{AreaDef}
use Rattle.fp_model.specs.declared.definitions.DedbDef.{DedbDef}
use Rattle.fp_model.specs.State.{Area, anchors_in, areas_from, areas_of_all, has_anchor}
use Rattle.plain_laws.proofs.Alls.{contains_cases, contains_first, contains_later, contains_nothing}
use Rattle.plain_laws.proofs.Truths.{first_of_both, second_of_both}

-- ---- what a list contains

-- ---- the areas of one database

-- an area's number and definition, counted from a given number on
pub record IsPlaced (dedb number before : ℕ) (areas : List AreaDef) (a : Area) : Type 0 where
  pub place : ℕ
  pub its_number : a.number ≡ number + place
  pub its_def : slice_get areas place ≡ Some a.def
  pub behind : before ≤ a.first_anchor
  pub its_dedb : a.dedb ≡ dedb

pub placed : (dedb number before : ℕ) (areas : List AreaDef) (a : Area)
    → Contains (areas_from dedb number before areas) a → IsPlaced dedb number before areas a
placed dedb number before [] a c = absurd (contains_nothing a c)
placed dedb number before (d ∷ ds) a c = by (contains_cases _ (areas_from dedb (number + 1) (before + anchors_in d) ds)
    a c) (placed dedb (number + 1) (before + anchors_in d) ds a)
  where
    by : (record { dedb = dedb; number = number; first_anchor = before; def = d } ≡ a)
        ⊎ Contains (areas_from dedb (number + 1) (before + anchors_in d) ds) a
        → (Contains (areas_from dedb (number + 1) (before + anchors_in d) ds) a
        → IsPlaced dedb (number + 1) (before + anchors_in d) ds a)
        → IsPlaced dedb number before (d ∷ ds) a
    by (inl same) later = subst (IsPlaced dedb number before (d ∷ ds)) same
        (record { place = 0; its_number = omega arith; its_def = refl; behind = omega arith; its_dedb = refl })
    by (inr there) later = let p = later there in record {
      place = suc p.place;
      its_number = omega (arith, p.its_number);
      its_def = p.its_def;
      behind = omega (arith, p.behind);
      its_dedb = p.its_dedb;
    }

-- two areas with other numbers, whose anchors lie apart
pub record AreApart (a b : Area) : Type 0 where
  pub numbers : ¬ (a.number ≡ b.number)
  pub anchors : (a.first_anchor + anchors_in a.def ≤ b.first_anchor)
      ⊎ (b.first_anchor + anchors_in b.def ≤ a.first_anchor)

turned : (a b : Area) → AreApart a b → AreApart b a
turned a b apart = record { numbers = λ e. apart.numbers (sym e); anchors = by apart.anchors }
  where
    by : (a.first_anchor + anchors_in a.def ≤ b.first_anchor) ⊎ (b.first_anchor + anchors_in b.def ≤ a.first_anchor)
        → (b.first_anchor + anchors_in b.def ≤ a.first_anchor) ⊎ (a.first_anchor + anchors_in a.def ≤ b.first_anchor)
    by (inl x) = inr x
    by (inr x) = inl x

first_apart : (dedb number before : ℕ) (d : AreaDef) (ds : List AreaDef) (b : Area)
    → Contains (areas_from dedb (number + 1) (before + anchors_in d) ds) b
    → AreApart (record { dedb = dedb; number = number; first_anchor = before; def = d }) b
first_apart dedb number before d ds b c =
    let p = placed dedb (number + 1) (before + anchors_in d) ds b c in
    record { numbers = λ e. absurd (omega (arith, e, p.its_number)); anchors = inl p.behind }

-- two areas of a database are the same, or apart
pub same_or_apart : (dedb number before : ℕ) (areas : List AreaDef) (a b : Area)
    → Contains (areas_from dedb number before areas) a → Contains (areas_from dedb number before areas) b → (a ≡ b)
    ⊎ AreApart a b
same_or_apart dedb number before [] a b ca cb = absurd (contains_nothing a ca)
same_or_apart dedb number before (d ∷ ds) a b ca cb =
    by (contains_cases first (areas_from dedb (number + 1) (before + anchors_in d) ds) a ca)
    (contains_cases first (areas_from dedb (number + 1) (before + anchors_in d) ds) b cb)
    (same_or_apart dedb (number + 1) (before + anchors_in d) ds a b)
  where
    first : Area
    first = record { dedb = dedb; number = number; first_anchor = before; def = d }

    by : (first ≡ a) ⊎ Contains (areas_from dedb (number + 1) (before + anchors_in d) ds) a → (first ≡ b)
        ⊎ Contains (areas_from dedb (number + 1) (before + anchors_in d) ds) b
        → (Contains (areas_from dedb (number + 1) (before + anchors_in d) ds) a
        → Contains (areas_from dedb (number + 1) (before + anchors_in d) ds) b → (a ≡ b) ⊎ AreApart a b)
        → (a ≡ b) ⊎ AreApart a b
    by (inl x) (inl y) later = inl (sym x ∙ y)
    by (inl x) (inr y) later = inr (subst (λ z. AreApart z b) x (first_apart dedb number before d ds b y))
    by (inr x) (inl y) later = inr (turned b a (subst (λ z. AreApart z a) y (first_apart dedb number before d ds a x)))
    by (inr x) (inr y) later = later x y

-- ---- anchors

-- an anchor lies among those of an area
pub record LiesIn (a : Area) (anchor : ℕ) : Type 0 where
  pub low : a.first_anchor ≤ anchor
  pub high : anchor < a.first_anchor + anchors_in a.def

pub lies_in : (a : Area) (dedb anchor : ℕ) → has_anchor a dedb anchor ≡ true → LiesIn a anchor
lies_in a dedb anchor e =
    let both = first_of_both (a.dedb == dedb && nat_le a.first_anchor anchor)
    (nat_lt anchor (a.first_anchor + anchors_in a.def)) e in
    let last = second_of_both (a.dedb == dedb && nat_le a.first_anchor anchor)
    (nat_lt anchor (a.first_anchor + anchors_in a.def)) e in
    let middle = second_of_both (a.dedb == dedb) (nat_le a.first_anchor anchor) both in
    record { low = le a.first_anchor anchor middle; high = lt anchor (a.first_anchor + anchors_in a.def) last }
  where
    le : (m n : ℕ) → nat_le m n ≡ true → m ≤ n
    le m n e = grind (arith, nat_tests)

    lt : (m n : ℕ) → nat_lt m n ≡ true → m < n
    lt m n e = grind (arith, nat_tests)

-- an anchor of one lies outside of another that is apart
pub lies_outside : (a b : Area) (anchor : ℕ) → AreApart a b → LiesIn b anchor → (anchor < a.first_anchor)
    ⊎ (a.first_anchor + anchors_in a.def ≤ anchor)
lies_outside a b anchor apart in_b = by apart.anchors
  where
    by : (a.first_anchor + anchors_in a.def ≤ b.first_anchor) ⊎ (b.first_anchor + anchors_in b.def ≤ a.first_anchor)
        → (anchor < a.first_anchor) ⊎ (a.first_anchor + anchors_in a.def ≤ anchor)
    by (inl before) = inr (omega (arith, before, in_b.low))
    by (inr behind) = inl (omega (arith, behind, in_b.high))

-- ---- the areas of all databases

-- an area as one of its database alone
abbrev pub alone : Area → Area
alone a = record a { dedb = 0 }

pub alone_there : (dedb number before : ℕ) (areas : List AreaDef) (a : Area)
    → Contains (areas_from dedb number before areas) a → Contains (areas_from 0 number before areas) (alone a)
alone_there dedb number before [] a c = absurd (contains_nothing a c)
alone_there dedb number before (d ∷ ds) a c = by (contains_cases _
    (areas_from dedb (number + 1) (before + anchors_in d) ds) a c)
    (alone_there dedb (number + 1) (before + anchors_in d) ds a)
  where
    by : (record { dedb = dedb; number = number; first_anchor = before; def = d } ≡ a)
        ⊎ Contains (areas_from dedb (number + 1) (before + anchors_in d) ds) a
        → (Contains (areas_from dedb (number + 1) (before + anchors_in d) ds) a
        → Contains (areas_from 0 (number + 1) (before + anchors_in d) ds) (alone a))
        → Contains (areas_from 0 number before (d ∷ ds)) (alone a)
    by (inl same) later = subst (λ z. Contains (areas_from 0 number before (d ∷ ds)) (alone z)) same
        (contains_first _ _)
    by (inr there) later = contains_later _ _ (alone a) (later there)

-- the database of an area
pub record HasDatabase (dedb : ℕ) (defs : List DedbDef) (a : Area) : Type 0 where
  pub place : ℕ
  pub def : DedbDef
  pub its_dedb : a.dedb ≡ dedb + place
  pub its_def : slice_get defs place ≡ Some def
  pub there : Contains (areas_from a.dedb 0 0 def.areas) a

pub database : (dedb : ℕ) (defs : List DedbDef) (a : Area) → Contains (areas_of_all dedb defs) a
    → HasDatabase dedb defs a
database dedb [] a c = absurd (contains_nothing a c)
database dedb (d ∷ ds) a c = by (Contains-append_cases (areas_from dedb 0 0 d.areas) (areas_of_all (dedb + 1) ds) a c)
    (database (dedb + 1) ds a)
  where
    by : Contains (areas_from dedb 0 0 d.areas) a ⊎ Contains (areas_of_all (dedb + 1) ds) a
        → (Contains (areas_of_all (dedb + 1) ds) a → HasDatabase (dedb + 1) ds a) → HasDatabase dedb (d ∷ ds) a
    by (inl here) later =
        let its = (placed dedb 0 0 d.areas a here).its_dedb in
        record {
          place = 0;
          def = d;
          its_dedb = omega (arith, its);
          its_def = refl;
          there =
              subst (λ (n : ℕ). Contains (areas_from n 0 0 d.areas) a) (sym its) here;
        }
    by (inr there) later = let h = later there in record
        { place = suc h.place; def = h.def; its_dedb = omega (arith, h.its_dedb); its_def = h.its_def; there = h.there }
