-- What may be put into a workspace that fits: a position, a deferred call, a changed anchor, a sequential insert.
use Rattle.std.proofs.Common.{◌≡◌, ℕ, zero, suc, List, [], ◌∷◌, ◌++◌, Option, Some, None, refl, sym, ◌∙◌, ap, subst, Bool, true, false, ◌&&◌, ◌||◌, ◌==◌, nat_lt, slice_get, slice_set, arith, ◌⊎◌, inl, inr}
use Rattle.std.specs.Prelude.{filter, if◌then◌else◌, unwrap_or}
use Rattle.std.specs.List.{AllByRecursion}
use Rattle.std.proofs.lemmas.Bool.Decides.{nat_tests}
use Rattle.fp_model.specs.declared.calls.AnchorChange.{AnchorChange}
use Rattle.fp_model.specs.declared.calls.Deferred.{Deferred}
use Rattle.fp_model.specs.declared.calls.SeqInsert.{SeqInsert}
use Rattle.fp_model.specs.declared.database.Db.{Db}
use Rattle.fp_model.specs.declared.definitions.DedbDef.{DedbDef}
use Rattle.fp_model.specs.declared.definitions.Defs.{Defs}
use Rattle.fp_model.specs.declared.definitions.MsdbDef.{MsdbDef}
use Rattle.fp_model.specs.FitCalls.{FitsKey, IsFitDeferred}
use Rattle.fp_model.specs.Order.{Place}
use Rattle.fp_model.specs.Workspace.{DedbPosition, MsdbPosition, Workspace, change_precedes, no_dedb_position, no_msdb_position, put_change}
use Rattle.state_laws.specs.Parts.{FitsAnchorChange, FitsSeqInsert, changes_ascend}
use Rattle.state_laws.specs.Workspaces.{ChangeMayStand, FitsPlace, FitsWorkspace}
use Rattle.state_laws.proofs.Lists.{all_filter, true_is_not_false}
use Rattle.plain_laws.proofs.Alls.{all_append}
use Rattle.std.proofs.lemmas.Bool.{and_from}
use Rattle.plain_laws.proofs.Truths.{first_of_both, second_of_both}
use Rattle.state_laws.proofs.Committing.{others_ascend}

-- ---- changes in order

-- of two changes neither of which comes before the other, both are of one anchor
neither : (m n a b : ℕ) → (nat_lt m n || m == n && nat_lt a b) ≡ false → (nat_lt n m || n == m && nat_lt b a) ≡ false
    → (m ≡ n) × (a ≡ b)
neither m n a b e f =
    let same : m ≡ n = within m n (first_false (nat_lt m n) (m == n && nat_lt a b) e)
    (first_false (nat_lt n m) (n == m && nat_lt b a) f) in
    let less = not_second (m == n) (nat_lt a b) (is_number m n same)
    (second_false (nat_lt m n) (m == n && nat_lt a b) e) in
    let more = not_second (n == m) (nat_lt b a) (is_number n m (sym same))
    (second_false (nat_lt n m) (n == m && nat_lt b a) f) in
    (same, within a b less more)
  where
    first_false : (a b : Bool) → (a || b) ≡ false → a ≡ false
    first_false true b e = e
    first_false false b e = refl

    second_false : (a b : Bool) → (a || b) ≡ false → b ≡ false
    second_false true b e = cc
    second_false false b e = e

    not_second : (a b : Bool) → a ≡ true → (a && b) ≡ false → b ≡ false
    not_second true b is e = e
    not_second false b is e = absurd (true_is_not_false (sym is))

    within : (a b : ℕ) → nat_lt a b ≡ false → nat_lt b a ≡ false → a ≡ b
    within a b e f = grind (arith, nat_tests)

    is_number : (a b : ℕ) → a ≡ b → (a == b) ≡ true
    is_number a b e = grind arith

-- what comes before another comes before one of the same anchor
precedes_too : (c d e : AnchorChange) → change_precedes c d ≡ false → change_precedes d c ≡ false
    → change_precedes d e ≡ true → change_precedes c e ≡ true
precedes_too c d e cd dc de =
    let same = neither c.dedb d.dedb c.anchor d.anchor cd dc in
    ap (λ (n : ℕ). nat_lt n e.dedb || n == e.dedb && nat_lt c.anchor e.anchor) same.0
    ∙ ap (λ (n : ℕ). nat_lt d.dedb e.dedb || d.dedb == e.dedb && nat_lt n e.anchor) same.1
    ∙ de

-- a change, and one that is put behind it
put_behind : (d c : AnchorChange) (others : List AnchorChange) → change_precedes d c ≡ true
    → changes_ascend (d ∷ others) ≡ true → changes_ascend (put_change c others) ≡ true
    → changes_ascend (d ∷ put_change c others) ≡ true
put_behind d c [] dc up put = and_from (change_precedes d c) true dc refl
put_behind d c (e ∷ rest) dc up put = by (change_precedes c e) (change_precedes e c) put
  where
    by : (a b : Bool)
        → changes_ascend (if a then c ∷ e ∷ rest else (if b then e ∷ put_change c rest else c ∷ rest)) ≡ true
        → changes_ascend (d ∷ (if a then c ∷ e ∷ rest else (if b then e ∷ put_change c rest else c ∷ rest))) ≡ true
    by true b put = and_from (change_precedes d c) (changes_ascend (c ∷ e ∷ rest)) dc put
    by false true put =
        and_from (change_precedes d e) (changes_ascend (e ∷ put_change c rest))
        (first_of_both (change_precedes d e) (changes_ascend (e ∷ rest)) up) put
    by false false put = and_from (change_precedes d c) (changes_ascend (c ∷ rest)) dc put

in_place : (c d : AnchorChange) (others : List AnchorChange) → change_precedes c d ≡ false
    → change_precedes d c ≡ false → changes_ascend (d ∷ others) ≡ true → changes_ascend (c ∷ others) ≡ true
in_place c d [] cd dc up = refl
in_place c d (e ∷ rest) cd dc up =
    and_from (change_precedes c e) (changes_ascend (e ∷ rest))
    (precedes_too c d e cd dc (first_of_both (change_precedes d e) (changes_ascend (e ∷ rest)) up))
    (second_of_both (change_precedes d e) (changes_ascend (e ∷ rest)) up)

pub put_ascends : (c : AnchorChange) (changes : List AnchorChange) → changes_ascend changes ≡ true
    → changes_ascend (put_change c changes) ≡ true
put_ascends c [] up = refl
put_ascends c (d ∷ others) up =
    by (change_precedes c d) (change_precedes d c) refl refl (put_ascends c others (others_ascend d others up))
  where
    by : (a b : Bool) → change_precedes c d ≡ a → change_precedes d c ≡ b
        → changes_ascend (put_change c others) ≡ true
        → changes_ascend (if a then c ∷ d ∷ others else (if b then d ∷ put_change c others else c ∷ others)) ≡ true
    by true b cd dc put = and_from (change_precedes c d) (changes_ascend (d ∷ others)) cd up
    by false true cd dc put = put_behind d c others dc up put
    by false false cd dc put = in_place c d others cd dc up

pub all_put : (P : AnchorChange → Type 0) (c : AnchorChange) (changes : List AnchorChange) → P c
    → AllByRecursion P changes → AllByRecursion P (put_change c changes)
all_put P c [] one all = (one, tt)
all_put P c (d ∷ others) one all = by (change_precedes c d) (change_precedes d c) (all_put P c others one all.1)
  where
    by : (a b : Bool) → AllByRecursion P (put_change c others)
        → AllByRecursion P (if a then c ∷ d ∷ others else (if b then d ∷ put_change c others else c ∷ others))
    by true b put = (one, all)
    by false true put = (all.0, put)
    by false false put = (one, all.1)

-- ---- positions

-- a place of a list that was set, or another one
pub set_or_not : {X : Type 0} (xs : List X) (n k : ℕ) (p d : X)
    → ((k ≡ n) × (unwrap_or (slice_get (slice_set xs n p) k) d ≡ p))
    ⊎ (unwrap_or (slice_get (slice_set xs n p) k) d ≡ unwrap_or (slice_get xs k) d)
set_or_not [] n k p d = inr refl
set_or_not (x ∷ xs) zero zero p d = inl (refl, refl)
set_or_not (x ∷ xs) zero (suc k) p d = inr refl
set_or_not (x ∷ xs) (suc n) zero p d = inr refl
set_or_not (x ∷ xs) (suc n) (suc k) p d = elim (set_or_not xs n k p d) [
  | inl here ↦ inl (ap (λ (m : ℕ). suc m) here.0, here.1)
  | inr same ↦ inr same
]

-- the key and the place that a position holds
abbrev pub key_held : MsdbPosition → Option (List ℕ)
key_held p = if p.held then p.key else None

abbrev pub place_held : DedbPosition → Option Place
place_held p = if p.held then p.place else None

module _ (defs : Defs) (db : Db) (own : Workspace) (f : FitsWorkspace defs db own) where
  pub with_msdb : (number : ℕ) (p : MsdbPosition)
      → ((def : MsdbDef) (key : List ℕ) → slice_get defs.msdbs number ≡ Some def → key_held p ≡ Some key
      → FitsKey key def)
      → FitsWorkspace defs db (record own { msdbs = slice_set own.msdbs number p })
  with_msdb number p fits = record {
    state = record {
      deferred = f.state.deferred;
      in_order = f.state.in_order;
      changes = f.state.changes;
      inserts = f.state.inserts;
    };
    changes = f.changes;
    keys = λ msdb def key at e. elim (set_or_not own.msdbs number msdb p no_msdb_position) [
      | inl here ↦
          fits def key (subst (λ (n : ℕ). slice_get defs.msdbs n ≡ Some def) here.0 at) (sym (ap key_held here.1) ∙ e)
      | inr same ↦ f.keys msdb def key at (sym (ap key_held same) ∙ e)
    ];
    places = f.places;
  }

  pub with_dedb : (number : ℕ) (p : DedbPosition)
      → ((def : DedbDef) (place : Place) → slice_get defs.dedbs number ≡ Some def → place_held p ≡ Some place
      → FitsPlace def number place)
      → FitsWorkspace defs db (record own { dedbs = slice_set own.dedbs number p })
  with_dedb number p fits = record {
    state = record {
      deferred = f.state.deferred;
      in_order = f.state.in_order;
      changes = f.state.changes;
      inserts = f.state.inserts;
    };
    changes = f.changes;
    keys = f.keys;
    places = λ dedb def place at e. elim (set_or_not own.dedbs number dedb p no_dedb_position) [
      | inl here ↦
          subst (λ (n : ℕ). FitsPlace def n place) (sym here.0)
          (fits def place (subst (λ (n : ℕ). slice_get defs.dedbs n ≡ Some def) here.0 at)
          (sym (ap place_held here.1) ∙ e))
      | inr same ↦ f.places dedb def place at (sym (ap place_held same) ∙ e)
    ];
  }

  -- ---- what a commit would do

  pub with_deferred : (call : Deferred) → IsFitDeferred defs.msdbs call
      → FitsWorkspace defs db (record own { deferred = own.deferred ++ call ∷ [] })
  with_deferred call fit = record {
    state = record {
      deferred = all_append (IsFitDeferred defs.msdbs) own.deferred (call ∷ []) f.state.deferred (fit, tt);
      in_order = f.state.in_order;
      changes = f.state.changes;
      inserts = f.state.inserts;
    };
    changes = f.changes;
    keys = f.keys;
    places = f.places;
  }

  pub with_change : (c : AnchorChange) → FitsAnchorChange defs db c → ChangeMayStand defs c
      → FitsWorkspace defs db (record own { changes = put_change c own.changes })
  with_change c fit stand = record {
    state = record {
      deferred = f.state.deferred;
      in_order = put_ascends c own.changes f.state.in_order;
      changes = all_put (FitsAnchorChange defs db) c own.changes fit f.state.changes;
      inserts = f.state.inserts;
    };
    changes = all_put (ChangeMayStand defs) c own.changes stand f.changes;
    keys = f.keys;
    places = f.places;
  }

  pub with_insert : (i : SeqInsert) → FitsSeqInsert defs i
      → FitsWorkspace defs db (record own { inserts = own.inserts ++ i ∷ [] })
  with_insert i fit = record {
    state = record {
      deferred = f.state.deferred;
      in_order = f.state.in_order;
      changes = f.state.changes;
      inserts = all_append (FitsSeqInsert defs) own.inserts (i ∷ []) f.state.inserts (fit, tt);
    };
    changes = f.changes;
    keys = f.keys;
    places = f.places;
  }

  pub with_fewer_inserts : (p : SeqInsert → Bool) (inserts : List SeqInsert)
      → AllByRecursion (FitsSeqInsert defs) inserts
      → FitsWorkspace defs db (record own { inserts = filter p inserts })
  with_fewer_inserts p inserts fit = record {
    state = record {
      deferred = f.state.deferred;
      in_order = f.state.in_order;
      changes = f.state.changes;
      inserts = all_filter (FitsSeqInsert defs) p inserts fit;
    };
    changes = f.changes;
    keys = f.keys;
    places = f.places;
  }
