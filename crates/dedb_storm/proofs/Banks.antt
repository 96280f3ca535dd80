-- Transactions on the sample's databases: as one begins, behind an answer and behind a turn of another, and what its
-- commit leaves.
use Rattle.std.proofs.Common.{◌≡◌, ◌∙◌, ℕ, List, [], ◌∷◌, ◌++◌, length, ◌≤◌, Option, Some, None, refl, sym, ap, subst, Bool, true, false, slice_get, drop, take, arith}
use Rattle.std.proofs.lemmas.Bool.Decides.{nat_tests}
use Rattle.std.specs.Prelude.{is_some, not, ◌&&◌, ◌==◌, if◌then◌else◌}
use Rattle.std.specs.List.{AllByRecursion}
use Rattle.ci_locks.specs.Standing.{Shows, gained_over, locks_after}
use Rattle.ci_locks.specs.Table.{Row, standing}
use Rattle.ci_locks.specs.declared.locks.Grant.{Grant}
use Rattle.ci_locks.specs.declared.locks.Grant.TheVariants as grant
use Rattle.fp_model.specs.declared.calls.AnchorChange.{AnchorChange}
use Rattle.fp_model.specs.declared.calls.Call.{Call}
use Rattle.fp_model.specs.declared.calls.Mode.{Mode}
use Rattle.fp_model.specs.declared.calls.Mode.TheVariants.{Share, Exclusive}
use Rattle.fp_model.specs.declared.calls.Resource.{Resource}
use Rattle.fp_model.specs.declared.calls.Resource.TheVariants.{Anchor}
use Rattle.fp_model.specs.declared.definitions.DedbDef.{DedbDef}
use Rattle.fp_model.specs.declared.definitions.Defs.{Defs}
use Rattle.fp_model.specs.Calls.{OnDedb, Target, database_of, target_of}
use Rattle.fp_model.specs.Waiting.{Lock, held_as, same_resource, without_region}
use Rattle.dedb_calls.specs.Anchors.{Ascend, change_of, changes_in, held_at, stands_before}
use Rattle.dedb_calls.specs.Calls.{FitsCallOn}
use Rattle.dedb_calls.specs.Progress.{GoesOn, Knows}
use Rattle.dedb_calls.specs.declared.anchors.HeldAnchor.{HeldAnchor}
use Rattle.dedb_calls.proofs.AnchorLemmas.{after_differs, turned}
use Rattle.dli_calls.specs.Progress.{IsWorkOf, Progress, dedbs_in}
use Rattle.dli_calls.specs.Targets.{FitsWork, IfDedb, LeavesOthers}
use Rattle.dedb_calls.proofs.TargetLemmas.{on_dedb}
use Rattle.dedb_storm.specs.Bank.{AreFree, AreKept, IsGoing, IsKept, KeepsOthers, StartsAt}
use Rattle.plain_laws.proofs.Alls.{all_append, all_taken}
use Rattle.plain_laws.proofs.Numbers.{both_same, not_flipped}

-- ---- as it begins

no_more : (o : Option Mode) → o ≡ None → is_some o ≡ true → ⊥
no_more o none some = cc

pub starts_free : (locks : List Row) → length locks ≡ 2 → Shows (standing locks) [] [] → AreFree locks
starts_free locks regions shows = record {
  locked = record { regions = regions; all = []; requests = []; shows = shows };
  known = λ region d a held. absurd (no_more _ (sym (shows.held region (Anchor d a))) held);
}

pub free_starts : (region : ℕ) (locks : List Row) → AreFree locks → StartsAt region locks
free_starts region locks free = record { locked = free.locked; known = free.known region }

pub begins : (defs : Defs) (region : ℕ) (work : Progress) (locks : List Row) → IsWorkOf defs work → work.anchors ≡ []
    → 1 ≤ region → region ≤ 2 → StartsAt region locks → IsGoing defs region work locks
begins defs region work locks of none some within starts = record {
  going = of;
  some = some;
  within = within;
  locked = starts.locked;
  known = subst (λ (anchors : List HeldAnchor). Knows ((standing locks).holds region) anchors) (sym none) starts.known;
}

-- ---- what other regions hold

nor_its : (n other region : ℕ) → (n == region) ≡ true → (other == region) ≡ false → (n == other) ≡ false
nor_its n other region its differs = grind (arith, nat_tests)

-- a lock of another region hides none
passed : (lock : Lock) (locks : List Lock) (other : ℕ) (resource : Resource) → (lock.region == other) ≡ false
    → held_as (lock ∷ locks) other resource ≡ held_as locks other resource
passed lock locks other resource differs = rw differs refl

other_gained : (o : Option Mode) (wanted : Lock) (locks : List Lock) (other : ℕ) (resource : Resource)
    → (other == wanted.region) ≡ false
    → held_as (gained_over o wanted locks) other resource ≡ held_as locks other resource
other_gained None wanted locks other resource differs =
    passed wanted locks other resource (not_flipped other wanted.region differs)
other_gained (Some Share) wanted locks other resource differs =
    passed wanted locks other resource (not_flipped other wanted.region differs)
other_gained (Some Exclusive) wanted locks other resource differs = refl

other_after : (g : Grant) (wanted : Lock) (locks : List Lock) (other : ℕ) (resource : Resource)
    → (other == wanted.region) ≡ false
    → held_as (locks_after g wanted locks) other resource ≡ held_as locks other resource
other_after grant.Held wanted locks other resource differs =
    other_gained (held_as locks wanted.region wanted.resource) wanted locks other resource differs
other_after (grant.Wait holders) wanted locks other resource differs = refl
other_after (grant.Cycle list) wanted locks other resource differs = refl

-- behind a request of a region
pub asked_keeps : (old new : List Row) (g : Grant) (wanted : Lock) (locks requests requests2 : List Lock)
    → Shows (standing old) locks requests → Shows (standing new) (locks_after g wanted locks) requests2
    → KeepsOthers wanted.region old new
asked_keeps old new g wanted locks requests requests2 shows shows2 other resource differs =
    sym (shows2.held other resource) ∙ other_after g wanted locks other resource differs ∙ shows.held other resource

module _ (region : ℕ) where
  its_gone : (locks : List Lock) (resource : Resource) → held_as (without_region region locks) region resource ≡ None
  its_gone [] resource = refl
  its_gone (lock ∷ locks) resource = by (lock.region == region) refl (its_gone locks resource)
    where
      by : (b : Bool) → (lock.region == region) ≡ b → held_as (without_region region locks) region resource ≡ None
          → held_as (if not b then lock ∷ without_region region locks else without_region region locks) region resource
          ≡ None
      by true e later = later
      by false e later = passed lock (without_region region locks) region resource e ∙ later

  others_stay : (locks : List Lock) (other : ℕ) (resource : Resource) → (other == region) ≡ false
      → held_as (without_region region locks) other resource ≡ held_as locks other resource
  others_stay [] other resource differs = refl
  others_stay (lock ∷ locks) other resource differs =
      by (lock.region == region) refl (others_stay locks other resource differs)
    where
      by : (b : Bool) → (lock.region == region) ≡ b
          → held_as (without_region region locks) other resource ≡ held_as locks other resource
          → held_as (if not b then lock ∷ without_region region locks else without_region region locks) other resource
          ≡ held_as (lock ∷ locks) other resource
      by true e later =
          later
          ∙ sym (passed lock locks other resource (nor_its lock.region other region e differs))
      by false e later =
          ap (λ (held : Option Mode). if lock.region == other && same_resource lock.resource resource
          then Some lock.mode else held) later

  -- behind the end of a region's transaction
  pub freed_keeps : (old new : List Row) (locks requests : List Lock) → Shows (standing old) locks requests
      → Shows (standing new) (without_region region locks) (without_region region requests)
      → KeepsOthers region old new
  freed_keeps old new locks requests shows shows2 other resource differs =
      sym (shows2.held other resource) ∙ others_stay locks other resource differs ∙ shows.held other resource

  pub freed_starts : (new : List Row) (locks requests : List Lock) → length new ≡ 2
      → Shows (standing new) (without_region region locks) (without_region region requests) → StartsAt region new
  freed_starts new locks requests regions shows = record {
    locked = record {
      regions = regions;
      all = without_region region locks;
      requests = without_region region requests;
      shows = shows;
    };
    known = λ d a held. absurd (no_more _ (sym (shows.held region (Anchor d a)) ∙ its_gone locks (Anchor d a)) held);
  }

-- a transaction of another region goes on
pub other_goes : (defs : Defs) (region other : ℕ) (mine work : Progress) (old new : List Row)
    → (other == region) ≡ false → IsGoing defs region mine new → KeepsOthers region old new
    → IsGoing defs other work old → IsGoing defs other work new
other_goes defs region other mine work old new differs here keeps goes = record {
  going = goes.going;
  some = goes.some;
  within = goes.within;
  locked = here.locked;
  known = λ d a held. goes.known d a (ap is_some (sym (keeps other (Anchor d a) differs)) ∙ held);
}

pub kept_same : (region : ℕ) (locks : List Row) → KeepsOthers region locks locks
kept_same region locks other resource differs = refl

pub kept_on : (region : ℕ) (old middle new : List Row) → KeepsOthers region old middle
    → KeepsOthers region middle new → KeepsOthers region old new
kept_on region old middle new before behind other resource differs =
    behind other resource differs ∙ before other resource differs

-- ---- a call to the data entry database

module _ (defs : Defs) (c : Call) (def : DedbDef) (there : slice_get defs.dedbs 0 ≡ Some def)
    (number : database_of c ≡ length defs.msdbs) where
  target : target_of defs (database_of c) ≡ OnDedb def 0
  target = on_dedb defs (database_of c) 0 def (omega (arith, number)) (omega (arith, number)) there

  pub bank_fits : (work : Progress) → FitsCallOn def 0 (dedbs_in work) c
      → FitsWork (target_of defs (database_of c)) work c
  bank_fits work fits = subst (λ (t : Target). FitsWork t work c) (sym target) fits

  pub bank_knows : (P : Type 0) → P → IfDedb (target_of defs (database_of c)) P
  bank_knows P p = subst (λ (t : Target). IfDedb t P) (sym target) p

  pub bank_goes : (old new : Progress) → LeavesOthers (target_of defs (database_of c)) old new
      → GoesOn 0 (dedbs_in old) (dedbs_in new)
  bank_goes old new leaves = (subst (λ (t : Target). LeavesOthers t old new) target leaves).1

-- ---- what a commit leaves

-- each anchor is found among those that ascend
found_behind : (x : HeldAnchor) (ys xs : List HeldAnchor)
    → AllByRecursion (λ b. stands_before b.dedb b.anchor x ≡ true) ys
    → AllByRecursion (λ a. held_at xs a.dedb a.anchor ≡ Some a) ys
    → AllByRecursion (λ a. held_at (x ∷ xs) a.dedb a.anchor ≡ Some a) ys
found_behind x [] xs before found = tt
found_behind x (y ∷ ys) xs before found =
    let other : (x.dedb == y.dedb && x.anchor == y.anchor) ≡ false =
    turned y.dedb y.anchor x.dedb x.anchor (after_differs x.dedb x.anchor y.dedb y.anchor before.0) in
    (rw other found.0, found_behind x ys xs before.1 found.1)

found_each : (xs : List HeldAnchor) → Ascend xs → AllByRecursion (λ a. held_at xs a.dedb a.anchor ≡ Some a) xs
found_each [] up = tt
found_each (x ∷ xs) up =
    (rw (both_same x.dedb x.anchor) refl, found_behind x xs xs up.0 (found_each xs up.1))

changes_kept : (dedbs : List DedbDef) (xs ys : List HeldAnchor)
    → AllByRecursion (λ a. held_at ys a.dedb a.anchor ≡ Some a) xs
    → ((a : HeldAnchor) → held_at ys a.dedb a.anchor ≡ Some a → IsKept dedbs (change_of a))
    → AreKept dedbs (changes_in xs)
changes_kept dedbs [] ys found kept = tt
changes_kept dedbs (x ∷ xs) ys found kept = by x.is_changed (changes_kept dedbs xs ys found.1 kept)
  where
    by : (b : Bool) → AreKept dedbs (changes_in xs)
        → AreKept dedbs (if b then change_of x ∷ changes_in xs else changes_in xs)
    by true rest = (kept x found.0, rest)
    by false rest = rest

pub left_kept : (defs : Defs) (work : Progress) (kept : List AnchorChange) → IsWorkOf defs work
    → AreKept defs.dedbs kept → AreKept defs.dedbs (work.own.changes ++ kept)
left_kept defs work kept of before =
    all_append (IsKept defs.dedbs) work.own.changes kept
    (subst (AreKept defs.dedbs) (sym of.edits)
    (changes_kept defs.dedbs work.anchors work.anchors (found_each work.anchors of.dedbs.order)
    (λ a found def there. (of.dedbs.each a.dedb def there).shapes a.anchor a found)))
    before

-- those behind the first
pub kept_behind : (dedbs : List DedbDef) (n : ℕ) (kept : List AnchorChange) → AreKept dedbs kept
    → AreKept dedbs (take n (drop 1 kept))
kept_behind dedbs n [] all = all_taken (IsKept dedbs) n [] tt
kept_behind dedbs n (change ∷ kept) all = all_taken (IsKept dedbs) n kept all.1
