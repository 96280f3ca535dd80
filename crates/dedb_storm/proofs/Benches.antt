-- A transaction of the only region: as it begins, behind an answer, and behind a lock that is gained.
use Rattle.std.proofs.Common.{◌≡◌, ◌∙◌, ℕ, zero, suc, List, [], ◌∷◌, length, Option, Some, None, ap, subst, true, false, slice_get}
use Rattle.std.specs.Prelude.{is_some, option_map}
use Rattle.std.specs.List.{AllByRecursion}
use Rattle.ci_locks.specs.Standing.{Shows}
use Rattle.ci_locks.specs.Table.{Row, standing}
use Rattle.fp_model.specs.declared.calls.Resource.TheVariants.{Anchor}
use Rattle.fp_model.specs.declared.definitions.DedbDef.{DedbDef}
use Rattle.dedb_calls.specs.Progress.{DedbProgress, GoesOn, IsDedbWorkOf}
use Rattle.dedb_storm.specs.Bench.{IsUnderWay}

pub begun_on : (defs : List DedbDef) (work : DedbProgress) (locks : List Row) → IsDedbWorkOf defs work
    → length locks ≡ 1 → Shows (standing locks) [] [] → IsUnderWay defs work locks
begun_on defs work locks going region shows = record {
  going = going;
  region = region;
  all = [];
  requests = [];
  shows = shows;
  known = λ d a held. absurd (none (ap is_some (shows.held 1 (Anchor d a)) ∙ held));
}
  where
    none : false ≡ true → ⊥
    none e = cc

pub answered_on : (defs : List DedbDef) (number : ℕ) (old new : DedbProgress) (locks : List Row)
    → IsUnderWay defs old locks → IsDedbWorkOf defs new → GoesOn number old new → IsUnderWay defs new locks
answered_on defs number old new locks way going goes = record {
  going = going;
  region = way.region;
  all = way.all;
  requests = way.requests;
  shows = way.shows;
  known = λ d a held. goes.known d a ∙ way.known d a held;
}

pub all_at : {X : Type 0} (P : X → Type 0) (xs : List X) (n : ℕ) (x : X) → AllByRecursion P xs
    → slice_get xs n ≡ Some x → P x
all_at P [] n x all at = absurd (cc)
all_at P (y ∷ ys) zero x all at = let same : y ≡ x = cc in subst P same all.0
all_at P (y ∷ ys) (suc n) x all at = all_at P ys n x all.1 at

pub none_held : {A B : Type 0} (f : A → B) (o : Option A) (a : A) → None ≡ option_map f o → o ≡ Some a → ⊥
none_held f None a e at = cc
none_held f (Some b) a e at = cc
