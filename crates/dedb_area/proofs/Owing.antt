-- What a pool owes, once an interval is written.
use Rattle.std.proofs.Common.{◌≡◌, ℕ, Bool, true, false, List, sym, ◌∙◌, ap, refl}
use Rattle.std.specs.Prelude.{◌==◌, ◌&&◌, if◌then◌else◌, Option, Some, None, Result, Ok, Err, OnOk, OnErr}
use mathlib.Core.Path.{fun_ext}
use Rattle.area_redo.specs.Standing.{Due, without}
use Rattle.ci_pool.specs.declared.cell.Waiting.{Waiting}
use Rattle.ci_pool.specs.Held.{Held, pending_at, staged_at, HasSize}
use Rattle.area_states.specs.declared.place.Place.{Place}
use Rattle.dedb_area.specs.Standing.{IsFitPool, due_of, owed_of}
use Rattle.dedb_area.specs.Keeping.{IsWritten, StillWaits}

due_if : (t : Bool) (o : Option Waiting) → due_of (if t then None else o) ≡ (if t then None else due_of o)
due_if true o = refl
due_if false o = refl

-- it owes the less
pub owed_less : (before after : Held) (set ci : ℕ) → IsWritten before after set ci
    → owed_of after ≡ without set ci (owed_of before)
owed_less before after set ci done = fun_ext (λ s. fun_ext (λ k.
    ap due_of (done s k) ∙ due_if (s == set && k == ci) (pending_at before s k)))

left_of : (t : Bool) (o : Option Waiting) (w : Waiting) → (if t then None else o) ≡ Some w → o ≡ Some w
left_of true o w is = cc
left_of false o w is = is

pub written_waits : (before after : Held) (set ci : ℕ) → IsWritten before after set ci → StillWaits before after
written_waits before after set ci done s k w is =
    left_of (s == set && k == ci) (pending_at before s k) w (sym (done s k) ∙ is)

pub same_waits : (before after : Held) → after ≡ before → StillWaits before after
same_waits before after same s k w is = sym (ap (λ (p : Held). pending_at p s k) same) ∙ is

-- an answer's two cases
pub by_both : {T E : Type 0} (r : Result T E) (A B C D P : Type 0) → OnOk r A → OnOk r B → OnErr r C → OnErr r D
    → (A → B → P) → (C → D → P) → P
by_both (Ok x) A B C D P a b d e f g = f a b
by_both (Err x) A B C D P a b d e f g = g d e

-- what is owed still, was owed before
owing : (a b : Option Waiting) (due : Due) → ((w : Waiting) → a ≡ Some w → b ≡ Some w) → due_of a ≡ Some due
    → due_of b ≡ Some due
owing None b due f is = cc
owing (Some w) b due f is = ap due_of (f w refl) ∙ is

pub still_owed : (before after : Held) → StillWaits before after → (s k : ℕ) (due : Due)
    → owed_of after s k ≡ Some due → owed_of before s k ≡ Some due
still_owed before after still s k due is = owing (pending_at after s k) (pending_at before s k) due (still s k) is

-- a pool in which no more waits fits as before
pub fit_still : (places : List Place) (before after : Held) → StillWaits before after
    → ((s n : ℕ) → HasSize s n before → HasSize s n after) → ((s k : ℕ) → staged_at after s k ≡ staged_at before s k)
    → IsFitPool places before → IsFitPool places after
fit_still places before after still sizes staged fit = record {
  sizes = λ set place is. sizes set place.shape.ci (fit.sizes set place is);
  areas = λ s k w is. fit.areas s k w (still s k w is);
  below = λ s k w is. fit.below s k w (still s k w is);
  unstaged = λ s k. staged s k ∙ fit.unstaged s k;
}
