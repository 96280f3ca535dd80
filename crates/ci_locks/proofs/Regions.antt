-- The regions of the code, one of which is changed.
use Rattle.std.proofs.Common.{refl, arith, ◌≡◌, ℕ, zero, suc, ◌<◌, List, [], ◌∷◌, ◌++◌, length, get_or, Option, Some, ap, sym, ◌∙◌}
use Rattle.std.specs.Prelude.{slice_get, slice_set}
use Rattle.ci_locks.specs.Regions.{region_at}
use Rattle.ci_locks.specs.declared.state.Region.{Region}

pub get_here : (regions : List Region) (place : ℕ) (r : Region) → place < length regions → r ≡ get_or regions place r
    → slice_get regions place ≡ Some r
get_here [] place r h is = absurd (omega (arith, h))
get_here (x ∷ xs) zero r h is = ap Some (sym is)
get_here (x ∷ xs) (suc place) r h is = get_here xs place r (omega (arith, h)) is

pub set_here : (regions : List Region) (place : ℕ) (next : Region) → place < length regions
    → slice_get (slice_set regions place next) place ≡ Some next
set_here [] place next h = absurd (omega (arith, h))
set_here (x ∷ xs) zero next h = refl
set_here (x ∷ xs) (suc place) next h = set_here xs place next (omega (arith, h))

pub set_other : (regions : List Region) (place other : ℕ) (next : Region) → (other ≡ place → ⊥)
    → slice_get (slice_set regions place next) other ≡ slice_get regions other
set_other [] place other next ne = refl
set_other (x ∷ xs) zero zero next ne = absurd (ne refl)
set_other (x ∷ xs) zero (suc other) next ne = refl
set_other (x ∷ xs) (suc place) zero next ne = refl
set_other (x ∷ xs) (suc place) (suc other) next ne = set_other xs place other next (λ e. ne (ap suc e))

pub set_long : (regions : List Region) (place : ℕ) (next : Region)
    → length (slice_set regions place next) ≡ length regions
set_long [] place next = refl
set_long (x ∷ xs) zero next = refl
set_long (x ∷ xs) (suc place) next = ap suc (set_long xs place next)

pub at_here : (regions : List Region) (place region : ℕ) (next : Region) → place < length regions → region ≡ suc place
    → region_at (slice_set regions place next) region ≡ Some next
at_here regions place region next h e = ap (region_at (slice_set regions place next)) e ∙ set_here regions place next h

pub at_other : (regions : List Region) (place region other : ℕ) (next : Region) → region ≡ suc place
    → (other ≡ region → ⊥) → region_at (slice_set regions place next) other ≡ region_at regions other
at_other regions place region zero next e ne = refl
at_other regions place region (suc other) next e ne =
    set_other regions place other next (λ same. ne (ap suc same ∙ sym e))

pub at_old : (regions : List Region) (place region : ℕ) (r : Region) → place < length regions → region ≡ suc place
    → r ≡ get_or regions place r → region_at regions region ≡ Some r
at_old regions place region r h e is = ap (region_at regions) e ∙ get_here regions place r h is

get_push : (P : Option Region → Type 0) (regions : List Region) (r : Region) (place : ℕ) → P (slice_get regions place)
    → P (Some r) → P (slice_get (regions ++ r ∷ []) place)
get_push P [] r zero old one = one
get_push P [] r (suc place) old one = old
get_push P (x ∷ xs) r zero old one = old
get_push P (x ∷ xs) r (suc place) old one = get_push P xs r place old one

-- what holds of each region and of none holds with one more
pub at_push : (P : Option Region → Type 0) (regions : List Region) (r : Region) (region : ℕ)
    → P (region_at regions region) → P (Some r) → P (region_at (regions ++ r ∷ []) region)
at_push P regions r zero old one = old
at_push P regions r (suc place) old one = get_push P regions r place old one
