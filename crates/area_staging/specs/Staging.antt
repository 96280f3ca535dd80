-- The intervals of one area, under changes that are staged: no entry has them yet.
use Rattle.std.proofs.Common.{◌≡◌, ℕ, zero, suc, ◌*◌, ◌<◌, ◌≤◌, List, length, get_or, refl, ◌∙◌, ap, arith}
use Rattle.std.specs.Prelude.{Option, Some, None, IsSome}
use Rattle.fp_site.specs.Disk.{Disk, read_range}
use Rattle.fp_site.specs.Site.{ReadsNothing}
use Rattle.ci_space.specs.Calls.{HaveSize}
use Rattle.ci_pool.specs.declared.cell.Waiting.{Waiting}
use Rattle.ci_pool.specs.Held.{Held, SameAtHand, held_at, pending_at, bytes_of, bytes_or, newest_in, IsClean, HasSize}
use Rattle.held_intervals.specs.Holding.{Changes, held_or, listed, Fit}
use Rattle.area_staging.specs.Looking.{LooksAt, looks_none}
use Rattle.fp_site.proofs.Ranges.{length_read}

-- an interval as it is staged, else as the newest entry left it
abbrev pub staged_or_newest : Changes → Held → (ℕ → List ℕ) → ℕ → ℕ → ℕ → List ℕ
staged_or_newest staged pool contents set size ci = held_or (staged ci) (newest_in pool contents set ci size)

-- so many of them, from the first on
abbrev pub staged_area : ℕ → Changes → Held → (ℕ → List ℕ) → ℕ → ℕ → List (List ℕ)
staged_area count staged pool contents set size = listed count (staged_or_newest staged pool contents set size)

-- what the pool has of the area is of its size, and of its data set where it is clean
pub record IsToldPool (set size : ℕ) (contents : ℕ → List ℕ) (pool : Held) : Type 0 where
  pub clean : IsClean contents pool
  pub sizes : HasSize set size pool

-- What is staged grows: each interval from the old count on is staged, and what was staged still is.
pub record Grows (old_count count : ℕ) (old new : Changes) : Type 0 where
  pub no_fewer : old_count ≤ count
  pub fresh : (ci : ℕ) → old_count ≤ ci → ci < count → IsSome (new ci)
  pub stay : (ci : ℕ) → IsSome (old ci) → IsSome (new ci)

-- each of so many intervals of an area is at hand: it waits to be written, or is on the pool's list of clean ones
abbrev pub AllAtHand : Held → ℕ → ℕ → Type 0
AllAtHand pool set count = (ci : ℕ) → ci < count → IsSome (held_at pool set ci)

-- What is known of staging since it was the first: pool and site were looked at and stay, and what is staged grows. Where
-- each interval that was there is at hand, nothing was read, and all that was at hand still is.
pub record KeepsStaging {S : Type 0} (told : S → Type 0) (disk : S → Disk) (faults holds : S → ℕ)
    (keeps : S → S → Type 0) (tells_reads : S → ℕ → Type 0) (bytes_read : S → ℕ → ℕ) (set size first_count count : ℕ)
    (old new : S) (before after : Held) (first_staged staged : Changes) : Type 0 where
  pub looks : LooksAt told disk faults holds keeps set size old new before after
  pub grows : Grows first_count count first_staged staged
  pub reads : AllAtHand before set first_count
      → ReadsNothing (tells_reads old) (tells_reads new) (bytes_read old) (bytes_read new)
  pub hand : AllAtHand before set first_count → SameAtHand before after

pub grows_itself : (count : ℕ) (staged : Changes) → Grows count count staged staged
grows_itself count staged = record {
  no_fewer = omega arith;
  fresh = λ ci from below. absurd (omega (arith, from, below));
  stay = λ ci is. is;
}

pub kept_itself : {S : Type 0} (told : S → Type 0) (disk : S → Disk) (faults holds : S → ℕ) (keeps : S → S → Type 0)
    (tells_reads : S → ℕ → Type 0) (bytes_read : S → ℕ → ℕ) (set size count : ℕ) (s : S) (pool : Held)
    (staged : Changes)
    → KeepsStaging told disk faults holds keeps tells_reads bytes_read set size count count s s pool pool staged staged
kept_itself told disk faults holds keeps tells_reads bytes_read set size count s pool staged = record {
  looks = looks_none told disk faults holds keeps set size s pool;
  grows = grows_itself count staged;
  reads = λ all k tells. (tells, refl);
  hand = λ all s k. refl;
}

-- ---- there are as many as are counted, each of the size

pub length_listed : (n : ℕ) (f : ℕ → List ℕ) → length (listed n f) ≡ n
length_listed zero f = refl
length_listed (suc n) f = ap suc (length_listed n (λ i. f (suc i)))

get_or_listed : (n : ℕ) (f : ℕ → List ℕ) (i : ℕ) (d : List ℕ) → i < n → get_or (listed n f) i d ≡ f i
get_or_listed zero f i d lt = absurd (omega arith)
get_or_listed (suc n) f zero d lt = refl
get_or_listed (suc n) f (suc i) d lt = get_or_listed n (λ j. f (suc j)) i d (omega arith)

size_of_either : (size at : ℕ) (contents : List ℕ) (staged : Option (List ℕ)) (w : Option Waiting)
    → ((bytes : List ℕ) → staged ≡ Some bytes → length bytes ≡ size)
    → ((v : Waiting) → w ≡ Some v → length v.bytes ≡ size)
    → length (held_or staged (bytes_or (bytes_of w) (read_range contents (at * size) size))) ≡ size
size_of_either size at contents (Some bytes) w f h = f bytes refl
size_of_either size at contents None (Some v) f h = h v refl
size_of_either size at contents None None f h = length_read contents (at * size) size

pub sized_staged : (count set size : ℕ) (staged : Changes) (pool : Held) (contents : ℕ → List ℕ)
    → Fit count size staged → HasSize set size pool
    → HaveSize size (staged_area count staged pool contents set size)
sized_staged count set size staged pool contents fit sizes k d lt =
    let below : k < count =
    omega (arith, lt, length_listed count (staged_or_newest staged pool contents set size)) in
    ap length (get_or_listed count (staged_or_newest staged pool contents set size) k d below)
    ∙ size_of_either size k (contents set) (staged k) (pending_at pool set k) (λ bytes is. (fit k bytes is).1)
    (sizes.pending k)
