-- What there is of an interval.
use Rattle.std.proofs.Common.{◌≡◌, ℕ, ◌*◌, List, length, refl}
use Rattle.std.specs.Prelude.{Option, Some, None, Result, Ok, Err, OnOk, OnErr}
use Rattle.fp_site.specs.Disk.{read_range}
use Rattle.ci_pool.specs.declared.cell.Waiting.{Waiting}
use Rattle.ci_pool.specs.Held.{Held, pending_at, bytes_of, bytes_or, newest_in, HasSize}
use Rattle.fp_site.proofs.Ranges.{length_read}

-- an answer's two cases
pub by_answer : {T E : Type 0} (r : Result T E) (A B P : Type 0) → OnOk r A → OnErr r B → (A → P) → (B → P) → P
by_answer (Ok x) A B P a b f g = f a
by_answer (Err e) A B P a b f g = g b

size_of_newest : (size at : ℕ) (contents : List ℕ) (o : Option Waiting)
    → ((w : Waiting) → o ≡ Some w → length w.bytes ≡ size)
    → length (bytes_or (bytes_of o) (read_range contents (at * size) size)) ≡ size
size_of_newest size at contents None f = length_read contents (at * size) size
size_of_newest size at contents (Some w) f = f w refl

-- the newest bytes of an interval have its size
pub sized_newest : (set size : ℕ) (pool : Held) (contents : ℕ → List ℕ) (ci : ℕ) → HasSize set size pool
    → length (newest_in pool contents set ci size) ≡ size
sized_newest set size pool contents ci sizes =
    size_of_newest size ci (contents set) (pending_at pool set ci) (sizes.pending ci)
