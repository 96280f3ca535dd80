-- What calls that change no area keep of a pool and a site.
use Rattle.std.proofs.Common.{◌≡◌, ℕ, refl}
use Rattle.fp_site.specs.Disk.{Disk, Stays}
use Rattle.fp_lists.specs.Continued.{IsContinued}
use Rattle.fp_lists.proofs.ContinuedLemmas.{continued_none}
use Rattle.fp_site.proofs.Runs.{elapses_none}
use Rattle.ci_pool.specs.Held.{Held, IsClean, HasSize}

-- By what the site tells: it is looked at and stays. What the pool has pending and staged stays; its clean intervals may
-- be others, of the data sets' bytes and of their sizes still, where those asked for are of one data set and size.
pub record LooksAt {S : Type 0} (told : S → Type 0) (disk : S → Disk) (faults holds : S → ℕ) (keeps : S → S → Type 0)
    (set size : ℕ) (old new : S) (before after : Held) : Type 0 where
  pub continued : IsContinued told faults holds keeps old new
  pub stays : told old → Stays (disk old) (disk new)
  pub cells : after.cells ≡ before.cells
  pub sizes : (s n : ℕ) → (s ≡ set → n ≡ size) → HasSize s n before → HasSize s n after
  pub clean : told old → IsClean (disk old).contents before → IsClean (disk new).contents after

-- nothing changed on a disk
pub stays_itself : (disk : Disk) → Stays disk disk
stays_itself disk = record { contents = refl; sent = refl; crash = elapses_none disk disk.may_leave }

-- no call yet
pub looks_none : {S : Type 0} (told : S → Type 0) (disk : S → Disk) (faults holds : S → ℕ) (keeps : S → S → Type 0)
    (set size : ℕ) (s : S) (pool : Held) → LooksAt told disk faults holds keeps set size s s pool pool
looks_none told disk faults holds keeps set size s pool = record {
  continued = continued_none told faults holds keeps s;
  stays = λ t. stays_itself (disk s);
  cells = refl;
  sizes = λ n m same was. was;
  clean = λ t was. was;
}
