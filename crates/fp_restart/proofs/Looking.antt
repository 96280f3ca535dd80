-- Calls on a site that change nothing, one after another.
use Rattle.std.proofs.Common.{ℕ, refl}
use Rattle.fp_lists.specs.Continued.{IsContinued}
use Rattle.fp_lists.proofs.ContinuedLemmas.{continued_both, continued_none}
use Rattle.fp_site.specs.Disk.{Disk, IsLawful, Stays}
use Rattle.fp_site.proofs.Runs.{elapses_none, stays_then}

module _ {S : Type 0} (told : S → Type 0) (disk : S → Disk) (faults holds : S → ℕ) (keeps : S → S → Type 0) where
  -- nothing changed but the counts
  pub record Looks (old new : S) : Type 0 where
    pub stays : told old → Stays (disk old) (disk new)
    pub site : IsContinued told faults holds keeps old new

  -- before the first call
  pub looks_none : (a : S) → Looks a a
  looks_none a = record {
    stays = λ t. record { contents = refl; sent = refl; crash = elapses_none (disk a) (disk a).may_leave };
    site = continued_none told faults holds keeps a;
  }

  -- one call more
  pub looks_on : ((s : S) → told s → IsLawful (disk s)) → (a b c : S) → Looks a b
      → (told b → Stays (disk b) (disk c)) → IsContinued told faults holds keeps b c → Looks a c
  looks_on lawful a b c so_far stays site = record {
    stays = λ t. let t1 = so_far.site.still_told t in stays_then (disk a) (disk b) (disk c) (lawful a t) (lawful b t1)
        (so_far.stays t) (stays t1);
    site = continued_both told faults holds keeps a b c so_far.site site;
  }
