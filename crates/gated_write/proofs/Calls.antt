-- Calls one behind the other: what they read, and how they count.
use Rattle.std.proofs.Common.{◌≡◌, ◌∙◌, ℕ, subst}
use Rattle.std.specs.Prelude.{Result}
use Rattle.fp_lists.specs.Faults.{Counts}
use Rattle.fp_site.specs.Site.{ReadsNothing}

-- nothing was read by these, and nothing by those
pub reads_nothing_both : (told told1 told2 : ℕ → Type 0) (read read1 read2 : ℕ → ℕ) → ReadsNothing told told1 read read1
    → ReadsNothing told1 told2 read1 read2 → ReadsNothing told told2 read read2
reads_nothing_both told told1 told2 read read1 read2 first second k t =
    let after = second k t in
    let before = first k after.0 in
    (before.0, after.1 ∙ before.1)

-- behind calls that went well the last one counts
pub counts_from : {T E : Type 0} (before now later : ℕ) (r : Result T E) → now ≡ before → Counts now later r
    → Counts before later r
counts_from before now later r same counts = subst (λ n. Counts n later r) same counts
