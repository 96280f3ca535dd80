-- One run of calls behind another, by how many bytes of a site were read.
use Rattle.std.proofs.Common.{refl, ◌∙◌, ℕ}
use Rattle.fp_site.specs.Site.{ReadsNothing}

pub reads_nothing_none : (told : ℕ → Type 0) (read : ℕ → ℕ) → ReadsNothing told told read read
reads_nothing_none told read set t = (t, refl)
