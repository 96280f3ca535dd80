use Rattle.std.proofs.Common.{◌∙◌, sym}
use Rattle.root_changes.specs.Differing.{RootDiffers}
use Rattle.root_changes.proofs.ComparingLemmas.{place_apart, roots_apart}
use Rattle.root_anchor.proofs.rewriting.are_same.Goals as goal

pub returns-in_default : goal.returns-in_default
returns-in_default c =
    let apart = place_apart RootDiffers roots_apart c.as_slice.result.now c.as_slice-2.result.now c.compare_roots.result
    c.compare_roots.ensures.tells c.in_default.not-Nowhere in
    (λ h. absurd (cc), λ e. absurd (apart (c.as_slice.ensures ∙ e ∙ sym c.as_slice-2.ensures)))
