use Rattle.std.proofs.Common.{◌≡◌, ◌≢◌, slice_index, true, false, sym, ◌∙◌, IsTrue, eq-eqb}
use Rattle.std.proofs.lemmas.Bool.{eqb-true}
use Rattle.ci_space.proofs.Standing.{empty-read, empty-kind, empty-length}
use Rattle.ci_space.proofs.elements.is_empty.Goals as goal

pub returns-then-not-holds_elements : goal.returns-then-not-holds_elements
returns-then-not-holds_elements c = (
  (λ h. absurd (cc)),
  λ t.
      let a : IsTrue _ = empty-kind _ t in
      let b : true ≡ false = sym a ∙ sym c.holds_elements.ensures ∙ c.if-not-holds_elements.true in
      absurd (cc),
)

pub returns : goal.returns
returns c =
    let kind = sym c.holds_elements.ensures ∙ c.if-not-holds_elements.false in
    let t : slice_index c.args.bytes.now 34 ≢ 1 = λ u. let e : c.is_used.result ≡ true =
    c.is_used.ensures.1 u in let f : c.is_used.result ≡ false = c.if-is_used.false in cc in (
      (λ h. empty-read _ c.requires kind t (sym c.length_at.ensures.length ∙ eqb-true _ _ h)),
      λ i. eq-eqb _ _ (c.length_at.ensures.length ∙ empty-length _ i),
    )
