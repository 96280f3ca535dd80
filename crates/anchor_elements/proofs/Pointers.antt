-- Two pointers are the same, or not.
use Rattle.std.proofs.Common.{◌≡◌, ◌≢◌, ℕ, ◌⊎◌, inl, inr, ap, ◌∙◌}
use Rattle.anchor_elements.specs.Elements.{Pointer}
use Rattle.plain_laws.proofs.Numbers.{same_or_other}

pub same_pointer : (p q : Pointer) → p.0 ≡ q.0 → p.1 ≡ q.1 → p ≡ q
same_pointer p q e f = ap (λ (a : ℕ). (let x : Pointer = (a, p.1) in x)) e ∙ ap
    (λ (b : ℕ). (let x : Pointer = (q.0, b) in x)) f

pub pointer_or : (p q : Pointer) → (p ≡ q) ⊎ (p ≢ q)
pointer_or p q = elim (same_or_other p.0 q.0) as (λ _. (p ≡ q) ⊎ (p ≢ q)) [
  | inl e ↦ elim (same_or_other p.1 q.1) as (λ _. (p ≡ q) ⊎ (p ≢ q))
      [ inl f ↦ inl (same_pointer p q e f) | inr f ↦ inr (λ h. f (ap (λ (x : Pointer). x.1) h)) ]
  | inr e ↦ inr (λ h. e (ap (λ (x : Pointer). x.0) h))
]
