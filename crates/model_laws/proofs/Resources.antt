-- When two resources are the same.
use Rattle.std.proofs.Common.{◌==◌, ◌∙◌, ◌≡◌, ap, refl, true}
use Rattle.std.proofs.lemmas.Bool.{and_from, and_parts}
use Rattle.std.specs.Cmp.Lexicographic.{bytes_decides}
use Rattle.fp_model.specs.Texts.{same_text}
use Rattle.fp_model.specs.Waiting.{same_resource}
use Rattle.fp_model.specs.declared.calls.Resource.{Resource}
use Rattle.fp_model.specs.declared.calls.Resource.TheVariants.{Anchor, Segment}
use Rattle.plain_laws.proofs.Numbers.{is_number, number_is}

-- a resource is the same as itself
pub resource_is_same : (a : Resource) → same_resource a a ≡ true
resource_is_same (Segment m k) = and_from (m == m) (same_text k k) (is_number m) ((bytes_decides k k).1 refl)
resource_is_same (Anchor d a) = and_from (d == d) (a == a) (is_number d) (is_number a)

-- and as no other one
pub same_resources : (a b : Resource) → same_resource a b ≡ true → a ≡ b
same_resources (Segment m k) (Segment n l) e = let p = and_parts (m == n) (same_text k l) e in
    ap (λ x. Segment x k) (number_is m n p.0) ∙ ap (λ x. Segment n x) ((bytes_decides k l).0 p.1)
same_resources (Segment m k) (Anchor d a) e = absurd (cc)
same_resources (Anchor d a) (Segment m k) e = absurd (cc)
same_resources (Anchor d a) (Anchor f b) e = let p = and_parts (d == f) (a == b) e in
    ap (λ x. Anchor x a) (number_is d f p.0) ∙ ap (λ x. Anchor f x) (number_is a b p.1)
