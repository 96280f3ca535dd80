-- One call on an area's intervals after another: what all of them keep, and that a count rose.
use Rattle.std.proofs.Common.{inl, inr, ℕ, ◌≤◌, refl, ◌∙◌, arith}
use Rattle.std.proofs.lemmas.Bool.{cases_lt}
use Rattle.ci_space.specs.Calls.{GoesOn}
use Rattle.fp_lists.specs.Faults.{Rose}

module _ {I : Type 0} (told : I → Type 0) (size faults : I → ℕ) (keeps : I → I → Type 0) where
  pub goes-itself : (a : I) → GoesOn told size faults keeps a a
  goes-itself a = record { tells = λ t. t; same_size = refl; later = omega arith; known = λ first k. k }

  pub goes-joined : (a b c : I) → GoesOn told size faults keeps a b → GoesOn told size faults keeps b c
      → GoesOn told size faults keeps a c
  goes-joined a b c p q = record {
    tells = λ t. q.tells (p.tells t);
    same_size = q.same_size ∙ p.same_size;
    later = omega (arith, p.later, q.later);
    known = λ first k. q.known first (p.known first k);
  }

-- a count that rose in an earlier or a later part rose
pub rose-first : (a b c : ℕ) → a ≤ b → b ≤ c → Rose a b → Rose a c
rose-first a b c p q (inl r) = inl (omega arith)
rose-first a b c p q (inr r) = elim (cases_lt a c) as (λ _. Rose a c) [ inl l ↦ inl l | inr l ↦ inr (omega arith) ]
