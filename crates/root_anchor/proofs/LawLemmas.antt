-- The laws of chains, as the contracts of src/laws.rt say them.
use Rattle.std.proofs.Common.{◌≡◌, ℕ, List, [], sym, subst}
use Rattle.std.specs.List.{Contains}
use Rattle.ci_space.specs.declared.intervals.Shape.{Shape}
use Rattle.ci_overflow.specs.Lists.{IsInPlace}
use Rattle.ci_overflow.specs.Places.{base_of}
use Rattle.fp_model.specs.declared.definitions.SegDef.{SegDef}
use Rattle.fp_model.specs.declared.database.Root.{Root}
use Rattle.anchor_elements.specs.Elements.{Pointer, Segment, HasSegment}
use Rattle.root_anchor.specs.Chains.{AreRoots, root_of, IsChain}
use Rattle.root_anchor.proofs.Framing.{roots_stay}
use Rattle.root_anchor.proofs.OneChain.{HasSome, chain_has}

pub chain_element : (shape : Shape) (types : List SegDef) (area : List (List ℕ)) (anchor : ℕ) (roots : List Root)
    (elements : List Pointer) (at : Pointer)
    → IsChain shape types area anchor roots elements → Contains elements at → (type : ℕ)
    × ((s : Segment) × HasSegment types area type at s)
chain_element shape types area anchor roots elements at c m = let h : HasSome types area at = chain_has c at m in
    (h.type, (h.segment, h.has))

pub chain_stays : (shape : Shape) (types : List SegDef) (old new : List (List ℕ)) (anchor : ℕ) (roots : List Root)
    (elements : List Pointer)
    → IsChain shape types old anchor roots elements → IsInPlace shape new (base_of shape anchor)
    → root_of shape new anchor ≡ root_of shape old anchor
    → ((at : Pointer) (type : ℕ) (s : Segment) → Contains elements at → HasSegment types old type at s
    → HasSegment types new type at s)
    → IsChain shape types new anchor roots elements
chain_stays shape types old new anchor roots elements c place same stay = record {
  base = place;
  are_roots = subst (λ p. AreRoots types new [] p roots elements) (sym same)
      (roots_stay c.are_roots (record { each = λ p m apart type s has. stay p type s m has }));
}
