-- What an area comes to, one step after another, and the fault that is found there.
use Rattle.std.proofs.Common.{ℕ, List, Contains}
use Rattle.ci_space.specs.declared.intervals.Shape.{Shape}
use Rattle.ci_overflow.specs.Faults.{IsAtFault}
use Rattle.fp_model.specs.declared.definitions.SegDef.{SegDef}
use Rattle.anchor_elements.specs.Elements.{Pointer}
use Rattle.root_anchor.specs.Faults.{ComesTo, as_it_is, given_back, room_taken, FaultComes, ListsFail}
use Rattle.root_anchor.specs.Formed.{HasChain}

pub comes-joined : (shape : Shape) (anchor : ℕ) (xs : List Pointer) (a b c : List (List ℕ))
    → ComesTo shape anchor xs a b → ComesTo shape anchor xs b c → ComesTo shape anchor xs a c
comes-joined shape anchor xs a b c p (as_it_is area) = p
comes-joined shape anchor xs a b c p (given_back old now new at q m t) =
    given_back a now new at (comes-joined shape anchor xs a old now p q) m t
comes-joined shape anchor xs a b c p (room_taken old now new n at q t) =
    room_taken a now new n at (comes-joined shape anchor xs a old now p q) t

-- more elements may be given back
pub comes-wider : (shape : Shape) (anchor : ℕ) (xs ys : List Pointer) (a b : List (List ℕ))
    → ((at : Pointer) → Contains xs at → Contains ys at) → ComesTo shape anchor xs a b → ComesTo shape anchor ys a b
comes-wider shape anchor xs ys a b f (as_it_is area) = as_it_is area
comes-wider shape anchor xs ys a b f (given_back old now new at q m t) =
    given_back old now new at (comes-wider shape anchor xs ys old now f q) (f at m) t
comes-wider shape anchor xs ys a b f (room_taken old now new n at q t) =
    room_taken old now new n at (comes-wider shape anchor xs ys old now f q) t

-- ---- an interval at fault

pub fault-now : (shape : Shape) (anchor : ℕ) (xs : List Pointer) (area : List (List ℕ)) (ci : ℕ)
    → IsAtFault shape area ci → FaultComes shape anchor xs area ci
fault-now shape anchor xs area ci f = record { later = area; comes = as_it_is area; at_fault = f }

pub fault-later : (shape : Shape) (anchor : ℕ) (xs : List Pointer) (a b : List (List ℕ)) (ci : ℕ)
    → ComesTo shape anchor xs a b → FaultComes shape anchor xs b ci → FaultComes shape anchor xs a ci
fault-later shape anchor xs a b ci p f = record {
  later = f.later;
  comes = comes-joined shape anchor xs a b f.later p f.comes;
  at_fault = f.at_fault;
}

pub fault-wider : (shape : Shape) (anchor : ℕ) (xs ys : List Pointer) (area : List (List ℕ)) (ci : ℕ)
    → ((at : Pointer) → Contains xs at → Contains ys at) → FaultComes shape anchor xs area ci
    → FaultComes shape anchor ys area ci
fault-wider shape anchor xs ys area ci f p = record {
  later = p.later;
  comes = comes-wider shape anchor xs ys area p.later f p.comes;
  at_fault = p.at_fault;
}

-- an interval that is at fault in the area as it is
pub lists_now : {shape : Shape} {types : List SegDef} {area : List (List ℕ)} {anchor ci : ℕ}
    → HasChain shape types area anchor → IsAtFault shape area ci → ListsFail shape types area anchor ci
lists_now {shape} {types} {area} {anchor} {ci} h f = record {
  roots = h.roots;
  elements = h.elements;
  is_chain = h.is_chain;
  fault = fault-now shape anchor h.elements area ci f;
}
