-- Intervals from which a list goes on, and the one whose link leads to another.
use Rattle.std.proofs.Common.{◌≡◌, ◌≢◌, ℕ, ◌+◌, ◌<◌, ◌≤◌, inl, inr, List, [], length, refl, sym, ap, ◌∙◌, subst, arith}
use Rattle.ci_space.specs.declared.intervals.Shape.{Shape}
use Rattle.ci_space.specs.Interval.{kind_of}
use Rattle.ci_overflow.specs.Places.{first_base, first_independent}
use Rattle.ci_overflow.specs.Lists.{bytes_at, link_of, owner_of, IsOwned}
use Rattle.ci_overflow.specs.Faults.{HoldsLink, in_base, in_list, IsAtFault, unlisted}
use Rattle.ci_overflow.specs.Moves.{IsBefore, IsInList}
use Rattle.ci_overflow.specs.inside.Moves.{LeadsTo, EndsWithout}
use Rattle.ci_overflow.specs.declared.before.Numbered.{Numbered}
use Rattle.ci_overflow.proofs.Circles.{IsWalked, walk-begins}
use Rattle.ci_overflow.proofs.FaultLemmas.{IsBuilt}

-- the link of such an interval is one of the list
pub holds-in : (shape : Shape) (area : List (List ℕ)) (uow link : ℕ) (one : Numbered) → uow < shape.uows
    → IsInList shape area uow one → link ≡ link_of one.interval → HoldsLink shape area (uow + 1) one.ci link
holds-in shape area uow link one u s e = elim s.stands as (λ _. HoldsLink shape area (uow + 1) one.ci link) [
  | inl f ↦ in_base uow u refl f (e ∙ ap link_of s.is_bytes)
  | inr o ↦ in_list o (e ∙ ap link_of s.is_bytes)
]

-- a walk that begins at it
pub begins-at : (shape : Shape) (area : List (List ℕ)) (uow link n : ℕ) (one : Numbered) → uow < shape.uows
    → IsInList shape area uow one → link ≡ link_of one.interval → 0 < one.ci → n ≡ 0
    → IsWalked shape area (uow + 1) one.ci link n
begins-at shape area uow link n one u s e z k =
    walk-begins shape area (uow + 1) one.ci link n (holds-in shape area uow link one u s e)
    (sym (e ∙ ap link_of s.is_bytes)) (λ y. omega (arith, z, y)) k

-- the next of the list
pub next-in : (shape : Shape) (area : List (List ℕ)) (uow owner : ℕ) (one : Numbered) → one.interval ≡ bytes_at area one.ci
    → first_independent shape ≤ one.ci → one.ci < length area → owner_of one.interval ≡ owner → owner ≡ uow + 1
    → IsInList shape area uow one
next-in shape area uow owner one b f l o e = record {
  is_bytes = b;
  stands =
      inr (record { from = f; below = l; owned = sym (ap owner_of b) ∙ o ∙ e });
}

-- it leads to the interval that was looked for
pub leads-to : (shape : Shape) (area : List (List ℕ)) (uow ci link : ℕ) (one : Numbered) → IsInList shape area uow one
    → link ≡ link_of one.interval → link ≡ ci → one.ci ≢ ci → LeadsTo shape area uow ci one
leads-to shape area uow ci link one s e k a = record {
  in_list = s;
  leads = sym (ap link_of s.is_bytes) ∙ sym e ∙ k;
  apart = a;
}

-- a list that ends before it
pub ends-without : (area : List (List ℕ)) (first ci next : ℕ) → IsBuilt area first ci next → next ≡ 0
    → EndsWithout area first ci
ends-without area first ci next b z =
    let l = b.build [] z (λ h. h) in
    record { list = l.0; is_chain = l.1; without = l.2 }

-- an interval that its list doesn't hold
pub unlisted-fault : (shape : Shape) (area : List (List ℕ)) (uow ci first : ℕ) → first ≡ first_base shape uow
    → EndsWithout area (link_of (bytes_at area first)) ci → uow < shape.uows → IsOwned shape area (uow + 1) ci
    → IsAtFault shape area ci
unlisted-fault shape area uow ci first e w u o =
    let P : ℕ → Type 0 = λ f. EndsWithout area (link_of (bytes_at area f)) ci in
    let v : EndsWithout area (link_of (bytes_at area (first_base shape uow))) ci = subst P e w in
    unlisted uow v.list u o v.is_chain v.without

-- the interval before, with what the first base interval is
pub is-before : (shape : Shape) (area : List (List ℕ)) (uow ci : ℕ) (one : Numbered) → LeadsTo shape area uow ci one
    → first_base shape uow < length area → kind_of (bytes_at area (first_base shape uow)) ≡ 2
    → IsBefore shape area uow ci one
is-before shape area uow ci one l b k = record {
  is_bytes = l.in_list.is_bytes;
  stands = l.in_list.stands;
  leads = l.leads;
  apart = l.apart;
  base_below = b;
  base_kind = k;
}
