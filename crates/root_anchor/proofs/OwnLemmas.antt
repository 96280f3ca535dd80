-- Intervals of an anchor's own unit of work, which stay so.
use Rattle.std.proofs.Common.{◌≡◌, ◌⊎◌, inl, inr, ℕ, ◌+◌, ◌<◌, List, [], ◌∷◌, ◌++◌, length, Contains, refl, sym, ap, ◌∙◌, subst, arith}
use Rattle.ci_space.specs.declared.intervals.Shape.{Shape}
use Rattle.ci_space.specs.declared.head.Head.{Head}
use Rattle.ci_space.specs.Head.{head_of}
use Rattle.ci_overflow.specs.Lists.{bytes_at, owner_of}
use Rattle.ci_overflow.specs.Places.{base_of, first_base, first_independent, uow_of}
use Rattle.ci_overflow.specs.Rooms.{IsOwnRoom, TakesRoom, its_base, a_dependent, an_independent}
use Rattle.ci_overflow.proofs.Joins.{base-before, owner-known}
use Rattle.ci_overflow.proofs.Tries.{head-owner, keeps-owner}
use Rattle.fp_model.specs.declared.definitions.SegDef.{SegDef}
use Rattle.anchor_elements.specs.Elements.{Pointer, Segment}
use Rattle.anchor_elements.specs.Puts.{PutsSegment}
use Rattle.root_anchor.specs.inside.Puts.{PutsRoot}
use Rattle.root_anchor.specs.inside.Rebuilding.{HadOrOwn, StandIn}
use Rattle.root_anchor.proofs.PutLemmas.{put_keeps_head}
use Rattle.plain_laws.proofs.Numbers.{same_or_other}

same_owner : (old new : List ℕ) → (head_of new).owner ≡ (head_of old).owner → owner_of new ≡ owner_of old
same_owner old new e = sym (head-owner new (head_of new).owner refl) ∙ e ∙ head-owner old (head_of old).owner refl

-- an interval that keeps its head
pub heads-own : (shape : Shape) (old new : List (List ℕ)) (anchor ci : ℕ)
    → head_of (bytes_at new ci) ≡ head_of (bytes_at old ci) → length new ≡ length old
    → IsOwnRoom shape old anchor ci → IsOwnRoom shape new anchor ci
heads-own shape old new anchor ci h n (its_base e) = its_base e
heads-own shape old new anchor ci h n (a_dependent l b) = a_dependent l b
heads-own shape old new anchor ci h n (an_independent o) = an_independent (record {
  from = o.from;
  below = omega (arith, o.below, n);
  owned = same_owner (bytes_at old ci) (bytes_at new ci) (ap (λ (x : Head). x.owner) h) ∙ o.owned;
})

pub put_keeps_own : (shape : Shape) (types : List SegDef) (old new : List (List ℕ)) (anchor type : ℕ) (at : Pointer)
    (ci : ℕ) (s : Segment) → PutsSegment types old new type at s → IsOwnRoom shape old anchor ci
    → IsOwnRoom shape new anchor ci
put_keeps_own shape types old new anchor type at ci s p o =
    heads-own shape old new anchor ci (put_keeps_head types old new type at s p ci) p.same_number o

pub root_keeps_own : (shape : Shape) (old new : List (List ℕ)) (anchor ci : ℕ) (first : Pointer)
    → PutsRoot shape old new anchor first → IsOwnRoom shape old anchor ci → IsOwnRoom shape new anchor ci
root_keeps_own shape old new anchor ci first p (its_base e) = its_base e
root_keeps_own shape old new anchor ci first p (a_dependent l h) = a_dependent l h
root_keeps_own shape old new anchor ci first p (an_independent o) = an_independent (record {
  from = o.from;
  below = omega (arith, o.below, p.same_number);
  owned = same_owner (bytes_at old ci) (bytes_at new ci) (elim (same_or_other ci (base_of shape anchor)) as
      (λ _. (head_of (bytes_at new ci)).owner ≡ (head_of (bytes_at old ci)).owner) [
        | inl e ↦ subst (λ c. (head_of (bytes_at new c)).owner ≡ (head_of (bytes_at old c)).owner) (sym e)
            (ap (λ (h : Head). h.owner) p.head)
        | inr n ↦ ap (λ bytes. (head_of bytes).owner) (p.elsewhere ci n)
      ]) ∙ o.owned;
})

-- room is taken: only the list of the unit of work itself may get an interval more
owner-where : (area : List (List ℕ)) (a b owner : ℕ) → a ≡ b → owner_of (bytes_at area b) ≡ owner
    → owner_of (bytes_at area a) ≡ owner
owner-where area a b owner e h = let P : ℕ → Type 0 = λ c. owner_of (bytes_at area c) ≡ owner in subst P (sym e) h

pub room_keeps_own : (shape : Shape) (old new : List (List ℕ)) (anchor n ci : ℕ) (room : Pointer)
    → uow_of shape anchor < shape.uows → 0 < shape.base → TakesRoom shape old new anchor n room
    → IsOwnRoom shape old anchor ci → IsOwnRoom shape new anchor ci
room_keeps_own shape old new anchor n ci room u b t (its_base e) = its_base e
room_keeps_own shape old new anchor n ci room u b t (a_dependent l h) = a_dependent l h
room_keeps_own shape old new anchor n ci room u b t (an_independent o) =
    let behind : first_base shape (uow_of shape anchor) < first_independent shape =
    base-before shape (uow_of shape anchor) u b in
    an_independent (record {
      from = o.from;
      below = omega (arith, o.below, t.longer);
      owned = elim (same_or_other ci room.0) as (λ _. owner_of (bytes_at new ci) ≡ uow_of shape anchor + 1) [
        | inl e ↦ owner-where new ci room.0 (uow_of shape anchor + 1) e (elim t.source as
            (λ _. owner_of (bytes_at new room.0) ≡ uow_of shape anchor + 1) [
              | inl k ↦ keeps-owner (bytes_at old room.0) (bytes_at new room.0) k.head
                  ∙ owner-where old room.0 ci (uow_of shape anchor + 1) (sym e) o.owned
              | inr j ↦ owner-known (bytes_at new room.0) _ j.head
            ])
        | inr d ↦ ap owner_of (t.named ci (λ z. omega (arith, z, o.from, behind)) (λ z. omega (arith, z, o.from, behind)) d)
            ∙ o.owned
      ];
    })

-- ---- elements in places

pub stand-none : (area : List (List ℕ)) → StandIn area area [] []
stand-none area = record { are = refl; heads = λ ci. refl; same_number = refl }

pub stand-both : (a b c : List (List ℕ)) (xs ys zs ws : List Pointer) → StandIn a b xs ys → StandIn b c zs ws
    → StandIn a c (zs ++ xs) (ws ++ ys)
stand-both a b c xs ys zs ws p q = record {
  are = ap (λ es. es ++ ys) q.are ∙ ap (λ es. zs ++ es) p.are;
  heads = λ ci. q.heads ci ∙ p.heads ci;
  same_number = q.same_number ∙ p.same_number;
}

pub stand-one : (types : List SegDef) (old new : List (List ℕ)) (type : ℕ) (at : Pointer) (s : Segment)
    → PutsSegment types old new type at s → StandIn old new (at ∷ []) (at ∷ [])
stand-one types old new type at s p = record {
  are = refl;
  heads = put_keeps_head types old new type at s p;
  same_number = p.same_number;
}

-- what stands in places of an anchor's own does so still
pub own-there : (shape : Shape) (mid new : List (List ℕ)) (anchor : ℕ) (had places elements : List Pointer)
    → HadOrOwn shape mid anchor had places → StandIn mid new places elements
    → HadOrOwn shape new anchor had elements
own-there shape mid new anchor had places elements o s at c =
    let P : List Pointer → Type 0 = λ xs. Contains xs at in
    elim (o at (subst P s.are c)) as (λ _. Contains had at ⊎ IsOwnRoom shape new anchor at.0)
    [ inl h ↦ inl h | inr r ↦ inr (heads-own shape mid new anchor at.0 (s.heads at.0) s.same_number r) ]
