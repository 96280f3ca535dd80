-- The lists stay in order.
use Rattle.std.proofs.Common.{◌≡◌, ◌≢◌, ℕ, ◌+◌, ◌*◌, ◌<◌, ◌≤◌, ◌⊎◌, inl, inr, List, [], ◌∷◌, length, slice_index, Option, Some, None, Result, Ok, Err, IfOk, OnOk, refl, sym, ap, ◌∙◌, subst, arith}
use Rattle.std.proofs.lemmas.Bool.{cases_lt}
use Rattle.std.proofs.lemmas.Nat.{mul-le}
use Rattle.ci_space.specs.declared.intervals.Shape.{Shape}
use Rattle.ci_space.specs.Interval.{kind_of, IsInterval, IsEmpty, Keeps}
use Rattle.ci_space.specs.Head.{ends_of}
use Rattle.ci_overflow.specs.Places.{first_base, first_independent, uow_of}
use Rattle.ci_overflow.specs.Lists.{bytes_at, link_of, owner_of, counted, first_free, IsChain, Holds, IsOwned, IsListOf, HasList, IsInPlace, IsInOrder}
use Rattle.ci_overflow.specs.Rooms.{places, AreTried, IsInUse, TakesAt, ChangesLink, JoinsFree, JoinsNew}
use Rattle.ci_overflow.specs.inside.Rooms.{JoinsNext}
use Rattle.ci_overflow.proofs.Tries.{keeps-link, keeps-owner}
use Rattle.ci_overflow.proofs.Joins.{base-before, kind-behind, counted-put, first_free-put, link-known, owner-known, kind-known}
use Rattle.ci_overflow.proofs.Finds.{control-first, some_given}
use Rattle.plain_laws.proofs.Numbers.{same_or_other}

-- a chain depends on the links of its intervals alone
pub chain-keeps : (old new : List (List ℕ)) (list : List ℕ) (first : ℕ)
    → ((ci : ℕ) → Holds list ci → link_of (bytes_at new ci) ≡ link_of (bytes_at old ci)) → IsChain old first list
    → IsChain new first list
chain-keeps old new [] first k c = c
chain-keeps old new (ci ∷ rest) first k c =
    let d : IsChain new (link_of (bytes_at old ci)) rest =
    chain-keeps old new rest (link_of (bytes_at old ci)) (λ x h. k x (inr h)) c.2 in
    (c.0, c.1, rw (← k ci (inl refl)) at d)

-- a list whose intervals and whose owners stay
pub list-stays : (shape : Shape) (old new : List (List ℕ)) (owner first : ℕ) (list : List ℕ)
    → ((ci : ℕ) → IsOwned shape old owner ci → IsOwned shape new owner ci)
    → ((ci : ℕ) → IsOwned shape new owner ci → IsOwned shape old owner ci)
    → ((ci : ℕ) → IsOwned shape old owner ci → link_of (bytes_at new ci) ≡ link_of (bytes_at old ci))
    → IsListOf shape old owner first list → IsListOf shape new owner first list
list-stays shape old new owner first list f g k l = record {
  chain = chain-keeps old new list first (λ ci h. k ci (l.owned ci h)) l.chain;
  once = l.once;
  owned = λ ci h. f ci (l.owned ci h);
  each = λ ci o. l.each ci (g ci o);
}

-- a list that an interval joins at its front
pub list-joined : (shape : Shape) (old new : List (List ℕ)) (owner first ci : ℕ) (list : List ℕ) → ci ≢ 0
    → ¬ IsOwned shape old owner ci → IsOwned shape new owner ci → link_of (bytes_at new ci) ≡ first
    → ((other : ℕ) → IsOwned shape old owner other → IsOwned shape new owner other)
    → ((other : ℕ) → other ≢ ci → IsOwned shape new owner other → IsOwned shape old owner other)
    → ((other : ℕ) → IsOwned shape old owner other → link_of (bytes_at new other) ≡ link_of (bytes_at old other))
    → IsListOf shape old owner first list → IsListOf shape new owner ci (ci ∷ list)
list-joined shape old new owner first ci list z n o e f g k l =
    let c : IsChain new first list = chain-keeps old new list first (λ x h. k x (l.owned x h)) l.chain in
    record {
      chain = (refl, z, rw (← e) at c);
      once = ((λ h. n (l.owned ci h)), l.once);
      owned = λ other h. elim h as (λ _. IsOwned shape new owner other) [
        | inl x ↦ (let P : ℕ → Type 0 = λ d. IsOwned shape new owner d in subst P x o)
        | inr x ↦
            f other (l.owned other x)
      ];
      each = λ other h. elim (same_or_other ci other) as (λ _. (ci ≡ other) ⊎ Holds list other)
          [ inl x ↦ inl x | inr x ↦ inr (l.each other (g other (λ y. x (sym y)) h)) ];
    }

-- a list that its first interval leaves
pub list-left : (shape : Shape) (old new : List (List ℕ)) (owner first : ℕ) (list : List ℕ) → first ≢ 0
    → ¬ IsOwned shape new owner first
    → ((other : ℕ) → other ≢ first → IsOwned shape old owner other → IsOwned shape new owner other)
    → ((other : ℕ) → IsOwned shape new owner other → IsOwned shape old owner other)
    → ((other : ℕ) → other ≢ first → IsOwned shape old owner other
    → link_of (bytes_at new other) ≡ link_of (bytes_at old other)) → IsListOf shape old owner first list
    → HasList shape new owner (link_of (bytes_at old first))
list-left shape old new owner first [] z n f g k l = absurd (z l.chain)
list-left shape old new owner first (x ∷ rest) z n f g k l =
    let e : first ≡ x = l.chain.0 in
    let apart : (other : ℕ) → Holds rest other → other ≢ first = λ other h y. l.once.0 (let P : ℕ → Type 0 =
    λ d. Holds rest d in subst P (y ∙ e) h) in
    let c : IsChain old (link_of (bytes_at old first)) rest = rw (← e) at l.chain.2 in
    record {
      list = rest;
      is_list = record {
        chain = chain-keeps old new rest (link_of (bytes_at old first))
            (λ other h. k other (apart other h) (l.owned other (inr h))) c;
        once = l.once.1;
        owned = λ other h. f other (apart other h) (l.owned other (inr h));
        each = λ other o. elim (l.each other (g other o)) as (λ _. Holds rest other) [
          | inl y ↦ absurd (n (let P : ℕ → Type 0 = λ d. IsOwned shape new owner d in subst P (sym (e ∙ y)) o))
          | inr
              h ↦ h
        ];
      };
    }

-- control's numbers follow its bytes
pub counted-same : (old new : List (List ℕ)) → bytes_at new 0 ≡ bytes_at old 0 → counted new ≡ counted old
unfolding counted
counted-same old new e = ap (λ (xs : List ℕ). slice_index (ends_of xs) 2) e

pub first_free-same : (old new : List (List ℕ)) → bytes_at new 0 ≡ bytes_at old 0 → first_free new ≡ first_free old
unfolding first_free
first_free-same old new e = ap (λ (xs : List ℕ). slice_index (ends_of xs) 3) e

pub bases-apart : (shape : Shape) (v u : ℕ) → 0 < shape.base → v ≢ u → first_base shape v ≢ first_base shape u
bases-apart shape v u b n e = elim (cases_lt v u) as (λ _. ⊥) [
  | inl l ↦
      (let m : (v + 1) * (shape.base + shape.overflow) ≤ u * (shape.base + shape.overflow) =
      mul-le (v + 1) (shape.base + shape.overflow) u (shape.base + shape.overflow) (omega (arith, l)) (omega arith) in
      let x : (v + 1) * (shape.base + shape.overflow) ≡ v * (shape.base + shape.overflow) +
      (shape.base + shape.overflow) = grind arith in
      omega (arith, m, x, b, e))
  | inr l ↦ (let k : u < v = omega (arith, l, n) in
      let m : (u + 1) * (shape.base + shape.overflow) ≤ v * (shape.base + shape.overflow) =
      mul-le (u + 1) (shape.base + shape.overflow) v (shape.base + shape.overflow) (omega (arith, k)) (omega arith)
      in
      let x : (u + 1) * (shape.base + shape.overflow) ≡ u * (shape.base + shape.overflow) +
      (shape.base + shape.overflow) = grind arith in
      omega (arith, m, x, b, e))
]

-- an interval in use changes behind its head, and no other changes
pub record ChangesBehind (old new : List (List ℕ)) (ci : ℕ) : Type 0 where
  pub below : ci < length old
  pub is_in_use : IsInUse (bytes_at old ci)
  pub is_interval : IsInterval (bytes_at new ci)
  pub head : Keeps (bytes_at old ci) (bytes_at new ci) 0 32
  pub others : (other : ℕ) → other ≢ ci → bytes_at new other ≡ bytes_at old other
  pub same_number : length new ≡ length old

pub order-changed : (shape : Shape) (old new : List (List ℕ)) (ci : ℕ) → kind_of (bytes_at old 0) ≡ 1
    → IsInOrder shape old → ChangesBehind old new ci → IsInOrder shape new
order-changed shape old new ci k0 o t =
    let z : 0 ≢ ci = λ e. t.is_in_use.is_no_control (ap (λ k. kind_of (bytes_at old k)) (sym e) ∙ k0) in
    let ez : bytes_at new 0 ≡ bytes_at old 0 = t.others 0 z in
    let keeps : (k : ℕ) → Keeps (bytes_at old k) (bytes_at new k) 0 32 =
    λ k. elim (same_or_other k ci) as (λ _. Keeps (bytes_at old k) (bytes_at new k) 0 32) [
      | inl e ↦ (let P : ℕ → Type 0 = λ d. Keeps (bytes_at old d) (bytes_at new d) 0 32 in subst P (sym e) t.head)
      | inr e ↦ λ i x y. ap (λ (xs : List ℕ). slice_index xs i) (t.others k e)
    ] in
    let link : (k : ℕ) → link_of (bytes_at new k) ≡ link_of (bytes_at old k) =
    λ k. keeps-link (bytes_at old k) (bytes_at new k) (keeps k) in
    let owner : (k : ℕ) → owner_of (bytes_at new k) ≡ owner_of (bytes_at old k) =
    λ k. keeps-owner (bytes_at old k) (bytes_at new k) (keeps k) in
    let f : (w k : ℕ) → IsOwned shape old w k → IsOwned shape new w k = λ w k x. record {
      from = x.from;
      below =
          omega (arith, x.below, t.same_number);
      owned = owner k ∙ x.owned;
    } in
    let g : (w k : ℕ) → IsOwned shape new w k → IsOwned shape old w k = λ w k x. record {
      from = x.from;
      below =
          omega (arith, x.below, t.same_number);
      owned = sym (owner k) ∙ x.owned;
    } in
    let moved : (w first now : ℕ) → now ≡ first → HasList shape old w first → HasList shape new w now =
    λ w first now e h.
    record {
      list = h.list;
      is_list = rw (← e) at (list-stays shape old new w first h.list (f w) (g w) (λ k _. link k)
          h.is_list);
    } in
    record {
      whole = t.same_number ∙ o.whole ∙ ap (λ x. first_independent shape + x) (sym (counted-same old new ez));
      in_place = λ k l.
          let p : IsInPlace shape old k = o.in_place k (omega (arith, l, t.same_number)) in
          record {
            is_interval = elim (same_or_other k ci) as (λ _. IsInterval (bytes_at new k)) [
              | inl e ↦ (let P : ℕ → Type 0 = λ d. IsInterval (bytes_at new d) in subst P (sym e) t.is_interval)
              | inr e ↦ rw (← t.others k e) at p.is_interval
            ];
            is_kind = keeps k 0 (omega arith) (omega arith) ∙ p.is_kind;
          };
      listed = record {
        of_uow = λ u l. moved (u + 1) (link_of (bytes_at old (first_base shape u)))
            (link_of (bytes_at new (first_base shape u))) (link (first_base shape u)) (o.listed.of_uow u l);
        of_free = moved 0 (first_free old) (first_free new) (first_free-same old new ez) o.listed.of_free;
        owners = λ k l m.
            (let x : owner_of (bytes_at old k) ≤ shape.uows = o.listed.owners k l (omega (arith, m, t.same_number)) in
            rw (← owner k) at x);
        empty = λ k w.
            let x : IsOwned shape old 0 k = g 0 k w in
            let e : IsEmpty (bytes_at old k) = o.listed.empty k x in
            let a : k ≢ ci = λ y.
            (let c5 : kind_of (bytes_at old ci) ≡ 5 =
            (o.in_place ci t.below).is_kind ∙ kind-behind shape ci (omega (arith, x.from, y)) in
            t.is_in_use.is_owned c5 (ap (λ d. owner_of (bytes_at old d)) (sym y) ∙ x.owned)) in
            rw (← t.others k a) at e;
      };
    }

-- an element is taken from an interval that stands
pub order-taken : (shape : Shape) (old new : List (List ℕ)) (ci n at : ℕ) → kind_of (bytes_at old 0) ≡ 1
    → IsInOrder shape old → TakesAt old new ci n at → IsInOrder shape new
order-taken shape old new ci n at k0 o t =
    order-changed shape old new ci k0 o (record {
      below = t.below;
      is_in_use = t.is_in_use;
      is_interval =
          t.takes.is_interval;
      head = t.head;
      others = t.others;
      same_number = t.same_number;
    })

-- an interval joins a unit of work's list
pub record IsJoined (shape : Shape) (uow : ℕ) (old new : List (List ℕ)) (ci : ℕ) : Type 0 where
  pub is_uow : uow < shape.uows
  pub has_base : 0 < shape.base
  pub from : first_independent shape ≤ ci
  pub below : ci < length new
  pub only : (k : ℕ) → k < length new → k ≢ ci → k < length old
  pub longer : length old ≤ length new
  pub zero_interval : IsInterval (bytes_at new 0)
  pub zero_kind : kind_of (bytes_at new 0) ≡ kind_of (bytes_at old 0)
  pub first_link : link_of (bytes_at new (first_base shape uow)) ≡ ci
  pub first_interval : IsInterval (bytes_at new (first_base shape uow))
  pub first_kind : kind_of (bytes_at new (first_base shape uow)) ≡ kind_of (bytes_at old (first_base shape uow))
  pub link : link_of (bytes_at new ci) ≡ link_of (bytes_at old (first_base shape uow))
  pub owner : owner_of (bytes_at new ci) ≡ uow + 1
  pub is_interval : IsInterval (bytes_at new ci)
  pub kind : kind_of (bytes_at new ci) ≡ 5
  pub same : (k : ℕ) → k ≢ 0 → k ≢ first_base shape uow → k ≢ ci → bytes_at new k ≡ bytes_at old k
  pub not_owned : (v : ℕ) → ¬ IsOwned shape old (v + 1) ci
  pub free : HasList shape new 0 (first_free new)
  pub whole : length new ≡ first_independent shape + counted new

-- what stays behind the sequential part
same-behind : (shape : Shape) (uow : ℕ) (old new : List (List ℕ)) (ci k : ℕ) → uow < shape.uows → 0 < shape.base
    → ((k : ℕ) → k ≢ 0 → k ≢ first_base shape uow → k ≢ ci → bytes_at new k ≡ bytes_at old k)
    → first_independent shape ≤ k → k ≢ ci → bytes_at new k ≡ bytes_at old k
same-behind shape uow old new ci k u b s l n =
    let behind : first_base shape uow < first_independent shape = base-before shape uow u b in
    s k (λ e. omega (arith, e, l, behind)) (λ e. omega (arith, e, l, behind)) n

pub order-joined : (shape : Shape) (uow : ℕ) (old new : List (List ℕ)) (ci : ℕ) → IsInOrder shape old
    → IsJoined shape uow old new ci → IsInOrder shape new
order-joined shape uow old new ci o j =
    let behind : first_base shape uow < first_independent shape = base-before shape uow j.is_uow j.has_base in
    let sb : (k : ℕ) → first_independent shape ≤ k → k ≢ ci → bytes_at new k ≡ bytes_at old k =
    λ k l n. same-behind shape uow old new ci k j.is_uow j.has_base j.same l n in
    let f : (w k : ℕ) → k ≢ ci → IsOwned shape old w k → IsOwned shape new w k = λ w k n x. record {
      from =
          x.from;
      below = omega (arith, x.below, j.longer);
      owned = ap owner_of (sb k x.from n) ∙ x.owned;
    } in
    let g : (w k : ℕ) → k ≢ ci → IsOwned shape new w k → IsOwned shape old w k = λ w k n x. record {
      from =
          x.from;
      below = j.only k x.below n;
      owned = sym (ap owner_of (sb k x.from n)) ∙ x.owned;
    } in
    let apart : (v k : ℕ) → IsOwned shape old (v + 1) k → k ≢ ci = λ v k x e. j.not_owned v (let P : ℕ → Type 0 =
    λ d. IsOwned shape old (v + 1) d in subst P e x) in
    let link : (v k : ℕ) → IsOwned shape old (v + 1) k → link_of (bytes_at new k) ≡ link_of (bytes_at old k) =
    λ v k x. ap link_of (sb k x.from (apart v k x)) in
    let mine : IsOwned shape new (uow + 1) ci = record { from = j.from; below = j.below; owned = j.owner } in
    record {
      whole = j.whole;
      in_place = λ k l. elim (same_or_other k ci) as (λ _. IsInPlace shape new k) [
        | inl e ↦ (let P : ℕ → Type 0 = λ d. IsInPlace shape new d in
            subst P (sym e) (record {
              is_interval = j.is_interval;
              is_kind =
                  j.kind ∙ sym (kind-behind shape ci j.from);
            }))
        | inr n ↦ (let p : IsInPlace shape old k = o.in_place k (j.only k l n) in
            elim (same_or_other k 0) as (λ _. IsInPlace shape new k) [
              | inl e ↦ (let q : IsInPlace shape old 0 = (rw e at p) in
                  let P : ℕ → Type 0 = λ d. IsInPlace shape new d in
                  subst P (sym e) (record { is_interval = j.zero_interval; is_kind = j.zero_kind ∙ q.is_kind }))
              | inr m ↦ elim (same_or_other k (first_base shape uow)) as (λ _. IsInPlace shape new k) [
                | inl e ↦ record {
                  is_interval = (let P : ℕ → Type 0 = λ d. IsInterval (bytes_at new d) in
                      subst P (sym e) j.first_interval);
                  is_kind = (ap (λ d. kind_of (bytes_at new d)) e ∙ j.first_kind ∙ ap (λ d. kind_of (bytes_at old d))
                      (sym e)) ∙ p.is_kind;
                }
                | inr h ↦ record {
                  is_interval = rw (← j.same k m h n) at p.is_interval;
                  is_kind =
                      ap kind_of (j.same k m h n) ∙ p.is_kind;
                }
              ]
            ])
      ];
      listed = record {
        of_uow = λ v l. elim (same_or_other v uow) as (λ _. HasList shape new (v + 1)
            (link_of (bytes_at new (first_base shape v)))) [
              | inl e ↦
                  (let h : HasList shape old (uow + 1) (link_of (bytes_at old (first_base shape uow))) =
                  o.listed.of_uow uow j.is_uow in
                  let x : HasList shape new (uow + 1) ci = record {
                    list = ci ∷ h.list;
                    is_list = list-joined shape old new (uow + 1) (link_of (bytes_at old (first_base shape uow))) ci
                        h.list
                        (λ y. omega (arith, y, j.from)) (j.not_owned uow) mine j.link
                        (λ k y. f (uow + 1) k (apart uow k y) y) (λ k n y. g (uow + 1) k n y) (link uow) h.is_list;
                  } in
                  let y : HasList shape new (uow + 1) (link_of (bytes_at new (first_base shape uow))) =
                  (rw (← j.first_link) at x) in
                  let P : ℕ → Type 0 = λ d. HasList shape new (d + 1) (link_of (bytes_at new (first_base shape d))) in
                  subst P (sym e) y)
              | inr n ↦
                  (let h : HasList shape old (v + 1) (link_of (bytes_at old (first_base shape v))) =
                  o.listed.of_uow v l in
                  let before : first_base shape v < first_independent shape = base-before shape v l j.has_base in
                  let e : bytes_at new (first_base shape v) ≡ bytes_at old (first_base shape v) =
                  j.same (first_base shape v) (λ y. omega (arith, y)) (bases-apart shape v uow j.has_base n)
                  (λ y. omega (arith, y, before, j.from)) in
                  let theirs : (k : ℕ) → IsOwned shape new (v + 1) k → k ≢ ci =
                  λ k y z. n (omega (arith, sym j.owner ∙ ap (λ d. owner_of (bytes_at new d)) (sym z) ∙ y.owned)) in
                  let x : HasList shape new (v + 1) (link_of (bytes_at old (first_base shape v))) = record {
                    list = h.list;
                    is_list = list-stays shape old new (v + 1) (link_of (bytes_at old (first_base shape v))) h.list
                        (λ k y. f (v + 1) k (apart v k y) y) (λ k y. g (v + 1) k (theirs k y) y) (link v) h.is_list;
                  } in
                  rw (← e) at x)
            ];
        of_free = j.free;
        owners = λ k l m. elim (same_or_other k ci) as (λ _. owner_of (bytes_at new k) ≤ shape.uows) [
          | inl e ↦ (let P : ℕ → Type 0 = λ d. owner_of (bytes_at new d) ≤ shape.uows in
              subst P (sym e) (omega (arith, j.owner, j.is_uow)))
          | inr n ↦ (let x : owner_of (bytes_at old k) ≤ shape.uows = o.listed.owners k l (j.only k m n) in
              rw (← sb k l n) at x)
        ];
        empty = λ k w.
            (let n : k ≢ ci = λ e. omega (arith, j.owner, ap (λ d. owner_of (bytes_at new d)) (sym e) ∙ w.owned) in
            let x : IsEmpty (bytes_at old k) = o.listed.empty k (g 0 k n w) in rw (← sb k w.from n) at x);
      };
    }

list-first : (shape : Shape) (area : List (List ℕ)) (owner first : ℕ) (list : List ℕ) → first ≢ 0
    → IsListOf shape area owner first list → IsOwned shape area owner first
list-first shape area owner first [] z l = absurd (z l.chain)
list-first shape area owner first (x ∷ rest) z l = let P : ℕ → Type 0 = λ d. IsOwned shape area owner d in
    subst P (sym l.chain.0) (l.owned x (inl refl))

pub order-free : (shape : Shape) (uow n : ℕ) (room : ℕ × ℕ) (old new : List (List ℕ)) → uow < shape.uows
    → 0 < shape.base → IsInOrder shape old → JoinsFree shape uow old new n room → IsInOrder shape new
order-free shape uow n room old new u b o j =
    let behind : first_base shape uow < first_independent shape = base-before shape uow u b in
    let zf : 0 ≢ first_base shape uow = λ x. omega (arith, x) in
    let zc : 0 ≢ room.0 = λ x. omega (arith, x, j.from, behind) in
    let fz : first_base shape uow ≢ 0 = λ x. omega (arith, x) in
    let ez : bytes_at new 0 ≡ j.control = j.joins.others 0 zf zc ∙ j.put.here in
    let mf : bytes_at j.middle (first_base shape uow) ≡ bytes_at old (first_base shape uow) =
    j.put.others (first_base shape uow) fz in
    let k : ChangesLink (bytes_at old (first_base shape uow)) (bytes_at new (first_base shape uow)) room.0 =
    rw mf at j.joins.first in
    let long : length new ≡ length old = j.joins.same_number ∙ j.put.same_number in
    let owner : owner_of (bytes_at new room.0) ≡ uow + 1 = owner-known (bytes_at new room.0) _ j.joins.head in
    let same : (k : ℕ) → k ≢ 0 → k ≢ first_base shape uow → k ≢ room.0 → bytes_at new k ≡ bytes_at old k =
    λ k a c d. j.joins.others k c d ∙ j.put.others k a in
    let sb : (k : ℕ) → first_independent shape ≤ k → k ≢ room.0 → bytes_at new k ≡ bytes_at old k =
    λ k l m. same-behind shape uow old new room.0 k u b same l m in
    let is_free : IsListOf shape old 0 room.0 o.listed.of_free.list = rw (← j.is_first) at o.listed.of_free.is_list in
    let was : IsOwned shape old 0 room.0 = list-first shape old 0 room.0 o.listed.of_free.list (λ x. zc (sym x)) is_free
    in
    let gone : (k : ℕ) → IsOwned shape new 0 k → k ≢ room.0 =
    λ k w e. omega (arith, owner, ap (λ d. owner_of (bytes_at new d)) (sym e) ∙ w.owned) in
    let left : HasList shape new 0 (link_of (bytes_at old room.0)) =
    list-left shape old new 0 room.0 o.listed.of_free.list (λ x. zc (sym x)) (λ w. gone room.0 w refl)
    (λ k m x. record {
      from = x.from;
      below = omega (arith, x.below, long);
      owned =
          ap owner_of (sb k x.from m) ∙ x.owned;
    })
    (λ k x. record {
      from = x.from;
      below = omega (arith, x.below, long);
      owned =
          sym (ap owner_of (sb k x.from (gone k x))) ∙ x.owned;
    })
    (λ k m x. ap link_of (sb k x.from m)) is_free in
    order-joined shape uow old new room.0 o (record {
      is_uow = u;
      has_base = b;
      from = j.from;
      below = omega (arith, j.below, long);
      only = λ k l m. omega (arith, l, long);
      longer = omega (arith, long);
      zero_interval = rw (← ez) at j.ends.is_interval;
      zero_kind = ap kind_of ez ∙ j.ends.head 0 (omega arith) (omega arith);
      first_link = link-known (bytes_at new (first_base shape uow)) _ k.head;
      first_interval = k.is_interval;
      first_kind = kind-known (bytes_at new (first_base shape uow)) _ k.head;
      link = link-known (bytes_at new room.0) _ j.joins.head ∙ ap link_of mf;
      owner = owner;
      is_interval = j.joins.takes.is_interval;
      kind = kind-known (bytes_at new room.0) _ j.joins.head;
      same = same;
      not_owned = λ v w. omega (arith, w.owned, was.owned);
      free = rw (← first_free-put new j.control (bytes_at old 0) (counted old) (link_of (bytes_at old room.0)) ez
          j.ends) at left;
      whole = long ∙ o.whole ∙ ap (λ x. first_independent shape + x)
          (sym (counted-put new j.control (bytes_at old 0) (counted old) (link_of (bytes_at old room.0)) ez j.ends));
    })

pub order-new : (shape : Shape) (uow n : ℕ) (room : ℕ × ℕ) (old new : List (List ℕ)) → uow < shape.uows → 0 < shape.base
    → IsInOrder shape old → JoinsNew shape uow old new n room → IsInOrder shape new
order-new shape uow n room old new u b o j =
    let behind : first_base shape uow < first_independent shape = base-before shape uow u b in
    let zf : 0 ≢ first_base shape uow = λ x. omega (arith, x) in
    let zc : 0 ≢ room.0 = λ x. omega (arith, x, j.from, behind) in
    let fz : first_base shape uow ≢ 0 = λ x. omega (arith, x) in
    let fc : first_base shape uow ≢ length old = λ x. omega (arith, x, j.from, behind, j.is_last) in
    let ez : bytes_at new 0 ≡ j.control = j.joins.others 0 zf zc ∙ j.put.here in
    let mf : bytes_at j.middle (first_base shape uow) ≡ bytes_at old (first_base shape uow) =
    j.put.others (first_base shape uow) fz ∙ j.grows.others (first_base shape uow) fc in
    let k : ChangesLink (bytes_at old (first_base shape uow)) (bytes_at new (first_base shape uow)) room.0 =
    rw mf at j.joins.first in
    let long : length new ≡ length old + 1 = j.joins.same_number ∙ j.put.same_number ∙ j.grows.one_more in
    let owner : owner_of (bytes_at new room.0) ≡ uow + 1 = owner-known (bytes_at new room.0) _ j.joins.head in
    let same : (k : ℕ) → k ≢ 0 → k ≢ first_base shape uow → k ≢ room.0 → bytes_at new k ≡ bytes_at old k =
    λ k a c d. j.joins.others k c d ∙ j.put.others k a ∙ j.grows.others k (λ x. d (x ∙ sym j.is_last)) in
    let sb : (k : ℕ) → first_independent shape ≤ k → k ≢ room.0 → bytes_at new k ≡ bytes_at old k =
    λ k l m. same-behind shape uow old new room.0 k u b same l m in
    let stood : (w k : ℕ) → IsOwned shape old w k → k ≢ room.0 = λ w k x e. omega (arith, x.below, e, j.is_last) in
    let gone : (k : ℕ) → IsOwned shape new 0 k → k ≢ room.0 =
    λ k w e. omega (arith, owner, ap (λ d. owner_of (bytes_at new d)) (sym e) ∙ w.owned) in
    let stays : HasList shape new 0 (first_free old) = record {
      list = o.listed.of_free.list;
      is_list = list-stays shape old new 0 (first_free old) o.listed.of_free.list
          (λ k x. record {
            from = x.from;
            below = omega (arith, x.below, long);
            owned =
                ap owner_of (sb k x.from (stood 0 k x)) ∙ x.owned;
          })
          (λ k x. record {
            from = x.from;
            below = omega (arith, x.below, long, gone k x, j.is_last);
            owned =
                sym (ap owner_of (sb k x.from (gone k x))) ∙ x.owned;
          })
          (λ k x. ap link_of (sb k x.from (stood 0 k x))) o.listed.of_free.is_list;
    } in
    order-joined shape uow old new room.0 o (record {
      is_uow = u;
      has_base = b;
      from = j.from;
      below = omega (arith, j.is_last, long);
      only = λ k l m. omega (arith, l, long, m, j.is_last);
      longer = omega (arith, long);
      zero_interval = rw (← ez) at j.ends.is_interval;
      zero_kind = ap kind_of ez ∙ j.ends.head 0 (omega arith) (omega arith);
      first_link = link-known (bytes_at new (first_base shape uow)) _ k.head;
      first_interval = k.is_interval;
      first_kind = kind-known (bytes_at new (first_base shape uow)) _ k.head;
      link = link-known (bytes_at new room.0) _ j.joins.head ∙ ap link_of mf;
      owner = owner;
      is_interval = j.joins.takes.is_interval;
      kind = kind-known (bytes_at new room.0) _ j.joins.head;
      same = same;
      not_owned = λ v w. stood (v + 1) room.0 w refl;
      free = rw (← first_free-put new j.control (bytes_at old 0) (counted old + 1) (first_free old) ez j.ends) at stays;
      whole = omega (
        arith,
        long,
        o.whole,
        counted-put new j.control (bytes_at old 0) (counted old + 1) (first_free old)
            ez j.ends,
      );
    })

pub order-next : (shape : Shape) (uow n : ℕ) (room : ℕ × ℕ) (old new : List (List ℕ)) → uow < shape.uows
    → 0 < shape.base → IsInOrder shape old → JoinsNext shape uow old new n room → IsInOrder shape new
order-next shape uow n room old new u b o j = elim (same_or_other (first_free old) 0) as (λ _. IsInOrder shape new) [
  | inl z ↦ order-new shape uow n room old new u b o (j.from_end z)
  | inr z ↦ order-free shape uow n room old new u b o (j.from_free z)
]

pub orders-standing : (shape : Shape) (old new : List (List ℕ)) (anchor n uow : ℕ) (o : Option (ℕ × ℕ)) (room : ℕ × ℕ)
    → IsInOrder shape old → uow ≡ uow_of shape anchor → uow < shape.uows → o ≡ Some room
    → ((shared : List ℕ) → IsChain old (link_of (bytes_at old (first_base shape (uow_of shape anchor)))) shared
    → AreTried old new (places shape anchor shared) n o) → IsInOrder shape new
orders-standing shape old new anchor n uow o room i e u s f =
    let h : HasList shape old (uow_of shape anchor + 1)
    (link_of (bytes_at old (first_base shape (uow_of shape anchor)))) =
    i.listed.of_uow (uow_of shape anchor) (rw e at u) in
    let t : AreTried old new (places shape anchor h.list) n (Some room) =
    some_given shape old new anchor n (link_of (bytes_at old (first_base shape (uow_of shape anchor)))) o
    (Some room) s f h.list h.is_list.chain in
    order-taken shape old new room.0 n room.1 (control-first shape old i) i t.some.1

pub orders-next : (shape : Shape) (old m new : List (List ℕ)) (anchor n uow : ℕ) (o : Option (ℕ × ℕ)) (room : ℕ × ℕ)
    → IsInOrder shape old → uow ≡ uow_of shape anchor → uow < shape.uows → 0 < shape.base → o ≡ None
    → ((shared : List ℕ) → IsChain old (link_of (bytes_at old (first_base shape (uow_of shape anchor)))) shared
    → AreTried old m (places shape anchor shared) n o)
    → JoinsNext shape uow m new n room → IsInOrder shape new
orders-next shape old m new anchor n uow o room i e u b s f j =
    let h : HasList shape old (uow_of shape anchor + 1)
    (link_of (bytes_at old (first_base shape (uow_of shape anchor)))) =
    i.listed.of_uow (uow_of shape anchor) (rw e at u) in
    let t : AreTried old m (places shape anchor h.list) n None =
    some_given shape old m anchor n (link_of (bytes_at old (first_base shape (uow_of shape anchor)))) o None s f
    h.list h.is_list.chain in
    order-next shape uow n room old new u b i (rw t.none.1 at j)

pub if_ok-on : {A E : Type 0} (r : Result A E) (P : A → Type 0) (Q : Type 0) → ((a : A) → P a → Q) → IfOk r P → OnOk r Q
if_ok-on (Ok a) P Q f p = f a p
if_ok-on (Err e) P Q f p = tt
