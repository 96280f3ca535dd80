-- Intervals that are known to have no room: runs of a list, and what stays known when elements are taken.
use Rattle.std.proofs.Common.{rules, ◌≡◌, ◌≢◌, ◌⊎◌, ℕ, false, length, zero, suc, ◌+◌, ◌-◌, ◌<◌, ◌≤◌, inl, inr, List, Option, Some, None, IfSome, IfNone, refl, sym, ap, ◌∙◌, subst, arith}
use Rattle.std.specs.Ordering.{nat_cmp}
use Rattle.std.specs.BTreeMap.{BTreeMap, get, is_at, IsEmpty}
use Rattle.std.proofs.lemmas.Bool.Decides.{nat_tests}
use Rattle.ci_space.specs.declared.intervals.Shape.{Shape}
use Rattle.ci_space.specs.declared.head.Head.{Head}
use Rattle.ci_space.specs.Interval.{IsFull}
use Rattle.ci_overflow.specs.Places.{first_base, first_dependent, first_independent, uow_of}
use Rattle.ci_overflow.specs.Lists.{bytes_at, link_of, owner_of, first_free, IsOwned}
use Rattle.ci_overflow.specs.Rooms.{numbers_from, AreFull, TakesAt, IsTaken, IsTried, AreTried, IsFirst, Joins, IsOwnRoom, an_independent}
use Rattle.ci_overflow.specs.inside.Rooms.{IsLeft, IsOnChain, JoinsNext}
use Rattle.ci_overflow.specs.Known.{AreFullTo, the_last, in_front, IsKnown}
use Rattle.ci_overflow.specs.declared.reading.Tried.{Tried}
use Rattle.ci_overflow.specs.declared.known.KnownFull.{KnownFull}
use Rattle.ci_overflow.proofs.Joins.{base-before, dependents-before}
use Rattle.ci_overflow.proofs.Tries.{keeps-link, keeps-owner, head-owner, chain-next, left-itself, numbers-found, tried-some}
use Rattle.plain_laws.proofs.Numbers.{same_or_other}

-- ---- runs

pub run-both : (shape : Shape) (area : List (List ℕ)) (owner n a b c d e : ℕ) → AreFullTo shape area owner n a b c
    → AreFullTo shape area owner n c d e → AreFullTo shape area owner n a d e
run-both shape area owner n a b c d e (the_last ci o f) r = in_front ci d e o f r
run-both shape area owner n a b c d e (in_front ci last next o f rest) r = in_front ci d e o f
    (run-both shape area owner n (link_of (bytes_at area ci)) last next d e rest r)

-- a walk passes a run
pub chain-over : (shape : Shape) (area : List (List ℕ)) (owner n first ci last next : ℕ)
    → AreFullTo shape area owner n ci last next → IsOnChain area n first ci → IsOnChain area n first next
chain-over shape area owner n first ci last next (the_last c o f) w = chain-next area n first c
    (link_of (bytes_at area c)) (λ z. omega (arith, o.from, z)) f refl w
chain-over shape area owner n first ci last next (in_front c t x o f rest) w =
    chain-over shape area owner n first (link_of (bytes_at area c)) last next rest
    (chain-next area n first c (link_of (bytes_at area c)) (λ z. omega (arith, o.from, z)) f refl w)

-- how far a walk from the base interval on has come: nowhere yet, or over a run
abbrev pub HasPassed : Shape → List (List ℕ) → ℕ → ℕ → ℕ → ℕ → ℕ → ℕ → Type 0
HasPassed shape area owner n base first from ci =
    ((from ≡ base) × (ci ≡ first)) ⊎ AreFullTo shape area owner n first from ci

pub passed-on : (shape : Shape) (area : List (List ℕ)) (owner n base first from ci last next : ℕ)
    → HasPassed shape area owner n base first from ci → AreFullTo shape area owner n ci last next
    → HasPassed shape area owner n base first last next
passed-on shape area owner n base first from ci last next (inl e) r =
    inr (let P : ℕ → Type 0 = λ c. AreFullTo shape area owner n c last next in subst P e.1 r)
passed-on shape area owner n base first from ci last next (inr p) r =
    inr (run-both shape area owner n first from ci last next p r)

pub passed-run : (shape : Shape) (area : List (List ℕ)) (owner n base first from ci : ℕ)
    → HasPassed shape area owner n base first from ci → from ≢ base → AreFullTo shape area owner n first from ci
passed-run shape area owner n base first from ci (inl e) z = absurd (z e.0)
passed-run shape area owner n base first from ci (inr p) z = p

-- ---- numbers

pub full-more : (area : List (List ℕ)) (n first k : ℕ) → AreFull area n (numbers_from first k)
    → IsFull (bytes_at area (first + k)) n → AreFull area n (numbers_from first (suc k))
full-more area n first zero a f = (subst (λ c. IsFull (bytes_at area c) n) (omega arith) f, tt)
full-more area n first (suc k) a f =
    let e : first + suc k ≡ first + 1 + k = omega arith in
    (a.0, full-more area n (first + 1) k a.1 (subst (λ c. IsFull (bytes_at area c) n) e f))

pub left-known : (area : List (List ℕ)) (n first k m : ℕ) → k ≤ m → AreFull area n (numbers_from first k)
    → IsLeft area n (numbers_from first m) (numbers_from (first + k) (first + m - (first + k)))
left-known area n first zero m l a =
    let e : first + m - (first + 0) ≡ m = omega arith in
    let d : first + 0 ≡ first = omega arith in
    subst (λ c. IsLeft area n (numbers_from first m) (numbers_from (first + 0) c)) (sym e)
    (subst (λ c. IsLeft area n (numbers_from first m) (numbers_from c m)) (sym d)
    (left-itself area n (numbers_from first m)))
left-known area n first (suc k) zero l a = absurd (omega (arith, l))
left-known area n first (suc k) (suc m) l a =
    let x = left-known area n (first + 1) k m (omega (arith, l)) a.1 in
    let e : first + 1 + k ≡ first + suc k = omega arith in
    let d : first + 1 + m - (first + 1 + k) ≡ first + suc m - (first + suc k) = omega arith in
    let y : IsLeft area n (numbers_from (first + 1) m)
    (numbers_from (first + suc k) (first + suc m - (first + suc k))) = subst
    (λ c. IsLeft area n (numbers_from (first + 1) m) (numbers_from c (first + suc m - (first + suc k)))) e (subst
    (λ c. IsLeft area n (numbers_from (first + 1) m) (numbers_from (first + 1 + k) c)) d x) in
    record { first = λ ci f. inr (a.0, y.first ci f); full = λ f. (a.0, y.full f) }

-- the dependent overflow intervals, one after the other
pub dependent-found : (shape : Shape) (area new : List (List ℕ)) (uow n number ci at : ℕ) → number < shape.overflow
    → AreFull area n (numbers_from (first_dependent shape uow) number) → ci ≡ first_dependent shape uow + number
    → TakesAt area new ci n at
    → AreTried area new (numbers_from (first_dependent shape uow) shape.overflow) n (Some (ci, at))
dependent-found shape area new uow n number ci at l a e t =
    let first : ℕ = first_dependent shape uow in
    let x : IsLeft area n (numbers_from first shape.overflow) (numbers_from (first + number)
    (first + shape.overflow - (first + number))) = left-known area n first number shape.overflow (omega (arith, l)) a in
    tried-some area new (numbers_from first shape.overflow) n ci at (subst
    (λ c. IsFirst area n (numbers_from first shape.overflow) c) (sym e)
    (numbers-found area n (first + number) (first + shape.overflow) (numbers_from first shape.overflow)
    (omega (arith, l)) x)) t

pub dependents-full : (shape : Shape) (area : List (List ℕ)) (uow n number : ℕ) → number ≤ shape.overflow
    → shape.overflow ≤ number → AreFull area n (numbers_from (first_dependent shape uow) number)
    → AreFull area n (numbers_from (first_dependent shape uow) shape.overflow)
dependents-full shape area uow n number l g a =
    subst (λ m. AreFull area n (numbers_from (first_dependent shape uow) m)) (omega (arith, l, g)) a

pub dependent-full : (shape : Shape) (area : List (List ℕ)) (uow n number ci : ℕ)
    → AreFull area n (numbers_from (first_dependent shape uow) number) → ci ≡ first_dependent shape uow + number
    → IsFull (bytes_at area ci) n → AreFull area n (numbers_from (first_dependent shape uow) (number + 1))
dependent-full shape area uow n number ci a e f =
    let x = full-more area n (first_dependent shape uow) number a (subst (λ c. IsFull (bytes_at area c) n) e f) in
    let s : suc number ≡ number + 1 = omega arith in
    subst (λ m. AreFull area n (numbers_from (first_dependent shape uow) m)) s x

pub known-so_far : (shape : Shape) (area : List (List ℕ)) (uow n m : ℕ) (known now : KnownFull) → now ≡ known
    → m ≤ shape.overflow → AreFull area n (numbers_from (first_dependent shape uow) m) → IsKnown shape area uow n known
    → IsKnown shape area uow n (record now { dependents = m })
known-so_far shape area uow n m known now e l a k = record {
  few = l;
  dependents = a;
  listed = λ map x. k.listed map (sym (ap (λ (q : KnownFull). q.listed) e) ∙ x);
}

-- an interval that was tried and is full is a run by itself
full_run : (shape : Shape) (area : List (List ℕ)) (owner n ci link : ℕ) → IsOwned shape area owner ci
    → IsFull (bytes_at area ci) n → link ≡ link_of (bytes_at area ci) → AreFullTo shape area owner n ci ci link
full_run shape area owner n ci link o f e =
    subst (λ x. AreFullTo shape area owner n ci ci x) (sym e) (the_last ci o f)

none_or : (shape : Shape) (old new : List (List ℕ)) (owner n ci link : ℕ) (o : Option ℕ)
    → IfNone o (IsFull (bytes_at old ci) n × (new ≡ old)) → link ≡ link_of (bytes_at old ci) → IsOwned shape old owner ci
    → IfNone o (AreFullTo shape old owner n ci ci link)
none_or shape old new owner n ci link None f e x = full_run shape old owner n ci link x f.0 e
none_or shape old new owner n ci link (Some at) f e x = tt

pub listed-full : (shape : Shape) (old new : List (List ℕ)) (owner n ci : ℕ) (tried : Tried)
    → IsTried old new ci n tried → first_independent shape ≤ ci → ci < length old → owner_of (bytes_at old ci) ≡ owner
    → IfNone tried.at (AreFullTo shape old owner n ci ci tried.link)
listed-full shape old new owner n ci tried t l b o =
    none_or shape old new owner n ci tried.link tried.at t.none t.link (record { from = l; below = b; owned = o })

-- an interval from which an element was taken stays in its list
pub listed-owned : (shape : Shape) (old new : List (List ℕ)) (owner n ci at : ℕ) → first_independent shape ≤ ci
    → TakesAt old new ci n at → owner_of (bytes_at old ci) ≡ owner → IsOwned shape new owner ci
listed-owned shape old new owner n ci at l t o = record {
  from = l;
  below = omega (arith, t.below, t.same_number);
  owned = keeps-owner (bytes_at old ci) (bytes_at new ci) t.head ∙ o;
}

-- ---- what stays known

-- an interval stays in its list and has no more room
pub record KeepsFull (old new : List ℕ) : Type 0 where
  pub link : link_of new ≡ link_of old
  pub owner : owner_of new ≡ owner_of old
  pub fuller : (n : ℕ) → IsFull old n → IsFull new n

pub keeps-same : (old new : List ℕ) → new ≡ old → KeepsFull old new
keeps-same old new e = record {
  link = ap link_of e;
  owner = ap owner_of e;
  fuller = λ n f. (let P : List ℕ → Type 0 = λ b. IsFull b n in subst P (sym e) f);
}

pub keeps-taken : (old new : List (List ℕ)) (ci n at other : ℕ) → TakesAt old new ci n at
    → KeepsFull (bytes_at old other) (bytes_at new other)
keeps-taken old new ci n at other t = elim (same_or_other other ci) as
    (λ _. KeepsFull (bytes_at old other) (bytes_at new other)) [
      | inl e ↦
          (let P : ℕ → Type 0 = λ c. KeepsFull (bytes_at old c) (bytes_at new c) in
          subst P (sym e) (record {
            link = keeps-link (bytes_at old ci) (bytes_at new ci) t.head;
            owner = keeps-owner (bytes_at old ci) (bytes_at new ci) t.head;
            fuller = t.fuller;
          }))
      | inr h ↦ keeps-same (bytes_at old other) (bytes_at new other) (t.others other h)
    ]

pub run-stays : (shape : Shape) (old new : List (List ℕ)) (owner n a b c : ℕ) → length old ≤ length new
    → ((ci : ℕ) → IsOwned shape old owner ci → KeepsFull (bytes_at old ci) (bytes_at new ci))
    → AreFullTo shape old owner n a b c → AreFullTo shape new owner n a b c
run-stays shape old new owner n a b c l k (the_last ci o f) =
    let here = k ci o in
    let P : ℕ → Type 0 = λ x. AreFullTo shape new owner n ci ci x in
    subst P here.link (the_last ci (record {
      from = o.from;
      below = omega (arith, o.below, l);
      owned = here.owner ∙ o.owned;
    }) (here.fuller n f))
run-stays shape old new owner n a b c l k (in_front ci last next o f rest) =
    let here = k ci o in
    let P : ℕ → Type 0 = λ x. AreFullTo shape new owner n x b c in
    in_front ci b c (record {
      from = o.from;
      below = omega (arith, o.below, l);
      owned = here.owner ∙ o.owned;
    }) (here.fuller n f) (subst P (sym here.link) (run-stays shape old new owner n (link_of (bytes_at old ci)) b c l k
    rest))

numbers-stay : (old new : List (List ℕ)) (n first k : ℕ)
    → ((ci : ℕ) → first ≤ ci → ci < first + k → KeepsFull (bytes_at old ci) (bytes_at new ci))
    → AreFull old n (numbers_from first k) → AreFull new n (numbers_from first k)
numbers-stay old new n first zero s a = tt
numbers-stay old new n first (suc k) s a = (
  (s first (omega arith) (omega arith)).fuller n a.0,
  numbers-stay old new n (first + 1) k (λ ci x y. s ci (omega (arith, x)) (omega (arith, y))) a.1,
)

pub known-stays : (shape : Shape) (old new : List (List ℕ)) (uow n : ℕ) (known : KnownFull) → length old ≤ length new
    → ((ci : ℕ) → first_dependent shape uow ≤ ci → ci < first_dependent shape uow + shape.overflow
    → KeepsFull (bytes_at old ci) (bytes_at new ci))
    → ((ci : ℕ) → IsOwned shape old (uow + 1) ci → KeepsFull (bytes_at old ci) (bytes_at new ci))
    → IsKnown shape old uow n known → IsKnown shape new uow n known
known-stays shape old new uow n known l s t k = record {
  few = k.few;
  dependents = numbers-stay old new n (first_dependent shape uow) known.dependents
      (λ ci x y. s ci x (omega (arith, y, k.few))) k.dependents;
  listed = λ map e ci p g. run-stays shape old new (uow + 1) n ci p.last p.next l t (k.listed map e ci p g);
}

pub known-taken : (shape : Shape) (old new : List (List ℕ)) (uow n m ci at : ℕ) (known : KnownFull)
    → TakesAt old new ci m at → IsKnown shape old uow n known → IsKnown shape new uow n known
known-taken shape old new uow n m ci at known t k = known-stays shape old new uow n known
    (omega (arith, t.same_number)) (λ c x y. keeps-taken old new ci m at c t) (λ c o. keeps-taken old new ci m at c t) k

pub known-same : (shape : Shape) (old new : List (List ℕ)) (uow n : ℕ) (known : KnownFull) → new ≡ old
    → IsKnown shape old uow n known → IsKnown shape new uow n known
known-same shape old new uow n known e k =
    let P : List (List ℕ) → Type 0 = λ a. IsKnown shape a uow n known in subst P (sym e) k

-- where an element was taken, and where none was
pub known-room : (shape : Shape) (old new : List (List ℕ)) (uow n m : ℕ) (known : KnownFull) (room : Option (ℕ × ℕ))
    → IsTaken old new m room → IfNone room (new ≡ old) → IsKnown shape old uow n known → IsKnown shape new uow n known
known-room shape old new uow n m known None t f k = known-same shape old new uow n known f k
known-room shape old new uow n m known (Some room) t f k = known-taken shape old new uow n m room.0 room.1 known t.1 k

-- the same unit of work by its number, in the same area
pub known-here : (shape : Shape) (old new : List (List ℕ)) (uow other n : ℕ) (known : KnownFull) → new ≡ old
    → other ≡ uow → IsKnown shape old uow n known → IsKnown shape new other n known
known-here shape old new uow other n known e f k = known-same shape old new other n known e
    (subst (λ u. IsKnown shape old u n known) (sym f) k)

pub known-back : (shape : Shape) (area : List (List ℕ)) (uow other n : ℕ) (known : KnownFull)
    → other ≡ uow → IsKnown shape area other n known → IsKnown shape area uow n known
known-back shape area uow other n known e k = subst (λ u. IsKnown shape area u n known) e k

-- an interval that joins the list wasn't in it
joined : (shape : Shape) (old middle new : List (List ℕ)) (uow n m ci at : ℕ) (bytes : List ℕ) (known : KnownFull)
    → uow < shape.uows → 0 < shape.base → first_independent shape ≤ ci → length old ≤ length new
    → ((other : ℕ) → other ≢ 0 → other ≢ ci → bytes_at middle other ≡ bytes_at old other)
    → Joins shape uow middle new ci bytes m at → ¬ IsOwned shape old (uow + 1) ci
    → IsKnown shape old uow n known → IsKnown shape new uow n known
joined shape old middle new uow n m ci at bytes known u b l e s j o k =
    let behind : first_base shape uow < first_independent shape = base-before shape uow u b in
    let last : first_dependent shape uow + shape.overflow ≤ first_independent shape = dependents-before shape uow u in
    let same : (other : ℕ) → other ≢ 0 → other ≢ first_base shape uow → other ≢ ci
    → KeepsFull (bytes_at old other) (bytes_at new other) =
    λ other x y z. keeps-same (bytes_at old other) (bytes_at new other) (j.others other y z ∙ s other x z) in
    known-stays shape old new uow n known e
    (λ c x y. same c (λ z. omega (arith, x, z)) (λ z. omega (arith, x, b, z)) (λ z. omega (arith, y, last, l, z)))
    (λ c x. same c (λ z. omega (arith, x.from, z)) (λ z. omega (arith, x.from, behind, z))
    (λ z. o (let P : ℕ → Type 0 = λ d. IsOwned shape old (uow + 1) d in subst P z x))) k

pub known-next : (shape : Shape) (old new : List (List ℕ)) (uow n m : ℕ) (room : ℕ × ℕ) (known : KnownFull)
    → uow < shape.uows → 0 < shape.base → JoinsNext shape uow old new m room → IsKnown shape old uow n known
    → IsKnown shape new uow n known
known-next shape old new uow n m room known u b j k = elim (same_or_other (first_free old) 0) as
    (λ _. IsKnown shape new uow n known) [
      | inl z ↦
          (let x = j.from_end z in
          joined shape old x.middle new uow n m room.0 room.1 _ known u b x.from
          (omega (arith, x.joins.same_number, x.put.same_number, x.grows.one_more))
          (λ other y w. x.put.others other y ∙ x.grows.others other (λ e. w (e ∙ sym x.is_last))) x.joins
          (λ o. omega (arith, o.below, x.is_last)) k)
      | inr z ↦
          (let x = j.from_free z in
          joined shape old x.middle new uow n m room.0 room.1 _ known u b x.from
          (omega (arith, x.joins.same_number, x.put.same_number)) (λ other y w. x.put.others other y) x.joins
          (λ o. omega (arith, o.owned, x.is_free)) k)
    ]

-- ---- whose room it is

own_next : (shape : Shape) (old new : List (List ℕ)) (uow m : ℕ) (room : ℕ × ℕ) → JoinsNext shape uow old new m room
    → room.0 < length new → IsOwned shape new (uow + 1) room.0
own_next shape old new uow m room j below = elim (same_or_other (first_free old) 0) as
    (λ _. IsOwned shape new (uow + 1) room.0) [
      | inl z ↦ record {
        from = (j.from_end z).from;
        below = below;
        owned = sym (head-owner (bytes_at new room.0) (uow + 1)
            (sym (ap (λ (h : Head). h.owner) (j.from_end z).joins.head)));
      }
      | inr z ↦ record {
        from = (j.from_free z).from;
        below = below;
        owned = sym (head-owner (bytes_at new room.0) (uow + 1)
            (sym (ap (λ (h : Head). h.owner) (j.from_free z).joins.head)));
      }
    ]

pub own-joined : (shape : Shape) (old new : List (List ℕ)) (anchor m uow : ℕ) (room : ℕ × ℕ) → uow ≡ uow_of shape anchor
    → JoinsNext shape uow old new m room → room.0 < length new → IsOwnRoom shape new anchor room.0
own-joined shape old new anchor m uow room e j below =
    an_independent (subst (λ u. IsOwned shape new (u + 1) room.0) e (own_next shape old new uow m room j below))

pub own-listed : (shape : Shape) (area : List (List ℕ)) (anchor uow : ℕ) (room : Option (ℕ × ℕ)) → uow ≡ uow_of shape anchor
    → IfSome room (λ room. IsOwned shape area (uow + 1) room.0) → IfSome room (λ room. IsOwnRoom shape area anchor room.0)
own-listed shape area anchor uow None e o = tt
own-listed shape area anchor uow (Some room) e o = an_independent (subst (λ u. IsOwned shape area (u + 1) room.0) e o)

-- ---- by length

pub other_length : (n m : ℕ) → (m ≡ n → ⊥) → is_at (nat_cmp n) m ≡ false
other_length n m ne = search (rules, nat_tests)

known_at : (shape : Shape) (area : List (List ℕ)) (uow n m : ℕ) (known : KnownFull) → n ≡ m → IsKnown shape area uow m known
    → IsKnown shape area uow n known
known_at shape area uow n m known e k = subst (λ l. IsKnown shape area uow l known) (sym e) k

same_known : (a b : KnownFull) → Some a ≡ Some b → b ≡ a
same_known a b e = cc

none_some : (k : KnownFull) → (let o : Option KnownFull = None in o) ≡ Some k → ⊥
none_some k e = cc

empty_get : (map : BTreeMap ℕ KnownFull) (n : ℕ) → IsEmpty map → get nat_cmp map n ≡ None
empty_get map n e = rw e refl

-- what is known for one length is put among the others, in an area in which all that was known is so still
pub known-put : (shape : Shape) (old new : List (List ℕ)) (uow : ℕ) (before after : ℕ → Option KnownFull) (n : ℕ)
    (known : KnownFull) → after n ≡ Some known → ((m : ℕ) → (m ≡ n → ⊥) → after m ≡ before m)
    → ((m : ℕ) (k : KnownFull) → before m ≡ Some k → IsKnown shape old uow m k) → IsKnown shape new uow n known
    → ((m : ℕ) (k : KnownFull) → IsKnown shape old uow m k → IsKnown shape new uow m k)
    → (m : ℕ) (k : KnownFull) → after m ≡ Some k → IsKnown shape new uow m k
known-put shape old new uow before after n known here others was now stays m k e = elim (same_or_other m n) as
    (λ _. IsKnown shape new uow m k) [
      | inl x ↦
          (let same : k ≡ known = same_known known k (sym here ∙ ap after (sym x) ∙ e) in
          subst (λ q. IsKnown shape new uow m q) (sym same) (known_at shape new uow m n known x now))
      | inr x ↦ stays m k (was m k (sym (others m x) ∙ e))
    ]

-- what is left where one is taken out
pub known-out : (shape : Shape) (area : List (List ℕ)) (uow : ℕ) (before after : ℕ → Option KnownFull) (n : ℕ)
    → after n ≡ None → ((m : ℕ) → (m ≡ n → ⊥) → after m ≡ before m)
    → ((m : ℕ) (k : KnownFull) → before m ≡ Some k → IsKnown shape area uow m k)
    → (m : ℕ) (k : KnownFull) → after m ≡ Some k → IsKnown shape area uow m k
known-out shape area uow before after n gone others was m k e = elim (same_or_other m n) as
    (λ _. IsKnown shape area uow m k) [
      | inl x ↦ absurd (none_some k (sym gone ∙ ap after (sym x) ∙ e))
      | inr x ↦ was m k (sym (others m x) ∙ e)
    ]

-- nothing is known in the beginning
pub known-empty : (map : BTreeMap ℕ KnownFull) (n : ℕ) (known : KnownFull) → IsEmpty map → get nat_cmp map n ≡ Some known
    → ⊥
known-empty map n known e g = none_some known (sym (empty_get map n e) ∙ g)
