-- Places that are reserved for segments: the parts of a plan, and what is left of it.
use Rattle.std.proofs.Common.{◌≡◌, ℕ, inl, inr, List, [], ◌∷◌, ◌++◌, Contains, Option, Some, None, IfSome, refl, sym, ap, ◌∙◌, subst, append_assoc}
use Rattle.std.proofs.lemmas.List.{append-nil}
use Rattle.root_anchor.proofs.Exchanging.{exchange-both}
use Rattle.ci_space.specs.declared.intervals.Shape.{Shape}
use Rattle.ci_space.specs.Interval.{HasUsed, IsUsed, HasRoom}
use Rattle.ci_overflow.specs.Lists.{bytes_at}
use Rattle.fp_model.specs.declared.definitions.SegDef.{SegDef}
use Rattle.anchor_elements.specs.Elements.{Pointer, content_length}
use Rattle.root_anchor.specs.inside.Rebuilding.{AreApart, Exchanges, and_place, reserved, types_of, HaveRooms, ArePlaced, AreReserved, IsPlanned, StandIn}
use Rattle.root_anchor.specs.declared.plan.Planned.{Planned}
use Rattle.root_anchor.proofs.OwnLemmas.{stand-both}
use Rattle.root_anchor.proofs.Apart.{apart-left, apart-right, apart-disjoint}
use Rattle.plain_laws.proofs.Alls.{contains_cases, contains_first, contains_later, contains_nothing}

-- ---- the parts of a plan

place_append : (at : Option Pointer) (xs ys : List Pointer) → and_place at (xs ++ ys) ≡ and_place at xs ++ ys
place_append None xs ys = refl
place_append (Some at) xs ys = refl

pub reserved-append : (xs ys : List Planned) → reserved (xs ++ ys) ≡ reserved xs ++ reserved ys
reserved-append [] ys = refl
reserved-append (p ∷ xs) ys = ap (and_place p.at) (reserved-append xs ys) ∙ place_append p.at (reserved xs)
    (reserved ys)

pub rooms-left : (types : List SegDef) (area : List (List ℕ)) (xs ys : List Planned) → HaveRooms types area (xs ++ ys)
    → HaveRooms types area xs
rooms-left types area [] ys h = tt
rooms-left types area (p ∷ xs) ys h = (h.0, rooms-left types area xs ys h.1)

pub rooms-right : (types : List SegDef) (area : List (List ℕ)) (xs ys : List Planned) → HaveRooms types area (xs ++ ys)
    → HaveRooms types area ys
rooms-right types area [] ys h = h
rooms-right types area (p ∷ xs) ys h = rooms-right types area xs ys h.1

-- each segment of the parts has a place
pub places-left : (xs ys : List Planned) → ArePlaced (xs ++ ys) → ArePlaced xs
places-left [] ys h = tt
places-left (p ∷ xs) ys h = (h.0, places-left xs ys h.1)

pub places-right : (xs ys : List Planned) → ArePlaced (xs ++ ys) → ArePlaced ys
places-right [] ys h = h
places-right (p ∷ xs) ys h = places-right xs ys h.1

pub reserved-left : (types : List SegDef) (area : List (List ℕ)) (xs ys : List Planned)
    → AreReserved types area (xs ++ ys) → AreReserved types area xs
reserved-left types area xs ys r = record {
  rooms = rooms-left types area xs ys r.rooms;
  once =
      apart-left (reserved xs) (reserved ys) (let P : List Pointer → Type 0 = AreApart in
      subst P (reserved-append xs ys) r.once);
}

pub reserved-right : (types : List SegDef) (area : List (List ℕ)) (xs ys : List Planned)
    → AreReserved types area (xs ++ ys) → AreReserved types area ys
reserved-right types area xs ys r = record {
  rooms = rooms-right types area xs ys r.rooms;
  once =
      apart-right (reserved xs) (reserved ys) (let P : List Pointer → Type 0 = AreApart in
      subst P (reserved-append xs ys) r.once);
}

pub reserved-disjoint : (types : List SegDef) (area : List (List ℕ)) (xs ys : List Planned)
    → AreReserved types area (xs ++ ys) → (at : Pointer) → Contains (reserved xs) at → ¬ Contains (reserved ys) at
reserved-disjoint types area xs ys r at c = apart-disjoint (reserved xs) (reserved ys) at
    (let P : List Pointer → Type 0 = AreApart in subst P (reserved-append xs ys) r.once) c

-- ---- reserved places are used elements

place_used : (types : List SegDef) (area : List (List ℕ)) (type : ℕ) (o : Option Pointer) (rest : List Pointer)
    (at : Pointer) → IfSome o (λ at. HasRoom (bytes_at area at.0) at.1 (content_length types type))
    → (Contains rest at → IsUsed (bytes_at area at.0) at.1) → Contains (and_place o rest) at
    → IsUsed (bytes_at area at.0) at.1
place_used types area type None rest at h f c = f c
place_used types area type (Some p) rest at h f c =
    elim (contains_cases p rest at c) as (λ _. IsUsed (bytes_at area at.0) at.1) [
      | inl e ↦ (let P : Pointer → Type 0 = λ q. IsUsed (bytes_at area q.0) q.1 in
          subst P e (record { segment = h.segment; content = h.content; used = h.used }))
      | inr d ↦ f d
    ]

pub rooms-used : (types : List SegDef) (area : List (List ℕ)) (plan : List Planned) → HaveRooms types area plan
    → (at : Pointer) → Contains (reserved plan) at → IsUsed (bytes_at area at.0) at.1
rooms-used types area [] h at c = absurd (contains_nothing at c)
rooms-used types area (p ∷ plan) h at c = place_used types area p.segment p.at (reserved plan) at h.0
    (rooms-used types area plan h.1 at) c

place_stays : (types : List SegDef) (old new : List (List ℕ)) (type : ℕ) (o : Option Pointer) (rest : List Pointer)
    → ((at : Pointer) (t : ℕ) (content : List ℕ) → Contains (and_place o rest) at
    → HasUsed (bytes_at old at.0) at.1 t content → HasUsed (bytes_at new at.0) at.1 t content)
    → IfSome o (λ at. HasRoom (bytes_at old at.0) at.1 (content_length types type))
    → IfSome o (λ at. HasRoom (bytes_at new at.0) at.1 (content_length types type))
place_stays types old new type None rest f h = tt
place_stays types old new type (Some p) rest f h = record
    { segment = h.segment; content = h.content; used = f p h.segment h.content (contains_first p rest) h.used; fits = h.fits }

place_more : (o : Option Pointer) (rest : List Pointer) (at : Pointer) → Contains rest at
    → Contains (and_place o rest) at
place_more None rest at c = c
place_more (Some p) rest at c = contains_later p rest at c

pub rooms-stay : (types : List SegDef) (old new : List (List ℕ)) (plan : List Planned)
    → ((at : Pointer) (t : ℕ) (content : List ℕ) → Contains (reserved plan) at
    → HasUsed (bytes_at old at.0) at.1 t content → HasUsed (bytes_at new at.0) at.1 t content)
    → HaveRooms types old plan → HaveRooms types new plan
rooms-stay types old new [] f h = tt
rooms-stay types old new (p ∷ plan) f h = (
  place_stays types old new p.segment p.at (reserved plan) f h.0,
  rooms-stay types old new plan (λ at t content c. f at t content (place_more p.at (reserved plan) at c)) h.1,
)

-- ---- a plan whose types are two lists has two parts

pub record IsSplit (plan : List Planned) (first second : List ℕ) : Type 0 where
  pub left : List Planned
  pub right : List Planned
  pub parts : plan ≡ left ++ right
  pub left_types : types_of left ≡ first
  pub right_types : types_of right ≡ second

head_of_list : ℕ → List ℕ → ℕ
head_of_list d [] = d
head_of_list d (x ∷ xs) = x

pub split : (plan : List Planned) (first second : List ℕ) → types_of plan ≡ first ++ second → IsSplit plan first second
split plan [] second e = record { left = []; right = plan; parts = refl; left_types = refl; right_types = e }
split [] (x ∷ first) second e = absurd (cc)
split (p ∷ plan) (x ∷ first) second e =
    let d : types_of plan ≡ first ++ second = cc in
    let h : p.segment ≡ x = cc in
    let s : IsSplit plan first second = split plan first second d in
    record {
      left = p ∷ s.left;
      right = s.right;
      parts = ap (λ l. p ∷ l) s.parts;
      left_types =
          rw (h, s.left_types) refl;
      right_types = s.right_types;
    }

-- ---- what is left of a plan

-- a plan of which the last part is used up
pub record IsLeft (plan before used left done : List Planned) (kinds : List ℕ) : Type 0 where
  pub parts : used ≡ left ++ done
  pub is_left : plan ≡ before ++ left
  pub kinds_are : types_of left ≡ kinds

-- what was reserved is still, where other elements were exchanged
pub still-reserved : (shape : Shape) (types : List SegDef) (old now : List (List ℕ)) (xs ys : List Planned)
    (has : List Pointer) → AreReserved types old (xs ++ ys) → Exchanges shape old now (reserved ys) has
    → AreReserved types now xs
still-reserved shape types old now xs ys has r e = record {
  rooms = rooms-stay types old now xs (λ at t content c h. e.stay at t content
      (reserved-disjoint types old xs ys r at c) h) (rooms-left types old xs ys r.rooms);
  once = (reserved-left types old xs ys r).once;
}

-- the next part of a plan, from its end
pub record IsNext (types : List SegDef) (now : List (List ℕ)) (plan before left : List Planned)
    (first second : List ℕ) : Type 0 where
  pub rest : List Planned
  pub part : List Planned
  pub parts : left ≡ rest ++ part
  pub rest_types : types_of rest ≡ first
  pub planned : IsPlanned types now plan (before ++ rest) part second

pub next-part : (shape : Shape) (types : List SegDef) (old now : List (List ℕ))
    (plan0 plan before used left done : List Planned) (kinds first second : List ℕ) (has : List Pointer)
    → IsPlanned types old plan0 before used kinds → IsLeft plan before used left done (first ++ second)
    → Exchanges shape old now (reserved done) has
    → IsNext types now plan before left first second
next-part shape types old now plan0 plan before used left done kinds first second has p l e =
    let s : IsSplit left first second = split left first second l.kinds_are in
    let P : List Planned → Type 0 = λ xs. AreReserved types old xs in
    let r : AreReserved types now left = still-reserved shape types old now left done has
    (subst P l.parts p.are_reserved) e in
    let Q : List Planned → Type 0 = λ xs. AreReserved types now xs in
    record {
      rest = s.left;
      part = s.right;
      parts = s.parts;
      rest_types = s.left_types;
      planned = record {
        parts = l.is_left ∙ ap (λ xs. before ++ xs) s.parts ∙ sym (append_assoc before s.left s.right);
        kinds_are = s.right_types;
        are_reserved = reserved-right types now s.left s.right (subst Q s.parts r);
        placed = places-right s.left s.right (let R : List Planned → Type 0 = ArePlaced in
            subst R s.parts (places-left left done (subst R l.parts p.placed)));
      };
    }

-- that part is used up too
pub record IsFurther (shape : Shape) (types : List SegDef) (old now new : List (List ℕ))
    (plan before used rest done : List Planned) (first : List ℕ) (has more : List Pointer) : Type 0 where
  pub is_left : IsLeft plan before used rest done first
  pub exchange : Exchanges shape old new (reserved done) (more ++ has)
  pub stand_in : StandIn old new (reserved done) (more ++ has)
  pub stay : (at : Pointer) (type : ℕ) (content : List ℕ) → Contains has at
      → HasUsed (bytes_at now at.0) at.1 type content → HasUsed (bytes_at new at.0) at.1 type content

pub further : (shape : Shape) (types : List SegDef) (old now new : List (List ℕ))
    (plan0 plan plan2 before used left done : List Planned) (kinds first second : List ℕ) (has more : List Pointer)
    → IsPlanned types old plan0 before used kinds → IsLeft plan before used left done (first ++ second)
    → Exchanges shape old now (reserved done) has
    → (n : IsNext types now plan before left first second) → plan2 ≡ before ++ n.rest
    → Exchanges shape now new (reserved n.part) more
    → StandIn old now (reserved done) has → StandIn now new (reserved n.part) more
    → IsFurther shape types old now new plan2 before used n.rest (n.part ++ done) first has more
further shape types old now new plan0 plan plan2 before used left done kinds first second has more p l e n q f i j =
    let P : List Planned → Type 0 = λ xs. AreReserved types old xs in
    let all : used ≡ n.rest ++ (n.part ++ done) = l.parts ∙ ap (λ xs. xs ++ done) n.parts ∙ append_assoc n.rest n.part
    done in
    let r : AreReserved types old (n.part ++ done) =
    reserved-right types old n.rest (n.part ++ done) (subst P all p.are_reserved) in
    let u : (at : Pointer) → Contains (reserved n.part) at → IsUsed (bytes_at old at.0) at.1 =
    rooms-used types old n.part (reserved-left types old n.part done r).rooms in
    let d : (at : Pointer) → Contains (reserved n.part) at → ¬ Contains (reserved done) at =
    reserved-disjoint types old n.part done r in
    let Q : List Pointer → Type 0 = λ xs. Exchanges shape old new xs (more ++ has) in
    let R : List Pointer → Type 0 = λ xs. StandIn old new xs (more ++ has) in
    record {
      stand_in = subst R (sym (reserved-append n.part done))
          (stand-both old now new (reserved done) has (reserved n.part) more i j);
      is_left = record { parts = all; is_left = q; kinds_are = n.rest_types };
      exchange = subst Q (sym (reserved-append n.part done))
          (exchange-both shape old now new (reserved done) has (reserved n.part) more e f u d);
      stay = λ at type content c h. f.stay at type content
          (λ m. elim (e.fresh at c) as (λ _. ⊥) [ inl x ↦ d at m x | inr x ↦ x (u at m) ]) h;
    }

-- a plan that is used up whole
pub none-left : (plan before used left done : List Planned) → IsLeft plan before used left done [] → (plan ≡ before)
    × (done ≡ used)
none-left plan before used [] done l = (l.is_left ∙ append-nil before, sym l.parts)
none-left plan before used (p ∷ left) done l = absurd (let h = l.kinds_are in cc)

pub exchange-none : (shape : Shape) (area : List (List ℕ)) → Exchanges shape area area [] []
exchange-none shape area = record {
  stay = λ at type content n h. h;
  none_comes = λ at type content n h. (n, h);
  fresh = λ at c. inl c;
  used = λ at c. absurd (contains_nothing at c);
  once = tt;
  roots = λ ci. refl;
  kinds = λ ci i. (i, refl);
  in_order = λ o. o;
  sequential = λ o. record { ends = record { begin = refl; end = refl; head = λ k x y. refl }; intervals = λ ci k. refl };
}

pub all-left : (shape : Shape) (types : List SegDef) (area : List (List ℕ)) (plan before used : List Planned)
    (kinds : List ℕ) → IsPlanned types area plan before used kinds → IsLeft plan before used used [] kinds
all-left shape types area plan before used kinds p =
    record { parts = sym (append-nil used); is_left = p.parts; kinds_are = p.kinds_are }
