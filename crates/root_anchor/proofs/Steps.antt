-- What giving back an element, finding room and putting a segment exchange.
use Rattle.std.proofs.Common.{◌≡◌, ◌≢◌, ℕ, ◌+◌, ◌<◌, ◌≤◌, inl, inr, true, false, List, [], ◌∷◌, length, Contains, Option, Some, None, refl, sym, ap, ◌∙◌, subst, arith}
use Rattle.std.proofs.lemmas.List.{get_or_past}
use Rattle.std.proofs.lemmas.Bool.{cases_lt}
use Rattle.ci_space.specs.declared.intervals.Shape.{Shape}
use Rattle.ci_space.specs.Element.{Used}
use Rattle.ci_space.specs.Interval.{HasUsed, IsUsed, HasRoom, kind_of, has_elements}
use Rattle.ci_space.proofs.Tilings.{size-bounds, used-kind}
use Rattle.ci_overflow.specs.Places.{first_base, kind_at, uow_of}
use Rattle.ci_overflow.specs.Lists.{bytes_at, first_free, IsInOrder}
use Rattle.ci_overflow.specs.Rooms.{IsOwnRoom, OnlyOneChanges, TakesRoom}
use Rattle.ci_overflow.specs.Freed.{TakesBack, GivesBack}
use Rattle.ci_overflow.proofs.Finds.{base-some}
use Rattle.ci_overflow.proofs.FaultLemmas.{kind-base}
use Rattle.ci_space.specs.declared.head.Head.{Head}
use Rattle.fp_model.specs.declared.definitions.SegDef.{SegDef}
use Rattle.anchor_elements.specs.Elements.{Pointer, Segment, content_length}
use Rattle.anchor_elements.specs.Puts.{PutsSegment}
use Rattle.root_anchor.specs.inside.Rebuilding.{Exchanges, and_place, HaveRoom, TakesPlace}
use Rattle.root_anchor.proofs.Exchanging.{exchange-again}
use Rattle.root_anchor.specs.Chains.{anchor_count}
use Rattle.root_anchor.proofs.PutLemmas.{uow_below, put_keeps_order, put_keeps_head, put_keeps_kinds, put_keeps_sequential}
use Rattle.root_anchor.proofs.OwnLemmas.{room_keeps_own}
use Rattle.root_anchor.proofs.Apart.{contains-one}
use Rattle.anchor_elements.proofs.Pointers.{same_pointer}
use Rattle.plain_laws.proofs.Alls.{contains_first, contains_nothing}
use Rattle.plain_laws.proofs.Numbers.{same_or_other}

-- ---- where elements stand

pub used-below : (area : List (List ℕ)) (at : Pointer) → IsUsed (bytes_at area at.0) at.1 → at.0 < length area
used-below area at u = elim (cases_lt at.0 (length area)) as (λ _. at.0 < length area) [
  | inl l ↦ l
  | inr l ↦
      let e : bytes_at area at.0 ≡ [] = get_or_past area at.0 [] l in
      let b : (512 ≤ length (bytes_at area at.0)) × (length (bytes_at area at.0) ≤ 4096) =
      size-bounds (length (bytes_at area at.0)) u.used.tiles.size in
      let z : length (bytes_at area at.0) ≡ 0 = ap length e in
      absurd (omega (arith, b.0, z))
]

pub used-elements : (bytes : List ℕ) (at : ℕ) → IsUsed bytes at → has_elements (kind_of bytes) ≡ true
used-elements bytes at u = used-kind bytes u.used.before u.used.after (Used u.segment u.content) u.used.tiles

pub used-kind-at : (shape : Shape) (area : List (List ℕ)) (at : Pointer) → IsInOrder shape area → IsUsed (bytes_at area
    at.0) at.1 → has_elements (kind_at shape at.0) ≡ true
used-kind-at shape area at o u = ap has_elements (sym (o.in_place at.0 (used-below area at u)).is_kind) ∙ used-elements
    (bytes_at area at.0) at.1 u

pub used-not-sequential : (shape : Shape) (area : List (List ℕ)) (at : Pointer) (ci : ℕ) → IsInOrder shape area → IsUsed
    (bytes_at area at.0) at.1 → kind_at shape ci ≡ 4 → ci ≢ at.0
used-not-sequential shape area at ci o u k e =
    let h : has_elements 4 ≡ true = ap has_elements (sym k) ∙ ap (λ c. has_elements (kind_at shape c)) e ∙ used-kind-at
    shape area at o u in
    let f : false ≡ true = h in
    cc

-- a sequential interval is no base interval
base_not_sequential : (shape : Shape) (uow ci : ℕ) → uow < shape.uows → 0 < shape.base → kind_at shape ci ≡ 4
    → ci ≢ first_base shape uow
base_not_sequential shape uow ci u b k e =
    let z : first_base shape uow + 0 ≡ first_base shape uow = omega arith in
    omega (arith, k, ap (kind_at shape) e, ap (kind_at shape) z, kind-base shape uow 0 u b)

-- ---- elements that stay

pub one-stays : (old new : List (List ℕ)) (at p : Pointer) (type : ℕ) (content : List ℕ)
    → OnlyOneChanges old new at.0 at.1 → p ≢ at → HasUsed (bytes_at old p.0) p.1 type content
    → HasUsed (bytes_at new p.0) p.1 type content
one-stays old new at p type content o n h = elim (same_or_other p.0 at.0) as
    (λ _. HasUsed (bytes_at new p.0) p.1 type content) [
      | inl e ↦
          let P : ℕ → Type 0 = λ c. HasUsed (bytes_at old c) p.1 type content in
          let Q : ℕ → Type 0 = λ c. HasUsed (bytes_at new c) p.1 type content in
          subst Q (sym e) (o.here.stay p.1 type content (λ f. n (same_pointer p at e f)) (subst P e h))
      | inr d ↦ (o.elsewhere p.0 d).stay p.1 type content h
    ]

pub one-comes : (old new : List (List ℕ)) (at p : Pointer) (type : ℕ) (content : List ℕ)
    → OnlyOneChanges old new at.0 at.1 → p ≢ at → HasUsed (bytes_at new p.0) p.1 type content
    → HasUsed (bytes_at old p.0) p.1 type content
one-comes old new at p type content o n h = elim (same_or_other p.0 at.0) as
    (λ _. HasUsed (bytes_at old p.0) p.1 type content) [
      | inl e ↦
          let P : ℕ → Type 0 = λ c. HasUsed (bytes_at old c) p.1 type content in
          let Q : ℕ → Type 0 = λ c. HasUsed (bytes_at new c) p.1 type content in
          subst P (sym e) (o.here.none_comes p.1 type content (λ f. n (same_pointer p at e f)) (subst Q e h))
      | inr d ↦ (o.elsewhere p.0 d).none_comes p.1 type content h
    ]

is_at : (area : List (List ℕ)) (at p : Pointer) → p ≡ at → IsUsed (bytes_at area p.0) p.1
    → IsUsed (bytes_at area at.0) at.1
is_at area at p e u = let P : Pointer → Type 0 = λ q. IsUsed (bytes_at area q.0) q.1 in subst P e u

not_one : (at p : Pointer) → p ≢ at → ¬ Contains (at ∷ []) p
not_one at p n c = n (sym (contains-one at p c))

not_in : (at p : Pointer) → ¬ Contains (at ∷ []) p → p ≢ at
not_in at p n e = let P : Pointer → Type 0 = λ q. Contains (at ∷ []) q in n (subst P (sym e) (contains_first at []))

-- ---- the steps

pub gives-back : (shape : Shape) (old new : List (List ℕ)) (at : Pointer) → TakesBack shape old new at.0 at.1
    → (IsInOrder shape old → GivesBack shape old new at.0 at.1) → (IsInOrder shape old → IsInOrder shape new)
    → Exchanges shape old new (at ∷ []) []
gives-back shape old new at t g o = record {
  stay = λ p type content n h. one-stays old new at p type content t.others (not_in at p n) h;
  none_comes = λ p type content n h.
      let d : p ≢ at = λ e. t.gone (is_at new at p e (record { segment = type; content = content; used = h })) in
      (not_one at p d, one-comes old new at p type content t.others d h);
  fresh = λ p c. absurd (contains_nothing p c);
  used = λ p c. absurd (contains_nothing p c);
  once = tt;
  roots = t.roots;
  kinds = t.kinds;
  in_order = o;
  sequential = λ i. record { ends = (g i).ends; intervals = (g i).sequential };
}

pub finds-room : (shape : Shape) (old new : List (List ℕ)) (anchor n : ℕ) (room : Pointer)
    → TakesRoom shape old new anchor n room → (IsInOrder shape old → IsInOrder shape new)
    → uow_of shape anchor < shape.uows → 0 < shape.base → Exchanges shape old new [] (room ∷ [])
finds-room shape old new anchor n room f o u b =
    let used : IsUsed (bytes_at new room.0) room.1 = record {
      segment = f.has_room.segment;
      content =
          f.has_room.content;
      used = f.has_room.used;
    } in
    record {
      stay = λ p type content _ h. one-stays old new room p type content f.others
          (λ e. f.fresh (is_at old room p e (record { segment = type; content = content; used = h }))) h;
      none_comes = λ p type content m h. (
        contains_nothing p,
        one-comes old new room p type content f.others (not_in room p m) h,
      );
      fresh = λ p c. inr (λ x. f.fresh (is_at old room p (sym (contains-one room p c)) x));
      used = λ p c. is_at new p room (contains-one room p c) used;
      once = (contains_nothing room, tt);
      roots = f.roots;
      kinds = f.kinds;
      in_order = o;
      sequential = λ i. record {
        ends = f.ends;
        intervals = λ ci k.
            f.named ci (λ e. let h : 1 ≡ 4 = ap (kind_at shape) (sym e) ∙ k in cc)
            (base_not_sequential shape (uow_of shape anchor) ci u b k)
            (used-not-sequential shape new room ci (o i) used k);
      };
    }

pub puts-segment : (shape : Shape) (types : List SegDef) (old new : List (List ℕ)) (type : ℕ) (at : Pointer)
    (s : Segment) → PutsSegment types old new type at s → IsUsed (bytes_at old at.0) at.1
    → Exchanges shape old new (at ∷ []) (at ∷ [])
puts-segment shape types old new type at s p u = record {
  stay = λ q t content n h. one-stays old new at q t content p.others (not_in at q n) h;
  none_comes = λ q t content n h. (n, one-comes old new at q t content p.others (not_in at q n) h);
  fresh = λ q c. inl c;
  used = λ q c. is_at new q at (contains-one at q c)
      (record { segment = type; content = p.stands.content; used = p.stands.used });
  once = (contains_nothing at, tt);
  roots = λ ci. ap (λ (h : Head). h.root) (put_keeps_head types old new type at s p ci);
  kinds = put_keeps_kinds types old new type at s p;
  in_order = λ o. put_keeps_order shape types old new type at s o u p;
  sequential = λ o. put_keeps_sequential shape types old new type at s o u p;
}

-- ---- a place for a segment

pub keeps-place : (shape : Shape) (types : List SegDef) (area : List (List ℕ)) (anchor type : ℕ)
    (planned : Option Pointer) (at : Pointer) → planned ≡ Some at → HaveRoom types area type planned
    → TakesPlace shape types area area anchor type planned at
keeps-place shape types area anchor type planned at e h =
    let P : Option Pointer → Type 0 = HaveRoom types area type in
    let r : HasRoom (bytes_at area at.0) at.1 (content_length types type) = subst P e h in
    let Q : Option Pointer → Type 0 = λ p. TakesPlace shape types area area anchor type p at in
    subst Q (sym e) (record {
      exchange = record {
        stay = λ p t content n u. u;
        none_comes = λ p t content n u. (n, u);
        fresh = λ p c. inl c;
        used = λ p c. is_at area p at (contains-one at p c)
            (record { segment = r.segment; content = r.content; used = r.used });
        once = (contains_nothing at, tt);
        roots = λ ci. refl;
        kinds = λ ci i. (i, refl);
        in_order = λ o. o;
        sequential = λ o. record {
          ends = record { begin = refl; end = refl; head = λ k x y. refl };
          intervals =
              λ ci k. refl;
        };
      };
      room = r;
      own = inl refl;
      owned = λ ci o. o;
    })

pub finds-place : (shape : Shape) (types : List SegDef) (old new : List (List ℕ)) (type anchor n : ℕ)
    (planned : Option Pointer) (at : Pointer) → planned ≡ None → n ≡ content_length types type
    → TakesRoom shape old new anchor n at → (IsInOrder shape old → IsInOrder shape new)
    → IsOwnRoom shape new anchor at.0 → anchor < anchor_count shape
    → TakesPlace shape types old new anchor type planned at
finds-place shape types old new type anchor n planned at e m f o own b =
    let Q : Option Pointer → Type 0 = λ p. TakesPlace shape types old new anchor type p at in
    let R : ℕ → Type 0 = λ n. HasRoom (bytes_at new at.0) at.1 n in
    subst Q (sym e) (record {
      exchange = finds-room shape old new anchor n at f o (uow_below shape anchor b)
          (base-some anchor shape.uows shape.base b);
      room = subst R m f.has_room;
      own = inr own;
      owned = λ ci i. room_keeps_own shape old new anchor n ci at (uow_below shape anchor b)
          (base-some anchor shape.uows shape.base b) f i;
    })

-- a segment that is put into the place
pub put-there : (shape : Shape) (types : List SegDef) (old mid new : List (List ℕ)) (anchor type : ℕ)
    (planned : Option Pointer) (at : Pointer) (s : Segment) → TakesPlace shape types old mid anchor type planned at
    → PutsSegment types mid new type at s → Exchanges shape old new (and_place planned []) (at ∷ [])
put-there shape types old mid new anchor type planned at s t p =
    exchange-again shape old mid new (and_place planned []) (at ∷ []) (at ∷ []) t.exchange
    (puts-segment shape types mid new type at s p (record {
      segment = t.room.segment;
      content = t.room.content;
      used =
          t.room.used;
    }))

-- one interval more at most
pub takes-one : (shape : Shape) (old new : List (List ℕ)) (anchor n : ℕ) (room : Pointer)
    → TakesRoom shape old new anchor n room → length new ≤ length old + 1
takes-one shape old new anchor n room t = elim t.source as (λ _. length new ≤ length old + 1) [
  | inl k ↦ omega (arith, k.same_number)
  | inr j ↦ elim (same_or_other (first_free old) 0) as (λ _. length new ≤ length old + 1)
      [ inl z ↦ omega (arith, (j.from_end z).2) | inr z ↦ omega (arith, (j.from_free z).2) ]
]
