-- A new element, where it was looked for.
use Rattle.std.proofs.Common.{◌≡◌, ◌≢◌, ℕ, zero, suc, ◌+◌, ◌-◌, ◌*◌, ◌<◌, ◌≤◌, inl, inr, List, [], ◌∷◌, length, drop, slice_index, Option, Some, None, IfNone, IsTrue, refl, sym, ap, ◌∙◌, subst, arith}
use Rattle.std.proofs.lemmas.List.{get_or_past}
use Rattle.ci_space.specs.declared.intervals.Shape.{Shape}
use Rattle.ci_space.specs.declared.head.Head.{Head}
use Rattle.ci_space.specs.Element.{Free}
use Rattle.ci_space.specs.Interval.{kind_of, HasUsed, IsInterval, OthersStay, is_size, empty_bytes}
use Rattle.ci_space.specs.Head.{head_of, ends_of}
use Rattle.ci_space.proofs.Tilings.{size-bounds}
use Rattle.ci_space.proofs.Standing.{used-stands}
use Rattle.ci_space.proofs.Empties.{tiled-tiles}
use Rattle.ci_overflow.specs.Places.{first_base, first_independent, uow_of}
use Rattle.ci_overflow.specs.Lists.{bytes_at, link_of, counted, first_free, IsChain, IsInOrder}
use Rattle.ci_overflow.specs.Rooms.{places, IsNext, IsFirstPlace, KeepsUsed, OnlyOneChanges, IsPut, TakesAt, IsTaken, AreTried, ChangesLink, ChangesEnds, KeepsEnds, KeepsButLink, KeepsKinds, KeepsRoots, Joins, JoinsFree, JoinsNew, TakesRoom, FindsRoom}
use Rattle.ci_overflow.specs.inside.Rooms.{JoinsNext}
use Rattle.ci_overflow.proofs.Joins.{base-before, keeps-head, root-zero, counted-put, first_free-put, link-known, kind-known}
use Rattle.ci_overflow.proofs.Tries.{option_some, option_none}
use Rattle.plain_laws.proofs.Numbers.{same_or_other}

pub used-same : (old new : List ℕ) → new ≡ old → KeepsUsed old new
used-same old new e = record {
  stay = λ place segment content u. rw (← e) at u;
  none_comes =
      λ place segment content u. rw e at u;
}

pub ends-same : (old new : List ℕ) → new ≡ old → KeepsEnds old new
ends-same old new e = record {
  begin = ap (λ xs. slice_index (ends_of xs) 0) e;
  end =
      ap (λ xs. slice_index (ends_of xs) 1) e;
  head = λ k x y. ap (λ (xs : List ℕ). slice_index xs k) e;
}

-- a head that changes at most in its link
head_but : (old new : Head) → new ≡ old → old ≡ (record old { link = new.link })
head_but old new e = ap (λ (l : ℕ). (let h : Head = record old { link = l } in h)) (sym (ap (λ (h : Head). h.link) e))

pub head_link : (old new : Head) (link : ℕ) → new ≡ (record old { link = link })
    → new ≡ (record old { link = new.link })
head_link old new link e = e ∙ ap (λ (l : ℕ). (let h : Head = record old { link = l } in h))
    (sym (ap (λ (h : Head). h.link) e))

pub but-link-same : (old new : List ℕ) → new ≡ old → KeepsButLink old new
but-link-same old new e = record {
  rest = ap (λ xs. drop 32 xs) e;
  head =
      ap head_of e ∙ head_but (head_of old) (head_of new) (ap head_of e);
}

-- a root anchor point that stays
pub root-same : (old new : List ℕ) → head_of new ≡ head_of old → (head_of new).root ≡ (head_of old).root
root-same old new e = ap (λ (h : Head). h.root) e

pub root_at : (old new : List (List ℕ)) (ci other : ℕ) → other ≡ ci
    → (head_of (bytes_at new ci)).root ≡ (head_of (bytes_at old ci)).root
    → (head_of (bytes_at new other)).root ≡ (head_of (bytes_at old other)).root
root_at old new ci other e h =
    let P : ℕ → Type 0 = λ d. (head_of (bytes_at new d)).root ≡ (head_of (bytes_at old d)).root in subst P (sym e) h

pub root-known : (bytes : List ℕ) (head : Head) → head_of bytes ≡ head → (head_of bytes).root ≡ head.root
root-known bytes head e = ap (λ (h : Head). h.root) e

-- an interval that stays one, of its kind
abbrev pub KindStays : List ℕ → List ℕ → Type 0
KindStays old new = IsInterval old → IsInterval new × (kind_of new ≡ kind_of old)

pub kind-same : (old new : List ℕ) → new ≡ old → KindStays old new
kind-same old new e i = (rw (← e) at i, ap kind_of e)

pub kind_where : (old new : List (List ℕ)) (ci other : ℕ) → other ≡ ci
    → KindStays (bytes_at old ci) (bytes_at new ci) → KindStays (bytes_at old other) (bytes_at new other)
kind_where old new ci other e h =
    let P : ℕ → Type 0 = λ d. KindStays (bytes_at old d) (bytes_at new d) in subst P (sym e) h

pub control-first : (shape : Shape) (area : List (List ℕ)) → IsInOrder shape area → kind_of (bytes_at area 0) ≡ 1
control-first shape area o = (o.in_place 0 (omega (arith, o.whole))).is_kind

-- an element of an interval that stands
pub taken-standing : (shape : Shape) (old new : List (List ℕ)) (anchor n : ℕ) (room : ℕ × ℕ) → room.0 ≢ 0
    → TakesAt old new room.0 n room.1 → TakesRoom shape old new anchor n room
taken-standing shape old new anchor n room z a = record {
  has_room = a.takes.room;
  exact = a.takes.exact;
  fresh = a.takes.fresh;
  others = record {
    here = a.takes.others;
    elsewhere =
        λ other h. used-same (bytes_at old other) (bytes_at new other) (a.others other h);
  };
  named = λ other _ _ h. a.others other h;
  ends = ends-same (bytes_at old 0) (bytes_at new 0) (a.others 0 (λ e. z (sym e)));
  base = λ h. but-link-same (bytes_at old (first_base shape (uow_of shape anchor)))
      (bytes_at new (first_base shape (uow_of shape anchor))) (a.others (first_base shape (uow_of shape anchor)) h);
  roots = λ other. elim (same_or_other other room.0) as (λ _. (head_of (bytes_at new other)).root ≡
      (head_of (bytes_at old other)).root) [
        | inl e ↦ root_at old new room.0 other e (root-same (bytes_at old room.0) (bytes_at new room.0)
            (keeps-head (bytes_at old room.0) (bytes_at new room.0) a.head))
        | inr h ↦ root-same (bytes_at old other) (bytes_at new other) (ap head_of (a.others other h))
      ];
  longer = omega (arith, a.same_number);
  kinds = λ other. elim (same_or_other other room.0) as (λ _. KindStays (bytes_at old other) (bytes_at new other)) [
    | inl e ↦ kind_where old new room.0 other e
        (λ _. (a.takes.is_interval, a.head 0 (omega arith) (omega arith)))
    | inr h ↦ kind-same (bytes_at old other) (bytes_at new other) (a.others other h)
  ];
  source = inl (record { below = a.below; head = a.head; others = a.others; same_number = a.same_number });
}

pub takes-standing : (shape : Shape) (old new : List (List ℕ)) (anchor n : ℕ) (o : Option (ℕ × ℕ)) (room : ℕ × ℕ)
    → o ≡ Some room → IsTaken old new n o → TakesRoom shape old new anchor n room
takes-standing shape old new anchor n o room e t =
    let h : (room.0 ≢ 0) × TakesAt old new room.0 n room.1 =
    option_some o room (λ room. (room.0 ≢ 0) × TakesAt old new room.0 n room.1) e t in
    taken-standing shape old new anchor n room h.0 h.1

-- a new element in the stated place
pub finds : (shape : Shape) (old new : List (List ℕ)) (anchor n : ℕ) (room : ℕ × ℕ)
    → IsFirstPlace shape old anchor n room.0 → TakesRoom shape old new anchor n room
    → FindsRoom shape old new anchor n room
finds shape old new anchor n room p t = record {
  place = p;
  has_room = t.has_room;
  exact = t.exact;
  fresh = t.fresh;
  others = t.others;
  named = t.named;
  ends = t.ends;
  base = t.base;
  roots = t.roots;
  longer = t.longer;
}

pub found-standing : (shape : Shape) (old new : List (List ℕ)) (anchor n : ℕ) (room : ℕ × ℕ) → IsInOrder shape old
    → uow_of shape anchor < shape.uows
    → ((shared : List ℕ) → IsChain old (link_of (bytes_at old (first_base shape (uow_of shape anchor)))) shared
    → AreTried old new (places shape anchor shared) n (Some room)) → FindsRoom shape old new anchor n room
found-standing shape old new anchor n room o u f =
    let shared : List ℕ = (o.listed.of_uow (uow_of shape anchor) u).list in
    let c : IsChain old (link_of (bytes_at old (first_base shape (uow_of shape anchor)))) shared =
    (o.listed.of_uow (uow_of shape anchor) u).is_list.chain in
    let t : AreTried old new (places shape anchor shared) n (Some room) = f shared c in
    let a : TakesAt old new room.0 n room.1 = t.some.1 in
    let z : room.0 ≢ 0 = λ e. a.is_in_use.is_no_control
    (ap (λ k. kind_of (bytes_at old k)) e ∙ control-first shape old o) in
    finds shape old new anchor n room (record { shared = shared; is_chain = c; is_first = inl t.some.0 })
    (taken-standing shape old new anchor n room z a)

-- nothing is used past the end of an area, nor in an empty interval
pub none_past : (bytes : List ℕ) (at segment : ℕ) (content : List ℕ) → bytes ≡ [] → HasUsed bytes at segment content → ⊥
none_past bytes at segment content e u =
    let b : (512 ≤ length bytes) × (length bytes ≤ 4096) = size-bounds (length bytes) u.tiles.size in
    let z : length bytes ≡ 0 = ap length e in
    omega (arith, b.0, z)

none_empty : (size at segment : ℕ) (content : List ℕ) → IsTrue (is_size size)
    → HasUsed (empty_bytes size 5) at segment content → ⊥
none_empty size at segment content s u =
    elim (used-stands (empty_bytes size 5) (Free (size - 32) ∷ []) at segment content (tiled-tiles size 5 s refl refl)
    u) as (λ _. ⊥) [
      | inl x ↦ (let e = x.1 in cc)
      | inr x ↦ x
    ]

-- an interval joins the list: what changes
pub record Changes (shape : Shape) (uow : ℕ) (old new : List (List ℕ)) (ci at number first : ℕ) : Type 0 where
  pub others : OnlyOneChanges old new ci at
  pub named : (other : ℕ) → other ≢ 0 → other ≢ first_base shape uow → other ≢ ci
      → bytes_at new other ≡ bytes_at old other
  pub ends : KeepsEnds (bytes_at old 0) (bytes_at new 0)
  pub base : KeepsButLink (bytes_at old (first_base shape uow)) (bytes_at new (first_base shape uow))
  pub roots : KeepsRoots old new
  pub kinds : KeepsKinds old new
  pub head : head_of (bytes_at new ci) ≡ (record {
    kind = 5;
    root = (0, 0);
    link =
        link_of (bytes_at old (first_base shape uow));
    owner = uow + 1;
  })
  pub leads : link_of (bytes_at new (first_base shape uow)) ≡ ci
  pub is_first_free : first_free new ≡ first
  pub is_counted : counted new ≡ number

pub changes : (shape : Shape) (uow ci n at number first : ℕ) (old g m new : List (List ℕ)) (control bytes : List ℕ)
    → uow < shape.uows → 0 < shape.base → first_independent shape ≤ ci
    → ((other : ℕ) → other ≢ ci → bytes_at g other ≡ bytes_at old other)
    → ChangesEnds (bytes_at old 0) control number first → IsPut g m 0 control → Joins shape uow m new ci bytes n at
    → OthersStay (bytes_at old ci) (bytes_at new ci) at → (head_of (bytes_at old ci)).root ≡ (0, 0)
    → (IsInterval (bytes_at old ci) → kind_of (bytes_at old ci) ≡ 5)
    → Changes shape uow old new ci at number first
changes shape uow ci n at number first old g m new control bytes u b l s e p j h r five =
    let behind : first_base shape uow < first_independent shape = base-before shape uow u b in
    let zf : 0 ≢ first_base shape uow = λ x. omega (arith, x) in
    let zc : 0 ≢ ci = λ x. omega (arith, x, l, behind) in
    let fz : first_base shape uow ≢ 0 = λ x. omega (arith, x) in
    let fc : first_base shape uow ≢ ci = λ x. omega (arith, x, l, behind) in
    let ez : bytes_at new 0 ≡ control = j.others 0 zf zc ∙ p.here in
    let mf : bytes_at m (first_base shape uow) ≡ bytes_at old (first_base shape uow) =
    p.others (first_base shape uow) fz ∙ s (first_base shape uow) fc in
    let k : ChangesLink (bytes_at old (first_base shape uow)) (bytes_at new (first_base shape uow)) ci =
    rw mf at j.first in
    let named : (other : ℕ) → other ≢ 0 → other ≢ first_base shape uow → other ≢ ci
    → bytes_at new other ≡ bytes_at old other = λ other x y z. j.others other y z ∙ p.others other x ∙ s other z in
    record {
      others = record {
        here = h;
        elsewhere = λ other x. elim (same_or_other other 0) as (λ _. KeepsUsed (bytes_at old other) (bytes_at new other)) [
          | inl y ↦ (let w : KeepsUsed (bytes_at old 0) (bytes_at new 0) = (rw (← ez) at e.used) in rw (← y) at w)
          | inr y ↦ elim (same_or_other other (first_base shape uow)) as
              (λ _. KeepsUsed (bytes_at old other) (bytes_at new other)) [
                | inl z ↦ (let P : ℕ → Type 0 = λ d. KeepsUsed (bytes_at old d) (bytes_at new d) in
                    subst P (sym z) k.used)
                | inr z ↦ used-same (bytes_at old other) (bytes_at new other) (named other y z x)
              ]
        ];
      };
      named = named;
      ends = record {
        begin = ap (λ xs. slice_index (ends_of xs) 0) ez ∙ ap (λ (xs : List ℕ). slice_index xs 0) e.ends;
        end = ap (λ xs. slice_index (ends_of xs) 1) ez ∙ ap (λ (xs : List ℕ). slice_index xs 1) e.ends;
        head = rw (← ez) at e.head;
      };
      base = record {
        rest = k.rest;
        head = head_link (head_of (bytes_at old (first_base shape uow)))
            (head_of (bytes_at new (first_base shape uow))) ci k.head;
      };
      roots = λ other. elim (same_or_other other 0) as (λ _. (head_of (bytes_at new other)).root ≡
          (head_of (bytes_at old other)).root) [
            | inl y ↦ root_at old new 0 other y (root-same (bytes_at old 0) (bytes_at new 0)
                (ap head_of ez ∙ keeps-head (bytes_at old 0) control e.head))
            | inr y ↦ elim (same_or_other other (first_base shape uow)) as
                (λ _. (head_of (bytes_at new other)).root ≡ (head_of (bytes_at old other)).root) [
                  | inl z ↦ root_at old new (first_base shape uow) other z
                      (root-known (bytes_at new (first_base shape uow)) _ k.head)
                  | inr z ↦ elim (same_or_other other ci) as (λ _. (head_of (bytes_at new other)).root ≡
                      (head_of (bytes_at old other)).root) [
                        | inl x ↦ root_at old new ci other x (root-known (bytes_at new ci) _ j.head ∙ sym r)
                        | inr x ↦ root-same (bytes_at old other) (bytes_at new other) (ap head_of (named other y z x))
                      ]
                ]
          ];
      kinds = λ other. elim (same_or_other other 0) as (λ _. KindStays (bytes_at old other) (bytes_at new other)) [
        | inl y ↦ kind_where old new 0 other y
            (λ _. (rw (← ez) at e.is_interval, ap kind_of ez ∙ e.head 0 (omega arith) (omega arith)))
        | inr y ↦ elim (same_or_other other (first_base shape uow)) as
            (λ _. KindStays (bytes_at old other) (bytes_at new other)) [
              | inl z ↦ kind_where old new (first_base shape uow) other z
                  (λ _. (k.is_interval, kind-known (bytes_at new (first_base shape uow)) _ k.head))
              | inr z ↦ elim (same_or_other other ci) as (λ _. KindStays (bytes_at old other) (bytes_at new other)) [
                | inl x ↦ kind_where old new ci other x
                    (λ i. (j.takes.is_interval, kind-known (bytes_at new ci) _ j.head ∙ sym (five i)))
                | inr x ↦ kind-same (bytes_at old other) (bytes_at new other) (named other y z x)
              ]
            ]
      ];
      head = rw mf at j.head;
      leads = link-known (bytes_at new (first_base shape uow)) _ k.head;
      is_first_free = first_free-put new control (bytes_at old 0) number first ez e;
      is_counted = counted-put new control (bytes_at old 0) number first ez e;
    }

taken_free : (shape : Shape) (old new : List (List ℕ)) (anchor n : ℕ) (room : ℕ × ℕ) → uow_of shape anchor < shape.uows
    → 0 < shape.base → JoinsFree shape (uow_of shape anchor) old new n room → TakesRoom shape old new anchor n room
taken_free shape old new anchor n room u b j =
    let r : (head_of (bytes_at old room.0)).root ≡ (0, 0) =
    root-zero (bytes_at old room.0) j.is_empty.head (λ e. omega (arith, j.is_kind, e)) in
    let w : Changes shape (uow_of shape anchor) old new room.0 room.1 (counted old) (link_of (bytes_at old room.0)) =
    changes shape (uow_of shape anchor) room.0 n room.1 _ _ old old j.middle new j.control _ u b j.from
    (λ other x. refl) j.ends j.put j.joins j.joins.takes.others r (λ _. j.is_kind) in
    let behind : first_base shape (uow_of shape anchor) < first_independent shape =
    base-before shape (uow_of shape anchor) u b in
    let some : first_free old ≢ 0 = λ e. omega (arith, j.is_first, j.from, behind, e) in
    record {
      has_room = j.joins.takes.room;
      exact = j.joins.takes.exact;
      fresh = j.joins.takes.fresh;
      others = w.others;
      named = w.named;
      ends = w.ends;
      base = λ _. w.base;
      roots = w.roots;
      longer = omega (arith, j.joins.same_number, j.put.same_number);
      kinds = w.kinds;
      source = inr (record {
        is_next = inl ((λ e. some (sym j.is_first ∙ e)), j.is_first);
        head = w.head;
        leads = w.leads;
        from_free = λ _. (w.is_first_free, w.is_counted, j.joins.same_number ∙ j.put.same_number);
        from_end = λ z. absurd (some z);
      });
    }

no_interval_past : (bytes : List ℕ) → bytes ≡ [] → IsInterval bytes → ⊥
no_interval_past bytes e i =
    let b : (512 ≤ length bytes) × (length bytes ≤ 4096) = size-bounds (length bytes) i.tiles.size in
    let z : length bytes ≡ 0 = ap length e in
    omega (arith, b.0, z)

taken_new : (shape : Shape) (old new : List (List ℕ)) (anchor n : ℕ) (room : ℕ × ℕ) → uow_of shape anchor < shape.uows
    → 0 < shape.base → first_free old ≡ 0 → JoinsNew shape (uow_of shape anchor) old new n room
    → TakesRoom shape old new anchor n room
taken_new shape old new anchor n room u b none j =
    let past : bytes_at old room.0 ≡ [] = get_or_past old room.0 [] (omega (arith, j.is_last)) in
    let h : OthersStay (bytes_at old room.0) (bytes_at new room.0) room.1 = record {
      stay = λ place segment content _ x. absurd (none_past (bytes_at old room.0) place segment content past x);
      none_comes = λ place segment content y x. absurd
          (none_empty j.size place segment content j.is_size
          (j.joins.takes.others.none_comes place segment content y x));
    } in
    let s : (other : ℕ) → other ≢ room.0 → bytes_at j.grown other ≡ bytes_at old other =
    λ other x. j.grows.others other (λ e. x (e ∙ sym j.is_last)) in
    let w : Changes shape (uow_of shape anchor) old new room.0 room.1 (counted old + 1) (first_free old) =
    changes shape (uow_of shape anchor) room.0 n room.1 _ _ old j.grown j.middle new j.control _ u b j.from s j.ends
    j.put j.joins h (ap (λ (xs : List ℕ). (head_of xs).root) past)
    (λ i. absurd (no_interval_past (bytes_at old room.0) past i)) in
    record {
      has_room = j.joins.takes.room;
      exact = j.joins.takes.exact;
      fresh = λ x. none_past (bytes_at old room.0) room.1 x.segment x.content past x.used;
      others = w.others;
      named = w.named;
      ends = w.ends;
      base = λ _. w.base;
      roots = w.roots;
      longer = omega (arith, j.joins.same_number, j.put.same_number, j.grows.one_more);
      kinds = w.kinds;
      source = inr (record {
        is_next = inr (none, j.is_last);
        head = w.head;
        leads = w.leads;
        from_free = λ some. absurd (some none);
        from_end = λ z. (
          w.is_first_free ∙ z,
          w.is_counted,
          j.joins.same_number ∙ j.put.same_number ∙ j.grows.one_more,
        );
      });
    }

pub taken-next : (shape : Shape) (old new : List (List ℕ)) (anchor n : ℕ) (room : ℕ × ℕ)
    → uow_of shape anchor < shape.uows → 0 < shape.base → JoinsNext shape (uow_of shape anchor) old new n room
    → TakesRoom shape old new anchor n room
taken-next shape old new anchor n room u b j = elim (same_or_other (first_free old) 0) as
    (λ _. TakesRoom shape old new anchor n room) [
      | inl z ↦ taken_new shape old new anchor n room u b z (j.from_end z)
      | inr z ↦ taken_free shape old new anchor n room u b (j.from_free z)
    ]

is_next : (shape : Shape) (uow : ℕ) (old new : List (List ℕ)) (n : ℕ) (room : ℕ × ℕ)
    → JoinsNext shape uow old new n room → IsNext old room.0
is_next shape uow old new n room j = elim (same_or_other (first_free old) 0) as (λ _. IsNext old room.0) [
  | inl z ↦ inr (z, (j.from_end z).is_last)
  | inr z ↦ inl ((λ e. z (sym (j.from_free z).is_first ∙ e)), (j.from_free z).is_first)
]

pub found-next : (shape : Shape) (old m new : List (List ℕ)) (anchor n : ℕ) (room : ℕ × ℕ) → IsInOrder shape old
    → uow_of shape anchor < shape.uows → 0 < shape.base
    → ((shared : List ℕ) → IsChain old (link_of (bytes_at old (first_base shape (uow_of shape anchor)))) shared
    → AreTried old m (places shape anchor shared) n None)
    → JoinsNext shape (uow_of shape anchor) m new n room → FindsRoom shape old new anchor n room
found-next shape old m new anchor n room o u b f j =
    let shared : List ℕ = (o.listed.of_uow (uow_of shape anchor) u).list in
    let c : IsChain old (link_of (bytes_at old (first_base shape (uow_of shape anchor)))) shared =
    (o.listed.of_uow (uow_of shape anchor) u).is_list.chain in
    let t : AreTried old m (places shape anchor shared) n None = f shared c in
    let e : m ≡ old = t.none.1 in
    let k : JoinsNext shape (uow_of shape anchor) old new n room = rw e at j in
    finds shape old new anchor n room (record {
      shared = shared;
      is_chain = c;
      is_first =
          inr (t.none.0, is_next shape (uow_of shape anchor) old new n room k);
    })
    (taken-next shape old new anchor n room u b k)

pub takes-next : (shape : Shape) (old m new : List (List ℕ)) (anchor n uow : ℕ) (o : Option (ℕ × ℕ)) (room : ℕ × ℕ)
    → uow ≡ uow_of shape anchor → uow < shape.uows → 0 < shape.base → o ≡ None → IfNone o (m ≡ old)
    → JoinsNext shape uow m new n room → TakesRoom shape old new anchor n room
takes-next shape old m new anchor n uow o room e u b s f j =
    let k : JoinsNext shape (uow_of shape anchor) old new n room = rw (e, option_none o (m ≡ old) s f) at j in
    taken-next shape old new anchor n room (rw e at u) b k

pub base-some : (a u b : ℕ) → a < u * b → 0 < b
base-some a u zero h = grind arith
base-some a u (suc b) h = omega arith

pub some_given : (shape : Shape) (old new : List (List ℕ)) (anchor n first : ℕ) (o : Option (ℕ × ℕ))
    (room : Option (ℕ × ℕ)) → o ≡ room
    → ((shared : List ℕ) → IsChain old first shared → AreTried old new (places shape anchor shared) n o)
    → (shared : List ℕ) → IsChain old first shared → AreTried old new (places shape anchor shared) n room
some_given shape old new anchor n first o room e f shared c =
    let P : Option (ℕ × ℕ) → Type 0 = λ x. AreTried old new (places shape anchor shared) n x in subst P e (f shared c)

pub finds-standing : (shape : Shape) (old new : List (List ℕ)) (anchor n uow : ℕ) (o : Option (ℕ × ℕ)) (room : ℕ × ℕ)
    → IsInOrder shape old → uow ≡ uow_of shape anchor → uow < shape.uows → o ≡ Some room
    → ((shared : List ℕ) → IsChain old (link_of (bytes_at old (first_base shape (uow_of shape anchor)))) shared
    → AreTried old new (places shape anchor shared) n o) → FindsRoom shape old new anchor n room
finds-standing shape old new anchor n uow o room i e u s f =
    found-standing shape old new anchor n room i (rw e at u)
    (some_given shape old new anchor n (link_of (bytes_at old (first_base shape (uow_of shape anchor)))) o
    (Some room) s f)

pub finds-next : (shape : Shape) (old m new : List (List ℕ)) (anchor n uow : ℕ) (o : Option (ℕ × ℕ)) (room : ℕ × ℕ)
    → IsInOrder shape old → uow ≡ uow_of shape anchor → uow < shape.uows → 0 < shape.base → o ≡ None
    → ((shared : List ℕ) → IsChain old (link_of (bytes_at old (first_base shape (uow_of shape anchor)))) shared
    → AreTried old m (places shape anchor shared) n o)
    → JoinsNext shape uow m new n room → FindsRoom shape old new anchor n room
finds-next shape old m new anchor n uow o room i e u b s f j =
    found-next shape old m new anchor n room i (rw e at u) b
    (some_given shape old m anchor n (link_of (bytes_at old (first_base shape (uow_of shape anchor)))) o None s f)
    (rw e at j)
