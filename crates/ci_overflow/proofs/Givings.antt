-- An element is given back: what changes, and that the lists stay in order.
use Rattle.std.proofs.Common.{◌≡◌, ◌≢◌, ℕ, ◌-◌, ◌<◌, ◌≤◌, ◌⊎◌, inl, inr, false, true, ◌+◌, List, [], ◌∷◌, length, slice_index, IsTrue, refl, sym, ap, ◌∙◌, subst, arith}
use Rattle.std.proofs.lemmas.Bool.{cases_lt}
use Rattle.ci_space.specs.declared.intervals.Shape.{Shape}
use Rattle.ci_space.specs.Element.{Free}
use Rattle.ci_space.specs.Interval.{kind_of, has_elements, HasUsed, IsUsed, IsInterval, IsEmpty, UsedIsFreed, OthersStay, Keeps}
use Rattle.ci_space.specs.Head.{head_of}
use Rattle.ci_space.proofs.Tilings.{used-kind}
use Rattle.ci_space.proofs.Standing.{used-stands}
use Rattle.ci_overflow.specs.Places.{first_base, first_independent, kind_at}
use Rattle.ci_overflow.specs.Lists.{bytes_at, link_of, counted, IsInOrder}
use Rattle.ci_overflow.specs.Rooms.{KeepsUsed, IsInUse, IsPut, KeepsButLink}
use Rattle.ci_overflow.specs.Freed.{BecomesEmpty, TakesBack, GivesBack}
use Rattle.ci_overflow.specs.inside.Moves.{Moves}
use Rattle.ci_overflow.proofs.Joins.{keeps-head, root-zero, kind-behind, counted-put, first_free-put, link-known, owner-known, kind-known}
use Rattle.ci_overflow.proofs.Finds.{used-same, ends-same, but-link-same, head_link, root-same, root_at, root-known, control-first, KindStays, kind-same, kind_where}
use Rattle.ci_overflow.proofs.Tries.{keeps-link}
use Rattle.ci_overflow.proofs.Orders.{counted-same, order-changed}
use Rattle.ci_overflow.proofs.FaultLemmas.{kind-base, kind-before}
use Rattle.plain_laws.proofs.Numbers.{same_or_other}

-- an element of an interval is freed
pub record FreesAt (old new : List ℕ) (at : ℕ) : Type 0 where
  pub was_used : IsUsed old at
  pub gone : ¬ IsUsed new at
  pub others : OthersStay old new at
  pub head : Keeps old new 0 32
  pub is_interval : IsInterval new

pub frees : (old given new : List ℕ) (at : ℕ) → given ≡ old → (u : IsUsed given at) → ¬ IsUsed new at
    → UsedIsFreed given new at → OthersStay given new at → Keeps given new 0 32 → FreesAt old new at
frees old given new at e u g f o k =
    let i : IsInterval new = record {
      elements = _;
      tiles =
          f u.used.before u.used.after u.segment u.content u.used.place u.used.tiles;
    } in
    let h : FreesAt given new at = record { was_used = u; gone = g; others = o; head = k; is_interval = i } in
    rw e at h

-- the kinds of an interval with a used element
not_elements : (kind : ℕ) → has_elements kind ≡ false → IsTrue (has_elements kind) → ⊥
not_elements kind e h = let f = rw e at h in let g : false ≡ true = f in cc

pub used-kinds : (bytes : List ℕ) (at : ℕ) → IsUsed bytes at → (kind_of bytes ≢ 1) × (kind_of bytes ≢ 4)
used-kinds bytes at u =
    let h : IsTrue (has_elements (kind_of bytes)) = used-kind bytes u.used.before u.used.after _ u.used.tiles in
    ((λ e. not_elements (kind_of bytes) (rw e refl) h), λ e. not_elements (kind_of bytes) (rw e refl) h)

pub empty-unused : (bytes : List ℕ) (at segment : ℕ) (content : List ℕ) → IsEmpty bytes
    → HasUsed bytes at segment content → ⊥
empty-unused bytes at segment content e u =
    elim (used-stands bytes (Free (length bytes - 32) ∷ []) at segment content e u) as (λ _. ⊥) [
      | inl x ↦ (let h = x.1 in cc)
      | inr x ↦ x
    ]

pub used-not_empty : (bytes : List ℕ) (at : ℕ) → IsUsed bytes at → IsEmpty bytes → ⊥
used-not_empty bytes at u e = empty-unused bytes at u.segment u.content e u.used

-- where it stands in an area in order
not_zero : (shape : Shape) (area : List (List ℕ)) (ci at : ℕ) → IsInOrder shape area → IsUsed (bytes_at area ci) at
    → 0 ≢ ci
not_zero shape area ci at o u e = (used-kinds (bytes_at area ci) at u).0
    (ap (λ k. kind_of (bytes_at area k)) (sym e) ∙ control-first shape area o)

behind : (shape : Shape) (area : List (List ℕ)) (ci : ℕ) → IsInOrder shape area → ci < length area
    → kind_of (bytes_at area ci) ≡ 5 → first_independent shape ≤ ci
behind shape area ci o b k = elim (cases_lt ci (first_independent shape)) as (λ _. first_independent shape ≤ ci) [
  | inl l ↦ absurd (kind-before shape ci l (sym (o.in_place ci b).is_kind ∙ k))
  | inr l ↦ l
]

used_in_use : (shape : Shape) (area : List (List ℕ)) (ci at : ℕ) → IsInOrder shape area → ci < length area
    → IsUsed (bytes_at area ci) at → IsInUse (bytes_at area ci)
used_in_use shape area ci at o b u = record {
  is_no_control = (used-kinds (bytes_at area ci) at u).0;
  is_owned = λ k z. used-not_empty (bytes_at area ci) at u
      (o.listed.empty ci (record { from = behind shape area ci o b k; below = b; owned = z }));
}

sequential_apart : (shape : Shape) (area : List (List ℕ)) (ci at other : ℕ) → IsInOrder shape area → ci < length area
    → IsUsed (bytes_at area ci) at → kind_at shape other ≡ 4 → other ≢ ci
sequential_apart shape area ci at other o b u k e =
    (used-kinds (bytes_at area ci) at u).1 ((o.in_place ci b).is_kind ∙ ap (kind_at shape) (sym e) ∙ k)

-- an element that is given back, in an area in order
pub given-back : (shape : Shape) (old new : List (List ℕ)) (ci at : ℕ) → IsInOrder shape old → ci < length old
    → TakesBack shape old new ci at → GivesBack shape old new ci at
given-back shape old new ci at o b t = record {
  was_used = t.was_used;
  gone = t.gone;
  others = t.others;
  freed = t.freed;
  kept = t.kept;
  named = t.named;
  links = t.links;
  ends = t.ends (λ e. not_zero shape old ci at o t.was_used (sym e));
  roots = t.roots;
  sequential = λ other k. t.sequential other (sequential_apart shape old ci at other o b t.was_used k) k;
  same_number = t.same_number;
}

-- an interval that stays where it is
module _ (shape : Shape) (old m new : List (List ℕ)) (ci at : ℕ) (interval : List ℕ) (e : m ≡ old)
    (f : FreesAt (bytes_at old ci) interval at) (p : IsPut m new ci interval) where
  put_others : (other : ℕ) → other ≢ ci → bytes_at new other ≡ bytes_at old other
  put_others other h = p.others other h ∙ ap (λ xs. bytes_at xs other) e

  put_frees : FreesAt (bytes_at old ci) (bytes_at new ci) at
  put_frees = rw p.here f

  pub order-alone : IsInOrder shape old → ci < length old → IsInOrder shape new
  order-alone o b = order-changed shape old new ci (control-first shape old o) o (record {
    below = b;
    is_in_use = used_in_use shape old ci at o b f.was_used;
    is_interval = put_frees.is_interval;
    head = put_frees.head;
    others = put_others;
    same_number = p.same_number ∙ ap length e;
  })

  pub taken-alone : ¬ BecomesEmpty (bytes_at old ci) interval → TakesBack shape old new ci at
  taken-alone n = record {
    was_used = f.was_used;
    gone = put_frees.gone;
    others = record {
      here = put_frees.others;
      elsewhere =
          λ other h. used-same (bytes_at old other) (bytes_at new other) (put_others other h);
    };
    freed = λ h. absurd (n (rw p.here at h));
    kept = λ _. record { head = put_frees.head; others = put_others };
    named = λ other _ h _. put_others other h;
    links = λ other _ h. but-link-same (bytes_at old other) (bytes_at new other) (put_others other h);
    ends = λ z. ends-same (bytes_at old 0) (bytes_at new 0) (put_others 0 (λ x. z (sym x)));
    roots = λ other. elim (same_or_other other ci) as (λ _. (head_of (bytes_at new other)).root ≡
        (head_of (bytes_at old other)).root) [
          | inl x ↦ root_at old new ci other x (root-same (bytes_at old ci) (bytes_at new ci)
              (keeps-head (bytes_at old ci) (bytes_at new ci) put_frees.head))
          | inr x ↦ root-same (bytes_at old other) (bytes_at new other) (ap head_of (put_others other x))
        ];
    sequential = λ other h k. put_others other h;
    same_number = p.same_number ∙ ap length e;
    kinds = λ other. elim (same_or_other other ci) as (λ _. KindStays (bytes_at old other) (bytes_at new other)) [
      | inl x ↦ kind_where old new ci other x
          (λ _. (put_frees.is_interval, put_frees.head 0 (omega arith) (omega arith)))
      | inr x ↦ kind-same (bytes_at old other) (bytes_at new other) (put_others other x)
    ];
    relinked = λ other _ h. inl (put_others other h);
    same_count = λ z. counted-same old new (put_others 0 (λ x. z (sym x)));
  }

-- an interval that moves to the free chain
others_used : (old middle new : List ℕ) (at : ℕ) → OthersStay old middle at → KeepsUsed middle new
    → OthersStay old new at
others_used old middle new at o k = record {
  stay = λ place segment content h u. k.stay place segment content (o.stay place segment content h u);
  none_comes = λ place segment content h u. o.none_comes place segment content h (k.none_comes place segment content u);
}

module _ (shape : Shape) (old new : List (List ℕ)) (ci at : ℕ) (interval : List ℕ)
    (f : FreesAt (bytes_at old ci) interval at)
    (five : kind_of (bytes_at old ci) ≡ 5) (v : Moves shape old new ci interval) where
  moved_named : (other : ℕ) → other ≢ 0 → other ≢ ci → link_of (bytes_at old other) ≢ ci
      → bytes_at new other ≡ bytes_at old other
  moved_named other z h l = v.others other z (λ y. l (ap (λ k. link_of (bytes_at old k)) y ∙ v.leads)) h

  moved_apart : (other : ℕ) → kind_at shape other ≡ 4 → other ≢ v.before
  moved_apart other k e = elim v.stands as (λ _. ⊥) [
    | inl x ↦ (let z : first_base shape v.uow ≡ first_base shape v.uow + 0 = omega arith in
        omega (arith, k, ap (kind_at shape) (e ∙ x ∙ z), kind-base shape v.uow 0 v.is_uow v.has_base))
    | inr x ↦ omega (arith, k, ap (kind_at shape) e, kind-behind shape v.before x.from)
  ]

  pub taken-moved : TakesBack shape old new ci at
  taken-moved = record {
    was_used = f.was_used;
    gone = λ u. used-not_empty (bytes_at new ci) at u v.is_empty;
    others = record {
      here = others_used (bytes_at old ci) interval (bytes_at new ci) at f.others v.used;
      elsewhere = λ other h. elim (same_or_other other 0) as (λ _. KeepsUsed (bytes_at old other) (bytes_at new other)) [
        | inl y ↦ (let P : ℕ → Type 0 = λ d. KeepsUsed (bytes_at old d) (bytes_at new d) in subst P (sym y) v.ends.used)
        | inr y ↦ elim (same_or_other other v.before) as (λ _. KeepsUsed (bytes_at old other) (bytes_at new other)) [
          | inl z ↦ (let P : ℕ → Type 0 = λ d. KeepsUsed (bytes_at old d) (bytes_at new d) in
              subst P (sym z) v.link.used)
          | inr z ↦ used-same (bytes_at old other) (bytes_at new other) (v.others other y z h)
        ]
      ];
    };
    freed = λ _. record {
      is_first = first_free-put new (bytes_at new 0) (bytes_at old 0) (counted old) ci refl v.ends;
      next = link-known (bytes_at new ci) _ v.head;
      no_owner = owner-known (bytes_at new ci) _ v.head;
    };
    kept = λ n. absurd (n (record { is_independent = five; is_empty = v.is_empty }));
    named = moved_named;
    links = λ other z h. elim (same_or_other other v.before)
        as (λ _. KeepsButLink (bytes_at old other) (bytes_at new other)) [
          | inl y ↦ (let P : ℕ → Type 0 = λ d. KeepsButLink (bytes_at old d) (bytes_at new d) in
              subst P (sym y) (record {
                rest = v.link.rest;
                head =
                    head_link (head_of (bytes_at old v.before)) (head_of (bytes_at new v.before)) (link_of interval)
                    v.link.head;
              }))
          | inr y ↦ but-link-same (bytes_at old other) (bytes_at new other) (v.others other z y h)
        ];
    ends = λ _. record {
      begin = ap (λ (xs : List ℕ). slice_index xs 0) v.ends.ends;
      end = ap (λ (xs : List ℕ). slice_index xs 1) v.ends.ends;
      head = v.ends.head;
    };
    roots = λ other. elim (same_or_other other 0) as (λ _. (head_of (bytes_at new other)).root ≡
        (head_of (bytes_at old other)).root) [
          | inl y ↦ root_at old new 0 other y (root-same (bytes_at old 0) (bytes_at new 0)
              (keeps-head (bytes_at old 0) (bytes_at new 0) v.ends.head))
          | inr y ↦ elim (same_or_other other v.before) as (λ _. (head_of (bytes_at new other)).root ≡
              (head_of (bytes_at old other)).root) [
                | inl z ↦ root_at old new v.before other z (root-known (bytes_at new v.before) _ v.link.head)
                | inr z ↦ elim (same_or_other other ci) as (λ _. (head_of (bytes_at new other)).root ≡
                    (head_of (bytes_at old other)).root) [
                      | inl x ↦ root_at old new ci other x
                          (root-known (bytes_at new ci) _ v.head ∙ sym
                          (root-zero (bytes_at old ci) f.was_used.used.tiles.head (λ h. omega (arith, five, h))))
                      | inr x ↦ root-same (bytes_at old other) (bytes_at new other) (ap head_of (v.others other y z x))
                    ]
              ]
        ];
    sequential = λ other h k. v.others other (λ z. omega (arith, sym k ∙ ap (kind_at shape) z)) (moved_apart other k) h;
    same_number = v.same_number;
    kinds = λ other. elim (same_or_other other 0) as (λ _. KindStays (bytes_at old other) (bytes_at new other)) [
      | inl y ↦ kind_where old new 0 other y
          (λ _. (v.ends.is_interval, v.ends.head 0 (omega arith) (omega arith)))
      | inr y ↦ elim (same_or_other other v.before) as (λ _. KindStays (bytes_at old other) (bytes_at new other)) [
        | inl z ↦ kind_where old new v.before other z
            (λ _. (v.link.is_interval, kind-known (bytes_at new v.before) _ v.link.head))
        | inr z ↦ elim (same_or_other other ci) as (λ _. KindStays (bytes_at old other) (bytes_at new other)) [
          | inl x ↦ kind_where old new ci other x (λ _. (
            record { elements = _; tiles = v.is_empty },
            kind-known (bytes_at new ci) _ v.head ∙ sym five,
          ))
          | inr x ↦ kind-same (bytes_at old other) (bytes_at new other) (v.others other y z x)
        ]
      ]
    ];
    relinked = λ other y x. elim (same_or_other other v.before) as (λ _. (bytes_at new other ≡ bytes_at old other)
        ⊎ (link_of (bytes_at new other) ≡ link_of (bytes_at old ci))) [
          | inl z ↦ inr (ap (λ k. link_of (bytes_at new k)) z ∙ link-known (bytes_at new v.before) _ v.link.head
              ∙ keeps-link (bytes_at old ci) interval f.head)
          | inr z ↦ inl (v.others other y z x)
        ];
    same_count = λ _. counted-put new (bytes_at new 0) (bytes_at old 0) (counted old) ci refl v.ends;
  }
