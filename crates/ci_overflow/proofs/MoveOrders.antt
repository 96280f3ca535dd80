-- An interval leaves its list for the free chain: the lists stay in order.
use Rattle.std.proofs.Common.{◌≡◌, ◌≢◌, ℕ, ◌+◌, ◌<◌, ◌≤◌, inl, inr, List, [], ◌∷◌, length, refl, sym, ap, ◌∙◌, subst, arith}
use Rattle.ci_space.specs.declared.intervals.Shape.{Shape}
use Rattle.ci_space.specs.declared.head.Head.{Head}
use Rattle.ci_space.specs.Interval.{kind_of, IsEmpty, Keeps}
use Rattle.ci_overflow.specs.Places.{first_base, first_independent}
use Rattle.ci_overflow.specs.Lists.{bytes_at, link_of, owner_of, counted, first_free, IsChain, Holds, IsOnce, IsOwned, IsListOf, HasList, IsInPlace, IsInOrder}
use Rattle.ci_overflow.specs.Rooms.{ChangesLink}
use Rattle.ci_overflow.specs.inside.Moves.{Moves}
use Rattle.ci_overflow.proofs.Tries.{keeps-link, keeps-owner}
use Rattle.ci_overflow.proofs.Joins.{base-before, kind-behind, counted-put, first_free-put, link-known, owner-known, kind-known}
use Rattle.ci_overflow.proofs.Orders.{chain-keeps, list-stays, list-joined, list-left, bases-apart}
use Rattle.ci_overflow.proofs.FaultLemmas.{next-held, keeps-kind}
use Rattle.plain_laws.proofs.Numbers.{same_or_other}

-- a list without the interval that one of its intervals leads to
record IsRemoved (new : List (List ℕ)) (first ci : ℕ) (list rest : List ℕ) : Type 0 where
  pub chain : IsChain new first rest
  pub once : IsOnce rest
  pub held : (k : ℕ) → Holds rest k → Holds list k × (k ≢ ci)
  pub holds : (k : ℕ) → Holds list k → k ≢ ci → Holds rest k

module _ (old new : List (List ℕ)) (before ci : ℕ) (z : ci ≢ 0) (apart : before ≢ ci)
    (leads : link_of (bytes_at old before) ≡ ci) (now : link_of (bytes_at new before) ≡ link_of (bytes_at old ci)) where
  -- the one behind it comes next
  removed_next : (first : ℕ) (rest : List ℕ) → IsChain old first (before ∷ rest) → IsOnce (before ∷ rest)
      → ((k : ℕ) → Holds rest k → k ≢ before → k ≢ ci → link_of (bytes_at new k) ≡ link_of (bytes_at old k))
      → (left : List ℕ) × IsRemoved new first ci (before ∷ rest) left
  removed_next first [] c o k = absurd (z (sym leads ∙ c.2))
  removed_next first (y ∷ rest) c o k =
      let e : y ≡ ci = sym c.2.0 ∙ leads in
      let behind : (x : ℕ) → Holds rest x → (x ≢ before) × (x ≢ ci) = λ x h. (
        (λ d. o.0 (inr (let P : ℕ → Type 0 = λ d. Holds rest d in subst P d h))),
        λ d. o.1.0 (let P : ℕ → Type 0 = λ d. Holds rest d in subst P (d ∙ sym e) h),
      ) in
      let d : IsChain old (link_of (bytes_at old ci)) rest = rw e at c.2.2 in
      let f : IsChain new (link_of (bytes_at old ci)) rest =
      chain-keeps old new rest (link_of (bytes_at old ci)) (λ x h. k x (inr h) (behind x h).0 (behind x h).1) d in (
        before ∷ rest,
        record {
          chain = (c.0, c.1, rw (← now) at f);
          once = ((λ h. o.0 (inr h)), o.1.1);
          held = λ x h. elim h as (λ _. Holds (before ∷ y ∷ rest) x × (x ≢ ci))
              [ inl g ↦ (inl g, λ i. apart (g ∙ i)) | inr g ↦ (inr (inr g), (behind x g).1) ];
          holds = λ x h n. elim h as (λ _. Holds (before ∷ rest) x) [
            | inl g ↦ inl g
            | inr (inl g) ↦ absurd (n (sym g ∙ e))
            | inr (inr g) ↦ inr g
          ];
        },
      )

  -- the first of the list isn't the one that is removed
  not_first : (first : ℕ) (list : List ℕ) → IsChain old first list → IsOnce list → Holds list before → first ≢ ci
  not_first first [] c o h e = h
  not_first first (x ∷ rest) c o (inl h) e = apart (sym h ∙ sym c.0 ∙ e)
  not_first first (x ∷ rest) c o (inr h) e =
      let some : link_of (bytes_at old before) ≢ 0 = λ y. z (sym leads ∙ y) in
      let n : Holds rest (link_of (bytes_at old before)) =
      next-held old (link_of (bytes_at old x)) before rest c.2 h some in
      o.0 (let P : ℕ → Type 0 = λ d. Holds rest d in subst P (leads ∙ sym e ∙ c.0) n)

  removed : (first : ℕ) (list : List ℕ) → IsChain old first list → IsOnce list → Holds list before
      → ((k : ℕ) → Holds list k → k ≢ before → k ≢ ci → link_of (bytes_at new k) ≡ link_of (bytes_at old k))
      → (left : List ℕ) × IsRemoved new first ci list left
  removed first [] c o h k = absurd h
  removed first (x ∷ rest) c o h k = elim (same_or_other before x) as
      (λ _. (left : List ℕ) × IsRemoved new first ci (x ∷ rest) left) [
        | inl e ↦ (let P : ℕ → Type 0 = λ d. IsChain old first (d ∷ rest) in
            let Q : ℕ → Type 0 = λ d. IsOnce (d ∷ rest) in
            let R : ℕ → Type 0 = λ d. (left : List ℕ) × IsRemoved new first ci (d ∷ rest) left in
            subst R e (removed_next first rest (subst P (sym e) c) (subst Q (sym e) o) (λ y g. k y (inr g))))
        | inr n ↦
            (let g : Holds rest before = elim h as (λ _. Holds rest before) [ inl y ↦ absurd (n (sym y)) | inr y ↦ y ]
            in
            let f : first ≢ ci = not_first first (x ∷ rest) c o h in
            let m : x ≢ ci = λ y. f (c.0 ∙ y) in
            let r : (left : List ℕ) × IsRemoved new (link_of (bytes_at old x)) ci rest left =
            removed (link_of (bytes_at old x)) rest c.2 o.1 g (λ y i. k y (inr i)) in
            let e : link_of (bytes_at new x) ≡ link_of (bytes_at old x) = k x (inl refl) (λ y. n (sym y)) m in (
              x ∷ r.0,
              record {
                chain = (c.0, c.1, rw e r.1.chain);
                once = ((λ i. o.0 (r.1.held x i).0), r.1.once);
                held = λ y i. elim i as (λ _. Holds (x ∷ rest) y × (y ≢ ci))
                    [ inl j ↦ (inl j, λ q. m (j ∙ q)) | inr j ↦ (inr (r.1.held y j).0, (r.1.held y j).1) ];
                holds = λ y i q. elim i as (λ _. Holds (x ∷ r.0) y) [ inl j ↦ inl j | inr j ↦ inr (r.1.holds y j q) ];
              },
            ))
      ]

-- the list of a unit of work without it
list-removed : (shape : Shape) (old new : List (List ℕ)) (owner first before ci : ℕ) (list : List ℕ) → ci ≢ 0
    → before ≢ ci → link_of (bytes_at old before) ≡ ci → link_of (bytes_at new before) ≡ link_of (bytes_at old ci)
    → IsOwned shape old owner before → ¬ IsOwned shape new owner ci
    → ((k : ℕ) → k ≢ ci → IsOwned shape old owner k → IsOwned shape new owner k)
    → ((k : ℕ) → IsOwned shape new owner k → IsOwned shape old owner k)
    → ((k : ℕ) → k ≢ before → k ≢ ci → IsOwned shape old owner k → link_of (bytes_at new k) ≡ link_of (bytes_at old k))
    → IsListOf shape old owner first list → HasList shape new owner first
list-removed shape old new owner first before ci list z a leads now b n f g k l =
    let r : (left : List ℕ) × IsRemoved new first ci list left =
    removed old new before ci z a leads now first list l.chain l.once (l.each before b)
    (λ x h i j. k x i j (l.owned x h)) in
    record {
      list = r.0;
      is_list = record {
        chain = r.1.chain;
        once = r.1.once;
        owned = λ x h. f x (r.1.held x h).1 (l.owned x (r.1.held x h).0);
        each = λ x o. r.1.holds x (l.each x (g x o))
            (λ y. n (let P : ℕ → Type 0 = λ d. IsOwned shape new owner d in subst P y o));
      };
    }

-- a head whose link changes
same-owner : (old new : List ℕ) (link : ℕ) → ChangesLink old new link → owner_of new ≡ owner_of old
unfolding owner_of
same-owner old new link c = ap (λ (h : Head). h.owner) c.head

same-kind : (old new : List ℕ) (link : ℕ) → ChangesLink old new link → kind_of new ≡ kind_of old
same-kind old new link c = ap (λ (h : Head). h.kind) c.head

module _ (shape : Shape) (old new : List (List ℕ)) (ci : ℕ) (interval : List ℕ) (o : IsInOrder shape old)
    (b : ci < length old) (hd : Keeps (bytes_at old ci) interval 0 32) (v : Moves shape old new ci interval) where
  was : IsOwned shape old (v.uow + 1) ci
  was = record { from = v.from; below = b; owned = sym (keeps-owner (bytes_at old ci) interval hd) ∙ v.owner }

  some : ci ≢ 0
  some e = omega (arith, v.from, e)

  base_front : first_base shape v.uow < first_independent shape
  base_front = base-before shape v.uow v.is_uow v.has_base

  before_some : v.before ≢ 0
  before_some e = elim v.stands as (λ _. ⊥) [ inl x ↦ omega (arith, x, e) | inr x ↦ omega (arith, x.from, e) ]

  before_below : v.before < length old
  before_below = elim v.stands as (λ _. v.before < length old)
      [ inl x ↦ omega (arith, x, v.base_below) | inr x ↦ x.below ]

  owner_now : owner_of (bytes_at new ci) ≡ 0
  owner_now = owner-known (bytes_at new ci) _ v.head

  owner_same : (k : ℕ) → first_independent shape ≤ k → k ≢ ci → owner_of (bytes_at new k) ≡ owner_of (bytes_at old k)
  owner_same k l n = elim (same_or_other k v.before) as (λ _. owner_of (bytes_at new k) ≡ owner_of (bytes_at old k)) [
    | inl e ↦ (let P : ℕ → Type 0 = λ d. owner_of (bytes_at new d) ≡ owner_of (bytes_at old d) in
        subst P (sym e) (same-owner (bytes_at old v.before) (bytes_at new v.before) (link_of interval) v.link))
    | inr m ↦ ap owner_of (v.others k (λ e. omega (arith, l, e)) m n)
  ]

  stays : (w k : ℕ) → k ≢ ci → IsOwned shape old w k → IsOwned shape new w k
  stays w k n x = record {
    from = x.from;
    below = omega (arith, x.below, v.same_number);
    owned =
        owner_same k x.from n ∙ x.owned;
  }

  stood : (w k : ℕ) → k ≢ ci → IsOwned shape new w k → IsOwned shape old w k
  stood w k n x = record {
    from = x.from;
    below = omega (arith, x.below, v.same_number);
    owned =
        sym (owner_same k x.from n) ∙ x.owned;
  }

  -- in a unit of work's list it is no more, and in no other was it before
  gone : (w k : ℕ) → IsOwned shape new (w + 1) k → k ≢ ci
  gone w k x e = omega (arith, x.owned, owner_now, ap (λ d. owner_of (bytes_at new d)) e)

  never : (w k : ℕ) → w ≢ v.uow + 1 → IsOwned shape old w k → k ≢ ci
  never w k n x e = n (sym x.owned ∙ ap (λ d. owner_of (bytes_at old d)) e ∙ was.owned)

  link_same : (w k : ℕ) → k ≢ v.before → k ≢ ci → IsOwned shape old w k
      → link_of (bytes_at new k) ≡ link_of (bytes_at old k)
  link_same w k m n x = ap link_of (v.others k (λ e. omega (arith, x.from, e)) m n)

  never_before : (w k : ℕ) → w ≢ v.uow + 1 → IsOwned shape old w k → k ≢ v.before
  never_before w k n x e = elim v.stands as (λ _. ⊥) [
    | inl y ↦ omega (arith, x.from, e, y, base_front)
    | inr y ↦ n (sym x.owned ∙ ap (λ d. owner_of (bytes_at old d)) e ∙ y.owned)
  ]

  next_now : link_of (bytes_at new v.before) ≡ link_of (bytes_at old ci)
  next_now = link-known (bytes_at new v.before) _ v.link.head ∙ keeps-link (bytes_at old ci) interval hd

  list_here : HasList shape new (v.uow + 1) (link_of (bytes_at new (first_base shape v.uow)))
  list_here =
      let h : HasList shape old (v.uow + 1) (link_of (bytes_at old (first_base shape v.uow))) =
      o.listed.of_uow v.uow v.is_uow in
      elim v.stands as (λ _. HasList shape new (v.uow + 1) (link_of (bytes_at new (first_base shape v.uow)))) [
        | inl e ↦
            (let leads : link_of (bytes_at old (first_base shape v.uow)) ≡ ci =
            ap (λ d. link_of (bytes_at old d)) (sym e) ∙ v.leads in
            let now : link_of (bytes_at new (first_base shape v.uow)) ≡ link_of (bytes_at old ci) =
            ap (λ d. link_of (bytes_at new d)) (sym e) ∙ next_now in
            let l : IsListOf shape old (v.uow + 1) ci h.list = rw leads at h.is_list in
            let x : HasList shape new (v.uow + 1) (link_of (bytes_at old ci)) =
            list-left shape old new (v.uow + 1) ci h.list some (λ y. gone v.uow ci y refl)
            (λ k n y. stays (v.uow + 1) k n y) (λ k y. stood (v.uow + 1) k (gone v.uow k y) y)
            (λ k n y. link_same (v.uow + 1) k (λ i. omega (arith, y.from, i, e, base_front)) n y) l in
            rw now x)
        | inr w ↦ (let same : bytes_at new (first_base shape v.uow) ≡ bytes_at old (first_base shape v.uow) =
            v.others (first_base shape v.uow) (λ y. omega (arith, y)) (λ y. omega (arith, y, w.from, base_front))
            (λ y. omega (arith, y, v.from, base_front)) in
            let x : HasList shape new (v.uow + 1) (link_of (bytes_at old (first_base shape v.uow))) =
            list-removed shape old new (v.uow + 1) (link_of (bytes_at old (first_base shape v.uow))) v.before ci h.list
            some v.apart v.leads next_now w (λ y. gone v.uow ci y refl)
            (λ k n y. stays (v.uow + 1) k n y) (λ k y. stood (v.uow + 1) k (gone v.uow k y) y)
            (λ k m n y. link_same (v.uow + 1) k m n y) h.is_list in
            rw same x)
      ]

  list_other : (u : ℕ) → u < shape.uows → u ≢ v.uow
      → HasList shape new (u + 1) (link_of (bytes_at new (first_base shape u)))
  list_other u l n =
      let h : HasList shape old (u + 1) (link_of (bytes_at old (first_base shape u))) = o.listed.of_uow u l in
      let front : first_base shape u < first_independent shape = base-before shape u l v.has_base in
      let other : u + 1 ≢ v.uow + 1 = λ e. n (omega (arith, e)) in
      let not_before : first_base shape u ≢ v.before =
      λ y. elim v.stands as (λ _. ⊥) [
        | inl e ↦ bases-apart shape u v.uow v.has_base n (y ∙ e)
        | inr w ↦
            omega (arith, y, w.from, front)
      ] in
      let same : bytes_at new (first_base shape u) ≡ bytes_at old (first_base shape u) =
      v.others (first_base shape u) (λ y. omega (arith, y)) not_before (λ y. omega (arith, y, v.from, front)) in
      let x : HasList shape new (u + 1) (link_of (bytes_at old (first_base shape u))) = record {
        list = h.list;
        is_list = list-stays shape old new (u + 1) (link_of (bytes_at old (first_base shape u))) h.list
            (λ k y. stays (u + 1) k (never (u + 1) k other y) y) (λ k y. stood (u + 1) k (gone u k y) y)
            (λ k y. link_same (u + 1) k (never_before (u + 1) k other y) (never (u + 1) k other y) y) h.is_list;
      } in
      rw same x

  free_now : first_free new ≡ ci
  free_now = first_free-put new (bytes_at new 0) (bytes_at old 0) (counted old) ci refl v.ends

  list_free : HasList shape new 0 (first_free new)
  list_free =
      let h : HasList shape old 0 (first_free old) = o.listed.of_free in
      let zero : 0 ≢ v.uow + 1 = λ e. omega (arith, e) in
      let mine : IsOwned shape new 0 ci = record {
        from = v.from;
        below = omega (arith, b, v.same_number);
        owned =
            owner_now;
      } in
      let x : HasList shape new 0 ci = record {
        list = ci ∷ h.list;
        is_list = list-joined shape old new 0 (first_free old) ci h.list some (λ y. never 0 ci zero y refl) mine
            (link-known (bytes_at new ci) _ v.head)
            (λ k y. stays 0 k (never 0 k zero y) y) (λ k n y. stood 0 k n y)
            (λ k y. link_same 0 k (never_before 0 k zero y) (never 0 k zero y) y) h.is_list;
      } in
      rw free_now x

  placed : (k : ℕ) → k < length new → IsInPlace shape new k
  placed k l =
      let p : IsInPlace shape old k = o.in_place k (omega (arith, l, v.same_number)) in
      elim (same_or_other k ci) as (λ _. IsInPlace shape new k) [
        | inl e ↦ (let P : ℕ → Type 0 = λ d. IsInPlace shape new d in
            subst P (sym e) (record {
              is_interval = record { elements = _; tiles = v.is_empty };
              is_kind =
                  kind-known (bytes_at new ci) _ v.head ∙ sym (kind-behind shape ci v.from);
            }))
        | inr n ↦ elim (same_or_other k 0) as (λ _. IsInPlace shape new k) [
          | inl e ↦ (let q : IsInPlace shape old 0 = rw e at p in
              let P : ℕ → Type 0 = λ d. IsInPlace shape new d in
              subst P (sym e) (record {
                is_interval = v.ends.is_interval;
                is_kind =
                    sym (keeps-kind (bytes_at old 0) (bytes_at new 0) v.ends.head) ∙ q.is_kind;
              }))
          | inr m ↦ elim (same_or_other k v.before) as (λ _. IsInPlace shape new k) [
            | inl e ↦ (let q : IsInPlace shape old v.before = o.in_place v.before before_below in
                let P : ℕ → Type 0 = λ d. IsInPlace shape new d in
                subst P (sym e) (record {
                  is_interval = v.link.is_interval;
                  is_kind =
                      same-kind (bytes_at old v.before) (bytes_at new v.before) (link_of interval) v.link ∙ q.is_kind;
                }))
            | inr i ↦ record {
              is_interval = rw (v.others k m i n) p.is_interval;
              is_kind =
                  ap kind_of (v.others k m i n) ∙ p.is_kind;
            }
          ]
        ]
      ]

  pub order-moved : IsInOrder shape new
  order-moved = record {
    whole = v.same_number ∙ o.whole ∙ ap (λ x. first_independent shape + x)
        (sym (counted-put new (bytes_at new 0) (bytes_at old 0) (counted old) ci refl v.ends));
    in_place = placed;
    listed = record {
      of_uow = λ u l. elim (same_or_other u v.uow) as (λ _. HasList shape new (u + 1)
          (link_of (bytes_at new (first_base shape u)))) [
            | inl e ↦
                (let P : ℕ → Type 0 = λ d. HasList shape new (d + 1) (link_of (bytes_at new (first_base shape d))) in
                subst P (sym e) list_here)
            | inr n ↦ list_other u l n
          ];
      of_free = list_free;
      owners = λ k l m. elim (same_or_other k ci) as (λ _. owner_of (bytes_at new k) ≤ shape.uows) [
        | inl e ↦ omega (arith, ap (λ d. owner_of (bytes_at new d)) e, owner_now)
        | inr n ↦ omega (arith, owner_same k l n, o.listed.owners k l (omega (arith, m, v.same_number)))
      ];
      empty = λ k w. elim (same_or_other k ci) as (λ _. IsEmpty (bytes_at new k)) [
        | inl e ↦ (let P : ℕ → Type 0 = λ d. IsEmpty (bytes_at new d) in subst P (sym e) v.is_empty)
        | inr n ↦ (let x : IsOwned shape old 0 k = stood 0 k n w in
            let zero : 0 ≢ v.uow + 1 = λ e. omega (arith, e) in
            rw (v.others k (λ e. omega (arith, x.from, e)) (never_before 0 k zero x) n) (o.listed.empty k x))
      ];
    };
  }
