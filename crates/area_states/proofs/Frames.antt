-- What stays where the sequential part of an area alone changes: its slots, and the two ends in control.
use Rattle.std.proofs.Common.{◌≡◌, ◌≢◌, ◌⊎◌, inl, inr, ℕ, ◌+◌, ◌<◌, ◌≤◌, List, length, drop, Contains, sym, ◌∙◌, ap, subst, arith}
use Rattle.std.specs.Prelude.{slice_index}
use Rattle.std.proofs.lemmas.Bool.{cases_lt}
use Rattle.ci_space.specs.declared.intervals.Shape.{Shape}
use Rattle.ci_space.specs.Interval.{IsInterval, IsUsed, HasUsed, Keeps, kind_of}
use Rattle.ci_space.specs.Head.{head_of, ends_of}
use Rattle.ci_overflow.specs.Places.{first_base, first_sequential, first_independent, base_of, kind_at}
use Rattle.ci_overflow.specs.Lists.{bytes_at, link_of, owner_of, counted, first_free, IsOwned, HasList, IsInPlace, IsInOrder}
use Rattle.ci_overflow.proofs.Finds.{control-first}
use Rattle.ci_overflow.proofs.FaultLemmas.{kind-base}
use Rattle.ci_overflow.proofs.Givings.{used-kinds}
use Rattle.ci_overflow.proofs.Joins.{kind-behind}
use Rattle.ci_overflow.proofs.Orders.{list-stays}
use Rattle.fp_model.specs.declared.definitions.SegDef.{SegDef}
use Rattle.fp_model.specs.declared.database.Root.{Root}
use Rattle.anchor_elements.specs.Elements.{Pointer, Segment, HasSegment}
use Rattle.root_anchor.specs.Chains.{IsChain, anchor_count}
use Rattle.root_anchor.specs.Formed.{IsFormed, HasRoots, Meets}
use Rattle.root_anchor.proofs.LawLemmas.{chain_stays}
use Rattle.root_anchor.proofs.OneChain.{one_chain}
use Rattle.root_anchor.proofs.PutLemmas.{base_kind, used_interval, within_area}
use Rattle.plain_laws.proofs.Numbers.{same_or_other}

-- Of control the two ends change, and of the other intervals at most the sequential ones, which stay in place.
pub record PartAlone (shape : Shape) (old new : List (List ℕ)) : Type 0 where
  pub control : IsInterval (bytes_at new 0)
  pub head : Keeps (bytes_at old 0) (bytes_at new 0) 0 32
  pub numbers : drop 2 (ends_of (bytes_at new 0)) ≡ drop 2 (ends_of (bytes_at old 0))
  pub in_place : (ci : ℕ) → kind_at shape ci ≡ 4 → IsInPlace shape new ci
  pub others : (ci : ℕ) → ci ≢ 0 → kind_at shape ci ≢ 4 → bytes_at new ci ≡ bytes_at old ci
  pub same_number : length new ≡ length old

-- ---- places

-- the sequential places are those between the units of work and the independent overflow
pub kind_within : (shape : Shape) (ci : ℕ) → ci ≢ 0 → first_sequential shape ≤ ci → ci < first_independent shape
    → kind_at shape ci ≡ 4
kind_within shape ci n a b = grind arith

kind_unit : (shape : Shape) (ci : ℕ) → ci < first_sequential shape → kind_at shape ci ≢ 4
kind_unit shape ci a e = grind arith

pub kind_bounds : (shape : Shape) (ci : ℕ) → kind_at shape ci ≡ 4
    → (first_sequential shape ≤ ci) × (ci < first_independent shape)
kind_bounds shape ci e =
    let low : first_sequential shape ≤ ci = elim (cases_lt ci (first_sequential shape)) as
    (λ _. first_sequential shape ≤ ci) [ inl l ↦ absurd (kind_unit shape ci l e) | inr l ↦ l ] in
    let high : ci < first_independent shape = elim (cases_lt ci (first_independent shape)) as
    (λ _. ci < first_independent shape) [
      | inl l ↦ l
      | inr l ↦ (let five = kind-behind shape ci l in absurd (omega (arith, five, e)))
    ] in
    (low, high)

pub kind_outside : (shape : Shape) (ci : ℕ) → ci ≢ 0 → kind_at shape ci ≢ 4
    → (ci < first_sequential shape) ⊎ (first_independent shape ≤ ci)
kind_outside shape ci z n = elim (cases_lt ci (first_sequential shape)) as
    (λ _. (ci < first_sequential shape) ⊎ (first_independent shape ≤ ci)) [
      | inl l ↦ inl l
      | inr l ↦ elim (cases_lt ci (first_independent shape)) as
          (λ _. (ci < first_sequential shape) ⊎ (first_independent shape ≤ ci))
          [ inl m ↦ absurd (n (kind_within shape ci z l m)) | inr m ↦ inr m ]
    ]

-- an interval with a used element is neither control nor sequential
pub used_place : (shape : Shape) (area : List (List ℕ)) (ci at : ℕ) → IsInOrder shape area → IsUsed (bytes_at area ci) at
    → (ci ≢ 0) × (kind_at shape ci ≢ 4)
used_place shape area ci at o u =
    let kinds = used-kinds (bytes_at area ci) at u in
    let place = (o.in_place ci (within_area area ci (used_interval (bytes_at area ci) at u))).is_kind in
    ((λ e. kinds.0 (ap (λ k. kind_of (bytes_at area k)) e ∙ control-first shape area o)), λ e. kinds.1 (place ∙ e))

-- ---- control

same_counted : (old new : List (List ℕ)) → drop 2 (ends_of (bytes_at new 0)) ≡ drop 2 (ends_of (bytes_at old 0))
    → counted new ≡ counted old
unfolding counted
same_counted old new e = ap (λ l. slice_index l 0) e

same_free : (old new : List (List ℕ)) → drop 2 (ends_of (bytes_at new 0)) ≡ drop 2 (ends_of (bytes_at old 0))
    → first_free new ≡ first_free old
unfolding first_free
same_free old new e = ap (λ l. slice_index l 1) e

-- ---- the area

module _ (shape : Shape) (old new : List (List ℕ)) (it : PartAlone shape old new) (o : IsInOrder shape old)
    (some : 0 < shape.base) where
  -- an interval of the independent overflow stays
  owned_stays : (ci : ℕ) → first_independent shape ≤ ci → bytes_at new ci ≡ bytes_at old ci
  owned_stays ci l =
      let five = kind-behind shape ci l in it.others ci (λ e. omega (arith, l, e)) (λ e. omega (arith, five, e))

  base_stays : (uow : ℕ) → uow < shape.uows → bytes_at new (first_base shape uow) ≡ bytes_at old (first_base shape uow)
  base_stays uow l =
      let two : kind_at shape (first_base shape uow + 0) ≡ 2 = kind-base shape uow 0 l some in
      let same : first_base shape uow + 0 ≡ first_base shape uow = omega arith in
      let kind : kind_at shape (first_base shape uow) ≡ 2 = ap (kind_at shape) (sym same) ∙ two in
      it.others (first_base shape uow) (λ e. omega (arith, e)) (λ e. omega (arith, kind, e))

  pub place_stays : (ci : ℕ) → ci < length old → IsInPlace shape new ci
  place_stays ci l = elim (same_or_other ci 0) as (λ _. IsInPlace shape new ci) [
    | inl e ↦
        let kind : kind_of (bytes_at new 0) ≡ 1 = it.head 0 (omega arith) (omega arith) ∙ control-first shape old o in
        let first : IsInPlace shape new 0 = record { is_interval = it.control; is_kind = kind } in
        subst (IsInPlace shape new) (sym e) first
    | inr n ↦ elim (same_or_other (kind_at shape ci) 4) as (λ _. IsInPlace shape new ci) [
      | inl four ↦ it.in_place ci four
      | inr other ↦
          let same = it.others ci n other in
          let was = o.in_place ci l in
          record {
            is_interval = subst IsInterval (sym same) was.is_interval;
            is_kind = ap kind_of same ∙ was.is_kind;
          }
    ]
  ]

  owned_on : (owner ci : ℕ) → IsOwned shape old owner ci → IsOwned shape new owner ci
  owned_on owner ci x = record {
    from = x.from;
    below = omega (arith, x.below, it.same_number);
    owned = ap owner_of (owned_stays ci x.from) ∙ x.owned;
  }

  owned_before : (owner ci : ℕ) → IsOwned shape new owner ci → IsOwned shape old owner ci
  owned_before owner ci x = record {
    from = x.from;
    below = omega (arith, x.below, it.same_number);
    owned = sym (ap owner_of (owned_stays ci x.from)) ∙ x.owned;
  }

  list_on : (owner first now : ℕ) → now ≡ first → HasList shape old owner first → HasList shape new owner now
  list_on owner first now e h = record {
    list = h.list;
    is_list = rw (← e) at (list-stays shape old new owner first h.list (owned_on owner) (owned_before owner)
        (λ ci x. ap link_of (owned_stays ci x.from)) h.is_list);
  }

  -- the lists stay in order
  pub order_stays : IsInOrder shape new
  order_stays = record {
    whole = it.same_number ∙ o.whole
        ∙ ap (λ x. first_independent shape + x) (sym (same_counted old new it.numbers));
    in_place = λ ci l. place_stays ci (omega (arith, l, it.same_number));
    listed = record {
      of_uow = λ u l. list_on (u + 1) (link_of (bytes_at old (first_base shape u)))
          (link_of (bytes_at new (first_base shape u))) (ap link_of (base_stays u l)) (o.listed.of_uow u l);
      of_free = list_on 0 (first_free old) (first_free new) (same_free old new it.numbers) o.listed.of_free;
      owners = λ ci l m.
          let was = o.listed.owners ci l (omega (arith, m, it.same_number)) in
          let same = ap owner_of (owned_stays ci l) in
          omega (arith, was, same);
      empty = λ ci w.
          let was = o.listed.empty ci (owned_before 0 ci w) in
          rw (← owned_stays ci w.from) at was;
    };
  }

  -- a segment stays in its element
  segment_on : (types : List SegDef) (type : ℕ) (at : Pointer) (s : Segment) → HasSegment types old type at s
      → HasSegment types new type at s
  segment_on types type at s h =
      let used : IsUsed (bytes_at old at.0) at.1 =
      record { segment = type; content = h.content; used = h.used } in
      let place = used_place shape old at.0 at.1 o used in
      let same = it.others at.0 place.0 place.1 in
      record {
        content = h.content;
        used = subst (λ b. HasUsed b at.1 type h.content) (sym same) h.used;
        fits = h.fits;
        zeros = h.zeros;
        says = h.says;
      }

  -- and each anchor keeps its roots
  pub chain_on : (types : List SegDef) (anchor : ℕ) (roots : List Root) (elements : List Pointer)
      → anchor < anchor_count shape → IsChain shape types old anchor roots elements
      → IsChain shape types new anchor roots elements
  chain_on types anchor roots elements below c =
      let two = base_kind shape anchor below in
      let same : bytes_at new (base_of shape anchor) ≡ bytes_at old (base_of shape anchor) =
      it.others (base_of shape anchor) (λ e. omega (arith, e)) (λ e. omega (arith, two, e)) in
      let base : IsInPlace shape new (base_of shape anchor) = record {
        is_interval = subst IsInterval (sym same) c.base.is_interval;
        is_kind = ap kind_of same ∙ c.base.is_kind;
      } in
      chain_stays shape types old new anchor roots elements c base (ap (λ b. (head_of b).root) same)
      (λ at type s m h. segment_on types type at s h)

  pub roots_on : (types : List SegDef) (anchor : ℕ) (roots : List Root) → anchor < anchor_count shape
      → HasRoots shape types old anchor roots → HasRoots shape types new anchor roots
  roots_on types anchor roots below h =
      record { elements = h.elements; is_chain = chain_on types anchor roots h.elements below h.is_chain }

  used_before : (at : Pointer) → IsUsed (bytes_at new at.0) at.1 → IsUsed (bytes_at old at.0) at.1
  used_before at u =
      let place = used_place shape new at.0 at.1 order_stays u in
      subst (λ b. IsUsed b at.1) (it.others at.0 place.0 place.1) u

  module _ (types : List SegDef) (formed : IsFormed shape types old) where
    met_on : (anchor : ℕ) (at : Pointer) → anchor < anchor_count shape → Meets shape types old anchor at
        → Meets shape types new anchor at
    met_on anchor at below m = record {
      roots = m.roots;
      elements = m.elements;
      is_chain = chain_on types anchor m.roots m.elements below m.is_chain;
      met = m.met;
    }

    met_before : (anchor : ℕ) (at : Pointer) → anchor < anchor_count shape → Meets shape types new anchor at
        → Meets shape types old anchor at
    met_before anchor at below m =
        let was = formed.chains anchor below in
        let now = chain_on types anchor was.roots was.elements below was.is_chain in
        let P : List Pointer → Type 0 = λ xs. Contains xs at in
        record {
          roots = was.roots;
          elements = was.elements;
          is_chain = was.is_chain;
          met = subst P ((one_chain m.is_chain now).1) m.met;
        }

    -- the area stays whole
    pub formed_on : IsFormed shape types new
    formed_on = record {
      in_order = order_stays;
      chains = λ anchor below.
          let was = formed.chains anchor below in
          record {
            roots = was.roots;
            elements = was.elements;
            is_chain = chain_on types anchor was.roots was.elements below was.is_chain;
          };
      apart = λ a b at x y m n. formed.apart a b at x y (met_before a at x m) (met_before b at y n);
      each_met = λ at u.
          let m = formed.each_met at (used_before at u) in
          record { anchor = m.anchor; below = m.below; meets = met_on m.anchor at m.below m.meets };
    }
