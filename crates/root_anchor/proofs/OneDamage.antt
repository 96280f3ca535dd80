-- Where an anchor's pointers fail, one interval is damaged.
use Rattle.std.proofs.Common.{◌≡◌, inl, inr, ℕ, List, ◌∷◌, refl, sym, subst, ◌∙◌}
use Rattle.std.specs.List.{Contains}
use Rattle.ci_space.specs.declared.intervals.Shape.{Shape}
use Rattle.ci_space.specs.Interval.{HasUsed}
use Rattle.ci_space.proofs.Contents.{used-type}
use Rattle.ci_overflow.specs.Lists.{bytes_at}
use Rattle.fp_model.specs.declared.definitions.SegDef.{SegDef}
use Rattle.fp_model.specs.declared.database.Node.{Node}
use Rattle.fp_model.specs.Order.{child_types}
use Rattle.anchor_elements.specs.Elements.{Pointer, Segment, HasSegment}
use Rattle.root_anchor.specs.Chains.{AreRows}
use Rattle.anchor_elements.specs.Wrong.{IsWrong, leads_to_no_interval, leads_to_no_element, leads_to_no_segment, leads_back}
use Rattle.root_anchor.specs.Damage.{RowsFail, here, below, at_twin, next_row, RootsFail, root_here, below_root, next_root, ChainFails, no_base, wrong_pointer}
use Rattle.anchor_elements.proofs.ReadLemmas.{content_interval}
use Rattle.root_anchor.proofs.OneChain.{HasSome, one_segment, none_at_nothing, stands_in_interval, one_rows, rows_have}
use Rattle.root_anchor.proofs.Sound.{right, fails_so, roots_fail_so, rows_sound}
use Rattle.plain_laws.proofs.Alls.{contains_cases, contains_nothing}

-- a segment stands in each element that was met
pub record AllHave (types : List SegDef) (area : List (List ℕ)) (met : List Pointer) : Type 0 where
  pub each : (p : Pointer) → Contains met p → HasSome types area p

one_more : {types : List SegDef} {area : List (List ℕ)} {met : List Pointer} {type : ℕ} {at : Pointer} {s : Segment}
    → HasSegment types area type at s → AllHave types area met → AllHave types area (at ∷ met)
one_more {types} {area} {met} {type} {at} {s} has all = record {
  each = λ p m. elim (contains_cases at met p m) as (λ _. HasSome types area p) [
    | inl e ↦ subst (λ q. HasSome types area q) e (record { type = type; segment = s; has = has })
    | inr old ↦ all.each p old
  ];
}

rows_more : {types : List SegDef} {area : List (List ℕ)} {met : List Pointer} {row_types : List ℕ}
    {firsts : List Pointer} {rows : List (List Node)} {after : List Pointer}
    → AreRows types area met row_types firsts rows after → AllHave types area met → AllHave types area after
rows_more {types} {area} r all = record {
  each = λ p m. elim (rows_have r p m) as (λ _. HasSome types area p)
      [ inl old ↦ all.each p old | inr some ↦ some ];
}

-- a used element of a type in which some segment stands holds one of that type
some_segment : {types : List SegDef} {area : List (List ℕ)} {type : ℕ} {at : Pointer} {content : List ℕ}
    → HasUsed (bytes_at area at.0) at.1 type content → (h : HasSome types area at)
    → HasSegment types area type at h.segment
some_segment {types} {area} {type} {at} {content} u h =
    let same : h.type ≡ type = sym (used-type (bytes_at area at.0) at.1 h.type h.has.content h.has.used) ∙ used-type
    (bytes_at area at.0) at.1 type content u in
    subst (λ t. HasSegment types area t at h.segment) same h.has

-- ---- a wrong pointer

wrong_once : {types : List SegDef} {area : List (List ℕ)} {met : List Pointer} {from type : ℕ} {at : Pointer}
    {ci other : ℕ} → AllHave types area met → IsWrong types area met from type at ci
    → IsWrong types area met from type at other → ci ≡ other
wrong_once all (leads_to_no_interval i n) (leads_to_no_interval j m) = refl
wrong_once all (leads_to_no_interval i n) (leads_to_no_element f u) = absurd (n (f i))
wrong_once all (leads_to_no_interval i n) (leads_to_no_segment c u s) = absurd (n (content_interval u))
wrong_once {at = at} all (leads_to_no_interval i n) (leads_back m) = absurd (n (stands_in_interval (all.each at m).has))
wrong_once all (leads_to_no_element f u) (leads_to_no_interval i n) = absurd (n (f i))
wrong_once all (leads_to_no_element f u) (leads_to_no_element g v) = refl
wrong_once all (leads_to_no_element f u) (leads_to_no_segment c v s) = absurd (u c v)
wrong_once all (leads_to_no_element f u) (leads_back m) = refl
wrong_once all (leads_to_no_segment c v s) (leads_to_no_interval i n) = absurd (n (content_interval v))
wrong_once all (leads_to_no_segment c v s) (leads_to_no_element f u) = absurd (u c v)
wrong_once all (leads_to_no_segment c v s) (leads_to_no_segment d w z) = refl
wrong_once {at = at} all (leads_to_no_segment c v s) (leads_back m) =
    absurd (s (all.each at m).segment (some_segment v (all.each at m)))
wrong_once {at = at} all (leads_back m) (leads_to_no_interval i n) = absurd (n (stands_in_interval (all.each at m).has))
wrong_once all (leads_back m) (leads_to_no_element f u) = refl
wrong_once {at = at} all (leads_back m) (leads_to_no_segment c v s) =
    absurd (s (all.each at m).segment (some_segment v (all.each at m)))
wrong_once all (leads_back m) (leads_back k) = refl

-- ---- rows

pub rows_fail_once : {types : List SegDef} {area : List (List ℕ)} {met : List Pointer} {home from : ℕ}
    {row_types : List ℕ} {firsts : List Pointer} {ci : ℕ}
    → RowsFail types area met home from row_types firsts ci → AllHave types area met → (other : ℕ)
    → RowsFail types area met home from row_types firsts other → ci ≡ other
rows_fail_once {ci = ci} (here there wrong) all other f = elim (fails_so f) as (λ _. ci ≡ other) [
  | inl w ↦ wrong_once all wrong w.1
  | inr (inl b) ↦ absurd (right b.s b.has b.fresh wrong)
  | inr (inr (inl t)) ↦ absurd (right t.s t.has t.fresh wrong)
  | inr (inr (inr n)) ↦ absurd (there n.0)
]
rows_fail_once {types} {area} (below {met = met} {type = type} {at = at} {ci = ci} s has fresh fails) all other f =
    elim (fails_so f) as (λ _. ci ≡ other) [
      | inl w ↦ absurd (right s has fresh w.1)
      | inr (inl b) ↦
          rows_fail_once fails (one_more has all) other
          (subst (λ (x : Segment). RowsFail types area (at ∷ met) at.0 at.0 (child_types types type) x.firsts other)
          (one_segment b.has has) b.fails)
      | inr (inr (inl t)) ↦
          (let lower : AreRows types area (at ∷ met) (child_types types type) s.firsts t.rows t.between =
          subst (λ (x : Segment). AreRows types area (at ∷ met) (child_types types type) x.firsts t.rows t.between)
          (one_segment t.has has) t.lower in
          absurd (rows_sound lower at.0 at.0 ci fails))
      | inr (inr (inr n)) ↦ absurd (none_at_nothing has n.0)
    ]
rows_fail_once {types} {area} (at_twin {met = met} {home = home} {type = type} {more = more} {at = at} {firsts = firsts}
    {ci = ci} s {between = between} has fresh lower fails) all other f =
    elim (fails_so f) as (λ _. ci ≡ other) [
      | inl w ↦ absurd (right s has fresh w.1)
      | inr (inl b) ↦
          absurd (rows_sound lower at.0 at.0 other (subst
          (λ (x : Segment). RowsFail types area (at ∷ met) at.0 at.0 (child_types types type) x.firsts other)
          (one_segment b.has has) b.fails))
      | inr (inr (inl t)) ↦
          (let says : t.s ≡ s = one_segment t.has has in
          let there : AreRows types area (at ∷ met) (child_types types type) s.firsts t.rows t.between =
          subst (λ (x : Segment). AreRows types area (at ∷ met) (child_types types type) x.firsts t.rows t.between)
          says t.lower in
          let same = one_rows lower t.rows t.between there in
          let again : RowsFail types area t.between home at.0 (type ∷ more) (s.next ∷ firsts) other =
          subst (λ (x : Segment). RowsFail types area t.between home at.0 (type ∷ more) (x.next ∷ firsts) other)
          says t.fails in
          rows_fail_once fails (rows_more lower (one_more has all)) other
          (subst (λ l. RowsFail types area l home at.0 (type ∷ more) (s.next ∷ firsts) other) (sym same.1) again))
      | inr (inr (inr n)) ↦ absurd (none_at_nothing has n.0)
    ]
rows_fail_once {ci = ci} (next_row fails) all other f = elim (fails_so f) as (λ _. ci ≡ other) [
  | inl w ↦ absurd (w.0 refl)
  | inr (inl b) ↦ absurd (none_at_nothing b.has refl)
  | inr (inr (inl t)) ↦ absurd (none_at_nothing t.has refl)
  | inr (inr (inr n)) ↦ rows_fail_once fails all other n.1
]

-- ---- roots

pub roots_fail_once : {types : List SegDef} {area : List (List ℕ)} {met : List Pointer} {from : ℕ} {at : Pointer}
    {ci : ℕ}
    → RootsFail types area met from at ci → AllHave types area met → (other : ℕ)
    → RootsFail types area met from at other → ci ≡ other
roots_fail_once {ci = ci} (root_here there wrong) all other f = elim (roots_fail_so f) as (λ _. ci ≡ other) [
  | inl w ↦ wrong_once all wrong w.1
  | inr (inl b) ↦ absurd (right b.s b.has b.fresh wrong)
  | inr (inr t) ↦ absurd (right t.s t.has t.fresh wrong)
]
roots_fail_once {types} {area} (below_root {met = met} {at = at} {ci = ci} s has fresh fails) all other f =
    elim (roots_fail_so f) as (λ _. ci ≡ other) [
      | inl w ↦ absurd (right s has fresh w.1)
      | inr (inl b) ↦
          rows_fail_once fails (one_more has all) other
          (subst (λ (x : Segment). RowsFail types area (at ∷ met) at.0 at.0 (child_types types 0) x.firsts other)
          (one_segment b.has has) b.fails)
      | inr (inr t) ↦
          (let lower : AreRows types area (at ∷ met) (child_types types 0) s.firsts t.rows t.between =
          subst (λ (x : Segment). AreRows types area (at ∷ met) (child_types types 0) x.firsts t.rows t.between)
          (one_segment t.has has) t.lower in
          absurd (rows_sound lower at.0 at.0 ci fails))
    ]
roots_fail_once {types} {area} (next_root {met = met} {at = at} {ci = ci} s {between = between} has fresh lower fails)
    all other f = elim (roots_fail_so f) as (λ _. ci ≡ other) [
      | inl w ↦ absurd (right s has fresh w.1)
      | inr (inl b) ↦
          absurd (rows_sound lower at.0 at.0 other (subst
          (λ (x : Segment). RowsFail types area (at ∷ met) at.0 at.0 (child_types types 0) x.firsts other)
          (one_segment b.has has) b.fails))
      | inr (inr t) ↦
          (let says : t.s ≡ s = one_segment t.has has in
          let there : AreRows types area (at ∷ met) (child_types types 0) s.firsts t.rows t.between =
          subst (λ (x : Segment). AreRows types area (at ∷ met) (child_types types 0) x.firsts t.rows t.between) says
          t.lower in
          let same = one_rows lower t.rows t.between there in
          let again : RootsFail types area t.between at.0 s.next other =
          subst (λ (x : Segment). RootsFail types area t.between at.0 x.next other) says t.fails in
          roots_fail_once fails (rows_more lower (one_more has all)) other
          (subst (λ l. RootsFail types area l at.0 s.next other) (sym same.1) again))
    ]

-- ---- an anchor

pub chain_fails_once : {shape : Shape} {types : List SegDef} {area : List (List ℕ)} {anchor ci other : ℕ}
    → ChainFails shape types area anchor ci → ChainFails shape types area anchor other → ci ≡ other
chain_fails_once (no_base a) (no_base b) = refl
chain_fails_once (no_base a) (wrong_pointer base f) = absurd (a base)
chain_fails_once (wrong_pointer base f) (no_base b) = absurd (b base)
chain_fails_once {other = other} (wrong_pointer base f) (wrong_pointer place g) =
    roots_fail_once f (record { each = λ p m. absurd (contains_nothing p m) }) other g
