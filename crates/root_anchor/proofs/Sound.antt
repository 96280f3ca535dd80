-- A chain that stands doesn't fail.
use Rattle.std.proofs.Common.{◌≡◌, ◌≢◌, ◌⊎◌, inl, inr, ℕ, List, [], ◌∷◌, refl, sym, subst}
use Rattle.std.specs.List.{Contains}
use Rattle.ci_space.specs.declared.intervals.Shape.{Shape}
use Rattle.fp_model.specs.declared.definitions.SegDef.{SegDef}
use Rattle.fp_model.specs.declared.database.Node.{Node}
use Rattle.fp_model.specs.declared.database.Root.{Root}
use Rattle.fp_model.specs.Order.{child_types}
use Rattle.anchor_elements.specs.Elements.{Pointer, nothing, Segment, HasSegment}
use Rattle.root_anchor.specs.Chains.{AreRows, no_row, row_end, segment, AreRoots, no_root, root, IsChain}
use Rattle.anchor_elements.specs.Wrong.{IsWrong, leads_to_no_interval, leads_to_no_element, leads_to_no_segment, leads_back}
use Rattle.root_anchor.specs.Damage.{RowsFail, here, below, at_twin, next_row, RootsFail, root_here, below_root, next_root, ChainFails, no_base, wrong_pointer}
use Rattle.root_anchor.specs.Formed.{HasChain}
use Rattle.root_anchor.proofs.OneChain.{one_segment, none_at_nothing, stands_in_interval, one_rows}

-- a pointer to a new segment isn't wrong
pub right : {types : List SegDef} {area : List (List ℕ)} {met : List Pointer} {from type : ℕ} {at : Pointer} {ci : ℕ}
    (s : Segment)
    → HasSegment types area type at s → ¬ Contains met at → IsWrong types area met from type at ci → ⊥
right s has fresh (leads_to_no_interval inside none) = none (stands_in_interval has)
right s has fresh (leads_to_no_element interval none) = none has.content has.used
right s has fresh (leads_to_no_segment content used none) = none s has
right s has fresh (leads_back met) = fresh met

-- ---- how rows fail

pub record FailsBelow (types : List SegDef) (area : List (List ℕ)) (met : List Pointer) (type : ℕ) (at : Pointer)
    (ci : ℕ) : Type 0 where
  pub s : Segment
  pub has : HasSegment types area type at s
  pub fresh : ¬ Contains met at
  pub fails : RowsFail types area (at ∷ met) at.0 at.0 (child_types types type) s.firsts ci

pub record FailsAtTwin (types : List SegDef) (area : List (List ℕ)) (met : List Pointer) (home type : ℕ) (more : List ℕ)
    (at : Pointer) (firsts : List Pointer) (ci : ℕ) : Type 0 where
  pub s : Segment
  pub rows : List (List Node)
  pub between : List Pointer
  pub has : HasSegment types area type at s
  pub fresh : ¬ Contains met at
  pub lower : AreRows types area (at ∷ met) (child_types types type) s.firsts rows between
  pub fails : RowsFail types area between home at.0 (type ∷ more) (s.next ∷ firsts) ci

abbrev pub Fail : List SegDef → List (List ℕ) → List Pointer → ℕ → ℕ → List ℕ → List Pointer → ℕ → Type 0
Fail types area met home from [] firsts ci = ⊥
Fail types area met home from (type ∷ more) [] ci = ⊥
Fail types area met home from (type ∷ more) (at ∷ firsts) ci =
    ((at ≢ nothing) × IsWrong types area met from type at ci)
    ⊎ (FailsBelow types area met type at ci ⊎ (FailsAtTwin types area met home type more at firsts ci
    ⊎ ((at ≡ nothing) × RowsFail types area met home home more firsts ci)))

pub fails_so : {types : List SegDef} {area : List (List ℕ)} {met : List Pointer} {home from : ℕ} {row_types : List ℕ}
    {firsts : List Pointer} {ci : ℕ}
    → RowsFail types area met home from row_types firsts ci → Fail types area met home from row_types firsts ci
fails_so (here there wrong) = inl (there, wrong)
fails_so (below s has fresh fails) = inr (inl (record { s = s; has = has; fresh = fresh; fails = fails }))
fails_so (at_twin s {rows = rows} {between = between} has fresh lower fails) =
    inr (inr (inl (record {
      s = s;
      rows = rows;
      between = between;
      has = has;
      fresh = fresh;
      lower = lower;
      fails =
          fails;
    })))
fails_so (next_row fails) = inr (inr (inr (refl, fails)))

pub rows_sound : {types : List SegDef} {area : List (List ℕ)} {met : List Pointer} {row_types : List ℕ}
    {firsts : List Pointer} {rows : List (List Node)} {after : List Pointer}
    → AreRows types area met row_types firsts rows after → (home from ci : ℕ)
    → RowsFail types area met home from row_types firsts ci → ⊥
rows_sound no_row home from ci f = fails_so f
rows_sound (row_end next) home from ci f = elim (fails_so f) as (λ _. ⊥) [
  | inl w ↦ w.0 refl
  | inr (inl b) ↦ none_at_nothing b.has refl
  | inr (inr (inl t)) ↦ none_at_nothing t.has refl
  | inr (inr (inr n)) ↦ rows_sound next home home ci n.1
]
rows_sound {types} {area} (segment {met = met} {type = type} {more = more} {at = at} {firsts = firsts} s
    {between = between} has fresh lower next) home from ci f = elim (fails_so f) as (λ _. ⊥) [
      | inl w ↦ right s has fresh w.1
      | inr (inl b) ↦
          rows_sound lower at.0 at.0 ci (subst (λ (t : Segment). RowsFail types area (at ∷ met) at.0 at.0
          (child_types types type) t.firsts ci) (one_segment b.has has) b.fails)
      | inr (inr (inl t)) ↦
          (let says : t.s ≡ s = one_segment t.has has in
          let there : AreRows types area (at ∷ met) (child_types types type) s.firsts t.rows t.between =
          subst (λ (x : Segment). AreRows types area (at ∷ met) (child_types types type) x.firsts t.rows t.between) says
          t.lower in
          let same = one_rows lower t.rows t.between there in
          let fails : RowsFail types area t.between home at.0 (type ∷ more) (s.next ∷ firsts) ci =
          subst (λ (x : Segment). RowsFail types area t.between home at.0 (type ∷ more) (x.next ∷ firsts) ci) says
          t.fails in
          rows_sound next home at.0 ci (subst (λ l. RowsFail types area l home at.0 (type ∷ more) (s.next ∷ firsts) ci)
          (sym same.1) fails))
      | inr (inr (inr n)) ↦ none_at_nothing has n.0
    ]

-- ---- how roots fail

pub record FailsAtNext (types : List SegDef) (area : List (List ℕ)) (met : List Pointer) (at : Pointer) (ci : ℕ) : Type
    0 where
  pub s : Segment
  pub rows : List (List Node)
  pub between : List Pointer
  pub has : HasSegment types area 0 at s
  pub fresh : ¬ Contains met at
  pub lower : AreRows types area (at ∷ met) (child_types types 0) s.firsts rows between
  pub fails : RootsFail types area between at.0 s.next ci

pub roots_fail_so : {types : List SegDef} {area : List (List ℕ)} {met : List Pointer} {from : ℕ} {at : Pointer} {ci : ℕ}
    → RootsFail types area met from at ci → ((at ≢ nothing) × IsWrong types area met from 0 at ci)
    ⊎ (FailsBelow types area met 0 at ci ⊎ FailsAtNext types area met at ci)
roots_fail_so (root_here there wrong) = inl (there, wrong)
roots_fail_so (below_root s has fresh fails) = inr (inl (record { s = s; has = has; fresh = fresh; fails = fails }))
roots_fail_so (next_root s {rows = rows} {between = between} has fresh lower fails) =
    inr (inr (record { s = s; rows = rows; between = between; has = has; fresh = fresh; lower = lower; fails = fails }))

pub roots_sound : {types : List SegDef} {area : List (List ℕ)} {met : List Pointer} {at : Pointer} {roots : List Root}
    {after : List Pointer}
    → AreRoots types area met at roots after → (from ci : ℕ) → RootsFail types area met from at ci → ⊥
roots_sound no_root from ci f = elim (roots_fail_so f) as (λ _. ⊥) [
  | inl w ↦ w.0 refl
  | inr (inl b) ↦ none_at_nothing b.has refl
  | inr (inr t) ↦ none_at_nothing t.has refl
]
roots_sound {types} {area} (root {met = met} {at = at} s {between = between} has fresh lower next) from ci f =
    elim (roots_fail_so f) as (λ _. ⊥) [
      | inl w ↦ right s has fresh w.1
      | inr (inl b) ↦
          rows_sound lower at.0 at.0 ci (subst (λ (t : Segment). RowsFail types area (at ∷ met) at.0 at.0
          (child_types types 0) t.firsts ci) (one_segment b.has has) b.fails)
      | inr (inr t) ↦
          (let says : t.s ≡ s = one_segment t.has has in
          let there : AreRows types area (at ∷ met) (child_types types 0) s.firsts t.rows t.between =
          subst (λ (x : Segment). AreRows types area (at ∷ met) (child_types types 0) x.firsts t.rows t.between) says
          t.lower in
          let same = one_rows lower t.rows t.between there in
          let fails : RootsFail types area t.between at.0 s.next ci =
          subst (λ (x : Segment). RootsFail types area t.between at.0 x.next ci) says t.fails in
          roots_sound next at.0 ci (subst (λ l. RootsFail types area l at.0 s.next ci) (sym same.1) fails))
    ]

chain_sound_at : {shape : Shape} {types : List SegDef} {area : List (List ℕ)} {anchor : ℕ} {roots : List Root}
    {elements : List Pointer} {ci : ℕ}
    → IsChain shape types area anchor roots elements → ChainFails shape types area anchor ci → ⊥
chain_sound_at c (no_base none) = none c.base
chain_sound_at c (wrong_pointer base fails) = roots_sound c.are_roots _ _ fails

pub chain_sound : {shape : Shape} {types : List SegDef} {area : List (List ℕ)} {anchor : ℕ}
    → HasChain shape types area anchor → (ci : ℕ) → ChainFails shape types area anchor ci → ⊥
chain_sound c ci fails = chain_sound_at c.is_chain fails
