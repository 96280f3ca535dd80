-- What one change, and one insert, makes of the state, as the calls answer.
use Rattle.std.proofs.Common.{◌≡◌, inl, inr, ℕ, ◌+◌, ◌-◌, ◌<◌, ◌≤◌, true, false, List, [], ◌∷◌, refl, sym, ◌∙◌, ap, subst, arith}
use Rattle.std.specs.Prelude.{Result, Ok, Err, OnOk}
use Rattle.std.proofs.lemmas.Bool.{cases_Bool}
use Rattle.std.proofs.lemmas.Bool.Decides.{nat_tests}
use Rattle.fp_model.specs.declared.calls.AnchorChange.{AnchorChange}
use Rattle.fp_model.specs.declared.calls.SeqInsert.{SeqInsert}
use Rattle.std.specs.List.{AllZip, AllByRecursion}
use Rattle.fp_model.specs.declared.database.Root.{Root}
use Rattle.seq_dependents.specs.Control.{begin_of}
use Rattle.area_states.specs.inside.Keys.{IsKeptAs}
use Rattle.root_anchor.specs.Chains.{anchor_count}
use Rattle.root_anchor.specs.Formed.{IsFormed, HasRoots}
use Rattle.root_anchor.specs.Stored.{OthersKeep, KeepsSequential}
use Rattle.area_states.specs.declared.place.Place.{Place}
use Rattle.area_states.specs.Places.{IsPlace, LiesIn, has_anchor}
use Rattle.area_states.specs.States.{AreaState, HasState}
use Rattle.area_states.specs.Changes.{AreOrdered, HasListOf, KeepsLists, count_of, numbered_at, takes, with_change, with_insert, with_inserts, with_roots_at}
use Rattle.area_states.proofs.Numbering.{ordered_numbered}
use Rattle.area_states.proofs.Rooms.{count_here, count_other}
use Rattle.area_states.proofs.StateLemmas.{stored}

-- an anchor of the area, counted within it
pub in_area : (place : Place) (dedb anchor : ℕ) → has_anchor place dedb anchor ≡ true
    → (place.first_anchor ≤ anchor) × (anchor - place.first_anchor < anchor_count place.shape)
in_area place dedb anchor is =
    let low : place.first_anchor ≤ anchor = grind (arith, nat_tests) in
    let high : anchor < place.first_anchor + anchor_count place.shape = grind (arith, nat_tests) in
    (low, omega (arith, low, high))

-- a change of another area
pub other_change : (place : Place) (area : List (List ℕ)) (state : AreaState) (c : AnchorChange)
    → has_anchor place c.dedb c.anchor ≡ false → HasState place area state
    → HasState place area (with_change place state c)
other_change place area state c other was = rw other was

-- as `rewrite` answers
pub stored_ok : {T E : Type 0} (place : Place) (old mid new : List (List ℕ)) (anchor begin : ℕ)
    (roots kept : List Root) (state : AreaState) (r : Result T E) → IsPlace place → anchor < anchor_count place.shape
    → mid ≡ old → begin ≡ begin_of old → HasState place old state
    → AllByRecursion (HasListOf (state.roots anchor)) roots → AllZip (IsKeptAs begin) roots kept
    → OnOk r (HasRoots place.shape place.segments new anchor kept)
    → OnOk r (OthersKeep place.shape place.segments mid new anchor) → OnOk r (KeepsSequential place.shape mid new)
    → OnOk r (IsFormed place.shape place.segments new) → OnOk r (HasState place new (with_roots_at anchor roots state))
stored_ok place old mid new anchor begin roots kept state (Ok x) p below m b was own are here others keeps formed =
    stored place old new anchor roots kept state p below was own
    (subst (λ n. AllZip (IsKeptAs n) roots kept) b are) here
    (subst (λ area. OthersKeep place.shape place.segments area new anchor) m others)
    (subst (λ area. KeepsSequential place.shape area new) m keeps) formed
stored_ok place old mid new anchor begin roots kept state (Err e) p below m b was own are here others keeps formed =
    here

-- the roots that an anchor has, where its area stays
pub roots_stay : (place : Place) (old mid : List (List ℕ)) (anchor : ℕ) (roots : List Root) → mid ≡ old
    → HasRoots place.shape place.segments old anchor roots → HasRoots place.shape place.segments mid anchor roots
roots_stay place old mid anchor roots e has =
    subst (λ area. HasRoots place.shape place.segments area anchor roots) (sym e) has

pub state_stays : (place : Place) (old mid : List (List ℕ)) (state : AreaState) → mid ≡ old → HasState place old state
    → HasState place mid state
state_stays place old mid state e has = subst (λ area. HasState place area state) (sym e) has

-- the change of an anchor of this area
pub change_here : {T E : Type 0} (place : Place) (c : AnchorChange) (area : List (List ℕ)) (state : AreaState)
    (number : ℕ) (r : Result T E) → LiesIn place c.dedb c.anchor number
    → OnOk r (HasState place area (with_roots_at number c.roots state))
    → OnOk r (HasState place area (with_change place state c))
change_here place c area state number r lies h =
    let e : c.anchor - place.first_anchor ≡ number = let n = lies.is_number in omega (arith, n) in
    let P : ℕ → Type 0 = λ k. OnOk r (HasState place area (with_roots_at k c.roots state)) in
    rw lies.has (subst P (sym e) h)

pub lists_here : (place : Place) (c : AnchorChange) (state : AreaState) (number : ℕ)
    → LiesIn place c.dedb c.anchor number → KeepsLists place state c
    → AllByRecursion (HasListOf (state.roots number)) c.roots
lists_here place c state number lies keeps =
    let e : c.anchor - place.first_anchor ≡ number = let n = lies.is_number in omega (arith, n) in
    subst (λ k. AllByRecursion (HasListOf (state.roots k)) c.roots) e (keeps lies.has)

-- an insert keeps the keys in order
pub ordered_insert : (place : Place) (state : AreaState) (i : SeqInsert) → AreOrdered place state
    → AreOrdered place (with_insert place state i)
ordered_insert place state i ordered = elim (cases_Bool (takes place i)) [
  | inl is ↦ rw is (ordered_numbered place i state ordered)
  | inr other ↦ rw other ordered
]

pub begin_stays : (old mid : List (List ℕ)) → mid ≡ old → begin_of mid ≡ begin_of old
begin_stays old mid e = ap begin_of e

-- ---- inserts

pub insert_here : {T E : Type 0} (place : Place) (i : SeqInsert) (area : List (List ℕ)) (state : AreaState)
    (number : ℕ) (r : Result T E) → LiesIn place i.dedb i.anchor number
    → OnOk r (HasState place area (numbered_at place i state))
    → OnOk r (HasState place area (with_insert place state i))
insert_here place i area state number r lies h = rw lies.has h

pub insert_other : (place : Place) (i : SeqInsert) (area : List (List ℕ)) (state : AreaState)
    → has_anchor place i.dedb i.anchor ≡ false → HasState place area state
    → HasState place area (with_insert place state i)
insert_other place i area state other was = rw other was

-- where none is of this area nothing changes
pub none_inserted : (place : Place) (inserts : List SeqInsert) (state : AreaState) → count_of place inserts ≡ 0
    → with_inserts place inserts state ≡ state
none_inserted place [] state none = refl
none_inserted place (i ∷ inserts) state none = elim (cases_Bool (takes place i)) [
  | inl is ↦ (let n = count_here place i inserts is in absurd (omega (arith, n, none)))
  | inr other ↦
      let rest = none_inserted place inserts state (sym (count_other place i inserts other) ∙ none) in
      rw other rest
]
