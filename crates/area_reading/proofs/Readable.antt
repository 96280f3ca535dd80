-- What is read of an anchor, and when none of it is at fault.
use Rattle.std.proofs.Common.{◌≡◌, ℕ, zero, suc, ◌+◌, ◌<◌, ◌≤◌, List, [], ◌∷◌, ◌++◌, length, take, drop, refl, sym, ◌∙◌, ap, subst, arith}
use Rattle.std.specs.Prelude.{Some, slice_get}
use Rattle.std.specs.List.{AllZip}
use Rattle.fp_model.specs.declared.database.AreaEnds.{AreaEnds}
use Rattle.fp_model.specs.declared.database.Root.{Root}
use Rattle.root_anchor.specs.declared.places.RootPlace.{RootPlace}
use Rattle.root_anchor.specs.Chains.{anchor_count, newest}
use Rattle.root_anchor.specs.Formed.{HasRoots}
use Rattle.root_anchor.specs.Roots.{HasRootAt}
use Rattle.root_anchor.proofs.RootLemmas.{numbered_root}
use Rattle.root_anchor.proofs.Sound.{chain_sound}
use Rattle.seq_dependents.specs.Control.{IsKept, begin_of, end_of}
use Rattle.area_states.specs.declared.place.Place.{Place}
use Rattle.area_states.specs.Places.{part_of}
use Rattle.area_states.specs.States.{AreaState, HasAnchor, HasState, IsReadAs, newest_serial}
use Rattle.area_states.proofs.Readings.{newest_again}
use Rattle.area_states.proofs.StateLemmas.{not_at_fault}
use Rattle.area_reading.specs.Damage.{HasRootPastEnd, IsUnreadable, in_chain, in_part, in_root}
use Rattle.area_reading.specs.inside.Damage.{AreEndsOf}

-- ---- lists, one after another

pub this_one : {X : Type 0} (xs rest : List X) (n : ℕ) (x : X) → drop n xs ≡ x ∷ rest → slice_get xs n ≡ Some x
this_one [] rest zero x e = cc
this_one [] rest (suc n) x e = cc
this_one (y ∷ xs) rest zero x e = cc
this_one (y ∷ xs) rest (suc n) x e = this_one xs rest n x e

pub others_left : {X : Type 0} (xs rest : List X) (n : ℕ) (x : X) → drop n xs ≡ x ∷ rest → drop (n + 1) xs ≡ rest
others_left [] rest zero x e = cc
others_left [] rest (suc n) x e = cc
others_left (y ∷ xs) rest zero x e = cc
others_left {X} (y ∷ xs) rest (suc n) x e =
    let next : suc n + 1 ≡ suc (n + 1) = omega arith in
    ap (λ k. drop k (y ∷ xs)) next ∙ others_left xs rest n x e

pub one_taken : {X : Type 0} (xs rest : List X) (n : ℕ) (x : X) → drop n xs ≡ x ∷ rest
    → take (n + 1) xs ≡ take n xs ++ x ∷ []
one_taken [] rest zero x e = cc
one_taken [] rest (suc n) x e = cc
one_taken {X} (y ∷ xs) rest zero x e = let same : y ≡ x = cc in ap (λ (z : X). z ∷ []) same
one_taken {X} (y ∷ xs) rest (suc n) x e =
    let next : suc n + 1 ≡ suc (n + 1) = omega arith in
    ap (λ k. take k (y ∷ xs)) next ∙ ap (λ l. y ∷ l) (one_taken xs rest n x e)

pub all_taken : {X : Type 0} (xs : List X) (n : ℕ) → drop n xs ≡ [] → take n xs ≡ xs
all_taken [] zero e = refl
all_taken [] (suc n) e = refl
all_taken (x ∷ xs) zero e = cc
all_taken (x ∷ xs) (suc n) e = ap (λ l. x ∷ l) (all_taken xs n e)

pub within : {X : Type 0} (xs rest : List X) (n : ℕ) (x : X) → drop n xs ≡ x ∷ rest → n < length xs
within [] rest zero x e = cc
within [] rest (suc n) x e = cc
within (y ∷ xs) rest zero x e = omega arith
within (y ∷ xs) rest (suc n) x e = let l = within xs rest n x e in omega (arith, l)

zip_at : {X Y : Type 0} (P : X → Y → Type 0) (xs : List X) (ys : List Y) (n : ℕ) (x : X) → AllZip P xs ys
    → slice_get xs n ≡ Some x → (y : Y) × P x y
zip_at P [] ys n x all e = cc
zip_at P (a ∷ xs) [] n x all e = absurd all
zip_at {X} {Y} P (a ∷ xs) (b ∷ ys) zero x all e = let same : a ≡ x = cc in (b, subst (λ (z : X). P z b) same all.0)
zip_at P (a ∷ xs) (b ∷ ys) (suc n) x all e = zip_at P xs ys n x all.1 e

-- ---- one list

-- a serial below begin is an empty list
pub none_kept : (area : List (List ℕ)) (ends : AreaEnds) (serial : ℕ) → AreEndsOf area ends → serial < ends.begin
    → ¬ IsKept area serial
none_kept area ends serial are below k =
    let b = are.begin in
    let f = k.from_begin in
    omega (arith, b, f, below)

-- the root that is there has the serial that was said, past the end
pub root_past : (place : Place) (area : List (List ℕ)) (anchor number : ℕ) (kept : List Root) (root : Root)
    (there : RootPlace) → HasRoots place.shape place.segments area anchor kept → slice_get kept number ≡ Some root
    → end_of area ≤ newest_serial root.seqs → HasRootAt place.shape place.segments area anchor number there
    → HasRootPastEnd place area anchor there.ci
root_past place area anchor number kept root there has at past is =
    let found = numbered_root place.shape place.segments area anchor number there kept has.elements has.is_chain is in
    let both : Some found.0 ≡ Some root = sym found.1.0 ∙ at in
    let same : found.0 ≡ root = cc in
    let serial : newest_serial root.seqs ≡ there.newest =
    ap (λ (r : Root). newest_serial r.seqs) (sym same) ∙ ap newest_serial found.1.1 ∙ newest_again there.newest in
    record { number = number; root = there; has = is; here = refl; past = omega (arith, past, serial) }

-- ---- nothing is at fault

-- no root of an area with a state says a serial at or past the end
none_past : (place : Place) (area : List (List ℕ)) (anchor ci : ℕ) (roots : List Root)
    → HasAnchor place area anchor roots → HasRootPastEnd place area anchor ci → ⊥
none_past place area anchor ci roots has bad =
    let found = numbered_root place.shape place.segments area anchor bad.number bad.root has.kept has.has.elements
    has.has.is_chain bad.has in
    let read = zip_at (IsReadAs place area) has.kept roots bad.number found.0 has.lists found.1.0 in
    let serial : newest_serial found.0.seqs ≡ bad.root.newest =
    ap newest_serial found.1.1 ∙ newest_again bad.root.newest in
    let before = read.1.before_end in
    let past = bad.past in
    omega (arith, before, past, serial)

pub readable : (place : Place) (area : List (List ℕ)) (anchor ci : ℕ) (state : AreaState) → HasState place area state
    → anchor < anchor_count place.shape → IsUnreadable place area anchor ci → ⊥
readable place area anchor ci state has below (in_chain fails) = chain_sound (has.formed.chains anchor below) ci fails
readable place area anchor ci state has below (in_part fault) = not_at_fault (part_of place) area ci has.whole fault
readable place area anchor ci state has below (in_root bad) =
    none_past place area anchor ci (state.roots anchor) (has.anchors anchor below) bad

-- ---- as the calls answer

-- ends of an area that stays
pub ends_stay : (old mid : List (List ℕ)) (ends : AreaEnds) → mid ≡ old → AreEndsOf old ends → AreEndsOf mid ends
ends_stay old mid ends e are = subst (λ area. AreEndsOf area ends) (sym e) are

pub unreadable_stays : (place : Place) (old mid : List (List ℕ)) (anchor ci : ℕ) → mid ≡ old
    → IsUnreadable place mid anchor ci → IsUnreadable place old anchor ci
unreadable_stays place old mid anchor ci e bad = subst (λ area. IsUnreadable place area anchor ci) e bad
