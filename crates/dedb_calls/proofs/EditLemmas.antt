-- Edits of an anchor: what they leave of all else, what fits after them, and what the transaction keeps to itself then.
use Rattle.std.proofs.Common.{◌≡◌, ℕ, List, [], ◌∷◌, length, Some, None, refl, sym, ◌∙◌, ap, subst, Bool, true, false, ◌&&◌, ◌==◌, slice_get, slice_set, unwrap_or, arith}
use Rattle.std.specs.Prelude.{filter, if◌then◌else◌, is_some, not}
use Rattle.fp_model.specs.declared.calls.AnchorChange.{AnchorChange}
use Rattle.fp_model.specs.declared.calls.SeqInsert.{SeqInsert}
use Rattle.fp_model.specs.declared.database.Db.{Db}
use Rattle.fp_model.specs.declared.database.Root.{Root}
use Rattle.fp_model.specs.declared.definitions.DedbDef.{DedbDef}
use Rattle.fp_model.specs.DedbCalls.{goes_with, root_key_of, with_change, with_position}
use Rattle.fp_model.specs.Order.{Place}
use Rattle.fp_model.specs.Shape.{is_anchor}
use Rattle.fp_model.specs.State.{roots_at}
use Rattle.fp_model.specs.Texts.{same_text}
use Rattle.fp_model.specs.Workspace.{DedbPosition, Workspace, no_dedb_position, put_change}
use Rattle.dli_tree.specs.InOrder.{any_ends}
use Rattle.dedb_calls.specs.Anchors.{Sees, changes_in, held_at}
use Rattle.dedb_calls.specs.inside.Anchors.{IsEdited}
use Rattle.dedb_calls.specs.inside.Inserts.{IsEditedTo}
use Rattle.dedb_calls.specs.Progress.{DedbProgress, FitsDedb, GoesOn, held_in, position_in, with_progress}
use Rattle.dedb_calls.specs.inside.Progress.{with_position_at}
use Rattle.dedb_calls.specs.declared.anchors.HeldAnchor.{HeldAnchor}
use Rattle.dedb_calls.proofs.SeenLemmas.{differ}
use Rattle.plain_laws.proofs.Numbers.{both_numbers, other_number, same_number}
use Rattle.std.proofs.lemmas.Bool.{and_left}
use Rattle.plain_laws.proofs.Places.{get_other, get_set, length_set}
use Rattle.std.proofs.lemmas.Option.{same_Some}

module _ (dedb anchor : ℕ) (roots : List Root) (p : DedbPosition) (inserts : List SeqInsert) (old new : DedbProgress)
    (e : IsEditedTo dedb anchor roots p inserts old new) where
  abbrev one : HeldAnchor
  one = record { dedb = dedb; anchor = anchor; roots = roots; is_changed = true }

  -- what is held of the anchor itself
  itself : (d n : ℕ) → (d == dedb && n == anchor) ≡ true → held_at new.anchors d n ≡ Some one
  itself d n same =
      let names = both_numbers d n dedb anchor same in
      ap (λ k. held_at new.anchors k n) names.0 ∙ ap (λ k. held_at new.anchors dedb k) names.1 ∙ e.anchors.there

  before : (a : HeldAnchor) → held_at old.anchors dedb anchor ≡ Some a → (d n : ℕ)
      → (d == dedb && n == anchor) ≡ true → held_at old.anchors d n ≡ Some a
  before a at d n same =
      let names = both_numbers d n dedb anchor same in
      ap (λ k. held_at old.anchors k n) names.0 ∙ ap (λ k. held_at old.anchors dedb k) names.1 ∙ at

  pub edited_goes : (a : HeldAnchor) → held_at old.anchors dedb anchor ≡ Some a → GoesOn dedb old new
  edited_goes a at = record {
    count = ap (λ (ps : List DedbPosition). length ps) e.positions ∙ length_set old.positions dedb p;
    order = λ up. e.anchors.order;
    positions = λ d other.
        ap (λ (ps : List DedbPosition). slice_get ps d) e.positions
        ∙ get_other old.positions dedb d p (differ d dedb other);
    anchors = λ d n other. e.anchors.others d n (and_left (d == dedb) (n == anchor) other);
    known = λ d n. known d n (d == dedb && n == anchor) refl;
    sees = λ db sees d n x there stays. seen db sees d n x there stays (d == dedb && n == anchor) refl;
  }
    where
      known : (d n : ℕ) (b : Bool) → (d == dedb && n == anchor) ≡ b
          → is_some (held_at new.anchors d n) ≡ is_some (held_at old.anchors d n)
      known d n true same = ap is_some (itself d n same) ∙ sym (ap is_some (before a at d n same))
      known d n false other = ap is_some (e.anchors.others d n other)

      seen : (db : Db) → Sees db old.anchors → (d n : ℕ) (x : HeldAnchor) → held_at new.anchors d n ≡ Some x
          → x.is_changed ≡ false → (b : Bool) → (d == dedb && n == anchor) ≡ b → roots_at db d n ≡ x.roots
      seen db sees d n x there stays true same =
          let its : one ≡ x = same_Some one x (sym (itself d n same) ∙ there) in
          absurd (true_false (ap (λ (z : HeldAnchor). z.is_changed) its ∙ stays))
        where
          true_false : true ≡ false → ⊥
          true_false f = cc
      seen db sees d n x there stays false other = sees d n x (sym (e.anchors.others d n other) ∙ there) stays

  pub edited_fits : (def : DedbDef) → FitsDedb def dedb old → is_anchor def anchor any_ends roots ≡ true
      → p.held ≡ false → FitsDedb def dedb new
  edited_fits def fits good free = record {
    counted =
        let count = ap (λ (ps : List DedbPosition). length ps) e.positions ∙ length_set old.positions dedb p in
        let less = fits.counted in
        omega (arith, count, less);
    shapes = λ n x there. shape n x there (dedb == dedb && n == anchor) refl;
    place = λ place held. absurd (none place held);
  }
    where
      shape : (n : ℕ) (x : HeldAnchor) → held_at new.anchors dedb n ≡ Some x → (b : Bool)
          → (dedb == dedb && n == anchor) ≡ b → is_anchor def n any_ends x.roots ≡ true
      shape n x there true same =
          let its : one ≡ x = same_Some one x (sym (itself dedb n same) ∙ there) in
          let number = (both_numbers dedb n dedb anchor same).1 in
          subst (λ (z : HeldAnchor). is_anchor def n any_ends z.roots ≡ true) its
          (subst (λ k. is_anchor def k any_ends roots ≡ true) (sym number) good)
      shape n x there false other = fits.shapes n x (sym (e.anchors.others dedb n other) ∙ there)

      its_position : position_in new dedb ≡ p
      its_position =
          ap (λ (ps : List DedbPosition). unwrap_or (slice_get ps dedb) no_dedb_position) e.positions
          ∙ ap (λ o. unwrap_or o no_dedb_position) (get_set old.positions dedb p fits.counted)

      none : (place : Place) → held_in new dedb ≡ Some place → ⊥
      none place held =
          let f : None ≡ Some place =
          sym (ap (λ (q : DedbPosition). if q.held then q.place else None) its_position
          ∙ ap (λ b. if b then p.place else None) free) ∙ held in
          cc

  abbrev keeps : Workspace → List DedbPosition → List AnchorChange → List SeqInsert → Workspace
  keeps own ps cs queue = record own { dedbs = ps; changes = cs; inserts = queue }

  -- what the transaction keeps to itself
  pub edited_own : (def : DedbDef) (own : Workspace) → with_progress new own
      ≡ record (with_position def dedb p (with_change def dedb anchor roots (with_progress old own)))
      { inserts = inserts }
  edited_own def own =
      ap (λ (ps : List DedbPosition). keeps own ps (changes_in new.anchors) new.inserts) e.positions
      ∙ ap (λ (cs : List AnchorChange). keeps own (slice_set old.positions dedb p) cs new.inserts) e.anchors.changes
      ∙ ap (λ (queue : List SeqInsert). keeps own (slice_set old.positions dedb p)
      (put_change (record { dedb = dedb; anchor = anchor; roots = roots }) (changes_in old.anchors)) queue) e.inserts

-- ---- deletions

-- an edit, then fewer inserts, then no parent
pub deleted_to : (dedb anchor : ℕ) (roots : List Root) (queue : List SeqInsert) (old mid late new : DedbProgress)
    → IsEdited dedb anchor roots old.anchors mid.anchors → mid.positions ≡ old.positions
    → late.positions ≡ mid.positions → late.anchors ≡ mid.anchors → late.inserts ≡ queue
    → new ≡ with_position_at dedb (record (position_in late dedb) { parent = None; held = false }) late
    → IsEditedTo dedb anchor roots (record (position_in old dedb) { parent = None; held = false }) queue old new
deleted_to dedb anchor roots queue old mid late new edit places places2 same inserts is = record {
  anchors =
      subst (λ (xs : List HeldAnchor). IsEdited dedb anchor roots old.anchors xs)
      (sym (ap (λ (w : DedbProgress). w.anchors) is ∙ same)) edit;
  positions =
      ap (λ (w : DedbProgress). w.positions) is
      ∙ ap (λ (ps : List DedbPosition). slice_set ps dedb
      (record (unwrap_or (slice_get ps dedb) no_dedb_position) { parent = None; held = false })) (places2 ∙ places);
  inserts = ap (λ (w : DedbProgress). w.inserts) is ∙ inserts;
}

filter_all : {X : Type 0} (p : X → Bool) (xs : List X) → ((x : X) → p x ≡ true) → xs ≡ filter p xs
filter_all p [] all = refl
filter_all {X} p (x ∷ xs) all =
    ap (λ rest. x ∷ rest) (filter_all p xs all) ∙ sym (ap (λ b. if b then x ∷ filter p xs else filter p xs) (all x))

filter_same_test : {X : Type 0} (p q : X → Bool) (xs : List X) → ((x : X) → p x ≡ q x) → filter p xs ≡ filter q xs
filter_same_test p q [] same = refl
filter_same_test {X} p q (x ∷ xs) same =
    ap (λ b. if b then x ∷ filter p xs else filter p xs) (same x)
    ∙ ap (λ rest. if q x then x ∷ rest else rest) (filter_same_test p q xs same)

-- below a place that is no root no insert goes with it
pub none_goes : (def : DedbDef) (dedb : ℕ) (at : Place) (xs : List SeqInsert) → (length at.path ≡ 1 → ⊥)
    → xs ≡ filter (λ i. not (goes_with def dedb at i)) xs
none_goes def dedb at xs deep =
    filter_all (λ i. not (goes_with def dedb at i)) xs
    (λ i. ap (λ b. not (b && i.dedb == dedb && i.anchor == at.anchor && same_text i.key (root_key_of def dedb at.path)))
    (other_number (length at.path) 1 deep))

-- those of a root's key and anchor do
pub those_go : (def : DedbDef) (dedb : ℕ) (at : Place) (xs : List SeqInsert) (anchor : ℕ) (key : List ℕ)
    → length at.path ≡ 1 → anchor ≡ at.anchor → key ≡ root_key_of def dedb at.path
    → filter (λ i. not (i.dedb == dedb && i.anchor == anchor && same_text i.key key)) xs
    ≡ filter (λ i. not (goes_with def dedb at i)) xs
those_go def dedb at xs anchor key one same same_key =
    filter_same_test (λ i. not (i.dedb == dedb && i.anchor == anchor && same_text i.key key))
    (λ i. not (goes_with def dedb at i)) xs
    (λ i. ap (λ k. not (i.dedb == dedb && i.anchor == k && same_text i.key key)) same
    ∙ ap (λ k. not (i.dedb == dedb && i.anchor == at.anchor && same_text i.key k)) same_key
    ∙ sym (ap (λ b. not (b && i.dedb == dedb && i.anchor == at.anchor && same_text i.key (root_key_of def dedb
    at.path)))
    (same_number (length at.path) 1 one)))
