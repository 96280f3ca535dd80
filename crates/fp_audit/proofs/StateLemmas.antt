-- The states of a history, one more of them, and those where nothing changed.
use Rattle.std.proofs.Common.{◌≡◌, ◌∙◌, refl, sym, ap, ℕ, zero, suc, ◌+◌, ◌<◌, ◌≤◌, List, [], ◌∷◌, ◌++◌, length, take, drop, Some, None, Bool, true, false, arith, ◌⊎◌, inl, inr, length-append}
use Rattle.std.proofs.lemmas.Bool.{cases_lt}
use Rattle.std.specs.Prelude.{OnOk, Result, Ok, Err, slice_get, if◌then◌else◌}
use Rattle.std.specs.List.{AllByRecursion}
use Rattle.fp_model.specs.declared.database.Db.{Db}
use Rattle.fp_model.specs.declared.database.Dedb.{Dedb}
use Rattle.fp_model.specs.declared.database.Msdb.{Msdb}
use Rattle.fp_model.specs.declared.definitions.Defs.{Defs}
use Rattle.fp_model.specs.declared.log.Entry.{Entry}
use Rattle.fp_model.specs.Commit.{purged}
use Rattle.fp_model.specs.History.{History, place_of, states_of, with_entry}
use Rattle.past_anchors.specs.Databases.{AreDedbsOf, state_of}
use Rattle.past_replay.specs.States.{AreStatesOf, state_at}
use Rattle.past_segments.specs.Pasts.{databases_at}
use Rattle.past_segments.specs.Times.{IsSettledBy, Past}
use Rattle.fp_model.specs.SerialHistory.{NeverFalls}
use Rattle.fp_audit.specs.inside.Judging.{Finds, Keeps, Stands}
use Rattle.fp_audit.specs.Setup.{AreReady}
use Rattle.fp_audit.specs.declared.so_far.SoFar.{SoFar}
use Rattle.std.proofs.Math.ListN.{drop_of_length-le}
use Rattle.std.proofs.lemmas.List.{append-nil}
use Rattle.past_settling.proofs.BackLemmas.{ends_later}
use Rattle.past_replay.proofs.SettledLemmas.{shows_next}
use Rattle.plain_laws.proofs.Lists.{take_whole}

-- the place of the next entry goes up by one
pub place_more : (h : History) (e : Entry) (next : Db) → place_of (with_entry e next h) ≡ place_of h + 1
place_more h e next = length-append h.entries (e ∷ [])

-- ---- nothing changed

-- where nothing stands from behind a place, the state of the next one is the same
same_state : (place : ℕ) (pasts : List Past) (dedbs : List Dedb) → AllByRecursion (IsSettledBy place) pasts
    → state_at (place + 1) pasts dedbs ≡ state_at place pasts dedbs
same_state place pasts dedbs all = ap (λ (ms : List Msdb). state_of ms dedbs) (shows_next place pasts all)

-- and the next entry may be judged there, with data entry databases in shape
pub ready_later : (defs : Defs) (place : ℕ) (pasts : List Past) (dedbs others : List Dedb)
    → AreReady defs place pasts dedbs → AreDedbsOf defs others → AreReady defs (place + 1) pasts others
ready_later defs place pasts dedbs others ready shape =
    record { are = ready.are; settled = ends_later place pasts ready.settled; shape = shape }

-- an entry that changes nothing keeps all
pub keeps_same : (it : SoFar) → Keeps it it
keeps_same it =
    record { requests = refl; place = refl; defs = refl; scripts = refl; before = λ p le. refl }

pub next_ready : (it : SoFar) → AreReady it.defs.now it.place it.pasts.items it.anchors
    → AreReady it.defs.now (it.place + 1) it.pasts.items it.anchors
next_ready it ready = ready_later it.defs.now it.place it.pasts.items it.anchors it.anchors ready ready.shape

-- what holds whatever the answer is
pub on_any : {A E : Type 0} {P : Type 0} (r : Result A E) → P → OnOk r P
on_any (Ok a) p = p
on_any (Err e) p = tt

-- the state of the next place is the one now
pub stays_now : (it : SoFar) (h : History) → AreReady it.defs.now it.place it.pasts.items it.anchors → Stands it h
    → state_at (it.place + 1) it.pasts.items it.anchors ≡ h.now
stays_now it h ready stands = same_state it.place it.pasts.items it.anchors ready.settled ∙ sym stands.states.here

-- ---- notes

from_within : (from place : ℕ) (notes : List ℕ) → NeverFalls from notes place → from ≤ place
from_within from place [] order = order
from_within from place (note ∷ notes) order = omega (arith, order.0, from_within note place notes order.1)

-- notes that never fall lie within the place
pub notes_within : (from place : ℕ) (notes : List ℕ) → NeverFalls from notes place
    → AllByRecursion (λ note. note ≤ place) notes
notes_within from place [] order = tt
notes_within from place (note ∷ notes) order =
    (from_within note place notes order.1, notes_within note place notes order.1)

-- ---- a slice of a list

-- a list whose slice was changed is the slice, where it is as long
pub all_changed : {X : Type 0} (old new : List X) (n : ℕ) → length new ≡ length old → n ≡ length old
    → take n (new ++ drop (length new) old) ≡ new
all_changed old new n long is =
    ap (λ (rest : List _). take n (new ++ rest)) (drop_of_length-le old (omega (arith, long)))
    ∙ ap (λ (k : ℕ). take k (new ++ [])) (is ∙ sym long)
    ∙ ap (take (length new)) (append-nil new)
    ∙ take_whole new (length new) (omega arith)

-- ---- one more

at_front : {X : Type 0} (xs : List X) (x : X) (p : ℕ) → p < length xs → slice_get (xs ++ x ∷ []) p ≡ slice_get xs p
at_front [] x p lt = absurd (omega (arith, lt))
at_front (y ∷ xs) x zero lt = refl
at_front (y ∷ xs) x (suc p) lt = at_front xs x p (omega (arith, lt))

at_end : {X : Type 0} (xs : List X) (x y : X) (p : ℕ) → length xs ≤ p → slice_get (xs ++ x ∷ []) p ≡ Some y
    → (p ≡ length xs) × (y ≡ x)
at_end [] x y zero le e = (refl, cc)
at_end [] x y (suc p) le e = absurd (cc)
at_end (z ∷ xs) x y zero le e = absurd (omega (arith, le))
at_end (z ∷ xs) x y (suc p) le e = let r = at_end xs x y p (omega (arith, le)) e in (omega (arith, r.0), r.1)

-- the states with the next one
pub states_more : (old new : List Past) (dedbs others : List Dedb) (place : ℕ) (h : History) (e : Entry) (next : Db)
    → AreStatesOf old dedbs place h.now (states_of h)
    → ((p : ℕ) → p ≤ place → databases_at p new ≡ databases_at p old)
    → next ≡ state_at (place + 1) new others
    → AreStatesOf new others (place + 1) next (states_of (with_entry e next h))
states_more old new dedbs others place h e next are before is = record {
  here = is;
  count = length-append (states_of h) (next ∷ []) ∙ ap (λ n. n + 1) are.count;
  each = λ p state at. by p state at (cases_lt p (length (states_of h)));
}
  where
    by : (p : ℕ) (state : Db) → slice_get (states_of h ++ next ∷ []) p ≡ Some state
        → (p < length (states_of h)) ⊎ (length (states_of h) ≤ p) → state.msdbs ≡ databases_at p new
    by p state at (inl lt) =
        are.each p state (sym (at_front (states_of h) next p lt) ∙ at) ∙ sym (before p (omega (arith, lt, are.count)))
    by p state at (inr le) =
        let r = at_end (states_of h) next state p le at in
        let same_place : place + 1 ≡ p = omega (arith, r.0, are.count) in
        ap (λ (db : Db). db.msdbs) (r.1 ∙ is) ∙ ap (λ (q : ℕ). databases_at q new) same_place

-- ---- a purge

none_is : (x : Db) → None ≡ Some x → ⊥
none_is x e = cc

-- what it makes of the state at a place
pub purge_found : (defs : Defs) (set n place : ℕ) (pasts : List Past) (old new : List Dedb) (now : Db) (b : Bool)
    → AllByRecursion (IsSettledBy place) pasts
    → now ≡ state_at place pasts old
    → purged defs set n (state_of (databases_at place pasts) old)
    ≡ (if b then Some (state_of (databases_at place pasts) new) else None)
    → Finds (λ next. purged defs set n now ≡ Some next) (state_at (place + 1) pasts new) b
purge_found defs set n place pasts old new now true settled here is =
    ap (purged defs set n) here ∙ is ∙ ap Some (sym (same_state place pasts new settled))
purge_found defs set n place pasts old new now false settled here is = λ other so.
    none_is other (sym is ∙ sym (ap (purged defs set n) here) ∙ so)
