-- The areas of the bank's definitions, what may be staged in them, and items that fit.
use Rattle.std.proofs.Common.{◌≡◌, inl, inr, ℕ, zero, suc, ◌<◌, ◌≤◌, ◌-◌, ◌+◌, ◌^◌, List, [], ◌∷◌, ◌++◌, length, map, true, false, refl, sym, ◌∙◌, ap, subst, arith}
use Rattle.std.specs.Prelude.{◌==◌, if◌then◌else◌, nat_lt, Bool, Some, None, slice_get}
use Rattle.std.specs.List.{AllByRecursion}
use Rattle.std.proofs.lemmas.Bool.{cases_Bool}
use Rattle.std.proofs.lemmas.Bool.Decides.{nat_tests}
use Rattle.fp_model.specs.declared.calls.AnchorChange.{AnchorChange}
use Rattle.fp_model.specs.declared.calls.SeqInsert.{SeqInsert}
use Rattle.fp_model.specs.declared.database.Root.{Root}
use Rattle.fp_model.specs.declared.definitions.AreaDef.{AreaDef}
use Rattle.fp_model.specs.declared.definitions.DedbDef.{DedbDef}
use Rattle.fp_model.specs.declared.definitions.Defs.{Defs}
use Rattle.fp_model.specs.declared.definitions.SegDef.{SegDef}
use Rattle.fp_model.specs.WellFormed.{AreDefs, has_sequential}
use Rattle.root_anchor.specs.Chains.{newest}
use Rattle.root_anchor.specs.Stored.{is_newest, is_storable}
use Rattle.area_states.specs.declared.place.Place.{Place}
use Rattle.area_states.specs.Changes.{IsInsertable, IsStorable, kept_root}
use Rattle.area_states.specs.Places.{place_at, place_of, places_from, places_of}
use Rattle.fp_model.specs.State.{anchors_in, areas_from}
use Rattle.fp_model.specs.declared.log.Item.{Item}
use Rattle.fp_model.specs.declared.log.Item.TheVariants.{Segment, Image, Range}
use Rattle.fp_model.specs.LogText.{FitsItem}
use Rattle.dedb_area.specs.Applying.{IsFitImage, IsFitInterval}
use Rattle.area_states.specs.States.{newest_serial}
use Rattle.dedb_area.specs.Committing.{MayStage}
use Rattle.area_runs.specs.Types.{AreCustomerTypes}
use Rattle.area_runs.specs.Bank.{FitsBank, HasArea, HasBank, HasCustomers, IsBank, IsBankArea, IsBankDedb, IsNote, KeepsNotes}

-- ---- what may be staged

pub newest_fits : (types : List SegDef) (serial : ℕ) → has_sequential types ≡ true → is_newest types (newest serial) ≡ true
newest_fits types serial has = elim (cases_Bool (serial == 0)) [
  | inl none ↦ rw none refl
  | inr some ↦ (let lt : nat_lt 0 serial ≡ true = grind (arith, nat_tests) in rw some (rw (has, lt) refl))
]

pub customer_storable : (types : List SegDef) → AreCustomerTypes types → (root : Root) → length root.bytes ≡ 16
    → root.children ≡ [] ∷ [] → is_storable types (kept_root root) ≡ true
customer_storable types are root long none =
    let bytes = are.root root.bytes long in
    let list = newest_fits types (newest_serial root.seqs) are.serials in
    rw (bytes, are.below_root, none, list) refl

pub storable : (place : Place) → AreCustomerTypes place.segments → (changes : List AnchorChange)
    → AllByRecursion HasCustomers changes → AllByRecursion (IsStorable place) changes
storable place are [] all = tt
storable place are (c ∷ cs) all = (λ _. all.0 place.segments are, storable place are cs all.1)

pub insertable : (place : Place) → IsBankArea place → (inserts : List SeqInsert) → AllByRecursion IsNote inserts
    → AllByRecursion (IsInsertable place) inserts
insertable place area [] all = tt
insertable place area (i ∷ is) all =
    (λ _. (area.some, all.0 ∙ sym area.customers.notes), insertable place area is all.1)

pub may_stage : (defs : Defs) (changes : List AnchorChange) (inserts : List SeqInsert) → IsBank defs
    → AllByRecursion HasCustomers changes → AllByRecursion IsNote inserts → MayStage (places_of defs) changes inserts
may_stage defs changes inserts bank customers notes = record {
  storable = λ set place is. storable place (bank.each set place is).customers changes customers;
  insertable = λ set place is. insertable place (bank.each set place is) inserts notes;
}

-- ---- the areas of the definitions

all_at : (xs : List Place) (n : ℕ) (place : Place) → AllByRecursion IsBankArea xs → slice_get xs n ≡ Some place
    → IsBankArea place
all_at [] n place all e = absurd (let no : None ≡ Some place = e in cc)
all_at (x ∷ xs) zero place all e =
    let same : Some x ≡ Some place = e in
    let is : x ≡ place = cc in
    subst IsBankArea is all.0
all_at (x ∷ xs) (suc n) place all e = all_at xs n place all.1 e

placed_at : (places : List Place) (set : ℕ) (place : Place) → AllByRecursion IsBankArea places
    → place_at places set ≡ Some place → IsBankArea place
placed_at places set place all e = by (nat_lt set 3) e
  where
    by : (b : Bool) → (if b then None else slice_get places (set - 3)) ≡ Some place → IsBankArea place
    by true e = absurd (let no : None ≡ Some place = e in cc)
    by false e = all_at places (set - 3) place all e

has_area : (ps : List Place) (set : ℕ) → AllByRecursion IsBankArea ps → length ps ≡ 2 → 3 ≤ set → set ≤ 4
    → HasArea ps set
has_area [] set all two from to = absurd (omega (arith, two))
has_area (p ∷ []) set all two from to = absurd (omega (arith, two))
has_area (p ∷ q ∷ []) (suc (suc (suc zero))) all two from to =
    record { place = p; is_place = refl; area = all.0 }
has_area (p ∷ q ∷ []) (suc (suc (suc (suc zero)))) all two from to =
    record { place = q; is_place = refl; area = all.1.0 }
has_area (p ∷ q ∷ []) set all two from to = absurd (omega (arith, from, to))
has_area (p ∷ q ∷ r ∷ ps) set all two from to = absurd (omega (arith, two))

pub customer_types : (r s l : SegDef) → r.parent ≡ None → r.sequential ≡ false → r.length ≡ 16 → s.parent ≡ Some 0
    → s.sequential ≡ true → s.length ≡ 8 → l.parent ≡ Some 0 → l.sequential ≡ false → l.length ≡ 6
    → AreCustomerTypes (r ∷ s ∷ l ∷ [])
customer_types r s l rp rs rl sp ss sl lp ls ll = record {
  below_root = rw (rp, sp, ss, lp, ls) refl;
  below_loan = rw (rp, sp, lp) refl;
  root = λ bytes long. rw (long, rl) refl;
  loan = λ bytes long. rw (long, ll) refl;
  serials = rw (rs, ss) refl;
  notes = rw (rs, ss, sl) refl;
}

each_area : (d : DedbDef) → AreCustomerTypes d.segments → d.ci ≡ 512 → (number before : ℕ) (areas : List AreaDef)
    → AllByRecursion KeepsNotes areas
    → AllByRecursion IsBankArea (map (place_of d) (areas_from 0 number before areas) ++ [])
each_area d types size number before [] all = tt
each_area d types size number before (a ∷ areas) all = (
  record { customers = types; some = all.0; size = size },
  each_area d types size (number + 1) (before + anchors_in a) areas all.1,
)

as_many : (d : DedbDef) (number before : ℕ) (areas : List AreaDef)
    → length (map (place_of d) (areas_from 0 number before areas) ++ []) ≡ length areas
as_many d number before [] = refl
as_many d number before (a ∷ areas) = ap suc (as_many d (number + 1) (before + anchors_in a) areas)

record AreTwo (places : List Place) : Type 0 where
  all : AllByRecursion IsBankArea places
  two : length places ≡ 2

are_two : (dedbs : List DedbDef) → length dedbs ≡ 1 → AllByRecursion IsBankDedb dedbs → AreTwo (places_from 0 dedbs)
are_two [] one all = absurd (omega (arith, one))
are_two (d ∷ []) one all = record {
  all = each_area d all.0.types all.0.size 0 0 d.areas all.0.notes;
  two = as_many d 0 0 d.areas ∙ all.0.two;
}
are_two (d ∷ e ∷ ds) one all = absurd (omega (arith, one))

pub is_bank : (defs : Defs) → AreDefs defs → length defs.dedbs ≡ 1 → AllByRecursion IsBankDedb defs.dedbs → IsBank defs
is_bank defs are one all =
    let these = are_two defs.dedbs one all in
    record {
      defined = are;
      each = λ set place e. placed_at (places_of defs) set place these.all e;
      areas = λ set from to. has_area (places_of defs) set these.all these.two from to;
    }

-- ---- items

spelled : (item : Item) → FitsBank item → FitsItem item
spelled (Segment msdb key bytes) fits = absurd fits
spelled (Image set ci bytes) fits = omega (arith, fits.2)
spelled (Range set ci at bytes) fits = (fits.0, omega (arith, fits.1))

pub all_spelled : (items : List Item) → AllByRecursion FitsBank items → AllByRecursion FitsItem items
all_spelled [] all = tt
all_spelled (item ∷ items) all = (spelled item all.0, all_spelled items all.1)

fits_image : (places : List Place) (set ci : ℕ) (bytes : List ℕ) → HasArea places set → length bytes ≡ 512
    → ci < 2 ^ 40 → IsFitInterval places set ci (length bytes)
fits_image places set ci bytes has is below =
    let own = has.area.size in
    record {
      place = has.place;
      is_place = has.is_place;
      is_size = is ∙ sym own;
      ends = rw is (omega (arith, below));
    }

fits_item : (defs : Defs) (places : List Place) → HasBank defs places → (item : Item) → FitsBank item
    → IsFitImage places item
fits_item defs places bank (Segment msdb key bytes) fits = absurd fits
fits_item defs places bank (Image set ci bytes) fits =
    fits_image places set ci bytes
    (subst (λ ps. HasArea ps set) (sym bank.1) (bank.0.areas set fits.0 fits.1)) fits.2 fits.3
fits_item defs places bank (Range set ci at bytes) fits = tt

pub all_images : (defs : Defs) (places : List Place) → HasBank defs places → (items : List Item)
    → AllByRecursion FitsBank items → AllByRecursion (IsFitImage places) items
all_images defs places bank [] all = tt
all_images defs places bank (item ∷ items) all =
    (fits_item defs places bank item all.0, all_images defs places bank items all.1)
