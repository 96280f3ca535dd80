-- Sequential parts for segments of eight bytes: an interval of 512 bytes has twenty slots.
use Rattle.std.proofs.Common.{◌≡◌, ℕ, ◌<◌, ◌≤◌, ◌*◌, ◌-◌, ◌/◌, ◌+◌, List, [], ◌∷◌, length, true, false, All, refl, sym, ◌∙◌, arith}
use Rattle.std.specs.Prelude.{◌&&◌, Bool}
use Rattle.anchor_elements.specs.Elements.{AreTypes}
use Rattle.area_states.specs.declared.place.Place.{Place}
use Rattle.area_states.specs.Places.{IsPlace, sequential_length}
use Rattle.ci_space.specs.declared.intervals.Shape.{Shape}
use Rattle.seq_dependents.specs.Puts.{segment_size}
use Rattle.seq_dependents.specs.Slots.{HoldsCapacity, slots_each, part_of}
use Rattle.seq_dependents.specs.declared.part.Part.{Part}
use Rattle.std.specs.List.{AllByRecursion}
use Rattle.fp_model.specs.declared.calls.AnchorChange.{AnchorChange}
use Rattle.fp_model.specs.declared.calls.SeqInsert.{SeqInsert}
use Rattle.fp_model.specs.declared.database.Root.{Root}
use Rattle.fp_model.specs.declared.definitions.SegDef.{SegDef}
use Rattle.fp_model.specs.Order.{child_types}
use Rattle.fp_model.specs.Shape.{has_length}
use Rattle.root_anchor.specs.Chains.{newest}
use Rattle.root_anchor.specs.Stored.{is_newest, is_storable, rows_have_form}
use Rattle.area_states.specs.Changes.{IsInsertable, IsStorable, kept_root}
use Rattle.area_states.specs.States.{newest_serial}
use Rattle.area_runs.specs.Bank.{HasCustomers, IsNote}
use Rattle.area_runs.specs.Types.{AreCustomerTypes}
use Rattle.area_runs.proofs.BankLemmas.{insertable, newest_fits, storable}
use Rattle.area_tests.specs.Lone.{IsLonePlace}

twenty : (ci n segment capacity : ℕ) → ci ≡ 512 → segment ≡ 8 → capacity ≤ n * 20
    → capacity ≤ n * ((ci - 32) / (16 + segment))
twenty ci n segment capacity c s fit = rw (c, s) fit

holds_part : (part : Part) → part.shape.ci ≡ 512 → part.segment ≡ 8 → 0 < part.capacity
    → part.capacity ≤ part.shape.seq_cis * 20 → HoldsCapacity part
unfolding slots_each
holds_part part c s some fit = record {
  some = some;
  fits = twenty part.shape.ci part.shape.seq_cis part.segment part.capacity c s fit;
}

-- ---- a hundred slots

pub holds : (shape : Shape) (segment : ℕ) → shape.ci ≡ 512 → shape.seq_cis ≡ 5 → segment ≡ 8
    → HoldsCapacity (part_of shape 100 segment)
holds shape segment c n s = holds_part (part_of shape 100 segment) c s (omega arith) (omega (arith, n))

first_size : (items : List (List ℕ)) → 0 < length items → All (λ item. length item ≡ 8) items → segment_size items ≡ 8
first_size [] l a = absurd (omega arith)
first_size (item ∷ items) l a = a 0 [] (omega arith)

pub holds_items : (shape : Shape) (items : List (List ℕ)) → shape.ci ≡ 512 → shape.seq_cis ≡ 5 → 0 < length items
    → All (λ item. length item ≡ 8) items → HoldsCapacity (part_of shape 100 (segment_size items))
holds_items shape items c n l a = holds shape (segment_size items) c n (first_size items l a)

pub are_whole : (items : List (List ℕ)) → 0 < length items → All (λ item. length item ≡ 8) items
    → All (λ item. length item ≡ segment_size items) items
are_whole items l a k d b = a k d b ∙ sym (first_size items l a)

-- ---- an area of its own

pub is_lone_place : (place : Place) → place.shape.ci ≡ 512 → place.shape.uows ≡ 1 → place.shape.base ≡ 2
    → place.shape.seq_cis ≡ 4 → place.capacity ≡ 5 → AreTypes 512 place.segments → AreCustomerTypes place.segments
    → IsLonePlace place
is_lone_place place c u b n k types customers =
    let some : 0 < place.capacity = omega (arith, k) in
    let fit : place.capacity ≤ place.shape.seq_cis * 20 = omega (arith, k, n) in
    record {
      is_place = record {
        size = rw c refl;
        base = omega (arith, b);
        types = rw c types;
        sequential = λ _. customers.serials;
        slots = λ _. holds_part (record { shape = place.shape; capacity = place.capacity; segment = sequential_length place.segments }) c customers.notes some fit;
      };
      area = record { customers = customers; some = some; size = c };
      size = sym c;
      types = types;
      anchors = rw (u, b) refl;
      slots = holds_part (record { shape = place.shape; capacity = place.capacity; segment = 8 }) c refl some fit;
    }

in_place_of_last : (a b c d : Bool) → (a && b && c) ≡ true → d ≡ true → (a && b && d) ≡ true
in_place_of_last true true c d all is = is
in_place_of_last true false c d all is = all
in_place_of_last false b c d all is = all

pub kept_storable : (types : List SegDef) → AreCustomerTypes types → (root : Root) → is_storable types root ≡ true
    → is_storable types (kept_root root) ≡ true
kept_storable types are root is =
    in_place_of_last (has_length types 0 root.bytes) (rows_have_form types (child_types types 0) root.children)
    (is_newest types root.seqs) (is_newest types (newest (newest_serial root.seqs))) is
    (newest_fits types (newest_serial root.seqs) are.serials)

pub lone_storable : (place : Place) → IsLonePlace place → (changes : List AnchorChange)
    → AllByRecursion HasCustomers changes → AllByRecursion (IsStorable place) changes
lone_storable place lone changes all = storable place lone.area.customers changes all

pub lone_insertable : (place : Place) → IsLonePlace place → (inserts : List SeqInsert)
    → AllByRecursion IsNote inserts → AllByRecursion (IsInsertable place) inserts
lone_insertable place lone inserts all = insertable place lone.area inserts all
