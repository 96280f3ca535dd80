-- A list, a root and an anchor are read in one way.
use Rattle.std.proofs.Common.{◌≡◌, inl, inr, ℕ, ◌<◌, ◌≤◌, List, [], ◌∷◌, Contains, refl, sym, ◌∙◌, ap, subst, arith}
use Rattle.std.specs.Prelude.{◌==◌}
use Rattle.std.specs.List.{AllZip, AllByRecursion}
use Rattle.std.proofs.lemmas.Bool.{cases_Bool}
use Rattle.std.proofs.lemmas.Bool.Decides.{nat_tests}
use Rattle.fp_model.specs.declared.database.Node.{Node}
use Rattle.fp_model.specs.declared.database.Root.{Root}
use Rattle.fp_model.specs.declared.database.SeqItem.{SeqItem}
use Rattle.root_anchor.specs.Chains.{newest}
use Rattle.seq_dependents.specs.declared.part.Part.{Part}
use Rattle.seq_dependents.specs.Control.{IsKept, begin_of, end_of}
use Rattle.seq_dependents.specs.Down.{IsItem, IsDown}
use Rattle.area_states.specs.declared.place.Place.{Place}
use Rattle.area_states.specs.Places.{part_of}
use Rattle.area_states.specs.States.{IsReadAs, newest_serial}
use Rattle.area_states.specs.Changes.{HasListOf}
use Rattle.area_states.specs.inside.Keys.{IsKeptAs, IsSerialFor}
use Rattle.area_states.proofs.Lists.{GoesOnHolding, read_on}
use Rattle.plain_laws.proofs.Alls.{contains_cases, contains_nothing}

-- ---- a list

same_item : (a b : SeqItem) → a.serial ≡ b.serial → a.bytes ≡ b.bytes → a ≡ b
same_item a b e f =
    let make : ℕ → List ℕ → SeqItem = λ x y. record { serial = x; bytes = y } in
    ap (λ x. make x a.bytes) e ∙ ap (make b.serial) f

-- what one slot holds
pub one_item : (part : Part) (area : List (List ℕ)) (serial p q : ℕ) (a b : SeqItem) → IsItem part area serial p a
    → IsItem part area serial q b → (a ≡ b) × (p ≡ q)
one_item part area serial p q a b x y =
    let e : a.serial ≡ b.serial = x.is_serial ∙ sym y.is_serial in
    let f : a.bytes ≡ b.bytes = sym x.is_held.holds.is_segment ∙ y.is_held.holds.is_segment in
    (same_item a b e f, sym x.is_held.holds.is_previous ∙ y.is_held.holds.is_previous)

pub one_list : (part : Part) (area : List (List ℕ)) (serial : ℕ) (xs ys : List SeqItem) → IsDown part area serial xs
    → IsDown part area serial ys → xs ≡ ys
one_list part area serial [] [] x y = refl
one_list part area serial [] (b ∷ ys) x y = absurd (x y.1.is_kept)
one_list part area serial (a ∷ xs) [] x y = absurd (y x.1.is_kept)
one_list part area serial (a ∷ xs) (b ∷ ys) x y =
    let both = one_item part area serial x.0 y.0 a b x.1 y.1 in
    let rest : IsDown part area x.0 ys = subst (λ p. IsDown part area p ys) (sym both.1) y.2 in
    ap (λ z. z ∷ xs) both.0 ∙ ap (λ zs. b ∷ zs) (one_list part area x.0 xs ys x.2 rest)

-- 0 is no serial that is kept
pub none_at_zero : (area : List (List ℕ)) → 1 ≤ begin_of area → ¬ IsKept area 0
none_at_zero area some k = let f = k.from_begin in omega (arith, some, f)

-- A list that is read from some serial down is read from its own newest one.
pub from_newest : (part : Part) (area : List (List ℕ)) (serial : ℕ) (items : List SeqItem) → 1 ≤ begin_of area
    → begin_of area ≤ end_of area → IsDown part area serial items
    → IsDown part area (newest_serial items) items × (newest_serial items < end_of area)
from_newest part area serial [] some ordered down = (none_at_zero area some, omega (arith, some, ordered))
from_newest part area serial (item ∷ items) some ordered down =
    let e : serial ≡ item.serial = sym down.1.is_serial in
    let before = down.1.is_kept.before_end in
    (subst (λ s. IsDown part area s (item ∷ items)) e down, omega (arith, e, before))

-- ---- a root

pub same_root : (a b : Root) → a.bytes ≡ b.bytes → a.children ≡ b.children → a.seqs ≡ b.seqs → a ≡ b
same_root a b e f g =
    let make : List ℕ → List (List Node) → List SeqItem → Root =
    λ x y z. record { bytes = x; children = y; seqs = z } in
    ap (λ x. make x a.children a.seqs) e ∙ ap (λ y. make b.bytes y a.seqs) f ∙ ap (make b.bytes b.children) g

pub one_root : (place : Place) (area : List (List ℕ)) (kept a b : Root) → IsReadAs place area kept a
    → IsReadAs place area kept b → a ≡ b
one_root place area kept a b x y = same_root a b (x.bytes ∙ sym y.bytes) (x.children ∙ sym y.children)
    (one_list (part_of place) area (newest_serial kept.seqs) a.seqs b.seqs x.list y.list)

pub one_reading : (place : Place) (area : List (List ℕ)) (kept xs ys : List Root)
    → AllZip (IsReadAs place area) kept xs → AllZip (IsReadAs place area) kept ys → xs ≡ ys
one_reading place area [] [] [] x y = refl
one_reading place area [] [] (b ∷ ys) x y = absurd y
one_reading place area [] (a ∷ xs) ys x y = absurd x
one_reading place area (k ∷ kept) [] ys x y = absurd x
one_reading place area (k ∷ kept) (a ∷ xs) [] x y = absurd y
one_reading place area (k ∷ kept) (a ∷ xs) (b ∷ ys) x y =
    ap (λ z. z ∷ xs) (one_root place area k a b x.0 y.0)
    ∙ ap (λ zs. b ∷ zs) (one_reading place area kept xs ys x.1 y.1)

-- ---- roots that are stored

pub newest_again : (serial : ℕ) → newest_serial (newest serial) ≡ serial
newest_again serial = elim (cases_Bool (serial == 0)) [
  | inl is ↦ (let e : serial ≡ 0 = grind (arith, nat_tests) in rw is (sym e))
  | inr other ↦ rw other refl
]

-- each of an anchor's roots is read from some serial
read_from : (place : Place) (area : List (List ℕ)) (kept roots : List Root) (root : Root) → 1 ≤ begin_of area
    → begin_of area ≤ end_of area → AllZip (IsReadAs place area) kept roots → Contains roots root
    → IsDown (part_of place) area (newest_serial root.seqs) root.seqs × (newest_serial root.seqs < end_of area)
read_from place area [] [] root some ordered all in_it = absurd (contains_nothing root in_it)
read_from place area [] (r ∷ roots) root some ordered all in_it = absurd all
read_from place area (k ∷ kept) [] root some ordered all in_it = absurd all
read_from place area (k ∷ kept) (r ∷ roots) root some ordered all in_it =
    elim (contains_cases r roots root in_it) as (λ _. IsDown (part_of place) area (newest_serial root.seqs) root.seqs
    × (newest_serial root.seqs < end_of area)) [
      | inl e ↦
          let own = from_newest (part_of place) area (newest_serial k.seqs) r.seqs some ordered all.0.list in
          subst (λ x. IsDown (part_of place) area (newest_serial x.seqs) x.seqs × (newest_serial x.seqs < end_of area))
          e own
      | inr later ↦ read_from place area kept roots root some ordered all.1 later
    ]

-- The list of a root that is stored is empty, or one that a root of the anchor has: it is read from its newest serial.
pub own_list : (place : Place) (area : List (List ℕ)) (kept now : List Root) (root : Root) → 1 ≤ begin_of area
    → begin_of area ≤ end_of area → AllZip (IsReadAs place area) kept now → HasListOf now root
    → IsDown (part_of place) area (newest_serial root.seqs) root.seqs × (newest_serial root.seqs < end_of area)
own_list place area kept now root some ordered all (inl none) =
    subst (λ xs. IsDown (part_of place) area (newest_serial xs) xs × (newest_serial xs < end_of area)) (sym none)
    (none_at_zero area some, omega (arith, some, ordered))
own_list place area kept now root some ordered all (inr found) =
    subst (λ xs. IsDown (part_of place) area (newest_serial xs) xs × (newest_serial xs < end_of area)) (sym found.2)
    (read_from place area kept now found.0 some ordered all found.1)

-- what stands for an empty list isn't kept
unread : (begin end serial : ℕ) (items : List SeqItem) → items ≡ [] → 1 ≤ begin → begin ≤ end
    → IsSerialFor begin items serial → (serial < begin) × (serial < end)
unread begin end serial [] e some ordered (inl none) = (omega (arith, none, some), omega (arith, none, some, ordered))
unread begin end serial [] e some ordered (inr low) = (low, omega (arith, low, ordered))
unread begin end serial (item ∷ items) e some ordered is = cc

-- a list is read from the serial that stands for it
pub serial_reads : (part : Part) (area : List (List ℕ)) (serial : ℕ) (items : List SeqItem) → 1 ≤ begin_of area
    → begin_of area ≤ end_of area → IsSerialFor (begin_of area) items serial
    → IsDown part area (newest_serial items) items × (newest_serial items < end_of area)
    → IsDown part area serial items × (serial < end_of area)
serial_reads part area serial [] some ordered is own =
    let low = unread (begin_of area) (end_of area) serial [] refl some ordered is in
    ((λ k. (let f = k.from_begin in let l = low.0 in omega (arith, f, l))), low.1)
serial_reads part area serial (item ∷ items) some ordered is own =
    (subst (λ n. IsDown part area n (item ∷ items)) (sym is) own.0, (let b = own.1 in omega (arith, is, b)))

pub stored_lists : (place : Place) (old new : List (List ℕ)) (kept now roots stored : List Root) → 1 ≤ begin_of old
    → begin_of old ≤ end_of old → GoesOnHolding (part_of place) old new → AllZip (IsReadAs place old) kept now
    → AllByRecursion (HasListOf now) roots → AllZip (IsKeptAs (begin_of old)) roots stored
    → AllZip (IsReadAs place new) stored roots
stored_lists place old new kept now [] [] some ordered goes all own are = tt
stored_lists place old new kept now [] (s ∷ stored) some ordered goes all own are = absurd are
stored_lists place old new kept now (r ∷ roots) [] some ordered goes all own are = absurd are
stored_lists place old new kept now (r ∷ roots) (s ∷ stored) some ordered goes all own are =
    let it = are.0 in
    let read = serial_reads (part_of place) old it.serial r.seqs some ordered it.is_serial
    (own_list place old kept now r some ordered all own.0) in
    let same : newest_serial s.seqs ≡ it.serial = ap newest_serial it.seqs ∙ newest_again it.serial in
    let here : IsReadAs place old s r = record {
      bytes = it.bytes;
      children = it.children;
      list = subst (λ n. IsDown (part_of place) old n r.seqs) (sym same) read.0;
      before_end = subst (λ n. n < end_of old) (sym same) read.1;
    } in (
      read_on place old new goes s r here,
      stored_lists place old new kept now roots stored some ordered goes all own.1 are.1,
    )
