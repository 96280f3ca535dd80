-- Roots that differ in one segment are stored so: as an anchor keeps them they differ in that segment alone.
use Rattle.std.proofs.Common.{◌≡◌, inl, inr, ℕ, zero, suc, ◌-◌, ◌<◌, ◌≤◌, true, false, List, [], ◌∷◌, length, refl, sym, ◌∙◌, ap, subst, arith}
use Rattle.std.specs.Prelude.{◌==◌, ◌&&◌, get_or, nat_lt, Option, Some, None, slice_get, Result, Ok, Err, OnOk}
use Rattle.std.specs.List.{AllByRecursion, AllZip}
use Rattle.std.proofs.lemmas.Bool.{cases_lt}
use Rattle.std.proofs.lemmas.Bool.Decides.{nat_tests}
use Rattle.fp_model.specs.declared.calls.AnchorChange.{AnchorChange}
use Rattle.fp_model.specs.declared.database.Root.{Root}
use Rattle.fp_model.specs.declared.database.SeqItem.{SeqItem}
use Rattle.fp_model.specs.declared.definitions.SegDef.{SegDef}
use Rattle.fp_model.specs.Order.{child_types}
use Rattle.fp_model.specs.Shape.{has_length}
use Rattle.fp_model.specs.WellFormed.{has_sequential}
use Rattle.root_changes.specs.Differing.{DifferAt, RootDiffers, RootsDiffer, own_root, lower_root}
use Rattle.root_anchor.specs.Chains.{newest}
use Rattle.root_anchor.specs.Differing.{ChangesAlone}
use Rattle.root_anchor.specs.Stored.{are_storable, is_newest, is_storable, rows_have_form}
use Rattle.seq_dependents.specs.declared.part.Part.{Part}
use Rattle.seq_dependents.specs.Control.{begin_of, end_of}
use Rattle.seq_dependents.specs.Down.{IsDown}
use Rattle.area_states.specs.declared.place.Place.{Place}
use Rattle.area_states.specs.Places.{LiesIn, part_of}
use Rattle.area_states.specs.States.{AreaState, IsReadAs, newest_serial}
use Rattle.area_states.specs.Changes.{ChangesOne, HasListOf, OneChanges}
use Rattle.area_states.specs.inside.Keys.{HasSeqsAt, IsKeptAs, IsOwnOf, IsSerialFor}
use Rattle.ci_overflow.specs.Lists.{bytes_at}
use Rattle.area_states.proofs.Readings.{newest_again, one_list, own_list, same_root, serial_reads}
use Rattle.plain_laws.proofs.Truths.{first_of_both, second_of_both}
use Rattle.std.proofs.lemmas.Option.{none-some, same_Some}

-- ---- two lists side by side

at_second : {X Y : Type 0} (R : X → Y → Type 0) (xs : List X) (ys : List Y) (n : ℕ) (y : Y) → AllZip R xs ys
    → slice_get ys n ≡ Some y → (x : X) × (slice_get xs n ≡ Some x) × R x y
at_second R [] [] n y all e = absurd (none-some y e)
at_second R [] (b ∷ ys) n y all e = absurd all
at_second R (a ∷ xs) [] n y all e = absurd all
at_second R (a ∷ xs) (b ∷ ys) zero y all e = (a, refl, subst (R a) (same_Some b y e) all.0)
at_second R (a ∷ xs) (b ∷ ys) (suc n) y all e = at_second R xs ys n y all.1 e

at_first : {X Y : Type 0} (R : X → Y → Type 0) (xs : List X) (ys : List Y) (n : ℕ) (x : X) → AllZip R xs ys
    → slice_get xs n ≡ Some x → (y : Y) × (slice_get ys n ≡ Some y) × R x y
at_first R [] [] n x all e = absurd (none-some x e)
at_first R [] (b ∷ ys) n x all e = absurd all
at_first R (a ∷ xs) [] n x all e = absurd all
at_first R (a ∷ xs) (b ∷ ys) zero x all e = (b, refl, subst (λ z. R z b) (same_Some a x e) all.0)
at_first R (a ∷ xs) (b ∷ ys) (suc n) x all e = at_first R xs ys n x all.1 e

none_first : {X Y : Type 0} (R : X → Y → Type 0) (xs : List X) (ys : List Y) (n : ℕ) → AllZip R xs ys
    → slice_get ys n ≡ None → slice_get xs n ≡ None
none_first R [] [] n all e = refl
none_first R [] (b ∷ ys) n all e = absurd all
none_first R (a ∷ xs) [] n all e = absurd all
none_first R (a ∷ xs) (b ∷ ys) zero all e = absurd (none-some b (sym e))
none_first R (a ∷ xs) (b ∷ ys) (suc n) all e = none_first R xs ys n all.1 e

none_second : {X Y : Type 0} (R : X → Y → Type 0) (xs : List X) (ys : List Y) (n : ℕ) → AllZip R xs ys
    → slice_get xs n ≡ None → slice_get ys n ≡ None
none_second R [] [] n all e = refl
none_second R [] (b ∷ ys) n all e = absurd all
none_second R (a ∷ xs) [] n all e = absurd all
none_second R (a ∷ xs) (b ∷ ys) zero all e = absurd (none-some a (sym e))
none_second R (a ∷ xs) (b ∷ ys) (suc n) all e = none_second R xs ys n all.1 e

-- ---- the own of a root

no_bytes : (bytes : List ℕ) → (length bytes == 0) ≡ true → bytes ≡ []
no_bytes [] e = refl
no_bytes (b ∷ bytes) e = absurd (grind (arith, nat_tests, e))

-- a newest serial as an anchor keeps it
kept_newest : (types : List SegDef) (items : List SeqItem) → is_newest types items ≡ true
    → items ≡ newest (newest_serial items)
kept_newest types [] is = refl
kept_newest types (item ∷ []) is =
    let both : (has_sequential types && nat_lt 0 item.serial) ≡ true =
    first_of_both (has_sequential types && nat_lt 0 item.serial) (length item.bytes == 0) is in
    let above : nat_lt 0 item.serial ≡ true = second_of_both (has_sequential types) (nat_lt 0 item.serial) both in
    let other : (item.serial == 0) ≡ false = grind (arith, nat_tests, above) in
    let bare : item.bytes ≡ [] =
    no_bytes item.bytes (second_of_both (has_sequential types && nat_lt 0 item.serial) (length item.bytes == 0) is) in
    let make : List ℕ → List SeqItem = λ b. record { serial = item.serial; bytes = b } ∷ [] in
    ap make bare ∙ (rw other refl)
kept_newest types (item ∷ next ∷ items) is = cc

storable_at : (types : List SegDef) (roots : List Root) (n : ℕ) (r : Root) → are_storable types roots ≡ true
    → slice_get roots n ≡ Some r → is_newest types r.seqs ≡ true
storable_at types [] n r all e = absurd (none-some r e)
storable_at types (x ∷ roots) zero r all e =
    subst (λ (z : Root). is_newest types z.seqs ≡ true) (same_Some x r e)
    (second_of_both (has_length types 0 x.bytes && rows_have_form types (child_types types 0) x.children)
    (is_newest types x.seqs) (first_of_both (is_storable types x) (are_storable types roots) all))
storable_at types (x ∷ roots) (suc n) r all e =
    storable_at types roots n r (second_of_both (is_storable types x) (are_storable types roots) all) e

-- the serial that a list is read from stands for it
stands_for : (part : Part) (area : List (List ℕ)) (serial : ℕ) (items : List SeqItem) → serial < end_of area
    → IsDown part area serial items → IsSerialFor (begin_of area) items serial
stands_for part area serial [] before down = elim (cases_lt serial (begin_of area)) [
  | inl low ↦ inr low
  | inr from ↦ absurd (down (record { from_begin = from; before_end = before }))
]
stands_for part area serial (item ∷ items) before down = sym down.1.is_serial

-- ---- the roots of an anchor, before and behind

module _ (types : List SegDef) (place : Place) (area : List (List ℕ)) (before now roots after : List Root)
    (form : are_storable types before ≡ true) (read : AllZip (IsReadAs place area) before now)
    (lists : AllByRecursion (HasListOf now) roots) (kept : AllZip (IsKeptAs (begin_of area)) roots after)
    (again : (n : ℕ) (root other : Root) → slice_get roots n ≡ Some root → slice_get before n ≡ Some other
    → IsOwnOf (begin_of area) root other → HasSeqsAt after n other.seqs)
    (some : 1 ≤ begin_of area) (ordered : begin_of area ≤ end_of area) where
  own_read : (n : ℕ) (b x : Root) → slice_get before n ≡ Some b → IsReadAs place area b x → IsOwnOf (begin_of area) x b
  own_read n b x at r = record {
    bytes = r.bytes;
    serial = newest_serial b.seqs;
    is_serial = stands_for (part_of place) area (newest_serial b.seqs) x.seqs r.before_end r.list;
    seqs = kept_newest types b.seqs (storable_at types before n b form at);
  }

  -- the list that is stored stays
  same_list : (n : ℕ) (b y a : Root) → slice_get before n ≡ Some b → slice_get roots n ≡ Some y
      → slice_get after n ≡ Some a → IsOwnOf (begin_of area) y b → a.seqs ≡ b.seqs
  same_list n b y a at is to own =
      let has = again n y b is at own in
      let same : a ≡ has.root = same_Some a has.root (sym to ∙ has.is_there) in
      ap (λ (r : Root). r.seqs) same ∙ has.has_list

  -- one that doesn't change is stored as it was
  unchanged : (n : ℕ) → slice_get now n ≡ slice_get roots n → slice_get before n ≡ slice_get after n
  unchanged n same = by (slice_get now n) refl
    where
      by : (o : Option Root) → slice_get now n ≡ o → slice_get before n ≡ slice_get after n
      by None e =
          none_first (IsReadAs place area) before now n read e
          ∙ sym (none_second (IsKeptAs (begin_of area)) roots after n kept (sym same ∙ e))
      by (Some x) e =
          let b = at_second (IsReadAs place area) before now n x read e in
          let is : slice_get roots n ≡ Some x = sym same ∙ e in
          let a = at_first (IsKeptAs (begin_of area)) roots after n x kept is in
          let list = same_list n b.0 x a.0 b.1 is a.1 (own_read n b.0 x b.1 b.2) in
          let root : b.0 ≡ a.0 = same_root b.0 a.0 (sym b.2.bytes ∙ a.2.bytes) (sym b.2.children ∙ a.2.children)
          (sym list) in
          b.1 ∙ ap Some root ∙ sym a.1

  list_at : (n : ℕ) (y : Root) → slice_get roots n ≡ Some y → HasListOf now y
  list_at n y e = go roots n lists e
    where
      go : (rs : List Root) (n : ℕ) → AllByRecursion (HasListOf now) rs → slice_get rs n ≡ Some y → HasListOf now y
      go [] n all e = absurd (none-some y e)
      go (r ∷ rs) zero all e = subst (HasListOf now) (same_Some r y e) all.0
      go (r ∷ rs) (suc n) all e = go rs n all.1 e

  -- one that changes is stored with that change
  changed : (n : ℕ) (b x y a : Root) → slice_get before n ≡ Some b → slice_get roots n ≡ Some y
      → slice_get after n ≡ Some a → IsReadAs place area b x → IsKeptAs (begin_of area) y a → RootDiffers x y
      → RootDiffers b a
  changed n b x y a at is to r k (own_root other same) =
      own_root (λ both.
      let down : IsDown (part_of place) area k.serial y.seqs =
      (serial_reads (part_of place) area k.serial y.seqs some ordered k.is_serial
      (own_list place area before now y some ordered read (list_at n y is))).0 in
      let serial : newest_serial b.seqs ≡ k.serial = ap newest_serial (both.1 ∙ k.seqs) ∙ newest_again k.serial in
      other (
        r.bytes ∙ both.0 ∙ sym k.bytes,
        one_list (part_of place) area k.serial x.seqs y.seqs
            (subst (λ s. IsDown (part_of place) area s x.seqs) serial r.list) down,
      )) (sym r.children ∙ same ∙ k.children)
  changed n b x y a at is to r k (lower_root {j = j} {k = i} {row = row} {other = other} own rows in_row nodes) =
      let was = own_read n b x at r in
      let own_y : IsOwnOf (begin_of area) y b = record {
        bytes = sym own.0 ∙ r.bytes;
        serial = was.serial;
        is_serial = subst (λ items. IsSerialFor (begin_of area) items was.serial) own.1 was.is_serial;
        seqs = was.seqs;
      } in
      let list = same_list n b y a at is to own_y in
      lower_root (sym r.bytes ∙ own.0 ∙ k.bytes, sym list)
      (subst (λ c. DifferAt b.children c j row other) k.children (subst (λ c. DifferAt c y.children j row other) r.children rows))
      in_row nodes

  pub differ_so : RootsDiffer now roots → RootsDiffer before after
  differ_so d =
      let n = d.number in
      let at = d.differ.at in
      let b = at_second (IsReadAs place area) before now n d.differ.x read at.first in
      let a = at_first (IsKeptAs (begin_of area)) roots after n d.differ.y kept at.second in
      record {
        number = n;
        differ = record {
          x = b.0;
          y = a.0;
          at = record {
            first = b.1;
            second = a.1;
            elsewhere = λ j ne. unchanged j (at.elsewhere j ne);
          };
          differ = changed n b.0 d.differ.x d.differ.y a.0 b.1 at.second a.1 b.2 a.2 d.differ.differ;
        };
      }

-- ---- as the calls answer

pub alone_ok : {T E : Type 0} (place : Place) (old mid new : List (List ℕ)) (anchor : ℕ) (before after : List Root)
    (r : Result T E) → mid ≡ old
    → OnOk r (ChangesAlone place.shape place.segments mid new anchor before after) → OnOk r (OneChanges old new)
alone_ok place old mid new anchor before after (Ok x) m alone = record {
  ci = alone.place.0;
  others = λ k ne. subst (λ area. bytes_at new k ≡ bytes_at area k) m (alone.puts.elsewhere k ne);
  same_number = alone.puts.same_number ∙ ap length m;
}
alone_ok place old mid new anchor before after (Err e) m alone = tt

pub none_changes : (area : List (List ℕ)) → OneChanges area area
none_changes area = record { ci = 0; others = λ k ne. refl; same_number = refl }

pub differs_here : (place : Place) (state : AreaState) (c : AnchorChange) (number : ℕ)
    → LiesIn place c.dedb c.anchor number → ChangesOne place state c → RootsDiffer (state.roots number) c.roots
differs_here place state c number lies one =
    let e : c.anchor - place.first_anchor ≡ number = let n = lies.is_number in omega (arith, n) in
    subst (λ k. RootsDiffer (state.roots k) c.roots) e (one lies.has)

-- the only change is the first
pub only_one : (changes : List AnchorChange) (c : AnchorChange) (n : ℕ) (item : AnchorChange) → changes ≡ c ∷ []
    → n < length changes → item ≡ get_or changes n item → (n ≡ 0) × (item ≡ c)
only_one changes c n item is lt read =
    let one : length changes ≡ 1 = ap length is in
    let first : n ≡ 0 = omega (arith, lt, one) in
    (first, read ∙ ap (λ l. get_or l n item) is ∙ ap (λ k. get_or (c ∷ []) k item) first)
