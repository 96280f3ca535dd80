-- Settling changes only what is held Exclusive.
use Rattle.std.proofs.Common.{◌≡◌, ℕ, ◌+◌, ◌≤◌, List, [], ◌∷◌, ◌++◌, length, take, drop, Option, Some, None, refl, sym, ◌∙◌, ap, subst, Bool, true, false, not, nat_eq, ◌&&◌, ◌||◌, if◌then◌else◌, arith, Ordering, length-append}
use Rattle.std.specs.Prelude.{find, filter, nat_lt, min}
use Rattle.std.specs.List.{AllByRecursion}
use Rattle.std.specs.Option.{option_map_or}
use Rattle.std.specs.Ordering.{nat_cmp, is_lt, ordering_reverse}
use Rattle.std.specs.Cmp.Lexicographic.{slice_cmp}
use Rattle.std.specs.declared.cmp.Ordering.TheVariants.{Less, Equal, Greater}
use Rattle.std.proofs.lemmas.Grind.{common_steps}
use Rattle.std.proofs.lemmas.Cmp.{nat_list_cmp_total}
use Rattle.std.proofs.lemmas.Map.Lookups.{exact_bytes}
use Rattle.std.proofs.lemmas.List.{length-take, length-take-le, take-take, take-append-le}
use Rattle.fp_model.specs.declared.definitions.FieldDef.{FieldDef}
use Rattle.fp_model.specs.declared.definitions.MsdbDef.{MsdbDef}
use Rattle.fp_model.specs.declared.database.Msdb.{Msdb}
use Rattle.fp_model.specs.declared.calls.Mode.{Mode}
use Rattle.fp_model.specs.declared.calls.Mode.TheVariants.{Exclusive}
use Rattle.fp_model.specs.declared.calls.Resource.{Resource}
use Rattle.fp_model.specs.declared.calls.Resource.TheVariants.{Segment, Anchor}
use Rattle.fp_model.specs.Texts.{same_text}
use Rattle.fp_model.specs.State.{key_length, key_of, is_below, put_by_key, drop_key, segment_of, with_segment, without_segment}
use Rattle.fp_model.specs.Fsas.{Fsa, fsas_in, field_bytes, with_field, field_of, is_key, is_text, is_sum, is_change, is_verify, changed, letter_on, letter_of, with_change, changed_by, fsa_on, list_on}
use Rattle.fp_model.specs.Settle.{with_field_changes, comes_before, with_resource}
use Rattle.fp_model.specs.WellFormed.{StandFrom}
use Rattle.fp_model.specs.Answers.{serves}
use Rattle.serial_order.specs.Laws.{IsExclusive}
use Rattle.serial_order.proofs.Lists.{eqb_same, true_is_not_false}
use Rattle.serial_order.proofs.Replies.{served_exclusive}
use Rattle.plain_laws.proofs.Alls.{find_kept, found_passes}
use Rattle.plain_laws.proofs.Orderings.{neither_less}
use Rattle.std.proofs.lemmas.Option.{none-some, same_Some}
use Rattle.plain_laws.proofs.Truths.{first_false, second_false, not_second}
use Rattle.model_laws.proofs.Texts.{same_text_is}

-- ---- what the sync point has locked

-- of two keys, neither of which comes first
same_key : (k l : List ℕ) → is_below k l ≡ false → is_below l k ≡ false → k ≡ l
same_key k l a b = exact_bytes k l (neither_less (slice_cmp nat_cmp k l) (slice_cmp nat_cmp l k)
    (nat_list_cmp_total.antisymm k l) a b)

-- of two numbers, neither of which is less
same_numbers : (m n : ℕ) → nat_lt m n ≡ false → nat_lt n m ≡ false → m ≡ n
same_numbers m n a b = grind (arith, common_steps)

-- of two resources, neither of which comes first
same_place : (r s : Resource) → comes_before r s ≡ false → comes_before s r ≡ false → r ≡ s
same_place (Segment m k) (Segment n l) a b =
    let number : m ≡ n = same_numbers m n (first_false (nat_lt m n) _ a) (first_false (nat_lt n m) _ b) in
    let here : nat_eq m n ≡ true = subst (λ (q : ℕ). nat_eq m q ≡ true) number (eqb_same m) in
    let there : nat_eq n m ≡ true = subst (λ (q : ℕ). nat_eq q m ≡ true) number (eqb_same m) in
    let key : k ≡ l = same_key k l (not_second (nat_eq m n) (is_below k l) here (second_false (nat_lt m n) _ a))
    (not_second (nat_eq n m) (is_below l k) there (second_false (nat_lt n m) _ b)) in
    ap (λ (q : ℕ). Segment q k) number ∙ ap (λ (q : List ℕ). Segment n q) key
same_place (Segment m k) (Anchor d a) e f = absurd (true_is_not_false e)
same_place (Anchor d a) (Segment m k) e f = absurd (true_is_not_false f)
same_place (Anchor d x) (Anchor e y) a b =
    let number : d ≡ e = same_numbers d e (first_false (nat_lt d e) _ a) (first_false (nat_lt e d) _ b) in
    let here : nat_eq d e ≡ true = subst (λ (q : ℕ). nat_eq d q ≡ true) number (eqb_same d) in
    let there : nat_eq e d ≡ true = subst (λ (q : ℕ). nat_eq q d ≡ true) number (eqb_same d) in
    let anchor : x ≡ y = same_numbers x y (not_second (nat_eq d e) (nat_lt x y) here (second_false (nat_lt d e) _ a))
    (not_second (nat_eq e d) (nat_lt y x) there (second_false (nat_lt e d) _ b)) in
    ap (λ (q : ℕ). Anchor q x) number ∙ ap (λ (q : ℕ). Anchor e q) anchor

module _ (P : Resource → Type 0) where
  -- what is so of a list with one more resource is so of that
  pub with_new : (r : Resource) (rs : List Resource) → AllByRecursion P (with_resource r rs) → P r
  with_new r [] h = h.0
  with_new r (s ∷ others) h = by (comes_before r s) (comes_before s r) refl refl h (λ g. with_new r others g)
    where
      by : (a b : Bool) → comes_before r s ≡ a → comes_before s r ≡ b
          → AllByRecursion P (if a then r ∷ s ∷ others else (if b then s ∷ with_resource r others else s ∷ others))
          → (AllByRecursion P (with_resource r others) → P r) → P r
      by true b p q h later = h.0
      by false true p q h later = later h.1
      by false false p q h later = subst P (sym (same_place r s p q)) h.0

  -- and of the others
  pub with_old : (r : Resource) (rs : List Resource) → AllByRecursion P (with_resource r rs) → AllByRecursion P rs
  with_old r [] h = tt
  with_old r (s ∷ others) h = by (comes_before r s) (comes_before s r) h (λ g. with_old r others g)
    where
      by : (a b : Bool) → AllByRecursion P (if a then r ∷ s ∷ others else
          (if b then s ∷ with_resource r others else s ∷ others))
          → (AllByRecursion P (with_resource r others) → AllByRecursion P others) → AllByRecursion P (s ∷ others)
      by true b h later = h.1
      by false true h later = (h.0, later h.1)
      by false false h later = h

-- nothing that is lacking: all is held Exclusive
pub all_served : (held : Resource → Option Mode) (rs : List Resource)
    → find (λ (r : Resource). not (serves (held r) Exclusive)) rs ≡ None → AllByRecursion (IsExclusive held) rs
all_served held [] e = tt
all_served held (r ∷ rs) e = by (serves (held r) Exclusive) refl e (λ f. all_served held rs f)
  where
    by : (b : Bool) → serves (held r) Exclusive ≡ b
        → (if not b then Some r else find (λ (r : Resource). not (serves (held r) Exclusive)) rs) ≡ None
        → (find (λ (r : Resource). not (serves (held r) Exclusive)) rs ≡ None → AllByRecursion (IsExclusive held) rs)
        → AllByRecursion (IsExclusive held) (r ∷ rs)
    by true is e later = (served_exclusive (held r) is, later e)
    by false is e later = absurd (none-some r (sym e))

-- ---- segments by key

-- a search for another finds the same beside a new element
pub find_put : {X : Type 0} (p : X → Bool) (key : X → List ℕ) (x : X) (ys : List X) → p x ≡ false
    → find p (put_by_key key x ys) ≡ find p ys
find_put p key x [] no_x = rw no_x refl
find_put p key x (y ∷ ys) no_x = by (is_below (key x) (key y)) (find_put p key x ys no_x)
  where
    by : (b : Bool) → find p (put_by_key key x ys) ≡ find p ys
        → find p (if b then x ∷ y ∷ ys else y ∷ put_by_key key x ys) ≡ find p (y ∷ ys)
    by true later = rw no_x refl
    by false later = ap (λ o. if p y then Some y else o) later

-- texts that differ
pub other_text : (a k : List ℕ) → ¬ (a ≡ k) → same_text a k ≡ false
other_text a k ne = by (same_text a k) refl
  where
    by : (b : Bool) → same_text a k ≡ b → b ≡ false
    by true e = absurd (ne (same_text_is a k e))
    by false e = refl

-- a segment put or dropped leaves those of other keys
pub segment_put : (def : MsdbDef) (segment k : List ℕ) (msdb : Msdb) → ¬ (key_of def.fields segment ≡ k)
    → segment_of def (with_segment def segment msdb) k ≡ segment_of def msdb k
segment_put def segment k msdb ne =
    let key : List ℕ → List ℕ = key_of def.fields in
    find_put (λ (s : List ℕ). same_text (key s) k) key segment (drop_key key (key segment) msdb.segments)
    (other_text (key segment) k ne)
    ∙ find_kept (λ (s : List ℕ). same_text (key s) k) (λ (s : List ℕ). not (same_text (key s) (key segment)))
    msdb.segments
    (λ s here. ap not (other_text (key s) (key segment) (λ e. ne (sym e ∙ same_text_is (key s) k here))))

-- a segment dropped leaves those of other keys
pub segment_dropped : (def : MsdbDef) (gone k : List ℕ) (msdb : Msdb) → ¬ (gone ≡ k)
    → segment_of def (without_segment def gone msdb) k ≡ segment_of def msdb k
segment_dropped def gone k msdb ne =
    let key : List ℕ → List ℕ = key_of def.fields in
    find_kept (λ (s : List ℕ). same_text (key s) k) (λ (s : List ℕ). not (same_text (key s) gone)) msdb.segments
    (λ s here. ap not (other_text (key s) gone (λ e. ne (sym e ∙ same_text_is (key s) k here))))

-- ---- a field call leaves the key

-- fields stand behind where they begin
stand_behind : (at : ℕ) (fields : List FieldDef) (end : ℕ) (p : FieldDef → Bool) (field : FieldDef)
    → StandFrom at fields end → find p fields ≡ Some field → at ≤ field.at
stand_behind at [] end p field s e = absurd (none-some field e)
stand_behind at (f ∷ fs) end p field s e = by (p f) e (λ g. stand_behind (at + f.length) fs end p field s.2 g)
  where
    by : (b : Bool) → (if b then Some f else find p fs) ≡ Some field
        → (find p fs ≡ Some field → at + f.length ≤ field.at) → at ≤ field.at
    by true e later = let same : f.at ≡ field.at = ap (λ (q : FieldDef). q.at) (same_Some f field e) in
        omega (arith, same, s.0)
    by false e later = omega (arith, later e)

-- a field that isn't the key stands behind it
behind_key : (fields : List FieldDef) (end : ℕ) (p : FieldDef → Bool) (field : FieldDef) → StandFrom 0 fields end
    → find p fields ≡ Some field → is_key field ≡ false → key_length fields ≤ field.at
behind_key [] end p field s e no_key = absurd (none-some field e)
behind_key (f ∷ fs) end p field s e no_key = by (p f) e
  where
    by : (b : Bool) → (if b then Some f else find p fs) ≡ Some field → f.length ≤ field.at
    by true e =
        let at : field.at ≡ 0 = ap (λ (q : FieldDef). q.at) (sym (same_Some f field e)) ∙ s.0 in
        absurd (true_is_not_false (sym (subst (λ (n : ℕ). nat_eq n 0 ≡ true) (sym at) refl) ∙ no_key))
    by false e = let later = stand_behind (0 + f.length) fs end p field s.2 e in omega (arith, later)

-- bytes written behind the key leave it
key_stays : (n at : ℕ) (segment bytes rest : List ℕ) → n ≤ at → n ≤ length segment
    → take n (take at segment ++ bytes ++ rest) ≡ take n segment
key_stays n at segment bytes rest h l =
    let short : length (take at segment) ≡ min at (length segment) = length-take at segment in
    let more : length (take at segment ++ bytes) ≡ length (take at segment) + length bytes =
    length-append (take at segment) bytes in
    take-append-le n (take at segment ++ bytes) rest (omega (arith, short, more)) ∙ take-append-le n (take at segment)
    bytes (omega (arith, short)) ∙ take-take n at segment h

module _ (def : MsdbDef) (end : ℕ) (stands : StandFrom 0 def.fields end) where
  -- the letter of a change of a field
  good_letter : (a c : Bool) (o : Option FieldDef) (f : FieldDef → ℕ) (field : FieldDef)
      → nat_eq (if a || c then option_map_or f o 72 else 65) 32 ≡ true → c ≡ true → o ≡ Some field
      → nat_eq (f field) 32 ≡ true
  good_letter a c None f field e p q = absurd (none-some field q)
  good_letter true c (Some x) f field e p q = subst (λ (y : FieldDef). nat_eq (f y) 32 ≡ true) (same_Some x field q) e
  good_letter false true (Some x) f field e p q = subst (λ (y : FieldDef). nat_eq (f y) 32 ≡ true) (same_Some x field q) e
  good_letter false false (Some x) f field e p q = absurd (true_is_not_false (sym p))

  -- a blank letter is not C
  second_letter : (a b : Bool) (x : ℕ) → nat_eq (if a then 65 else if b then 67 else x) 32 ≡ true → b ≡ false
  second_letter true b x e = absurd (true_is_not_false (sym e))
  second_letter false true x e = absurd (true_is_not_false (sym e))
  second_letter false false x e = refl

  -- a good change isn't of the key
  no_key_changed : (fsa : Fsa) (segment : List ℕ) (field : FieldDef) → nat_eq (letter_of def fsa segment) 32 ≡ true
      → is_change fsa.op ≡ true → field_of def.fields fsa.field ≡ Some field → is_key field ≡ false
  no_key_changed fsa segment field good change of =
      let letter = good_letter (is_verify fsa.op) (is_change fsa.op) (field_of def.fields fsa.field)
      (λ (f : FieldDef). letter_on f fsa.op fsa.operand (field_bytes f segment)) field good change of in
      not_second (is_change fsa.op) (is_key field) change
      (second_letter (is_sum fsa.op && is_text field.kind) (is_change fsa.op && is_key field) _ letter)

  -- a good change leaves the key
  changed_keeps : (fsa : Fsa) (segment : List ℕ) → key_length def.fields ≤ length segment
      → nat_eq (letter_of def fsa segment) 32 ≡ true
      → take (key_length def.fields) (changed_by def fsa segment) ≡ take (key_length def.fields) segment
  changed_keeps fsa segment long good = by (is_change fsa.op) refl (field_of def.fields fsa.field) refl
    where
      by : (b : Bool) → is_change fsa.op ≡ b → (o : Option FieldDef) → field_of def.fields fsa.field ≡ o
          → take (key_length def.fields) (if b then option_map_or
          (λ field. with_change field fsa.op fsa.operand segment) o segment else segment) ≡ take
          (key_length def.fields) segment
      by false is o of = refl
      by true is None of = refl
      by true is (Some field) of = put (changed field fsa.op (field_bytes field segment) fsa.operand)
        where
          put : (o : Option (List ℕ)) → take (key_length def.fields)
              (option_map_or (λ bytes. with_field field bytes segment) o segment) ≡ take (key_length def.fields) segment
          put None = refl
          put (Some bytes) = key_stays (key_length def.fields) field.at segment bytes
              (drop (field.at + length bytes) segment)
              (behind_key def.fields end (λ (f : FieldDef). same_text f.name.0 fsa.field) field stands of
              (no_key_changed fsa segment field good is of)) long

  -- and so does any argument
  fsa_keeps : (fsa : Fsa) (segment : List ℕ) → key_length def.fields ≤ length segment
      → take (key_length def.fields) (fsa_on def fsa segment).segment ≡ take (key_length def.fields) segment
  fsa_keeps fsa segment long = by (nat_eq (letter_of def fsa segment) 32) refl
    where
      by : (b : Bool) → nat_eq (letter_of def fsa segment) 32 ≡ b
          → take (key_length def.fields) (if b then changed_by def fsa segment else segment) ≡ take
          (key_length def.fields) segment
      by true good = changed_keeps fsa segment long good
      by false bad = refl

  -- a segment stays as long as its key
  still_long : (n : ℕ) (a b : List ℕ) → take n a ≡ take n b → n ≤ length b → n ≤ length a
  still_long n a b same long =
      let x : length (take n a) ≡ min n (length a) = length-take n a in
      let y : length (take n b) ≡ n = length-take-le n b long in
      let z : length (take n a) ≡ length (take n b) = ap (λ (q : List ℕ). length q) same in
      omega (arith, x, y, z)

  -- and so does a list of them
  list_keeps : (fsas : List Fsa) (segment : List ℕ) → key_length def.fields ≤ length segment
      → take (key_length def.fields) (list_on def fsas segment).segment ≡ take (key_length def.fields) segment
  unfolding list_on
  list_keeps [] segment long = refl
  list_keeps (fsa ∷ fsas) segment long =
      let one = fsa_keeps fsa segment long in
      list_keeps fsas (fsa_on def fsa segment).segment
      (still_long (key_length def.fields) (fsa_on def fsa segment).segment segment one long) ∙ one

  -- The changes of a field call with a whole key leave the segments of other keys.
  pub field_changes_leave : (defs : List MsdbDef) (key fsas k : List ℕ) (msdb : Msdb)
      → key_length def.fields ≤ length key → ¬ (key ≡ k)
      → segment_of def (with_field_changes defs key fsas def msdb) k ≡ segment_of def msdb k
  field_changes_leave defs key fsas k msdb long ne = by (segment_of def msdb key) refl
    where
      by : (o : Option (List ℕ)) → segment_of def msdb key ≡ o
          → segment_of def (elim o as (λ x. Msdb) [
            | None ↦ msdb
            | Some segment ↦
                with_segment def (list_on def (fsas_in fsas) segment).segment msdb
          ]) k ≡ segment_of def msdb k
      by None found = refl
      by (Some segment) found =
          let here : key_of def.fields segment ≡ key =
          same_text_is (key_of def.fields segment) key
          (found_passes (λ (s : List ℕ). same_text (key_of def.fields s) key) msdb.segments segment found) in
          let x : length (key_of def.fields segment) ≡ min (key_length def.fields) (length segment) =
          length-take (key_length def.fields) segment in
          let y : length (key_of def.fields segment) ≡ length key = ap (λ (q : List ℕ). length q) here in
          let enough : key_length def.fields ≤ length segment = omega (arith, x, y, long) in
          segment_put def (list_on def (fsas_in fsas) segment).segment k msdb
          (λ e. ne (sym here ∙ sym (list_keeps (fsas_in fsas) segment enough) ∙ e))
