-- A root that an anchor has keeps its newest serial when it is stored again.
use Rattle.std.proofs.Common.{◌≡◌, ◌⊎◌, inl, inr, ℕ, zero, suc, ◌+◌, ◌<◌, true, false, List, [], ◌∷◌, ◌++◌, map, length, refl, sym, ◌∙◌, ap, subst, arith}
use Rattle.std.specs.Prelude.{Some, slice_get, get_or}
use Rattle.std.specs.List.{AllByRecursion}
use Rattle.std.proofs.lemmas.Option.{get_or_from_slice_get, none-some, same_Some}
use Rattle.fp_model.specs.declared.database.Root.{Root}
use Rattle.fp_model.specs.declared.database.SeqItem.{SeqItem}
use Rattle.fp_model.specs.declared.definitions.SegDef.{SegDef}
use Rattle.fp_model.specs.Order.{key_in, root_key}
use Rattle.fp_model.specs.State.{ascend, is_below}
use Rattle.fp_model.specs.Texts.{same_text}
use Rattle.key_order.proofs.Ascending.{all_above, not_below_itself, not_both, tail_ascends}
use Rattle.root_anchor.specs.Chains.{newest}
use Rattle.area_states.specs.inside.Keys.{HasSeqsAt, IsOwnOf, IsRootOf, IsSerialFor, NoneHas}
use Rattle.area_states.specs.States.{newest_serial}
use Rattle.area_states.proofs.Readings.{newest_again}
use Rattle.model_laws.proofs.Texts.{same_text_is, text_is_same}

-- ---- the root of a key

all_got : {X : Type 0} (P : X → Type 0) (xs : List X) (n : ℕ) (x : X) → AllByRecursion P xs → slice_get xs n ≡ Some x
    → P x
all_got P [] n x all e = absurd (none-some x e)
all_got P (y ∷ ys) zero x all e = subst P (same_Some y x e) all.0
all_got P (y ∷ ys) (suc n) x all e = all_got P ys n x all.1 e

-- a root that comes later has another key
later_differs : (types : List SegDef) (r : Root) (roots : List Root) (n : ℕ) (x : Root)
    → ascend (map (root_key types) (r ∷ roots)) ≡ true → slice_get roots n ≡ Some x
    → root_key types r ≡ root_key types x → ⊥
later_differs types r roots n x up at e =
    let less = all_got (λ y. is_below (root_key types r) (root_key types y) ≡ true) roots n x
    (all_above (root_key types) r roots up) at in
    not_both (sym less ∙ ap (is_below (root_key types r)) (sym e) ∙ not_below_itself (root_key types r))

-- where keys ascend there is one root of a key
one_of_key : (types : List SegDef) (roots : List Root) (n m : ℕ) (x y : Root)
    → ascend (map (root_key types) roots) ≡ true → slice_get roots n ≡ Some x → slice_get roots m ≡ Some y
    → root_key types x ≡ root_key types y → x ≡ y
one_of_key types [] n m x y up at to e = absurd (none-some x at)
one_of_key types (r ∷ roots) zero zero x y up at to e = sym (same_Some r x at) ∙ same_Some r y to
one_of_key types (r ∷ roots) zero (suc m) x y up at to e =
    absurd (later_differs types r roots m y up to (ap (root_key types) (same_Some r x at) ∙ e))
one_of_key types (r ∷ roots) (suc n) zero x y up at to e =
    absurd (later_differs types r roots n x up at (ap (root_key types) (same_Some r y to) ∙ sym e))
one_of_key types (r ∷ roots) (suc n) (suc m) x y up at to e =
    one_of_key types roots n m x y (tail_ascends (root_key types) r roots up) at to e

key_by_bytes : (types : List SegDef) (a b : Root) → a.bytes ≡ b.bytes → root_key types a ≡ root_key types b
key_by_bytes types a b e = ap (key_in types 0) e

-- a root of the same bytes is found
pub none_has : (types : List SegDef) (root other : Root) (key : List ℕ) (roots : List Root) (number : ℕ)
    → NoneHas types key roots → slice_get roots number ≡ Some other → root.bytes ≡ other.bytes
    → key ≡ root_key types root → ⊥
none_has types root other key roots number none is same e =
    let no = all_got (λ r. same_text (root_key types r) key ≡ false) roots number other none is in
    let yes : root_key types other ≡ key = sym (key_by_bytes types root other same) ∙ sym e in
    not_both (sym (text_is_same key) ∙ ap (λ k. same_text k key) (sym yes) ∙ no)

pub found_is : (types : List SegDef) (root other : Root) (key : List ℕ) (roots : List Root) (number found : ℕ)
    → ascend (map (root_key types) roots) ≡ true → (f : IsRootOf types key roots found)
    → slice_get roots number ≡ Some other → root.bytes ≡ other.bytes → key ≡ root_key types root → f.root ≡ other
found_is types root other key roots number found up f is same e =
    one_of_key types roots found number f.root other up f.is_there is
    (same_text_is (root_key types f.root) key f.has_key ∙ e ∙ key_by_bytes types root other same)

pub serial_found : (types : List SegDef) (root other got : Root) (key : List ℕ) (roots : List Root) (number found : ℕ)
    → ascend (map (root_key types) roots) ≡ true → IsRootOf types key roots found → got ≡ get_or roots found got
    → slice_get roots number ≡ Some other → root.bytes ≡ other.bytes → key ≡ root_key types root
    → newest_serial got.seqs ≡ newest_serial other.seqs
serial_found types root other got key roots number found up f read is same e =
    let here : got ≡ f.root = read ∙ get_or_from_slice_get roots found f.root got f.is_there in
    ap (λ (r : Root). newest_serial r.seqs) (here ∙ found_is types root other key roots number found up f is same e)

-- ---- its serial

pub purged_again : (begin serial result : ℕ) (items : List SeqItem) → items ≡ [] → IsSerialFor begin items serial
    → (serial < begin → result ≡ serial) → (result ≡ 0) ⊎ (result < begin) → result ≡ serial
purged_again zero serial result [] e (inl none) again (inl low) = low ∙ sym none
purged_again zero serial result [] e is again (inr low) = absurd (omega (arith, low))
purged_again zero serial result [] e (inr below) again low = absurd (omega (arith, below))
purged_again (suc begin) serial result [] e (inl none) again low = again (omega (arith, none))
purged_again (suc begin) serial result [] e (inr below) again low = again below
purged_again begin serial result (item ∷ items) e is again low = absurd (cc)

pub newest_stands : (begin serial : ℕ) (items : List SeqItem) → (items ≡ [] → ⊥) → IsSerialFor begin items serial
    → newest_serial items ≡ serial
newest_stands begin serial [] some is = absurd (some refl)
newest_stands begin serial (item ∷ items) some is = sym is

pub own_again : (begin serial : ℕ) (root other : Root) (seqs : List SeqItem) → IsOwnOf begin root other
    → (IsSerialFor begin root.seqs (newest_serial other.seqs) → serial ≡ newest_serial other.seqs)
    → seqs ≡ newest serial → seqs ≡ other.seqs
own_again begin serial root other seqs own again is =
    let same : newest_serial other.seqs ≡ own.serial = ap newest_serial own.seqs ∙ newest_again own.serial in
    is ∙ ap newest (again (subst (IsSerialFor begin root.seqs) (sym same) own.is_serial) ∙ same) ∙ sym own.seqs

-- ---- one root more

got_front : (xs ys : List Root) (n : ℕ) (x : Root) → slice_get xs n ≡ Some x → slice_get (xs ++ ys) n ≡ Some x
got_front [] ys n x e = absurd (none-some x e)
got_front (y ∷ xs) ys zero x e = e
got_front (y ∷ xs) ys (suc n) x e = got_front xs ys n x e

got_last : (xs : List Root) (x : Root) → slice_get (xs ++ x ∷ []) (length xs) ≡ Some x
got_last [] x = refl
got_last (y ∷ xs) x = got_last xs x

pub has_front : (xs : List Root) (x : Root) (n : ℕ) (seqs : List SeqItem) → HasSeqsAt xs n seqs
    → HasSeqsAt (xs ++ x ∷ []) n seqs
has_front xs x n seqs has = record {
  root = has.root;
  is_there = got_front xs (x ∷ []) n has.root has.is_there;
  has_list = has.has_list;
}

pub has_last : (xs : List Root) (x : Root) (n : ℕ) (seqs : List SeqItem) → n ≡ length xs → x.seqs ≡ seqs
    → HasSeqsAt (xs ++ x ∷ []) n seqs
has_last xs x n seqs e is = record {
  root = x;
  is_there = ap (slice_get (xs ++ x ∷ [])) e ∙ got_last xs x;
  has_list = is;
}

pub one_longer : (xs : List Root) (x : Root) → length (xs ++ x ∷ []) ≡ length xs + 1
one_longer [] x = refl
one_longer (y ∷ xs) x = let l = one_longer xs x in omega (arith, l)

pub got_root : (xs : List Root) (n : ℕ) (x y : Root) → n < length xs → slice_get xs n ≡ Some x → y ≡ get_or xs n y → x ≡ y
got_root xs n x y lt is read = sym (read ∙ get_or_from_slice_get xs n x y is)
