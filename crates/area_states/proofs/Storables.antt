-- Roots that may be stored, as an anchor keeps them.
use Rattle.std.proofs.Common.{◌≡◌, ℕ, zero, suc, ◌<◌, Bool, true, false, List, [], ◌∷◌, ◌++◌, map, length, get_or, refl, sym, subst, arith}
use Rattle.std.specs.Prelude.{◌==◌, ◌&&◌, nat_lt}
use Rattle.std.specs.List.{list_all}
use Rattle.std.proofs.lemmas.Bool.Decides.{nat_tests}
use Rattle.fp_model.specs.declared.database.Root.{Root}
use Rattle.fp_model.specs.declared.database.SeqItem.{SeqItem}
use Rattle.fp_model.specs.declared.definitions.SegDef.{SegDef}
use Rattle.fp_model.specs.Order.{child_types}
use Rattle.fp_model.specs.Shape.{has_length}
use Rattle.fp_model.specs.WellFormed.{has_sequential}
use Rattle.root_anchor.specs.Chains.{newest}
use Rattle.root_anchor.specs.Stored.{are_storable, is_newest, is_storable, rows_have_form}
use Rattle.area_states.specs.States.{newest_serial}
use Rattle.plain_laws.proofs.Truths.{first_of_both, second_of_both}

pub all_at : {X : Type 0} (test : X → Bool) (xs : List X) (k : ℕ) (x : X) → list_all test xs ≡ true → k < length xs
    → x ≡ get_or xs k x → test x ≡ true
all_at test [] k x all lt is = absurd (omega (arith, lt))
all_at test (y ∷ xs) zero x all lt is = subst (λ z. test z ≡ true) (sym is) (first_of_both (test y) (list_all test xs) all)
all_at test (y ∷ xs) (suc k) x all lt is =
    all_at test xs k x (second_of_both (test y) (list_all test xs) all) (omega (arith, lt)) is

pub all_mapped : {X Y : Type 0} (test : Y → Bool) (change : X → Y) (xs : List X) (k : ℕ) (x : X)
    → list_all test (map change xs) ≡ true → k < length xs → x ≡ get_or xs k x → test (change x) ≡ true
all_mapped test change [] k x all lt is = absurd (omega (arith, lt))
all_mapped test change (y ∷ xs) zero x all lt is =
    subst (λ z. test (change z) ≡ true) (sym is) (first_of_both (test (change y)) (list_all test (map change xs)) all)
all_mapped test change (y ∷ xs) (suc k) x all lt is =
    all_mapped test change xs k x (second_of_both (test (change y)) (list_all test (map change xs)) all)
    (omega (arith, lt)) is

-- the newest serial of a list that may be stored may be stored again
pub newest_form : (types : List SegDef) (items : List SeqItem) → is_newest types items ≡ true
    → is_newest types (newest (newest_serial items)) ≡ true
newest_form types [] is = refl
newest_form types (item ∷ []) is =
    let both : (has_sequential types && nat_lt 0 item.serial) ≡ true =
    first_of_both (has_sequential types && nat_lt 0 item.serial) (length item.bytes == 0) is in
    let some : has_sequential types ≡ true = first_of_both (has_sequential types) (nat_lt 0 item.serial) both in
    let above : nat_lt 0 item.serial ≡ true = second_of_both (has_sequential types) (nat_lt 0 item.serial) both in
    let other : (item.serial == 0) ≡ false = grind (arith, nat_tests, above) in
    rw (other, some, above) refl
newest_form types (item ∷ next ∷ items) is = cc

-- what an anchor's root says
pub stored_newest : (types : List SegDef) (roots : List Root) (k : ℕ) (r : Root) → are_storable types roots ≡ true
    → k < length roots → r ≡ get_or roots k r → is_newest types (newest (newest_serial r.seqs)) ≡ true
stored_newest types roots k r all lt is =
    let one : is_storable types r ≡ true = all_at (is_storable types) roots k r all lt is in
    newest_form types r.seqs (second_of_both
    (has_length types 0 r.bytes && rows_have_form types (child_types types 0) r.children) (is_newest types r.seqs) one)
