-- Elements that are read one after another, each beside those before it.
use Rattle.std.proofs.Common.{◌≡◌, suc, List, [], ◌∷◌, ◌++◌, length, Result, Ok, refl, sym, ap, subst, ◌∙◌, append_assoc}
use Rattle.std.specs.List.{AllByRecursion}
use Rattle.def_tables.specs.Readings.{in_turn}
use Rattle.def_tables.specs.declared.fault.DefsFault.{DefsFault}
use Rattle.def_tables.proofs.Steps.{ok_step}

-- each stands in a relation to those before it
abbrev pub Beside : {A : Type 0} → (List A → A → Type 0) → List A → List A → Type 0
Beside P before [] = Unit {0}
Beside P before (y ∷ ys) = P before y × Beside P (before ++ y ∷ []) ys

-- what a reading gave behind those before it
abbrev pub IsRead : {A B : Type 0} → (List A → B → Result A DefsFault) → List A → A → Type 0
IsRead {A} {B} read before y = (x : B) × (read before x ≡ Ok y)

append_nothing : {A : Type 0} (xs : List A) → xs ++ [] ≡ xs
append_nothing [] = refl
append_nothing (x ∷ xs) = ap (λ ys. x ∷ ys) (append_nothing xs)

read_behind : {A B : Type 0} (read : List A → B → Result A DefsFault) (before : List A) (xs : List B) (all : List A)
    → in_turn read before xs ≡ Ok all → (ys : List A) × (all ≡ before ++ ys) × Beside (IsRead read) before ys
    × (length ys ≡ length xs)
read_behind read before [] all e = let same : before ≡ all = cc in
    ([], sym same ∙ sym (append_nothing before), tt, refl)
read_behind read before (x ∷ xs) all e =
    let step = ok_step (read before x) (λ y. in_turn read (before ++ y ∷ []) xs) all e in
    let rest = read_behind read (before ++ step.0 ∷ []) xs all step.2 in
    (step.0 ∷ rest.0, rest.1 ∙ append_assoc before (step.0 ∷ []) rest.0, ((x, step.1), rest.2), ap suc rest.3)

-- all that were read in turn
pub read_in_turn : {A B : Type 0} (read : List A → B → Result A DefsFault) (xs : List B) (all : List A)
    → in_turn read [] xs ≡ Ok all → Beside (IsRead read) [] all × (length all ≡ length xs)
read_in_turn read xs all e =
    let h = read_behind read [] xs all e in
    let same : all ≡ h.0 = h.1 in
    (subst (Beside (IsRead read) []) (sym same) h.2, ap length same ∙ h.3)

pub beside_map : {A : Type 0} (P Q : List A → A → Type 0) → ((before : List A) (y : A) → P before y → Q before y)
    → (before ys : List A) → Beside P before ys → Beside Q before ys
beside_map P Q h before [] all = tt
beside_map P Q h before (y ∷ ys) all = (h before y all.0, beside_map P Q h (before ++ y ∷ []) ys all.1)

pub beside_each : {A : Type 0} (P : A → Type 0) (before ys : List A) → Beside (λ _ y. P y) before ys
    → AllByRecursion P ys
beside_each P before [] all = tt
beside_each P before (y ∷ ys) all = (all.0, beside_each P (before ++ y ∷ []) ys all.1)
