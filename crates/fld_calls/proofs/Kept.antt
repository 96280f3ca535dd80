-- A list of field search arguments keeps the key of its segment.
use Rattle.std.proofs.Common.{◌≡◌, refl, sym, ◌∙◌, ap, subst, arith, ℕ, zero, suc, ◌≤◌, ◌+◌, List, [], ◌∷◌, ◌++◌, length, take, drop, Bool, true, false, ◌&&◌, ◌||◌, ◌==◌, Option, Some, None, nat_le}
use Rattle.std.specs.Prelude.{if◌then◌else◌, IsTrue}
use Rattle.std.proofs.lemmas.Bool.Decides.{nat_tests}
use Rattle.fp_model.specs.Fsas.{Fsa, changed, changed_by, field_bytes, field_of, fsa_on, is_change, is_key, is_sum, is_text, is_verify, letter_of, letter_on, list_on, with_change, with_field}
use Rattle.fp_model.specs.State.{key_length, key_of}
use Rattle.fp_model.specs.Texts.{same_text}
use Rattle.fp_model.specs.WellFormed.{BeginsWithKey, IsMsdbDef, StandFrom, is_field_length}
use Rattle.fp_model.specs.declared.definitions.FieldDef.{FieldDef}
use Rattle.fp_model.specs.declared.definitions.MsdbDef.{MsdbDef}
use Rattle.model_laws.proofs.Layouts.{stand_below}

not_both : true ≡ false → ⊥
not_both e = cc

-- ---- the first bytes of a list

take_front : (n : ℕ) (xs ys : List ℕ) → length (take n xs) ≡ n → take n (xs ++ ys) ≡ take n xs
take_front zero xs ys long = refl
take_front (suc n) [] ys long = absurd (omega (arith, long))
take_front (suc n) (x ∷ xs) ys long = ap (λ zs. x ∷ zs) (take_front n xs ys (omega (arith, long)))

take_less : (n m : ℕ) (xs : List ℕ) → n ≤ m → take n (take m xs) ≡ take n xs
take_less zero m xs le = refl
take_less (suc n) zero xs le = absurd (omega (arith, le))
take_less (suc n) (suc m) [] le = refl
take_less (suc n) (suc m) (x ∷ xs) le = ap (λ zs. x ∷ zs) (take_less n m xs (omega (arith, le)))

-- ---- fields

one_of : (same : Bool) (f field : FieldDef) (later : Option FieldDef) (P : FieldDef → Type 0) → P f
    → (later ≡ Some field → P field) → (if same then Some f else later) ≡ Some field → P field
one_of true f field later P first others e = let is : f ≡ field = cc in subst P is first
one_of false f field later P first others e = others e

found_behind : (at : ℕ) (fields : List FieldDef) (end : ℕ) (name : List ℕ) (field : FieldDef) → StandFrom at fields end
    → field_of fields name ≡ Some field → at ≤ field.at
found_behind at [] end name field s e = absurd cc
found_behind at (f ∷ fs) end name field s e =
    let next : field_of fs name ≡ Some field → at ≤ field.at =
    λ h. omega (arith, found_behind (at + f.length) fs end name field s.2 h) in
    one_of (same_text f.name.0 name) f field (field_of fs name) (λ g. at ≤ g.at) (omega (arith, s.0)) next e

-- a field that isn't the key stands behind it
behind_key : (fields : List FieldDef) (end : ℕ) (name : List ℕ) (field : FieldDef) → StandFrom 0 fields end
    → field_of fields name ≡ Some field → is_key field ≡ false → key_length fields ≤ field.at
behind_key [] end name field s e other = absurd cc
behind_key (f ∷ fs) end name field s e other =
    let first : is_key f ≡ true = ap (λ (n : ℕ). n == 0) s.0 in
    one_of (same_text f.name.0 name) f field (field_of fs name) (λ g. is_key g ≡ false → f.length ≤ g.at)
    (λ none. absurd (not_both (sym first ∙ none)))
    (λ h none. omega (arith, found_behind (0 + f.length) fs end name field s.2 h)) e other

-- a definition has a key, and its segments have room for it
pub record HasKey (def : MsdbDef) : Type 0 where
  pub some : 1 ≤ def.length
  pub room : key_length def.fields ≤ def.length
  pub stand : StandFrom 0 def.fields def.length

has_key_in : (fields : List FieldDef) (end : ℕ) → StandFrom 0 fields end → BeginsWithKey fields → (1 ≤ end)
    × (key_length fields ≤ end)
has_key_in [] end s key = absurd key
has_key_in (f ∷ fs) end s key =
    let fits : IsTrue (nat_le 1 f.length && nat_le f.length 1024) =
    subst (λ k. IsTrue (is_field_length k f.length)) key.0 s.1 in
    let some : 1 ≤ f.length = grind (arith, nat_tests) in
    let below = stand_below (0 + f.length) fs end s.2 in
    (omega (arith, some, below), omega (arith, below))

pub has_key : (def : MsdbDef) → IsMsdbDef def → HasKey def
has_key def is = let both = has_key_in def.fields def.length is.layout.stand is.key in
    record { some = both.0; room = both.1; stand = is.layout.stand }

-- ---- arguments

-- the segment has this key
pub record Keyed (fields : List FieldDef) (key segment : List ℕ) : Type 0 where
  pub long : length key ≡ key_length fields
  pub its : key_of fields segment ≡ key

no_key : (a b : Bool) (others : ℕ) → (if a then 65 else (if b then 67 else others)) ≡ 32 → b ≡ false
no_key true b others e = cc
no_key false true others e = cc
no_key false false others e = refl

-- a good change isn't one of the key
good_change : (field : FieldDef) (op : ℕ) (operand bytes : List ℕ) → is_change op ≡ true
    → letter_on field op operand bytes ≡ 32 → is_key field ≡ false
good_change field op operand bytes change good = by (is_key field)
    (no_key (is_sum op && is_text field.kind) (is_change op && is_key field) _ good)
  where
    by : (k : Bool) → (is_change op && k) ≡ false → k ≡ false
    by k e = sym (ap (λ (c : Bool). c && k) change) ∙ e

put_keeps : (fields : List FieldDef) (key segment bytes : List ℕ) (field : FieldDef) → key_length fields ≤ field.at
    → Keyed fields key segment → Keyed fields key (with_field field bytes segment)
put_keeps fields key segment bytes field behind keyed =
    let n : ℕ = key_length fields in
    let front : List ℕ = take field.at segment in
    let rest : List ℕ = drop (field.at + length bytes) segment in
    let at_front : take n front ≡ key = take_less n field.at segment behind ∙ keyed.its in
    let one : take n (front ++ bytes) ≡ key = take_front n front bytes (ap length at_front ∙ keyed.long) ∙ at_front in
    record { long = keyed.long; its = take_front n (front ++ bytes) rest (ap length one ∙ keyed.long) ∙ one }

change_keeps : (fields : List FieldDef) (key segment operand : List ℕ) (op : ℕ) (field : FieldDef)
    → key_length fields ≤ field.at → Keyed fields key segment → Keyed fields key (with_change field op operand segment)
change_keeps fields key segment operand op field behind keyed =
    by (changed field op (field_bytes field segment) operand) refl
  where
    by : (o : Option (List ℕ)) → changed field op (field_bytes field segment) operand ≡ o
        → Keyed fields key (with_change field op operand segment)
    by None e = rw e keyed
    by (Some bytes) e = rw e (put_keeps fields key segment bytes field behind keyed)

known : (op : ℕ) → is_change op ≡ true → (is_verify op || is_change op) ≡ true
known op e = by (is_verify op)
  where
    by : (v : Bool) → (v || is_change op) ≡ true
    by true = refl
    by false = e

its_letter : (def : MsdbDef) (fsa : Fsa) (segment : List ℕ) (field : FieldDef) → is_change fsa.op ≡ true
    → field_of def.fields fsa.field ≡ Some field → letter_of def fsa segment ≡ letter_on field fsa.op fsa.operand
    (field_bytes field segment)
its_letter def fsa segment field change is = rw (known fsa.op change, is) refl

is_blank : (n : ℕ) → (n == 32) ≡ true → n ≡ 32
is_blank n e = grind arith

fsa_keeps : (def : MsdbDef) (key segment : List ℕ) (fsa : Fsa) (end : ℕ) → StandFrom 0 def.fields end
    → Keyed def.fields key segment → Keyed def.fields key (fsa_on def fsa segment).segment
fsa_keeps def key segment fsa end stand keyed = by (letter_of def fsa segment == 32) refl
  where
    field_keeps : (o : Option FieldDef) → is_change fsa.op ≡ true → letter_of def fsa segment ≡ 32
        → field_of def.fields fsa.field ≡ o → Keyed def.fields key (changed_by def fsa segment)
    field_keeps None change good e = rw (change, e) keyed
    field_keeps (Some field) change good e =
        let other = good_change field fsa.op fsa.operand (field_bytes field segment) change
        (sym (its_letter def fsa segment field change e) ∙ good) in
        rw (change, e) (change_keeps def.fields key segment fsa.operand fsa.op field
        (behind_key def.fields end fsa.field field stand e other) keyed)

    op_keeps : (c : Bool) → is_change fsa.op ≡ c → letter_of def fsa segment ≡ 32
        → Keyed def.fields key (changed_by def fsa segment)
    op_keeps true change good = field_keeps (field_of def.fields fsa.field) change good refl
    op_keeps false change good = rw change keyed

    by : (good : Bool) → (letter_of def fsa segment == 32) ≡ good
        → Keyed def.fields key (fsa_on def fsa segment).segment
    by true e = rw e (op_keeps (is_change fsa.op) refl (is_blank (letter_of def fsa segment) e))
    by false e = rw e keyed

-- a list of them keeps the key
pub list_keeps : (def : MsdbDef) (key : List ℕ) (fsas : List Fsa) (segment : List ℕ) (end : ℕ)
    → StandFrom 0 def.fields end → Keyed def.fields key segment
    → Keyed def.fields key (list_on def fsas segment).segment
unfolding list_on
list_keeps def key [] segment end stand keyed = keyed
list_keeps def key (fsa ∷ fsas) segment end stand keyed =
    list_keeps def key fsas (fsa_on def fsa segment).segment end stand (fsa_keeps def key segment fsa end stand keyed)
