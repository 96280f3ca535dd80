-- One argument on a segment, from what becomes of its field.
use Rattle.std.proofs.Common.{◌≡◌, refl, sym, ap, ◌∙◌, arith, append_assoc, ℕ, ◌+◌, ◌-◌, ◌≤◌, List, [], ◌∷◌, ◌++◌, length, take, drop, Bool, true, false, ◌||◌, ◌==◌, if◌then◌else◌, Option, Some, None}
use Rattle.std.specs.Prelude.{Result, Ok, Err, OnErr, OnOk, ⊤}
use Rattle.std.proofs.lemmas.List.{take-append-drop, drop-drop}
use Rattle.fp_model.specs.declared.definitions.FieldDef.{FieldDef}
use Rattle.fp_model.specs.declared.definitions.MsdbDef.{MsdbDef}
use Rattle.fp_model.specs.Fsas.{Fsa, field_bytes, field_of, is_change, is_verify, changed, changed_by, letter_on, letter_of, fsa_on}
use Rattle.fp_model.specs.Texts.{same_text}
use Rattle.fp_model.specs.WellFormed.{StandFrom}
use Rattle.fld_calls.specs.declared.operation.Operation.{Operation}
use Rattle.fld_calls.specs.declared.operation.Operation.TheVariants as operation
use Rattle.fld_calls.specs.declared.operation.Verify.TheVariants as verify
use Rattle.fld_calls.specs.declared.operation.Sum.TheVariants as sum
use Rattle.fld_calls.specs.declared.field.Refusal.{Refusal}
use Rattle.fld_calls.specs.declared.field.Refusal.TheVariants as refusal
use Rattle.fld_calls.specs.inside.Operations.{byte_of}
use Rattle.fld_calls.specs.inside.Refusals.{letter_in, bytes_behind, segment_behind}
use Rattle.model_laws.proofs.Layouts.{stand_below}

-- ---- fields

-- one of two
by_name : (same : Bool) (f field : FieldDef) (end : ℕ) (later : Option FieldDef) → f.at + f.length ≤ end
    → (later ≡ Some field → field.at + field.length ≤ end)
    → (if same then Some f else later) ≡ Some field → field.at + field.length ≤ end
by_name true f field end later first others e = let is : f ≡ field = cc e in rw is at first
by_name false f field end later first others e = others e

found_from : (at : ℕ) (fields : List FieldDef) (end : ℕ) (name : List ℕ) (field : FieldDef) → StandFrom at fields end
    → field_of fields name ≡ Some field → field.at + field.length ≤ end
found_from at [] end name field s e = absurd cc
found_from at (f ∷ fs) end name field (is, fits, others) e =
    by_name (same_text f.name.0 name) f field end (field_of fs name)
    (omega (arith, is, stand_below (at + f.length) fs end others))
    (λ h. found_from (at + f.length) fs end name field others h) e

-- a field that is found stands within the segment
pub found_within : (fields : List FieldDef) (end : ℕ) (name : List ℕ) (field : FieldDef) → StandFrom 0 fields end
    → Some field ≡ field_of fields name → field.at + field.length ≤ end
found_within fields end name field s e = found_from 0 fields end name field s (sym e)

-- ---- operations

-- each has a byte that is known
pub known : (o : Operation) → (is_verify (byte_of o) || is_change (byte_of o)) ≡ true
known (operation.Verify verify.Equal) = refl
known (operation.Verify verify.Greater) = refl
known (operation.Verify verify.GreaterOrEqual) = refl
known (operation.Verify verify.Less) = refl
known (operation.Verify verify.LessOrEqual) = refl
known (operation.Verify verify.NotEqual) = refl
known (operation.Sum sum.Add) = refl
known (operation.Sum sum.Subtract) = refl
known operation.Put = refl

-- no refusal's letter is a blank
pub no_blank : (why : Refusal) → (letter_in (Err why) == 32) ≡ false
no_blank refusal.Operation = refl
no_blank refusal.NoField = refl
no_blank refusal.Key = refl
no_blank refusal.Operand = refl
no_blank refusal.NoNumber = refl
no_blank refusal.False = refl
no_blank refusal.Range = refl

-- ---- an argument

pub no_operation : (def : MsdbDef) (fsa : Fsa) (segment : List ℕ) → (is_verify fsa.op || is_change fsa.op) ≡ false
    → letter_of def fsa segment ≡ 65
no_operation def fsa segment e = rw e refl

pub no_field : (def : MsdbDef) (fsa : Fsa) (segment : List ℕ) → (is_verify fsa.op || is_change fsa.op) ≡ true
    → None ≡ field_of def.fields fsa.field → letter_of def fsa segment ≡ 72
no_field def fsa segment known e = rw (known, sym e) refl

-- the bytes of a field, by its place and its length in other words
pub window : (field : FieldDef) (segment : List ℕ) (at size : ℕ) → at ≡ field.at → size ≡ field.length
    → take (at + size - at) (drop at segment) ≡ field_bytes field segment
window field segment at size a s =
    let many : at + size - at ≡ field.length = omega (arith, s) in
    ap (λ (n : ℕ). take n (drop at segment)) many ∙ ap (λ (n : ℕ). take field.length (drop n segment)) a

-- a segment with bytes put in a field
module _ (field : FieldDef) (segment new : List ℕ) (long : length new ≡ field.length) where
  abbrev put : List ℕ
  put = take field.at segment ++ (new ++ drop (field.at + field.length) segment)

  -- the same ones
  put_same : new ≡ field_bytes field segment → put ≡ segment
  put_same same =
      let rest : field_bytes field segment ++ drop (field.at + field.length) segment ≡ drop field.at segment =
      ap (λ (xs : List ℕ). field_bytes field segment ++ xs) (sym (drop-drop field.length field.at segment)) ∙
      take-append-drop field.length (drop field.at segment) in
      ap (λ (xs : List ℕ). take field.at segment ++ (xs ++ drop (field.at + field.length) segment)) same
      ∙ ap (λ (xs : List ℕ). take field.at segment ++ xs) rest
      ∙ take-append-drop field.at segment

  put_behind : (op : ℕ) (operand : List ℕ) (change : Bool) → is_change op ≡ change
      → (if change then changed field op (field_bytes field segment) operand else Some (field_bytes field segment)) ≡
      Some new
      → put ≡ segment_behind field op operand segment
  put_behind op operand true c e = rw (c, e, long) (sym
      (append_assoc (take field.at segment) new (drop (field.at + field.length) segment)))
  put_behind op operand false c e = rw c (put_same (cc e))

  pub put-ok : (op : ℕ) (operand : List ℕ) (r : Result ⊤ Refusal)
      → OnOk r (bytes_behind field op (field_bytes field segment) operand ≡ Some new)
      → OnOk r (put ≡ segment_behind field op operand segment)
  put-ok op operand (Ok done) e = put_behind op operand (is_change op) refl e
  put-ok op operand (Err why) e = tt

  pub put-err : (r : Result ⊤ Refusal) → OnErr r (new ≡ field_bytes field segment) → OnErr r (put ≡ segment)
  put-err (Ok done) e = tt
  put-err (Err why) e = put_same e

-- an argument whose operation is known and whose field is found
module _ (def : MsdbDef) (fsa : Fsa) (segment : List ℕ) (field : FieldDef)
    (is_known : (is_verify fsa.op || is_change fsa.op) ≡ true) (is : Some field ≡ field_of def.fields fsa.field) where
  pub its-letter : letter_of def fsa segment ≡ letter_on field fsa.op fsa.operand (field_bytes field segment)
  its-letter = rw (is_known, sym is) refl

  its-change : segment_behind field fsa.op fsa.operand segment ≡ changed_by def fsa segment
  its-change = rw (sym is) refl

  -- what its answer makes of the segment
  pub answered : (new : List ℕ) (r : Result ⊤ Refusal)
      → letter_in r ≡ letter_on field fsa.op fsa.operand (field_bytes field segment)
      → OnOk r (new ≡ segment_behind field fsa.op fsa.operand segment)
      → OnErr r (new ≡ segment)
      → new ≡ (fsa_on def fsa segment).segment
  answered new (Ok done) letter ok err =
      let blank : letter_of def fsa segment ≡ 32 = its-letter ∙ sym letter in
      rw blank (ok ∙ its-change)
  answered new (Err why) letter ok err =
      let same : letter_of def fsa segment ≡ letter_in (Err why) = its-letter ∙ sym letter in
      rw (same, no_blank why) err
