-- The letters of changes of numbers, once the conditions before the last are known.
use Rattle.std.proofs.Common.{◌≡◌, refl, ap, ℕ, List, [], ◌∷◌, false, Option, Some, None}
use Rattle.std.specs.Prelude.{ℤ, is_none, Result, Ok, Err, OnErr, OnOk, ⊤}
use Rattle.fp_model.specs.declared.definitions.FieldDef.{FieldDef}
use Rattle.fp_model.specs.Fsas.{is_key, is_text, letter_on, first_letter, changed, summed}
use Rattle.fp_model.specs.Numbers.{number, bytes_of}
use Rattle.fp_model.specs.Texts.{number_in}
use Rattle.fld_calls.specs.declared.operation.Sum.{Sum}
use Rattle.fld_calls.specs.declared.operation.Sum.TheVariants as sum
use Rattle.fld_calls.specs.declared.field.Refusal.{Refusal}
use Rattle.fld_calls.specs.inside.Operations.{sum_byte}
use Rattle.fld_calls.specs.inside.Refusals.{letter_in, letter_of_refusal, IsDone}

-- G or a blank
abbrev fit_letter : Option (List ℕ) → ℕ
fit_letter made = first_letter ((is_none made, 71) ∷ [])

pub done-letter : (r : Result ⊤ Refusal) (old new : List ℕ) (made : Option (List ℕ)) → IsDone r old new made
    → letter_in r ≡ fit_letter made
done-letter (Ok done) old new (Some bytes) is = refl
done-letter (Ok done) old new None is = absurd is
done-letter (Err why) old new (Some bytes) is = absurd is
done-letter (Err why) old new None is = ap letter_of_refusal is.0

pub done-err : (r : Result ⊤ Refusal) (old new : List ℕ) (made : Option (List ℕ)) → IsDone r old new made
    → OnErr r (new ≡ old)
done-err (Ok done) old new made is = tt
done-err (Err why) old new (Some bytes) is = absurd is
done-err (Err why) old new None is = is.1

pub done-ok : (r : Result ⊤ Refusal) (old new : List ℕ) (made : Option (List ℕ)) → IsDone r old new made
    → OnOk r (made ≡ Some new)
done-ok (Ok done) old new (Some bytes) is = cc is
done-ok (Ok done) old new None is = absurd is
done-ok (Err why) old new made is = tt

module _ (field : FieldDef) (operand bytes : List ℕ) (given : ℤ) (no_text : is_text field.kind ≡ false)
    (no_key : is_key field ≡ false) (is : number_in operand ≡ Some given) where
  pub put-letter : letter_on field 61 operand bytes ≡ fit_letter (bytes_of field.kind field.length given)
  put-letter = rw (no_text, no_key, is) refl

  module _ (held : ℤ) (holds : number field.kind bytes ≡ Some held) where
    pub sum-letter : (s : Sum) → letter_on field (sum_byte s) operand bytes ≡ fit_letter
        (bytes_of field.kind field.length (summed (sum_byte s) held given))
    sum-letter sum.Add = rw (no_text, no_key, is, holds) refl
    sum-letter sum.Subtract = rw (no_text, no_key, is, holds) refl

    pub sum-changed : (s : Sum) → changed field (sum_byte s) bytes operand ≡ bytes_of field.kind field.length
        (summed (sum_byte s) held given)
    sum-changed sum.Add = rw (no_text, is, holds) refl
    sum-changed sum.Subtract = rw (no_text, is, holds) refl
