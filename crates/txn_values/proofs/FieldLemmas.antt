-- Segments, a field at a time.
use Rattle.std.proofs.Common.{◌≡◌, ◌∙◌, refl, sym, ap, ℕ, ◌+◌, List, ◌∷◌, ◌++◌, length, drop, append_assoc, Option, Some, None}
use Rattle.fp_model.specs.declared.definitions.FieldDef.{FieldDef}
use Rattle.fp_model.specs.Values.{◌>>=◌, empty_field, empty_segment, value_bytes}
use Rattle.fp_model.specs.Fsas.{with_field}
use Rattle.std.specs.Prelude.{⊤, Result, Ok, Err, take}
use Rattle.txn_values.specs.declared.stop.Stop.{Stop}
use Rattle.txn_values.specs.inside.Giving.{PutsIn}
use Rattle.txn_values.specs.Fields.{field_filled}

-- a list in front of one that there may be
abbrev pub prefixed : {A : Type 0} → List A → Option (List A) → Option (List A)
prefixed front None = None
prefixed front (Some text) = Some (front ++ text)

prefixed_both : (front bytes : List ℕ) (others : Option (List ℕ))
    → prefixed front (others >>= (λ o. Some (bytes ++ o))) ≡ prefixed (front ++ bytes) others
prefixed_both front bytes None = refl
prefixed_both front bytes (Some o) = ap (λ (t : List ℕ). Some t) (sym (append_assoc front bytes o))

-- one field more
pub empty_more : (front bytes : List ℕ) (f : FieldDef) (fs : List FieldDef) → empty_field f ≡ Some bytes
    → prefixed front (empty_segment (f ∷ fs)) ≡ prefixed (front ++ bytes) (empty_segment fs)
empty_more front bytes f fs is = ap (λ (x : Option (List ℕ)). prefixed front
    (x >>= (λ b. empty_segment fs >>= (λ o. Some (b ++ o))))) is ∙ prefixed_both front bytes (empty_segment fs)

-- a field that holds no zero
pub empty_none : (front : List ℕ) (f : FieldDef) (fs : List FieldDef) → empty_field f ≡ None
    → prefixed front (empty_segment (f ∷ fs)) ≡ None
empty_none front f fs is = ap (λ (x : Option (List ℕ)). prefixed front
    (x >>= (λ b. empty_segment fs >>= (λ o. Some (b ++ o))))) is

-- the bytes of a field put in their place, where they are a value
pub put_is_filled : (field : FieldDef) (segment new text : List ℕ) (r : Result ⊤ Stop) → length new ≡ field.length
    → PutsIn r new (value_bytes field text)
    → PutsIn r (take field.at segment ++ (new ++ drop (field.at + field.length) segment))
    (field_filled field text segment)
put_is_filled field segment new text (Ok done) long is =
    ap (λ (o : Option (List ℕ)). o >>= (λ bytes. Some (with_field field bytes segment))) is
    ∙ ap (λ (n : ℕ). Some (take field.at segment ++ new ++ drop (field.at + n) segment)) long
    ∙ ap (λ (bytes : List ℕ). Some bytes) (append_assoc (take field.at segment) new
    (drop (field.at + field.length) segment))
put_is_filled field segment new text (Err e) long is = λ other.
    ap (λ (o : Option (List ℕ)). o >>= (λ bytes. Some (with_field field bytes segment))) (is other)
