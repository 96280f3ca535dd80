-- Values put into a segment one after another, and the type that the last argument names.
use Rattle.std.proofs.Common.{◌≡◌, ◌∙◌, refl, ap, arith, ℕ, suc, ◌+◌, ◌-◌, ◌<◌, List, [], ◌∷◌, length, drop, get_or, Option, Some, None}
use Rattle.fp_model.specs.declared.definitions.Defs.{Defs}
use Rattle.fp_model.specs.declared.definitions.FieldDef.{FieldDef}
use Rattle.fp_model.specs.declared.calls.Message.{Message}
use Rattle.fp_model.specs.declared.scripts.FieldText.{FieldText}
use Rattle.fp_model.specs.declared.scripts.SsaText.{SsaText}
use Rattle.fp_model.specs.Fsas.{field_of, with_field}
use Rattle.fp_model.specs.Operands.{Env, filled, new_type, text_of}
use Rattle.fp_model.specs.Values.{◌>>=◌, value_bytes}
use Rattle.txn_machine.specs.inside.Filling.{with_value}
use Rattle.plain_laws.proofs.Places.{rest_at}

-- one value, and those behind it
then_filled : {A B C D : Type 0} (m : Option A) (f : A → Option B) (g : A → B → Option C) (h : A → B → C → D)
    (k : D → Option D)
    → (m >>= (λ a. f a >>= (λ b. g a b >>= (λ c. k (h a b c))))) ≡
    (m >>= (λ a. f a >>= (λ b. g a b >>= (λ c. Some (h a b c))))) >>= k
then_filled None f g h k = refl
then_filled (Some a) f g h k = second a (f a)
  where
    third : (a : _) (b : _) (o : Option _) → (o >>= (λ c. k (h a b c))) ≡ (o >>= (λ c. Some (h a b c))) >>= k
    third a b None = refl
    third a b (Some c) = refl

    second : (a : _) (o : Option _) → (o >>= (λ b. g a b >>= (λ c. k (h a b c)))) ≡
        (o >>= (λ b. g a b >>= (λ c. Some (h a b c)))) >>= k
    second a None = refl
    second a (Some b) = third a b (g a b)

filled_by : (defs : Defs) (message : Message) (env : Env) (fields : List FieldDef) (values : List FieldText)
    (value : FieldText) (segment : List ℕ)
    → filled defs message env fields (value ∷ values) segment ≡ with_value defs message env fields value segment >>=
    filled defs message env fields values
filled_by defs message env fields values value segment =
    then_filled (field_of fields value.field.0) (λ field. text_of defs message env value.value)
    (λ field text. value_bytes field text) (λ field text bytes. with_field field bytes segment)
    (filled defs message env fields values)

-- one value more
pub filled_more : (defs : Defs) (message : Message) (env : Env) (fields : List FieldDef) (values : List FieldText)
    (i : ℕ) (value : FieldText) (segment new : List ℕ)
    → i < length values → value ≡ get_or values i value → with_value defs message env fields value segment ≡ Some new
    → filled defs message env fields (drop i values) segment ≡ filled defs message env fields (drop (i + 1) values) new
filled_more defs message env fields values i value segment new lt at is =
    ap (λ (vs : List FieldText). filled defs message env fields vs segment) (rest_at values i value lt at)
    ∙ filled_by defs message env fields (drop (i + 1) values) value segment
    ∙ ap (λ (o : Option (List ℕ)). o >>= filled defs message env fields (drop (i + 1) values)) is

-- a value that isn't there
pub filled_none : (defs : Defs) (message : Message) (env : Env) (fields : List FieldDef) (values : List FieldText)
    (i : ℕ) (value : FieldText) (segment : List ℕ)
    → i < length values → value ≡ get_or values i value → with_value defs message env fields value segment ≡ None
    → filled defs message env fields (drop i values) segment ≡ None
filled_none defs message env fields values i value segment lt at is =
    ap (λ (vs : List FieldText). filled defs message env fields vs segment) (rest_at values i value lt at)
    ∙ filled_by defs message env fields (drop (i + 1) values) value segment
    ∙ ap (λ (o : Option (List ℕ)). o >>= filled defs message env fields (drop (i + 1) values)) is

-- the last argument's type
pub last_type : (defs : Defs) (message : Message) (ssas : List SsaText) (d : SsaText) → 0 < length ssas
    → (get_or ssas (length ssas - 1) d).segment ≡ new_type defs message ssas
last_type defs message [] d lt = absurd (omega arith)
last_type defs message (s ∷ []) d lt = refl
last_type defs message (s ∷ t ∷ ss) d lt =
    let at : suc (suc (length ss)) - 1 ≡ suc (length (t ∷ ss) - 1) = omega arith in
    ap (λ (i : ℕ). (get_or (s ∷ t ∷ ss) i d).segment) at ∙ last_type defs message (t ∷ ss) d (omega arith)
