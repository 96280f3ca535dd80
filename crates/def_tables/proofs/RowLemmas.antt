-- Rows of texts: a field at a time.
use Rattle.std.proofs.Common.{◌≡◌, ◌≢◌, ℕ, suc, ◌+◌, ◌<◌, List, [], ◌∷◌, ◌++◌, length, map, drop, get_or, Bool, true, false, Option, Some, None, refl, sym, ap, ◌∙◌, append_assoc}
use Rattle.std.proofs.lemmas.List.{drop_more, length-map}
use Rattle.toml.specs.Data.{Data}
use Rattle.toml.specs.View.{items_of, items_view, view}
use Rattle.toml.specs.declared.value.Value.{Value}
use Rattle.fp_model.specs.declared.definitions.FieldDef.{FieldDef}
use Rattle.def_tables.specs.Values.{field_in, segment_in}
use Rattle.def_tables.specs.inside.Values.{Appends}
use Rattle.fp_model.specs.Values.{◌>>=◌}
use Rattle.def_tables.proofs.Loops.{onto}

rest_none : (bytes : Option (List ℕ)) (rest : Option (List ℕ)) → rest ≡ None
    → (bytes >>= (λ b. rest >>= (λ behind. Some (b ++ behind)))) ≡ None
rest_none None rest e = refl
rest_none (Some b) rest e = rw e

-- a row has as many texts as there are fields
pub segment_in-lengths : (fields : List FieldDef) (values : List Data) → length values ≢ length fields
    → segment_in fields (items_of values) ≡ None
segment_in-lengths [] [] apart = absurd (apart refl)
segment_in-lengths [] (v ∷ vs) apart = refl
segment_in-lengths (f ∷ fs) [] apart = refl
segment_in-lengths (f ∷ fs) (v ∷ vs) apart = rest_none (field_in f v) (segment_in fs (items_of vs))
    (segment_in-lengths fs vs (λ e. apart (ap suc e)))

stops : (o : Option (List ℕ)) (step : List ℕ → Option (List ℕ)) → o ≡ None → (o >>= step) ≡ None
stops o step e = rw e

goes : (o : Option (List ℕ)) (step : List ℕ → Option (List ℕ)) (x : List ℕ) → o ≡ Some x → (o >>= step) ≡ step x
goes o step x e = rw e

onto_is : (bytes : List ℕ) (rest : Option (List ℕ)) → (rest >>= (λ behind. Some (bytes ++ behind))) ≡ onto bytes rest
onto_is bytes None = refl
onto_is bytes (Some behind) = refl

onto_onto : (front bytes : List ℕ) (rest : Option (List ℕ)) → onto front (onto bytes rest) ≡ onto (front ++ bytes) rest
onto_onto front bytes None = refl
onto_onto front bytes (Some behind) = ap Some (sym (append_assoc front bytes behind))

module _ (fields : List FieldDef) (values : List Value) (i : ℕ) (f : FieldDef) (v : Value)
    (in_fields : i < length fields) (in_values : i < length values) (is : v ≡ get_or values i v) where
  here : segment_in (drop i fields) (items_view (drop i values))
      ≡ (field_in (get_or fields i f) (view v) >>= (λ bytes. segment_in (drop (i + 1) fields)
      (items_view (drop (i + 1) values)) >>= (λ behind. Some (bytes ++ behind))))
  here =
      ap (λ fs. segment_in fs (items_view (drop i values))) (drop_more fields i f in_fields)
      ∙ ap (λ vs. segment_in (get_or fields i f ∷ drop (i + 1) fields) (items_view vs))
      (drop_more values i v in_values ∙ ap (λ w. w ∷ drop (i + 1) values) (sym is))

  -- a field that has no bytes
  pub row_stops : (front : List ℕ) → field_in (get_or fields i f) (view v) ≡ None
      → onto front (segment_in (drop i fields) (items_view (drop i values))) ≡ None
  row_stops front none = ap (onto front) (here ∙ stops _ _ none)

  -- a field that has some
  pub row_goes_on : (front bytes : List ℕ) → field_in (get_or fields i f) (view v) ≡ Some bytes
      → onto (front ++ bytes) (segment_in (drop (i + 1) fields) (items_view (drop (i + 1) values))) ≡ onto front
      (segment_in (drop i fields) (items_view (drop i values)))
  row_goes_on front bytes some =
      sym (onto_onto front bytes _)
      ∙ ap (onto front) (sym (onto_is bytes _))
      ∙ ap (onto front) (sym (here ∙ goes _ _ _ some))

-- what a true and a false answer say of bytes that are put at the end
pub appends-true : (fits : Bool) (old new : List ℕ) (o : Option (List ℕ)) → Appends fits old new o → fits ≡ true
    → (bytes : List ℕ) × (o ≡ Some bytes) × (new ≡ old ++ bytes)
appends-true true old new None h e = absurd h
appends-true true old new (Some bytes) h e = (bytes, refl, h)
appends-true false old new o h e = absurd (cc)

pub appends-false : (fits : Bool) (old new : List ℕ) (o : Option (List ℕ)) → Appends fits old new o → fits ≡ false
    → o ≡ None
appends-false false old new None h e = refl
appends-false false old new (Some bytes) h e = absurd h
appends-false true old new o h e = absurd (cc)

pub lengths_apart : (fields : List FieldDef) (values : List Value) → length values ≢ length fields
    → segment_in fields (items_view values) ≡ None
lengths_apart fields values apart = segment_in-lengths fields (map view values)
    (λ e. apart (sym (length-map values view) ∙ e))
