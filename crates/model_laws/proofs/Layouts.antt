-- Where fields stand in a segment, and which types segments have.
use Rattle.std.proofs.Common.{◌++◌, ◌+◌, ◌∙◌, ◌∷◌, ◌≡◌, ◌≤◌, Bool, List, Option, Some, [], ap, arith, drop, false, length, length-append, length-drop, subst, take, true, ℕ}
use Rattle.std.proofs.lemmas.List.{length-take}
use Rattle.std.proofs.lemmas.List.Quantifiers.{position-Some}
use Rattle.std.proofs.lemmas.Option.{none-some, same_Some, slice_get-get_or}
use Rattle.std.specs.Option.{option_map_or}
use Rattle.std.specs.Prelude.{if◌then◌else◌}
use Rattle.fp_model.specs.Fsas.{field_of, with_field}
use Rattle.fp_model.specs.Order.{is_sequential, sequential_type}
use Rattle.fp_model.specs.State.{key_length, key_of}
use Rattle.fp_model.specs.Texts.{same_text}
use Rattle.fp_model.specs.WellFormed.{IsMsdbDef, StandFrom}
use Rattle.fp_model.specs.declared.definitions.FieldDef.{FieldDef}
use Rattle.fp_model.specs.declared.definitions.MsdbDef.{MsdbDef}
use Rattle.fp_model.specs.declared.definitions.SegDef.{SegDef}

-- fields end where they begin, or behind it: as stand_below, with the fields first
pub stand_from : (fields : List FieldDef) (at end : ℕ) → StandFrom at fields end → at ≤ end
stand_from [] at end h = omega (arith, h)
stand_from (f ∷ fs) at end h = omega (arith, stand_from fs (at + f.length) end h.2)

-- the first field of a name, or one of the others
pub within_first : (b : Bool) (first field : FieldDef) (others : Option FieldDef) (at end : ℕ) → first.at ≡ at
    → at + first.length ≤ end → (others ≡ Some field → field.at + field.length ≤ end)
    → (if b then Some first else others) ≡ Some field → field.at + field.length ≤ end
within_first true first field others at end is le later found =
    subst (λ (f : FieldDef). f.at + f.length ≤ end) (same_Some first field found) (omega (arith, is, le))
within_first false first field others at end is le later found = later found

-- each field ends within the segment
pub field_within : (fields : List FieldDef) (at end : ℕ) (name : List ℕ) (field : FieldDef) → StandFrom at fields end
    → field_of fields name ≡ Some field → field.at + field.length ≤ end
field_within [] at end name field h found = absurd cc
field_within (f ∷ fs) at end name field h found =
    within_first (same_text f.name.0 name) f field (field_of fs name) at end h.0 (stand_from fs (at + f.length) end h.2)
    (field_within fs (at + f.length) end name field h.2) found

-- fields end where they begin, or behind it
pub stand_below : (at : ℕ) (fields : List FieldDef) (end : ℕ) → StandFrom at fields end → at ≤ end
stand_below at [] end s = omega (arith, s)
stand_below at (f ∷ fs) end s = omega (arith, stand_below (at + f.length) fs end s.2)

-- the key ends within the segment
pub key_within : (fields : List FieldDef) (end : ℕ) → StandFrom 0 fields end → key_length fields ≤ end
key_within [] end s = omega arith
key_within (f ∷ fs) end (is, fits, others) = omega (arith, stand_below (0 + f.length) fs end others)

-- a whole segment has a whole key
pub key_whole : (def : MsdbDef) (segment : List ℕ) → IsMsdbDef def → length segment ≡ def.length
    → length (key_of def.fields segment) ≡ key_length def.fields
key_whole def segment good whole = let within = key_within def.fields def.length good.layout.stand in
    grind (arith, length-take)

-- the sequential type is sequential
pub sequential_is : (types : List SegDef) (type : ℕ) → sequential_type types ≡ Some type → is_sequential types type ≡ true
sequential_is [] type e = absurd (none-some type e)
sequential_is (d ∷ ds) type e =
    let f = position-Some (λ (def : SegDef). def.sequential) (d ∷ ds) type d e in
    ap (λ (o : Option SegDef). option_map_or (λ (def : SegDef). def.sequential) o false)
    (slice_get-get_or (d ∷ ds) type d f.0) ∙ f.1

-- a field set anew leaves the length
pub with_field_length : (field : FieldDef) (bytes segment : List ℕ) → length bytes ≡ field.length
    → field.at + field.length ≤ length segment → length (with_field field bytes segment) ≡ length segment
with_field_length field bytes segment is le =
    let a = length-append (take field.at segment) bytes in
    let b = length-append (take field.at segment ++ bytes) (drop (field.at + length bytes) segment) in
    let c = length-take field.at segment in
    let d = length-drop (field.at + length bytes) segment in
    omega (arith, a, b, c, d)
