-- Calls that fit a main storage database: what a fit statement asks, of what was shown.
use Rattle.std.proofs.Common.{◌≡◌, ◌∙◌, refl, sym, ap, subst, arith, ℕ, zero, suc, ◌+◌, ◌-◌, ◌<◌, ◌≤◌, List, [], ◌∷◌, ◌++◌, length, length-append, Bool, true, false, if◌then◌else◌, Option, Some, None}
use Rattle.std.specs.Prelude.{slice_get, find, option_map, nat_le, not, ◌==◌, IfSome, replicate, pos}
use Rattle.std.specs.List.{AllByRecursion}
use Rattle.std.proofs.lemmas.Bool.{eqb-true, leb-true}
use Rattle.std.proofs.lemmas.List.{length-replicate}
use Rattle.fp_model.specs.declared.calls.Message.{Message}
use Rattle.fp_model.specs.declared.calls.Ssa.{Ssa}
use Rattle.fp_model.specs.declared.definitions.Defs.{Defs}
use Rattle.fp_model.specs.declared.definitions.MsdbDef.{MsdbDef}
use Rattle.fp_model.specs.declared.definitions.FieldDef.{FieldDef}
use Rattle.fp_model.specs.declared.scripts.Operand.{Operand}
use Rattle.fp_model.specs.declared.scripts.SsaText.{SsaText}
use Rattle.fp_model.specs.declared.scripts.FsaText.{FsaText}
use Rattle.fp_model.specs.declared.scripts.FieldText.{FieldText}
use Rattle.fp_model.specs.State.{key_length}
use Rattle.fp_model.specs.Texts.{padded, number_in}
use Rattle.fp_model.specs.Numbers.{bytes_of}
use Rattle.fp_model.specs.Fsas.{Fsa, field_of, with_field, is_text}
use Rattle.fp_model.specs.MsdbCalls.{key_named}
use Rattle.fp_model.specs.WellFormed.{StandFrom}
use Rattle.fp_model.specs.FitCalls.{FitsKey}
use Rattle.fp_model.specs.Values.{◌>>=◌, Layout, layout_of, fitted, fitted_key, value_bytes, empty_field, empty_segment}
use Rattle.fp_model.specs.Operands.{Env, ShownSegment, text_of, key_text, ssa_of, ssas_of, fsas_given, filled}
use Rattle.packed_dec.proofs.ReadsBack.{reads_back}
use Rattle.model_laws.proofs.Layouts.{field_within, with_field_length}
use Rattle.model_laws.proofs.Texts.{some_step}

-- ---- values that there are

pub mapped : {A B : Type 0} (m : Option A) (f : A → B) (y : B) → option_map f m ≡ Some y → (x : A) × (m ≡ Some x)
    × (f x ≡ y)
mapped None f y is = absurd cc
mapped (Some x) f y is = (x, refl, cc)

-- ---- lengths

fitted_by : (n : ℕ) (text bytes : List ℕ) (b : Bool) → nat_le (length text) n ≡ b
    → (if b then Some (padded n text) else None) ≡ Some bytes → length bytes ≡ n
fitted_by n text bytes false le is = absurd cc
fitted_by n text bytes true le is =
    let same : padded n text ≡ bytes = cc in
    let blanks : List ℕ = replicate (n - length text) 32 in
    let long : length (padded n text) ≡ length text + length blanks = length-append text blanks in
    let count : length blanks ≡ n - length text = length-replicate (n - length text) 32 in
    let short : length text ≤ n = leb-true (length text) n le in
    let to : length (padded n text) ≡ length bytes = ap length same in
    omega (arith, long, count, short, to)

pub fitted_length : (n : ℕ) (text bytes : List ℕ) → fitted n text ≡ Some bytes → length bytes ≡ n
fitted_length n text bytes is = fitted_by n text bytes (nat_le (length text) n) refl is

by_kind : {A : Type 0} (b : Bool) (x y : Option A) (z : A) (P : Type 0) → (if b then x else y) ≡ Some z
    → (x ≡ Some z → P) → (y ≡ Some z → P) → P
by_kind true x y z P is h k = h is
by_kind false x y z P is h k = k is

value_length : (field : FieldDef) (text bytes : List ℕ) → value_bytes field text ≡ Some bytes
    → length bytes ≡ field.length
value_length field text bytes is =
    by_kind (is_text field.kind) (fitted field.length text) (number_in text >>= bytes_of field.kind field.length) bytes
    (length bytes ≡ field.length) is (fitted_length field.length text bytes)
    (λ h. let m = some_step (number_in text) (bytes_of field.kind field.length) bytes h in
    (reads_back field.kind field.length m.0 bytes m.2).0)

blanks_length : (n : ℕ) (bytes : List ℕ) → Some (padded n []) ≡ Some bytes → length bytes ≡ n
blanks_length n bytes is =
    let blanks : List ℕ = padded n [] in
    let same : blanks ≡ bytes = cc in
    let count : length blanks ≡ n - 0 = length-replicate (n - 0) 32 in
    let to : length blanks ≡ length bytes = ap length same in
    omega (arith, count, to)

empty_field_length : (field : FieldDef) (bytes : List ℕ) → empty_field field ≡ Some bytes → length bytes ≡ field.length
empty_field_length field bytes is =
    by_kind (is_text field.kind) (Some (padded field.length [])) (bytes_of field.kind field.length (pos 0)) bytes
    (length bytes ≡ field.length) is
    (λ h. blanks_length field.length bytes h) (λ h. (reads_back field.kind field.length (pos 0) bytes h).0)

-- ---- fields one behind another

pub empty_length : (fields : List FieldDef) (at end : ℕ) (bytes : List ℕ) → StandFrom at fields end
    → empty_segment fields ≡ Some bytes → at + length bytes ≡ end
empty_length [] at end bytes h is = let none : [] ≡ bytes = cc in let long : 0 ≡ length bytes = ap length none in
    omega (arith, long)
empty_length (f ∷ fs) at end bytes h is =
    let first = some_step (empty_field f) (λ b. empty_segment fs >>= (λ o. Some (b ++ o))) bytes is in
    let others = some_step (empty_segment fs) (λ o. Some (first.0 ++ o)) bytes first.2 in
    let whole : first.0 ++ others.0 ≡ bytes = let e = others.2 in cc in
    let a = empty_field_length f first.0 first.1 in
    let b = empty_length fs (at + f.length) end others.0 h.2 others.1 in
    let c : length first.0 + length others.0 ≡ length bytes = sym (length-append first.0 others.0) ∙ ap length whole in
    omega (arith, a, b, c)

pub filled_length : (defs : Defs) (message : Message) (env : Env) (fields : List FieldDef) (end : ℕ)
    (values : List FieldText) (segment bytes : List ℕ)
    → StandFrom 0 fields end → length segment ≡ end → filled defs message env fields values segment ≡ Some bytes
    → length bytes ≡ end
filled_length defs message env fields end [] segment bytes h long is = let same : segment ≡ bytes = cc in
    sym (ap length same) ∙ long
filled_length defs message env fields end (v ∷ vs) segment bytes h long is =
    let field = some_step (field_of fields v.field.0) (λ f. text_of defs message env v.value >>=
    (λ t. value_bytes f t >>= (λ b. filled defs message env fields vs (with_field f b segment)))) bytes is in
    let text = some_step (text_of defs message env v.value)
    (λ t. value_bytes field.0 t >>= (λ b. filled defs message env fields vs (with_field field.0 b segment))) bytes
    field.2 in
    let value = some_step (value_bytes field.0 text.0) (λ b. filled defs message env fields vs
    (with_field field.0 b segment)) bytes text.2 in
    let within = field_within fields 0 end v.field.0 field.0 h field.1 in
    let kept = with_field_length field.0 value.0 segment (value_length field.0 text.0 value.0 value.1)
    (omega (arith, within, long)) in
    filled_length defs message env fields end vs (with_field field.0 value.0 segment) bytes h (kept ∙ long) value.2

-- ---- keys

pub layout_is : (defs : Defs) (db type_number : ℕ) (def : MsdbDef) → slice_get defs.msdbs db ≡ Some def
    → layout_of defs db type_number ≡ Some (record { fields = def.fields; has_key = true })
layout_is defs db type_number def is =
    ap (λ (o : Option MsdbDef). elim o [
      | Some d ↦ Some (record { fields = d.fields; has_key = true })
      | None ↦ slice_get defs.dedbs (db - length defs.msdbs) >>=
          (λ d. slice_get d.segments type_number >>=
          (λ s. Some (record { fields = s.fields; has_key = not s.sequential })))
    ]) is

pub key_fits : (defs : Defs) (message : Message) (env : Env) (db type_number : ℕ) (operand : Operand) (def : MsdbDef)
    (key : List ℕ) → slice_get defs.msdbs db ≡ Some def
    → key_text defs message env db type_number operand ≡ Some key → FitsKey key def
key_fits defs message env db type_number operand def key found is =
    let text = some_step (text_of defs message env operand) (λ t. layout_of defs db type_number >>= (λ l. fitted_key l t))
    key is in
    let fit : fitted (key_length def.fields) text.0 ≡ Some key =
    sym (ap (λ (o : Option Layout). o >>= (λ l. fitted_key l text.0)) (layout_is defs db type_number def found)) ∙
    text.2 in
    fitted_length (key_length def.fields) text.0 key fit

ssa_key_fits : (defs : Defs) (message : Message) (env : Env) (db segment : ℕ) (key : Option Operand) (def : MsdbDef)
    (ssa : Ssa) → slice_get defs.msdbs db ≡ Some def
    → ssa_of defs message env db (record { segment = segment; key = key }) ≡ Some ssa
    → IfSome ssa.key (λ k. FitsKey k def)
ssa_key_fits defs message env db segment None def ssa found is =
    let same : record { segment = segment; key = None } ≡ ssa = cc in
    subst (λ (s : Ssa). IfSome s.key (λ k. FitsKey k def)) same tt
ssa_key_fits defs message env db segment (Some operand) def ssa found is =
    let m = mapped (key_text defs message env db segment operand) (λ k. record {
      segment = segment;
      key =
          Some k;
    }) ssa is in
    subst (λ (s : Ssa). IfSome s.key (λ k. FitsKey k def)) m.2
    (key_fits defs message env db segment operand def m.0 found m.1)

pub ssas_fit : (defs : Defs) (message : Message) (env : Env) (db : ℕ) (ssas : List SsaText) (def : MsdbDef)
    (list : List Ssa) → slice_get defs.msdbs db ≡ Some def
    → ssas_of defs message env db ssas ≡ Some list → IfSome (key_named list) (λ k. FitsKey k def)
ssas_fit defs message env db [] def list found is = let same : [] ≡ list = cc in
    subst (λ (l : List Ssa). IfSome (key_named l) (λ k. FitsKey k def)) same tt
ssas_fit defs message env db (s ∷ ss) def list found is =
    let first = some_step (ssa_of defs message env db s) (λ a. ssas_of defs message env db ss >>= (λ more. Some (a ∷ more)))
    list is in
    let others = some_step (ssas_of defs message env db ss) (λ more. Some (first.0 ∷ more)) list first.2 in
    let same : first.0 ∷ others.0 ≡ list = let e = others.2 in cc in
    subst (λ (l : List Ssa). IfSome (key_named l) (λ k. FitsKey k def)) same
    (ssa_key_fits defs message env db s.segment s.key def first.0 found first.1)

-- as many search arguments as the statement has
pub given_length : (defs : Defs) (message : Message) (env : Env) (fsas : List FsaText) (list : List Fsa)
    → fsas_given defs message env fsas ≡ Some list → length list ≡ length fsas
given_length defs message env [] list is = let same : [] ≡ list = cc in sym (ap length same)
given_length defs message env (f ∷ fs) list is =
    let text = some_step (text_of defs message env f.operand)
    (λ t. fsas_given defs message env fs >>= (λ os. Some (record {
      field = f.field.0;
      status = 32;
      op =
          f.op;
      operand = t;
    } ∷ os))) list is in
    let others = some_step (fsas_given defs message env fs) (λ os. Some (record {
      field = f.field.0;
      status = 32;
      op =
          f.op;
      operand = text.0;
    } ∷ os)) list text.2 in
    let same : record { field = f.field.0; status = 32; op = f.op; operand = text.0 } ∷ others.0 ≡ list = let e =
    others.2 in cc in
    sym (ap length same) ∙ ap suc (given_length defs message env fs others.0 others.1)

-- ---- definitions

pub def_at : (msdbs : List MsdbDef) (db : ℕ) → db < length msdbs → (def : MsdbDef) × (slice_get msdbs db ≡ Some def)
def_at [] db lt = absurd (omega arith)
def_at (d ∷ ds) zero lt = (d, refl)
def_at (d ∷ ds) (suc db) lt = def_at ds db (omega arith)

pub all_at : (P : MsdbDef → Type 0) (msdbs : List MsdbDef) (db : ℕ) (def : MsdbDef) → AllByRecursion P msdbs
    → slice_get msdbs db ≡ Some def → P def
all_at P [] db def all is = absurd cc
all_at P (d ∷ ds) zero def all is = let same : d ≡ def = cc in subst P same all.0
all_at P (d ∷ ds) (suc db) def all is = all_at P ds db def all.1 is

-- a segment that is found among those shown
shown_first : (b : Bool) (P : ShownSegment → Type 0) (first shown : ShownSegment) (others : Option ShownSegment)
    (db : ℕ) → (first.db == db) ≡ b → P first → (others ≡ Some shown → P shown × (shown.db ≡ db))
    → (if b then Some first else others) ≡ Some shown → P shown × (shown.db ≡ db)
shown_first true P first shown others db is h later found = let same : first ≡ shown = cc in
    (subst P same h, ap (λ (s : ShownSegment). s.db) (sym same) ∙ eqb-true first.db db is)
shown_first false P first shown others db is h later found = later found

pub shown_at : (P : ShownSegment → Type 0) (segments : List ShownSegment) (db : ℕ) (shown : ShownSegment)
    → AllByRecursion P segments → find (λ s. s.db == db) segments ≡ Some shown → P shown × (shown.db ≡ db)
shown_at P [] db shown all is = absurd cc
shown_at P (s ∷ ss) db shown all is = shown_first (s.db == db) P s shown (find (λ s. s.db == db) ss) db refl all.0
    (shown_at P ss db shown all.1) is
