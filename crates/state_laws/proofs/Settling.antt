-- Settling: a queue whose calls fit leaves main storage databases in shape.
use Rattle.std.proofs.Common.{◌≡◌, ℕ, zero, suc, ◌+◌, ◌-◌, ◌*◌, ◌≤◌, ◌%◌, ◌/◌, List, [], ◌∷◌, ◌++◌, length, take, drop, replicate, Option, Some, None, refl, sym, ◌∙◌, ap, subst, Bool, true, false, not, ◌&&◌, ◌||◌, ◌==◌, slice_get, slice_set, arith, length-append, length-drop}
use Rattle.std.specs.Prelude.{if◌then◌else◌, ℤ, pos, negsuc, nat_le, option_and_then, is_none}
use Rattle.std.specs.List.{AllByRecursion, AllZip}
use Rattle.std.specs.Option.{option_map_or}
use Rattle.std.proofs.lemmas.Bool.Decides.{nat_tests}
use Rattle.std.proofs.lemmas.List.{length-take, length-replicate}
use Rattle.fp_model.specs.declared.calls.Deferred.{Deferred}
use Rattle.fp_model.specs.declared.calls.Deferred.TheVariants.{Fld, Repl, Isrt, Dlet}
use Rattle.fp_model.specs.declared.database.Msdb.{Msdb}
use Rattle.fp_model.specs.declared.definitions.FieldDef.{FieldDef}
use Rattle.fp_model.specs.declared.definitions.FieldKind.{FieldKind}
use Rattle.fp_model.specs.declared.definitions.FieldKind.TheVariants.{C, X, H, F, P}
use Rattle.fp_model.specs.declared.definitions.MsdbDef.{MsdbDef}
use Rattle.fp_model.specs.CheckpointText.{IsMsdbOf}
use Rattle.fp_model.specs.FitCalls.{IsFitDeferred}
use Rattle.fp_model.specs.Fsas.{Failure, Fsa, changed, changed_by, field_bytes, field_of, fsa_on, fsas_in, is_change, is_key, is_sum, is_text, is_verify, letter_of, letter_on, list_on, new_number, suits, with_field}
use Rattle.fp_model.specs.Numbers.{big_endian, bytes_of, form_of, is_length_of, packed_form, pairs}
use Rattle.fp_model.specs.Settle.{Applied, Becomes, Fails, Settled, Stands, VerifyFails, applied, fld_failure, settle, settle_from, with_field_changes, with_msdb}
use Rattle.fp_model.specs.State.{drop_key, key_of, segment_of, with_segment, without_segment}
use Rattle.fp_model.specs.Texts.{number_in, padded, same_text}
use Rattle.fp_model.specs.WellFormed.{IsMsdbDef, StandFrom}
use Rattle.key_order.proofs.Ascending.{all_but, all_put, still_ascends, with_one_ascends}
use Rattle.state_laws.proofs.Lists.{each_at, all_at, found_has}
use Rattle.model_laws.proofs.Numerals.{length-big_endian, length-form}
use Rattle.plain_laws.proofs.Alls.{each_set}
use Rattle.model_laws.proofs.Layouts.{field_within, with_field_length}
use Rattle.std.proofs.lemmas.Option.{none-some, same_Some}

-- ---- lengths of fields

-- a value that stands under a test
under_test : (b : Bool) (x bytes : List ℕ) → (if b then Some x else None) ≡ Some bytes → x ≡ bytes
under_test true x bytes e = same_Some x bytes e
under_test false x bytes e = absurd (none-some bytes e)

form_length : (kind : FieldKind) (size : ℕ) (n : ℤ) (bytes : List ℕ) → is_length_of kind size ≡ true
    → form_of kind size n ≡ Some bytes → length bytes ≡ size
form_length C size n bytes fits e = absurd (none-some bytes e)
form_length X size (pos n) bytes fits e = sym (ap length (under_test _ (big_endian size n) bytes e)) ∙ length-big_endian size n
form_length X size (negsuc n) bytes fits e = absurd (none-some bytes e)
form_length H size n bytes fits e = let two : size ≡ 2 = grind (arith, nat_tests) in
    sym (ap length (under_test _ _ bytes e)) ∙ sym two
form_length F size n bytes fits e = let four : size ≡ 4 = grind (arith, nat_tests) in
    sym (ap length (under_test _ _ bytes e)) ∙ sym four
form_length P size n bytes fits e =
    let some : 1 ≤ size = grind (arith, nat_tests) in
    sym (ap length (under_test _ _ bytes e)) ∙ length-form size _ _ some

bytes_length : (kind : FieldKind) (size : ℕ) (n : ℤ) (bytes : List ℕ) → bytes_of kind size n ≡ Some bytes
    → length bytes ≡ size
bytes_length kind size n bytes e = by (is_length_of kind size) refl e
  where
    by : (b : Bool) → is_length_of kind size ≡ b → (if b then form_of kind size n else None) ≡ Some bytes
        → length bytes ≡ size
    by true fits e = form_length kind size n bytes fits e
    by false fits e = absurd (none-some bytes e)

padded_length : (n : ℕ) (text : List ℕ) → length text ≤ n → length (padded n text) ≡ n
padded_length n text short =
    let a = length-append text (replicate (n - length text) 32) in
    let b = length-replicate {A = ℕ} (n - length text) 32 in
    omega (arith, a, b, short)

-- ---- field search arguments

-- what a good change puts into a field has its length
changed_length : (field : FieldDef) (op : ℕ) (old operand bytes : List ℕ) → suits field operand ≡ true
    → changed field op old operand ≡ Some bytes → length bytes ≡ field.length
changed_length field op old operand bytes good e = by (is_text field.kind) good e
  where
    numbers : (o : Option ℤ) → option_and_then (bytes_of field.kind field.length) o ≡ Some bytes
        → length bytes ≡ field.length
    numbers None e = absurd (none-some bytes e)
    numbers (Some n) e = bytes_length field.kind field.length n bytes e

    by : (b : Bool) → (if b then nat_le (length operand) field.length else not (is_none (number_in operand))) ≡ true
        → (if b then Some (padded field.length operand) else option_and_then (bytes_of field.kind field.length)
        (new_number field op old operand)) ≡ Some bytes
        → length bytes ≡ field.length
    by true short e =
        let le : length operand ≤ field.length = grind (arith, nat_tests) in
        sym (ap length (same_Some (padded field.length operand) bytes e)) ∙ padded_length field.length operand le
    by false short e = numbers (new_number field op old operand) e

third_letter : (a b c : Bool) (others : ℕ) → (if a then 65 else (if b then 67 else (if not c then 66 else others))) ≡ 32
    → c ≡ true
third_letter true b c others e = cc
third_letter false true c others e = cc
third_letter false false true others e = refl
third_letter false false false others e = cc

-- the operand of a good argument suits its field
good_suits : (field : FieldDef) (op : ℕ) (operand bytes : List ℕ) → letter_on field op operand bytes ≡ 32
    → suits field operand ≡ true
good_suits field op operand bytes e = third_letter (is_sum op && is_text field.kind) (is_change op && is_key field)
    (suits field operand) _ e

module _ (def : MsdbDef) (end : ℕ) (stands : StandFrom 0 def.fields end) where
  letter_is : (v c : Bool) (o : Option FieldDef) (field : FieldDef) (f : FieldDef → ℕ) → c ≡ true → o ≡ Some field
      → (if v || c then option_map_or f o 72 else 65) ≡ 32 → f field ≡ 32
  letter_is v c o field f is at e = by v (subst (λ (d : Bool). (if v || d then option_map_or f (Some field) 72 else 65)
      ≡ 32) is (subst (λ (p : Option FieldDef). (if v || c then option_map_or f p 72 else 65) ≡ 32) at e))
    where
      by : (v : Bool) → (if v || true then f field else 65) ≡ 32 → f field ≡ 32
      by true e = e
      by false e = e

  -- a good change leaves the length
  change_length : (fsa : Fsa) (segment : List ℕ) → length segment ≡ end → letter_of def fsa segment ≡ 32
      → length (changed_by def fsa segment) ≡ end
  change_length fsa segment long good = by (is_change fsa.op) refl (field_of def.fields fsa.field) refl
    where
      put : (field : FieldDef) → field_of def.fields fsa.field ≡ Some field → suits field fsa.operand ≡ true
          → (o : Option (List ℕ)) → changed field fsa.op (field_bytes field segment) fsa.operand ≡ o
          → length (option_map_or (λ bytes. with_field field bytes segment) o segment) ≡ end
      put field of good None is = long
      put field of good (Some bytes) is =
          let within = field_within def.fields 0 end fsa.field field stands of in
          with_field_length field bytes segment (changed_length field fsa.op (field_bytes field segment) fsa.operand
          bytes good is) (omega (arith, within, long)) ∙ long

      by : (b : Bool) → is_change fsa.op ≡ b → (o : Option FieldDef) → field_of def.fields fsa.field ≡ o
          → length (if b then option_map_or (λ (field : FieldDef). option_map_or
          (λ bytes. with_field field bytes segment) (changed field fsa.op (field_bytes field segment) fsa.operand)
          segment) o segment else segment) ≡ end
      by false is o of = long
      by true is None of = long
      by true is (Some field) of =
          let letter = letter_is (is_verify fsa.op) (is_change fsa.op) (field_of def.fields fsa.field) field
          (λ f. letter_on f fsa.op fsa.operand (field_bytes f segment)) is of good in
          put field of (good_suits field fsa.op fsa.operand (field_bytes field segment) letter)
          (changed field fsa.op (field_bytes field segment) fsa.operand) refl

  fsa_length : (fsa : Fsa) (segment : List ℕ) → length segment ≡ end → length (fsa_on def fsa segment).segment ≡ end
  fsa_length fsa segment long = by (letter_of def fsa segment == 32) refl
    where
      by : (b : Bool) → (letter_of def fsa segment == 32) ≡ b
          → length (if b then changed_by def fsa segment else segment) ≡ end
      by true good = let blank : letter_of def fsa segment ≡ 32 = is_blank (letter_of def fsa segment) good in
          change_length fsa segment long blank
        where
          is_blank : (n : ℕ) → (n == 32) ≡ true → n ≡ 32
          is_blank n e = grind arith
      by false bad = long

  -- a list of arguments leaves the length
  pub list_length : (fsas : List Fsa) (segment : List ℕ) → length segment ≡ end
      → length (list_on def fsas segment).segment ≡ end
  unfolding list_on
  list_length [] segment long = long
  list_length (fsa ∷ fsas) segment long = list_length fsas (fsa_on def fsa segment).segment
      (fsa_length fsa segment long)

-- ---- one database

pub without_good : (def : MsdbDef) (msdb : Msdb) (key : List ℕ) → IsMsdbOf def msdb
    → IsMsdbOf def (without_segment def key msdb)
without_good def msdb key good = record {
  lengths = all_but (key_of def.fields) (λ segment. length segment ≡ def.length) key msdb.segments good.lengths;
  in_order = still_ascends (key_of def.fields) key msdb.segments good.in_order;
}

pub with_good : (def : MsdbDef) (segment : List ℕ) (msdb : Msdb) → length segment ≡ def.length → IsMsdbOf def msdb
    → IsMsdbOf def (with_segment def segment msdb)
with_good def segment msdb whole good = record {
  lengths = all_put (key_of def.fields) (λ s. length s ≡ def.length) segment
      (drop_key (key_of def.fields) (key_of def.fields segment) msdb.segments) whole
      (all_but (key_of def.fields) (λ s. length s ≡ def.length) (key_of def.fields segment) msdb.segments good.lengths);
  in_order = with_one_ascends (key_of def.fields) segment msdb.segments good.in_order;
}

-- ---- a queue

module _ (defs : List MsdbDef) (are : AllByRecursion IsMsdbDef defs) where
  fields_changed : (key fsas : List ℕ) (def : MsdbDef) (msdb : Msdb) → IsMsdbDef def → IsMsdbOf def msdb
      → IsMsdbOf def (with_field_changes defs key fsas def msdb)
  fields_changed key fsas def msdb is good = by (segment_of def msdb key) refl
    where
      by : (o : Option (List ℕ)) → segment_of def msdb key ≡ o
          → IsMsdbOf def (elim o as (λ x. Msdb) [
            | None ↦ msdb
            | Some segment ↦
                with_segment def (list_on def (fsas_in fsas) segment).segment msdb
          ])
      by None at = good
      by (Some segment) at =
          let whole = found_has (λ (s : List ℕ). length s ≡ def.length) (λ s. same_text (key_of def.fields s) key)
          msdb.segments segment good.lengths at in
          with_good def (list_on def (fsas_in fsas) segment).segment msdb
          (list_length def def.length is.layout.stand (fsas_in fsas) segment whole) good

  -- a database changed so that it stays in shape
  one_changed : (number : ℕ) (change : MsdbDef → Msdb → Msdb) (msdbs : List Msdb) → AllZip IsMsdbOf defs msdbs
      → ((def : MsdbDef) (msdb : Msdb) → slice_get defs number ≡ Some def → IsMsdbOf def msdb
      → IsMsdbOf def (change def msdb))
      → AllZip IsMsdbOf defs (with_msdb defs number change msdbs)
  one_changed number change msdbs good keeps = by (slice_get defs number) refl (slice_get msdbs number) refl
    where
      by : (o : Option MsdbDef) → slice_get defs number ≡ o → (m : Option Msdb) → slice_get msdbs number ≡ m
          → AllZip IsMsdbOf defs (elim o as (λ x. List Msdb) [
            | None ↦ msdbs
            | Some def ↦ elim m as (λ x. List Msdb)
                [ None ↦ msdbs | Some msdb ↦ slice_set msdbs number (change def msdb) ]
          ])
      by None at m there = good
      by (Some def) at None there = good
      by (Some def) at (Some msdb) there = each_set IsMsdbOf defs msdbs number def (change def msdb) good at
          (keeps def msdb at (each_at IsMsdbOf defs msdbs number def msdb good at there))

  becomes_is : (msdbs changed : List Msdb) → Becomes msdbs ≡ Becomes changed → msdbs ≡ changed
  becomes_is msdbs changed e = cc

  -- a segment that fits its database is put there
  put : (number : ℕ) (bytes : List ℕ) (msdbs : List Msdb)
      → ((def : MsdbDef) × (slice_get defs number ≡ Some def) × (length bytes ≡ def.length))
      → AllZip IsMsdbOf defs msdbs
      → AllZip IsMsdbOf defs (with_msdb defs number (λ def msdb. with_segment def bytes msdb) msdbs)
  put number bytes msdbs fit good = one_changed number (λ def msdb. with_segment def bytes msdb) msdbs good
      (λ def msdb at one. with_good def bytes msdb (subst (λ (d : MsdbDef). length bytes ≡ d.length)
      (same_Some fit.0 def (sym fit.1 ∙ at)) fit.2) one)

  one_applied : (call : Deferred) (msdbs changed : List Msdb) → IsFitDeferred defs call → AllZip IsMsdbOf defs msdbs
      → applied defs call msdbs ≡ Becomes changed → AllZip IsMsdbOf defs changed
  one_applied (Fld number key fsas) msdbs changed fit good e = by (fld_failure defs number key fsas msdbs) e
    where
      by : (o : Option Failure) → elim o as (λ x. Applied) [
        | None ↦ Becomes (with_msdb defs number (with_field_changes defs key fsas) msdbs)
        | Some failure ↦
            Fails failure.place failure.found
      ] ≡ Becomes changed → AllZip IsMsdbOf defs changed
      by None e = subst (AllZip IsMsdbOf defs) (becomes_is _ changed e)
          (one_changed number (with_field_changes defs key fsas) msdbs good
          (λ def msdb at one. fields_changed key fsas def msdb (all_at IsMsdbDef defs number def are at) one))
      by (Some failure) e = cc
  one_applied (Repl number bytes) msdbs changed fit good e =
      subst (AllZip IsMsdbOf defs) (becomes_is _ changed e) (put number bytes msdbs fit good)
  one_applied (Isrt number bytes) msdbs changed fit good e =
      subst (AllZip IsMsdbOf defs) (becomes_is _ changed e) (put number bytes msdbs fit good)
  one_applied (Dlet number key) msdbs changed fit good e = subst (AllZip IsMsdbOf defs) (becomes_is _ changed e)
      (one_changed number (λ def msdb. without_segment def key msdb) msdbs good
      (λ def msdb at one. without_good def msdb key one))

  stands_is : (msdbs next : List Msdb) → Stands msdbs ≡ Stands next → msdbs ≡ next
  stands_is msdbs next e = cc

  queue_good : (place : ℕ) (msdbs : List Msdb) (calls : List Deferred) (next : List Msdb)
      → AllByRecursion (IsFitDeferred defs) calls → AllZip IsMsdbOf defs msdbs
      → settle_from defs place msdbs calls ≡ Stands next → AllZip IsMsdbOf defs next
  unfolding settle_from
  queue_good place msdbs [] next fit good e = subst (AllZip IsMsdbOf defs) (stands_is msdbs next e) good
  queue_good place msdbs (call ∷ calls) next fit good e =
      by (applied defs call msdbs) refl e (λ changed. queue_good (place + 1) changed calls next fit.1)
    where
      by : (a : Applied) → applied defs call msdbs ≡ a
          → elim a as (λ x. Settled) [
            | Becomes changed ↦ settle_from defs (place + 1) changed calls
            | Fails fsa found ↦
                VerifyFails place fsa found
          ] ≡ Stands next
          → ((changed : List Msdb) → AllZip IsMsdbOf defs changed
          → settle_from defs (place + 1) changed calls ≡ Stands next → AllZip IsMsdbOf defs next)
          → AllZip IsMsdbOf defs next
      by (Becomes changed) is e later = later changed (one_applied call msdbs changed fit.0 good is) e
      by (Fails fsa found) is e later = cc

pub settled_good : (defs : List MsdbDef) (msdbs : List Msdb) (deferred : List Deferred) (next : List Msdb)
    → AllByRecursion IsMsdbDef defs → AllByRecursion (IsFitDeferred defs) deferred → AllZip IsMsdbOf defs msdbs
    → settle defs msdbs deferred ≡ Stands next → AllZip IsMsdbOf defs next
settled_good defs msdbs deferred next are fit good e = queue_good defs are 0 msdbs deferred next fit good e
