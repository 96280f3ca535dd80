-- What one call of a queue comes to, from what it makes of its segment.
use Rattle.std.proofs.Common.{◌≡◌, refl, sym, ◌∙◌, ap, subst, arith, ℕ, zero, suc, ◌<◌, ◌≤◌, List, [], ◌∷◌, length, map, slice_index_or, take, Bool, true, false, ◌==◌, Option, Some, None, slice_get, slice_set, inl, inr, Bor}
use Rattle.std.specs.Prelude.{Result, Ok, Err, ⊤, IsTrue, ◌↔◌, is_none}
use Rattle.std.specs.Option.{option_copied}
use Rattle.std.specs.List.{AllZip, AllByRecursion}
use Rattle.std.proofs.lemmas.Bool.Decides.{nat_tests}
use Rattle.std.proofs.lemmas.List.{length-map, length-take-le}
use Rattle.fld_calls.specs.Settling.{IsSettled}
use Rattle.fld_calls.specs.declared.arguments.SettleFault.{SettleFault}
use Rattle.fld_calls.specs.declared.arguments.SettleFault.TheVariants as fault
use Rattle.fp_model.specs.CheckpointText.{IsMsdbOf}
use Rattle.fp_model.specs.FitCalls.{IsFitDeferred}
use Rattle.fp_model.specs.Fsas.{Failure, first_failure, fsas_in, list_on}
use Rattle.fp_model.specs.Items.{with_bytes, with_item}
use Rattle.fp_model.specs.Settle.{Applied, Becomes, Fails, absent, applied, fld_failure, fld_on, with_field_changes, with_msdb}
use Rattle.fp_model.specs.State.{key_length, key_of, segment_of, with_segment}
use Rattle.fp_model.specs.WellFormed.{IsMsdbDef}
use Rattle.fp_model.specs.declared.calls.Deferred.{Deferred}
use Rattle.fp_model.specs.declared.calls.Deferred.TheVariants.{Fld, Repl, Isrt, Dlet}
use Rattle.fp_model.specs.declared.database.Msdb.{Msdb}
use Rattle.fp_model.specs.declared.definitions.FieldDef.{FieldDef}
use Rattle.fp_model.specs.declared.definitions.MsdbDef.{MsdbDef}
use Rattle.fp_model.specs.declared.log.Item.TheVariants.{Segment}
use Rattle.msdb_store.specs.Settling.{has_bytes, key_in}
use Rattle.msdb_store.specs.inside.Steps.{IsChanged, IsGiven, given_as}
use Rattle.msdb_store.specs.Store.{IsFitSegment, IsOf, Stored, segment_in}
use Rattle.key_order.proofs.Ascending.{not_both, stands_there}
use Rattle.msdb_store.proofs.Tables.{belongs, stored, with_room}
use Rattle.msdb_store.proofs.Databases.{Partner, in_as, in_at, in_database, partner, with_at}
use Rattle.fld_calls.proofs.Kept.{HasKey, has_key, list_keeps}
use Rattle.msdb_store.proofs.Lookups.{found_has, found_is}
use Rattle.std.proofs.lemmas.Option.{slice_get_past, slice_get_within}
use Rattle.model_laws.proofs.Texts.{same_text_is}

pub all_got : {X : Type 0} (P : X → Type 0) (xs : List X) (n : ℕ) (x : X) → AllByRecursion P xs
    → slice_get xs n ≡ Some x → P x
all_got P [] n x all e = cc
all_got P (y ∷ ys) zero x all e = let is : y ≡ x = cc in subst P is all.0
all_got P (y ∷ ys) (suc n) x all e = all_got P ys n x all.1 e

-- a segment of a database has the defined length and its key
pub record Whole (def : MsdbDef) (key segment : List ℕ) : Type 0 where
  pub long : length segment ≡ def.length
  pub its : key_of def.fields segment ≡ key

whole_one : (def : MsdbDef) (msdb : Msdb) (key segment : List ℕ) → IsMsdbOf def msdb
    → segment_of def msdb key ≡ Some segment → Whole def key segment
whole_one def msdb key segment good e = record {
  long = found_is (key_of def.fields) (λ s. length s ≡ def.length) key segment msdb.segments good.lengths e;
  its = same_text_is (key_of def.fields segment) key (found_has (key_of def.fields) key segment msdb.segments e);
}

module _ (defs : List MsdbDef) (now : List Msdb) (of : AllZip IsMsdbOf defs now) (number : ℕ) (def : MsdbDef)
    (there : slice_get defs number ≡ Some def) where
  its : Partner IsMsdbOf now number def
  its = partner IsMsdbOf defs now number def of there

  in_its : (key : List ℕ) → segment_in defs now number key ≡ segment_of def its.y key
  in_its key = in_at defs now number def its.y key there its.there

  pub whole_in : (key segment : List ℕ) → segment_in defs now number key ≡ Some segment → Whole def key segment
  whole_in key segment e = whole_one def its.y key segment its.related (sym (in_its key) ∙ e)

  -- ---- field calls

  failure_is : (key fsas : List ℕ) → fld_failure defs number key fsas now ≡ fld_on defs def its.y key fsas
  failure_is key fsas = rw (there, fld_failure) (rw its.there refl)

  abbrev on : List ℕ → Option (List ℕ) → Option Failure
  on fsas o = elim o [ None ↦ absent | Some segment ↦ first_failure def 0 (fsas_in fsas) segment ]

  failure_on : (key fsas : List ℕ) (o : Option (List ℕ)) → segment_in defs now number key ≡ o
      → fld_failure defs number key fsas now ≡ on fsas o
  failure_on key fsas o e = failure_is key fsas ∙ ap (on fsas) (sym (in_its key) ∙ e)

  abbrev by_failure : List ℕ → List ℕ → Option Failure → Applied
  by_failure key fsas o = elim o [
    | None ↦ Becomes (with_msdb defs number (with_field_changes defs key fsas) now)
    | Some
        failure ↦ Fails failure.place failure.found
  ]

  pub fld_absent : (key fsas : List ℕ) → segment_in defs now number key ≡ None
      → applied defs (Fld number key fsas) now ≡ Fails 65535 []
  fld_absent key fsas e = ap (by_failure key fsas) (failure_on key fsas None e)

  pub fld_bad : (key fsas segment found : List ℕ) (place : ℕ) → segment_in defs now number key ≡ Some segment
      → first_failure def 0 (fsas_in fsas) segment ≡ Some (record { place = place; found = found })
      → applied defs (Fld number key fsas) now ≡ Fails place found
  fld_bad key fsas segment found place e bad = ap (by_failure key fsas) (failure_on key fsas (Some segment) e ∙ bad)

  changes_are : (key fsas segment : List ℕ) → segment_in defs now number key ≡ Some segment
      → with_field_changes defs key fsas def its.y ≡ with_segment def (list_on def (fsas_in fsas) segment).segment its.y
  changes_are key fsas segment e =
      ap (λ (o : Option (List ℕ)).
      let msdb : Msdb = elim o [
        | None ↦ its.y
        | Some s ↦
            with_segment def (list_on def (fsas_in fsas) s).segment its.y
      ] in msdb) (sym (in_its key) ∙ e)

  bytes_put : (key bytes : List ℕ) (msdb : Msdb) → 1 ≤ length bytes
      → with_segment def bytes msdb ≡ with_bytes key bytes def msdb
  bytes_put key [] msdb some = absurd (omega (arith, some))
  bytes_put key (b ∷ bytes) msdb some = refl

  pub fld_good : (key fsas segment new : List ℕ) → segment_in defs now number key ≡ Some segment
      → first_failure def 0 (fsas_in fsas) segment ≡ None → new ≡ (list_on def (fsas_in fsas) segment).segment
      → 1 ≤ length new
      → applied defs (Fld number key fsas) now ≡ Becomes (with_item defs now (Segment number key new))
  fld_good key fsas segment new e good is some =
      ap (by_failure key fsas) (failure_on key fsas (Some segment) e ∙ good)
      ∙ ap Becomes (with_at defs now number def its.y (with_field_changes defs key fsas) there its.there
      ∙ ap (slice_set now number) (changes_are key fsas segment e ∙ ap (λ s. with_segment def s its.y) (sym is) ∙
      bytes_put key new its.y some)
      ∙ sym (with_at defs now number def its.y (with_bytes key new) there its.there))

  -- ---- calls that put or take a segment

  pub put_is : (key bytes : List ℕ) → 1 ≤ length bytes
      → with_msdb defs number (λ def msdb. with_segment def bytes msdb) now ≡ with_item defs now
      (Segment number key bytes)
  put_is key bytes some =
      with_at defs now number def its.y (λ def msdb. with_segment def bytes msdb) there its.there
      ∙ ap (slice_set now number) (bytes_put key bytes its.y some)
      ∙ sym (with_at defs now number def its.y (with_bytes key bytes) there its.there)

  pub key_here : (bytes : List ℕ) → key_in defs number bytes ≡ key_of def.fields bytes
  key_here bytes = rw (there, key_in) refl

-- a whole segment under its key fits
pub fits_whole : (defs : List MsdbDef) (number : ℕ) (def : MsdbDef) (key bytes : List ℕ)
    → slice_get defs number ≡ Some def → length key ≡ key_length def.fields → length bytes ≡ def.length
    → key_of def.fields bytes ≡ key → IsFitSegment defs (Segment number key bytes)
fits_whole defs number def key bytes there long whole is =
    (def, there, record { key_length = long; segment = inr (whole, ap (λ n. take n bytes) long ∙ is) })

pub fits_none : (defs : List MsdbDef) (number : ℕ) (def : MsdbDef) (key : List ℕ) → slice_get defs number ≡ Some def
    → length key ≡ key_length def.fields → IsFitSegment defs (Segment number key [])
fits_none defs number def key there long = (def, there, record { key_length = long; segment = inl refl })

key_long : (def : MsdbDef) (bytes : List ℕ) → HasKey def → length bytes ≡ def.length
    → length (key_of def.fields bytes) ≡ key_length def.fields
key_long def bytes has whole = length-take-le (key_length def.fields) bytes (omega (arith, has.room, whole))

-- ---- by what it gives

module _ (defs : List MsdbDef) (now : List Msdb) (of : AllZip IsMsdbOf defs now)
    (defined : AllByRecursion IsMsdbDef defs) where
  pub given_absent : (number : ℕ) (key fsas : List ℕ) → IsFitDeferred defs (Fld number key fsas)
      → segment_in defs now number key ≡ None → IsGiven defs now (Fld number key fsas) (Err (fault.Bad 65535 []))
  given_absent number key fsas fit e = fld_absent defs now of number fit.0.0 fit.0.1 key fsas e

  -- a field call, from what it makes of the segment
  pub given_fld : (number : ℕ) (key fsas segment new : List ℕ) (r : Result ⊤ SettleFault)
      → IsFitDeferred defs (Fld number key fsas) → segment_in defs now number key ≡ Some segment
      → length new ≡ length segment
      → ((def : MsdbDef) → slice_get defs number ≡ Some def → IsSettled def (fsas_in fsas) segment r new)
      → IsGiven defs now (Fld number key fsas) (given_as r new)
  given_fld number key fsas segment new (Ok done) fit e long settled =
      let def = fit.0.0 in
      let there = fit.0.1 in
      let has = has_key def (all_got IsMsdbDef defs number def defined there) in
      let whole = whole_in defs now of number def there key segment e in
      let s = settled def there in
      let kept = list_keeps def key (fsas_in fsas) segment def.length has.stand (record {
        long = fit.0.2;
        its =
            whole.its;
      }) in
      let is : key_of def.fields new ≡ key = ap (key_of def.fields) s.1 ∙ kept.its in (
        fits_whole defs number def key new there fit.0.2 (long ∙ whole.long) is,
        fld_good defs now of number def there key fsas segment new e s.0 s.1
            (omega (arith, has.some, long, whole.long)),
      )
  given_fld number key fsas segment new (Err (fault.Bad place found)) fit e long settled =
      fld_bad defs now of number fit.0.0 fit.0.1 key fsas segment found place e (settled fit.0.0 fit.0.1)
  given_fld number key fsas segment new (Err fault.Memory) fit e long settled = tt

  put_given : (number : ℕ) (bytes : List ℕ) (def : MsdbDef) → slice_get defs number ≡ Some def
      → length bytes ≡ def.length
      → IsFitSegment defs (Segment number (key_in defs number bytes) bytes)
      × (with_msdb defs number (λ def msdb. with_segment def bytes msdb) now ≡ with_item defs now
      (Segment number (key_in defs number bytes) bytes))
  put_given number bytes def there whole =
      let has = has_key def (all_got IsMsdbDef defs number def defined there) in
      let here = key_here defs now of number def there bytes in (
        fits_whole defs number def (key_in defs number bytes) bytes there
            (ap length here ∙ key_long def bytes has whole) whole (sym here),
        put_is defs now of number def there (key_in defs number bytes) bytes (omega (arith, has.some, whole)),
      )

  pub given_repl : (number : ℕ) (bytes : List ℕ) → IsFitDeferred defs (Repl number bytes)
      → IsGiven defs now (Repl number bytes) (Ok bytes)
  given_repl number bytes fit = let p = put_given number bytes fit.0 fit.1 fit.2 in (p.0, ap Becomes p.1)

  pub given_isrt : (number : ℕ) (bytes : List ℕ) → IsFitDeferred defs (Isrt number bytes)
      → IsGiven defs now (Isrt number bytes) (Ok bytes)
  given_isrt number bytes fit = let p = put_given number bytes fit.0 fit.1 fit.2 in (p.0, ap Becomes p.1)

  pub given_dlet : (number : ℕ) (key : List ℕ) → IsFitDeferred defs (Dlet number key)
      → IsGiven defs now (Dlet number key) (Ok [])
  given_dlet number key fit = (fits_none defs number fit.0 key fit.1 fit.2, refl)

-- from what the changes came to
pub given_changed : (defs : List MsdbDef) (now : List Msdb) (of : AllZip IsMsdbOf defs now)
    (defined : AllByRecursion IsMsdbDef defs) (number : ℕ) (key fsas segment : List ℕ) (r : Result (List ℕ) SettleFault)
    → IsFitDeferred defs (Fld number key fsas) → segment_in defs now number key ≡ Some segment
    → ((def : MsdbDef) → slice_get defs number ≡ Some def → IsChanged def (fsas_in fsas) segment r)
    → IsGiven defs now (Fld number key fsas) r
given_changed defs now of defined number key fsas segment (Ok new) fit e changed =
    given_fld defs now of defined number key fsas segment new (Ok tt) fit e (changed fit.0.0 fit.0.1).1
    (λ def there. (changed def there).0)
given_changed defs now of defined number key fsas segment (Err why) fit e changed =
    given_fld defs now of defined number key fsas segment segment (Err why) fit e refl changed

-- ---- places

pub within_msdbs : (defs : List MsdbDef) (msdbs : List Msdb) (n : ℕ) (def : MsdbDef) → AllZip IsMsdbOf defs msdbs
    → slice_get defs n ≡ Some def → n < length msdbs
within_msdbs defs msdbs n def of there = let p = partner IsMsdbOf defs msdbs n def of there in
    slice_get_within msdbs n p.y p.there

pub key_by : (defs : List MsdbDef) (n : ℕ) (def : MsdbDef) (bytes : List ℕ) → slice_get defs n ≡ Some def
    → key_in defs n bytes ≡ key_of def.fields bytes
key_by defs n def bytes there = rw (there, key_in) refl

-- the database that a call names
abbrev pub database : Deferred → ℕ
database (Fld number key fsas) = number
database (Repl number bytes) = number
database (Isrt number bytes) = number
database (Dlet number key) = number

pub call_within : (defs : List MsdbDef) (msdbs : List Msdb) (call : Deferred) → AllZip IsMsdbOf defs msdbs
    → IsFitDeferred defs call → database call < length msdbs
call_within defs msdbs (Fld number key fsas) of fit = within_msdbs defs msdbs number fit.0.0 of fit.0.1
call_within defs msdbs (Repl number bytes) of fit = within_msdbs defs msdbs number fit.0 of fit.1
call_within defs msdbs (Isrt number bytes) of fit = within_msdbs defs msdbs number fit.0 of fit.1
call_within defs msdbs (Dlet number key) of fit = within_msdbs defs msdbs number fit.0 of fit.1

-- a database that isn't there has no segment
pub none_past : (defs : List MsdbDef) (msdbs : List Msdb) (n : ℕ) (key : List ℕ) → length msdbs ≤ n
    → segment_in defs msdbs n key ≡ None
none_past defs msdbs n key past = in_as defs msdbs n key ∙ ap (in_database defs key (slice_get defs n))
    (slice_get_past msdbs n past) ∙ by (slice_get defs n)
  where
    by : (d : Option MsdbDef) → in_database defs key d None ≡ None
    by None = refl
    by (Some def) = refl

-- ---- items that add a segment

pub some_bytes : (r : Bool) (bytes : List ℕ) → (IsTrue r ↔ (bytes ≡ [])) → r ≡ false → has_bytes bytes ≡ true
some_bytes r [] iff e = let yes_it_is : r ≡ true = iff.1 refl in absurd (not_both (sym yes_it_is ∙ e))
some_bytes r (b ∷ bytes) iff e = refl

-- a slice of no bytes, and of some
pub none_there : (r : Bool) (bytes : List ℕ) → r ≡ (length bytes == 0) → r ≡ true → bytes ≡ []
none_there r [] is e = refl
none_there r (b ∷ bytes) is e =
    let more : (length (b ∷ bytes) == 0) ≡ false = grind (arith, nat_tests) in
    absurd (not_both (sym e ∙ is ∙ more))

pub some_there : (r : Bool) (bytes : List ℕ) → r ≡ (length bytes == 0) → r ≡ false → has_bytes bytes ≡ true
some_there r [] is e = absurd (not_both (sym is ∙ e))
some_there r (b ∷ bytes) is e = refl

pub no_bytes : (r : Bool) (bytes : List ℕ) → (IsTrue r ↔ (bytes ≡ [])) → r ≡ true → has_bytes bytes ≡ false
no_bytes r bytes iff e = ap has_bytes (iff.0 e)

pub copied_none : {X : Type 0} (o : Option (Bor X)) → is_none o ≡ is_none (option_copied o)
copied_none None = refl
copied_none (Some x) = refl

-- the fields of a table are those of its definition
pub fields_at : {T : Type 0} (fields : T → List FieldDef) (msdb : T → Msdb) (defs : List MsdbDef) (store : Stored)
    (tables : List T) (n : ℕ) (t : T) (def : MsdbDef) → stored fields msdb tables ≡ record store { spare = 0 }
    → IsOf defs store
    → t ≡ slice_index_or tables n t → slice_get defs n ≡ Some def → fields t ≡ def.fields
fields_at fields msdb defs store tables n t def is of at there =
    let its : IsOf defs (stored fields msdb tables) = subst (IsOf defs) (sym is) (with_room 0 of) in
    let within : n < length tables = omega (
      arith,
      within_msdbs defs (map msdb tables) n def its.each there,
      length-map tables msdb,
    ) in
    let b = belongs fields msdb defs tables n t its (stands_there tables n t within ∙ ap Some (sym at)) in
    b.same ∙ ap (λ d. d.fields) (same_def b.def (sym b.there ∙ there))
  where
    same_def : (d : MsdbDef) → Some d ≡ Some def → d ≡ def
    same_def d e = cc
