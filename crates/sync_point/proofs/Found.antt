-- The bytes that a failing verify found are short.
use Rattle.std.proofs.Common.{◌≡◌, refl, subst, arith, ℕ, ◌+◌, ◌≤◌, List, [], ◌∷◌, length, drop, Bool, true, false, if◌then◌else◌, Option, Some, None, slice_get}
use Rattle.std.specs.Prelude.{find, ◌==◌}
use Rattle.std.specs.Option.{option_map_or}
use Rattle.std.specs.List.{AllByRecursion}
use Rattle.std.proofs.lemmas.List.{length-take}
use Rattle.fp_model.specs.declared.database.Msdb.{Msdb}
use Rattle.fp_model.specs.declared.definitions.FieldDef.{FieldDef}
use Rattle.fp_model.specs.declared.definitions.MsdbDef.{MsdbDef}
use Rattle.fp_model.specs.declared.calls.Deferred.{Deferred}
use Rattle.fp_model.specs.declared.calls.Deferred.TheVariants as deferred
use Rattle.fp_model.specs.Fsas.{Failure, Fsa, field_bytes, first_failure, found_by, fsa_on, fsas_in, letter_of}
use Rattle.fp_model.specs.Settle.{Applied, Becomes, Fails, Settled, Stands, VerifyFails, absent, applied, fld_failure, fld_on, settle_from, with_msdb, with_field_changes}
use Rattle.fp_model.specs.State.{segment_of}
use Rattle.fp_model.specs.Texts.{same_text}
use Rattle.fp_model.specs.WellFormed.{IsMsdbDef, StandFrom}
use Rattle.sync_point.proofs.Scripts.{each_has}
use Rattle.model_laws.proofs.Layouts.{stand_from}

-- ---- fields are short

each_within : (fields : List FieldDef) (at end : ℕ) → StandFrom at fields end
    → AllByRecursion (λ (f : FieldDef). f.length ≤ end) fields
each_within [] at end h = tt
each_within (f ∷ fs) at end h = let e = stand_from fs (at + f.length) end h.2 in
    (omega (arith, e), each_within fs (at + f.length) end h.2)

-- ---- a field that is found

abbrev IsShortFound : Option Failure → Type 0
IsShortFound None = Unit {0}
IsShortFound (Some failure) = length failure.found ≤ 1024

found_field : (test : FieldDef → Bool) (fields : List FieldDef) (most : ℕ) (segment : List ℕ)
    → AllByRecursion (λ (f : FieldDef). f.length ≤ most) fields
    → length (option_map_or (λ field. field_bytes field segment) (find test fields) []) ≤ most
found_field test [] most segment h = omega arith
found_field test (f ∷ fs) most segment h = either (test f) refl (found_field test fs most segment h.1)
  where
    taken : length (field_bytes f segment) ≤ most
    taken = let e = length-take f.length (drop f.at segment) in omega (arith, e, h.0)

    either : (b : Bool) → test f ≡ b
        → length (option_map_or (λ field. field_bytes field segment) (find test fs) []) ≤ most
        → length (option_map_or (λ field. field_bytes field segment) (find test (f ∷ fs)) []) ≤ most
    either true e g = rw e taken
    either false e g = rw e g

module _ (def : MsdbDef) (is : IsMsdbDef def) where
  short_fields : AllByRecursion (λ (f : FieldDef). f.length ≤ def.length) def.fields
  short_fields = each_within def.fields 0 def.length is.layout.stand

  found_short : (fsa : Fsa) (segment : List ℕ) → length (found_by def fsa segment) ≤ 1024
  found_short fsa segment = let e = found_field (λ field. same_text field.name.0 fsa.field) def.fields def.length
      segment short_fields in omega (arith, e, is.short)

  failure_short : (place : ℕ) (fsas : List Fsa) (segment : List ℕ) → IsShortFound (first_failure def place fsas segment)
  unfolding first_failure
  failure_short place [] segment = tt
  failure_short place (fsa ∷ fsas) segment =
      either (letter_of def fsa segment == 32) _ (record { place = place; found = found_by def fsa segment })
      (failure_short (place + 1) fsas (fsa_on def fsa segment).segment) (found_short fsa segment)
    where
      either : (b : Bool) (x : Option Failure) (y : Failure) → IsShortFound x → length y.found ≤ 1024
          → IsShortFound (if b then x else Some y)
      either true x y h g = h
      either false x y h g = g

  on_segment : (key fsas : List ℕ) (o : Option (List ℕ))
      → IsShortFound (elim o [ None ↦ absent | Some segment ↦ first_failure def 0 (fsas_in fsas) segment ])
  on_segment key fsas None = omega arith
  on_segment key fsas (Some segment) = failure_short 0 (fsas_in fsas) segment

-- ---- the queue

abbrev IsShortEnd : Settled → Type 0
IsShortEnd (Stands msdbs) = Unit {0}
IsShortEnd (VerifyFails call fsa found) = length found ≤ 1024

abbrev IsShortApplied : Applied → Type 0
IsShortApplied (Becomes msdbs) = Unit {0}
IsShortApplied (Fails fsa found) = length found ≤ 1024

module _ (defs : List MsdbDef) (each : AllByRecursion IsMsdbDef defs) where
  in_msdb : (def : MsdbDef) → IsMsdbDef def → (key fsas : List ℕ) (o : Option Msdb)
      → IsShortFound (elim o [ None ↦ absent | Some msdb ↦ fld_on defs def msdb key fsas ])
  in_msdb def is key fsas None = omega arith
  in_msdb def is key fsas (Some msdb) = on_segment def is key fsas (segment_of def msdb key)

  in_defs : (number : ℕ) (key fsas : List ℕ) (msdbs : List Msdb) (o : Option MsdbDef) → slice_get defs number ≡ o
      → IsShortFound (elim o [
        | None ↦ absent
        | Some def ↦ elim (slice_get msdbs number)
            [ None ↦ absent | Some msdb ↦ fld_on defs def msdb key fsas ]
      ])
  in_defs number key fsas msdbs None e = omega arith
  in_defs number key fsas msdbs (Some def) e = in_msdb def (each_has IsMsdbDef defs number def each e) key fsas
      (slice_get msdbs number)

  fld_short : (number : ℕ) (key fsas : List ℕ) (msdbs : List Msdb)
      → IsShortFound (fld_failure defs number key fsas msdbs)
  fld_short number key fsas msdbs = in_defs number key fsas msdbs (slice_get defs number) refl

  after_fld : (o : Option Failure) (changed : List Msdb) → IsShortFound o
      → IsShortApplied (elim o [ None ↦ Becomes changed | Some failure ↦ Fails failure.place failure.found ])
  after_fld None changed h = tt
  after_fld (Some failure) changed h = h

  applied_short : (d : Deferred) (msdbs : List Msdb) → IsShortApplied (applied defs d msdbs)
  applied_short (deferred.Fld number key fsas) msdbs = after_fld (fld_failure defs number key fsas msdbs)
      (with_msdb defs number (with_field_changes defs key fsas) msdbs) (fld_short number key fsas msdbs)
  applied_short (deferred.Repl number bytes) msdbs = tt
  applied_short (deferred.Isrt number bytes) msdbs = tt
  applied_short (deferred.Dlet number key) msdbs = tt

  settled_short : (place : ℕ) (msdbs : List Msdb) (queue : List Deferred)
      → IsShortEnd (settle_from defs place msdbs queue)
  unfolding settle_from
  settled_short place msdbs [] = tt
  settled_short place msdbs (d ∷ queue) = either (λ changed. settled_short (place + 1) changed queue)
      (applied defs d msdbs) (applied_short d msdbs)
    where
      either : ((changed : List Msdb) → IsShortEnd (settle_from defs (place + 1) changed queue)) → (a : Applied)
          → IsShortApplied a
          → IsShortEnd (elim a [
            | Becomes changed ↦ settle_from defs (place + 1) changed queue
            | Fails fsa found ↦
                VerifyFails place fsa found
          ])
      either goes (Becomes changed) h = goes changed
      either goes (Fails fsa found) h = h

  -- What was found is short.
  pub verify_found_is_short : (msdbs : List Msdb) (queue : List Deferred) (call fsa : ℕ) (found : List ℕ)
      → settle_from defs 0 msdbs queue ≡ VerifyFails call fsa found → length found ≤ 1024
  verify_found_is_short msdbs queue call fsa found e = subst IsShortEnd e (settled_short 0 msdbs queue)
