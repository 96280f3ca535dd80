-- A change of one key keeps its database one of the definition, at every place.
use Rattle.std.proofs.Common.{refl, ◌≡◌, ℕ, ◌<◌, ◌≤◌, List, [], ◌∷◌, length, Bool, true, false, Option, Some, None, sym, ◌∙◌, ap, subst}
use Rattle.std.specs.Prelude.{find, if◌then◌else◌, IfSome, Result, Ok, Err, OnOk, OnErr}
use Rattle.std.proofs.Common.{◌⊎◌, inl, inr}
use Rattle.std.specs.List.{AllByRecursion}
use Rattle.fp_model.specs.CheckpointText.{IsMsdbOf}
use Rattle.fld_calls.specs.declared.arguments.SettleFault.{SettleFault}
use Rattle.fld_calls.specs.declared.arguments.SettleFault.TheVariants as fault
use Rattle.fp_model.specs.Fsas.{Failure, first_failure, fsas_in}
use Rattle.fp_model.specs.Settle.{absent}
use Rattle.fp_model.specs.WellFormed.{IsMsdbDef}
use Rattle.past_settling.specs.inside.Settling.{Gives, IsChanged, IsFieldCall}
use Rattle.fld_calls.proofs.Kept.{has_key, list_keeps}
use Rattle.fp_model.specs.State.{key_length, key_of, segment_of, without_segment}
use Rattle.fp_model.specs.declared.database.Msdb.{Msdb}
use Rattle.fp_model.specs.declared.definitions.MsdbDef.{MsdbDef}
use Rattle.past_segments.specs.Pasts.{IsPastOf}
use Rattle.past_segments.specs.Times.{Past, database_at}
use Rattle.key_order.proofs.Ascending.{all_but, still_ascends}
use Rattle.fp_model.specs.Texts.{same_text}
use Rattle.std.specs.Option.{option_copied}
use Rattle.std.proofs.Common.{Bor}
use Rattle.std.proofs.lemmas.Bool.{cases_lt}
use Rattle.model_laws.proofs.Texts.{same_text_is}
use Rattle.plain_laws.proofs.Options.{shown_has}

pub without_good : (def : MsdbDef) (key : List ℕ) (msdb : Msdb) → IsMsdbOf def msdb
    → IsMsdbOf def (without_segment def key msdb)
without_good def key msdb good = record {
  lengths = all_but (key_of def.fields) (λ segment. length segment ≡ def.length) key msdb.segments good.lengths;
  in_order = still_ascends (key_of def.fields) key msdb.segments good.in_order;
}

-- it stays one where the place and those behind it have the change, or nothing changed
pub past_good : {A E : Type 0} (def : MsdbDef) (place : ℕ) (change : Msdb → Msdb) (r : Result A E) (old new : Past)
    → IsPastOf def old → new.count ≡ old.count
    → ((msdb : Msdb) → IsMsdbOf def msdb → IsMsdbOf def (change msdb))
    → ((p : ℕ) → place ≤ p → OnOk r (database_at p new ≡ change (database_at p old)))
    → ((p : ℕ) → p < place → database_at p new ≡ database_at p old)
    → OnErr r (new ≡ old)
    → IsPastOf def new
past_good def place change (Err e) old new is same keeps from before err = subst (IsPastOf def) (sym err) is
past_good def place change (Ok done) old new is same keeps from before err = record {
  keys = is.keys ∙ sym same;
  each = λ p. by p (cases_lt p place);
}
  where
    by : (p : ℕ) → ((p < place) ⊎ (place ≤ p)) → IsMsdbOf def (database_at p new)
    by p (inl less) = subst (IsMsdbOf def) (sym (before p less)) (is.each p)
    by p (inr le) = subst (IsMsdbOf def) (sym (from p le)) (keeps (database_at p old) (is.each p))

-- ---- what is found

found_has : (P : List ℕ → Type 0) (p : List ℕ → Bool) (xs : List (List ℕ)) (x : List ℕ) → AllByRecursion P xs
    → find p xs ≡ Some x → P x
found_has P p [] x each found = absurd (cc)
found_has P p (y ∷ ys) x each found = by (p y) found (λ later. found_has P p ys x each.1 later)
  where
    by : (here : Bool) → (if here then Some y else find p ys) ≡ Some x → (find p ys ≡ Some x → P x) → P x
    by true e later = let same : y ≡ x = cc in subst P same each.0
    by false e later = later e

found_is : (p : List ℕ → Bool) (xs : List (List ℕ)) (x : List ℕ) → find p xs ≡ Some x → p x ≡ true
found_is p [] x found = absurd (cc)
found_is p (y ∷ ys) x found = by (p y) refl found (λ later. found_is p ys x later)
  where
    by : (here : Bool) → p y ≡ here → (if here then Some y else find p ys) ≡ Some x → (find p ys ≡ Some x → p x ≡ true)
        → p x ≡ true
    by true e f later = let same : y ≡ x = cc in subst (λ z. p z ≡ true) same e
    by false e f later = later f

pub looked_whole : (def : MsdbDef) (msdb : Msdb) (is : IsMsdbOf def msdb) (o : Option (Bor (List ℕ))) (key : List ℕ)
    → option_copied o ≡ segment_of def msdb key → IfSome o (λ s. length s.now ≡ def.length)
looked_whole def msdb is o key found = shown_has def.length o _ found
    (λ s at. found_has (λ segment. length segment ≡ def.length) _ msdb.segments s is.lengths at)

pub its_key : (def : MsdbDef) (msdb : Msdb) (key segment : List ℕ) → segment_of def msdb key ≡ Some segment
    → key_of def.fields segment ≡ key
its_key def msdb key segment e =
    same_text_is (key_of def.fields segment) key (found_is (λ s. same_text (key_of def.fields s) key) msdb.segments segment e)

-- ---- field calls

abbrev fails_on : MsdbDef → List ℕ → Option (List ℕ) → Option Failure
fails_on def fsas None = absent
fails_on def fsas (Some segment) = first_failure def 0 (fsas_in fsas) segment

pub gives : (def : MsdbDef) (key fsas : List ℕ) (msdb : Msdb) (segment : List ℕ) (r : Result (List ℕ) SettleFault)
    → IsMsdbDef def → length key ≡ key_length def.fields → IsChanged def (fsas_in fsas) segment r
    → Some segment ≡ segment_of def msdb key → length segment ≡ def.length → Gives def key fsas msdb r
gives def key fsas msdb segment (Ok bytes) good long made at whole = record {
  segment = segment;
  there = sym at;
  good = made.0.0;
  is = made.0.1;
  whole = made.1 ∙ whole;
  its_key =
      ap (key_of def.fields) made.0.1
      ∙ (list_keeps def key (fsas_in fsas) segment def.length (has_key def good).stand
      (record { long = long; its = its_key def msdb key segment (sym at) })).its;
}
gives def key fsas msdb segment (Err (fault.Bad place found)) good long made at whole =
    λ defs. ap (λ o. fails_on def fsas o) (sym at) ∙ made
gives def key fsas msdb segment (Err fault.Memory) good long made at whole = tt

pub fails : (defs : List MsdbDef) (def : MsdbDef) (key fsas : List ℕ) (old new : Msdb) (why : SettleFault)
    → Gives def key fsas old (Err why) → IsFieldCall defs def key fsas old (Err why) new
fails defs def key fsas old new (fault.Bad place found) gave = gave defs
fails defs def key fsas old new fault.Memory gave = tt
