-- What a transaction keeps of main storage databases: of one of them, and behind an answered call.
use Rattle.std.proofs.Common.{refl, arith, ◌≡◌, ℕ, zero, suc, ◌<◌, List, [], ◌∷◌, length, Bool, true, false, ◌&&◌, ◌||◌, ◌==◌, Some, ap, sym, ◌∙◌, subst, slice_get, slice_set, unwrap_or}
use Rattle.std.proofs.lemmas.Bool.Decides.{nat_tests}
use Rattle.std.proofs.lemmas.List.Folds.{list_any-append}
use Rattle.std.specs.List.{AllByRecursion, AllZip, list_any}
use Rattle.fp_model.specs.declared.calls.Deferred.{Deferred}
use Rattle.fp_model.specs.declared.calls.Deferred.TheVariants as deferred
use Rattle.fp_model.specs.declared.calls.Resource.{Resource}
use Rattle.fp_model.specs.declared.calls.Resource.TheVariants.{Segment}
use Rattle.fp_model.specs.declared.definitions.MsdbDef.{MsdbDef}
use Rattle.fp_model.specs.FitCalls.{FitsKey, FitsSegment, IsFitDeferred, OfMsdb}
use Rattle.fp_model.specs.MsdbCalls.{puts_or_drops}
use Rattle.fp_model.specs.State.{key_of}
use Rattle.fp_model.specs.Texts.{same_text}
use Rattle.fp_model.specs.Workspace.{MsdbPosition, Workspace, no_msdb_position}
use Rattle.msdb_calls.specs.declared.reply.Change.{Change}
use Rattle.msdb_calls.specs.declared.reply.Change.TheVariants as change
use Rattle.msdb_calls.specs.Progress.{FitsMsdb, FitsPosition, IsMsdbWorkOf, MsdbProgress, with_progress}
use Rattle.segment_keys.specs.Keys.{is_among}
use Rattle.msdb_calls.specs.inside.Replies.{FitsChange, FitsQueue, let_go, mark_in, mark_of, own_behind, positions_behind, queue_behind}
use Rattle.segment_keys.specs.Keys.{is_marked}
use Rattle.plain_laws.proofs.Alls.{all_push}
use Rattle.plain_laws.proofs.Truths.{swapped}

-- ---- positions

positions_within : (defs : List MsdbDef) (positions : List MsdbPosition) (n : ℕ) (def : MsdbDef)
    → AllZip FitsPosition defs positions → slice_get defs n ≡ Some def → n < length positions
positions_within [] positions n def each at = absurd (cc)
positions_within (d ∷ ds) [] n def each at = absurd each
positions_within (d ∷ ds) (p ∷ ps) zero def each at = omega arith
positions_within (d ∷ ds) (p ∷ ps) (suc n) def each at = omega (arith, positions_within ds ps n def each.1 at)

position_fits : (defs : List MsdbDef) (positions : List MsdbPosition) (n : ℕ) (def : MsdbDef)
    → AllZip FitsPosition defs positions → slice_get defs n ≡ Some def
    → FitsPosition def (unwrap_or (slice_get positions n) no_msdb_position)
position_fits [] positions n def each at = absurd (cc)
position_fits (d ∷ ds) [] n def each at = absurd each
position_fits (d ∷ ds) (p ∷ ps) zero def each at = let same : d ≡ def = cc in
    subst (λ one. FitsPosition one p) same each.0
position_fits (d ∷ ds) (p ∷ ps) (suc n) def each at = position_fits ds ps n def each.1 at

positions_with : (defs : List MsdbDef) (positions : List MsdbPosition) (n : ℕ) (def : MsdbDef) (position : MsdbPosition)
    → AllZip FitsPosition defs positions → slice_get defs n ≡ Some def
    → FitsPosition def position → AllZip FitsPosition defs (slice_set positions n position)
positions_with [] positions n def position each at fits = absurd (cc)
positions_with (d ∷ ds) [] n def position each at fits = absurd each
positions_with (d ∷ ds) (p ∷ ps) zero def position each at fits = let same : def ≡ d = cc in
    (subst (λ one. FitsPosition one position) same fits, each.1)
positions_with (d ∷ ds) (p ∷ ps) (suc n) def position each at fits =
    (each.0, positions_with ds ps n def position each.1 at fits)

-- ---- the queue

module _ (defs : List MsdbDef) (def : MsdbDef) (n : ℕ) (there : slice_get defs n ≡ Some def) where
  of_it : (P : MsdbDef → Type 0) (m : ℕ) → m ≡ n → P def → OfMsdb defs m P
  of_it P m same fits = (def, ap (λ number. slice_get defs number) same ∙ there, fits)

  fit_deferred : (d : Deferred) → FitsQueue def n d → IsFitDeferred defs d
  fit_deferred (deferred.Fld m key fsas) fits = (of_it (FitsKey key) m fits.0 fits.1, fits.2)
  fit_deferred (deferred.Repl m bytes) fits = of_it (FitsSegment bytes) m fits.0 fits.1
  fit_deferred (deferred.Isrt m bytes) fits = of_it (FitsSegment bytes) m fits.0 fits.1
  fit_deferred (deferred.Dlet m key) fits = of_it (FitsKey key) m fits.0 fits.1

  -- the key that it is marked with is the one whose segment it inserts or deletes
  marks : (d : Deferred) → FitsQueue def n d → (m : ℕ) (other : MsdbDef) → slice_get defs m ≡ Some other
      → (key : List ℕ)
      → is_marked (mark_of def d) (Segment m key) ≡ puts_or_drops other m key d
  marks (deferred.Fld number k fsas) fits m other at key = refl
  marks (deferred.Repl number bytes) fits m other at key = refl
  marks (deferred.Isrt number bytes) fits m other at key =
      by (number == m) (λ same. ap (λ one. same_text (key_of one.fields bytes) key) (its same))
    where
      equal : (a b : ℕ) → (a == b) ≡ true → a ≡ b
      equal a b e = grind (arith, nat_tests)

      its : (number == m) ≡ true → def ≡ other
      its same =
          let e : slice_get defs n ≡ slice_get defs m =
          ap (λ one. slice_get defs one) (sym fits.0 ∙ equal number m same) in
          cc

      by : (same : Bool) → (same ≡ true → same_text (key_of def.fields bytes) key ≡ same_text
          (key_of other.fields bytes) key)
          → (same && same_text (key_of def.fields bytes) key) ≡ (same && same_text (key_of other.fields bytes) key)
      by true e = e refl
      by false e = refl
  marks (deferred.Dlet number k) fits m other at key = refl

-- ---- one database

pub fits_msdb : (defs : List MsdbDef) (work : MsdbProgress) (n : ℕ) (def : MsdbDef) → IsMsdbWorkOf defs work
    → slice_get defs n ≡ Some def → FitsMsdb def n work
fits_msdb defs work n def is there = record {
  counted = positions_within defs work.positions n def is.positions there;
  position = position_fits defs work.positions n def is.positions there;
  changes = is.changes n def there;
}

-- ---- settling

abbrev own_with : List MsdbPosition → List Deferred → Workspace → Workspace
own_with positions deferred own = record own { msdbs = positions; deferred = deferred }

-- what the transaction keeps to itself behind a change
pub own_is : (def : MsdbDef) (n : ℕ) (c : Change) (old new : MsdbProgress) (own : Workspace)
    → new.positions ≡ positions_behind n c old.positions
    → new.deferred ≡ queue_behind c old.deferred
    → own_behind def n c (with_progress old own) ≡ with_progress new own
own_is def n c old new own positions deferred =
    by c
    ∙ ap (λ ps. own_with ps (queue_behind c old.deferred) own) (sym positions)
    ∙ ap (λ queue. own_with new.positions queue own) (sym deferred)
  where
    by : (c : Change) → own_behind def n c (with_progress old own)
        ≡ own_with (positions_behind n c old.positions) (queue_behind c old.deferred) own
    by change.Nothing = refl
    by (change.Found key hold) = refl
    by (change.Queued d) = refl

module _ (defs : List MsdbDef) (def : MsdbDef) (n : ℕ) (there : slice_get defs n ≡ Some def) (old : MsdbProgress)
    (is : IsMsdbWorkOf defs old) where
  let_go_fits : AllZip FitsPosition defs (let_go n old.positions)
  let_go_fits = positions_with defs old.positions n def _ is.positions there
      (position_fits defs old.positions n def is.positions there)

  -- the positions fit,
  positions_fit : (c : Change) → FitsChange def n c → AllZip FitsPosition defs (positions_behind n c old.positions)
  positions_fit change.Nothing fits = let_go_fits
  positions_fit (change.Found key hold) fits = positions_with defs old.positions n def _ is.positions there fits
  positions_fit (change.Queued d) fits = let_go_fits

  -- so do the deferred calls,
  queue_fits : (c : Change) → FitsChange def n c → AllByRecursion (IsFitDeferred defs) (queue_behind c old.deferred)
  queue_fits change.Nothing fits = is.deferred
  queue_fits (change.Found key hold) fits = is.deferred
  queue_fits (change.Queued d) fits =
      all_push (IsFitDeferred defs) old.deferred d is.deferred (fit_deferred defs def n there d fits)

  -- and the keys that they change are marked
  marked : (c : Change) → FitsChange def n c → (m : ℕ) (other : MsdbDef) → slice_get defs m ≡ Some other
      → (key : List ℕ)
      → (is_marked (mark_in def c) (Segment m key) || is_among old.changed (Segment m key))
      ≡ list_any (puts_or_drops other m key) (queue_behind c old.deferred)
  marked change.Nothing fits m other at key = is.changes m other at key
  marked (change.Found k hold) fits m other at key = is.changes m other at key
  marked (change.Queued d) fits m other at key =
      ap (λ mark. mark || is_among old.changed (Segment m key)) (marks defs def n there d fits m other at key)
      ∙ ap (λ was. puts_or_drops other m key d || was) (is.changes m other at key)
      ∙ swapped (list_any (puts_or_drops other m key) old.deferred) (puts_or_drops other m key d)
      ∙ sym (list_any-append (puts_or_drops other m key) old.deferred (d ∷ []))

pub keeps : (defs : List MsdbDef) (def : MsdbDef) (n : ℕ) (c : Change) (old new : MsdbProgress)
    → slice_get defs n ≡ Some def → IsMsdbWorkOf defs old → FitsChange def n c
    → new.positions ≡ positions_behind n c old.positions
    → new.deferred ≡ queue_behind c old.deferred
    → ((resource : Resource) → is_among new.changed resource ≡
    (is_marked (mark_in def c) resource || is_among old.changed resource))
    → IsMsdbWorkOf defs new
keeps defs def n c old new there is fits positions deferred changed = record {
  positions = subst (AllZip FitsPosition defs) (sym positions) (positions_fit defs def n there old is c fits);
  deferred = subst (AllByRecursion (IsFitDeferred defs)) (sym deferred) (queue_fits defs def n there old is c fits);
  changes = λ m other at key.
      changed (Segment m key)
      ∙ marked defs def n there old is c fits m other at key
      ∙ ap (λ queue. list_any (puts_or_drops other m key) queue) (sym deferred);
}
