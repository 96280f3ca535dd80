-- The segments of a database in the store.
use Rattle.std.proofs.Common.{refl, ◌≡◌, ℕ, zero, suc, ◌<◌, List, [], ◌∷◌, length, Option, Some, None, sym, subst, slice_get, unwrap_or}
use Rattle.std.specs.List.{AllZip}
use Rattle.std.proofs.lemmas.Option.{slice_get_within}
use Rattle.fp_model.specs.CheckpointText.{IsMsdbOf}
use Rattle.fp_model.specs.declared.database.Msdb.{Msdb}
use Rattle.fp_model.specs.declared.definitions.MsdbDef.{MsdbDef}
use Rattle.fp_model.specs.State.{segment_after, segment_of}
use Rattle.msdb_store.specs.Store.{Stored, found, found_after}
use Rattle.dli_calls.specs.Looks.{IsStored, segments_in}

-- a database of the store
record Stands (msdbs : List Msdb) (n : ℕ) (def : MsdbDef) : Type 0 where
  msdb : Msdb
  there : slice_get msdbs n ≡ Some msdb
  good : IsMsdbOf def msdb

stands : (defs : List MsdbDef) (msdbs : List Msdb) (n : ℕ) (def : MsdbDef) → AllZip IsMsdbOf defs msdbs
    → slice_get defs n ≡ Some def → Stands msdbs n def
stands [] msdbs n def each at = absurd (cc)
stands (d ∷ ds) [] n def each at = absurd each
stands (d ∷ ds) (m ∷ ms) zero def each at = let same : d ≡ def = cc in
    subst (Stands (m ∷ ms) 0) same (record { msdb = m; there = refl; good = each.0 })
stands (d ∷ ds) (m ∷ ms) (suc n) def each at = let s = stands ds ms n def each.1 at in
    record { msdb = s.msdb; there = s.there; good = s.good }

module _ (store : Stored) (number : ℕ) (def : MsdbDef) (is : IsStored store number def) where
  it_stands : Stands store.msdbs number def
  it_stands = stands is.defs store.msdbs number def is.of.each is.there

  pub within : number < length store.msdbs
  within = slice_get_within store.msdbs number it_stands.msdb it_stands.there

  pub is_good : IsMsdbOf def (segments_in store number)
  is_good = subst (λ o. IsMsdbOf def (unwrap_or o (record { segments = [] }))) (sym it_stands.there) it_stands.good

  -- the segment that the store finds
  pub found_is : (key : List ℕ) → found is.defs store number key ≡ segment_of def (segments_in store number) key
  found_is key =
      subst (λ (one : Option MsdbDef). (elim one as (λ _. Option (List ℕ)) [
        | None ↦ None
        | Some d ↦ elim (slice_get store.msdbs number) as (λ _. Option (List ℕ))
            [ None ↦ None | Some m ↦ segment_of d m key ]
      ])
      ≡ segment_of def (segments_in store number) key) (sym is.there)
      (subst (λ (msdb : Option Msdb). (elim msdb as (λ _. Option (List ℕ))
      [ None ↦ None | Some m ↦ segment_of def m key ])
      ≡ segment_of def (unwrap_or msdb (record { segments = [] })) key) (sym it_stands.there) refl)

  pub found_after_is : (key : Option (List ℕ))
      → found_after is.defs store number key ≡ segment_after def (segments_in store number) key
  found_after_is key =
      subst (λ (one : Option MsdbDef). (elim one as (λ _. Option (List ℕ)) [
        | None ↦ None
        | Some d ↦ elim (slice_get store.msdbs number) as (λ _. Option (List ℕ))
            [ None ↦ None | Some m ↦ segment_after d m key ]
      ])
      ≡ segment_after def (segments_in store number) key) (sym is.there)
      (subst (λ (msdb : Option Msdb). (elim msdb as (λ _. Option (List ℕ))
      [ None ↦ None | Some m ↦ segment_after def m key ])
      ≡ segment_after def (unwrap_or msdb (record { segments = [] })) key) (sym it_stands.there) refl)
