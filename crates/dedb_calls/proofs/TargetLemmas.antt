-- Which database a call names.
use Rattle.std.proofs.Common.{◌≡◌, refl, ap, sym, ◌∙◌, subst, arith, ℕ, ◌-◌, ◌<◌, ◌≤◌, length, false, Option, Some, None, slice_get}
use Rattle.std.specs.Option.{option_map_or}
use Rattle.fp_model.specs.declared.calls.Call.{Call}
use Rattle.fp_model.specs.declared.calls.Mode.{Mode}
use Rattle.fp_model.specs.declared.calls.Resource.{Resource}
use Rattle.fp_model.specs.declared.database.Db.{Db}
use Rattle.fp_model.specs.declared.definitions.DedbDef.{DedbDef}
use Rattle.fp_model.specs.declared.definitions.Defs.{Defs}
use Rattle.fp_model.specs.declared.definitions.MsdbDef.{MsdbDef}
use Rattle.fp_model.specs.Calls.{Target, OnMsdb, OnDedb, Nowhere, database_of, dedb_target, looks_on, looks_unheld, need_of, need_on, reply_on, reply_to, target_of}
use Rattle.fp_model.specs.DedbCalls.{dedb_need, dedb_reply}
use Rattle.fp_model.specs.Workspace.{Workspace}
use Rattle.plain_laws.proofs.Places.{get_there}
use Rattle.std.proofs.lemmas.Option.{same_Some, slice_get_past}

-- ---- places in lists

-- ---- targets

pub on_msdb : (defs : Defs) (n : ℕ) (def : MsdbDef) → slice_get defs.msdbs n ≡ Some def
    → target_of defs n ≡ OnMsdb def n
on_msdb defs n def there =
    ap (λ (found : Option MsdbDef). option_map_or (λ one. OnMsdb one n) found (dedb_target defs (n - length
    defs.msdbs)))
    there

-- main storage databases are counted first
pub behind_msdbs : (defs : Defs) (n : ℕ) → length defs.msdbs ≤ n
    → target_of defs n ≡ dedb_target defs (n - length defs.msdbs)
behind_msdbs defs n beyond =
    ap (λ (found : Option MsdbDef). option_map_or (λ one. OnMsdb one n) found (dedb_target defs (n - length
    defs.msdbs)))
    (slice_get_past defs.msdbs n beyond)

dedb_at : (defs : Defs) (dedb : ℕ) (def : DedbDef) → slice_get defs.dedbs dedb ≡ Some def
    → dedb_target defs dedb ≡ OnDedb def dedb
dedb_at defs dedb def there =
    ap (λ (found : Option DedbDef). option_map_or (λ one. OnDedb one dedb) found Nowhere) there

pub on_dedb : (defs : Defs) (n dedb : ℕ) (def : DedbDef) → length defs.msdbs ≤ n → dedb ≡ n - length defs.msdbs
    → slice_get defs.dedbs dedb ≡ Some def
    → target_of defs n ≡ OnDedb def dedb
on_dedb defs n dedb def beyond is there =
    behind_msdbs defs n beyond ∙ ap (dedb_target defs) (sym is) ∙ dedb_at defs dedb def there

-- The call names this data entry database.
pub record NamesDedb (defs : Defs) (c : Call) (dedb : ℕ) : Type 0 where
  pub def : DedbDef
  pub there : slice_get defs.dedbs dedb ≡ Some def
  pub target : target_of defs (database_of c) ≡ OnDedb def dedb

-- one that is somewhere, and doesn't name a main storage database
module _ (defs : Defs) (c : Call) (P : Target → Type 0) (nowhere : P Nowhere → ⊥)
    (fits : P (target_of defs (database_of c))) where
  somewhere : (n dedb : ℕ) → length defs.msdbs ≤ n → dedb ≡ n - length defs.msdbs → P (target_of defs n)
      → (def : DedbDef) × (slice_get defs.dedbs dedb ≡ Some def)
  somewhere n dedb beyond is fit =
      by (slice_get defs.dedbs dedb) refl (subst P (behind_msdbs defs n beyond ∙ ap (dedb_target defs) (sym is)) fit)
    where
      by : (o : Option DedbDef) → slice_get defs.dedbs dedb ≡ o
          → P (option_map_or (λ def. OnDedb def dedb) o Nowhere)
          → (def : DedbDef) × (slice_get defs.dedbs dedb ≡ Some def)
      by None none p = absurd (nowhere p)
      by (Some def) there p = (def, there)

  pub named_dedb : (n at count dedb : ℕ) → n ≡ database_of c → at ≡ n → count ≡ length defs.msdbs → count ≤ at
      → dedb ≡ at - count → NamesDedb defs c dedb
  named_dedb n at count dedb named placed counted beyond is =
      let number : at ≡ database_of c = placed ∙ named in
      let behind : length defs.msdbs ≤ database_of c = omega (arith, number, counted, beyond) in
      let place : dedb ≡ database_of c - length defs.msdbs =
      is ∙ ap (λ k. k - count) number ∙ ap (λ k. database_of c - k) counted in
      let found = somewhere (database_of c) dedb behind place fits in
      record {
        def = found.0;
        there = found.1;
        target = on_dedb defs (database_of c) dedb found.0 behind place found.1;
      }

  -- one that does
  pub named_msdb : (n at count : ℕ) → n ≡ database_of c → at ≡ n → count ≡ length defs.msdbs → at < count
      → (def : MsdbDef) × (slice_get defs.msdbs (database_of c) ≡ Some def) × P (OnMsdb def (database_of c))
  named_msdb n at count named placed counted below =
      let number : at ≡ database_of c = placed ∙ named in
      let found = get_there defs.msdbs (database_of c) (omega (arith, number, counted, below)) in
      (found.0, found.1, subst P (on_msdb defs (database_of c) found.0 found.1) fits)

module _ (defs : Defs) (c : Call) (dedb : ℕ) (it : NamesDedb defs c dedb) where
  pub dedb_needs : (db : Db) (own : Workspace) (held : Resource → Option Mode)
      → need_of defs db own held c ≡ dedb_need it.def dedb db own held c
  unfolding need_of
  dedb_needs db own held = ap (λ on. need_on on db own held c) it.target

  pub dedb_replies : (now visible : Db) (own : Workspace)
      → reply_to defs now visible own c ≡ dedb_reply it.def dedb now own c
  unfolding reply_to
  dedb_replies now visible own = ap (λ on. reply_on on now visible own c) it.target

  pub dedb_looks : (own : Workspace) → looks_unheld defs own c ≡ false
  unfolding looks_unheld
  dedb_looks own = ap (λ on. looks_on on own c) it.target

  -- what is so of its target
  pub dedb_has : (P : Target → Type 0) → P (target_of defs (database_of c)) → (def : DedbDef)
      → slice_get defs.dedbs dedb ≡ Some def → P (OnDedb def dedb)
  dedb_has P p def there =
      subst (λ (one : DedbDef). P (OnDedb one dedb)) (same_Some it.def def (sym it.there ∙ there)) (subst P it.target p)
