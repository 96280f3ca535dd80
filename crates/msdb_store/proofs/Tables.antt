-- Tables, and what a store of them is.
use Rattle.std.proofs.Common.{◌≡◌, ℕ, zero, suc, List, [], ◌∷◌, map, length, Option, Some, refl, sym, ◌∙◌, ap, subst, slice_get, slice_set}
use Rattle.std.specs.List.{AllZip}
use Rattle.std.proofs.lemmas.Option.{slice_get-map, same_Some}
use Rattle.fp_model.specs.CheckpointText.{IsMsdbOf}
use Rattle.fp_model.specs.declared.database.Msdb.{Msdb}
use Rattle.fp_model.specs.declared.definitions.FieldDef.{FieldDef}
use Rattle.fp_model.specs.declared.definitions.MsdbDef.{MsdbDef}
use Rattle.msdb_store.specs.Store.{Stored, IsOf, IsFitSegment, found, found_after, segment_in}
use Rattle.std.proofs.Common.{inl, inr}
use Rattle.std.specs.Prelude.{find, true, take, ◌⊎◌, Result, Ok, Err, OnOk, OnErr}
use Rattle.fp_model.specs.Items.{with_item}
use Rattle.fp_model.specs.Settle.{with_msdb}
use Rattle.fp_model.specs.State.{ascend, drop_key, put_by_key, key_of, segment_of, segment_after, with_segment, without_segment, is_below}
use Rattle.fp_model.specs.declared.log.Item.{Item}
use Rattle.fp_model.specs.declared.log.Item.TheVariants.{Segment}
use Rattle.std.proofs.lemmas.List.{map-set}
use Rattle.fp_model.specs.Texts.{same_text}
use Rattle.plain_laws.proofs.Lists.{same_head, same_tail}
use Rattle.state_laws.proofs.Settling.{with_good, without_good}

-- what a store is of doesn't rest on its room
pub with_room : {defs : List MsdbDef} {store : Stored} (room : ℕ) → IsOf defs store
    → IsOf defs (record store { spare = room })
with_room room of = record { layouts = of.layouts; each = of.each }

module _ {T : Type 0} (fields : T → List FieldDef) (msdb : T → Msdb) where
  -- the store that tables are, but for its room
  abbrev pub stored : List T → Stored
  stored tables = record { layouts = map fields tables; msdbs = map msdb tables; spare = 0 }

  -- a table and its definition
  pub record Belongs (defs : List MsdbDef) (n : ℕ) (t : T) : Type 0 where
    pub def : MsdbDef
    pub there : slice_get defs n ≡ Some def
    pub same : fields t ≡ def.fields
    pub good : IsMsdbOf def (msdb t)

  belongs_at : (defs : List MsdbDef) (tables : List T) (n : ℕ) (t : T) → map fields tables ≡ map (λ d. d.fields) defs
      → AllZip IsMsdbOf defs (map msdb tables) → slice_get tables n ≡ Some t → Belongs defs n t
  belongs_at defs [] n t layouts each at = cc
  belongs_at [] (x ∷ xs) n t layouts each at = absurd each
  belongs_at (d ∷ ds) (x ∷ xs) zero t layouts each at =
      subst (Belongs (d ∷ ds) 0) (same_Some x t at) (record
      { def = d; there = refl; same = same_head _ _ _ _ layouts; good = each.0 })
  belongs_at (d ∷ ds) (x ∷ xs) (suc n) t layouts each at =
      let b = belongs_at ds xs n t (same_tail _ _ _ _ layouts) each.1 at in
      record { def = b.def; there = b.there; same = b.same; good = b.good }

  pub belongs : (defs : List MsdbDef) (tables : List T) (n : ℕ) (t : T) → IsOf defs (stored tables)
      → slice_get tables n ≡ Some t → Belongs defs n t
  belongs defs tables n t of at = belongs_at defs tables n t of.layouts of.each at

  -- with another table at a place, of the same fields and good
  pub each_with : (defs : List MsdbDef) (tables : List T) (n : ℕ) (t : T) (def : MsdbDef) → slice_get defs n ≡ Some def
      → IsMsdbOf def (msdb t) → AllZip IsMsdbOf defs (map msdb tables)
      → AllZip IsMsdbOf defs (map msdb (slice_set tables n t))
  each_with [] [] n t def at good each = tt
  each_with [] (x ∷ xs) n t def at good each = absurd each
  each_with (d ∷ ds) [] n t def at good each = absurd each
  each_with (d ∷ ds) (x ∷ xs) zero t def at good each =
      (subst (λ e. IsMsdbOf e (msdb t)) (sym (same_Some d def at)) good, each.1)
  each_with (d ∷ ds) (x ∷ xs) (suc n) t def at good each = (each.0, each_with ds xs n t def at good each.1)

  pub fields_with : (tables : List T) (n : ℕ) (old t : T) → slice_get tables n ≡ Some old → fields t ≡ fields old
      → map fields (slice_set tables n t) ≡ map fields tables
  fields_with [] n old t at same = refl
  fields_with (x ∷ xs) zero old t at same = ap (λ f. f ∷ map fields xs) (same ∙ ap fields (sym (same_Some x old at)))
  fields_with (x ∷ xs) (suc n) old t at same = ap (λ fs. fields x ∷ fs) (fields_with xs n old t at same)

  pub of_with : (defs : List MsdbDef) (tables : List T) (n : ℕ) (old t : T) (def : MsdbDef) → IsOf defs (stored tables)
      → slice_get tables n ≡ Some old → fields t ≡ fields old → slice_get defs n ≡ Some def → IsMsdbOf def (msdb t)
      → IsOf defs (stored (slice_set tables n t))
  of_with defs tables n old t def of at same there good =
      record {
        layouts = fields_with tables n old t at same ∙ of.layouts;
        each =
            each_with defs tables n t def there good of.each;
      }

use_found : {T : Type 0} (fields : T → List FieldDef) (msdb : T → Msdb) (defs : List MsdbDef) (tables : List T) (n : ℕ)
    (t : T) (def : MsdbDef) (k : List ℕ) → slice_get tables n ≡ Some t → slice_get defs n ≡ Some def
    → found defs (stored fields msdb tables) n k ≡ segment_of def (msdb t) k
use_found fields msdb defs tables n t def k at there =
    rw (there, segment_in) (rw (slice_get-map msdb tables n) (rw at refl))

-- a search by the fields of a table is one by its definition
pub found_in : {T : Type 0} (fields : T → List FieldDef) (msdb : T → Msdb) (defs : List MsdbDef) (tables : List T)
    (n : ℕ) (t : T) (k : List ℕ) (result : Option (List ℕ)) → IsOf defs (stored fields msdb tables)
    → slice_get tables n ≡ Some t
    → (ascend (map (key_of (fields t)) (msdb t).segments) ≡ true
    → result ≡ find (λ s. same_text (key_of (fields t) s) k) (msdb t).segments)
    → result ≡ found defs (stored fields msdb tables) n k
found_in fields msdb defs tables n t k result of at is =
    let b = belongs fields msdb defs tables n t of at in
    subst (λ fs. ascend (map (key_of fs) (msdb t).segments) ≡ true
    → result ≡ find (λ s. same_text (key_of fs s) k) (msdb t).segments) b.same is (b.good.in_order)
    ∙ sym (use_found fields msdb defs tables n t b.def k at b.there)

use_after : {T : Type 0} (fields : T → List FieldDef) (msdb : T → Msdb) (defs : List MsdbDef) (tables : List T) (n : ℕ)
    (t : T) (def : MsdbDef) (k : Option (List ℕ)) → slice_get tables n ≡ Some t → slice_get defs n ≡ Some def
    → found_after defs (stored fields msdb tables) n k ≡ segment_after def (msdb t) k
use_after fields msdb defs tables n t def k at there =
    rw (there, found_after) (rw (slice_get-map msdb tables n) (rw at refl))

pub after_in : {T : Type 0} (fields : T → List FieldDef) (msdb : T → Msdb) (defs : List MsdbDef) (tables : List T)
    (n : ℕ) (t : T) (k : List ℕ) (result : Option (List ℕ)) → IsOf defs (stored fields msdb tables)
    → slice_get tables n ≡ Some t
    → (ascend (map (key_of (fields t)) (msdb t).segments) ≡ true
    → result ≡ find (λ s. is_below k (key_of (fields t) s)) (msdb t).segments)
    → result ≡ found_after defs (stored fields msdb tables) n (Some k)
after_in fields msdb defs tables n t k result of at is =
    let b = belongs fields msdb defs tables n t of at in
    subst (λ fs. ascend (map (key_of fs) (msdb t).segments) ≡ true
    → result ≡ find (λ s. is_below k (key_of fs s)) (msdb t).segments) b.same is (b.good.in_order)
    ∙ sym (use_after fields msdb defs tables n t b.def (Some k) at b.there)

-- ---- edits

module _ {T : Type 0} (fields : T → List FieldDef) (segments : T → List (List ℕ)) where
  abbrev pub msdb_in : T → Msdb
  msdb_in t = record { segments = segments t }

  -- the databases and the store behind a change of one table
  pub record Changed (defs : List MsdbDef) (tables : List T) (n : ℕ) (t : T) (item : Item) : Type 0 where
    pub msdbs : map msdb_in (slice_set tables n t) ≡ with_item defs (map msdb_in tables) item
    pub of : IsOf defs (stored fields msdb_in (slice_set tables n t))

  with_at : (defs : List MsdbDef) (tables : List T) (n : ℕ) (old : T) (def : MsdbDef) (change : MsdbDef → Msdb → Msdb)
      → slice_get defs n ≡ Some def → slice_get tables n ≡ Some old
      → with_msdb defs n change (map msdb_in tables) ≡ slice_set (map msdb_in tables) n (change def (msdb_in old))
  with_at defs tables n old def change there at = rw (there, with_msdb)
      (rw (slice_get-map msdb_in tables n) (rw at refl))

  changed : (defs : List MsdbDef) (tables : List T) (n : ℕ) (old t : T) (b : Belongs fields msdb_in defs n old)
      (change : MsdbDef → Msdb → Msdb) → IsOf defs (stored fields msdb_in tables) → slice_get tables n ≡ Some old
      → fields t ≡ fields old
      → msdb_in t ≡ change b.def (msdb_in old) → IsMsdbOf b.def (change b.def (msdb_in old))
      → (map msdb_in (slice_set tables n t) ≡ with_msdb defs n change (map msdb_in tables))
      × IsOf defs (stored fields msdb_in (slice_set tables n t))
  changed defs tables n old t b change of at same is good = (
    map-set msdb_in tables n t ∙ ap (slice_set (map msdb_in tables) n) is ∙ sym
        (with_at defs tables n old b.def change b.there at),
    of_with fields msdb_in defs tables n old t b.def of at same b.there (subst (IsMsdbOf b.def) (sym is) good),
  )

  pub taken_away : (defs : List MsdbDef) (tables : List T) (n : ℕ) (old t : T) (key bytes : List ℕ)
      → IsOf defs (stored fields msdb_in tables) → slice_get tables n ≡ Some old → fields t ≡ fields old → bytes ≡ []
      → (ascend (map (key_of (fields old)) (segments old)) ≡ true
      → segments t ≡ drop_key (key_of (fields old)) key (segments old))
      → Changed defs tables n t (Segment n key bytes)
  taken_away defs tables n old t key bytes of at same none is =
      let b = belongs fields msdb_in defs tables n old of at in
      let dropped : segments t ≡ drop_key (key_of b.def.fields) key (segments old) =
      subst (λ fs. ascend (map (key_of fs) (segments old)) ≡ true
      → segments t ≡ drop_key (key_of fs) key (segments old)) b.same is b.good.in_order in
      let both = changed defs tables n old t b (without_by key) of at same (ap to_msdb dropped)
      (without_good b.def (msdb_in old) key b.good) in
      subst (λ bs. Changed defs tables n t (Segment n key bs)) (sym none) (record { msdbs = both.0; of = both.1 })
    where
      to_msdb : List (List ℕ) → Msdb
      to_msdb ss = record { segments = ss }

      without_by : List ℕ → MsdbDef → Msdb → Msdb
      without_by k def msdb = without_segment def k msdb

  -- a segment with bytes
  put_one : (defs : List MsdbDef) (tables : List T) (n : ℕ) (old t : T) (key bytes : List ℕ)
      → IsOf defs (stored fields msdb_in tables) → slice_get tables n ≡ Some old → fields t ≡ fields old
      → (bytes ≡ [] → ⊥)
      → IsFitSegment defs (Segment n key bytes)
      → (ascend (map (key_of (fields old)) (segments old)) ≡ true
      → segments t ≡ put_by_key (key_of (fields old)) bytes
      (drop_key (key_of (fields old)) (key_of (fields old) bytes) (segments old)))
      → Changed defs tables n t (Segment n key bytes)
  put_one defs tables n old t key [] of at same some fit is = absurd (some refl)
  put_one defs tables n old t key (x ∷ xs) of at same some fit is =
      let b = belongs fields msdb_in defs tables n old of at in
      let put : segments t ≡ put_by_key (key_of b.def.fields) (x ∷ xs)
      (drop_key (key_of b.def.fields) (key_of b.def.fields (x ∷ xs)) (segments old)) =
      subst (λ fs. ascend (map (key_of fs) (segments old)) ≡ true
      → segments t ≡ put_by_key (key_of fs) (x ∷ xs) (drop_key (key_of fs) (key_of fs (x ∷ xs)) (segments old)))
      b.same is b.good.in_order in
      let whole : length (x ∷ xs) ≡ b.def.length = subst (λ d. length (x ∷ xs) ≡ d.length)
      (same_Some fit.0 b.def (sym fit.1 ∙ b.there)) (long fit.0 fit.2.segment) in
      let both = changed defs tables n old t b with_it of at same (ap to_msdb put)
      (with_good b.def (x ∷ xs) (msdb_in old) whole b.good) in
      record { msdbs = both.0; of = both.1 }
    where
      to_msdb : List (List ℕ) → Msdb
      to_msdb ss = record { segments = ss }

      with_it : MsdbDef → Msdb → Msdb
      with_it def msdb = with_segment def (x ∷ xs) msdb

      long : (d : MsdbDef) → (x ∷ xs ≡ []) ⊎ ((length (x ∷ xs) ≡ d.length) × (take (length key) (x ∷ xs) ≡ key))
          → length (x ∷ xs) ≡ d.length
      long d (inl none) = cc
      long d (inr good) = good.0

  unchanged : (defs : List MsdbDef) (tables : List T) (n : ℕ) (old t : T) → IsOf defs (stored fields msdb_in tables)
      → slice_get tables n ≡ Some old → fields t ≡ fields old → segments t ≡ segments old
      → IsOf defs (stored fields msdb_in (slice_set tables n t))
  unchanged defs tables n old t of at same is =
      let b = belongs fields msdb_in defs tables n old of at in
      of_with fields msdb_in defs tables n old t b.def of at same b.there
      (subst (IsMsdbOf b.def) (sym (ap to_msdb is)) b.good)
    where
      to_msdb : List (List ℕ) → Msdb
      to_msdb ss = record { segments = ss }

  pub put_into : {E : Type 0} (r : Result (Unit {0}) E) (defs : List MsdbDef) (tables : List T) (n : ℕ) (old t : T)
      (key bytes : List ℕ) → IsOf defs (stored fields msdb_in tables) → slice_get tables n ≡ Some old
      → fields t ≡ fields old → (bytes ≡ [] → ⊥)
      → IsFitSegment defs (Segment n key bytes)
      → (ascend (map (key_of (fields old)) (segments old)) ≡ true
      → OnOk r (segments t ≡ put_by_key (key_of (fields old)) bytes
      (drop_key (key_of (fields old)) (key_of (fields old) bytes) (segments old))))
      → OnErr r (segments t ≡ segments old)
      → OnOk r (map msdb_in (slice_set tables n t) ≡ with_item defs (map msdb_in tables) (Segment n key bytes))
      × IsOf defs (stored fields msdb_in (slice_set tables n t))
  put_into (Ok u) defs tables n old t key bytes of at same some fit is err =
      let c = put_one defs tables n old t key bytes of at same some fit is in (c.msdbs, c.of)
  put_into (Err e) defs tables n old t key bytes of at same some fit is err =
      (tt, unchanged defs tables n old t of at same err)
