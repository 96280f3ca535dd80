-- The segments of databases by number and key: what an item changes, and that they make up the databases.
use Rattle.std.proofs.Common.{◌≡◌, refl, sym, ◌∙◌, ap, subst, ℕ, zero, suc, List, [], ◌∷◌, length, take, Bool, true, false, Option, Some, None, slice_get, slice_set, inl, inr}
use Rattle.std.specs.Prelude.{if◌then◌else◌, ◌⊎◌}
use Rattle.std.specs.List.{AllZip}
use Rattle.fp_model.specs.CheckpointText.{IsMsdbOf}
use Rattle.fp_model.specs.Items.{FitsMsdb, with_bytes, with_item}
use Rattle.fp_model.specs.Settle.{with_msdb}
use Rattle.fp_model.specs.State.{drop_key, key_of, key_length, segment_of}
use Rattle.fp_model.specs.Texts.{same_text}
use Rattle.fp_model.specs.declared.database.Msdb.{Msdb}
use Rattle.fp_model.specs.declared.definitions.MsdbDef.{MsdbDef}
use Rattle.fp_model.specs.declared.log.Item.TheVariants.{Segment}
use Rattle.msdb_store.specs.Store.{IsFitSegment, segment_in}
use Rattle.msdb_store.specs.inside.Touches.{made}
use Rattle.key_order.proofs.Ascending.{differ}
use Rattle.msdb_store.proofs.Lookups.{find_dropped, find_put, same_list}
use Rattle.plain_laws.proofs.Alls.{each_set}
use Rattle.plain_laws.proofs.Places.{set_elsewhere, set_here}
use Rattle.state_laws.proofs.Settling.{with_good, without_good}

-- ---- places in a list

-- the partner of an element
pub record Partner {A B : Type 0} (R : A → B → Type 0) (ys : List B) (n : ℕ) (x : A) : Type 0 where
  pub y : B
  pub there : slice_get ys n ≡ Some y
  pub related : R x y

pub partner : {A B : Type 0} (R : A → B → Type 0) (xs : List A) (ys : List B) (n : ℕ) (x : A) → AllZip R xs ys
    → slice_get xs n ≡ Some x → Partner R ys n x
partner R [] ys n x all at = cc
partner R (a ∷ xs) [] n x all at = absurd all
partner R (a ∷ xs) (b ∷ ys) zero x all at = let same : a ≡ x = cc at in
    record { y = b; there = refl; related = subst (λ z. R z b) same all.0 }
partner R (a ∷ xs) (b ∷ ys) (suc n) x all at = let p = partner R xs ys n x all.1 at in
    record { y = p.y; there = p.there; related = p.related }

-- ---- one database

-- the key of a segment that fits
pub key_is : (def : MsdbDef) (key bytes : List ℕ) → length key ≡ key_length def.fields → take (length key) bytes ≡ key
    → key_of def.fields bytes ≡ key
key_is def key bytes long is = ap (λ n. take n bytes) (sym long) ∙ is

put_and_found : (a : Bool) (x : List ℕ) (rest : Option (List ℕ))
    → (if a then Some x else (if a then None else rest)) ≡ (if a then Some x else rest)
put_and_found true x rest = refl
put_and_found false x rest = refl

one_segment : (def : MsdbDef) (msdb : Msdb) (key bytes j : List ℕ) → FitsMsdb def key bytes
    → segment_of def (with_bytes key bytes def msdb) j ≡ (if same_text key j then made bytes else segment_of def msdb j)
one_segment def msdb key [] j fit = find_dropped (key_of def.fields) key j msdb.segments
one_segment def msdb key (b ∷ bytes) j fit = by fit.segment
  where
    by : ((b ∷ bytes ≡ []) ⊎ ((length (b ∷ bytes) ≡ def.length) × (take (length key) (b ∷ bytes) ≡ key)))
        → segment_of def (with_bytes key (b ∷ bytes) def msdb) j ≡
        (if same_text key j then made (b ∷ bytes) else segment_of def msdb j)
    by (inl none) = cc
    by (inr whole) =
        let its = key_of def.fields in
        let is : its (b ∷ bytes) ≡ key = key_is def key (b ∷ bytes) fit.key_length whole.1 in
        let here = its (b ∷ bytes) in
        let others = drop_key its here msdb.segments in
        find_put its (b ∷ bytes) j others (differ its here msdb.segments)
        ∙ ap (λ (rest : Option (List ℕ)). if same_text here j then Some (b ∷ bytes) else rest)
        (find_dropped its here j msdb.segments)
        ∙ put_and_found (same_text here j) (b ∷ bytes) (segment_of def msdb j)
        ∙ ap (λ (k : List ℕ). if same_text k j then Some (b ∷ bytes) else segment_of def msdb j) is

one_good : (def : MsdbDef) (msdb : Msdb) (key bytes : List ℕ) → FitsMsdb def key bytes → IsMsdbOf def msdb
    → IsMsdbOf def (with_bytes key bytes def msdb)
one_good def msdb key [] fit good = without_good def msdb key good
one_good def msdb key (b ∷ bytes) fit good = by fit.segment
  where
    by : ((b ∷ bytes ≡ []) ⊎ ((length (b ∷ bytes) ≡ def.length) × (take (length key) (b ∷ bytes) ≡ key)))
        → IsMsdbOf def (with_bytes key (b ∷ bytes) def msdb)
    by (inl none) = cc
    by (inr whole) = with_good def (b ∷ bytes) msdb whole.0 good

-- ---- all databases

module _ (defs : List MsdbDef) where
  abbrev pub AreOf : List Msdb → Type 0
  AreOf msdbs = AllZip IsMsdbOf defs msdbs

  pub with_at : (msdbs : List Msdb) (n : ℕ) (def : MsdbDef) (msdb : Msdb) (change : MsdbDef → Msdb → Msdb)
      → slice_get defs n ≡ Some def → slice_get msdbs n ≡ Some msdb
      → with_msdb defs n change msdbs ≡ slice_set msdbs n (change def msdb)
  with_at msdbs n def msdb change there at = rw (there, with_msdb) (rw at refl)

  pub in_at : (msdbs : List Msdb) (n : ℕ) (def : MsdbDef) (msdb : Msdb) (j : List ℕ) → slice_get defs n ≡ Some def
      → slice_get msdbs n ≡ Some msdb → segment_in defs msdbs n j ≡ segment_of def msdb j
  in_at msdbs n def msdb j there at = rw (there, segment_in) (rw at refl)

  abbrev pub in_database : List ℕ → Option MsdbDef → Option Msdb → Option (List ℕ)
  in_database j None msdb = None
  in_database j (Some def) None = None
  in_database j (Some def) (Some msdb) = segment_of def msdb j

  pub in_as : (msdbs : List Msdb) (n : ℕ) (j : List ℕ)
      → segment_in defs msdbs n j ≡ in_database j (slice_get defs n) (slice_get msdbs n)
  in_as msdbs n j = by (slice_get defs n) (slice_get msdbs n) refl refl
    where
      by : (d : Option MsdbDef) (m : Option Msdb) → slice_get defs n ≡ d → slice_get msdbs n ≡ m
          → segment_in defs msdbs n j ≡ in_database j d m
      by None m d e = rw (d, segment_in) refl
      by (Some def) None d e = rw (d, segment_in) (rw e refl)
      by (Some def) (Some msdb) d e = rw (d, segment_in) (rw e refl)

  module _ (msdbs : List Msdb) (of : AreOf msdbs) (n : ℕ) (key bytes : List ℕ)
      (fit : IsFitSegment defs (Segment n key bytes)) where
    its : Partner IsMsdbOf msdbs n fit.0
    its = partner IsMsdbOf defs msdbs n fit.0 of fit.1

    item_is : with_item defs msdbs (Segment n key bytes) ≡ slice_set msdbs n (with_bytes key bytes fit.0 its.y)
    item_is = with_at msdbs n fit.0 its.y (with_bytes key bytes) fit.1 its.there

    -- the key of an item has its bytes behind it
    pub at_item : (j : List ℕ) → segment_in defs (with_item defs msdbs (Segment n key bytes)) n j ≡
        (if same_text key j then made bytes else segment_in defs msdbs n j)
    at_item j =
        ap (λ ms. segment_in defs ms n j) item_is
        ∙ in_at (slice_set msdbs n (with_bytes key bytes fit.0 its.y)) n fit.0 (with_bytes key bytes fit.0 its.y) j
        fit.1 (set_here msdbs n its.y (with_bytes key bytes fit.0 its.y) its.there)
        ∙ one_segment fit.0 its.y key bytes j fit.2
        ∙ ap (λ (o : Option (List ℕ)). if same_text key j then made bytes else o)
        (sym (in_at msdbs n fit.0 its.y j fit.1 its.there))

    -- the other databases stay
    pub beside_item : (m : ℕ) (j : List ℕ) → (n ≡ m → ⊥)
        → segment_in defs (with_item defs msdbs (Segment n key bytes)) m j ≡ segment_in defs msdbs m j
    beside_item m j apart =
        ap (λ ms. segment_in defs ms m j) item_is
        ∙ in_as (slice_set msdbs n (with_bytes key bytes fit.0 its.y)) m j
        ∙ ap (in_database j (slice_get defs m)) (set_elsewhere msdbs n m (with_bytes key bytes fit.0 its.y) apart)
        ∙ sym (in_as msdbs m j)

    pub item_good : AreOf (with_item defs msdbs (Segment n key bytes))
    item_good = subst AreOf (sym item_is) (each_set IsMsdbOf defs msdbs n fit.0 (with_bytes key bytes fit.0 its.y) of
        fit.1 (one_good fit.0 its.y key bytes fit.2 its.related))

-- databases in which each key of each number finds the same are the same
pub same_databases : (defs : List MsdbDef) (xs ys : List Msdb) → AllZip IsMsdbOf defs xs → AllZip IsMsdbOf defs ys
    → ((n : ℕ) (j : List ℕ) → segment_in defs xs n j ≡ segment_in defs ys n j) → xs ≡ ys
same_databases [] [] [] ofx ofy same = refl
same_databases [] [] (y ∷ ys) ofx ofy same = absurd ofy
same_databases [] (x ∷ xs) ys ofx ofy same = absurd ofx
same_databases (d ∷ ds) [] ys ofx ofy same = absurd ofx
same_databases (d ∷ ds) (x ∷ xs) [] ofx ofy same = absurd ofy
same_databases (d ∷ ds) (x ∷ xs) (y ∷ ys) ofx ofy same =
    let head : x.segments ≡ y.segments = same_list (key_of d.fields) x.segments y.segments ofx.0.in_order ofy.0.in_order
    (λ j. same 0 j) in
    ap (λ (ss : List (List ℕ)). (let msdb : Msdb = record { segments = ss } in msdb) ∷ xs) head ∙ ap (λ zs. y ∷ zs)
    (same_databases ds xs ys ofx.1 ofy.1 (λ n j. same (suc n) j))
