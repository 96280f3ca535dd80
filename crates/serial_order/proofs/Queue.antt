-- The sync point changes only what is held Exclusive.
use Rattle.std.proofs.Common.{◌≡◌, ℕ, zero, suc, ◌+◌, ◌≤◌, List, [], ◌∷◌, map, length, Option, Some, None, inl, inr, refl, sym, ◌∙◌, ap, subst, Bool, true, false, ◌&&◌, if◌then◌else◌, arith, slice_get, slice_set}
use Rattle.std.specs.Prelude.{filter, find, unwrap_or, nat_lt, nat_le}
use Rattle.std.specs.List.{AllByRecursion, flat_map, list_all}
use Rattle.std.specs.Option.{option_map_or}
use Rattle.std.proofs.lemmas.Bool.{cases_eq}
use Rattle.std.proofs.lemmas.Grind.{common_steps}
use Rattle.fp_model.specs.declared.definitions.Defs.{Defs}
use Rattle.fp_model.specs.declared.definitions.FieldDef.{FieldDef}
use Rattle.fp_model.specs.declared.definitions.MsdbDef.{MsdbDef}
use Rattle.fp_model.specs.declared.database.Db.{Db}
use Rattle.fp_model.specs.declared.database.Msdb.{Msdb}
use Rattle.fp_model.specs.declared.database.Root.{Root}
use Rattle.fp_model.specs.declared.calls.AnchorChange.{AnchorChange}
use Rattle.fp_model.specs.declared.calls.Deferred.{Deferred}
use Rattle.fp_model.specs.declared.calls.Deferred.TheVariants.{Fld, Repl, Isrt, Dlet}
use Rattle.fp_model.specs.declared.calls.Mode.{Mode}
use Rattle.fp_model.specs.declared.calls.Mode.TheVariants.{Exclusive}
use Rattle.fp_model.specs.declared.calls.Resource.{Resource}
use Rattle.fp_model.specs.declared.calls.Resource.TheVariants.{Segment, Anchor}
use Rattle.fp_model.specs.declared.calls.SeqInsert.{SeqInsert}
use Rattle.fp_model.specs.State.{key_length, key_of, segment_of, with_segment, without_segment, Area, areas_of, with_roots}
use Rattle.fp_model.specs.Fsas.{Failure}
use Rattle.fp_model.specs.Settle.{Settled, Stands, VerifyFails, Applied, Becomes, Fails, with_msdb, fld_failure, with_field_changes, applied, settle_from, settle, resources}
use Rattle.fp_model.specs.Commit.{Commits, FailsVerify, FillsPart, with_anchors, with_insert, with_inserts, with_msdbs, committed, first_full, settled_to, settlement, lacking, ends_at, is_too_full, takes, numbered_at}
use Rattle.fp_model.specs.WellFormed.{IsMsdbDef}
use Rattle.fp_model.specs.Workspace.{Workspace}
use Rattle.serial_order.specs.Laws.{SegmentIs, RootsAre, IsExclusive, IsCovered}
use Rattle.serial_order.specs.ProductView.{seen_in, fields_of, is_whole_call, deferred_claim, change_claim, insert_claim, view_of}
use Rattle.serial_order.proofs.Covers.{Covers, parts}
use Rattle.serial_order.proofs.Changes.{roots_with_anchors, roots_with_inserts}
use Rattle.serial_order.proofs.Settling.{with_new, with_old, all_served, segment_put, segment_dropped, field_changes_leave}
use Rattle.plain_laws.proofs.Truths.{first_of_both, second_of_both}
use Rattle.plain_laws.proofs.Places.{get_other, get_set_same}
use Rattle.std.proofs.lemmas.Option.{none-some, same_Some}

-- results and what they hold
is_stays : (x y : List Msdb) → Becomes x ≡ Becomes y → x ≡ y
is_stays x y e = cc

fails_is_not_stays : (fsa : ℕ) (found : List ℕ) (x : List Msdb) → Fails fsa found ≡ Becomes x → ⊥
fails_is_not_stays fsa found x e = cc

is_stands : (x y : List Msdb) → Stands x ≡ Stands y → x ≡ y
is_stands x y e = cc

fails_is_not_stands : (place fsa : ℕ) (found : List ℕ) (x : List Msdb) → VerifyFails place fsa found ≡ Stands x → ⊥
fails_is_not_stands place fsa found x e = cc

is_commit : (x y : Db) → Commits x ≡ Commits y → x ≡ y
is_commit x y e = cc

verify_is_no_commit : (call fsa : ℕ) (found : List ℕ) (x : Db) → FailsVerify call fsa found ≡ Commits x → ⊥
verify_is_no_commit call fsa found x e = cc

full_is_no_commit : (set begin end n : ℕ) (x : Db) → FillsPart set begin end n ≡ Commits x → ⊥
full_is_no_commit set begin end n x e = cc

-- an element at a place is one of all
all_at : {X : Type 0} (P : X → Type 0) (xs : List X) (i : ℕ) (x : X) → AllByRecursion P xs → slice_get xs i ≡ Some x
    → P x
all_at P [] i x h e = absurd (none-some x e)
all_at P (y ∷ ys) zero x h e = subst P (same_Some y x e) h.0
all_at P (y ∷ ys) (suc i) x h e = all_at P ys i x h.1 e

module _ (defs : Defs) (each : AllByRecursion IsMsdbDef defs.msdbs) where
  -- the segment of a key in such a database of several
  abbrev segment_at : List Msdb → ℕ → List ℕ → Option (List ℕ)
  segment_at msdbs m k = option_map_or (λ def. segment_of def (unwrap_or (slice_get msdbs m) (record { segments = [] }))
      k) (slice_get defs.msdbs m) None

  -- the segment that a call of the queue puts or drops
  abbrev touched : Deferred → Resource
  touched (Fld msdb key fsas) = Segment msdb key
  touched (Repl msdb bytes) = Segment msdb (key_of (fields_of defs msdb) bytes)
  touched (Isrt msdb bytes) = Segment msdb (key_of (fields_of defs msdb) bytes)
  touched (Dlet msdb key) = Segment msdb key

  module _ (m : ℕ) (k : List ℕ) where
    -- one database changed where it leaves the segment
    with_msdb_leaves : (number : ℕ) (change : MsdbDef → Msdb → Msdb) (msdbs : List Msdb)
        → ((def : MsdbDef) (msdb : Msdb) → slice_get defs.msdbs number ≡ Some def → m ≡ number
        → segment_of def (change def msdb) k ≡ segment_of def msdb k)
        → segment_at (with_msdb defs.msdbs number change msdbs) m k ≡ segment_at msdbs m k
    with_msdb_leaves number change msdbs leaves = by (slice_get defs.msdbs number) (slice_get msdbs number) refl refl
      where
        by : (o : Option MsdbDef) (q : Option Msdb) → slice_get defs.msdbs number ≡ o → slice_get msdbs number ≡ q
            → segment_at (elim o as (λ x. List Msdb) [
              | None ↦ msdbs
              | Some def ↦ elim q as (λ x. List Msdb)
                  [ None ↦ msdbs | Some msdb ↦ slice_set msdbs number (change def msdb) ]
            ]) m k ≡ segment_at msdbs m k
        by None q a b = refl
        by (Some def) None a b = refl
        by (Some def) (Some msdb) a b = elim (cases_eq m number) [
          | inl same ↦
              let here : slice_get msdbs m ≡ Some msdb =
              subst (λ (n : ℕ). slice_get msdbs n ≡ Some msdb) (sym same) b in
              let there : slice_get (slice_set msdbs number (change def msdb)) m ≡ Some (change def msdb) =
              subst (λ (n : ℕ). slice_get (slice_set msdbs number (change def msdb)) n ≡ Some (change def msdb))
              (sym same) (get_set_same msdbs number (change def msdb) msdb b) in
              let of : slice_get defs.msdbs m ≡ Some def =
              subst (λ (n : ℕ). slice_get defs.msdbs n ≡ Some def) (sym same) a in
              rw (here, there, of) (leaves def msdb a same)
          | inr other ↦ ap (λ (o : Option Msdb). option_map_or
              (λ def. segment_of def (unwrap_or o (record { segments = [] })) k) (slice_get defs.msdbs m) None)
              (get_other msdbs number m (change def msdb) other)
        ]

    -- the fields of a definition
    fields_are : (number : ℕ) (def : MsdbDef) → slice_get defs.msdbs number ≡ Some def
        → fields_of defs number ≡ def.fields
    fields_are number def is = ap (λ (o : Option MsdbDef). option_map_or (λ (d : MsdbDef). d.fields) o []) is

    -- a put segment of another key
    put_leaves : (number : ℕ) (bytes : List ℕ) (msdbs : List Msdb)
        → ¬ (Segment number (key_of (fields_of defs number) bytes) ≡ Segment m k)
        → segment_at (with_msdb defs.msdbs number (λ def msdb. with_segment def bytes msdb) msdbs) m k ≡ segment_at
        msdbs m k
    put_leaves number bytes msdbs ne = with_msdb_leaves number (λ def msdb. with_segment def bytes msdb) msdbs
        (λ def msdb is same. segment_put def bytes k msdb
        (λ e. ne (ap (λ (fields : List FieldDef). Segment number (key_of fields bytes)) (fields_are number def is) ∙
        ap (λ (q : List ℕ). Segment number q) e ∙ ap (λ (n : ℕ). Segment n k) (sym same))))

    -- one call of the queue
    call_leaves : (d : Deferred) (msdbs changed : List Msdb) → is_whole_call defs d ≡ true → ¬ (touched d ≡ Segment m k)
        → applied defs.msdbs d msdbs ≡ Becomes changed → segment_at changed m k ≡ segment_at msdbs m k
    call_leaves (Fld number key fsas) msdbs changed fair ne e = by (fld_failure defs.msdbs number key fsas msdbs) e
      where
        after : segment_at (with_msdb defs.msdbs number (with_field_changes defs.msdbs key fsas) msdbs) m k ≡ segment_at
            msdbs m k
        after = with_msdb_leaves number (with_field_changes defs.msdbs key fsas) msdbs (λ def msdb is same.
            let whole : nat_le (key_length def.fields) (length key) ≡ true =
            subst (λ (fields : List FieldDef). nat_le (key_length fields) (length key) ≡ true)
            (fields_are number def is) fair in
            let long : key_length def.fields ≤ length key = grind (arith, common_steps, whole) in
            let formed = all_at IsMsdbDef defs.msdbs number def each is in
            field_changes_leave def def.length formed.layout.stand defs.msdbs key fsas k msdb long
            (λ e. ne (ap (λ (q : List ℕ). Segment number q) e ∙ ap (λ (n : ℕ). Segment n k) (sym same))))

        by : (o : Option Failure) → elim o as (λ x. Applied) [
          | None ↦ Becomes (with_msdb defs.msdbs number (with_field_changes defs.msdbs key fsas) msdbs)
          | Some failure
              ↦ Fails failure.place failure.found
        ] ≡ Becomes changed → segment_at changed m k ≡ segment_at msdbs m k
        by None e = subst (λ (x : List Msdb). segment_at x m k ≡ segment_at msdbs m k)
            (is_stays (with_msdb defs.msdbs number (with_field_changes defs.msdbs key fsas) msdbs) changed e) after
        by (Some failure) e = absurd (fails_is_not_stays failure.place failure.found changed e)
    call_leaves (Repl number bytes) msdbs changed fair ne e =
        subst (λ (x : List Msdb). segment_at x m k ≡ segment_at msdbs m k)
        (is_stays (with_msdb defs.msdbs number (λ def msdb. with_segment def bytes msdb) msdbs) changed e)
        (put_leaves number bytes msdbs ne)
    call_leaves (Isrt number bytes) msdbs changed fair ne e =
        subst (λ (x : List Msdb). segment_at x m k ≡ segment_at msdbs m k)
        (is_stays (with_msdb defs.msdbs number (λ def msdb. with_segment def bytes msdb) msdbs) changed e)
        (put_leaves number bytes msdbs ne)
    call_leaves (Dlet number key) msdbs changed fair ne e =
        subst (λ (x : List Msdb). segment_at x m k ≡ segment_at msdbs m k)
        (is_stays (with_msdb defs.msdbs number (λ def msdb. without_segment def key msdb) msdbs) changed e)
        (with_msdb_leaves number (λ def msdb. without_segment def key msdb) msdbs
        (λ def msdb is same. segment_dropped def key k msdb
        (λ e. ne (ap (λ (q : List ℕ). Segment number q) e ∙ ap (λ (n : ℕ). Segment n k) (sym same)))))

    -- the whole queue
    queue_leaves : (place : ℕ) (msdbs : List Msdb) (calls : List Deferred) (final : List Msdb)
        → list_all (is_whole_call defs) calls ≡ true
        → AllByRecursion (λ (d : Deferred). ¬ (touched d ≡ Segment m k)) calls
        → settle_from defs.msdbs place msdbs calls ≡ Stands final → segment_at final m k ≡ segment_at msdbs m k
    unfolding settle_from
    queue_leaves place msdbs [] final fair ne e = ap (λ (x : List Msdb). segment_at x m k)
        (sym (is_stands msdbs final e))
    queue_leaves place msdbs (d ∷ calls) final fair ne e = by (applied defs.msdbs d msdbs) refl e
        (λ changed g. queue_leaves (place + 1) changed calls final
        (second_of_both (is_whole_call defs d) (list_all (is_whole_call defs) calls) fair) ne.1 g)
      where
        by : (a : Applied) → applied defs.msdbs d msdbs ≡ a
            → elim a as (λ x. Settled) [
              | Becomes changed ↦
                  settle_from defs.msdbs (place + 1) changed calls
              | Fails fsa found ↦ VerifyFails place fsa found
            ] ≡
            Stands final
            → ((changed : List Msdb) → settle_from defs.msdbs (place + 1) changed calls ≡ Stands final
            → segment_at final m k ≡ segment_at changed m k)
            → segment_at final m k ≡ segment_at msdbs m k
        by (Becomes changed) is e later = later changed e ∙ call_leaves d msdbs changed
            (first_of_both (is_whole_call defs d) (list_all (is_whole_call defs) calls) fair) ne.0 is
        by (Fails fsa found) is e later = absurd (fails_is_not_stands place fsa found final e)

  -- ---- what the queue touches is held

  -- what a call of the queue touches is held Exclusive
  touched_held : (held : Resource → Option Mode) (calls : List Deferred)
      → AllByRecursion (IsExclusive held) (flat_map (deferred_claim defs) calls)
      → AllByRecursion (IsExclusive held) (resources calls)
      → AllByRecursion (λ (d : Deferred). held (touched d) ≡ Some Exclusive) calls
  touched_held held [] c r = tt
  touched_held held (Fld msdb key fsas ∷ calls) c r = (
    with_new (IsExclusive held) (Segment msdb key) (resources calls) r,
    touched_held held calls c (with_old (IsExclusive held) (Segment msdb key) (resources calls) r),
  )
  touched_held held (Repl msdb bytes ∷ calls) c r = (c.0, touched_held held calls c.1 r)
  touched_held held (Isrt msdb bytes ∷ calls) c r = (c.0, touched_held held calls c.1 r)
  touched_held held (Dlet msdb key ∷ calls) c r = (c.0, touched_held held calls c.1 r)

  -- what is held Exclusive isn't what is not
  others : {X : Type 0} (held : Resource → Option Mode) (f : X → Resource) (resource : Resource) (xs : List X)
      → ¬ (held resource ≡ Some Exclusive) → AllByRecursion (λ (x : X). held (f x) ≡ Some Exclusive) xs
      → AllByRecursion (λ (x : X). ¬ (f x ≡ resource)) xs
  others held f resource [] free h = tt
  others held f resource (x ∷ xs) free h = (
    (λ e. free (subst (λ (r : Resource). held r ≡ Some Exclusive) e h.0)),
    others held f resource xs free h.1,
  )

  -- so are the anchors of a list
  mapped_held : {X : Type 0} (held : Resource → Option Mode) (f : X → Resource) (xs : List X)
      → AllByRecursion (IsExclusive held) (map f xs) → AllByRecursion (λ (x : X). held (f x) ≡ Some Exclusive) xs
  mapped_held held f [] h = tt
  mapped_held held f (x ∷ xs) h = (h.0, mapped_held held f xs h.1)

  -- ---- a commit

  -- anchors and sequential inserts leave main storage databases
  anchors_leave : (cs : List AnchorChange) (db : Db) → (with_anchors cs db).msdbs ≡ db.msdbs
  anchors_leave [] db = refl
  anchors_leave (c ∷ cs) db = anchors_leave cs (with_roots c.dedb c.anchor c.roots db)

  -- one sequential insert
  insert_leaves : (i : SeqInsert) (db : Db) → (with_insert defs db i).msdbs ≡ db.msdbs
  insert_leaves i db = by (find (λ area. takes area i) (areas_of defs))
    where
      by : (o : Option Area) → (option_map_or (λ area. numbered_at defs i area db) o db).msdbs ≡ db.msdbs
      by None = refl
      by (Some area) = refl

  -- all of them
  inserts_leave : (is : List SeqInsert) (db : Db) → (with_inserts defs is db).msdbs ≡ db.msdbs
  inserts_leave [] db = refl
  inserts_leave (i ∷ is) db = inserts_leave is (with_insert defs db i) ∙ insert_leaves i db

  -- a part that is too full is no commit
  full_or_not : (db : Db) (inserts : List SeqInsert) (set : ℕ) (areas : List Area) (made next : Db)
      → unwrap_or (first_full db inserts set areas) (Commits made) ≡ Commits next → made ≡ next
  full_or_not db inserts set [] made next e = is_commit made next e
  full_or_not db inserts set (area ∷ areas) made next e =
      by (nat_lt 0 (length (filter (takes area) inserts)) && is_too_full area.def.capacity (ends_at db area)
      (length (filter (takes area) inserts))) e (λ f. full_or_not db inserts (set + 1) areas made next f)
    where
      by : (b : Bool) → unwrap_or (if b then Some (FillsPart set (ends_at db area).begin (ends_at db area).end
          (length (filter (takes area) inserts))) else first_full db inserts (set + 1) areas) (Commits made) ≡ Commits
          next
          → (unwrap_or (first_full db inserts (set + 1) areas) (Commits made) ≡ Commits next → made ≡ next)
          → made ≡ next
      by true e later = absurd (full_is_no_commit set (ends_at db area).begin (ends_at db area).end
          (length (filter (takes area) inserts)) next e)
      by false e later = later e

  module _ (db : Db) (own : Workspace) (held : Resource → Option Mode) (c : Covers defs own held)
      (served : AllByRecursion (IsExclusive held) (resources own.deferred)) where
    committed_leaves : (msdbs : List Msdb) → settle_from defs.msdbs 0 db.msdbs own.deferred ≡ Stands msdbs
        → (resource : Resource) → ¬ (held resource ≡ Some Exclusive)
        → seen_in defs resource (committed defs own msdbs db) ≡ seen_in defs resource db
    committed_leaves msdbs stands (Segment m k) free =
        let ne = others held touched (Segment m k) own.deferred free (touched_held held own.deferred c.deferred served)
        in
        let same : (committed defs own msdbs db).msdbs ≡ msdbs =
        inserts_leave own.inserts (with_anchors own.changes (with_msdbs msdbs db)) ∙ anchors_leave own.changes
        (with_msdbs msdbs db) in
        ap (λ (x : List Msdb). SegmentIs (segment_at x m k)) same ∙ ap (λ (o : Option (List ℕ)). SegmentIs o)
        (queue_leaves m k 0 db.msdbs own.deferred msdbs c.is_own ne stands)
    committed_leaves msdbs stands (Anchor dedb anchor) free =
        let changes = others held (change_claim defs) (Anchor dedb anchor) own.changes free
        (mapped_held held (change_claim defs) own.changes c.changes) in
        let inserts = others held (insert_claim defs) (Anchor dedb anchor) own.inserts free
        (mapped_held held (insert_claim defs) own.inserts c.inserts) in
        ap (λ (roots : List Root). RootsAre roots) (roots_with_inserts dedb anchor defs own.inserts
        (with_anchors own.changes (with_msdbs msdbs db)) inserts ∙ roots_with_anchors dedb anchor own.changes
        (with_msdbs msdbs db) changes)

    -- a queue that settled
    settled_leaves : (s : Settled) → settle_from defs.msdbs 0 db.msdbs own.deferred ≡ s → (next : Db)
        → settled_to defs db own s ≡ Commits next → (resource : Resource) → ¬ (held resource ≡ Some Exclusive)
        → seen_in defs resource next ≡ seen_in defs resource db
    settled_leaves (VerifyFails call fsa found) is next e resource free =
        absurd (verify_is_no_commit call fsa found next e)
    settled_leaves (Stands msdbs) is next e resource free =
        subst (λ (x : Db). seen_in defs resource x ≡ seen_in defs resource db)
        (full_or_not db own.inserts 3 (areas_of defs) (committed defs own msdbs db) next e)
        (committed_leaves msdbs is resource free)

  -- The sync point changes only what is held Exclusive.
  pub sync_leaves : (db next : Db) (own : Workspace) (held : Resource → Option Mode) → IsCovered (view_of defs) own held
      → lacking own held ≡ None → settlement defs db own ≡ Commits next
      → (resource : Resource) → ¬ (held resource ≡ Some Exclusive)
      → seen_in defs resource next ≡ seen_in defs resource db
  unfolding lacking settlement
  sync_leaves db next own held c none e resource free =
      settled_leaves db own held (parts defs held own c) (all_served held (resources own.deferred) none)
      (settle defs.msdbs db.msdbs own.deferred) refl next e resource free
