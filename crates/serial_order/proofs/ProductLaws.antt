-- This system keeps the laws, and its calls look at no ends of an area.
use Rattle.std.proofs.Common.{◌≡◌, ℕ, ◌-◌, List, [], ◌∷◌, length, Option, Some, None, refl, ap, Bool, true, false, not, ◌||◌, if◌then◌else◌, slice_get}
use Rattle.std.specs.Prelude.{option_map, is_some, find}
use Rattle.std.specs.List.{AllByRecursion}
use Rattle.std.specs.Option.{option_map_or}
use Rattle.fp_model.specs.declared.definitions.Defs.{Defs}
use Rattle.fp_model.specs.declared.definitions.MsdbDef.{MsdbDef}
use Rattle.fp_model.specs.declared.definitions.DedbDef.{DedbDef}
use Rattle.fp_model.specs.declared.database.AreaEnds.{AreaEnds}
use Rattle.fp_model.specs.declared.database.Db.{Db}
use Rattle.fp_model.specs.declared.database.Root.{Root}
use Rattle.fp_model.specs.declared.calls.AnchorChange.{AnchorChange}
use Rattle.fp_model.specs.declared.calls.Call.{Call}
use Rattle.fp_model.specs.declared.calls.Call.TheVariants as call
use Rattle.fp_model.specs.declared.calls.Get.{Get}
use Rattle.fp_model.specs.declared.calls.Mode.{Mode}
use Rattle.fp_model.specs.declared.calls.Mode.TheVariants.{Exclusive}
use Rattle.fp_model.specs.declared.calls.Resource.{Resource}
use Rattle.fp_model.specs.declared.calls.Resource.TheVariants.{Segment, Anchor}
use Rattle.fp_model.specs.declared.calls.Ssa.{Ssa}
use Rattle.fp_model.specs.declared.scripts.Script.{Script}
use Rattle.fp_model.specs.State.{Area}
use Rattle.fp_model.specs.Order.{Occurrence, Place, first_admitted}
use Rattle.fp_model.specs.Workspace.{Workspace}
use Rattle.fp_model.specs.Answers.{serves}
use Rattle.fp_model.specs.DedbCalls as dedb
use Rattle.fp_model.specs.Calls.{OnMsdb, OnDedb, Nowhere, database_of, dedb_target, reply_on, need_on, reply_to, need_of}
use Rattle.fp_model.specs.Commit.{with_ends}
use Rattle.fp_model.specs.WellFormed.{IsMsdbDef}
use Rattle.fp_model.specs.Product.{rules_of}
use Rattle.serial_order.specs.Laws.{RootsAre, Laws}
use Rattle.serial_order.specs.ProductView.{seen_in, view_of}
use Rattle.serial_order.proofs.Replies.{dedb_alike, replies_alike}
use Rattle.serial_order.proofs.Covers.{replies_covered, fresh_covered}
use Rattle.serial_order.proofs.Needs.{calls_want, sync_wants, asks_fewer}
use Rattle.serial_order.proofs.Lines.{keeps_line, keeps_terminal, request_stays, refuses_only}
use Rattle.serial_order.proofs.Forms.{asks_form}
use Rattle.serial_order.proofs.Changes.{roots_with_ends, purge_leaves}
use Rattle.serial_order.proofs.Queue.{sync_leaves}

-- ---- the laws

-- This system keeps the laws.
pub laws_of : (defs : Defs) (scripts : List Script) → AllByRecursion IsMsdbDef defs.msdbs
    → Laws (rules_of defs scripts) (view_of defs)
laws_of defs scripts each = record {
  lines = keeps_line scripts;
  terminals = keeps_terminal scripts;
  stays = request_stays scripts;
  refuses = refuses_only scripts;
  no_text = refl;
  ends = asks_fewer defs scripts;
  asked = asks_form defs scripts;
  begins = fresh_covered defs;
  answers = λ db db2 shown shown2 own held c need same looks. replies_alike defs held own db db2 shown shown2 c same
      need looks;
  covers = λ db shown own held c fair need covered. replies_covered defs held db shown own c fair need covered;
  wants = λ db own held c needed e. calls_want held needed defs db own c e;
  lacks = sync_wants;
  settles = sync_leaves defs each;
  purges = purge_leaves defs;
}

-- ---- no call looks at the ends of an area

-- what is seen is the same beside other ends
pub seen_with_ends : (defs : Defs) (area : Area) (ends : AreaEnds) (db : Db) (resource : Resource)
    → seen_in defs resource (with_ends area ends db) ≡ seen_in defs resource db
seen_with_ends defs area ends db (Segment msdb key) = refl
seen_with_ends defs area ends db (Anchor dedb anchor) =
    ap (λ (roots : List Root). RootsAre roots) (roots_with_ends dedb anchor area ends db)

-- a search over like looks
unlocked_alike : (is_locked : ℕ → Bool) (look look2 : ℕ → Option Occurrence) (anchors : List ℕ)
    → ((anchor : ℕ) → look2 anchor ≡ look anchor) → dedb.first_unlocked is_locked look2 anchors ≡ dedb.first_unlocked
    is_locked look anchors
unlocked_alike is_locked look look2 [] same = refl
unlocked_alike is_locked look look2 (a ∷ rest) same = rw (same a, unlocked_alike is_locked look look2 rest same) refl

module _ (area : Area) (ends : AreaEnds) (db : Db) (own : Workspace) where
  -- what a get finds at an anchor
  look_alike : (def : DedbDef) (number : ℕ) (g : Get) (ssas : List Ssa) (anchor : ℕ)
      → dedb.look_at def number (with_ends area ends db) own g ssas anchor ≡ dedb.look_at def number db own g ssas
      anchor
  look_alike def number g ssas anchor = ap (λ (roots : List Root). first_admitted def.segments anchor
      (option_map_or (λ (c : AnchorChange). c.roots) (find (dedb.is_change_of def number anchor) own.changes) roots)
      (dedb.begins_behind def number (dedb.position_of def number own) g)
      (dedb.stays_below def number (dedb.position_of def number own) g) ssas)
      (roots_with_ends number anchor area ends db)

  -- which lock a call to a data entry database needs
  dedb_need_alike : (def : DedbDef) (number : ℕ) (held : Resource → Option Mode) (c : Call)
      → dedb.dedb_need def number (with_ends area ends db) own held c ≡ dedb.dedb_need def number db own held c
  dedb_need_alike def number held (call.Get g hold n ssas) =
      ap (λ (o : Option ℕ). if not (dedb.are_get_arguments def number ssas) || dedb.lacks_parent def number own g then
      None else option_map (dedb.anchor_lock def number (dedb.lock_of def number hold)) o)
      (unlocked_alike (λ (anchor : ℕ). serves (held (Anchor number anchor)) (dedb.lock_of def number hold))
      (dedb.look_at def number db own g ssas) (dedb.look_at def number (with_ends area ends db) own g ssas)
      (dedb.anchors_searched def number (dedb.position_of def number own) g (dedb.root_named def number ssas))
      (look_alike def number g ssas))
  dedb_need_alike def number held (call.Fld n key fsas) = refl
  dedb_need_alike def number held (call.Isrt n ssas bytes) = refl
  dedb_need_alike def number held (call.Repl n bytes) = refl
  dedb_need_alike def number held (call.Dlet n) = refl

  -- which lock a call needs
  module _ (defs : Defs) (held : Resource → Option Mode) (c : Call) where
    dedb_target_need : (number : ℕ) (o : Option DedbDef)
        → need_on (option_map_or (λ def. OnDedb def number) o Nowhere) (with_ends area ends db) own held c ≡ need_on
        (option_map_or (λ def. OnDedb def number) o Nowhere) db own held c
    dedb_target_need number None = refl
    dedb_target_need number (Some def) = dedb_need_alike def number held c

    -- main storage databases are looked for first
    target_need : (number dedb_number : ℕ) (o : Option MsdbDef)
        → need_on (option_map_or (λ def. OnMsdb def number) o (dedb_target defs dedb_number)) (with_ends area ends db)
        own held c ≡ need_on (option_map_or (λ def. OnMsdb def number) o (dedb_target defs dedb_number)) db own held c
    target_need number dedb_number None = dedb_target_need dedb_number (slice_get defs.dedbs dedb_number)
    target_need number dedb_number (Some def) = refl

    -- Which lock a call needs depends on no ends.
    pub needs_with_ends : need_of defs (with_ends area ends db) own held c ≡ need_of defs db own held c
    unfolding need_of
    needs_with_ends = target_need (database_of c) (database_of c - length defs.msdbs)
        (slice_get defs.msdbs (database_of c))

  -- a region that holds all needs no lock
  none_unlocked : (look : ℕ → Option Occurrence) (anchors : List ℕ)
      → dedb.first_unlocked (λ (anchor : ℕ). true) look anchors ≡ None
  none_unlocked look [] = refl
  none_unlocked look (a ∷ rest) = by (is_some (look a)) (none_unlocked look rest)
    where
      by : (b : Bool) → dedb.first_unlocked (λ (anchor : ℕ). true) look rest ≡ None
          → (if b then None else dedb.first_unlocked (λ (anchor : ℕ). true) look rest) ≡ None
      by true later = refl
      by false later = later

  -- behind a test
  either_none : {X : Type 0} (b : Bool) (x : Option X) → x ≡ None → (if b then None else x) ≡ None
  either_none true x e = refl
  either_none false x e = e

  module _ (def : DedbDef) (number : ℕ) where
    -- the place that is held
    place_needs_none : (o : Option Place) → dedb.held_need def number (λ (resource : Resource). Some Exclusive) o ≡ None
    place_needs_none None = refl
    place_needs_none (Some place) = refl

    -- a call where all is held
    dedb_needs_none : (c : Call) → dedb.dedb_need def number db own (λ (resource : Resource). Some Exclusive) c ≡ None
    dedb_needs_none (call.Get g hold n ssas) =
        either_none (not (dedb.are_get_arguments def number ssas) || dedb.lacks_parent def number own g) _
        (ap (λ (o : Option ℕ). option_map (dedb.anchor_lock def number (dedb.lock_of def number hold)) o)
        (none_unlocked (dedb.look_at def number db own g ssas)
        (dedb.anchors_searched def number (dedb.position_of def number own) g (dedb.root_named def number ssas))))
    dedb_needs_none (call.Fld n key fsas) = refl
    dedb_needs_none (call.Isrt n ssas bytes) = insert_needs_none (dedb.are_insert_arguments def number ssas)
      where
        insert_needs_none : (b : Bool) → (if b then dedb.unless_locked def number
            (λ (resource : Resource). Some Exclusive) Exclusive
            (dedb.anchor_of_path def number (dedb.insert_path def number ssas bytes)) else None) ≡ None
        insert_needs_none true = refl
        insert_needs_none false = refl
    dedb_needs_none (call.Repl n bytes) = place_needs_none (dedb.held_place def number own)
    dedb_needs_none (call.Dlet n) = place_needs_none (dedb.held_place def number own)

  -- what a call is answered
  module _ (defs : Defs) (area2 : Area) (ends2 : AreaEnds) (shown : Db) (c : Call) where
    dedb_target_reply : (number : ℕ) (o : Option DedbDef)
        → reply_on (option_map_or (λ def. OnDedb def number) o Nowhere) (with_ends area ends db)
        (with_ends area2 ends2 shown) own c ≡ reply_on (option_map_or (λ def. OnDedb def number) o Nowhere) db shown own
        c
    dedb_target_reply number None = refl
    dedb_target_reply number (Some def) = dedb_alike def number (λ (resource : Resource). Some Exclusive) own db
        (with_ends area ends db) (λ anchor h. roots_with_ends number anchor area ends db) c
        (dedb_needs_none def number c)

    -- main storage databases are looked for first
    target_reply : (number dedb_number : ℕ) (o : Option MsdbDef)
        → reply_on (option_map_or (λ def. OnMsdb def number) o (dedb_target defs dedb_number)) (with_ends area ends db)
        (with_ends area2 ends2 shown) own c ≡ reply_on
        (option_map_or (λ def. OnMsdb def number) o (dedb_target defs dedb_number)) db shown own c
    target_reply number dedb_number None = dedb_target_reply dedb_number (slice_get defs.dedbs dedb_number)
    target_reply number dedb_number (Some def) = refl

    -- What a call is answered depends on no ends.
    pub replies_with_ends : reply_to defs (with_ends area ends db) (with_ends area2 ends2 shown) own c ≡ reply_to defs
        db shown own c
    unfolding reply_to
    replies_with_ends = target_reply (database_of c) (database_of c - length defs.msdbs)
        (slice_get defs.msdbs (database_of c))
