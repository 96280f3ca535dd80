-- A call that needs no further lock is answered alike where what is held is the same.
use Rattle.std.proofs.Common.{◌≡◌, ℕ, ◌-◌, List, [], ◌∷◌, length, Option, Some, None, refl, sym, ◌∙◌, ap, subst, Bool, true, false, not, ◌&&◌, ◌||◌, if◌then◌else◌, slice_get}
use Rattle.std.specs.Prelude.{option_map, codes, is_some, find, filter}
use Rattle.std.specs.Option.{option_map_or}
use Rattle.fp_model.specs.declared.definitions.Defs.{Defs}
use Rattle.fp_model.specs.declared.definitions.MsdbDef.{MsdbDef}
use Rattle.fp_model.specs.declared.definitions.DedbDef.{DedbDef}
use Rattle.fp_model.specs.declared.database.Db.{Db}
use Rattle.fp_model.specs.declared.database.Msdb.{Msdb}
use Rattle.fp_model.specs.declared.database.Root.{Root}
use Rattle.fp_model.specs.declared.calls.AnchorChange.{AnchorChange}
use Rattle.fp_model.specs.declared.calls.Call.{Call}
use Rattle.fp_model.specs.declared.calls.Call.TheVariants as call
use Rattle.fp_model.specs.declared.calls.Deferred.TheVariants as deferred
use Rattle.fp_model.specs.declared.calls.Get.{Get}
use Rattle.fp_model.specs.declared.calls.Get.TheVariants as get
use Rattle.fp_model.specs.declared.calls.Mode.{Mode}
use Rattle.fp_model.specs.declared.calls.Mode.TheVariants.{Share, Exclusive}
use Rattle.fp_model.specs.declared.calls.Resource.{Resource}
use Rattle.fp_model.specs.declared.calls.Resource.TheVariants.{Segment, Anchor}
use Rattle.fp_model.specs.declared.calls.Ssa.{Ssa}
use Rattle.fp_model.specs.Texts.{same_text}
use Rattle.fp_model.specs.State.{key_of, segment_of, roots_at}
use Rattle.fp_model.specs.Order.{Occurrence, Place, Edit, Replaces, Deletes, first_admitted, edited, is_sequential, key_in}
use Rattle.fp_model.specs.Workspace.{Workspace}
use Rattle.fp_model.specs.Answers.{Replied, Needed, answered, blank, serves, unless_held}
use Rattle.fp_model.specs.MsdbCalls as msdb
use Rattle.fp_model.specs.DedbCalls as dedb
use Rattle.fp_model.specs.Calls.{OnMsdb, OnDedb, Nowhere, database_of, dedb_target, msdb_at, reply_on, looks_on, need_on, reply_to, looks_unheld, need_of}
use Rattle.serial_order.specs.Laws.{SegmentIs, RootsAre, IsSame}
use Rattle.serial_order.specs.ProductView.{view_of}
use Rattle.serial_order.proofs.Lists.{true_is_not_false}
use Rattle.std.proofs.lemmas.Option.{none-some, same_Some}

-- ---- what a lock serves

-- what serves is held
pub served_is_held : (o : Option Mode) (mode : Mode) → serves o mode ≡ true → ¬ (o ≡ None)
served_is_held None mode e none = true_is_not_false (sym e)
served_is_held (Some m) mode e none = none-some m (sym none)

-- and Exclusive serves all
pub exclusive_serves : (o : Option Mode) (mode : Mode) → o ≡ Some Exclusive → serves o mode ≡ true
exclusive_serves o mode e = subst (λ (q : Option Mode). serves q mode ≡ true) (sym e) refl

-- what serves Exclusive is Exclusive
pub served_exclusive : (o : Option Mode) → serves o Exclusive ≡ true → o ≡ Some Exclusive
served_exclusive None e = absurd (true_is_not_false (sym e))
served_exclusive (Some Share) e = absurd (true_is_not_false (sym e))
served_exclusive (Some Exclusive) e = refl

-- nothing more is needed where the lock is held
pub unless_none : (held : Resource → Option Mode) (needed : Needed) → unless_held held needed ≡ None
    → serves (held needed.resource) needed.mode ≡ true
unless_none held needed e = go (serves (held needed.resource) needed.mode) e
  where
    go : (b : Bool) → (if b then None else Some needed) ≡ None → b ≡ true
    go true e = refl
    go false e = absurd (none-some needed (sym e))

-- what is needed isn't held Exclusive
pub unless_some : (held : Resource → Option Mode) (needed more : Needed) → unless_held held needed ≡ Some more
    → ¬ (held more.resource ≡ Some Exclusive)
unless_some held needed more e is = go (serves (held needed.resource) needed.mode) refl e
  where
    go : (b : Bool) → serves (held needed.resource) needed.mode ≡ b → (if b then None else Some needed) ≡ Some more → ⊥
    go true s e = none-some more e
    go false s e =
        let here : held needed.resource ≡ Some Exclusive =
        subst (λ (q : Needed). held q.resource ≡ Some Exclusive) (sym (same_Some needed more e)) is in
        true_is_not_false (sym (exclusive_serves (held needed.resource) needed.mode here) ∙ s)

-- ---- main storage databases

module _ (def : MsdbDef) (number : ℕ) (held : Resource → Option Mode) (own : Workspace) where
  -- a lock on a key that is there where nothing more is needed
  pub key_held : (key : List ℕ) → option_map_or (unless_held held) (msdb.exclusively def number key) None ≡ None
      → held (Segment number key) ≡ Some Exclusive
  key_held key e = served_exclusive (held (Segment number key))
      (unless_none held (record { resource = Segment number key; mode = Exclusive }) e)

  -- a key held Exclusive is held
  held_key : (key : List ℕ) → held (Segment number key) ≡ Some Exclusive → ¬ (held (Segment number key) ≡ None)
  held_key key e none = none-some Exclusive (sym none ∙ e)

  module _ (now now2 shown shown2 : Msdb) (same : (key : List ℕ) → ¬ (held (Segment number key) ≡ None)
      → segment_of def now2 key ≡ segment_of def now key) where
    -- GU, GN and GHU
    get_alike : (g : Get) (hold : Bool) (key : Option (List ℕ)) (n : ℕ) (ssas : List Ssa)
        → option_map_or (unless_held held) (msdb.for_get def number g hold key) None ≡ None
        → (msdb.msdb_looks def number own (call.Get g hold n ssas) ≡ true → shown2 ≡ shown)
        → msdb.get_reply def number now2 shown2 own g hold key ≡ msdb.get_reply def number now shown own g hold key
    get_alike get.Unique false None n ssas need looks =
        ap (λ (s : Msdb). msdb.get_reply def number now s own get.Unique false None) (looks refl)
    get_alike get.Unique false (Some key) n ssas need looks =
        ap (λ (s : Msdb). msdb.get_reply def number now s own get.Unique false (Some key)) (looks refl)
    get_alike get.Unique true None n ssas need looks = refl
    get_alike get.Unique true (Some key) n ssas need looks =
        ap (λ (o : Option (List ℕ)). msdb.found_or def number (codes "GE") true own o)
        (same key (held_key key (key_held key need)))
    get_alike get.Next false key n ssas need looks =
        ap (λ (s : Msdb). msdb.get_reply def number now s own get.Next false key) (looks refl)
    get_alike get.Next true key n ssas need looks = refl
    get_alike get.NextInParent hold key n ssas need looks = refl

    -- behind a test, a look at the state shown
    shown_alike : (b : Bool) (r : Replied) (f : Msdb → Replied) → (not b ≡ true → shown2 ≡ shown)
        → (if b then r else f shown2) ≡ (if b then r else f shown)
    shown_alike true r f looks = refl
    shown_alike false r f looks = ap f (looks refl)

    -- behind two tests, a look at the segment of a key
    isrt_alike : (dynamic put : Bool) (key : List ℕ) (r q : Replied) (f : Option (List ℕ) → Replied)
        → option_map_or (unless_held held) (if dynamic && not put then msdb.exclusively def number key else None) None ≡
        None
        → (if not dynamic then r else if put then q else f (segment_of def now2 key)) ≡
        (if not dynamic then r else if put then q else f (segment_of def now key))
    isrt_alike false put key r q f need = refl
    isrt_alike true true key r q f need = refl
    isrt_alike true false key r q f need = ap f (same key (held_key key (key_held key need)))

    -- any call to a main storage database
    pub msdb_alike : (c : Call) → option_map_or (unless_held held) (msdb.msdb_need def number own c) None ≡ None
        → (msdb.msdb_looks def number own c ≡ true → shown2 ≡ shown)
        → msdb.msdb_reply def number now2 shown2 own c ≡ msdb.msdb_reply def number now shown own c
    msdb_alike (call.Get g hold n ssas) need looks = get_alike g hold (msdb.key_named ssas) n ssas need looks
    msdb_alike (call.Fld n key fsas) need looks =
        shown_alike (msdb.is_put_or_dropped def number own key) (msdb.refused def number own (codes "XP"))
        (λ (s : Msdb). msdb.fld_reply def number own key fsas (segment_of def s key)) looks
    msdb_alike (call.Repl n bytes) need looks = refl
    msdb_alike (call.Isrt n ssas bytes) need looks =
        isrt_alike def.dynamic (msdb.is_put_or_dropped def number own (key_of def.fields bytes))
        (key_of def.fields bytes) (msdb.refused def number own (codes "AM"))
        (msdb.refused def number own (codes "XP"))
        (λ (o : Option (List ℕ)). if is_some o then msdb.refused def number own (codes "II") else msdb.queued def number
        own (answered blank) (deferred.Isrt number bytes)) need
    msdb_alike (call.Dlet n) need looks = refl

-- ---- data entry databases

-- a search that comes to no anchor without its lock finds the same where the looks at those locked are
pub found_alike : (is_locked : ℕ → Bool) (look look2 : ℕ → Option Occurrence) (anchors : List ℕ)
    → dedb.first_unlocked is_locked look anchors ≡ None
    → ((anchor : ℕ) → is_locked anchor ≡ true → look2 anchor ≡ look anchor)
    → dedb.first_found look2 anchors ≡ dedb.first_found look anchors
found_alike is_locked look look2 [] none same = refl
found_alike is_locked look look2 (a ∷ rest) none same =
    at (is_locked a) refl (look a) refl none (λ e. found_alike is_locked look look2 rest e same)
  where
    at : (b : Bool) → is_locked a ≡ b → (o : Option Occurrence) → look a ≡ o
        → (if not b then Some a else if is_some o then None else dedb.first_unlocked is_locked look rest) ≡ None
        → (dedb.first_unlocked is_locked look rest ≡ None → dedb.first_found look2 rest ≡ dedb.first_found look rest)
        → option_map_or (λ s. Some (a, s)) (look2 a) (dedb.first_found look2 rest) ≡ option_map_or (λ s. Some (a, s))
        (look a) (dedb.first_found look rest)
    at false is o found none later = absurd (none-some a (sym none))
    at true is (Some s) found none later = rw (same a is) (rw found refl)
    at true is None found none later = rw (same a is) (rw found (later none))

module _ (def : DedbDef) (number : ℕ) (held : Resource → Option Mode) (own : Workspace) (db db2 : Db)
    (same : (anchor : ℕ) → ¬ (held (Anchor number anchor) ≡ None)
    → roots_at db2 number anchor ≡ roots_at db number anchor) where
  -- the roots of an anchor that is held
  pub roots_alike : (anchor : ℕ) (mode : Mode) → serves (held (Anchor number anchor)) mode ≡ true
      → dedb.roots_seen def number db2 own anchor ≡ dedb.roots_seen def number db own anchor
  roots_alike anchor mode h = ap (λ (roots : List Root). option_map_or (λ (c : AnchorChange). c.roots)
      (find (dedb.is_change_of def number anchor) own.changes) roots)
      (same anchor (served_is_held (held (Anchor number anchor)) mode h))

  -- the roots of an anchor whose lock is held
  roots_locked : (anchor : ℕ) (mode : Mode) → dedb.unless_locked def number held mode anchor ≡ None
      → dedb.roots_seen def number db2 own anchor ≡ dedb.roots_seen def number db own anchor
  roots_locked anchor mode e = roots_alike anchor mode
      (unless_none held (record { resource = Anchor number anchor; mode = mode }) e)

  -- a get
  search_alike : (g : Get) (hold : Bool) (ssas : List Ssa) (anchors : List ℕ) (status : List ℕ)
      → option_map (dedb.anchor_lock def number (dedb.lock_of def number hold))
      (dedb.first_unlocked (λ (anchor : ℕ). serves (held (Anchor number anchor)) (dedb.lock_of def number hold))
      (dedb.look_at def number db own g ssas) anchors) ≡ None
      → dedb.found_or def number status g hold own (dedb.first_found (dedb.look_at def number db2 own g ssas) anchors)
      ≡ dedb.found_or def number status g hold own (dedb.first_found (dedb.look_at def number db own g ssas) anchors)
  search_alike g hold ssas anchors status need =
      ap (dedb.found_or def number status g hold own)
      (found_alike (λ (anchor : ℕ). serves (held (Anchor number anchor)) (dedb.lock_of def number hold))
      (dedb.look_at def number db own g ssas) (dedb.look_at def number db2 own g ssas) anchors
      (unlocked (dedb.first_unlocked (λ (anchor : ℕ). serves (held (Anchor number anchor))
      (dedb.lock_of def number hold)) (dedb.look_at def number db own g ssas) anchors) need)
      (λ anchor h. ap (λ (roots : List Root). first_admitted def.segments anchor roots
      (dedb.begins_behind def number (dedb.position_of def number own) g)
      (dedb.stays_below def number (dedb.position_of def number own) g) ssas)
      (roots_alike anchor (dedb.lock_of def number hold) h)))
    where
      unlocked : (o : Option ℕ) → option_map (dedb.anchor_lock def number (dedb.lock_of def number hold)) o ≡ None
          → o ≡ None
      unlocked None e = refl
      unlocked (Some a) e = absurd (none-some _ (sym e))

  -- behind two tests of which either ends the call
  get_alike_if : (fair lacks : Bool) (g : Get) (hold : Bool) (ssas : List Ssa) (r q : Replied)
      → (if not fair || lacks then None else option_map (dedb.anchor_lock def number (dedb.lock_of def number hold))
      (dedb.first_unlocked (λ (anchor : ℕ). serves (held (Anchor number anchor)) (dedb.lock_of def number hold))
      (dedb.look_at def number db own g ssas) (dedb.anchors_searched def number (dedb.position_of def number own) g
      (dedb.root_named def number ssas)))) ≡ None
      → (if not fair then r else if lacks then q else dedb.found_or def number (dedb.not_found def number g ssas) g hold
      own (dedb.first_found (dedb.look_at def number db2 own g ssas)
      (dedb.anchors_searched def number (dedb.position_of def number own) g (dedb.root_named def number ssas))))
      ≡ (if not fair then r else if lacks then q else dedb.found_or def number (dedb.not_found def number g ssas) g hold
      own (dedb.first_found (dedb.look_at def number db own g ssas)
      (dedb.anchors_searched def number (dedb.position_of def number own) g (dedb.root_named def number ssas))))
  get_alike_if false lacks g hold ssas r q need = refl
  get_alike_if true true g hold ssas r q need = refl
  get_alike_if true false g hold ssas r q need = search_alike g hold ssas
      (dedb.anchors_searched def number (dedb.position_of def number own) g (dedb.root_named def number ssas))
      (dedb.not_found def number g ssas) need

  -- ISRT
  insert_alike : (fair : Bool) (anchor : ℕ) (r : Replied) (f : List Root → Replied)
      → (if fair then dedb.unless_locked def number held Exclusive anchor else None) ≡ None
      → (if fair then f (dedb.roots_seen def number db2 own anchor) else r) ≡
      (if fair then f (dedb.roots_seen def number db own anchor) else r)
  insert_alike true anchor r f need = ap f (roots_locked anchor Exclusive need)
  insert_alike false anchor r f need = refl

  -- a change at the place that is held
  edit_alike : (place : Place) (edit : Edit) → dedb.unless_locked def number held Exclusive place.anchor ≡ None
      → dedb.edit_at def number db2 own place edit ≡ dedb.edit_at def number db own place edit
  edit_alike place edit need = ap (λ (roots : List Root). dedb.with_change def number place.anchor
      (edited def.segments roots place.path edit) (dedb.hold_ended def number own))
      (roots_locked place.anchor Exclusive need)

  -- REPL
  repl_alike : (bytes : List ℕ) (o : Option Place) → dedb.held_need def number held o ≡ None
      → dedb.repl_reply def number db2 own bytes o ≡ dedb.repl_reply def number db own bytes o
  repl_alike bytes None need = refl
  repl_alike bytes (Some place) need = ap (λ (w : Workspace). if is_sequential def.segments
      (dedb.type_of_path def number place.path) then dedb.refused def number own (codes "AM") else
      (if same_text (key_in def.segments (dedb.type_of_path def number place.path) bytes)
      (dedb.key_of_path def number place.path) then record { answer = answered blank; own = w } else dedb.refused def
      number own (codes "DA"))) (edit_alike place (Replaces bytes) need)

  -- DLET
  dlet_alike : (o : Option Place) → dedb.held_need def number held o ≡ None
      → dedb.dlet_reply def number db2 own o ≡ dedb.dlet_reply def number db own o
  dlet_alike None need = refl
  dlet_alike (Some place) need = ap (λ (after : Workspace). if is_sequential def.segments
      (dedb.type_of_path def number place.path) then dedb.refused def number own (codes "AM") else record {
        answer = answered blank;
        own = dedb.with_position def number
            (record (dedb.position_of def number after) { parent = None })
            (record after { inserts = filter (λ i. not (dedb.goes_with def number place i)) own.inserts });
      })
      (edit_alike place Deletes need)

  -- any call to a data entry database
  pub dedb_alike : (c : Call) → dedb.dedb_need def number db own held c ≡ None
      → dedb.dedb_reply def number db2 own c ≡ dedb.dedb_reply def number db own c
  dedb_alike (call.Get g hold n ssas) need = get_alike_if (dedb.are_get_arguments def number ssas)
      (dedb.lacks_parent def number own g) g hold ssas (dedb.refused def number own (codes "AM"))
      (dedb.refused def number own (codes "GP")) need
  dedb_alike (call.Fld n key fsas) need = refl
  dedb_alike (call.Isrt n ssas bytes) need =
      insert_alike (dedb.are_insert_arguments def number ssas)
      (dedb.anchor_of_path def number (dedb.insert_path def number ssas bytes))
      (dedb.refused def number own (codes "AM"))
      (λ (roots : List Root). dedb.isrt_at def number roots own (dedb.type_of_last def number ssas)
      (dedb.insert_path def number ssas bytes) bytes) need
  dedb_alike (call.Repl n bytes) need = repl_alike bytes (dedb.held_place def number own) need
  dedb_alike (call.Dlet n) need = dlet_alike (dedb.held_place def number own) need

-- ---- all calls

-- what is seen, and what it holds
segment_is : (a b : Option (List ℕ)) → SegmentIs a ≡ SegmentIs b → a ≡ b
segment_is a b e = cc

pub roots_are : (a b : List Root) → RootsAre a ≡ RootsAre b → a ≡ b
roots_are a b e = cc

module _ (defs : Defs) (held : Resource → Option Mode) (own : Workspace) (db db2 shown shown2 : Db) (c : Call)
    (same : IsSame (view_of defs) held db db2) where
  -- a call to a data entry database, if there is one
  dedb_target_alike : (number : ℕ) (o : Option DedbDef)
      → need_on (option_map_or (λ def. OnDedb def number) o Nowhere) db own held c ≡ None
      → reply_on (option_map_or (λ def. OnDedb def number) o Nowhere) db2 shown2 own c ≡ reply_on
      (option_map_or (λ def. OnDedb def number) o Nowhere) db shown own c
  dedb_target_alike number None need = refl
  dedb_target_alike number (Some def) need = dedb_alike def number held own db db2
      (λ anchor h. roots_are _ _ (same (Anchor number anchor) h)) c need

  -- main storage databases are looked for first
  target_alike : (number dedb_number : ℕ) (o : Option MsdbDef) → slice_get defs.msdbs number ≡ o
      → need_on (option_map_or (λ def. OnMsdb def number) o (dedb_target defs dedb_number)) db own held c ≡ None
      → (looks_on (option_map_or (λ def. OnMsdb def number) o (dedb_target defs dedb_number)) own c ≡ true
      → shown2 ≡ shown)
      → reply_on (option_map_or (λ def. OnMsdb def number) o (dedb_target defs dedb_number)) db2 shown2 own c ≡ reply_on
      (option_map_or (λ def. OnMsdb def number) o (dedb_target defs dedb_number)) db shown own c
  target_alike number dedb_number None is need looks =
      dedb_target_alike dedb_number (slice_get defs.dedbs dedb_number) need
  target_alike number dedb_number (Some def) is need looks =
      msdb_alike def number held own (msdb_at db number) (msdb_at db2 number) (msdb_at shown number)
      (msdb_at shown2 number)
      (λ key h. segment_is _ _ (subst (λ (o : Option MsdbDef). SegmentIs
      (option_map_or (λ d. segment_of d (msdb_at db2 number) key) o None) ≡ SegmentIs
      (option_map_or (λ d. segment_of d (msdb_at db number) key) o None)) is (same (Segment number key) h)))
      c need (λ e. ap (λ (s : Db). msdb_at s number) (looks e))

  -- A call that needs no further lock is answered alike where what is held is the same.
  pub replies_alike : need_of defs db own held c ≡ None → (looks_unheld defs own c ≡ true → shown2 ≡ shown)
      → reply_to defs db2 shown2 own c ≡ reply_to defs db shown own c
  unfolding need_of looks_unheld reply_to
  replies_alike need looks = target_alike (database_of c) (database_of c - length defs.msdbs)
      (slice_get defs.msdbs (database_of c)) refl need looks
