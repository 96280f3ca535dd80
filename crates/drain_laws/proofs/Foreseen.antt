-- The locks that this system's calls ask for are those foreseen, and there are few of them.
use Rattle.std.proofs.Common.{◌≡◌, ℕ, zero, suc, ◌+◌, ◌-◌, ◌≤◌, List, [], ◌∷◌, ◌++◌, length, map, Option, Some, None, refl, sym, subst, Bool, true, false, not, ◌||◌, arith, if◌then◌else◌, slice_get, length-append}
use Rattle.std.specs.Prelude.{is_some, nat_lt, codes, option_map}
use Rattle.std.specs.List.{Contains, AllByRecursion}
use Rattle.std.specs.Option.{option_map_or}
use Rattle.std.proofs.lemmas.List.{length-map}
use Rattle.fp_model.specs.declared.definitions.Defs.{Defs}
use Rattle.fp_model.specs.declared.definitions.MsdbDef.{MsdbDef}
use Rattle.fp_model.specs.declared.definitions.DedbDef.{DedbDef}
use Rattle.fp_model.specs.declared.database.Db.{Db}
use Rattle.fp_model.specs.declared.database.Msdb.{Msdb}
use Rattle.fp_model.specs.declared.database.Root.{Root}
use Rattle.fp_model.specs.declared.calls.Call.{Call}
use Rattle.fp_model.specs.declared.calls.Call.TheVariants as call
use Rattle.fp_model.specs.declared.calls.Deferred.{Deferred}
use Rattle.fp_model.specs.declared.calls.Deferred.TheVariants as deferred
use Rattle.fp_model.specs.declared.calls.Get.{Get}
use Rattle.fp_model.specs.declared.calls.Get.TheVariants as get
use Rattle.fp_model.specs.declared.calls.Mode.{Mode}
use Rattle.fp_model.specs.declared.calls.Mode.TheVariants.{Exclusive}
use Rattle.fp_model.specs.declared.calls.Resource.{Resource}
use Rattle.fp_model.specs.declared.calls.Resource.TheVariants.{Segment, Anchor}
use Rattle.fp_model.specs.State.{anchor_count, key_of, segment_of, segment_after}
use Rattle.fp_model.specs.Exits.{anchor_of}
use Rattle.fp_model.specs.Settle.{comes_before, with_resource, resources}
use Rattle.fp_model.specs.Commit.{lacking}
use Rattle.fp_model.specs.Texts.{same_text}
use Rattle.fp_model.specs.Fsas.{fsas_in, list_on, all_blank}
use Rattle.fp_model.specs.Order.{Occurrence, Place, Step, key_in, is_sequential}
use Rattle.fp_model.specs.Asking.{Ask, Asks, Replies, Rolls}
use Rattle.fp_model.specs.Workspace.{DedbPosition, Workspace}
use Rattle.fp_model.specs.Answers.{Needed, Replied, serves, unless_held}
use Rattle.fp_model.specs.MsdbCalls as msdb
use Rattle.fp_model.specs.DedbCalls as dedb
use Rattle.fp_model.specs.Calls.{Target, OnMsdb, OnDedb, Nowhere, database_of, target_of, dedb_target, need_on, need_of, reply_on, reply_to, msdb_at}
use Rattle.fp_model.specs.WellFormed.{IsDedbDef}
use Rattle.drain_laws.specs.Live.{IsStillNeeded}
use Rattle.drain_laws.specs.ProductGauge.{dedb_locks, call_locks, exclusive, locks_for}
use Rattle.plain_laws.proofs.Alls.{contains_first, contains_later, found_is_there, found_passes, map_contains}
use Rattle.std.proofs.lemmas.Option.{none-some, same_Some}
use Rattle.model_laws.proofs.Numberings.{numbers_length}

-- ---- what is asked for is foreseen

-- the first anchor without its lock is one of those searched
first_is_one : (is_locked : ℕ → Bool) (look : ℕ → Option Occurrence) (anchors : List ℕ) (anchor : ℕ)
    → dedb.first_unlocked is_locked look anchors ≡ Some anchor → Contains anchors anchor × (is_locked anchor ≡ false)
first_is_one is_locked look [] anchor e = absurd (none-some anchor e)
first_is_one is_locked look (a ∷ rest) anchor e = at (is_locked a) refl (is_some (look a)) e
    (λ f. first_is_one is_locked look rest anchor f)
  where
    at : (b : Bool) → is_locked a ≡ b → (found : Bool) → (if not b then Some a else if found then None else
        dedb.first_unlocked is_locked look rest) ≡ Some anchor
        → (dedb.first_unlocked is_locked look rest ≡ Some anchor → Contains rest anchor × (is_locked anchor ≡ false))
        → Contains (a ∷ rest) anchor × (is_locked anchor ≡ false)
    at false is found e later = (
      subst (λ (q : ℕ). Contains (a ∷ rest) q) (same_Some a anchor e)
          (contains_first a rest),
      subst (λ (q : ℕ). is_locked q ≡ false) (same_Some a anchor e) is,
    )
    at true is true e later = absurd (none-some anchor e)
    at true is false e later = let r = later e in (contains_later a rest anchor r.0, r.1)

module _ (held : Resource → Option Mode) (needed : Needed) where
  -- a lock, unless it is held
  unless_needed : (n : Needed) → unless_held held n ≡ Some needed → IsStillNeeded (n ∷ []) held needed
  unless_needed n e = by (serves (held n.resource) n.mode) refl e
    where
      by : (b : Bool) → serves (held n.resource) n.mode ≡ b → (if b then None else Some n) ≡ Some needed
          → IsStillNeeded (n ∷ []) held needed
      by true is f = absurd (none-some needed f)
      by false is f = let same = same_Some n needed f in record {
        is_among = subst (λ (q : Needed). Contains (n ∷ []) q) same (contains_first n []);
        is_unserved = subst (λ (q : Needed). serves (held q.resource) q.mode ≡ false) same is;
      }

  -- behind what there may be
  maybe_needed : (o : Option Needed) → option_map_or (unless_held held) o None ≡ Some needed
      → IsStillNeeded (option_map_or (λ n. n ∷ []) o []) held needed
  maybe_needed None e = absurd (none-some needed e)
  maybe_needed (Some n) e = unless_needed n e

  -- behind a test
  if_needed : (locks : List Needed) (b : Bool) (o : Option Needed) → (if b then o else None) ≡ Some needed
      → (o ≡ Some needed → IsStillNeeded locks held needed) → IsStillNeeded locks held needed
  if_needed locks true o e h = h e
  if_needed locks false o e h = absurd (none-some needed e)

  if_not_needed : (locks : List Needed) (b : Bool) (o : Option Needed) → (if b then None else o) ≡ Some needed
      → (o ≡ Some needed → IsStillNeeded locks held needed) → IsStillNeeded locks held needed
  if_not_needed locks true o e h = absurd (none-some needed e)
  if_not_needed locks false o e h = h e

  module _ (def : DedbDef) (number : ℕ) where
    -- the anchor that is held
    place_needed : (o : Option Place) → dedb.held_need def number held o ≡ Some needed
        → IsStillNeeded (option_map_or (λ place. dedb.anchor_lock def number Exclusive place.anchor ∷ []) o []) held
        needed
    place_needed None e = absurd (none-some needed e)
    place_needed (Some place) e = unless_needed (dedb.anchor_lock def number Exclusive place.anchor) e

    -- calls to a data entry database
    dedb_needed : (db : Db) (own : Workspace) (c : Call) → dedb.dedb_need def number db own held c ≡ Some needed
        → IsStillNeeded (dedb_locks def number own c) held needed
    dedb_needed db own (call.Get g hold n ssas) e =
        if_not_needed _ (not (dedb.are_get_arguments def number ssas) || dedb.lacks_parent def number own g) _ e
        (from (dedb.first_unlocked is_locked look anchors) refl)
      where
        mode : Mode
        mode = dedb.lock_of def number hold

        anchors : List ℕ
        anchors = dedb.anchors_searched def number (dedb.position_of def number own) g (dedb.root_named def number ssas)

        is_locked : ℕ → Bool
        is_locked anchor = serves (held (Anchor number anchor)) (dedb.lock_of def number hold)

        look : ℕ → Option Occurrence
        look = dedb.look_at def number db own g ssas

        from : (o : Option ℕ) → dedb.first_unlocked is_locked look anchors ≡ o
            → option_map (λ (anchor : ℕ). dedb.anchor_lock def number mode anchor) o ≡ Some needed
            → IsStillNeeded (map (dedb.anchor_lock def number mode) anchors) held needed
        from None is f = absurd (none-some needed f)
        from (Some a) is f =
            let one = first_is_one is_locked look anchors a is in
            let same = same_Some (dedb.anchor_lock def number mode a) needed f in
            record {
              is_among = subst (λ (q : Needed). Contains (map (dedb.anchor_lock def number mode) anchors) q) same
                  (map_contains (dedb.anchor_lock def number mode) anchors a one.0);
              is_unserved = subst (λ (q : Needed). serves (held q.resource) q.mode ≡ false) same one.1;
            }
    dedb_needed db own (call.Fld n key fsas) e = absurd (none-some needed e)
    dedb_needed db own (call.Isrt n ssas bytes) e = if_needed _ (dedb.are_insert_arguments def number ssas) _ e
        (λ f. unless_needed _ f)
    dedb_needed db own (call.Repl n bytes) e = place_needed (dedb.held_place def number own) e
    dedb_needed db own (call.Dlet n) e = place_needed (dedb.held_place def number own) e

  -- a call
  target_needed : (target : Target) (db : Db) (own : Workspace) (c : Call)
      → need_on target db own held c ≡ Some needed → IsStillNeeded (call_locks target own c) held needed
  target_needed (OnMsdb def number) db own c e = maybe_needed (msdb.msdb_need def number own c) e
  target_needed (OnDedb def number) db own c e = dedb_needed def number db own c e
  target_needed Nowhere db own c e = absurd (none-some needed e)

  pub call_needed : (defs : Defs) (db : Db) (own : Workspace) (c : Call) → need_of defs db own held c ≡ Some needed
      → IsStillNeeded (locks_for defs own (Asks c)) held needed
  unfolding need_of
  call_needed defs db own c e = target_needed (target_of defs (database_of c)) db own c e

-- at the end
pub end_needed : (defs : Defs) (own : Workspace) (held : Resource → Option Mode) (reply : List ℕ)
    (resource : Resource) → lacking own held ≡ Some resource → IsStillNeeded (locks_for defs own (Replies reply)) held
    (exclusive resource)
unfolding lacking
end_needed defs own held reply resource e = record {
  is_among = map_contains exclusive (resources own.deferred) resource
      (found_is_there (λ (r : Resource). not (serves (held r) Exclusive)) (resources own.deferred) resource e);
  is_unserved = negated (serves (held resource) Exclusive) (found_passes
      (λ (r : Resource). not (serves (held r) Exclusive)) (resources own.deferred) resource e);
}
  where
    negated : (b : Bool) → not b ≡ true → b ≡ false
    negated true e = sym e
    negated false e = refl

-- ---- how many there are

-- a resource more
one_resource : (r : Resource) (rs : List Resource) → length (with_resource r rs) ≤ length rs + 1
one_resource r [] = omega arith
one_resource r (s ∷ others) = by (comes_before r s) (comes_before s r) (one_resource r others)
  where
    by : (a b : Bool) → length (with_resource r others) ≤ length others + 1
        → length (if a then r ∷ s ∷ others else (if b then s ∷ with_resource r others else s ∷ others)) ≤ length
        (s ∷ others) + 1
    by true b rest = omega arith
    by false true rest = omega (arith, rest)
    by false false rest = omega arith

-- no more resources than calls
resources_few : (calls : List Deferred) → length (resources calls) ≤ length calls
resources_few [] = omega arith
resources_few (deferred.Fld number key fsas ∷ calls) = omega (
  arith,
  one_resource (Segment number key)
      (resources calls),
  resources_few calls,
)
resources_few (deferred.Repl number bytes ∷ calls) = omega (arith, resources_few calls)
resources_few (deferred.Isrt number bytes ∷ calls) = omega (arith, resources_few calls)
resources_few (deferred.Dlet number key ∷ calls) = omega (arith, resources_few calls)

module _ (def : DedbDef) (number : ℕ) (bounded : anchor_count def ≤ 65536) where
  up_few : (from : ℕ) → length (dedb.anchors_up def number from) ≤ 65536
  up_few from = omega (arith, numbers_length (anchor_count def - from) from, bounded)

  anchors_few : (p : DedbPosition) (g : Get) (o : Option (List ℕ))
      → length (dedb.anchors_searched def number p g o) ≤ 65536
  anchors_few p get.Unique None = up_few 0
  anchors_few p get.Unique (Some key) = omega arith
  anchors_few p get.Next None = up_few (dedb.anchor_at def number p.place)
  anchors_few p get.Next (Some key) = by (nat_lt (anchor_of def key) (dedb.anchor_at def number p.place))
    where
      by : (b : Bool) → length (if b then [] else anchor_of def key ∷ []) ≤ 65536
      by true = omega arith
      by false = omega arith
  anchors_few p get.NextInParent None = omega arith
  anchors_few p get.NextInParent (Some key) = omega arith

  -- of a call to a data entry database
  dedb_few : (own : Workspace) (c : Call) → length (dedb_locks def number own c) ≤ 65536
  dedb_few own (call.Get g hold n ssas) =
      let anchors : List ℕ = dedb.anchors_searched def number (dedb.position_of def number own) g
      (dedb.root_named def number ssas) in
      omega (
        arith,
        length-map anchors (dedb.anchor_lock def number (dedb.lock_of def number hold)),
        anchors_few
            (dedb.position_of def number own) g (dedb.root_named def number ssas),
      )
  dedb_few own (call.Fld n key fsas) = omega arith
  dedb_few own (call.Isrt n ssas bytes) = omega arith
  dedb_few own (call.Repl n bytes) = place_few (dedb.held_place def number own)
    where
      place_few : (o : Option Place) → length (option_map_or (λ place. dedb.anchor_lock def number Exclusive
          place.anchor ∷ []) o []) ≤ 65536
      place_few None = omega arith
      place_few (Some place) = omega arith
  dedb_few own (call.Dlet n) = place_few (dedb.held_place def number own)
    where
      place_few : (o : Option Place) → length (option_map_or (λ place. dedb.anchor_lock def number Exclusive
          place.anchor ∷ []) o []) ≤ 65536
      place_few None = omega arith
      place_few (Some place) = omega arith

-- an element at a place is one of all
all_at : {X : Type 0} (P : X → Type 0) (xs : List X) (i : ℕ) (x : X) → AllByRecursion P xs → slice_get xs i ≡ Some x
    → P x
all_at P [] i x h e = absurd (none-some x e)
all_at P (y ∷ ys) zero x h e = subst P (same_Some y x e) h.0
all_at P (y ∷ ys) (suc i) x h e = all_at P ys i x h.1 e

module _ (defs : Defs) (each : AllByRecursion IsDedbDef defs.dedbs) where
  dedb_target_few : (number : ℕ) (o : Option DedbDef) → slice_get defs.dedbs number ≡ o → (own : Workspace) (c : Call)
      → length (call_locks (option_map_or (λ def. OnDedb def number) o Nowhere) own c) ≤ 65536
  dedb_target_few number None is own c = omega arith
  dedb_target_few number (Some def) is own c = dedb_few def number
      ((all_at IsDedbDef defs.dedbs number def each is).anchors) own c

  target_few : (number other : ℕ) (o : Option MsdbDef) (own : Workspace) (c : Call)
      → length (call_locks (option_map_or (λ def. OnMsdb def number) o (dedb_target defs other)) own c) ≤ 65536
  target_few number other None own c = dedb_target_few other (slice_get defs.dedbs other) refl own c
  target_few number other (Some def) own c = by (msdb.msdb_need def number own c)
    where
      by : (o : Option Needed) → length (option_map_or (λ n. n ∷ []) o []) ≤ 65536
      by None = omega arith
      by (Some n) = omega arith

  -- Few locks are foreseen.
  pub locks_few : (own : Workspace) (ask : Ask) → length (locks_for defs own ask) ≤ 65536 + length own.deferred
  locks_few own (Asks c) = let few = target_few (database_of c) (database_of c - length defs.msdbs)
      (slice_get defs.msdbs (database_of c)) own c in omega (arith, few)
  locks_few own (Replies reply) = omega (
    arith,
    length-map (resources own.deferred) exclusive,
    resources_few
        own.deferred,
  )
  locks_few own (Rolls code) = omega arith

-- ---- a call queues at most one more

-- the queue has at most one call more
abbrev QueuesOne : Workspace → Replied → Type 0
QueuesOne own r = length r.own.deferred ≤ length own.deferred + 1

either_way : (own : Workspace) (b : Bool) (x y : Replied) → QueuesOne own x → QueuesOne own y
    → QueuesOne own (if b then x else y)
either_way own true x y p q = p
either_way own false x y p q = q

same : (own : Workspace) → length own.deferred ≤ length own.deferred + 1
same own = omega arith

pushed : (own : Workspace) (d : Deferred) → length (own.deferred ++ d ∷ []) ≤ length own.deferred + 1
pushed own d = omega (arith, length-append own.deferred (d ∷ []))

module _ (def : MsdbDef) (number : ℕ) (own : Workspace) where
  msdb_found : (status : List ℕ) (hold : Bool) (o : Option (List ℕ))
      → QueuesOne own (msdb.found_or def number status hold own o)
  msdb_found status hold None = same own
  msdb_found status hold (Some segment) = same own

  msdb_get : (now shown : Msdb) (g : Get) (hold : Bool) (key : Option (List ℕ))
      → QueuesOne own (msdb.get_reply def number now shown own g hold key)
  msdb_get now shown get.Unique false (Some key) = msdb_found (codes "GE") false (segment_of def shown key)
  msdb_get now shown get.Unique false None = msdb_found (codes "GE") false (segment_after def shown None)
  msdb_get now shown get.Unique true (Some key) = msdb_found (codes "GE") true (segment_of def now key)
  msdb_get now shown get.Unique true None = same own
  msdb_get now shown get.Next false key = msdb_found (codes "GB") false
      (segment_after def shown (msdb.position_of def number own).key)
  msdb_get now shown get.Next true key = same own
  msdb_get now shown get.NextInParent hold key = same own

  msdb_fld : (key fsas : List ℕ) (o : Option (List ℕ)) → QueuesOne own (msdb.fld_reply def number own key fsas o)
  msdb_fld key fsas None = same own
  msdb_fld key fsas (Some segment) = either_way own (all_blank (list_on def (fsas_in fsas) segment).letters) _ _
      (pushed own (deferred.Fld number key fsas)) (same own)

  msdb_repl : (bytes key : List ℕ) → QueuesOne own (msdb.repl_reply def number own bytes key)
  msdb_repl bytes key = either_way own (msdb.is_put_or_dropped def number own key) _ _ (same own)
      (either_way own (same_text (key_of def.fields bytes) key) _ _ (pushed own (deferred.Repl number bytes))
      (same own))

  msdb_isrt : (now : Msdb) (bytes : List ℕ) → QueuesOne own (msdb.isrt_reply def number now own bytes)
  msdb_isrt now bytes = either_way own (not def.dynamic) _ _ (same own)
      (either_way own (msdb.is_put_or_dropped def number own (key_of def.fields bytes)) _ _ (same own)
      (either_way own (is_some (segment_of def now (key_of def.fields bytes))) _ _ (same own)
      (pushed own (deferred.Isrt number bytes))))

  msdb_dlet : (key : List ℕ) → QueuesOne own (msdb.dlet_reply def number own key)
  msdb_dlet key = either_way own (msdb.is_put_or_dropped def number own key) _ _ (same own)
      (pushed own (deferred.Dlet number key))

  if_held : (reply : List ℕ → Replied) (o : Option (List ℕ)) → ((key : List ℕ) → QueuesOne own (reply key))
      → QueuesOne own (msdb.if_held def number own reply o)
  if_held reply None h = same own
  if_held reply (Some key) h = h key

  msdb_queues : (now shown : Msdb) (c : Call) → QueuesOne own (msdb.msdb_reply def number now shown own c)
  msdb_queues now shown (call.Get g hold db ssas) = msdb_get now shown g hold (msdb.key_named ssas)
  msdb_queues now shown (call.Fld db key fsas) = either_way own (msdb.is_put_or_dropped def number own key) _ _
      (same own) (msdb_fld key fsas (segment_of def shown key))
  msdb_queues now shown (call.Repl db bytes) = if_held (msdb.repl_reply def number own bytes)
      (msdb.held_key def number own) (msdb_repl bytes)
  msdb_queues now shown (call.Isrt db ssas bytes) = msdb_isrt now bytes
  msdb_queues now shown (call.Dlet db) = either_way own (not def.dynamic) _ _ (same own)
      (if_held (msdb.dlet_reply def number own) (msdb.held_key def number own) msdb_dlet)

module _ (def : DedbDef) (number : ℕ) (own : Workspace) where
  dedb_found : (status : List ℕ) (g : Get) (hold : Bool) (o : Option (ℕ × Occurrence))
      → QueuesOne own (dedb.found_or def number status g hold own o)
  dedb_found status g hold None = same own
  dedb_found status g hold (Some found) = same own

  dedb_isrt : (roots : List Root) (type : ℕ) (path : List Step) (bytes : List ℕ)
      → QueuesOne own (dedb.isrt_at def number roots own type path bytes)
  dedb_isrt roots type path bytes = either_way own (not (dedb.stands_at def number roots (dedb.parents_in path))) _ _
      (same own)
      (either_way own (is_sequential def.segments type) _ _ (same own)
      (either_way own (dedb.stands_at def number roots path) _ _ (same own) (same own)))

  dedb_repl : (db : Db) (bytes : List ℕ) (o : Option Place) → QueuesOne own (dedb.repl_reply def number db own bytes o)
  dedb_repl db bytes None = same own
  dedb_repl db bytes (Some place) = either_way own (is_sequential def.segments
      (dedb.type_of_path def number place.path)) _ _ (same own)
      (either_way own (same_text (key_in def.segments (dedb.type_of_path def number place.path) bytes)
      (dedb.key_of_path def number place.path)) _ _ (same own) (same own))

  dedb_dlet : (db : Db) (o : Option Place) → QueuesOne own (dedb.dlet_reply def number db own o)
  dedb_dlet db None = same own
  dedb_dlet db (Some place) = either_way own (is_sequential def.segments (dedb.type_of_path def number place.path)) _
      _ (same own) (same own)

  dedb_queues : (db : Db) (c : Call) → QueuesOne own (dedb.dedb_reply def number db own c)
  dedb_queues db (call.Get g hold n ssas) = either_way own (not (dedb.are_get_arguments def number ssas)) _ _ (same own)
      (either_way own (dedb.lacks_parent def number own g) _ _ (same own)
      (dedb_found (dedb.not_found def number g ssas) g hold (dedb.first_found (dedb.look_at def number db own g ssas)
      (dedb.anchors_searched def number (dedb.position_of def number own) g (dedb.root_named def number ssas)))))
  dedb_queues db (call.Fld n key fsas) = same own
  dedb_queues db (call.Isrt n ssas bytes) = either_way own (dedb.are_insert_arguments def number ssas) _ _
      (dedb_isrt (dedb.roots_seen def number db own (dedb.anchor_of_path def number
      (dedb.insert_path def number ssas bytes))) (dedb.type_of_last def number ssas)
      (dedb.insert_path def number ssas bytes) bytes) (same own)
  dedb_queues db (call.Repl n bytes) = dedb_repl db bytes (dedb.held_place def number own)
  dedb_queues db (call.Dlet n) = dedb_dlet db (dedb.held_place def number own)

target_queues : (target : Target) (now shown : Db) (own : Workspace) (c : Call)
    → QueuesOne own (reply_on target now shown own c)
target_queues (OnMsdb def number) now shown own c = msdb_queues def number own (msdb_at now number)
    (msdb_at shown number) c
target_queues (OnDedb def number) now shown own c = dedb_queues def number own now c
target_queues Nowhere now shown own c = same own

-- A call queues at most one more.
pub replies_queue : (defs : Defs) (now shown : Db) (own : Workspace) (c : Call)
    → length (reply_to defs now shown own c).own.deferred ≤ length own.deferred + 1
unfolding reply_to
replies_queue defs now shown own c = target_queues (target_of defs (database_of c)) now shown own c
