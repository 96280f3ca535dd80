-- What a call leaves to rely on is held Exclusive.
use Rattle.std.proofs.Common.{◌≡◌, ℕ, zero, suc, ◌+◌, ◌-◌, List, [], ◌∷◌, ◌++◌, map, length, Option, Some, None, refl, sym, ◌∙◌, ap, subst, Bool, true, false, not, ◌&&◌, if◌then◌else◌, arith, slice_get, slice_set}
use Rattle.std.specs.Prelude.{codes, is_some, filter, unwrap_or}
use Rattle.std.specs.List.{AllByRecursion, flat_map}
use Rattle.std.specs.Option.{option_map_or}
use Rattle.fp_model.specs.declared.definitions.Defs.{Defs}
use Rattle.fp_model.specs.declared.definitions.FieldDef.{FieldDef}
use Rattle.fp_model.specs.declared.definitions.MsdbDef.{MsdbDef}
use Rattle.fp_model.specs.declared.definitions.DedbDef.{DedbDef}
use Rattle.fp_model.specs.declared.database.Db.{Db}
use Rattle.fp_model.specs.declared.database.Msdb.{Msdb}
use Rattle.fp_model.specs.declared.database.Root.{Root}
use Rattle.fp_model.specs.declared.calls.AnchorChange.{AnchorChange}
use Rattle.fp_model.specs.declared.calls.Answer.{Answer}
use Rattle.fp_model.specs.declared.calls.Call.{Call}
use Rattle.fp_model.specs.declared.calls.Call.TheVariants as call
use Rattle.fp_model.specs.declared.calls.Deferred.{Deferred}
use Rattle.fp_model.specs.declared.calls.Deferred.TheVariants as deferred
use Rattle.fp_model.specs.declared.calls.Get.{Get}
use Rattle.fp_model.specs.declared.calls.Get.TheVariants as get
use Rattle.fp_model.specs.declared.calls.Mode.{Mode}
use Rattle.fp_model.specs.declared.calls.Mode.TheVariants.{Exclusive}
use Rattle.fp_model.specs.declared.calls.Resource.{Resource}
use Rattle.fp_model.specs.declared.calls.Resource.TheVariants.{Segment, Anchor}
use Rattle.fp_model.specs.declared.calls.SeqInsert.{SeqInsert}
use Rattle.fp_model.specs.declared.calls.Ssa.{Ssa}
use Rattle.fp_model.specs.Texts.{same_text}
use Rattle.fp_model.specs.State.{key_of, segment_of, segment_after}
use Rattle.fp_model.specs.Fsas.{fsas_in, list_on, all_blank}
use Rattle.fp_model.specs.Order.{Occurrence, Place, Step, Edit, Replaces, Deletes, Inserts, is_sequential, key_in, edited}
use Rattle.fp_model.specs.Workspace.{change_precedes, put_change, MsdbPosition, DedbPosition, no_msdb_position, Workspace, fresh}
use Rattle.fp_model.specs.Answers.{Replied, answered, lettered, blank, unless_held}
use Rattle.fp_model.specs.MsdbCalls as msdb
use Rattle.fp_model.specs.DedbCalls as dedb
use Rattle.fp_model.specs.Calls.{OnMsdb, OnDedb, Nowhere, database_of, dedb_target, msdb_at, reply_on, need_on, reply_to, need_of}
use Rattle.serial_order.specs.Laws.{IsExclusive, IsCovered}
use Rattle.serial_order.specs.ProductView.{fields_of, is_whole, is_call, is_whole_call, is_own, held_claim, held_claims, deferred_claim, change_claim, insert_claim, view_of}
use Rattle.serial_order.proofs.Replies.{key_held, unless_none, served_exclusive}
use Rattle.plain_laws.proofs.Alls.{all_append, found_passes, list_all_push}
use Rattle.std.proofs.lemmas.Option.{none-some, same_Some}
use Rattle.model_laws.proofs.Texts.{same_text_is}

-- ---- of each element

-- and of the first of two
pub all_front : {X : Type 0} (P : X → Type 0) (xs ys : List X) → AllByRecursion P (xs ++ ys) → AllByRecursion P xs
all_front P [] ys a = tt
all_front P (x ∷ xs) ys a = (a.0, all_front P xs ys a.1)

-- and of the second
pub all_back : {X : Type 0} (P : X → Type 0) (xs ys : List X) → AllByRecursion P (xs ++ ys) → AllByRecursion P ys
all_back P [] ys a = a
all_back P (x ∷ xs) ys a = all_back P xs ys a.1

-- with one more at the end
all_flat_push : {X Y : Type 0} (P : Y → Type 0) (f : X → List Y) (xs : List X) (x : X)
    → AllByRecursion P (flat_map f xs) → AllByRecursion P (f x) → AllByRecursion P (flat_map f (xs ++ x ∷ []))
all_flat_push P f [] x a b = all_append P (f x) [] b tt
all_flat_push P f (z ∷ zs) x a b = all_append P (f z) (flat_map f (zs ++ x ∷ [])) (all_front P (f z) (flat_map f zs) a)
    (all_flat_push P f zs x (all_back P (f z) (flat_map f zs) a) b)

all_map_push : {X Y : Type 0} (P : Y → Type 0) (f : X → Y) (xs : List X) (x : X) → AllByRecursion P (map f xs) → P (f x)
    → AllByRecursion P (map f (xs ++ x ∷ []))
all_map_push P f [] x a b = (b, tt)
all_map_push P f (z ∷ zs) x a b = (a.0, all_map_push P f zs x a.1 b)

-- fewer of them
all_map_filter : {X Y : Type 0} (P : Y → Type 0) (f : X → Y) (p : X → Bool) (xs : List X) → AllByRecursion P (map f xs)
    → AllByRecursion P (map f (filter p xs))
all_map_filter P f p [] a = a
all_map_filter P f p (z ∷ zs) a = either (p z) (all_map_filter P f p zs a.1)
  where
    either : (b : Bool) → AllByRecursion P (map f (filter p zs))
        → AllByRecursion P (map f (if b then z ∷ filter p zs else filter p zs))
    either true h = (a.0, h)
    either false h = h

-- with one more change, or one in place of that of its anchor
all_put : {Y : Type 0} (P : Y → Type 0) (f : AnchorChange → Y) (c : AnchorChange) (cs : List AnchorChange)
    → P (f c) → AllByRecursion P (map f cs) → AllByRecursion P (map f (put_change c cs))
all_put P f c [] new old = (new, tt)
all_put P f c (d ∷ others) new old = either (change_precedes c d) (change_precedes d c) (all_put P f c others new old.1)
  where
    either : (before behind : Bool) → AllByRecursion P (map f (put_change c others))
        → AllByRecursion P (map f (if before then c ∷ d ∷ others else
        (if behind then d ∷ put_change c others else c ∷ others)))
    either true behind put = (new, old)
    either false true put = (old.0, put)
    either false false put = (new, old.1)

-- ---- the parts of what is relied on

pub record Covers (defs : Defs) (own : Workspace) (held : Resource → Option Mode) : Type 0 where
  pub is_own : is_own defs own ≡ true
  pub positions : AllByRecursion (IsExclusive held) (held_claims defs 0 own.msdbs)
  pub deferred : AllByRecursion (IsExclusive held) (flat_map (deferred_claim defs) own.deferred)
  pub changes : AllByRecursion (IsExclusive held) (map (change_claim defs) own.changes)
  pub inserts : AllByRecursion (IsExclusive held) (map (insert_claim defs) own.inserts)

module _ (defs : Defs) (held : Resource → Option Mode) where
  pub parts : (own : Workspace) → IsCovered (view_of defs) own held → Covers defs own held
  parts own c =
      let P : Resource → Type 0 = IsExclusive held in
      let a : List Resource = held_claims defs 0 own.msdbs in
      let b : List Resource = flat_map (deferred_claim defs) own.deferred in
      let d : List Resource = map (change_claim defs) own.changes in
      let e : List Resource = map (insert_claim defs) own.inserts in
      let abd = all_front P (a ++ b ++ d) e c.holds in
      let ab = all_front P (a ++ b) d abd in
      record {
        is_own = c.is_own;
        positions = all_front P a b ab;
        deferred = all_back P a b ab;
        changes =
            all_back P (a ++ b) d abd;
        inserts = all_back P (a ++ b ++ d) e c.holds;
      }

  -- the parts together are what is relied on
  pub whole : (own : Workspace) → Covers defs own held → IsCovered (view_of defs) own held
  whole own c =
      let P : Resource → Type 0 = IsExclusive held in
      let a : List Resource = held_claims defs 0 own.msdbs in
      let b : List Resource = flat_map (deferred_claim defs) own.deferred in
      let d : List Resource = map (change_claim defs) own.changes in
      let e : List Resource = map (insert_claim defs) own.inserts in
      record {
        is_own = c.is_own;
        holds = all_append P (a ++ b ++ d) e
            (all_append P (a ++ b) d (all_append P a b c.positions c.deferred) c.changes) c.inserts;
      }

  -- ---- positions

  -- a position written, which relies on what is held
  claims_set : (ps : List MsdbPosition) (n i : ℕ) (p : MsdbPosition)
      → AllByRecursion (IsExclusive held) (held_claims defs n ps)
      → AllByRecursion (IsExclusive held) (held_claim defs (n + i) p)
      → AllByRecursion (IsExclusive held) (held_claims defs n (slice_set ps i p))
  claims_set [] n i p a b = a
  claims_set (q ∷ qs) n zero p a b =
      let here : n + 0 ≡ n = omega arith in
      all_append (IsExclusive held) (held_claim defs n p) (held_claims defs (n + 1) qs)
      (subst (λ (k : ℕ). AllByRecursion (IsExclusive held) (held_claim defs k p)) here b)
      (all_back (IsExclusive held) (held_claim defs n q) (held_claims defs (n + 1) qs) a)
  claims_set (q ∷ qs) n (suc i) p a b =
      let here : n + suc i ≡ n + 1 + i = omega arith in
      all_append (IsExclusive held) (held_claim defs n q) (held_claims defs (n + 1) (slice_set qs i p))
      (all_front (IsExclusive held) (held_claim defs n q) (held_claims defs (n + 1) qs) a)
      (claims_set qs (n + 1) i p (all_back (IsExclusive held) (held_claim defs n q) (held_claims defs (n + 1) qs) a)
      (subst (λ (k : ℕ). AllByRecursion (IsExclusive held) (held_claim defs k p)) here b))

  -- what the position at a place relies on
  claims_at : (ps : List MsdbPosition) (n i : ℕ) (p : MsdbPosition)
      → AllByRecursion (IsExclusive held) (held_claims defs n ps) → slice_get ps i ≡ Some p
      → AllByRecursion (IsExclusive held) (held_claim defs (n + i) p)
  claims_at [] n i p a e = absurd (none-some p e)
  claims_at (q ∷ qs) n zero p a e =
      let here : n ≡ n + 0 = omega arith in
      subst (λ (k : ℕ). AllByRecursion (IsExclusive held) (held_claim defs k p)) here
      (subst (λ (x : MsdbPosition). AllByRecursion (IsExclusive held) (held_claim defs n x)) (same_Some q p e)
      (all_front (IsExclusive held) (held_claim defs n q) (held_claims defs (n + 1) qs) a))
  claims_at (q ∷ qs) n (suc i) p a e =
      let here : n + 1 + i ≡ n + suc i = omega arith in
      subst (λ (k : ℕ). AllByRecursion (IsExclusive held) (held_claim defs k p)) here
      (claims_at qs (n + 1) i p (all_back (IsExclusive held) (held_claim defs n q) (held_claims defs (n + 1) qs) a)
      e)

  -- ---- main storage databases

  module _ (def : MsdbDef) (number : ℕ) (is : slice_get defs.msdbs number ≡ Some def) where
    fields_are : fields_of defs number ≡ def.fields
    fields_are = ap (λ (o : Option MsdbDef). option_map_or (λ (d : MsdbDef). d.fields) o []) is

    -- a new position
    position_covers : (own : Workspace) (p : MsdbPosition) → Covers defs own held
        → AllByRecursion (IsExclusive held) (held_claim defs number p)
        → Covers defs (msdb.with_position def number p own) held
    position_covers own p c h = record {
      is_own = c.is_own;
      positions = claims_set own.msdbs 0 number p c.positions
          (subst (λ (k : ℕ). AllByRecursion (IsExclusive held) (held_claim defs k p)) (omega arith) h);
      deferred = c.deferred;
      changes = c.changes;
      inserts = c.inserts;
    }

    -- the end of a hold
    unheld_covers : (own : Workspace) → Covers defs own held → Covers defs (msdb.hold_ended def number own) held
    unheld_covers own c = position_covers own (record (msdb.position_of def number own) { held = false }) c tt

    -- one more call in the queue
    queued_covers : (own : Workspace) (answer : Answer) (d : Deferred) → Covers defs own held
        → is_whole_call defs d ≡ true → AllByRecursion (IsExclusive held) (deferred_claim defs d)
        → Covers defs (msdb.queued def number own answer d).own held
    queued_covers own answer d c fair h =
        let u = unheld_covers own c in
        record {
          is_own = list_all_push (is_whole_call defs) own.deferred d c.is_own fair;
          positions = u.positions;
          deferred = all_flat_push (IsExclusive held) (deferred_claim defs) own.deferred d c.deferred h;
          changes = c.changes;
          inserts = c.inserts;
        }

    -- a choice of two answers
    either_covers : (b : Bool) (x y : Replied) → (b ≡ true → Covers defs x.own held)
        → (b ≡ false → Covers defs y.own held) → Covers defs (if b then x else y).own held
    either_covers true x y p q = p refl
    either_covers false x y p q = q refl

    -- a segment found without a hold
    shown_covers : (own : Workspace) (status : List ℕ) (o : Option (List ℕ)) → Covers defs own held
        → Covers defs (msdb.found_or def number status false own o).own held
    shown_covers own status None c = unheld_covers own c
    shown_covers own status (Some segment) c = position_covers own
        (record { key = Some (key_of def.fields segment); held = false }) c tt

    -- a segment found with one
    hold_covers : (own : Workspace) (status : List ℕ) (now : Msdb) (key : List ℕ) (o : Option (List ℕ))
        → segment_of def now key ≡ o → held (Segment number key) ≡ Some Exclusive → Covers defs own held
        → Covers defs (msdb.found_or def number status true own o).own held
    hold_covers own status now key None found h c = unheld_covers own c
    hold_covers own status now key (Some segment) found h c =
        let same : key_of def.fields segment ≡ key =
        same_text_is (key_of def.fields segment) key
        (found_passes (λ (s : List ℕ). same_text (key_of def.fields s) key) now.segments segment found) in
        position_covers own (record { key = Some (key_of def.fields segment); held = true }) c
        (subst (λ (k : List ℕ). IsExclusive held (Segment number k)) (sym same) h, tt)

    -- GU, GN and GHU
    get_covers : (own : Workspace) (now shown : Msdb) (g : Get) (hold : Bool) (key : Option (List ℕ))
        → option_map_or (unless_held held) (msdb.for_get def number g hold key) None ≡ None → Covers defs own held
        → Covers defs (msdb.get_reply def number now shown own g hold key).own held
    get_covers own now shown get.Unique false None need c =
        shown_covers own (codes "GE") (segment_after def shown None) c
    get_covers own now shown get.Unique false (Some key) need c =
        shown_covers own (codes "GE") (segment_of def shown key) c
    get_covers own now shown get.Unique true None need c = unheld_covers own c
    get_covers own now shown get.Unique true (Some key) need c =
        hold_covers own (codes "GE") now key (segment_of def now key) refl (key_held def number held own key need) c
    get_covers own now shown get.Next false key need c =
        shown_covers own (codes "GB") (segment_after def shown (msdb.position_of def number own).key) c
    get_covers own now shown get.Next true key need c = unheld_covers own c
    get_covers own now shown get.NextInParent hold key need c = unheld_covers own c

    -- FLD
    fld_covers : (own : Workspace) (key fsas : List ℕ) (o : Option (List ℕ)) → is_whole defs number key ≡ true
        → Covers defs own held → Covers defs (msdb.fld_reply def number own key fsas o).own held
    fld_covers own key fsas None fair c = unheld_covers own c
    fld_covers own key fsas (Some segment) fair c =
        let letters : List ℕ = (list_on def (fsas_in fsas) segment).letters in
        either_covers (all_blank letters) (msdb.queued def number own (lettered blank letters)
        (deferred.Fld number key fsas)) (record
        { answer = lettered (codes "FE") letters; own = msdb.hold_ended def number own })
        (λ e. queued_covers own (lettered blank letters) (deferred.Fld number key fsas) c fair tt)
        (λ e. unheld_covers own c)

    -- the key that is held is held Exclusive
    held_key_is : (own : Workspace) (key : List ℕ) → Covers defs own held → msdb.held_key def number own ≡ Some key
        → held (Segment number key) ≡ Some Exclusive
    held_key_is own key c e = at (slice_get own.msdbs number) refl e
      where
        claimed : (p : MsdbPosition) → (if p.held then p.key else None) ≡ Some key
            → AllByRecursion (IsExclusive held) (held_claim defs (0 + number) p)
            → held (Segment number key) ≡ Some Exclusive
        claimed p e h = by p.held p.key e h
          where
            by : (b : Bool) (o : Option (List ℕ)) → (if b then o else None) ≡ Some key
                → AllByRecursion (IsExclusive held)
                (if b then option_map_or (λ key. Segment (0 + number) key ∷ []) o [] else [])
                → held (Segment number key) ≡ Some Exclusive
            by false o e h = absurd (none-some key e)
            by true None e h = absurd (none-some key e)
            by true (Some k) e h = subst (λ (n : ℕ). held (Segment n key) ≡ Some Exclusive) (omega arith)
                (subst (λ (q : List ℕ). held (Segment (0 + number) q) ≡ Some Exclusive) (same_Some k key e) h.0)

        at : (o : Option MsdbPosition) → slice_get own.msdbs number ≡ o
            → (if (unwrap_or o no_msdb_position).held then (unwrap_or o no_msdb_position).key else None) ≡ Some key
            → held (Segment number key) ≡ Some Exclusive
        at None is e = absurd (none-some key e)
        at (Some p) is e = claimed p e (claims_at own.msdbs 0 number p c.positions is)

    -- a call to the segment that is held
    if_held_covers : (own : Workspace) (reply : List ℕ → Replied) (o : Option (List ℕ))
        → msdb.held_key def number own ≡ o → Covers defs own held
        → ((key : List ℕ) → held (Segment number key) ≡ Some Exclusive → Covers defs (reply key).own held)
        → Covers defs (msdb.if_held def number own reply o).own held
    if_held_covers own reply None is c h = unheld_covers own c
    if_held_covers own reply (Some key) is c h = h key (held_key_is own key c is)

    -- REPL of the key that is held
    repl_covers : (own : Workspace) (bytes key : List ℕ) → Covers defs own held
        → held (Segment number key) ≡ Some Exclusive → Covers defs (msdb.repl_reply def number own bytes key).own held
    repl_covers own bytes key c h =
        let answer : Replied = if same_text (key_of def.fields bytes) key then msdb.queued def number own
        (answered blank) (deferred.Repl number bytes) else msdb.refused def number own (codes "DA") in
        either_covers (msdb.is_put_or_dropped def number own key) (msdb.refused def number own (codes "XP")) answer
        (λ e. unheld_covers own c)
        (λ e. either_covers (same_text (key_of def.fields bytes) key)
        (msdb.queued def number own (answered blank) (deferred.Repl number bytes))
        (msdb.refused def number own (codes "DA"))
        (λ same.
        let claim : key_of (fields_of defs number) bytes ≡ key =
        ap (λ (fields : List FieldDef). key_of fields bytes) fields_are ∙ same_text_is (key_of def.fields bytes) key
        same in
        queued_covers own (answered blank) (deferred.Repl number bytes) c refl
        (subst (λ (k : List ℕ). held (Segment number k) ≡ Some Exclusive) (sym claim) h, tt))
        (λ other. unheld_covers own c))

    -- DLET of the key that is held
    dlet_covers : (own : Workspace) (key : List ℕ) → Covers defs own held → held (Segment number key) ≡ Some Exclusive
        → Covers defs (msdb.dlet_reply def number own key).own held
    dlet_covers own key c h = either_covers (msdb.is_put_or_dropped def number own key)
        (msdb.refused def number own (codes "XP")) (msdb.queued def number own (answered blank)
        (deferred.Dlet number key))
        (λ e. unheld_covers own c) (λ e. queued_covers own (answered blank) (deferred.Dlet number key) c refl (h, tt))

    -- ISRT of a key whose lock is held
    isrt_covers : (own : Workspace) (bytes : List ℕ) (dynamic put found : Bool) → Covers defs own held
        → option_map_or (unless_held held) (if dynamic && not put then msdb.exclusively def number
        (key_of def.fields bytes) else None) None ≡ None
        → Covers defs (if not dynamic then msdb.refused def number own (codes "AM") else if put then msdb.refused def
        number own (codes "XP") else if found then msdb.refused def number own (codes "II") else msdb.queued def
        number own (answered blank) (deferred.Isrt number bytes)).own held
    isrt_covers own bytes false put found c need = unheld_covers own c
    isrt_covers own bytes true true found c need = unheld_covers own c
    isrt_covers own bytes true false true c need = unheld_covers own c
    isrt_covers own bytes true false false c need =
        let h = key_held def number held own (key_of def.fields bytes) need in
        queued_covers own (answered blank) (deferred.Isrt number bytes) c refl (
          subst (λ (fields : List FieldDef). held (Segment number (key_of fields bytes)) ≡ Some Exclusive)
              (sym fields_are) h,
          tt,
        )

    -- any call to a main storage database
    pub msdb_covers : (own : Workspace) (now shown : Msdb) (c : Call) → database_of c ≡ number → is_call defs c ≡ true
        → option_map_or (unless_held held) (msdb.msdb_need def number own c) None ≡ None → Covers defs own held
        → Covers defs (msdb.msdb_reply def number now shown own c).own held
    msdb_covers own now shown (call.Get g hold n ssas) at fair need c =
        get_covers own now shown g hold (msdb.key_named ssas) need c
    msdb_covers own now shown (call.Fld n key fsas) at fair need c =
        either_covers (msdb.is_put_or_dropped def number own key) (msdb.refused def number own (codes "XP"))
        (msdb.fld_reply def number own key fsas (segment_of def shown key))
        (λ e. unheld_covers own c) (λ e. fld_covers own key fsas (segment_of def shown key)
        (subst (λ (k : ℕ). is_whole defs k key ≡ true) at fair) c)
    msdb_covers own now shown (call.Repl n bytes) at fair need c =
        if_held_covers own (msdb.repl_reply def number own bytes) (msdb.held_key def number own) refl c
        (λ key h. repl_covers own bytes key c h)
    msdb_covers own now shown (call.Isrt n ssas bytes) at fair need c =
        isrt_covers own bytes def.dynamic (msdb.is_put_or_dropped def number own (key_of def.fields bytes))
        (is_some (segment_of def now (key_of def.fields bytes))) c need
    msdb_covers own now shown (call.Dlet n) at fair need c =
        either_covers (not def.dynamic) (msdb.refused def number own (codes "AM"))
        (msdb.if_held def number own (msdb.dlet_reply def number own) (msdb.held_key def number own))
        (λ e. unheld_covers own c) (λ e. if_held_covers own (msdb.dlet_reply def number own)
        (msdb.held_key def number own) refl c (λ key h. dlet_covers own key c h))

  -- ---- data entry databases

  module _ (def : DedbDef) (number : ℕ) (own : Workspace) (c : Covers defs own held) where
    -- positions in a data entry database are relied on for nothing
    placed : (p : DedbPosition) (o : Workspace) → Covers defs o held
        → Covers defs (dedb.with_position def number p o) held
    placed p o k = record {
      is_own = k.is_own;
      positions = k.positions;
      deferred = k.deferred;
      changes =
          k.changes;
      inserts = k.inserts;
    }

    -- a call that is refused
    refused_covers : Covers defs (dedb.hold_ended def number own) held
    refused_covers = placed (record (dedb.position_of def number own) { held = false }) own c

    -- a choice of two answers
    either_dedb : (b : Bool) (x y : Replied) → (b ≡ true → Covers defs x.own held)
        → (b ≡ false → Covers defs y.own held) → Covers defs (if b then x else y).own held
    either_dedb true x y p q = p refl
    either_dedb false x y p q = q refl

    -- a get
    found_covers : (status : List ℕ) (g : Get) (hold : Bool) (o : Option (ℕ × Occurrence))
        → Covers defs (dedb.found_or def number status g hold own o).own held
    found_covers status g hold None = refused_covers
    found_covers status g hold (Some found) = placed _ own c

    -- other roots at an anchor that is held
    changed_covers : (o : Workspace) (anchor : ℕ) (roots : List Root) → Covers defs o held
        → held (Anchor number anchor) ≡ Some Exclusive → Covers defs (dedb.with_change def number anchor roots o) held
    changed_covers o anchor roots k h = record {
      is_own = k.is_own;
      positions = k.positions;
      deferred = k.deferred;
      changes = all_put (IsExclusive held) (change_claim defs) (dedb.change_at def number anchor roots) o.changes h
          k.changes;
      inserts = k.inserts;
    }

    -- an anchor whose lock isn't needed any more
    anchor_held : (anchor : ℕ) → dedb.unless_locked def number held Exclusive anchor ≡ None
        → held (Anchor number anchor) ≡ Some Exclusive
    anchor_held anchor e = served_exclusive (held (Anchor number anchor))
        (unless_none held (record { resource = Anchor number anchor; mode = Exclusive }) e)

    -- an insert at an anchor that is held
    isrt_at_covers : (roots : List Root) (type : ℕ) (path : List Step) (bytes : List ℕ)
        → held (Anchor number (dedb.anchor_of_path def number path)) ≡ Some Exclusive
        → Covers defs (dedb.isrt_at def number roots own type path bytes).own held
    isrt_at_covers roots type path bytes h =
        let last : Replied = if dedb.stands_at def number roots path then dedb.refused def number own (codes "II") else
        dedb.inserted def number roots own path bytes in
        let put : Replied = record {
          answer = answered blank;
          own = record (dedb.hold_ended def number own) {
            inserts =
                own.inserts ++ dedb.seq_insert def number path bytes ∷ [];
          };
        } in
        let sequential : Replied = if is_sequential def.segments type then put else last in
        either_dedb (not (dedb.stands_at def number roots (dedb.parents_in path)))
        (dedb.refused def number own (codes "GE")) sequential
        (λ e. refused_covers)
        (λ e. either_dedb (is_sequential def.segments type) put last
        (λ f. record {
          is_own = c.is_own;
          positions = c.positions;
          deferred = c.deferred;
          changes = c.changes;
          inserts =
              all_map_push (IsExclusive held) (insert_claim defs) own.inserts (dedb.seq_insert def number path bytes)
              c.inserts h;
        })
        (λ f. either_dedb (dedb.stands_at def number roots path) (dedb.refused def number own (codes "II"))
        (dedb.inserted def number roots own path bytes)
        (λ k. refused_covers)
        (λ k. placed _ (dedb.with_change def number (dedb.anchor_of_path def number path)
        (edited def.segments roots path (Inserts bytes)) own)
        (changed_covers own (dedb.anchor_of_path def number path) (edited def.segments roots path (Inserts bytes)) c
        h))))

    -- ISRT
    insert_covers : (fair : Bool) (db : Db) (ssas : List Ssa) (bytes : List ℕ)
        → (if fair then dedb.unless_locked def number held Exclusive
        (dedb.anchor_of_path def number (dedb.insert_path def number ssas bytes)) else None) ≡ None
        → Covers defs (if fair then dedb.isrt_at def number
        (dedb.roots_seen def number db own (dedb.anchor_of_path def number
        (dedb.insert_path def number ssas bytes))) own (dedb.type_of_last def number ssas)
        (dedb.insert_path def number ssas bytes) bytes else dedb.refused def number own (codes "AM")).own held
    insert_covers false db ssas bytes need = refused_covers
    insert_covers true db ssas bytes need = isrt_at_covers
        (dedb.roots_seen def number db own (dedb.anchor_of_path def number (dedb.insert_path def number ssas bytes)))
        (dedb.type_of_last def number ssas) (dedb.insert_path def number ssas bytes) bytes (anchor_held _ need)

    -- a change at the place that is held
    edit_covers : (db : Db) (place : Place) (edit : Edit)
        → dedb.unless_locked def number held Exclusive place.anchor ≡ None
        → Covers defs (dedb.edit_at def number db own place edit) held
    edit_covers db place edit need = changed_covers (dedb.hold_ended def number own) place.anchor
        (edited def.segments (dedb.roots_seen def number db own place.anchor) place.path edit) refused_covers
        (anchor_held place.anchor need)

    -- REPL
    repl_dedb_covers : (db : Db) (bytes : List ℕ) (o : Option Place) → dedb.held_need def number held o ≡ None
        → Covers defs (dedb.repl_reply def number db own bytes o).own held
    repl_dedb_covers db bytes None need = refused_covers
    repl_dedb_covers db bytes (Some place) need =
        let type : ℕ = dedb.type_of_path def number place.path in
        let done : Replied = record {
          answer = answered blank;
          own =
              dedb.edit_at def number db own place (Replaces bytes);
        } in
        let last : Replied = if same_text (key_in def.segments type bytes) (dedb.key_of_path def number place.path) then
        done else dedb.refused def number own (codes "DA") in
        either_dedb (is_sequential def.segments type) (dedb.refused def number own (codes "AM")) last
        (λ e. refused_covers)
        (λ e. either_dedb (same_text (key_in def.segments type bytes) (dedb.key_of_path def number place.path)) done
        (dedb.refused def number own (codes "DA"))
        (λ f. edit_covers db place (Replaces bytes) need) (λ f. refused_covers))

    -- DLET
    dlet_dedb_covers : (db : Db) (o : Option Place) → dedb.held_need def number held o ≡ None
        → Covers defs (dedb.dlet_reply def number db own o).own held
    dlet_dedb_covers db None need = refused_covers
    dlet_dedb_covers db (Some place) need =
        let k = edit_covers db place Deletes need in
        let after : Workspace = dedb.edit_at def number db own place Deletes in
        let left : Covers defs (record after {
          inserts =
              filter (λ (i : SeqInsert). not (dedb.goes_with def number place i)) own.inserts;
        }) held = record {
          is_own = k.is_own;
          positions = k.positions;
          deferred = k.deferred;
          changes = k.changes;
          inserts = all_map_filter (IsExclusive held) (insert_claim defs)
              (λ (i : SeqInsert). not (dedb.goes_with def number place i)) own.inserts c.inserts;
        } in
        either_dedb (is_sequential def.segments (dedb.type_of_path def number place.path))
        (dedb.refused def number own (codes "AM"))
        (record { answer = answered blank; own = dedb.deleted def number db own place })
        (λ e. refused_covers)
        (λ e. placed (record (dedb.position_of def number after) { parent = None })
        (record after { inserts = filter (λ (i : SeqInsert). not (dedb.goes_with def number place i)) own.inserts })
        left)

    -- GU, GN and GNP
    get_dedb_covers : (db : Db) (g : Get) (hold : Bool) (ssas : List Ssa)
        → Covers defs (dedb.get_reply def number db own g hold ssas).own held
    get_dedb_covers db g hold ssas =
        let found : Replied = dedb.found_or def number (dedb.not_found def number g ssas) g hold own
        (dedb.first_found (dedb.look_at def number db own g ssas)
        (dedb.anchors_searched def number (dedb.position_of def number own) g (dedb.root_named def number ssas))) in
        let last : Replied = if dedb.lacks_parent def number own g then dedb.refused def number own (codes "GP") else
        found in
        either_dedb (not (dedb.are_get_arguments def number ssas)) (dedb.refused def number own (codes "AM")) last
        (λ e. refused_covers)
        (λ e. either_dedb (dedb.lacks_parent def number own g) (dedb.refused def number own (codes "GP")) found
        (λ f. refused_covers) (λ f. found_covers (dedb.not_found def number g ssas) g hold _))

    -- any call to a data entry database
    pub dedb_covers : (db : Db) (asked : Call) → dedb.dedb_need def number db own held asked ≡ None
        → Covers defs (dedb.dedb_reply def number db own asked).own held
    dedb_covers db (call.Get g hold n ssas) need = get_dedb_covers db g hold ssas
    dedb_covers db (call.Fld n key fsas) need = refused_covers
    dedb_covers db (call.Isrt n ssas bytes) need = insert_covers (dedb.are_insert_arguments def number ssas) db ssas
        bytes need
    dedb_covers db (call.Repl n bytes) need = repl_dedb_covers db bytes (dedb.held_place def number own) need
    dedb_covers db (call.Dlet n) need = dlet_dedb_covers db (dedb.held_place def number own) need

  -- ---- all calls

  module _ (db shown : Db) (own : Workspace) (asked : Call) (c : Covers defs own held) where
    -- a call to a data entry database, if there is one
    dedb_target_covers : (number : ℕ) (o : Option DedbDef)
        → need_on (option_map_or (λ def. OnDedb def number) o Nowhere) db own held asked ≡ None
        → Covers defs (reply_on (option_map_or (λ def. OnDedb def number) o Nowhere) db shown own asked).own held
    dedb_target_covers number None need = c
    dedb_target_covers number (Some def) need = dedb_covers def number own c db asked need

    -- main storage databases are looked for first
    target_covers : (number dedb_number : ℕ) (o : Option MsdbDef) → slice_get defs.msdbs number ≡ o
        → database_of asked ≡ number → is_call defs asked ≡ true
        → need_on (option_map_or (λ def. OnMsdb def number) o (dedb_target defs dedb_number)) db own held asked ≡ None
        → Covers defs (reply_on (option_map_or (λ def. OnMsdb def number) o (dedb_target defs dedb_number)) db shown own
        asked).own held
    target_covers number dedb_number None is at fair need =
        dedb_target_covers dedb_number (slice_get defs.dedbs dedb_number) need
    target_covers number dedb_number (Some def) is at fair need =
        msdb_covers def number is own (msdb_at db number) (msdb_at shown number) asked at fair need c

    -- What a call leaves to rely on is held Exclusive.
    replies_cover : is_call defs asked ≡ true → need_of defs db own held asked ≡ None
        → Covers defs (reply_to defs db shown own asked).own held
    unfolding need_of reply_to
    replies_cover fair need = target_covers (database_of asked) (database_of asked - length defs.msdbs)
        (slice_get defs.msdbs (database_of asked)) refl refl fair need

  -- What a call leaves to rely on is held Exclusive.
  pub replies_covered : (db shown : Db) (own : Workspace) (asked : Call) → is_call defs asked ≡ true
      → need_of defs db own held asked ≡ None → IsCovered (view_of defs) own held
      → IsCovered (view_of defs) (reply_to defs db shown own asked).own held
  replies_covered db shown own asked fair need c = whole (reply_to defs db shown own asked).own
      (replies_cover db shown own asked (parts own c) fair need)

  -- a transaction begins with nothing
  none_held : {X : Type 0} (xs : List X) (n : ℕ) → AllByRecursion (IsExclusive held)
      (held_claims defs n (map (λ x. no_msdb_position) xs))
  none_held [] n = tt
  none_held (x ∷ xs) n = none_held xs (n + 1)

  pub fresh_covered : IsCovered (view_of defs) (fresh defs) held
  fresh_covered = whole (fresh defs) (record {
    is_own = refl;
    positions = none_held defs.msdbs 0;
    deferred =
        tt;
    changes = tt;
    inserts = tt;
  })
