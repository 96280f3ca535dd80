-- A region's transaction ends.
use Rattle.std.proofs.Common.{◌≡◌, refl, sym, ◌∙◌, ap, subst, arith, ℕ, zero, suc, ◌-◌, ◌+◌, ◌<◌, ◌≤◌, List, [], ◌∷◌, ◌++◌, length, map, Option, None, Some, slice_get, slice_set, inl, inr, ◌⊎◌, Bool, true, unwrap_or}
use Rattle.std.specs.Prelude.{if◌then◌else◌}
use Rattle.std.proofs.lemmas.List.{drop-append-le, length-append, length-set}
use Rattle.std.specs.declared.collections.VecDeque.{VecDeque}
use Rattle.std.specs.VecDeque.{deque_capacity}
use Rattle.std.specs.declared.alloc.Global.{Global}
use Rattle.balancing.specs.Numbered.{Numbered}
use Rattle.ci_locks.specs.Standing.{Shows}
use Rattle.ci_locks.specs.Table.{Row, standing}
use Rattle.drain_laws.specs.Measure.{one_if_active}
use Rattle.fp_model.specs.declared.calls.Message.{Message}
use Rattle.fp_model.specs.declared.database.Db.{Db}
use Rattle.fp_model.specs.declared.definitions.Defs.{Defs}
use Rattle.fp_model.specs.declared.log.Entry.{Entry}
use Rattle.fp_model.specs.declared.log.Outcome.{Outcome}
use Rattle.fp_model.specs.declared.scripts.Script.{Script}
use Rattle.fp_model.specs.History.{History, states_of, with_entry}
use Rattle.fp_model.specs.Lasts.{Last, format_at, format_behind, last_by, last_in, lasts_of, uses_number}
use Rattle.fp_model.specs.Machine as machine
use Rattle.fp_model.specs.Machine.{Transaction, Machine, ended_with, entry_of, region_at}
use Rattle.fp_model.specs.Messages.{message_of, terminal_of}
use Rattle.fp_model.specs.ReplyLine.{addressee, line_for, verdict}
use Rattle.fp_model.specs.Serial.{refused_as}
use Rattle.fp_model.specs.Waiting.{Lock, without_region}
use Rattle.log_groups.specs.Log.{LogState}
use Rattle.serial_order.proofs.Lines.{lasts_push}
use Rattle.msdb_store.specs.Store.{IsOf, Stored}
use Rattle.fp_core.specs.declared.engine.Active.{Active}
use Rattle.fp_core.specs.declared.engine.Engine.{Engine}
use Rattle.fp_core.specs.declared.engine.Owed.{Owed}
use Rattle.fp_core.specs.declared.engine.Region.{Region}
use Rattle.fp_core.specs.declared.engine.Region.TheVariants as regions
use Rattle.fp_core.specs.inside.Acting.{IsAtWork, MayEnd}
use Rattle.fp_core.specs.Numbering.{last_told}
use Rattle.fp_core.specs.inside.Numbering.{with_used}
use Rattle.fp_core.specs.Relation.{IsMade, IsRead, IsReadIn, IsRegion, IsTransaction, StandsFor, first_place, owed_of, room_of}
use Rattle.sync_point.specs.Refusals.{bare_entry, refusal_room}
use Rattle.fp_core.proofs.Places.{each_has, left_of, put_both, get_last, sum_has, sum_put}
use Rattle.plain_laws.proofs.Alls.{all_set}
use Rattle.plain_laws.proofs.Places.{get_left}
use Rattle.std.proofs.lemmas.Option.{none-some, same_Some, slice_get_within}
use Rattle.plain_laws.proofs.Lists.{map_snoc}

-- ---- where the transaction is

-- The region's place, and what the code and the machine have there.
pub record Stands (engine : Engine) (m : Machine) (region : ℕ) (t : Transaction) : Type 0 where
  pub place : ℕ
  pub is : region ≡ suc place
  pub here : slice_get m.regions place ≡ Some (machine.Active t)
  pub active : Active
  pub there : slice_get engine.regions place ≡ Some (regions.Active active)
  pub transaction : IsTransaction engine.defs.now engine.scripts.now.scripts active t

pub stands_at : (engine : Engine) (m : Machine) (region : ℕ) (t : Transaction) → MayEnd engine m region t
    → Stands engine m region t
stands_at engine m zero t e = absurd (none-some (machine.Active t) e.active)
stands_at engine m (suc place) t e =
    let found = left_of (IsRegion engine.defs.now engine.scripts.now.scripts) engine.regions m.regions place
    (machine.Active t) e.stands.regions e.active in
    by found.left found.there found.is
  where
    by : (r : Region) → slice_get engine.regions place ≡ Some r
        → IsRegion engine.defs.now engine.scripts.now.scripts r (machine.Active t)
        → Stands engine m (suc place) t
    by regions.Idle there is = absurd is
    by (regions.Active active) there is =
        record { place = place; is = refl; here = e.active; active = active; there = there; transaction = is }

-- that is what the code has there, whatever it finds
pub region_is : (engine : Engine) (m : Machine) (region : ℕ) (t : Transaction) (r : Region) → MayEnd engine m region t
    → slice_get engine.regions (region - 1) ≡ Some r
    → IsRegion engine.defs.now engine.scripts.now.scripts r (machine.Active t)
region_is engine m zero t r e there = absurd (none-some (machine.Active t) e.active)
region_is engine m (suc place) t r e there =
    let same : suc place - 1 ≡ place = omega arith in
    let at : slice_get engine.regions place ≡ Some r = subst (λ n. slice_get engine.regions n ≡ Some r) same there in
    let found = left_of (IsRegion engine.defs.now engine.scripts.now.scripts) engine.regions m.regions place
    (machine.Active t) e.stands.regions e.active in
    subst (λ q. IsRegion engine.defs.now engine.scripts.now.scripts q (machine.Active t))
    (same_Some found.left r (sym found.there ∙ at)) found.is

-- it isn't idle,
pub not_idle : (engine : Engine) (m : Machine) (region : ℕ) (t : Transaction) → MayEnd engine m region t
    → slice_get engine.regions (region - 1) ≡ Some regions.Idle → ⊥
not_idle engine m region t e there = region_is engine m region t regions.Idle e there

-- its room is part of what is kept free, and so is a slot for what will be owed
pub room_within : (engine : Engine) (m : Machine) (region : ℕ) (t : Transaction) → MayEnd engine m region t
    → refusal_room t.message.line ≤ engine.room
room_within engine m region t e =
    let at = stands_at engine m region t e in
    omega (arith, sum_has room_of m.regions at.place (machine.Active t) at.here, e.stands.room)

pub slot_within : (engine : Engine) (m : Machine) (region : ℕ) (t : Transaction) → MayEnd engine m region t
    → length engine.owed.items < deque_capacity engine.owed
slot_within engine m region t e =
    let at = stands_at engine m region t e in
    omega (arith, sum_has one_if_active m.regions at.place (machine.Active t) at.here, e.stands.slots)

-- and a place for its number
pub place_within : (engine : Engine) (m : Machine) (region : ℕ) (t : Transaction) → MayEnd engine m region t
    → 1 ≤ engine.lasts.spare
place_within engine m region t e =
    let at = stands_at engine m region t e in
    let one : one_if_active (machine.Active t) ≡ 1 = refl in
    omega (arith, sum_has one_if_active m.regions at.place (machine.Active t) at.here, one, e.stands.places)

-- its message is what its line says
pub is_read : (engine : Engine) (m : Machine) (region : ℕ) (t : Transaction) → MayEnd engine m region t
    → IsRead engine.format t.message
is_read engine m region t e =
    let at = stands_at engine m region t e in
    each_has (IsReadIn engine.format) m.regions at.place (machine.Active t) e.stands.read at.here

-- the number that the entry of a message uses, as the message has it
pub used_is : (format : ℕ) (e : Entry) (message : Message) → IsRead format message → e.line ≡ message.line
    → uses_number e.outcome ≡ true → last_by format e ≡ last_told message e.outcome e.reply
used_is format e message read line uses =
    let text : List ℕ → List ℕ = λ l. unwrap_or (line_for (addressee (terminal_of l)) (verdict e.outcome e.reply)) [] in
    ap (λ (b : Bool). if b then last_in (text e.line) (message_of format e.line) else None) uses
    ∙ ap (λ (l : List ℕ). last_in (text l) (message_of format l)) line
    ∙ ap (last_in (text message.line)) read

-- So an entry of its line puts the number of its message in the place of the last one.
pub uses_last : (engine : Engine) (m : Machine) (region : ℕ) (t : Transaction) → MayEnd engine m region t
    → (e : Entry) (lasts more : List Last) → e.line ≡ t.message.line → uses_number e.outcome ≡ true
    → more ≡ with_used (last_told t.message e.outcome e.reply) lasts → more ≡ with_used (last_by engine.format e) lasts
uses_last engine m region t u e lasts more line uses is =
    is ∙ ap (λ (o : Option Last). with_used o lasts)
    (sym (used_is engine.format e t.message (is_read engine m region t u) line uses))

-- what a region at work is, it is also where its request is left out
pub may_end : (engine : Engine) (m : Machine) (region : ℕ) (t : Transaction) → IsAtWork engine m region t
    → MayEnd engine m region t
may_end engine m region t w = record { requests = m.requests; others = refl; stands = w.stands; active = w.active }

-- ---- one entry more

-- what the items of the entries from a place on make of their states
abbrev pub Made : Defs → ℕ → History → Type 0
Made defs first h =
    (place : ℕ) (before after : Db) (e : Entry)
    → first ≤ place
    → slice_get (states_of h) place ≡ Some before
    → slice_get h.entries place ≡ Some e
    → slice_get (states_of h) (suc place) ≡ Some after
    → IsMade defs before e after

pub made_more : (defs : Defs) (first : ℕ) (h : History) (e : Entry) (next : Db)
    → length h.past ≡ length h.entries → Made defs first h → IsMade defs h.now e next
    → Made defs first (with_entry e next h)
made_more defs first h e next even made new place before after x from was is next_is =
    let states : length (states_of h) ≡ length h.entries + 1 =
    length-append h.past (h.now ∷ []) ∙ (omega (arith, even)) in
    let within : place < length (h.entries ++ e ∷ []) = slice_get_within (h.entries ++ e ∷ []) place x is in
    let more : length (h.entries ++ e ∷ []) ≡ length h.entries + 1 = length-append h.entries (e ∷ []) in
    elim (split place (length h.entries) (omega (arith, within, more))) [
      | inl old ↦
          made place before after x from
          (sym (get_left (states_of h) (next ∷ []) place (omega (arith, old, states))) ∙ was)
          (sym (get_left h.entries (e ∷ []) place old) ∙ is)
          (sym (get_left (states_of h) (next ∷ []) (suc place) (omega (arith, old, states))) ∙ next_is)
      | inr last ↦
          let entry : x ≡ e = same_Some x e (sym is ∙ get_last h.entries e place last) in
          let first_state : before ≡ h.now = same_Some before h.now
          (sym was ∙ get_left (states_of h) (next ∷ []) place (omega (arith, last, states)) ∙ get_last h.past h.now
          place (omega (arith, last, even))) in
          let last_state : after ≡ next = same_Some after next
          (sym next_is ∙ get_last (states_of h) next (suc place) (omega (arith, last, states))) in
          subst (λ q. IsMade defs q x after) (sym first_state)
          (subst (λ q. IsMade defs h.now q after) (sym entry)
          (subst (λ q. IsMade defs h.now e q) (sym last_state) new))
    ]
  where
    split : (a b : ℕ) → a < b + 1 → (a < b) ⊎ (a ≡ b)
    split zero zero h = inr refl
    split zero (suc b) h = inl (omega arith)
    split (suc a) zero h = absurd (omega (arith, h))
    split (suc a) (suc b) h = elim (split a b (omega (arith, h)))
        [ inl less ↦ inl (omega (arith, less)) | inr same ↦ inr (omega (arith, same)) ]

-- the format stays where an entry doesn't change it
pub format_more : (format : ℕ) (entries : List Entry) (e : Entry) (now : ℕ) → format_at format entries ≡ now
    → format_behind now e.outcome ≡ now → format_at format (entries ++ e ∷ []) ≡ now
format_more format [] e now is still = ap (λ f. format_behind f e.outcome) is ∙ still
format_more format (x ∷ xs) e now is still = format_more (format_behind format x.outcome) xs e now is still

-- the numbers with that of one entry more
pub lasts_more : (format : ℕ) (entries : List Entry) (e : Entry) (now : ℕ) (lasts more : List Last)
    → format_at format entries ≡ now → lasts ≡ lasts_of format entries → more ≡ with_used (last_by now e) lasts
    → more ≡ lasts_of format (entries ++ e ∷ [])
lasts_more format entries e now lasts more at are is =
    is ∙ ap (λ (f : ℕ). with_used (last_by f e) lasts) (sym at)
    ∙ ap (with_used (last_by (format_at format entries) e)) are
    ∙ sym (lasts_push format entries e [])

module _ (engine : Engine) (m : Machine) (place : ℕ) (s : StandsFor engine m) where
  -- The region is idle, its locks and its request are gone, there is one entry more, and the databases are those of
  -- the next state.
  pub ended_stands : (t : Transaction) (e : Entry) (next : Db) (rows : List Row) (store : Stored) (log : LogState)
      → (owed : VecDeque Owed Global) (room : ℕ) (lasts : Numbered)
      → slice_get m.regions place ≡ Some (machine.Active t)
      → Shows (standing rows) (without_region (suc place) m.locks) (without_region (suc place) m.requests)
      → length rows ≡ length engine.locks
      → log.sealed ≡ engine.log.sealed
      → log.unsealed ≡ engine.log.unsealed ++ e ∷ []
      → owed.items ≡ engine.owed.items ++ owed_of e ∷ []
      → deque_capacity engine.owed ≤ deque_capacity owed
      → room + refusal_room t.message.line ≡ engine.room
      → room ≤ log.spare
      → IsOf engine.defs.now.msdbs store
      → next.msdbs ≡ store.msdbs
      → format_behind engine.format e.outcome ≡ engine.format
      → lasts.terminals ≡ with_used (last_by engine.format e) engine.lasts.terminals
      → engine.lasts.spare ≤ lasts.spare + 1
      → IsMade engine.defs.now m.history.now e next
      → StandsFor (record engine {
        regions = slice_set engine.regions place regions.Idle;
        locks = rows;
        store = store;
        log = log;
        owed = owed;
        room = room;
        lasts = lasts;
      }) (ended_with (suc place) e next m)
  ended_stands t e next rows store log owed room lasts there shows same_rows sealed unsealed is_owed slots less spare of
      msdbs format used numbers made =
      let one : length (m.history.entries ++ e ∷ []) ≡ length m.history.entries + 1 =
      length-append m.history.entries (e ∷ []) in
      let state : length (m.history.past ++ m.history.now ∷ []) ≡ length m.history.past + 1 =
      length-append m.history.past (m.history.now ∷ []) in
      let more : length (engine.log.unsealed ++ e ∷ []) ≡ length engine.log.unsealed + 1 =
      length-append engine.log.unsealed (e ∷ []) in
      let count : log.sealed + length log.unsealed ≡ length m.history.entries + 1 =
      rw (sealed, unsealed) (omega (arith, s.count, more)) in
      let before : m.sealed ≤ length m.history.entries = omega (arith, s.count, s.sealed) in
      record {
        setup = s.setup;
        held = s.held;
        held_short = s.held_short;
        queues = s.queues;
        groups = s.groups;
        takeable = s.takeable;
        busy = s.busy;
        regions = put_both (IsRegion engine.defs.now engine.scripts.now.scripts) engine.regions m.regions place
            regions.Idle machine.Idle s.regions tt;
        numbers = length-set m.regions place machine.Idle ∙ s.numbers;
        locks = shows;
        rows = same_rows ∙ s.rows ∙ sym (length-set engine.regions place regions.Idle);
        of = of;
        msdbs = msdbs;
        past = state ∙ (omega (arith, s.past)) ∙ sym one;
        format = format_more m.history.format m.history.entries e engine.format s.format format;
        read = all_set (IsReadIn engine.format) m.regions place machine.Idle s.read tt;
        lasts = lasts_more m.history.format m.history.entries e engine.format engine.lasts.terminals lasts.terminals
            s.format s.lasts used;
        places =
            let put = sum_put one_if_active m.regions place machine.Idle (machine.Active t) there in
            let one : one_if_active (machine.Active t) ≡ 1 = refl in
            let none : one_if_active machine.Idle ≡ 0 = refl in
            omega (arith, put, one, none, numbers, s.places);
        count = count ∙ sym one;
        sealed = sealed ∙ s.sealed;
        unsealed = unsealed ∙ ap (λ (xs : List Entry). xs ++ e ∷ []) s.unsealed ∙ sym
            (drop-append-le m.sealed m.history.entries (e ∷ []) before);
        owed = is_owed ∙ ap (λ xs. xs ++ owed_of e ∷ []) s.owed ∙ sym (map_snoc owed_of engine.log.unsealed e) ∙ ap
            (map owed_of) (sym unsealed);
        made = made_more engine.defs.now (first_place m) m.history e next s.past s.made made;
        room =
            let put = sum_put room_of m.regions place machine.Idle (machine.Active t) there in
            omega (arith, put, less, s.room);
        spare = spare;
        slots =
            let put = sum_put one_if_active m.regions place machine.Idle (machine.Active t) there in
            let grown : length owed.items ≡ length engine.owed.items + 1 =
            ap length is_owed ∙ length-append engine.owed.items (owed_of e ∷ []) in
            omega (arith, put, grown, slots, s.slots);
      }

-- The same at the region's number, from an engine that stands for the machine but for the region's request.
pub ended_at : (engine : Engine) (m : Machine) (region : ℕ) (t : Transaction) (e : Entry) (next : Db) (rows : List Row)
    (store : Stored) (log : LogState)
    → (owed : VecDeque Owed Global) (room : ℕ) (lasts : Numbered)
    → MayEnd engine m region t
    → ((locks requests : List Lock) → Shows (standing engine.locks) locks requests
    → Shows (standing rows) (without_region region locks) (without_region region requests))
    → length rows ≡ length engine.locks
    → log.sealed ≡ engine.log.sealed
    → log.unsealed ≡ engine.log.unsealed ++ e ∷ []
    → owed.items ≡ engine.owed.items ++ owed_of e ∷ []
    → deque_capacity engine.owed ≤ deque_capacity owed
    → room + refusal_room t.message.line ≡ engine.room
    → room ≤ log.spare
    → IsOf engine.defs.now.msdbs store
    → next.msdbs ≡ store.msdbs
    → format_behind engine.format e.outcome ≡ engine.format
    → lasts.terminals ≡ with_used (last_by engine.format e) engine.lasts.terminals
    → engine.lasts.spare ≤ lasts.spare + 1
    → IsMade engine.defs.now m.history.now e next
    → StandsFor (record engine {
      regions = slice_set engine.regions (region - 1) regions.Idle;
      locks = rows;
      store = store;
      log = log;
      owed = owed;
      room = room;
      lasts = lasts;
    }) (ended_with region e next m)
ended_at engine m zero t e next rows store log owed room lasts w frees same_rows sealed unsealed is_owed slots less
    spare of msdbs format used numbers made =
    absurd (none-some (machine.Active t) w.active)
ended_at engine m (suc place) t e next rows store log owed room lasts w frees same_rows sealed unsealed is_owed slots
    less spare of msdbs format used numbers made =
    let same : suc place - 1 ≡ place = omega arith in
    let m1 : Machine = record m { requests = w.requests } in
    let ended : StandsFor (record engine {
      regions = slice_set engine.regions place regions.Idle;
      locks = rows;
      store = store;
      log = log;
      owed = owed;
      room = room;
      lasts = lasts;
    }) (ended_with (suc place) e next m1) = ended_stands engine m1 place w.stands t e next rows store log owed room
    lasts
    w.active (frees m.locks w.requests w.stands.locks)
    same_rows sealed unsealed is_owed slots less spare of msdbs format used numbers made in
    let m2 : List Lock → Machine = λ requests. record (ended_with (suc place) e next m) { requests = requests } in
    subst (λ n. StandsFor (record engine {
      regions = slice_set engine.regions n regions.Idle;
      locks = rows;
      store = store;
      log = log;
      owed = owed;
      room = room;
      lasts = lasts;
    }) (ended_with (suc place) e next m)) (sym same)
    (subst (λ requests. StandsFor (record engine {
      regions = slice_set engine.regions place regions.Idle;
      locks = rows;
      store = store;
      log = log;
      owed = owed;
      room = room;
      lasts = lasts;
    }) (m2 requests)) w.others ended)

-- ---- refused for what befell

-- an entry without items makes nothing
pub makes_nothing : (defs : Defs) (now : Db) (from : ℕ) (o : Outcome) (line reply notes : List ℕ)
    → IsMade defs now (record { from = from; outcome = o; line = line; reply = reply; notes = notes; items = [] }) now
makes_nothing defs now from o line reply notes = record { fit = tt; made = refl }

-- its entry, of the code's transaction and of the machine's
pub bare_is : (defs : Defs) (scripts : List Script) (a : Active) (t : Transaction) (o : Outcome) (now : Db)
    → IsTransaction defs scripts a t
    → bare_entry a.from o a.message.line ≡ entry_of t (refused_as o now) [] []
bare_is defs scripts a t o now s =
    ap (λ n. bare_entry n o a.message.line) s.from ∙ ap (λ x. bare_entry t.from o x.line) s.message
