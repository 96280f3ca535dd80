-- Each turn keeps that nothing waits for what can't come.
use Rattle.std.proofs.Common.{◌≡◌, ℕ, zero, suc, ◌+◌, ◌-◌, ◌<◌, ◌≤◌, List, [], ◌∷◌, ◌++◌, length, Option, Some, None, ◌⊎◌, inl, inr, refl, sym, ◌∙◌, ap, subst, Bool, true, false, not, arith, if◌then◌else◌, slice_get, slice_set, length-append}
use Rattle.std.specs.Prelude.{unwrap_or, drop, nat_lt, sum_by}
use Rattle.std.specs.List.{Contains, list_any}
use Rattle.std.specs.Option.{option_map_or}
use Rattle.std.proofs.lemmas.Bool.{cases_eq, cases_Bool}
use Rattle.std.proofs.lemmas.List.{length-set, length-replicate, length-map}
use Rattle.std.proofs.lemmas.List.Elements.{Contains-append_left, Contains-append_right, Contains-append_cases}
use Rattle.std.proofs.lemmas.List.Sums.{sum_by-cons, sum_by_push}
use Rattle.fp_model.specs.declared.database.Db.{Db}
use Rattle.fp_model.specs.declared.calls.Call.{Call}
use Rattle.fp_model.specs.declared.calls.Message.{Message}
use Rattle.fp_model.specs.declared.events.Event.{Event}
use Rattle.fp_model.specs.declared.events.Event.TheVariants as event
use Rattle.fp_model.specs.declared.log.Entry.{Entry}
use Rattle.fp_model.specs.declared.log.Outcome.{Outcome}
use Rattle.fp_model.specs.declared.log.Outcome.TheVariants as outcome
use Rattle.fp_model.specs.declared.name.Name.{Name}
use Rattle.fp_model.specs.Answers.{Replied}
use Rattle.fp_model.specs.History.{History, Request, Accepts, Refuses, place_of}
use Rattle.fp_model.specs.Rules.{Rules}
use Rattle.fp_model.specs.Waiting.{Lock, without_region}
use Rattle.fp_model.specs.Machine.{Transaction, Region, Idle, Active, Machine, at_rest, region_at, with_region, with_entry_of, ended_with, entry_here, is_among, terminal_in, next_line, without_line, queued_at, with_message, with_refusal, with_request_of, with_line, taken_in, told, next_group, with_group, sealed_once, sealed_times}
use Rattle.fp_model.specs.Turns.{Environment, NoFault, DeviceFault, OutOfMemory, Act, Answers, Gains, Waits, Deadlocks, Retries_at_cycle, Finishes, Retries_at_verify, with_answer, begun_in, tried_again, Does, queue_of_region, begins_in, RegionTurn, is_area_held, PurgeTurn, Turn}
use Rattle.serial_order.specs.Laws.{View, Laws}
use Rattle.serial_order.specs.Kept.{line_count, queued_count, count}
use Rattle.serial_order.proofs.Lists.{true_is_not_false, put_cases, contains_in_filter, mapped_to}
use Rattle.serial_order.proofs.Terminals.{contained, among, sum_put, counts_one, counts_none, region_put, unsealed_more, seals}
use Rattle.drain_laws.specs.Measure.{Gauge}
use Rattle.drain_laws.specs.Live.{EndLaws, IsAtWork, IsLive}
use Rattle.plain_laws.proofs.Alls.{contains_cases, contains_nothing}
use Rattle.plain_laws.proofs.Places.{get_there as get_within, set_here}
use Rattle.serial_order.proofs.Kept.{is_transaction}
use Rattle.std.proofs.lemmas.Option.{none-some}
use Rattle.serial_order.proofs.Waits.{others_only}

-- ---- lists

-- and at others
pub get_there : {X : Type 0} (xs : List X) (i j : ℕ) (x y : X) → ¬ (j ≡ i) → slice_get xs j ≡ Some x
    → slice_get (slice_set xs i y) j ≡ Some x
get_there [] i j x y ne is = absurd (none-some x is)
get_there (z ∷ zs) zero zero x y ne is = absurd (ne refl)
get_there (z ∷ zs) zero (suc j) x y ne is = is
get_there (z ∷ zs) (suc i) zero x y ne is = is
get_there (z ∷ zs) (suc i) (suc j) x y ne is = get_there zs i j x y (λ e. ne (ap (λ (k : ℕ). suc k) e)) is

-- a name of joined lists
pub among_either : (a b : List Name) (name : Name) → is_among (a ++ b) name ≡ true
    → (is_among a name ≡ true) ⊎ (is_among b name ≡ true)
among_either a b name e = elim (Contains-append_cases a b name (contained (a ++ b) name e)) [
  | inl first ↦ inl (among a name first)
  | inr second ↦ inr (among b name second)
]

pub among_left : (a b : List Name) (name : Name) → is_among a name ≡ true → is_among (a ++ b) name ≡ true
among_left a b name e = among (a ++ b) name (Contains-append_left a b name (contained a name e))

pub among_right : (a b : List Name) (name : Name) → is_among b name ≡ true → is_among (a ++ b) name ≡ true
among_right a b name e = among (a ++ b) name (Contains-append_right a b name (contained b name e))

-- ---- regions in another machine

-- a region that stands alike
pub same_region : (m m2 : Machine) (region : ℕ) (r : Region) → m2.regions ≡ m.regions → region_at m region ≡ Some r
    → region_at m2 region ≡ Some r
same_region m m2 zero r e is = is
same_region m m2 (suc place) r e is = ap (λ (rs : List Region). slice_get rs place) e ∙ is

-- another with another
pub other_region : (m m2 : Machine) (place region : ℕ) (r : Region) (t : Transaction)
    → m2.regions ≡ slice_set m.regions place r
    → ¬ (region ≡ suc place)
    → region_at m region ≡ Some (Active t)
    → region_at m2 region ≡ Some (Active t)
other_region m m2 place zero r t put ne is = absurd (none-some (Active t) is)
other_region m m2 place (suc q) r t put ne is =
    ap (λ (rs : List Region). slice_get rs q) put
    ∙ get_there m.regions place q (Active t) r (λ e. ne (ap (λ (k : ℕ). suc k) e)) is

-- who is at work afterwards is that region with its new transaction, or another with its old one
pub at_work : (m m2 : Machine) (place region : ℕ) (r : Region) (u : Transaction)
    → m2.regions ≡ slice_set m.regions place r
    → region_at m2 region ≡ Some (Active u)
    → (r ≡ Active u) ⊎ (region_at m region ≡ Some (Active u))
at_work m m2 place zero r u put is = absurd (none-some (Active u) is)
at_work m m2 place (suc q) r u put is =
    elim (put_cases m.regions place q r (Active u) (ap (λ (rs : List Region). slice_get rs q) (sym put) ∙ is)) [
      | inl w ↦ inl (sym w.1)
      | inr w ↦ inr w.1
    ]

pub idle_is_not : (t : Transaction) → ¬ (Idle ≡ Active t)
idle_is_not t e = cc

module _ (rules : Rules) (gauge : Gauge) where
  -- each busy terminal has something that will be answered
  abbrev IsAwaited : Machine → Type 0
  IsAwaited m = (name : Name) → is_among m.busy name ≡ true → 0 < count rules name m

  -- a machine with the same regions and queues
  pub frame : (m m2 : Machine) → m2.regions ≡ m.regions → length m2.queues ≡ length m.queues
      → ((lock : Lock) → Contains m2.locks lock → IsAtWork m lock.region)
      → IsAwaited m2
      → IsLive rules gauge m → IsLive rules gauge m2
  frame m m2 regions queues holders waits s = record {
    regions = ap (λ (rs : List Region). length rs) regions ∙ s.regions;
    queues = queues ∙ s.queues;
    holders = λ lock c. (let a = holders lock c in
        record { t = a.t; stands = same_region m m2 lock.region (Active a.t) regions a.stands });
    waits = waits;
    few = λ region t is. s.few region t (same_region m2 m region (Active t) (sym regions) is);
  }

  -- a region changed
  put : (m m2 : Machine) (place : ℕ) (r : Region) → m2.regions ≡ slice_set m.regions place r
      → length m2.queues ≡ length m.queues
      → ((lock : Lock) → Contains m2.locks lock → IsAtWork m2 lock.region)
      → IsAwaited m2
      → ((u : Transaction) → r ≡ Active u → gauge.queued u.point.own ≤ length u.point.answers)
      → IsLive rules gauge m → IsLive rules gauge m2
  put m m2 place r regions queues holders waits few s = record {
    regions = ap (λ (rs : List Region). length rs) regions ∙ length-set m.regions place r ∙ s.regions;
    queues = queues ∙ s.queues;
    holders = holders;
    waits = waits;
    few = λ region u is. elim (at_work m m2 place region r u regions is) [
      | inl new ↦ few u new
      | inr old ↦ s.few region u old
    ];
  }

  -- a region at work, with locks that are its own or were there
  put_active : (m m2 : Machine) (place : ℕ) (old : Region) (u : Transaction) → slice_get m.regions place ≡ Some old
      → m2.regions ≡ slice_set m.regions place (Active u)
      → length m2.queues ≡ length m.queues
      → ((lock : Lock) → Contains m2.locks lock → (lock.region ≡ suc place) ⊎ Contains m.locks lock)
      → IsAwaited m2
      → gauge.queued u.point.own ≤ length u.point.answers
      → IsLive rules gauge m → IsLive rules gauge m2
  put_active m m2 place old u is regions queues own waits few s =
      put m m2 place (Active u) regions queues holders waits
      (λ v same. subst (λ (w : Transaction). gauge.queued w.point.own ≤ length w.point.answers)
      (is_transaction u v same) few) s
    where
      here : region_at m2 (suc place) ≡ Some (Active u)
      here = ap (λ (rs : List Region). slice_get rs place) regions ∙ set_here m.regions place old (Active u) is

      mine : (region : ℕ) → region ≡ suc place → IsAtWork m2 region
      mine region same =
          record { t = u; stands = subst (λ (n : ℕ). region_at m2 n ≡ Some (Active u)) (sym same) here }

      holders : (lock : Lock) → Contains m2.locks lock → IsAtWork m2 lock.region
      holders lock c = elim (cases_eq lock.region (suc place)) [
        | inl same ↦ mine lock.region same
        | inr ne ↦ elim (own lock c) [
          | inl same ↦ mine lock.region same
          | inr there ↦ (let a = s.holders lock there in
              record { t = a.t; stands = other_region m m2 place lock.region (Active u) a.t regions ne a.stands })
        ]
      ]

  -- ---- transactions

  -- a transaction ends, with an entry of its line
  ends : (m : Machine) (place : ℕ) (t : Transaction) (e : Entry) (next : Db)
      → slice_get m.regions place ≡ Some (Active t)
      → e.line ≡ t.message.line
      → m.sealed ≤ place_of m.history
      → IsLive rules gauge m → IsLive rules gauge (ended_with (suc place) e next m)
  ends m place t e next is same sealed s =
      let m2 : Machine = ended_with (suc place) e next m in
      put m m2 place Idle refl refl
      (λ lock c. (let kept = others_only (suc place) m.locks lock c in let a = s.holders lock kept.0 in
      record { t = a.t; stands = other_region m m2 place lock.region Idle a.t refl kept.1 a.stands }))
      (λ name busy. (let line : line_count rules name e.line
      ≡ line_count rules name t.message.line = ap (line_count rules name) same in
      omega (
        arith,
        line,
        region_put rules name m place (Active t) Idle is,
        unsealed_more rules name m e sealed,
        s.waits name busy,
      )))
      (λ u new. absurd (idle_is_not u new)) s

  -- it goes on
  answers : (m : Machine) (place : ℕ) (t : Transaction) (call : Call)
      → slice_get m.regions place ≡ Some (Active t)
      → gauge.queued (with_answer rules m t call).point.own ≤ length (with_answer rules m t call).point.answers
      → IsLive rules gauge m → IsLive rules gauge (with_region (suc place) (Active (with_answer rules m t call)) m)
  answers m place t call is few s =
      let u : Transaction = with_answer rules m t call in
      put_active m (with_region (suc place) (Active u) m) place (Active t) u is refl refl (λ lock c. inr c)
      (λ name busy. omega (arith, region_put rules name m place (Active t) (Active u) is, s.waits name busy)) few s

  -- it begins again
  retries : (m : Machine) (place : ℕ) (t : Transaction)
      → slice_get m.regions place ≡ Some (Active t)
      → gauge.queued rules.fresh ≡ 0
      → IsLive rules gauge m → IsLive rules gauge (tried_again rules (suc place) t m)
  retries m place t is none s =
      let u : Transaction = begun_in rules m t.message (t.tries + 1) in
      put_active m (tried_again rules (suc place) t m) place (Active t) u is refl refl
      (λ lock c. inr (others_only (suc place) m.locks lock c).0)
      (λ name busy. omega (arith, region_put rules name m place (Active t) (Active u) is, s.waits name busy))
      (omega (arith, none)) s

  -- a region begins with the oldest message of a queue
  begins : (m : Machine) (place queue : ℕ) (message : Message) (messages : List Message)
      → slice_get m.regions place ≡ Some Idle
      → slice_get m.queues queue ≡ Some (message ∷ messages)
      → gauge.queued rules.fresh ≡ 0
      → IsLive rules gauge m
      → IsLive rules gauge (with_region (suc place) (Active (begun_in rules m message 0))
      (record m { queues = slice_set m.queues queue messages }))
  begins m place queue message messages idle in_queue none s =
      let u : Transaction = begun_in rules m message 0 in
      put_active m
      (with_region (suc place) (Active u) (record m { queues = slice_set m.queues queue messages }))
      place Idle u idle refl (length-set m.queues queue messages) (λ lock c. inr c) waits (omega (arith, none)) s
    where
      waits : (name : Name) → is_among m.busy name ≡ true
          → 0 < count rules name
          (with_region (suc place) (Active (begun_in rules m message 0))
          (record m { queues = slice_set m.queues queue messages }))
      waits name busy =
          let of : Message → ℕ = λ x. line_count rules name x.line in
          omega (
            arith,
            region_put rules name m place Idle (Active (begun_in rules m message 0)) idle,
            sum_by-cons of message messages,
            sum_put (λ (xs : List Message). sum_by of xs) m.queues queue (message ∷ messages) messages in_queue,
            s.waits name busy,
          )

  -- ---- entries

  -- an entry that no terminal waits for
  writes : (m : Machine) (e : Entry) (next : Db) → m.sealed ≤ place_of m.history
      → IsLive rules gauge m → IsLive rules gauge (with_entry_of e next m)
  writes m e next sealed s =
      frame m (with_entry_of e next m) refl refl s.holders
      (λ name busy. omega (arith, unsealed_more rules name m e sealed, s.waits name busy)) s

  -- a line that asks for nothing
  refuses : (m : Machine) (line : List ℕ) (o : Outcome) → m.sealed ≤ place_of m.history
      → IsLive rules gauge m → IsLive rules gauge (with_refusal rules o line m)
  refuses m line o sealed s = frame m (with_refusal rules o line m) refl refl s.holders waits s
    where
      e : Entry
      e = entry_here m o line []

      waits : (name : Name) → is_among (m.busy ++ terminal_in (rules.terminal_of line)) name ≡ true
          → 0 < count rules name (with_refusal rules o line m)
      waits name busy = elim (among_either m.busy (terminal_in (rules.terminal_of line)) name busy) [
        | inl before ↦ omega (arith, unsealed_more rules name m e sealed, s.waits name before)
        | inr new ↦ omega (arith, unsealed_more rules name m e sealed, counts_one rules line name new)
      ]

  -- ---- IN

  -- a message more in a queue that there is
  pub queued_one : (name : Name) (queue : ℕ) (message : Message) (queues : List (List Message)) → queue < length queues
      → queued_count rules name (queued_at queue message queues)
      ≡ queued_count rules name queues + line_count rules name message.line
  queued_one name queue message queues within = by (slice_get queues queue) refl
    where
      of : Message → ℕ
      of x = line_count rules name x.line

      by : (o : Option (List Message)) → slice_get queues queue ≡ o
          → queued_count rules name
          (option_map_or (λ (messages : List Message). slice_set queues queue (messages ++ message ∷ [])) o queues)
          ≡ queued_count rules name queues + line_count rules name message.line
      by None is = (let found = get_within queues queue within in absurd (none-some found.0 (sym is ∙ found.1)))
      by (Some messages) is =
          omega (
            arith,
            sum_put (λ (xs : List Message). sum_by of xs) queues queue messages
                (messages ++ message ∷ []) is,
            sum_by_push of messages message,
          )

  as_many : (queue : ℕ) (message : Message) (queues : List (List Message))
      → length (queued_at queue message queues) ≡ length queues
  as_many queue message queues = by (slice_get queues queue)
    where
      by : (o : Option (List Message))
          → length (option_map_or (λ (ms : List Message). slice_set queues queue (ms ++ message ∷ [])) o queues)
          ≡ length queues
      by None = refl
      by (Some messages) = length-set queues queue (messages ++ message ∷ [])

  -- a message is queued
  queues : (m : Machine) (message : Message)
      → rules.terminal_of message.line ≡ Some message.lterm
      → rules.group_of message - 1 < length m.queues
      → IsLive rules gauge m → IsLive rules gauge (with_message rules message m)
  queues m message from within s =
      frame m (with_message rules message m) refl (as_many (rules.group_of message - 1) message m.queues) s.holders
      waits s
    where
      one : (name : Name) → queued_count rules name (queued_at (rules.group_of message - 1) message m.queues)
          ≡ queued_count rules name m.queues + line_count rules name message.line
      one name = queued_one name (rules.group_of message - 1) message m.queues within

      waits : (name : Name) → is_among (m.busy ++ message.lterm ∷ []) name ≡ true
          → 0 < count rules name (with_message rules message m)
      waits name busy = elim (among_either m.busy (message.lterm ∷ []) name busy) [
        | inl before ↦ omega (arith, one name, s.waits name before)
        | inr new ↦
            let counts = counts_one rules message.line name
            (ap (λ (o : Option Name). is_among (terminal_in o) name) from ∙ new) in
            omega (arith, one name, counts)
      ]

  -- ---- LOG

  -- who isn't told has no entry in the group
  pub none_told : (group : List Entry) (name : Name) → is_among (told rules group) name ≡ false
      → sum_by (λ (e : Entry). line_count rules name e.line) group ≡ 0
  none_told [] name e = refl
  none_told (d ∷ group) name e =
      let of : Entry → ℕ = λ (x : Entry). line_count rules name x.line in
      let names : List Name = terminal_in (rules.terminal_of d.line) in
      let first : is_among names name ≡ false = elim (cases_Bool (is_among names name)) [
        | inl is ↦ absurd (true_is_not_false (sym (among_left names (told rules group) name is) ∙ e))
        | inr isnt ↦ isnt
      ] in
      let later : is_among (told rules group) name ≡ false = elim (cases_Bool (is_among (told rules group) name)) [
        | inl is ↦ absurd (true_is_not_false (sym (among_right names (told rules group) name is) ∙ e))
        | inr isnt ↦ isnt
      ] in
      omega (arith, sum_by-cons of d group, counts_none rules d.line name first, none_told group name later)

  not_true : (b : Bool) → not b ≡ true → b ≡ false
  not_true true e = sym e
  not_true false e = refl

  -- a group is sealed
  sealed_group : (m : Machine) → IsLive rules gauge m → IsLive rules gauge (with_group rules (next_group rules m) m)
  sealed_group m s = frame m (with_group rules (next_group rules m) m) refl refl s.holders waits s
    where
      group : List Entry
      group = next_group rules m

      waits : (name : Name) → is_among (with_group rules (next_group rules m) m).busy name ≡ true
          → 0 < count rules name (with_group rules (next_group rules m) m)
      waits name busy =
          let kept = contains_in_filter (λ (n : Name). not (is_among (told rules group) n)) m.busy name
          (contained (with_group rules (next_group rules m) m).busy name busy) in
          let none = none_told group name (not_true (is_among (told rules group) name) kept.1) in
          omega (arith, seals rules name m, none, s.waits name (among m.busy name kept.0))

  logs : (m : Machine) → IsLive rules gauge m → IsLive rules gauge (sealed_once rules m)
  logs m s = by (nat_lt m.sealed (place_of m.history))
    where
      by : (b : Bool) → IsLive rules gauge (if b then with_group rules (next_group rules m) m else m)
      by true = sealed_group m s
      by false = s

  logs_often : (n : ℕ) (m : Machine) → IsLive rules gauge m → IsLive rules gauge (sealed_times n rules m)
  logs_often zero m s = s
  logs_often (suc n) m s = logs_often n (sealed_once rules m) (logs m s)

  -- ---- all turns

  -- what is so of the machine that a turn leads to
  led : (m m2 : Machine) → m2 ≡ m → IsLive rules gauge m → IsLive rules gauge m2
  led m m2 e s = subst (λ (x : Machine). IsLive rules gauge x) (sym e) s

  module _ (laws : EndLaws rules gauge) (view : View) (order : Laws rules view) where
    -- one more answer adds one more at most
    few_still : (m : Machine) (t : Transaction) (call : Call) → gauge.queued t.point.own ≤ length t.point.answers
        → gauge.queued (with_answer rules m t call).point.own ≤ length (with_answer rules m t call).point.answers
    few_still m t call few =
        let now : Db = m.history.now in
        let r : Replied = rules.reply_to now now t.point.own call in
        let counted : length (t.point.answers ++ r.answer ∷ [])
        ≡ length t.point.answers + 1 = length-append t.point.answers (r.answer ∷ []) in
        omega (arith, counted, laws.queues now now t.point.own call, few)

    acts : (m : Machine) (place : ℕ) (t : Transaction) (act : Act) (m2 : Machine)
        → slice_get m.regions place ≡ Some (Active t)
        → m.sealed ≤ place_of m.history
        → Does rules m (suc place) t act m2
        → IsLive rules gauge m → IsLive rules gauge m2
    acts m place t (Answers call) m2 is sealed d s =
        led _ m2 d.2 (answers m place t call is (few_still m t call (s.few (suc place) t is)) s)
    acts m place t (Gains needed) m2 is sealed d s =
        let l : Lock = record { region = suc place; resource = needed.resource; mode = needed.mode } in
        led _ m2 d.2 (frame m (record m { locks = l ∷ m.locks; requests = without_region (suc place) m.requests })
        refl refl
        (λ lock c. elim (contains_cases l m.locks lock c) [
          | inl new ↦
              record { t = t; stands = subst (λ (k : Lock). region_at m k.region ≡ Some (Active t)) new is }
          | inr old ↦ s.holders lock old
        ]) s.waits s)
    acts m place t (Waits needed) m2 is sealed d s =
        led _ m2 d.3 (frame m (record m { requests = _ }) refl refl s.holders s.waits s)
    acts m place t (Deadlocks needed cycle) m2 is sealed d s = led _ m2 d.2 (ends m place t _ _ is refl sealed s)
    acts m place t (Retries_at_cycle needed cycle) m2 is sealed d s =
        led _ m2 d.2 (retries m place t is laws.begins s)
    acts m place t (Finishes ending items) m2 is sealed d s = led _ m2 d.3 (ends m place t _ _ is refl sealed s)
    acts m place t (Retries_at_verify ending) m2 is sealed d s = led _ m2 d.3 (retries m place t is laws.begins s)

    idle_begins : (m : Machine) (place : ℕ) (o : Option (List Message)) → slice_get m.regions place ≡ Some Idle
        → slice_get m.queues (queue_of_region rules (suc place)) ≡ o
        → IsLive rules gauge m → IsLive rules gauge (begins_in rules m (suc place) (unwrap_or o []))
    idle_begins m place None is queue s = s
    idle_begins m place (Some []) is queue s = s
    idle_begins m place (Some (message ∷ messages)) is queue s =
        begins m place (queue_of_region rules (suc place)) message messages is queue laws.begins s

    region_turn : (m : Machine) (place : ℕ) (region : Option Region) (v : Environment) (m2 : Machine)
        → slice_get m.regions place ≡ region
        → m.sealed ≤ place_of m.history
        → RegionTurn rules m (suc place) region v m2
        → IsLive rules gauge m → IsLive rules gauge m2
    region_turn m place None v m2 is sealed turn s = absurd turn
    region_turn m place (Some Idle) NoFault m2 is sealed turn s =
        led _ m2 turn (idle_begins m place (slice_get m.queues (queue_of_region rules (suc place))) is refl s)
    region_turn m place (Some Idle) DeviceFault m2 is sealed turn s = absurd turn
    region_turn m place (Some Idle) OutOfMemory m2 is sealed turn s = absurd turn
    region_turn m place (Some (Active t)) NoFault m2 is sealed turn s = acts m place t turn.0 m2 is sealed turn.1 s
    region_turn m place (Some (Active t)) DeviceFault m2 is sealed turn s =
        led _ m2 turn (ends m place t _ _ is refl sealed s)
    region_turn m place (Some (Active t)) OutOfMemory m2 is sealed turn s =
        led _ m2 turn (ends m place t _ _ is refl sealed s)

    line_taken : (m : Machine) (line : List ℕ) → m.sealed ≤ place_of m.history
        → IsLive rules gauge m → IsLive rules gauge (with_line rules line m)
    line_taken m line sealed s = by (list_any (is_among m.busy) (terminal_in (rules.terminal_of line)))
      where
        asked : (r : Request) → rules.request_of m.history line ≡ r
            → IsLive rules gauge (with_request_of rules line r m)
        asked (Refuses o) is = refuses m line o sealed s
        asked (Accepts message) is =
            let same = order.lines m.history line message is in
            queues m message (ap rules.terminal_of same ∙ order.terminals m.history line message is)
            (subst (λ (n : ℕ). rules.group_of message - 1 < n) (sym s.queues) (laws.routed m.history line message is)) s

        by : (b : Bool) → IsLive rules gauge (if b then record m { held = Some line }
            else with_request_of rules line (rules.request_of m.history line) m)
        by true = frame m (record m { held = Some line }) refl refl s.holders s.waits s
        by false = asked (rules.request_of m.history line) refl

    taken : (m : Machine) → m.sealed ≤ place_of m.history
        → IsLive rules gauge m → IsLive rules gauge (taken_in rules m)
    taken m sealed s = by (next_line m)
      where
        -- without the line that is taken
        pair : (o : Option (List ℕ))
            → (let x : Machine = option_map_or (λ (line : List ℕ). record m { held = None }) o
            (record m { lines = drop 1 m.lines }) in IsLive rules gauge x × (x.sealed ≤ place_of x.history))
        pair None = (frame m (record m { lines = drop 1 m.lines }) refl refl s.holders s.waits s, sealed)
        pair (Some line) = (frame m (record m { held = None }) refl refl s.holders s.waits s, sealed)

        by : (o : Option (List ℕ)) → IsLive rules gauge
            (option_map_or (λ line. with_line rules line (without_line m)) o m)
        by None = s
        by (Some line) = let p = pair m.held in line_taken (without_line m) line p.1 p.0

    purges : (m : Machine) (set n : ℕ) (held : Bool) (m2 : Machine) → m.sealed ≤ place_of m.history
        → PurgeTurn rules m set n held m2
        → IsLive rules gauge m → IsLive rules gauge m2
    purges m set n true m2 sealed turn s = led m m2 turn s
    purges m set n false m2 sealed turn s =
        led _ m2 turn.after (writes m (entry_here m (outcome.Purge set n) [] turn.items) turn.next sealed s)

    -- One turn keeps it.
    pub turn_live : (m : Machine) (e : Event) (v : Environment) (m2 : Machine) → m.sealed ≤ place_of m.history
        → Turn rules m e v m2
        → IsLive rules gauge m → IsLive rules gauge m2
    turn_live m event.In NoFault m2 sealed turn s = led _ m2 turn (taken m sealed s)
    turn_live m event.In DeviceFault m2 sealed turn s = absurd turn
    turn_live m event.In OutOfMemory m2 sealed turn s = absurd turn
    turn_live m (event.Region zero) v m2 sealed turn s = absurd turn
    turn_live m (event.Region (suc place)) v m2 sealed turn s =
        region_turn m place (slice_get m.regions place) v m2 refl sealed turn s
    turn_live m event.Log NoFault m2 sealed turn s = led _ m2 turn (logs m s)
    turn_live m event.Log DeviceFault m2 sealed turn s = absurd turn
    turn_live m event.Log OutOfMemory m2 sealed turn s = absurd turn
    turn_live m event.Out v m2 sealed turn s = led m m2 turn s
    turn_live m event.Ckpt NoFault m2 sealed turn s = led _ m2 turn (logs_often (place_of m.history - m.sealed) m s)
    turn_live m event.Ckpt DeviceFault m2 sealed turn s = led _ m2 turn (logs_often (place_of m.history - m.sealed) m s)
    turn_live m event.Ckpt OutOfMemory m2 sealed turn s = absurd turn
    turn_live m (event.Purge set n) NoFault m2 sealed turn s =
        purges m set n (is_area_held rules m set) m2 sealed turn s
    turn_live m (event.Purge set n) DeviceFault m2 sealed turn s = led m m2 turn s
    turn_live m (event.Purge set n) OutOfMemory m2 sealed turn s = led m m2 turn s

  -- A machine at rest has it.
  pub rest_live : (lines : List (List ℕ)) (h : History) → IsLive rules gauge (at_rest rules lines h)
  rest_live lines h = record {
    regions = length-map rules.regions (λ (group : ℕ). Idle);
    queues = length-replicate rules.group_count [];
    holders = λ lock c. absurd (contains_nothing lock c);
    waits = λ name c. absurd (true_is_not_false (sym c));
    few = λ region t is. absurd (nobody region t is);
  }
    where
      nobody : (region : ℕ) (t : Transaction) → ¬ (region_at (at_rest rules lines h) region ≡ Some (Active t))
      nobody zero t e = none-some _ e
      nobody (suc place) t e = idle_is_not t (sym (mapped_to rules.regions place Idle (Active t) e))
