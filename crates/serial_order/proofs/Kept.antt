-- Each turn keeps the invariant.
use Rattle.std.proofs.Common.{◌≡◌, ℕ, zero, suc, ◌+◌, ◌≤◌, List, [], ◌∷◌, ◌++◌, length, drop, Option, Some, None, ◌⊎◌, inl, inr, refl, sym, ◌∙◌, ap, subst, Bool, true, false, arith, length-append, slice_get, slice_set}
use Rattle.std.specs.List.{AllByRecursion, Contains}
use Rattle.std.proofs.lemmas.List.{drop-append-le}
use Rattle.std.proofs.lemmas.List.Elements.{Contains-push}
use Rattle.fp_model.specs.declared.database.Db.{Db}
use Rattle.fp_model.specs.declared.calls.Call.{Call}
use Rattle.fp_model.specs.declared.calls.Message.{Message}
use Rattle.fp_model.specs.declared.calls.Mode.{Mode}
use Rattle.fp_model.specs.declared.calls.Mode.TheVariants.{Exclusive}
use Rattle.fp_model.specs.declared.calls.Resource.{Resource}
use Rattle.fp_model.specs.declared.log.Entry.{Entry}
use Rattle.fp_model.specs.declared.name.Name.{Name}
use Rattle.fp_model.specs.Asking.{Asks}
use Rattle.fp_model.specs.History.{History, beginning, with_entry, place_of}
use Rattle.fp_model.specs.Rules.{Rules}
use Rattle.fp_model.specs.Serial.{begun, goes}
use Rattle.fp_model.specs.SerialHistory.{NeverFalls, Comes, IsSerial}
use Rattle.fp_model.specs.Waiting.{Lock, held_as, waits, IsCycle, without_region, with_request, is_blocked}
use Rattle.fp_model.specs.Machine.{Transaction, Region, Idle, Active, Machine, region_at, with_region, with_entry_of, without_locks, ended_with}
use Rattle.fp_model.specs.Turns.{noted, with_answer, begun_in, tried_again}
use Rattle.fp_model.specs.Frames.{KeepsRegions, KeepsHistory}
use Rattle.fp_model.proofs.HistoryLemmas.{join, states_counted}
use Rattle.serial_order.specs.Laws.{View, IsExclusive, IsCovered, ShareNoTerminal, is_format, Laws}
use Rattle.serial_order.specs.Kept.{IsRequest, AreRequests, StandOnce, GoesOn, Kept}
use Rattle.serial_order.proofs.Lists.{contains_in_set, put_cases, state_stays, longer, never_falls_later, never_falls_with}
use Rattle.serial_order.proofs.Locks.{apart_with, apart_without, still_held, still_exclusive, without_other, others_not_exclusive}
use Rattle.serial_order.proofs.Waits.{ended_waits, gained_waits, asked_waits}
use Rattle.serial_order.proofs.Plays.{call_comes_to}
use Rattle.serial_order.proofs.Terminals.{put_once, begins_once, ends_once, queued_apart, active_apart}
use Rattle.plain_laws.proofs.Alls.{contains_first, contains_later, get_contains}
use Rattle.std.proofs.lemmas.Option.{none-some}

-- ---- regions

-- an active region has one transaction
pub is_transaction : (t u : Transaction) → Active t ≡ Active u → t ≡ u
is_transaction t u e = cc

-- and is not idle
pub not_idle : (t : Transaction) → ¬ (Active t ≡ Idle)
not_idle t e = cc

-- what stands in the regions after a write
region_cases : (m m2 : Machine) (place s : ℕ) (r x : Region) → m2.regions ≡ slice_set m.regions place r
    → region_at m2 s ≡ Some x
    → ((s ≡ suc place) × (x ≡ r)) ⊎ (¬ (s ≡ suc place) × (region_at m s ≡ Some x))
region_cases m m2 place zero r x put stands = absurd (none-some x stands)
region_cases m m2 place (suc q) r x put stands =
    elim (put_cases m.regions place q r x (ap (λ (rs : List Region). slice_get rs q) (sym put) ∙ stands)) [
      | inl w ↦ inl (ap (λ (k : ℕ). suc k) w.0, w.1)
      | inr w ↦ inr ((λ e. w.0 (omega arith)), w.1)
    ]

-- ---- what is relied on

-- all that is held Exclusive is, where more is
held_all : (held more : Resource → Option Mode) (claims : List Resource)
    → ((resource : Resource) → IsExclusive held resource → IsExclusive more resource)
    → AllByRecursion (IsExclusive held) claims → AllByRecursion (IsExclusive more) claims
held_all held more [] up h = h
held_all held more (c ∷ cs) up h = (up c h.0, held_all held more cs up h.1)

module _ (rules : Rules) (view : View) where
  -- what is relied on is held, where more is
  covered_by : (own : _) (held more : Resource → Option Mode)
      → ((resource : Resource) → IsExclusive held resource → IsExclusive more resource) → IsCovered view own held
      → IsCovered view own more
  covered_by own held more up c = record { is_own = c.is_own; holds = held_all held more (view.claims own) up c.holds }

  -- as many states as entries
  pub counted : (m : Machine) → Kept rules view m → length m.history.past ≡ place_of m.history
  counted m k =
      let b : History = beginning m.history.format rules.start in
      let e = states_counted rules b m.history.entries m.history k.history in
      omega (arith, e)

  -- a machine that is the same where it counts
  pub alike : (m m2 : Machine) → m2.queues ≡ m.queues → KeepsRegions m m2 → KeepsHistory m m2 → StandOnce rules m2
      → Kept rules view m → Kept rules view m2
  alike m m2 queues regions same once k = record {
    history = subst (λ (h : History). IsSerial rules h) (sym same) k.history;
    queued =
        subst (λ (h : History). AreRequests rules h m2.queues) (sym same)
        (subst (λ (q : List (List Message)). AreRequests rules m.history q) (sym queues) k.queued);
    terminals = once;
    apart = rw regions.locks k.apart;
    sound =
        λ region t stands. rw (regions.locks, same) (k.sound region t (same_region region t regions.regions stands));
    no_cycle = rw (regions.locks, regions.requests) k.no_cycle;
  }
    where
      same_region : (region : ℕ) (t : Transaction) → m2.regions ≡ m.regions → region_at m2 region ≡ Some (Active t)
          → region_at m region ≡ Some (Active t)
      same_region zero t e stands = stands
      same_region (suc place) t e stands = ap (λ (rs : List Region). slice_get rs place) (sym e) ∙ stands

  -- ---- regions

  -- a region that gets a transaction, beside those that stay
  put_sound : (m m2 : Machine) (place : ℕ) (t : Transaction)
      → m2.regions ≡ slice_set m.regions place (Active t)
      → GoesOn rules view m2.history (held_as m2.locks (suc place)) t
      → ((s : ℕ) (u : Transaction) → ¬ (s ≡ suc place) → region_at m s ≡ Some (Active u) → GoesOn rules view m2.history
      (held_as m2.locks s) u)
      → (s : ℕ) (u : Transaction) → region_at m2 s ≡ Some (Active u)
      → GoesOn rules view m2.history (held_as m2.locks s) u
  put_sound m m2 place t put g others s u stands = elim (region_cases m m2 place s (Active t) (Active u) put stands) [
    | inl w ↦ subst (λ (q : ℕ). GoesOn rules view m2.history (held_as m2.locks q) u) (sym w.0)
        (subst (λ (v : Transaction). GoesOn rules view m2.history (held_as m2.locks (suc place)) v)
        (sym (is_transaction u t w.1)) g)
    | inr w ↦ others s u w.0 w.1
  ]

  -- a transaction that begins
  begun_goes_on : Laws rules view → (m : Machine) (message : Message) (tries : ℕ) (held : Resource → Option Mode)
      → IsRequest rules m.history message
      → GoesOn rules view m.history held (begun_in rules m message tries)
  begun_goes_on laws m message tries held is = record {
    is_request = is;
    comes_to =
        λ db states same shown n rest. ap (λ (j : ℕ). goes rules db states message j (begun rules) rest) (omega arith);
    few = omega arith;
    in_order = omega arith;
    covered = laws.begins held;
  }

  -- a region takes the oldest message of a queue
  pub begins_kept : Laws rules view → (m : Machine) (place queue : ℕ) (message : Message) (messages : List Message)
      → Kept rules view m
      → slice_get m.regions place ≡ Some Idle
      → slice_get m.queues queue ≡ Some (message ∷ messages)
      → Kept rules view (with_region (suc place) (Active (begun_in rules m message 0))
      (record m { queues = slice_set m.queues queue messages }))
  begins_kept laws m place queue message messages k idle in_queue =
      let found = get_contains m.queues queue (message ∷ messages) in_queue in
      let after : Machine = with_region (suc place) (Active (begun_in rules m message 0))
      (record m { queues = slice_set m.queues queue messages }) in
      let is = k.queued (message ∷ messages) message found (contains_first message messages) in
      record {
        history = k.history;
        queued = λ others other c d. elim (contains_in_set m.queues queue messages others c) [
          | inl these ↦ k.queued (message ∷ messages) other found
              (contains_later message messages other (subst (λ (q : List Message). Contains q other) these d))
          | inr there ↦ k.queued others other there d
        ];
        terminals =
            begins_once rules m place queue message messages
            (begun_in rules m message 0) in_queue idle refl k.terminals;
        apart = k.apart;
        sound =
            put_sound m after place (begun_in rules m message 0) refl
            (begun_goes_on laws m message 0 (held_as m.locks (suc place)) is) (λ s u other stands. k.sound s u stands);
        no_cycle = k.no_cycle;
      }

  -- A region begins its message again, without its locks and its request.
  pub tried_kept : Laws rules view → (m : Machine) (place : ℕ) (t : Transaction)
      → Kept rules view m
      → slice_get m.regions place ≡ Some (Active t)
      → Kept rules view (tried_again rules (suc place) t m)
  tried_kept laws m place t k active =
      let again : Transaction = begun_in rules m t.message (t.tries + 1) in
      let once = put_once rules m place (Active t) (Active again) active (λ name. refl) k.terminals in
      record {
        history = k.history;
        queued = k.queued;
        terminals = record { once = once.once; is_busy = once.is_busy; sealed = once.sealed };
        apart = apart_without (suc place) m.locks k.apart;
        sound = put_sound m (tried_again rules (suc place) t m) place again refl
            (begun_goes_on laws m t.message (t.tries + 1) (held_as (without_region (suc place) m.locks) (suc place))
            (k.sound (suc place) t active).is_request)
            (λ s u other stands. holds_same m.history (held_as m.locks s)
            (held_as (without_region (suc place) m.locks) s) u
            (λ resource. without_other (suc place) s resource m.locks other) (k.sound s u stands));
        no_cycle = ended_waits (suc place) m.requests m.locks k.no_cycle;
      }
    where
      -- the same is held
      holds_same : (h : History) (held after : Resource → Option Mode) (u : Transaction)
          → ((resource : Resource) → after resource ≡ held resource)
          → GoesOn rules view h held u → GoesOn rules view h after u
      holds_same h held after u holds g = record {
        is_request = g.is_request;
        comes_to =
            λ db states same shown n rest. g.comes_to db states
            (λ resource is. same resource (λ none. is (sym (holds resource) ∙ none))) shown n rest;
        few = g.few;
        in_order = g.in_order;
        covered = covered_by u.point.own held after (λ resource is. holds resource ∙ is) g.covered;
      }

  -- a note of this place
  noted_in_order : (from : ℕ) (notes : List ℕ) (place : ℕ) (b : Bool) → NeverFalls from notes place
      → NeverFalls from (noted rules b notes place) place
  noted_in_order from notes place true h = never_falls_with from notes place h
  noted_in_order from notes place false h = h

  -- a call is answered
  pub answers_kept : Laws rules view → (m : Machine) (place : ℕ) (t : Transaction) (call : Call)
      → Kept rules view m
      → slice_get m.regions place ≡ Some (Active t)
      → rules.ask t.message t.point.answers ≡ Asks call
      → rules.need m.history.now t.point.own (held_as m.locks (suc place)) call ≡ None
      → Kept rules view (with_region (suc place) (Active (with_answer rules m t call)) m)
  answers_kept laws m place t call k active asks ready =
      let held : Resource → Option Mode = held_as m.locks (suc place) in
      let now : Db = m.history.now in
      let more : Transaction = with_answer rules m t call in
      let after : Machine = with_region (suc place) (Active more) m in
      let g = k.sound (suc place) t active in
      let one : length (t.point.answers ++ (rules.reply_to now now t.point.own call).answer ∷ [])
      ≡ length t.point.answers + 1 = length-append t.point.answers
      ((rules.reply_to now now t.point.own call).answer ∷ []) in
      let is : GoesOn rules view m.history held more = record {
        is_request = g.is_request;
        comes_to = call_comes_to rules view m.history held t g laws call (counted m k) asks ready;
        few = omega (arith, one, laws.ends t.message t.point.answers call asks);
        in_order = noted_in_order t.from t.notes (place_of m.history) (rules.looks t.point.own call) g.in_order;
        covered =
            laws.covers now now t.point.own held call (laws.asked t.message t.point.answers call asks) ready g.covered;
      } in
      record {
        history = k.history;
        queued = k.queued;
        terminals = put_once rules m place (Active t) (Active more) active (λ name. refl) k.terminals;
        apart = k.apart;
        sound = put_sound m after place more refl is (λ s u other stands. k.sound s u stands);
        no_cycle = k.no_cycle;
      }

  -- ---- locks and requests

  -- more is held
  holds_more : (h : History) (held more : Resource → Option Mode) (t : Transaction)
      → ((resource : Resource) → ¬ (held resource ≡ None) → ¬ (more resource ≡ None))
      → ((resource : Resource) → IsExclusive held resource → IsExclusive more resource)
      → GoesOn rules view h held t → GoesOn rules view h more t
  holds_more h held more t up ex g = record {
    is_request = g.is_request;
    comes_to =
        λ db states same shown n rest. g.comes_to db states
        (λ resource is. same resource (up resource is)) shown n rest;
    few = g.few;
    in_order = g.in_order;
    covered = covered_by t.point.own held more ex g.covered;
  }

  -- the terminals of a machine with other locks and requests
  locked_once : (m m2 : Machine) → m2 ≡ record m { locks = m2.locks; requests = m2.requests } → StandOnce rules m
      → StandOnce rules m2
  locked_once m m2 is k =
      subst (λ (x : Machine). StandOnce rules x) (sym is)
      (record { once = k.once; is_busy = k.is_busy; sealed = k.sealed })

  -- a lock is gained
  pub gains_kept : (m : Machine) (l : Lock) → Kept rules view m → is_blocked m.locks l ≡ false
      → ¬ (held_as m.locks l.region l.resource ≡ Some Exclusive)
      → Kept rules view (record m { locks = l ∷ m.locks; requests = without_region l.region m.requests })
  gains_kept m l k free new = record {
    history = k.history;
    queued = k.queued;
    terminals =
        locked_once m (record m { locks = l ∷ m.locks; requests = without_region l.region m.requests }) refl
        k.terminals;
    apart = apart_with l m.locks free k.apart;
    sound =
        λ s t stands. holds_more m.history (held_as m.locks s) (held_as (l ∷ m.locks) s) t (still_held l m.locks s)
        (still_exclusive l m.locks new s) (k.sound s t stands);
    no_cycle = gained_waits l m.requests m.locks k.no_cycle;
  }

  -- a request stands, and closes no cycle
  pub waits_kept : (m : Machine) (l : Lock) → Kept rules view m
      → ((cycle : List ℕ) → ¬ IsCycle (waits (with_request l m.requests) m.locks) (l.region ∷ cycle))
      → Kept rules view (record m { requests = with_request l m.requests })
  waits_kept m l k none = record {
    history = k.history;
    queued = k.queued;
    terminals = locked_once m (record m { requests = with_request l m.requests }) refl k.terminals;
    apart = k.apart;
    sound = k.sound;
    no_cycle = asked_waits l m.requests m.locks none k.no_cycle;
  }

  -- ---- entries

  -- one entry more at the end
  one_more : (m : Machine) (e : Entry) (next : Db) → Kept rules view m → Comes rules m.history e next
      → IsSerial rules (with_entry e next m.history)
  one_more m e next k comes =
      let b : History = beginning m.history.format rules.start in
      join rules b m.history.entries (e ∷ []) m.history (with_entry e next m.history) k.history (next, comes, refl)

  -- the last entry isn't sealed
  last_unsealed : (m : Machine) (e : Entry) → m.sealed ≤ place_of m.history
      → Contains (drop m.sealed (m.history.entries ++ e ∷ [])) e
  last_unsealed m e sealed =
      subst (λ (es : List Entry). Contains es e) (sym (drop-append-le m.sealed m.history.entries (e ∷ []) sealed))
      (Contains-push (drop m.sealed m.history.entries) e)

  module _ (laws : Laws rules view) (m : Machine) (e : Entry) (next : Db) (k : Kept rules view m)
      (same_format : is_format e.outcome ≡ false) where
    -- a message of another terminal is still accepted
    still_accepted : (message : Message) → ShareNoTerminal rules e.line message.line → IsRequest rules m.history message
        → IsRequest rules (with_entry e next m.history) message
    still_accepted message apart is = laws.stays m.history e next message.line same_format apart ∙ is

    -- those that are queued beside the entry are
    queued_still : (m2 : Machine) → m2.history ≡ with_entry e next m.history → m2.sealed ≡ m.sealed
        → m2.queues ≡ m.queues → StandOnce rules m2 → AreRequests rules (with_entry e next m.history) m.queues
    queued_still m2 history sealed queues once messages message c d =
        still_accepted message
        (queued_apart rules m2 once e (rw (history, sealed) (last_unsealed m e k.terminals.sealed)) messages message
        (subst (λ (q : List (List Message)). Contains q messages) (sym queues) c) d)
        (k.queued messages message c d)

    -- Another's entry leaves what is so of a transaction, if it changes nothing that this one holds.
    others_go_on : (held after : Resource → Option Mode) (t : Transaction)
        → ShareNoTerminal rules e.line t.message.line
        → ((resource : Resource) → after resource ≡ held resource)
        → ((resource : Resource) → ¬ (held resource ≡ None) → view.seen resource next
        ≡ view.seen resource m.history.now)
        → GoesOn rules view m.history held t → GoesOn rules view (with_entry e next m.history) after t
    others_go_on held after t apart holds leaves g =
        let past : List Db = m.history.past in
        let now : Db = m.history.now in
        let entries : List Entry = m.history.entries in
        let count = counted m k in
        record {
          is_request = still_accepted t.message apart g.is_request;
          comes_to = λ db states same shown n rest. g.comes_to db states
              (λ resource h. same resource (λ none. h (sym (holds resource) ∙ none)) ∙ leaves resource h)
              (λ place le. shown place (omega (arith, le, longer entries e))
              ∙ state_stays rules.start (past ++ now ∷ []) next place (omega (arith, le, count, longer past now)))
              n rest;
          few = g.few;
          in_order =
              never_falls_later t.from t.notes (length entries) (length (entries ++ e ∷ [])) g.in_order
              (omega (arith, longer entries e));
          covered = covered_by t.point.own held after (λ resource h. holds resource ∙ h) g.covered;
        }

    -- a region's entry that may come, and changes only what the region holds Exclusive
    pub ended_kept : (place : ℕ) (t : Transaction)
        → slice_get m.regions place ≡ Some (Active t)
        → e.line ≡ t.message.line
        → Comes rules m.history e next
        → ((resource : Resource) → ¬ (held_as m.locks (suc place) resource ≡ Some Exclusive) → view.seen resource next
        ≡ view.seen resource m.history.now)
        → Kept rules view (ended_with (suc place) e next m)
    ended_kept place t active line comes leaves =
        let after : Machine = ended_with (suc place) e next m in
        let unlocked = locked_once m (without_locks (suc place) m) refl k.terminals in
        let once = ends_once rules (without_locks (suc place) m) place t e next active line unlocked in
        record {
          history = one_more m e next k comes;
          queued = queued_still after refl refl refl once;
          terminals = once;
          apart = apart_without (suc place) m.locks k.apart;
          sound = λ s u stands. elim (region_cases m after place s Idle (Active u) refl stands) [
            | inl w ↦ absurd (not_idle u w.1)
            | inr w ↦ others_go_on (held_as m.locks s) (held_as (without_region (suc place) m.locks) s) u
                (active_apart rules after once e (last_unsealed m e k.terminals.sealed) s u stands)
                (λ resource. without_other (suc place) s resource m.locks w.0)
                (λ resource h. leaves resource (others_not_exclusive m.locks k.apart (suc place) s resource w.0 h))
                (k.sound s u w.1)
          ];
          no_cycle = ended_waits (suc place) m.requests m.locks k.no_cycle;
        }

    -- an entry of no region, with the terminals that wait then, that changes nothing that is held
    pub written_kept : (busy : List Name)
        → StandOnce rules (with_entry_of e next (record m { busy = busy }))
        → Comes rules m.history e next
        → ((s : ℕ) (resource : Resource) → ¬ (held_as m.locks s resource ≡ None) → view.seen resource next
        ≡ view.seen resource m.history.now)
        → Kept rules view (with_entry_of e next (record m { busy = busy }))
    written_kept busy once comes leaves =
        let after : Machine = with_entry_of e next (record m { busy = busy }) in
        record {
          history = one_more m e next k comes;
          queued = queued_still after refl refl refl once;
          terminals = once;
          apart = k.apart;
          sound = λ s u stands. others_go_on (held_as m.locks s) (held_as m.locks s) u
              (active_apart rules after once e (last_unsealed m e k.terminals.sealed) s u stands)
              (λ resource. refl) (leaves s) (k.sound s u (same_region s u stands));
          no_cycle = k.no_cycle;
        }
      where
        same_region : (s : ℕ) (u : Transaction)
            → region_at (with_entry_of e next (record m { busy = busy })) s ≡ Some (Active u)
            → region_at m s ≡ Some (Active u)
        same_region zero u stands = stands
        same_region (suc place) u stands = stands
