-- What a turn makes of the lines that were answered, those under way and those ahead: together they stay.
use Rattle.std.proofs.Common.{◌≡◌, ◌⊎◌, inl, inr, refl, sym, ◌∙◌, ap, subst, ℕ, zero, suc, ◌-◌, ◌≤◌, List, [], ◌∷◌, ◌++◌, length, drop, Bool, true, false, Option, Some, None, unwrap_or, slice_get, slice_set}
use Rattle.std.specs.Prelude.{filter, flat_map, if◌then◌else◌}
use Rattle.std.specs.List.{list_any}
use Rattle.std.specs.Option.{option_map_or}
use Rattle.std.proofs.lemmas.Grind.{flat_map-append}
use Rattle.std.proofs.lemmas.List.{append-nil, drop-append-le}
use Rattle.fp_model.specs.declared.database.Db.{Db}
use Rattle.fp_model.specs.declared.calls.Message.{Message}
use Rattle.fp_model.specs.declared.events.Event.{Event}
use Rattle.fp_model.specs.declared.events.Event.TheVariants as event
use Rattle.fp_model.specs.declared.log.Entry.{Entry}
use Rattle.fp_model.specs.declared.log.Outcome.{Outcome}
use Rattle.fp_model.specs.declared.log.Outcome.TheVariants as outcome
use Rattle.fp_model.specs.Asking.{Ask, Asks, Replies, Rolls}
use Rattle.fp_model.specs.Commit.{Settlement, Commits, FailsVerify, FillsPart}
use Rattle.fp_model.specs.Frames.{KeepsLines, KeepsRegions, KeepsHistory}
use Rattle.fp_model.specs.History.{History, Request, Accepts, Refuses}
use Rattle.fp_model.specs.Machine.{Transaction, Region, Idle, Active, Machine, ended_with, entry_here, entry_of, is_among, terminal_in, queued_at, taken_in, with_line, with_request_of}
use Rattle.fp_model.specs.Rules.{Rules}
use Rattle.fp_model.specs.Serial.{Ending, refused_as, settled_as}
use Rattle.fp_model.specs.Turns.{Act, Answers, Gains, Waits, Deadlocks, Retries_at_cycle, Finishes, Retries_at_verify, Does, Environment, NoFault, DeviceFault, OutOfMemory, PurgeTurn, RegionTurn, Turn, begins_in, begun_in, ending_of, is_area_held, messages_for, queue_of_region}
use Rattle.fp_model.proofs.FrameLemmas.{turn_keeps}
use Rattle.serial_order.specs.Laws.{IsRefusal}
use Rattle.line_laws.specs.Answered.{answered_by}
use Rattle.line_laws.proofs.Alone.{moves_in, moves_out, moves_over, moves_past, put}
use Rattle.std.proofs.lemmas.Option.{none-some, same_Some}

module _ (rules : Rules) (p : List ℕ → Bool) where
  -- ---- the lines of which p is so

  abbrev pub of : List ℕ → List (List ℕ)
  of line = filter p (line ∷ [])

  -- answered
  abbrev pub of_entry : Entry → List (List ℕ)
  of_entry e = filter p (answered_by e.outcome e.line)

  abbrev pub done : ℕ → Machine → List (List ℕ)
  done n m = flat_map of_entry (drop n m.history.entries)

  -- under way
  abbrev pub of_region : Region → List (List ℕ)
  of_region Idle = []
  of_region (Active t) = of t.message.line

  abbrev pub of_queue : List Message → List (List ℕ)
  of_queue messages = flat_map (λ (message : Message). of message.line) messages

  abbrev pub pending : Machine → List (List ℕ)
  pending m = flat_map of_region m.regions ++ flat_map of_queue m.queues

  -- ahead
  abbrev pub of_held : Option (List ℕ) → List (List ℕ)
  of_held None = []
  of_held (Some line) = of line

  abbrev pub ahead : Machine → List (List ℕ)
  ahead m = of_held m.held ++ flat_map of m.lines

  -- all of them
  abbrev pub all_of : ℕ → Machine → List (List ℕ)
  all_of n m = done n m ++ (pending m ++ ahead m)

  module _ (n : ℕ) (m : Machine) (long : n ≤ length m.history.entries) (few : length (pending m) ≤ 1) where
    -- ---- entries

    one_done : (e : Entry) → flat_map of_entry (drop n (m.history.entries ++ e ∷ [])) ≡ done n m ++ of_entry e
    one_done e =
        ap (λ (es : List Entry). flat_map of_entry es) (drop-append-le n m.history.entries (e ∷ []) long)
        ∙ flat_map-append of_entry (drop n m.history.entries) (e ∷ [])
        ∙ ap (λ l. done n m ++ l) (append-nil (of_entry e))

    -- ---- a region's turn

    module _ (place : ℕ) (t : Transaction) (is : slice_get m.regions place ≡ Some (Active t)) where
      -- its transaction ends with an entry of its line
      ends : (e : Entry) (next : Db) → answered_by e.outcome e.line ≡ t.message.line ∷ []
          → all_of n (ended_with (suc place) e next m) ≡ all_of n m
      ends e next answers =
          let q = flat_map of_queue m.queues in
          let r = put of_region m.regions place (Active t) Idle is in
          let x = of t.message.line in
          ap (λ l. l ++ ((flat_map of_region (slice_set m.regions place Idle) ++ q) ++ ahead m))
          (one_done e ∙ ap (λ l. done n m ++ filter p l) answers)
          ∙ ap (λ l. (done n m ++ x) ++ ((l ++ q) ++ ahead m)) r.is
          ∙ moves_out (done n m) r.front x r.back q (ahead m)
          (subst (λ l. length (l ++ q) ≤ 1) r.was few)
          ∙ ap (λ l. done n m ++ ((l ++ q) ++ ahead m)) (sym r.was)

      -- another transaction of the same message stands there
      stays : (u : Transaction) → u.message ≡ t.message
          → flat_map of_region (slice_set m.regions place (Active u)) ≡ flat_map of_region m.regions
      stays u same =
          let r = put of_region m.regions place (Active t) (Active u) is in
          r.is ∙ ap (λ (x : Message). r.front ++ (of x.line ++ r.back)) same ∙ sym r.was

      stays_all : (u : Transaction) → u.message ≡ t.message
          → done n m ++ ((flat_map of_region (slice_set m.regions place (Active u)) ++ flat_map of_queue m.queues)
          ++ ahead m) ≡ all_of n m
      stays_all u same =
          ap (λ l. done n m ++ ((l ++ flat_map of_queue m.queues) ++ ahead m)) (stays u same)

    -- an end that the table gives is no Purge
    end_answers : (t : Transaction) (ask : Ask) (ending : Ending) (line : List ℕ)
        → ending_of rules m.history.now t ask ≡ Some ending → answered_by ending.outcome line ≡ line ∷ []
    end_answers t (Asks call) ending line e = absurd (none-some ending e)
    end_answers t (Replies reply) ending line e =
        subst (λ (x : Ending). answered_by x.outcome line ≡ line ∷ [])
        (same_Some (settled_as m.history.now reply (rules.settle m.history.now t.point.own)) ending e)
        (by (rules.settle m.history.now t.point.own))
      where
        by : (s : Settlement) → answered_by (settled_as m.history.now reply s).outcome line ≡ line ∷ []
        by (Commits next) = refl
        by (FailsVerify call fsa found) = refl
        by (FillsPart set begin end k) = refl
    end_answers t (Rolls code) ending line e =
        subst (λ (x : Ending). answered_by x.outcome line ≡ line ∷ [])
        (same_Some (refused_as (outcome.Roll code) m.history.now) ending e) refl

    does : (place : ℕ) (t : Transaction) → slice_get m.regions place ≡ Some (Active t) → (act : Act) (m2 : Machine)
        → Does rules m (suc place) t act m2 → all_of n m2 ≡ all_of n m
    does place t is (Answers call) m2 d = ap (λ (x : Machine). all_of n x) d.2 ∙ stays_all place t is _ refl
    does place t is (Gains needed) m2 d = ap (λ (x : Machine). all_of n x) d.2
    does place t is (Waits needed) m2 d = ap (λ (x : Machine). all_of n x) d.3
    does place t is (Deadlocks needed cycle) m2 d =
        ap (λ (x : Machine). all_of n x) d.2 ∙ ends place t is _ m.history.now refl
    does place t is (Retries_at_cycle needed cycle) m2 d =
        ap (λ (x : Machine). all_of n x) d.2 ∙ stays_all place t is _ refl
    does place t is (Finishes ending items) m2 d =
        ap (λ (x : Machine). all_of n x) d.3
        ∙ ends place t is (entry_of t ending t.notes items) ending.next
        (end_answers t _ ending t.message.line d.0.ends)
    does place t is (Retries_at_verify ending) m2 d =
        ap (λ (x : Machine). all_of n x) d.3 ∙ stays_all place t is _ refl

    -- an idle region takes a message
    begins : (place : ℕ) → slice_get m.regions place ≡ Some Idle → (messages : List Message)
        → messages_for rules m (suc place) ≡ messages → all_of n (begins_in rules m (suc place) messages) ≡ all_of n m
    begins place is [] has = refl
    begins place is (message ∷ messages) has =
        by (slice_get m.queues (queue_of_region rules (suc place))) refl has
      where
        queue : ℕ
        queue = queue_of_region rules (suc place)

        by : (o : Option (List Message)) → slice_get m.queues queue ≡ o → unwrap_or o [] ≡ message ∷ messages
            → all_of n (begins_in rules m (suc place) (message ∷ messages)) ≡ all_of n m
        by None at same = absurd cc
        by (Some found) at same =
            let t : Transaction = begun_in rules m message 0 in
            let r = put of_region m.regions place Idle (Active t) is in
            let q = put of_queue m.queues queue (message ∷ messages) messages (at ∙ ap Some same) in
            ap (λ l. done n m ++ (l ++ ahead m))
            (ap (λ l. l ++ flat_map of_queue (slice_set m.queues queue messages)) r.is
            ∙ ap (λ l. (r.front ++ (of message.line ++ r.back)) ++ l) q.is
            ∙ moves_over r.front (of message.line) r.back q.front (of_queue messages) q.back
            (subst (λ l. length (l ++ (q.front ++ ((of message.line ++ of_queue messages) ++ q.back))) ≤ 1) r.was
            (subst (λ l. length (flat_map of_region m.regions ++ l) ≤ 1) q.was few))
            ∙ ap (λ l. (r.front ++ r.back) ++ l) (sym q.was)
            ∙ ap (λ l. l ++ flat_map of_queue m.queues) (sym r.was))

    region : (place : ℕ) (o : Option Region) → slice_get m.regions place ≡ o → (v : Environment) (m2 : Machine)
        → RegionTurn rules m (suc place) o v m2 → all_of n m2 ≡ all_of n m
    region place None is v m2 d = absurd d
    region place (Some Idle) is NoFault m2 d =
        ap (λ (x : Machine). all_of n x) d ∙ begins place is (messages_for rules m (suc place)) refl
    region place (Some Idle) is DeviceFault m2 d = absurd d
    region place (Some Idle) is OutOfMemory m2 d = absurd d
    region place (Some (Active t)) is NoFault m2 d = does place t is d.0 m2 d.1
    region place (Some (Active t)) is DeviceFault m2 d =
        ap (λ (x : Machine). all_of n x) d ∙ ends place t is _ m.history.now refl
    region place (Some (Active t)) is OutOfMemory m2 d =
        ap (λ (x : Machine). all_of n x) d ∙ ends place t is _ m.history.now refl

    -- ---- IN

    module _ (lines_same : (h : History) (line : List ℕ) (message : Message)
        → rules.request_of h line ≡ Accepts message → message.line ≡ line)
        (refuses : (h : History) (line : List ℕ) (o : Outcome) → rules.request_of h line ≡ Refuses o → IsRefusal o)
        (routed : (h : History) (line : List ℕ) (message : Message) → rules.request_of h line ≡ Accepts message
        → (messages : List Message) × (slice_get m.queues (rules.group_of message - 1) ≡ Some messages))
        (free : (line : List ℕ) → list_any (is_among m.busy) (terminal_in (rules.terminal_of line)) ≡ false
        → (of line ≡ []) ⊎ (pending m ≡ [])) where
      -- the machine without the line
      module _ (line : List ℕ) (m1 : Machine) (history : m1.history ≡ m.history) (regions : m1.regions ≡ m.regions)
          (queues : m1.queues ≡ m.queues) (busy : m1.busy ≡ m.busy) (none : m1.held ≡ None)
          (is_ahead : of line ++ flat_map of m1.lines ≡ ahead m) where
        refusal_answers : (o : Outcome) → IsRefusal o → answered_by o line ≡ line ∷ []
        refusal_answers outcome.Unknown r = refl
        refusal_answers (outcome.Old last) r = refl
        refusal_answers (outcome.Repeat text) r = refl
        refusal_answers outcome.Done r = elim r [ ]
        refusal_answers (outcome.Verify call fsa found) r = elim r [ ]
        refusal_answers (outcome.Roll code) r = elim r [ ]
        refusal_answers (outcome.SeqFull set begin end k) r = elim r [ ]
        refusal_answers (outcome.Deadlock cycle) r = elim r [ ]
        refusal_answers outcome.Device r = elim r [ ]
        refusal_answers outcome.Memory r = elim r [ ]
        refusal_answers outcome.Format r = elim r [ ]
        refusal_answers (outcome.Purge set k) r = elim r [ ]

        asks_for : (r : Request) → rules.request_of m1.history line ≡ r
            → list_any (is_among m.busy) (terminal_in (rules.terminal_of line)) ≡ false
            → all_of n (with_request_of rules line r m1) ≡ all_of n m
        asks_for (Accepts message) is waits =
            let place = rules.group_of message - 1 in
            let found = routed m1.history line message is in
            let at : slice_get m1.queues place ≡ Some found.0 = ap (λ qs. slice_get qs place) queues ∙ found.1 in
            let q = put of_queue m.queues place found.0 (found.0 ++ message ∷ []) found.1 in
            let x = of line in
            let queued : queued_at place message m1.queues ≡ slice_set m.queues place (found.0 ++ message ∷ [])
            = ap (λ o. option_map_or (λ ms. slice_set m1.queues place (ms ++ message ∷ [])) o m1.queues) at
            ∙ ap (λ qs. slice_set qs place (found.0 ++ message ∷ [])) queues in
            let more : of_queue (found.0 ++ message ∷ []) ≡ of_queue found.0 ++ (x ++ [])
            = flat_map-append (λ (y : Message). of y.line) found.0 (message ∷ [])
            ∙ ap (λ l. of_queue found.0 ++ (of l ++ [])) (lines_same m1.history line message is) in
            ap (λ (h : History). flat_map of_entry (drop n h.entries) ++ ((flat_map of_region m1.regions
            ++ flat_map of_queue (queued_at place message m1.queues)) ++ (of_held m1.held ++ flat_map of m1.lines)))
            history
            ∙ ap (λ rs. done n m ++ ((flat_map of_region rs
            ++ flat_map of_queue (queued_at place message m1.queues)) ++ (of_held m1.held ++ flat_map of m1.lines)))
            regions
            ∙ ap (λ qs. done n m ++ ((flat_map of_region m.regions ++ flat_map of_queue qs)
            ++ (of_held m1.held ++ flat_map of m1.lines))) queued
            ∙ ap (λ h. done n m ++ ((flat_map of_region m.regions
            ++ flat_map of_queue (slice_set m.queues place (found.0 ++ message ∷ [])))
            ++ (of_held h ++ flat_map of m1.lines))) none
            ∙ ap (λ l. done n m ++ ((flat_map of_region m.regions ++ l) ++ flat_map of m1.lines))
            (q.is ∙ ap (λ l. q.front ++ (l ++ q.back)) more)
            ∙ ap (λ l. done n m ++ ((flat_map of_region m.regions ++ (q.front ++ ((of_queue found.0 ++ l) ++ q.back)))
            ++ flat_map of m1.lines)) (append-nil x)
            ∙ moves_in (done n m) (flat_map of_region m.regions) q.front (of_queue found.0) q.back x
            (flat_map of m1.lines) (joins q.front q.back found.0 q.was (free line waits))
            ∙ ap (λ l. done n m ++ ((flat_map of_region m.regions ++ l) ++ (x ++ flat_map of m1.lines))) (sym q.was)
            ∙ ap (λ l. done n m ++ (pending m ++ l)) is_ahead
          where
            joins : (front back : List (List ℕ)) (ms : List Message)
                → flat_map of_queue m.queues ≡ front ++ (of_queue ms ++ back)
                → (of line ≡ []) ⊎ (pending m ≡ [])
                → (of line ≡ []) ⊎ (flat_map of_region m.regions ++ (front ++ (of_queue ms ++ back)) ≡ [])
            joins front back ms was (inl e) = inl e
            joins front back ms was (inr e) = inr (ap (λ l. flat_map of_region m.regions ++ l) (sym was) ∙ e)
        asks_for (Refuses o) is waits =
            let e : Entry = entry_here m1 o line [] in
            ap (λ (h : History). flat_map of_entry (drop n (h.entries ++ e ∷ [])) ++ ((flat_map of_region m1.regions
            ++ flat_map of_queue m1.queues) ++ (of_held m1.held ++ flat_map of m1.lines))) history
            ∙ ap (λ l. l ++ ((flat_map of_region m1.regions
            ++ flat_map of_queue m1.queues) ++ (of_held m1.held ++ flat_map of m1.lines)))
            (one_done e ∙ ap (λ l. done n m ++ filter p l) (refusal_answers o (refuses m1.history line o is)))
            ∙ ap (λ rs. (done n m ++ of line) ++ ((flat_map of_region rs
            ++ flat_map of_queue m1.queues) ++ (of_held m1.held ++ flat_map of m1.lines))) regions
            ∙ ap (λ qs. (done n m ++ of line) ++ ((flat_map of_region m.regions
            ++ flat_map of_queue qs) ++ (of_held m1.held ++ flat_map of m1.lines))) queues
            ∙ ap (λ h. (done n m ++ of line) ++ (pending m ++ (of_held h ++ flat_map of m1.lines))) none
            ∙ moves_past (done n m) (pending m) (of line) (flat_map of m1.lines) (free line waits)
            ∙ ap (λ l. done n m ++ (pending m ++ l)) is_ahead

        -- the line is held, queued or refused
        lined : all_of n (with_line rules line m1) ≡ all_of n m
        lined = by (list_any (is_among m1.busy) (terminal_in (rules.terminal_of line))) refl
          where
            by : (b : Bool) → list_any (is_among m1.busy) (terminal_in (rules.terminal_of line)) ≡ b
                → all_of n (if b then record m1 { held = Some line }
                else with_request_of rules line (rules.request_of m1.history line) m1) ≡ all_of n m
            by true is =
                ap (λ (h : History). flat_map of_entry (drop n h.entries) ++ ((flat_map of_region m1.regions
                ++ flat_map of_queue m1.queues) ++ (of line ++ flat_map of m1.lines))) history
                ∙ ap (λ rs. done n m ++ ((flat_map of_region rs
                ++ flat_map of_queue m1.queues) ++ (of line ++ flat_map of m1.lines))) regions
                ∙ ap (λ qs. done n m ++ ((flat_map of_region m.regions
                ++ flat_map of_queue qs) ++ (of line ++ flat_map of m1.lines))) queues
                ∙ ap (λ l. done n m ++ (pending m ++ l)) is_ahead
            by false is =
                asks_for (rules.request_of m1.history line) refl
                (ap (λ names. list_any (is_among names) (terminal_in (rules.terminal_of line))) (sym busy) ∙ is)

      taken : all_of n (taken_in rules m) ≡ all_of n m
      taken = by m.held refl m.lines refl
        where
          by : (held : Option (List ℕ)) → m.held ≡ held → (lines : List (List ℕ)) → m.lines ≡ lines
              → all_of n (taken_in rules m) ≡ all_of n m
          by (Some line) is lines ls =
              ap (λ (h : Option (List ℕ)). all_of n (option_map_or (λ l. with_line rules l (option_map_or
              (λ k. record m { held = None }) h (record m { lines = drop 1 m.lines }))) (unwrap_or (option_map_or
              (λ k. Some (Some k)) h None) (slice_get m.lines 0)) m)) is
              ∙ lined line (record m { held = None }) refl refl refl refl refl
              (ap (λ h. of_held h ++ flat_map of m.lines) (sym is))
          by None is [] ls =
              ap (λ (h : Option (List ℕ)). all_of n (option_map_or (λ l. with_line rules l (option_map_or
              (λ k. record m { held = None }) h (record m { lines = drop 1 m.lines }))) (unwrap_or (option_map_or
              (λ k. Some (Some k)) h None) (slice_get m.lines 0)) m)) is
              ∙ ap (λ (xs : List (List ℕ)). all_of n (option_map_or (λ l. with_line rules l
              (record m { lines = drop 1 m.lines })) (slice_get xs 0) m)) ls
          by None is (line ∷ rest) ls =
              ap (λ (h : Option (List ℕ)). all_of n (option_map_or (λ l. with_line rules l (option_map_or
              (λ k. record m { held = None }) h (record m { lines = drop 1 m.lines }))) (unwrap_or (option_map_or
              (λ k. Some (Some k)) h None) (slice_get m.lines 0)) m)) is
              ∙ ap (λ (xs : List (List ℕ)). all_of n (option_map_or (λ l. with_line rules l
              (record m { lines = drop 1 m.lines })) (slice_get xs 0) m)) ls
              ∙ lined line (record m { lines = drop 1 m.lines }) refl refl refl refl is
              (ap (λ (xs : List (List ℕ)). of line ++ flat_map of (drop 1 xs)) ls
              ∙ ap (λ (xs : List (List ℕ)). flat_map of xs) (sym ls)
              ∙ ap (λ h. of_held h ++ flat_map of m.lines) (sym is))

      -- ---- every turn

      kept : (m2 : Machine) → KeepsLines m m2 → m2.queues ≡ m.queues → KeepsRegions m m2 → KeepsHistory m m2
          → all_of n m2 ≡ all_of n m
      kept m2 lines queues regions history =
          ap (λ (h : History). flat_map of_entry (drop n h.entries) ++ (pending m2 ++ ahead m2)) history
          ∙ ap (λ rs. done n m ++ ((flat_map of_region rs ++ flat_map of_queue m2.queues) ++ ahead m2)) regions.regions
          ∙ ap (λ qs. done n m ++ ((flat_map of_region m.regions ++ flat_map of_queue qs) ++ ahead m2)) queues
          ∙ ap (λ h. done n m ++ (pending m ++ (of_held h ++ flat_map of m2.lines))) lines.held
          ∙ ap (λ ls. done n m ++ (pending m ++ (of_held m.held ++ flat_map of ls))) lines.lines

      purges : (set k : ℕ) (is_held : Bool) (m2 : Machine) → PurgeTurn rules m set k is_held m2
          → all_of n m2 ≡ all_of n m
      purges set k true m2 d = ap (λ (x : Machine). all_of n x) d
      purges set k false m2 d =
          ap (λ (x : Machine). all_of n x) d.after
          ∙ ap (λ l. l ++ (pending m ++ ahead m))
          (one_done (entry_here m (outcome.Purge set k) [] d.items) ∙ append-nil (done n m))

      pub turned : (e : Event) (v : Environment) (m2 : Machine) → Turn rules m e v m2 → all_of n m2 ≡ all_of n m
      turned event.In NoFault m2 d = ap (λ (x : Machine). all_of n x) d ∙ taken
      turned event.In DeviceFault m2 d = absurd d
      turned event.In OutOfMemory m2 d = absurd d
      turned (event.Region zero) v m2 d = absurd d
      turned (event.Region (suc place)) v m2 d = region place (slice_get m.regions place) refl v m2 d
      turned event.Log v m2 d =
          let k = turn_keeps rules m event.Log v m2 d in kept m2 k.0 k.1 k.2 k.3
      turned event.Out v m2 d = ap (λ (x : Machine). all_of n x) d
      turned event.Ckpt v m2 d =
          let k = turn_keeps rules m event.Ckpt v m2 d in kept m2 k.0 k.1 k.2 k.3
      turned (event.Purge set k) NoFault m2 d = purges set k (is_area_held rules m set) m2 d
      turned (event.Purge set k) DeviceFault m2 d = ap (λ (x : Machine). all_of n x) d
      turned (event.Purge set k) OutOfMemory m2 d = ap (λ (x : Machine). all_of n x) d
