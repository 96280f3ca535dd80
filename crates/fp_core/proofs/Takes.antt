-- An idle region takes a message.
use Rattle.std.proofs.Common.{◌≤◌, ◌≡◌, refl, sym, ◌∙◌, ap, subst, arith, ℕ, zero, suc, ◌+◌, ◌-◌, List, [], ◌∷◌, length, drop, map, Option, Some, None, slice_get, slice_set, unwrap_or}
use Rattle.std.specs.Prelude.{IfSome, fold, max}
use Rattle.std.specs.List.{AllByRecursion}
use Rattle.std.specs.VecDeque.{deque_capacity}
use Rattle.std.specs.declared.alloc.Global.{Global}
use Rattle.std.specs.declared.collections.VecDeque.{VecDeque}
use Rattle.std.proofs.lemmas.List.{length-set}
use Rattle.std.proofs.lemmas.List.Sums.{sum_by-cons}
use Rattle.std.proofs.lemmas.Slice.Zip.{AllZip-long}
use Rattle.balancing.specs.Backlog.{AreSame, Backlog, queue_of}
use Rattle.balancing.specs.Numbered.{Numbered}
use Rattle.drain_laws.specs.Measure.{active_in, one_if_active}
use Rattle.fp_model.specs.declared.calls.Message.{Message}
use Rattle.fp_model.specs.declared.events.Event.TheVariants as event
use Rattle.fp_model.specs.Machine as machine
use Rattle.fp_model.specs.Machine.{Transaction, Machine, region_at}
use Rattle.fp_model.specs.Rules.{Rules}
use Rattle.fp_model.specs.Serial.{begun}
use Rattle.fp_model.specs.Turns.{NoFault, RegionTurn, begins_in, begun_in, messages_for, queue_of_region}
use Rattle.fp_model.specs.WellFormed.{Between}
use Rattle.log_groups.specs.Log.{LogState}
use Rattle.sync_point.specs.Refusals.{refusal_room}
use Rattle.fp_core.specs.declared.did.Did.TheVariants as did
use Rattle.fp_core.specs.declared.engine.Active.{Active}
use Rattle.fp_core.specs.declared.engine.Engine.{Engine}
use Rattle.fp_core.specs.declared.engine.Owed.{Owed}
use Rattle.fp_core.specs.declared.engine.Region.TheVariants as regions
use Rattle.fp_core.specs.Relation.{IsAhead, IsReadIn, IsRegion, IsTakeable, IsTransaction, StandsFor, owed_of, room_of, rules_in}
use Rattle.fp_core.specs.Turning.{IsDidOfRegion, Turned, did_take}
use Rattle.fp_core.proofs.Places.{each_has, put_both, right_of, sum_put}
use Rattle.fp_core.proofs.Turns.{is_device}
use Rattle.plain_laws.proofs.Alls.{all_set}
use Rattle.plain_laws.proofs.Lists.{greatest_from}
use Rattle.std.proofs.lemmas.Option.{same_Some}

-- ---- lists

-- a list with a first
pub with_first : {A : Type 0} (xs : List A) (x : A) → slice_get xs 0 ≡ Some x → xs ≡ x ∷ drop 1 xs
with_first [] x is = absurd cc
with_first (y ∷ ys) x is = ap (λ first. first ∷ ys) (same_Some y x is)

-- and one without
pub with_none : {A : Type 0} (xs : List A) → slice_get xs 0 ≡ None → xs ≡ []
with_none [] is = refl
with_none (y ∷ ys) is = absurd cc

-- without the first
all_rest : {A : Type 0} (P : A → Type 0) (xs : List A) → AllByRecursion P xs → AllByRecursion P (drop 1 xs)
all_rest P [] all = tt
all_rest P (x ∷ xs) all = all.1

-- of each list, and so of the one at a place
all_at : {A : Type 0} (P : A → Type 0) (xss : List (List A)) (place : ℕ) → AllByRecursion (AllByRecursion P) xss
    → AllByRecursion P (unwrap_or (slice_get xss place) [])
all_at P [] place all = tt
all_at P (xs ∷ xss) zero all = all.0
all_at P (xs ∷ xss) (suc n) all = all_at P xss n all.1

-- each is at most the greatest
greatest_above : (groups : List ℕ) (most place group : ℕ) → slice_get groups place ≡ Some group
    → group ≤ fold max most groups
greatest_above [] most place group is = absurd cc
greatest_above (g ∷ gs) most zero group is =
    let r = greatest_from gs (max most g) in
    let same = same_Some g group is in
    omega (arith, r, same)
greatest_above (g ∷ gs) most (suc n) group is = greatest_above gs (max most g) n group is

-- no more regions are at work than there are
pub at_work_few : (rs : List machine.Region) → active_in rs ≤ length rs
at_work_few [] = omega arith
at_work_few (machine.Idle ∷ rs) =
    let none : one_if_active machine.Idle ≡ 0 = refl in
    omega (arith, at_work_few rs, sum_by-cons one_if_active machine.Idle rs, none)
at_work_few (machine.Active t ∷ rs) =
    let one : one_if_active (machine.Active t) ≡ 1 = refl in
    omega (arith, at_work_few rs, sum_by-cons one_if_active (machine.Active t) rs, one)

-- ---- an idle region

-- an idle region of the code is one of the machine
pub is_idle : (engine : Engine) (m : Machine) (place : ℕ) → StandsFor engine m
    → slice_get engine.regions place ≡ Some regions.Idle → slice_get m.regions place ≡ Some machine.Idle
is_idle engine m place s idle =
    let found = right_of (IsRegion engine.defs.now engine.scripts.now.scripts) engine.regions m.regions place
    regions.Idle s.regions idle in
    by found.right found.there found.is
  where
    by : (r : machine.Region) → slice_get m.regions place ≡ Some r
        → IsRegion engine.defs.now engine.scripts.now.scripts regions.Idle r
        → slice_get m.regions place ≡ Some machine.Idle
    by machine.Idle there is = there
    by (machine.Active t) there is = absurd is

-- the same by its number
pub idle_at : (engine : Engine) (m : Machine) (region : ℕ) → 1 ≤ region → StandsFor engine m
    → slice_get engine.regions (region - 1) ≡ Some regions.Idle → region_at m region ≡ Some machine.Idle
idle_at engine m zero some s idle = absurd (omega (arith, some))
idle_at engine m (suc place) some s idle =
    let same : suc place - 1 ≡ place = omega arith in
    is_idle engine m place s (subst (λ (n : ℕ). slice_get engine.regions n ≡ Some regions.Idle) same idle)

-- what it takes, it takes in a turn
idle_turned : (engine new : Engine) (m : Machine) (place : ℕ) (messages : List Message)
    → rules_in new ≡ rules_in engine
    → slice_get m.regions place ≡ Some machine.Idle
    → messages_for (rules_in engine) m (suc place) ≡ messages
    → StandsFor new (begins_in (rules_in engine) m (suc place) messages)
    → Turned (event.Region (suc place)) m new (did_take messages)
idle_turned engine new m place messages rules idle are stands =
    let after : Machine = begins_in (rules_in engine) m (suc place) messages in
    record {
      after = after;
      environment = NoFault;
      turn = subst (λ (r : Rules). RegionTurn r m (suc place) (slice_get m.regions place) NoFault after) (sym rules)
          (subst (λ (o : Option machine.Region). RegionTurn (rules_in engine) m (suc place) o NoFault after) (sym idle)
          (ap (begins_in (rules_in engine) m (suc place)) (sym are)));
      is_did = subst (λ (r : Rules). IsDidOfRegion new.defs.now r m (suc place) (slice_get m.regions place) NoFault
          after
          (did_take messages)) (sym rules)
          (subst (λ (o : Option machine.Region). IsDidOfRegion new.defs.now (rules_in engine) m (suc place) o NoFault
          after
          (did_take messages)) (sym idle)
          (ap did_take (sym are)));
      no_device = λ e. subst is_device (sym e) tt;
      stands = stands;
    }

-- ---- its group

-- there is a queue of each group
pub group_some : (engine : Engine) (m : Machine) (place group : ℕ) → StandsFor engine m
    → slice_get engine.defs.now.regions place ≡ Some group → 1 ≤ group
group_some engine m place group s in_group =
    (each_has (Between 1 16) engine.defs.now.regions place group s.setup.defined.groups.0 in_group).0

pub group_within : (engine : Engine) (m : Machine) (place group : ℕ) → StandsFor engine m
    → slice_get engine.defs.now.regions place ≡ Some group → group ≤ length engine.queues.queues
group_within engine m place group s in_group =
    let long : length engine.queues.queues ≡ fold max 0 engine.defs.now.regions = ap length s.queues ∙ s.groups in
    let above = greatest_above engine.defs.now.regions 0 place group in_group in
    omega (arith, long, above)

-- each message of a queue can be taken
pub first_takeable : (engine : Engine) (m : Machine) (group : ℕ) (message : Message) → StandsFor engine m
    → slice_get (queue_of group engine.queues) 0 ≡ Some message → IsTakeable engine.format engine.scripts.now.scripts
    message
first_takeable engine m group message s first =
    let all = subst (AllByRecursion (AllByRecursion (IsTakeable engine.format engine.scripts.now.scripts))) (sym
    s.queues) s.takeable
    in
    each_has (IsTakeable engine.format engine.scripts.now.scripts) (queue_of group engine.queues) 0 message
    (all_at (IsTakeable engine.format engine.scripts.now.scripts) engine.queues.queues (group - 1) all) first

-- ---- room

-- With more room in the log, for what is owed and for numbers it stands for the same.
pub roomier : (engine : Engine) (m : Machine) (log : LogState) (owed : VecDeque Owed Global)
    (lasts : Numbered) → StandsFor engine m
    → log ≡ record engine.log { spare = log.spare }
    → engine.log.spare ≤ log.spare
    → owed.items ≡ engine.owed.items
    → deque_capacity engine.owed ≤ deque_capacity owed
    → lasts.terminals ≡ engine.lasts.terminals
    → engine.lasts.spare ≤ lasts.spare
    → StandsFor (record engine { log = log; owed = owed; lasts = lasts }) m
roomier engine m log owed lasts s same more items slots terminals numbers = record {
  setup = s.setup;
  held = s.held;
  held_short = s.held_short;
  queues = s.queues;
  groups = s.groups;
  takeable = s.takeable;
  busy = s.busy;
  regions = s.regions;
  numbers = s.numbers;
  locks = s.locks;
  rows = s.rows;
  of = s.of;
  msdbs = s.msdbs;
  past = s.past;
  format = s.format;
  read = s.read;
  lasts = terminals ∙ s.lasts;
  places = omega (arith, s.places, numbers);
  count = ap (λ (l : LogState). l.sealed + length l.unsealed) same ∙ s.count;
  sealed = ap (λ (l : LogState). l.sealed) same ∙ s.sealed;
  unsealed = ap (λ (l : LogState). l.unsealed) same ∙ s.unsealed;
  owed = items ∙ s.owed ∙ ap (λ (l : LogState). map owed_of l.unsealed) (sym same);
  made = s.made;
  room = s.room;
  spare = omega (arith, s.spare, more);
  slots =
      let long : length owed.items ≡ length engine.owed.items = ap length items in
      omega (arith, long, slots, s.slots);
}

-- ---- it takes a message

module _ (engine : Engine) (m : Machine) (place group : ℕ) (s : StandsFor engine m)
    (in_group : slice_get engine.defs.now.regions place ≡ Some group)
    (idle : slice_get engine.regions place ≡ Some regions.Idle) where
  queue_is : queue_of_region (rules_in engine) (suc place) ≡ group - 1
  queue_is =
      let e : suc place - 1 ≡ place = omega arith in
      ap (λ (p : ℕ). unwrap_or (slice_get engine.defs.now.regions p) 0 - 1) e ∙ ap (λ (o : Option ℕ). unwrap_or o 0 - 1)
      in_group

  messages_are : messages_for (rules_in engine) m (suc place) ≡ queue_of group engine.queues
  messages_are =
      ap (λ (q : ℕ). unwrap_or (slice_get m.queues q) []) queue_is
      ∙ ap (λ (qs : List (List Message)). unwrap_or (slice_get qs (group - 1)) []) (sym s.queues)

  -- with no message it does nothing
  nothing_here : slice_get (queue_of group engine.queues) 0 ≡ None
      → Turned (event.Region (suc place)) m engine did.Nothing
  nothing_here none =
      idle_turned engine engine m place [] refl (is_idle engine m place s idle)
      (messages_are ∙ with_none (queue_of group engine.queues) none) s

  module _ (message : Message) (active : Active) (backlog : Backlog) (log : LogState) (owed : VecDeque Owed Global)
      (room : ℕ) (lasts : Numbered) where
    -- the engine with the message taken
    abbrev pub with_taken : Engine
    with_taken = record engine {
      queues = backlog;
      regions = slice_set engine.regions place (regions.Active active);
      log = log;
      owed = owed;
      room = room;
      lasts = lasts;
    }

    takes_here : slice_get (queue_of group engine.queues) 0 ≡ Some message
        → backlog.queues ≡ slice_set engine.queues.queues (group - 1) (drop 1 (queue_of group engine.queues))
        → backlog.busy ≡ engine.queues.busy
        → log ≡ record engine.log { spare = log.spare }
        → owed.items ≡ engine.owed.items
        → length owed.items + length engine.regions ≤ deque_capacity owed
        → room ≡ engine.room + refusal_room message.line
        → room ≤ log.spare
        → lasts.terminals ≡ engine.lasts.terminals
        → length engine.regions ≤ lasts.spare
        → IsTransaction engine.defs.now engine.scripts.now.scripts active (begun_in (rules_in engine) m message 0)
        → Turned (event.Region (suc place)) m with_taken did.Took
    takes_here oldest rest busy same items slots more spare terminals numbers is =
        let here : slice_get m.regions place ≡ Some machine.Idle = is_idle engine m place s idle in
        let t : Transaction = begun_in (rules_in engine) m message 0 in
        let others : List Message = drop 1 (queue_of group engine.queues) in
        let all : AllByRecursion (AllByRecursion (IsTakeable engine.format engine.scripts.now.scripts))
        engine.queues.queues =
        subst (AllByRecursion (AllByRecursion (IsTakeable engine.format engine.scripts.now.scripts))) (sym s.queues)
        s.takeable in
        idle_turned engine with_taken m place (message ∷ others) refl here
        (messages_are ∙ with_first (queue_of group engine.queues) message oldest)
        (record {
          setup = s.setup;
          held = s.held;
          held_short = s.held_short;
          queues = rest
              ∙ ap (λ (qs : List (List Message)). slice_set qs (group - 1) others) s.queues
              ∙ ap (λ (q : ℕ). slice_set m.queues q others) (sym queue_is);
          groups = length-set m.queues (queue_of_region (rules_in engine) (suc place)) others ∙ s.groups;
          takeable = all_set (AllByRecursion (IsTakeable engine.format engine.scripts.now.scripts)) m.queues
              (queue_of_region (rules_in engine) (suc place)) others s.takeable
              (all_rest (IsTakeable engine.format engine.scripts.now.scripts) (queue_of group engine.queues)
              (all_at (IsTakeable engine.format engine.scripts.now.scripts) engine.queues.queues (group - 1) all));
          busy = subst (λ names. AreSame names m.busy) (sym busy) s.busy;
          regions = put_both (IsRegion engine.defs.now engine.scripts.now.scripts) engine.regions m.regions place
              (regions.Active active) (machine.Active t) s.regions is;
          numbers = length-set m.regions place (machine.Active t) ∙ s.numbers;
          locks = s.locks;
          rows = s.rows ∙ sym (length-set engine.regions place (regions.Active active));
          of = s.of;
          msdbs = s.msdbs;
          past = s.past;
          format = s.format;
          read = all_set (IsReadIn engine.format) m.regions place (machine.Active t) s.read
              (first_takeable engine m group message s oldest).read;
          lasts = terminals ∙ s.lasts;
          places =
              let few = at_work_few (slice_set m.regions place (machine.Active t)) in
              let long : length (slice_set m.regions place (machine.Active t)) ≡ length m.regions =
              length-set m.regions place (machine.Active t) in
              let both = AllZip-long (IsRegion engine.defs.now engine.scripts.now.scripts) engine.regions m.regions
              s.regions in
              omega (arith, few, long, both, numbers);
          count = ap (λ (l : LogState). l.sealed + length l.unsealed) same ∙ s.count;
          sealed = ap (λ (l : LogState). l.sealed) same ∙ s.sealed;
          unsealed = ap (λ (l : LogState). l.unsealed) same ∙ s.unsealed;
          owed = items ∙ s.owed ∙ ap (λ (l : LogState). map owed_of l.unsealed) (sym same);
          made = s.made;
          room =
              let put = sum_put room_of m.regions place (machine.Active t) machine.Idle here in
              omega (arith, put, more, s.room);
          spare = spare;
          slots =
              let few = at_work_few (slice_set m.regions place (machine.Active t)) in
              let long : length (slice_set m.regions place (machine.Active t)) ≡ length m.regions =
              length-set m.regions place (machine.Active t) in
              let both = AllZip-long (IsRegion engine.defs.now engine.scripts.now.scripts) engine.regions m.regions
              s.regions in
              omega (arith, few, long, both, slots);
        })

-- ---- the same at the region's number

pub nothing : (engine : Engine) (m : Machine) (region group : ℕ) → 1 ≤ region → StandsFor engine m
    → slice_get engine.defs.now.regions (region - 1) ≡ Some group
    → slice_get engine.regions (region - 1) ≡ Some regions.Idle
    → slice_get (queue_of group engine.queues) 0 ≡ None
    → Turned (event.Region region) m engine did.Nothing
nothing engine m zero group some s in_group idle none = absurd (omega (arith, some))
nothing engine m (suc place) group some s in_group idle none =
    let e : suc place - 1 ≡ place = omega arith in
    nothing_here engine m place group s (subst (λ p. slice_get engine.defs.now.regions p ≡ Some group) e in_group)
    (subst (λ p. slice_get engine.regions p ≡ Some regions.Idle) e idle) none

pub takes : (engine : Engine) (m : Machine) (group region : ℕ) → 1 ≤ region → (s : StandsFor engine m)
    → slice_get engine.defs.now.regions (region - 1) ≡ Some group
    → slice_get engine.regions (region - 1) ≡ Some regions.Idle
    → (message : Message) (active : Active) (backlog : Backlog) (log : LogState) (owed : VecDeque Owed Global)
    (room : ℕ) (lasts : Numbered)
    → slice_get (queue_of group engine.queues) 0 ≡ Some message
    → backlog.queues ≡ slice_set engine.queues.queues (group - 1) (drop 1 (queue_of group engine.queues))
    → backlog.busy ≡ engine.queues.busy
    → log ≡ record engine.log { spare = log.spare }
    → owed.items ≡ engine.owed.items
    → length owed.items + length engine.regions ≤ deque_capacity owed
    → room ≡ engine.room + refusal_room message.line
    → room ≤ log.spare
    → lasts.terminals ≡ engine.lasts.terminals
    → length engine.regions ≤ lasts.spare
    → active.from ≡ engine.log.sealed + length engine.log.unsealed
    → active.message ≡ message
    → IsTransaction engine.defs.now engine.scripts.now.scripts
    (record {
      from = active.from;
      message = message;
      program = active.program;
      work = active.work;
      tries = active.tries;
      ahead = active.ahead;
      refusal = active.refusal;
    })
    (record { from = active.from; message = message; point = begun (rules_in engine); notes = []; tries = 0 })
    → Turned (event.Region region) m (record engine {
      queues = backlog;
      regions = slice_set engine.regions (region - 1) (regions.Active active);
      log = log;
      owed = owed;
      room = room;
      lasts = lasts;
    }) did.Took
takes engine m group zero some s in_group idle message active backlog log owed room lasts oldest rest busy
    same items slots more spare terminals numbers from is_message b = absurd (omega (arith, some))
takes engine m group (suc place) some s in_group idle message active backlog log owed room lasts oldest rest busy
    same items slots more spare terminals numbers from is_message b =
    let e : suc place - 1 ≡ place = omega arith in
    let after : ℕ → Engine = λ n. record engine {
      queues = backlog;
      regions = slice_set engine.regions n (regions.Active active);
      log = log;
      owed = owed;
      room = room;
      lasts = lasts;
    } in
    subst (λ (n : ℕ). Turned (event.Region (suc place)) m (after n) did.Took) (sym e)
    (takes_here engine m place group s (subst (λ p. slice_get engine.defs.now.regions p ≡ Some group) e in_group)
    (subst (λ p. slice_get engine.regions p ≡ Some regions.Idle) e idle)
    message active backlog log owed room lasts oldest rest busy same items slots more spare terminals numbers
    (record {
      from = from ∙ s.count;
      message = is_message;
      short = b.short;
      tries = b.tries;
      refusal = b.refusal;
      own = b.own;
      notes = b.notes;
      of = b.of;
      changes = b.changes;
      inserts = b.inserts;
      script = b.script;
      named = b.named;
      numbered = b.numbered;
      at = b.at;
      ahead = subst (λ (n : ℕ). IfSome active.ahead (IsAhead engine.defs.now engine.scripts.now.scripts active.program
          (record { from = n; message = message; point = begun (rules_in engine); notes = []; tries = 0 })))
          (from ∙ s.count) b.ahead;
      fit = b.fit;
    }))
