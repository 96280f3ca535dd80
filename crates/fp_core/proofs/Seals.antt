-- A group is sealed: what the engine stands for then.
use Rattle.std.proofs.Common.{◌≡◌, refl, sym, ◌∙◌, ap, subst, arith, ℕ, zero, suc, ◌+◌, ◌-◌, ◌<◌, ◌≤◌, List, [], ◌∷◌, ◌++◌, length, map, take, drop, Bool, true, false}
use Rattle.std.specs.Prelude.{min, nat_lt, if◌then◌else◌}
use Rattle.std.specs.List.{flat_map}
use Rattle.std.specs.declared.alloc.Global.{Global}
use Rattle.std.specs.declared.collections.VecDeque.{VecDeque}
use Rattle.std.specs.VecDeque.{deque_capacity}
use Rattle.std.proofs.lemmas.Bool.Decides.{nat_tests}
use Rattle.std.proofs.lemmas.Grind.{common_steps}
use Rattle.std.proofs.lemmas.List.{append-nil, append_assoc, drop-map, length-append, length-drop, length-map, length-take, take-map}
use Rattle.std.proofs.lemmas.List.Concat.{flat_map-append, flat_map-cons}
use Rattle.std.proofs.lemmas.List.Folds.{flat_map-map}
use Rattle.balancing.specs.Backlog.{Backlog}
use Rattle.fp_model.specs.declared.events.Event.TheVariants as event
use Rattle.fp_model.specs.declared.log.Entry.{Entry}
use Rattle.fp_model.specs.Groups.{entries_of}
use Rattle.fp_model.specs.History.{place_of}
use Rattle.fp_model.specs.Machine.{Machine, next_group, sealed_once, sealed_times, terminal_in, with_group}
use Rattle.fp_model.specs.Messages.{terminal_of}
use Rattle.fp_model.specs.ReplyLine.{line_of}
use Rattle.fp_model.specs.Rules.{Rules}
use Rattle.fp_model.specs.Turns.{Environment, NoFault, DeviceFault, OutOfMemory, Turn}
use Rattle.log_groups.specs.Log.{LogState}
use Rattle.fp_core.specs.declared.did.Did.TheVariants as did
use Rattle.fp_core.specs.declared.engine.Engine.{Engine}
use Rattle.fp_core.specs.declared.engine.Owed.{Owed}
use Rattle.fp_core.specs.Relation.{StandsFor, first_place, owed_of, rules_in}
use Rattle.fp_core.specs.inside.Sealing.{AreFreed, replies_of, reply_of, terminals_of}
use Rattle.fp_core.specs.Turning.{Turned, did_seal}
use Rattle.fp_core.proofs.Tells.{freed_same}
use Rattle.fp_core.proofs.Turns.{is_device}
use Rattle.plain_laws.proofs.Lists.{drop_more, take_nil}

-- ---- lists

take_min : {A : Type 0} (k : ℕ) (xs : List A) (j : ℕ) → j ≡ min k (length xs) → take j xs ≡ take k xs
take_min zero xs j e = let none : j ≡ 0 = omega (arith, e) in ap (λ (i : ℕ). take i xs) none
take_min (suc k) [] j e = take_nil j
take_min (suc k) (x ∷ xs) j e =
    let one : j ≡ suc (min k (length xs)) = omega (arith, e) in
    ap (λ (i : ℕ). take i (x ∷ xs)) one ∙ ap (λ ys. x ∷ ys) (take_min k xs (min k (length xs)) refl)

entries_more : (gs : List (List Entry)) (es : List Entry)
    → length (entries_of (gs ++ es ∷ [])) ≡ length (entries_of gs) + length es
entries_more gs es =
    ap length (flat_map-append (λ (x : List Entry). x) gs (es ∷ []) ∙ ap (λ l. entries_of gs ++ l)
    (flat_map-cons (λ (x : List Entry). x) es [] ∙ append-nil es))
    ∙ length-append (entries_of gs) es

-- ---- how many are owed

pub owed_long : (engine : Engine) (m : Machine) → StandsFor engine m
    → length engine.owed.items + m.sealed ≡ place_of m.history
owed_long engine m s =
    omega (arith, ap length s.owed, length-map engine.log.unsealed owed_of, s.count, s.sealed)

-- ---- sealed once, and many times

pub once_some : (rules : Rules) (m : Machine) → m.sealed < place_of m.history
    → sealed_once rules m ≡ with_group rules (next_group rules m) m
once_some rules m less =
    let is : nat_lt m.sealed (place_of m.history) ≡ true = grind (arith, nat_tests, common_steps, less) in
    ap (λ (b : Bool). if b then with_group rules (next_group rules m) m else m) is

pub once_none : (rules : Rules) (m : Machine) → place_of m.history ≤ m.sealed → sealed_once rules m ≡ m
once_none rules m most =
    let is : nat_lt m.sealed (place_of m.history) ≡ false = grind (arith, nat_tests, common_steps, most) in
    ap (λ (b : Bool). if b then with_group rules (next_group rules m) m else m) is

times_none : (j : ℕ) (rules : Rules) (m : Machine) → place_of m.history ≤ m.sealed → sealed_times j rules m ≡ m
times_none zero rules m most = refl
times_none (suc j) rules m most = ap (sealed_times j rules) (once_none rules m most) ∙ times_none j rules m most

pub times_more : (k j : ℕ) (rules : Rules) (m : Machine)
    → sealed_times j rules (sealed_times k rules m) ≡ sealed_times (k + j) rules m
times_more zero j rules m = let e : 0 + j ≡ j = omega arith in ap (λ (i : ℕ). sealed_times i rules m) (sym e)
times_more (suc k) j rules m =
    let e : suc k + j ≡ suc (k + j) = omega arith in
    times_more k j rules (sealed_once rules m) ∙ ap (λ (i : ℕ). sealed_times i rules m) (sym e)

-- where all are sealed, more times change nothing
pub times_all : (k n : ℕ) (rules : Rules) (m : Machine) → k ≤ n
    → place_of (sealed_times k rules m).history ≤ (sealed_times k rules m).sealed
    → sealed_times k rules m ≡ sealed_times n rules m
times_all k n rules m within most =
    let e : k + (n - k) ≡ n = omega (arith, within) in
    sym (times_none (n - k) rules (sealed_times k rules m) most)
    ∙ times_more k (n - k) rules m ∙ ap (λ (i : ℕ). sealed_times i rules m) e

-- what was sent stays sent
sent_once : (rules : Rules) (m : Machine) → (more : List ℕ) × ((sealed_once rules m).sent ≡ m.sent ++ more)
sent_once rules m = by (nat_lt m.sealed (place_of m.history))
  where
    by : (b : Bool) → (more : List ℕ)
        × ((if b then with_group rules (next_group rules m) m else m).sent ≡ m.sent ++ more)
    by true = (flat_map rules.line_of (next_group rules m), refl)
    by false = ([], sym (append-nil m.sent))

pub sent_times : (k : ℕ) (rules : Rules) (m : Machine)
    → (more : List ℕ) × ((sealed_times k rules m).sent ≡ m.sent ++ more)
sent_times zero rules m = ([], sym (append-nil m.sent))
sent_times (suc k) rules m =
    let first = sent_once rules m in
    let second = sent_times k rules (sealed_once rules m) in
    (first.0 ++ second.0, second.1 ∙ ap (λ (t : List ℕ). t ++ second.0) first.1 ∙ append_assoc m.sent first.0 second.0)

-- ---- turns

pub log_after : (rules : Rules) (m : Machine) (environment : Environment) (after : Machine)
    → Turn rules m event.Log environment after → after ≡ sealed_once rules m
log_after rules m NoFault after turn = turn
log_after rules m DeviceFault after turn = absurd turn
log_after rules m OutOfMemory after turn = absurd turn

pub did_some : (n : ℕ) → 1 ≤ n → did_seal n ≡ did.Sealed n
did_some zero some = absurd (omega (arith, some))
did_some (suc n) some = refl

-- ---- a group

module _ (engine : Engine) (m : Machine) (s : StandsFor engine m) where
  abbrev pub group : List Entry
  group = take engine.defs.now.log_group engine.log.unsealed

  pub group_is : next_group (rules_in engine) m ≡ group
  group_is = ap (take engine.defs.now.log_group) (sym s.unsealed)

  pub once_is : 1 ≤ length engine.owed.items → sealed_once (rules_in engine) m ≡ with_group (rules_in engine) group m
  once_is some =
      let less : m.sealed < place_of m.history = omega (arith, owed_long engine m s, some) in
      once_some (rules_in engine) m less ∙ ap (λ (g : List Entry). with_group (rules_in engine) g m) group_is

  pub unsealed_long : length engine.owed.items ≡ length engine.log.unsealed
  unsealed_long = ap length s.owed ∙ length-map engine.log.unsealed owed_of

  pub some_group : 1 ≤ length engine.owed.items → 1 ≤ length group
  some_group some =
      let long = length-take engine.defs.now.log_group engine.log.unsealed in
      omega (arith, long, unsealed_long, some, s.setup.defined.log_group)

  -- where none is owed there is nothing to do
  abbrev pub log_nothing : length engine.owed.items ≡ 0 → Turned event.Log m engine did.Nothing
  log_nothing none =
      let most : place_of m.history ≤ m.sealed = omega (arith, owed_long engine m s, none) in
      let long = ap length group_is ∙ length-take engine.defs.now.log_group engine.log.unsealed in
      let empty : length (next_group (rules_in engine) m) ≡ 0 = omega (arith, long, unsealed_long, none) in
      record {
        after = m;
        environment = NoFault;
        turn = sym (once_none (rules_in engine) m most);
        is_did = sym (ap did_seal empty);
        no_device = λ e. subst is_device (sym e) tt;
        stands = s;
      }

  module _ (n : ℕ) (count : n ≡ min engine.defs.now.log_group (length engine.log.unsealed)) where
    pub group_long : length group ≡ n
    group_long = length-take engine.defs.now.log_group engine.log.unsealed ∙ sym count

    same_group : take n engine.log.unsealed ≡ group
    same_group = take_min engine.defs.now.log_group engine.log.unsealed n count

    pub owed_group : take n engine.owed.items ≡ map owed_of group
    owed_group = ap (take n) s.owed ∙ take-map owed_of n engine.log.unsealed ∙ ap (map owed_of) same_group

    pub lines_group : replies_of (take n engine.owed.items) ≡ flat_map line_of group
    lines_group = ap replies_of owed_group ∙ flat_map-map reply_of owed_of group

    terminals_group : terminals_of (take n engine.owed.items) ≡ flat_map
        (λ (e : Entry). terminal_in (terminal_of e.line)) group
    terminals_group = ap terminals_of owed_group ∙ flat_map-map (λ (o : Owed). terminal_in (terminal_of o.line)) owed_of
        group

    module _ (log : LogState) (backlog : Backlog) (owed : VecDeque Owed Global)
        (sealed : log.sealed ≡ engine.log.sealed + n)
        (unsealed : log.unsealed ≡ drop n engine.log.unsealed)
        (spare : engine.log.spare ≤ log.spare)
        (queues : backlog.queues ≡ engine.queues.queues)
        (freed : AreFreed engine.queues.busy backlog.busy (terminals_of (take n engine.owed.items)))
        (rest : owed.items ≡ drop n engine.owed.items)
        (capacity : deque_capacity owed ≡ deque_capacity engine.owed) where
      same_first : first_place (with_group (rules_in engine) group m) ≡ first_place m
      same_first = omega (arith, entries_more m.groups group)

      pub stands_sealed : StandsFor (record engine { queues = backlog; log = log; owed = owed })
          (with_group (rules_in engine) group m)
      stands_sealed = record {
        setup = s.setup;
        held = s.held;
        held_short = s.held_short;
        queues = queues ∙ s.queues;
        groups = s.groups;
        takeable = s.takeable;
        busy =
            freed_same engine.queues.busy backlog.busy m.busy
            (flat_map (λ (e : Entry). terminal_in (terminal_of e.line)) group)
            (subst (AreFreed engine.queues.busy backlog.busy) terminals_group freed) s.busy;
        regions = s.regions;
        numbers = s.numbers;
        locks = s.locks;
        rows = s.rows;
        of = s.of;
        msdbs = s.msdbs;
        past = s.past;
        format = s.format;
        read = s.read;
        lasts = s.lasts;
        places = s.places;
        count =
            let left = ap length unsealed ∙ length-drop n engine.log.unsealed in
            let few : n ≤ length engine.log.unsealed = omega (arith, count) in
            omega (arith, left, few, sealed, s.count);
        sealed = sealed ∙ ap (λ (k : ℕ). k + n) s.sealed ∙ ap (λ (k : ℕ). m.sealed + k) (sym group_long);
        unsealed =
            unsealed ∙ ap (drop n) s.unsealed ∙ drop_more m.sealed n m.history.entries
            ∙ ap (λ (k : ℕ). drop (m.sealed + k) m.history.entries) (sym group_long);
        owed = rest ∙ ap (drop n) s.owed ∙ drop-map owed_of n engine.log.unsealed ∙ ap (map owed_of) (sym unsealed);
        made = λ place before after e first. s.made place before after e (omega (arith, first, same_first));
        room = s.room;
        spare = omega (arith, s.spare, spare);
        slots = omega (arith, s.slots, capacity, ap length rest, length-drop n engine.owed.items);
      }

      pub seals : 1 ≤ length engine.owed.items
          → StandsFor (record engine { queues = backlog; log = log; owed = owed }) (sealed_once (rules_in engine) m)
      seals some =
          subst (StandsFor (record engine { queues = backlog; log = log; owed = owed })) (sym (once_is some))
          stands_sealed

      -- the turn
      abbrev pub log_turned : 1 ≤ length engine.owed.items
          → Turned event.Log m (record engine { queues = backlog; log = log; owed = owed }) (did.Sealed n)
      log_turned some =
          let long : length (next_group (rules_in engine) m) ≡ n = ap length group_is ∙ group_long in
          let one : 1 ≤ n = omega (arith, group_long, some_group some) in
          record {
            after = sealed_once (rules_in engine) m;
            environment = NoFault;
            turn = refl;
            is_did = sym (ap did_seal long ∙ did_some n one);
            no_device = λ e. subst is_device (sym e) tt;
            stands = seals some;
          }
