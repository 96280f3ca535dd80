-- A line is read, and queued, held or refused.
use Rattle.std.proofs.Common.{◌≡◌, refl, sym, ◌∙◌, ap, subst, arith, ℕ, ◌+◌, ◌-◌, ◌≤◌, List, [], ◌∷◌, ◌++◌, length, map, drop, Option, Some, None, slice_get, slice_set, Bool, true, false, ◌||◌, unwrap_or}
use Rattle.std.specs.Prelude.{IfSome, IsSome, if◌then◌else◌}
use Rattle.std.specs.List.{AllByRecursion, list_any}
use Rattle.std.specs.Option.{option_map_or}
use Rattle.std.specs.VecDeque.{deque_capacity}
use Rattle.std.specs.declared.alloc.Global.{Global}
use Rattle.std.specs.declared.collections.VecDeque.{VecDeque}
use Rattle.std.proofs.lemmas.List.{drop-append-le, length-append, length-set}
use Rattle.std.proofs.lemmas.List.Folds.{list_any-append}
use Rattle.balancing.specs.Backlog.{AreSame, Backlog, group_for}
use Rattle.balancing.specs.Numbered.{Numbered}
use Rattle.fp_model.specs.declared.calls.Message.{Message}
use Rattle.fp_model.specs.declared.definitions.Kind.{Kind}
use Rattle.fp_model.specs.declared.events.Event.TheVariants as event
use Rattle.fp_model.specs.declared.log.Entry.{Entry}
use Rattle.fp_model.specs.declared.log.Outcome.{Outcome}
use Rattle.fp_model.specs.declared.log.Outcome.TheVariants as outcome
use Rattle.fp_model.specs.declared.name.Name.{Name}
use Rattle.fp_model.specs.declared.scripts.Script.{Script}
use Rattle.fp_model.specs.Asking.{script_of}
use Rattle.fp_model.specs.Exits.{group_of}
use Rattle.fp_model.specs.History.{Request, Accepts, Refuses}
use Rattle.fp_model.specs.Lasts.{format_behind, last_by}
use Rattle.fp_model.specs.Machine.{Machine, entry_here, is_among, queued_at, same_name, terminal_in, with_line, with_message, with_refusal, with_request_of, next_line, taken_in}
use Rattle.fp_model.specs.Messages.{message_of, terminal_of}
use Rattle.fp_model.specs.Product.{groups_defined, request_of}
use Rattle.fp_model.specs.Rules.{Rules}
use Rattle.fp_model.specs.Turns.{NoFault}
use Rattle.message_lines.specs.Lines.{lines_ahead, lines_given}
use Rattle.message_lines.specs.declared.lines.Lines.{Lines}
use Rattle.log_groups.specs.Log.{LogState}
use Rattle.serial_order.specs.Laws.{IsRefusal}
use Rattle.fp_core.specs.declared.asking.Demand.TheVariants as demand
use Rattle.fp_core.specs.declared.did.Did.{Did}
use Rattle.fp_core.specs.declared.did.Did.TheVariants as did
use Rattle.fp_core.specs.declared.engine.Engine.{Engine}
use Rattle.fp_core.specs.declared.engine.Owed.{Owed}
use Rattle.fp_core.specs.inside.Numbering.{with_used}
use Rattle.fp_core.specs.inside.Reading.{IsDemandIn, refused_line}
use Rattle.fp_core.specs.Relation.{IsShort, IsTakeable, StandsFor, first_place, owed_of, rules_in}
use Rattle.fp_core.specs.Standing.{Stepped}
use Rattle.fp_core.specs.inside.Standing.{SteppedBy}
use Rattle.fp_core.specs.Turning.{Turned, did_for, did_with}
use Rattle.fp_core.proofs.Ends.{format_more, lasts_more, made_more, makes_nothing}
use Rattle.fp_core.proofs.Places.{each_has}
use Rattle.fp_core.proofs.Steps.{regions_long}
use Rattle.fp_core.proofs.Takes.{at_work_few}
use Rattle.fp_core.proofs.Turns.{is_device}
use Rattle.plain_laws.proofs.Alls.{all_push, all_set}
use Rattle.plain_laws.proofs.Lists.{map_snoc}

-- ---- what is answered

-- for a line it is never that there was nothing to do
pub did_something : (rules : Rules) (m : Machine) (line : List ℕ) → ¬ (did_with rules m line ≡ did.Nothing)
did_something rules m line =
    by (list_any (is_among m.busy) (terminal_in (rules.terminal_of line))) (rules.request_of m.history line)
  where
    by : (waits : Bool) (request : Request) → ¬ ((if waits then did.Held else did_for request) ≡ did.Nothing)
    by true request e = absurd cc
    by false (Accepts message) e = absurd cc
    by false (Refuses outcome) e = absurd cc

-- ---- terminals

-- the same names with more are the same
same_more : (names others more : List Name) → AreSame names others → AreSame (names ++ more) (others ++ more)
same_more names others more same name =
    list_any-append (same_name name) names more
    ∙ ap (λ b. b || list_any (same_name name) more) (same name)
    ∙ sym (list_any-append (same_name name) others more)

same_then : (names others more : List Name) → AreSame names others → AreSame others more → AreSame names more
same_then names others more same further name = same name ∙ further name

-- whether a line waits, by the same names
waits_same : (names others : List Name) → AreSame names others → (lterm : Option Name)
    → list_any (is_among names) (terminal_in lterm) ≡ list_any (is_among others) (terminal_in lterm)
waits_same names others same None = refl
waits_same names others same (Some name) = ap (λ b. b || false) (same name)

-- ---- what waits and what is queued

queued_long : (place : ℕ) (message : Message) (queues : List (List Message))
    → length (queued_at place message queues) ≡ length queues
queued_long place message queues = by (slice_get queues place)
  where
    by : (o : Option (List Message))
        → length (option_map_or (λ messages. slice_set queues place (messages ++ message ∷ [])) o queues) ≡ length
        queues
    by None = refl
    by (Some messages) = length-set queues place (messages ++ message ∷ [])

all_queued : (P : Message → Type 0) (place : ℕ) (message : Message) (queues : List (List Message))
    → AllByRecursion (AllByRecursion P) queues → P message
    → AllByRecursion (AllByRecursion P) (queued_at place message queues)
all_queued P place message queues all new = by (slice_get queues place) refl
  where
    by : (o : Option (List Message)) → slice_get queues place ≡ o
        → AllByRecursion (AllByRecursion P)
        (option_map_or (λ messages. slice_set queues place (messages ++ message ∷ [])) o queues)
    by None is = all
    by (Some messages) is =
        all_set (AllByRecursion P) queues place (messages ++ message ∷ []) all
        (all_push P messages message (each_has (AllByRecursion P) queues place messages all is) new)

-- a message that a line asks for can be taken
pub takeable_in : (format : ℕ) (scripts : List Script) (line : List ℕ) (message : Message) → IsShort line
    → IsDemandIn format scripts line (demand.Message message) → IsTakeable format scripts message
takeable_in format scripts line message short is = by (script_of scripts message.tran) refl is.3
  where
    by : (o : Option Script) → script_of scripts message.tran ≡ o → IsSome o → IsTakeable format scripts message
    by None none some = absurd cc
    by (Some script) named some = record {
      short = subst IsShort (sym is.2) short;
      read = ap (message_of format) is.2 ∙ is.0;
      script = script;
      named = named;
    }

-- such a refusal doesn't change the format
line_refusal_format : (format : ℕ) (o : Outcome) → IsRefusal o → format_behind format o ≡ format
line_refusal_format format outcome.Unknown is = refl
line_refusal_format format (outcome.Old last) is = refl
line_refusal_format format (outcome.Repeat kept) is = refl
line_refusal_format format outcome.Done is = absurd is
line_refusal_format format (outcome.Verify call fsa found) is = absurd is
line_refusal_format format (outcome.Roll code) is = absurd is
line_refusal_format format (outcome.SeqFull set begin end n) is = absurd is
line_refusal_format format (outcome.Deadlock cycle) is = absurd is
line_refusal_format format outcome.Device is = absurd is
line_refusal_format format outcome.Memory is = absurd is
line_refusal_format format (outcome.Purge set n) is = absurd is
line_refusal_format format outcome.Format is = absurd is

-- ---- the engine

module _ (engine : Engine) (m : Machine) (s : StandsFor engine m) where
  -- it stands for the machine whatever lines are still to come
  pub stands_before : (lines : List (List ℕ)) → StandsFor engine (record m { lines = lines })
  stands_before lines = record {
    setup = s.setup;
    held = s.held;
    held_short = s.held_short;
    queues = s.queues;
    groups = s.groups;
    takeable = s.takeable;
    busy = s.busy;
    regions = s.regions;
    numbers = s.numbers;
    locks = s.locks;
    rows = s.rows;
    of = s.of;
    msdbs = s.msdbs;
    past = s.past;
    format = s.format;
    read = s.read;
    lasts = s.lasts;
    places = s.places;
    count = s.count;
    sealed = s.sealed;
    unsealed = s.unsealed;
    owed = s.owed;
    made = s.made;
    room = s.room;
    spare = s.spare;
    slots = s.slots;
  }

  -- another line is held, or none
  pub holds : (line : Option (List ℕ)) → IfSome line IsShort
      → StandsFor (record engine { held = line }) (record m { held = line })
  holds line short = record {
    setup = s.setup;
    held = refl;
    held_short = short;
    queues = s.queues;
    groups = s.groups;
    takeable = s.takeable;
    busy = s.busy;
    regions = s.regions;
    numbers = s.numbers;
    locks = s.locks;
    rows = s.rows;
    of = s.of;
    msdbs = s.msdbs;
    past = s.past;
    format = s.format;
    read = s.read;
    lasts = s.lasts;
    places = s.places;
    count = s.count;
    sealed = s.sealed;
    unsealed = s.unsealed;
    owed = s.owed;
    made = s.made;
    room = s.room;
    spare = s.spare;
    slots = s.slots;
  }

  -- a message is the last of its group's queue, and its terminal is busy
  pub queued_stands : (message : Message) (kind : Kind) (backlog : Backlog)
      → kind ≡ engine.defs.now.router
      → IsTakeable engine.format engine.scripts.now.scripts message
      → backlog.queues ≡ queued_at (group_for kind message engine.queues - 1) message engine.queues.queues
      → AreSame backlog.busy (engine.queues.busy ++ message.lterm ∷ [])
      → StandsFor (record engine { queues = backlog }) (with_message (rules_in engine) message m)
  queued_stands message kind backlog routed takeable queued marked =
      let long : length engine.queues.queues ≡ groups_defined engine.defs.now = ap length s.queues ∙ s.groups in
      let place : ℕ = group_of engine.defs.now.router (groups_defined engine.defs.now) message.tran - 1 in
      record {
        setup = s.setup;
        held = s.held;
        held_short = s.held_short;
        queues = queued
            ∙ ap (λ k. queued_at (group_of k (length engine.queues.queues) message.tran - 1) message
            engine.queues.queues) routed
            ∙ ap (λ n. queued_at (group_of engine.defs.now.router n message.tran - 1) message engine.queues.queues) long
            ∙ ap (queued_at place message) s.queues;
        groups = queued_long place message m.queues ∙ s.groups;
        takeable = all_queued (IsTakeable engine.format engine.scripts.now.scripts) place message m.queues s.takeable
            takeable;
        busy = same_then backlog.busy (engine.queues.busy ++ message.lterm ∷ []) (m.busy ++ message.lterm ∷ [])
            marked (same_more engine.queues.busy m.busy (message.lterm ∷ []) s.busy);
        regions = s.regions;
        numbers = s.numbers;
        locks = s.locks;
        rows = s.rows;
        of = s.of;
        msdbs = s.msdbs;
        past = s.past;
        format = s.format;
        read = s.read;
        lasts = s.lasts;
        places = s.places;
        count = s.count;
        sealed = s.sealed;
        unsealed = s.unsealed;
        owed = s.owed;
        made = s.made;
        room = s.room;
        spare = s.spare;
        slots = s.slots;
      }

  -- a line has the entry of its refusal, its terminal is busy, and its number is kept
  pub refused_stands : (o : Outcome) (line : List ℕ) (e : Entry) (backlog : Backlog) (log : LogState)
      → (owed : VecDeque Owed Global) (lasts : Numbered)
      → IsRefusal o
      → e ≡ record {
        from = engine.log.sealed + length engine.log.unsealed;
        outcome = o;
        line = line;
        reply = [];
        notes = [];
        items = [];
      }
      → backlog.queues ≡ engine.queues.queues
      → AreSame backlog.busy (engine.queues.busy ++ terminal_in (terminal_of line))
      → log.sealed ≡ engine.log.sealed
      → log.unsealed ≡ engine.log.unsealed ++ e ∷ []
      → owed.items ≡ engine.owed.items ++ owed_of e ∷ []
      → length engine.owed.items + (length engine.regions + 1) ≤ deque_capacity owed
      → engine.room ≤ log.spare
      → lasts.terminals ≡ with_used (last_by engine.format (refused_line o line)) engine.lasts.terminals
      → length engine.regions ≤ lasts.spare
      → StandsFor (record engine { queues = backlog; log = log; owed = owed; lasts = lasts })
      (with_refusal (rules_in engine) o line m)
  refused_stands o line e backlog log owed lasts allowed is queues marked sealed unsealed is_owed slots spare used
      numbers =
      let here : Entry = entry_here m o line [] in
      let same : e ≡ here = is ∙ ap (λ (from : ℕ). record here { from = from }) s.count in
      let entries : log.unsealed ≡ engine.log.unsealed ++ here ∷ [] =
      unsealed ∙ ap (λ (x : Entry). engine.log.unsealed ++ x ∷ []) same in
      let all_owed : owed.items ≡ engine.owed.items ++ owed_of here ∷ [] =
      is_owed ∙ ap (λ (x : Entry). engine.owed.items ++ owed_of x ∷ []) same in
      let one : length (m.history.entries ++ here ∷ []) ≡ length m.history.entries + 1 =
      length-append m.history.entries (here ∷ []) in
      let state : length (m.history.past ++ m.history.now ∷ []) ≡ length m.history.past + 1 =
      length-append m.history.past (m.history.now ∷ []) in
      let more : length (engine.log.unsealed ++ here ∷ []) ≡ length engine.log.unsealed + 1 =
      length-append engine.log.unsealed (here ∷ []) in
      let count : log.sealed + length log.unsealed ≡ length m.history.entries + 1 =
      rw (sealed, entries) (omega (arith, s.count, more)) in
      let before : m.sealed ≤ length m.history.entries = omega (arith, s.count, s.sealed) in
      record {
        setup = s.setup;
        held = s.held;
        held_short = s.held_short;
        queues = queues ∙ s.queues;
        groups = s.groups;
        takeable = s.takeable;
        busy = same_then backlog.busy (engine.queues.busy ++ terminal_in (terminal_of line))
            (m.busy ++ terminal_in (terminal_of line)) marked
            (same_more engine.queues.busy m.busy (terminal_in (terminal_of line)) s.busy);
        regions = s.regions;
        numbers = s.numbers;
        locks = s.locks;
        rows = s.rows;
        of = s.of;
        msdbs = s.msdbs;
        past = state ∙ omega (arith, s.past) ∙ sym one;
        format = format_more m.history.format m.history.entries here engine.format s.format
            (line_refusal_format engine.format o allowed);
        read = s.read;
        lasts = lasts_more m.history.format m.history.entries here engine.format engine.lasts.terminals lasts.terminals
            s.format s.lasts used;
        places =
            let few = at_work_few m.regions in
            let long : length engine.regions ≡ length m.regions = regions_long engine m s ∙ sym s.numbers in
            omega (arith, few, long, numbers);
        count = count ∙ sym one;
        sealed = sealed ∙ s.sealed;
        unsealed = entries ∙ ap (λ (xs : List Entry). xs ++ here ∷ []) s.unsealed
            ∙ sym (drop-append-le m.sealed m.history.entries (here ∷ []) before);
        owed = all_owed ∙ ap (λ xs. xs ++ owed_of here ∷ []) s.owed
            ∙ sym (map_snoc owed_of engine.log.unsealed here) ∙ ap (map owed_of) (sym entries);
        made = made_more engine.defs.now (first_place m) m.history here m.history.now s.past s.made
            (makes_nothing engine.defs.now m.history.now here.from o line [] []);
        room = s.room;
        spare = spare;
        slots =
            let few = at_work_few m.regions in
            let long : length engine.regions ≡ length m.regions = regions_long engine m s ∙ sym s.numbers in
            let grown : length owed.items ≡ length engine.owed.items + 1 =
            ap length all_owed ∙ length-append engine.owed.items (owed_of here ∷ []) in
            omega (arith, few, long, grown, slots);
      }

  -- ---- a line is taken

  module _ (line : List ℕ) where
    -- whether it waits
    pub waits : list_any (is_among engine.queues.busy) (terminal_in (terminal_of line))
        ≡ list_any (is_among m.busy) (terminal_in (terminal_of line))
    waits = waits_same engine.queues.busy m.busy s.busy (terminal_of line)

    -- it waits for its terminal,
    pub taken_held : list_any (is_among engine.queues.busy) (terminal_in (terminal_of line)) ≡ true → IsShort line
        → StandsFor (record engine { held = Some line }) (with_line (rules_in engine) line m)
    taken_held is short =
        subst (λ b. StandsFor (record engine { held = Some line }) (if b then record m { held = Some line } else
        with_request_of (rules_in engine) line (request_of engine.scripts.now.scripts m.history line) m))
        (sym (sym waits ∙ is))
        (holds (Some line) short)

    -- or what it asks for is done
    pub taken : (new : Engine) (request : Request)
        → list_any (is_among engine.queues.busy) (terminal_in (terminal_of line)) ≡ false
        → request_of engine.scripts.now.scripts m.history line ≡ request
        → StandsFor new (with_request_of (rules_in engine) line request m)
        → StandsFor new (with_line (rules_in engine) line m)
    taken new request is asks stands =
        subst (λ b. StandsFor new (if b then record m { held = Some line } else
        with_request_of (rules_in engine) line (request_of engine.scripts.now.scripts m.history line) m))
        (sym (sym waits ∙ is))
        (subst (λ r. StandsFor new (with_request_of (rules_in engine) line r m)) (sym asks) stands)

-- ---- IN

-- a line that is taken reads no other
pub lines_kept : (rules : Rules) (line : List ℕ) (m : Machine) → (with_line rules line m).lines ≡ m.lines
lines_kept rules line m =
    by (list_any (is_among m.busy) (terminal_in (rules.terminal_of line))) (rules.request_of m.history line)
  where
    by : (b : Bool) (r : Request)
        → (if b then record m { held = Some line } else with_request_of rules line r m).lines ≡ m.lines
    by true r = refl
    by false (Accepts message) = refl
    by false (Refuses o) = refl

-- Where no line waits, the next is taken,
module _ (engine new : Engine) (m : Machine) (line : List ℕ) (rest : List (List ℕ)) (given : Did)
    (none : m.held ≡ None)
    (rules : rules_in new ≡ rules_in engine)
    (is : given ≡ did_with (rules_in engine) m line)
    (stands : StandsFor new (with_line (rules_in engine) line (record m { lines = rest }))) where
  abbrev pub next_turned : Turned event.In (record m { lines = line ∷ rest }) new given
  next_turned =
      let after : Machine = with_line (rules_in engine) line (record m { lines = rest }) in
      let ahead : Machine = record m { lines = line ∷ rest } in
      record {
        after = after;
        environment = NoFault;
        turn = subst (λ (r : Rules). after ≡ taken_in r ahead) (sym rules)
            (ap (λ (h : Option (List ℕ)). option_map_or (λ l. with_line (rules_in engine) l
            (option_map_or (λ held. record ahead { held = None }) h (record ahead { lines = rest })))
            (unwrap_or (option_map_or (λ held. Some (Some held)) h None) (Some line)) ahead) (sym none));
        is_did = subst (λ (r : Rules). given ≡ option_map_or (did_with r ahead) (next_line ahead) did.Nothing)
            (sym rules)
            (is ∙ ap (λ (h : Option (List ℕ)). option_map_or (did_with (rules_in engine) ahead)
            (unwrap_or (option_map_or (λ held. Some (Some held)) h None) (Some line)) did.Nothing) (sym none));
        no_device = λ e. subst is_device (sym e) tt;
        stands = stands;
      }

  abbrev pub next_stepped : (old_lines new_lines : Lines) → lines_given new_lines ≡ lines_given old_lines + 1
      → Stepped event.In (record m { lines = line ∷ rest }) old_lines new_lines new given
  next_stepped old_lines new_lines more = record {
    turned = next_turned;
    given =
        let kept : length (with_line (rules_in engine) line (record m { lines = rest })).lines ≡ length rest =
        ap length (lines_kept (rules_in engine) line (record m { lines = rest })) in
        omega (arith, kept, more);
  }

  pub next_stepped_by : (old_lines new_lines : Lines) (left : List ℕ)
      → lines_given new_lines ≡ lines_given old_lines + 1
      → m.lines ≡ line ∷ rest → rest ≡ lines_ahead new_lines left
      → SteppedBy event.In m old_lines new_lines left new given
  next_stepped_by old_lines new_lines left more ahead behind =
      subst (λ (ls : List (List ℕ)). SteppedBy event.In (record m { lines = ls }) old_lines new_lines left new given)
      (sym ahead)
      (record {
        stepped = next_stepped old_lines new_lines more;
        lines_are = lines_kept (rules_in engine) line (record m { lines = rest }) ∙ behind;
      })

-- or there is none, and nothing is done.
module _ (engine : Engine) (m : Machine) (s : StandsFor engine m) (none : m.held ≡ None) where
  abbrev pub last_turned : Turned event.In (record m { lines = [] }) engine did.Nothing
  last_turned =
      let ahead : Machine = record m { lines = [] } in
      record {
        after = ahead;
        environment = NoFault;
        turn = ap (λ (h : Option (List ℕ)). option_map_or (λ l. with_line (rules_in engine) l
            (option_map_or (λ held. record ahead { held = None }) h ahead))
            (unwrap_or (option_map_or (λ held. Some (Some held)) h None) None) ahead) (sym none);
        is_did = ap (λ (h : Option (List ℕ)). option_map_or (did_with (rules_in engine) ahead)
            (unwrap_or (option_map_or (λ held. Some (Some held)) h None) None) did.Nothing) (sym none);
        no_device = λ e. subst is_device (sym e) tt;
        stands = stands_before engine m s [];
      }

  abbrev pub last_stepped : (old_lines new_lines : Lines) → lines_given new_lines ≡ lines_given old_lines
      → Stepped event.In (record m { lines = [] }) old_lines new_lines engine did.Nothing
  last_stepped old_lines new_lines still = record { turned = last_turned; given = omega (arith, still) }

  pub last_stepped_by : (old_lines new_lines : Lines) (left : List ℕ) → lines_given new_lines ≡ lines_given old_lines
      → m.lines ≡ [] → [] ≡ lines_ahead new_lines left
      → SteppedBy event.In m old_lines new_lines left engine did.Nothing
  last_stepped_by old_lines new_lines left still ahead behind =
      subst (λ (ls : List (List ℕ)). SteppedBy event.In (record m { lines = ls }) old_lines new_lines left engine
      did.Nothing) (sym ahead)
      (record { stepped = last_stepped old_lines new_lines still; lines_are = behind })

-- The line that waits is taken first.
module _ (engine new : Engine) (m : Machine) (line : List ℕ) (given : Did)
    (waits : m.held ≡ Some line)
    (rules : rules_in new ≡ rules_in engine)
    (is : given ≡ did_with (rules_in engine) m line)
    (stands : StandsFor new (with_line (rules_in engine) line (record m { held = None }))) where
  abbrev pub held_turned : Turned event.In m new given
  held_turned =
      let after : Machine = with_line (rules_in engine) line (record m { held = None }) in
      record {
        after = after;
        environment = NoFault;
        turn = subst (λ (r : Rules). after ≡ taken_in r m) (sym rules)
            (ap (λ (h : Option (List ℕ)). option_map_or (λ l. with_line (rules_in engine) l
            (option_map_or (λ held. record m { held = None }) h (record m { lines = drop 1 m.lines })))
            (unwrap_or (option_map_or (λ held. Some (Some held)) h None) (slice_get m.lines 0)) m) (sym waits));
        is_did = subst (λ (r : Rules). given ≡ option_map_or (did_with r m) (next_line m) did.Nothing) (sym rules)
            (is ∙ ap (λ (h : Option (List ℕ)). option_map_or (did_with (rules_in engine) m)
            (unwrap_or (option_map_or (λ held. Some (Some held)) h None) (slice_get m.lines 0)) did.Nothing)
            (sym waits));
        no_device = λ e. subst is_device (sym e) tt;
        stands = stands;
      }

  abbrev pub held_stepped : (lines : Lines) → Stepped event.In m lines lines new given
  held_stepped lines = record {
    turned = held_turned;
    given = ap (λ (ls : List (List ℕ)). lines_given lines + length ls)
        (lines_kept (rules_in engine) line (record m { held = None }));
  }

  pub held_stepped_by : (lines : Lines) (left : List ℕ) → m.lines ≡ lines_ahead lines left
      → SteppedBy event.In m lines lines left new given
  held_stepped_by lines left ahead = record {
    stepped = held_stepped lines;
    lines_are = lines_kept (rules_in engine) line (record m { held = None }) ∙ ahead;
  }
