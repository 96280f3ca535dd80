-- What each turn leaves as it is.
use Rattle.std.proofs.Common.{◌≡◌, ℕ, zero, suc, ◌-◌, List, [], ◌∷◌, ◌++◌, Bool, true, false, Option, Some, None, refl, sym, ap, ◌∙◌, subst}
use Rattle.std.proofs.lemmas.List.{append-nil}
use Rattle.std.specs.Prelude.{if◌then◌else◌, nat_lt, drop}
use Rattle.std.specs.List.{list_any}
use Rattle.std.specs.Option.{option_map_or}
use Rattle.fp_model.specs.declared.database.Db.{Db}
use Rattle.fp_model.specs.declared.calls.Message.{Message}
use Rattle.fp_model.specs.declared.events.Event.{Event}
use Rattle.fp_model.specs.declared.events.Event.TheVariants as event
use Rattle.fp_model.specs.declared.log.Entry.{Entry}
use Rattle.fp_model.specs.declared.log.Outcome.TheVariants as outcome
use Rattle.fp_model.specs.History.{History, Request, Accepts, Refuses, place_of}
use Rattle.fp_model.specs.Rules.{Rules}
use Rattle.fp_model.specs.Machine.{Transaction, Region, Idle, Active, Machine, region_at, with_region, entry_here, ended_with, without_locks, next_line, without_line, with_request_of, with_line, taken_in, is_among, terminal_in, next_group, with_group, sealed_once, sealed_times}
use Rattle.fp_model.specs.Turns.{Environment, NoFault, DeviceFault, OutOfMemory, Act, Answers, Gains, Waits, Deadlocks, Retries_at_cycle, Finishes, Retries_at_verify, Does, RegionTurn, PurgeTurn, Turn, is_area_held, begins_in, messages_for, tried_again}
use Rattle.fp_model.specs.Frames.{KeepsLines, KeepsSealed, KeepsRegions, KeepsHistory, Keeps, AddsEntries}

-- ---- choices

-- what is so either way is so of a choice
either_bool : {X : Type 0} (P : X → Type 0) (b : Bool) (x y : X) → P x → P y → P (if b then x else y)
either_bool P true x y p q = p
either_bool P false x y p q = q

either_option : {X Y : Type 0} (P : Y → Type 0) (o : Option X) (f : X → Y) (d : Y) → ((x : X) → P (f x)) → P d
    → P (option_map_or f o d)
either_option P None f d p q = q
either_option P (Some x) f d p q = p x

-- ---- IN

abbrev InKeeps : Machine → Machine → Type 0
InKeeps m m2 = KeepsSealed m m2 × KeepsRegions m m2

same_in : (m : Machine) → InKeeps m m
same_in m =
    (record { sealed = refl; groups = refl; sent = refl }, record { regions = refl; locks = refl; requests = refl })

request_keeps : (rules : Rules) (line : List ℕ) (r : Request) (m m2 : Machine) → InKeeps m m2
    → InKeeps m (with_request_of rules line r m2)
request_keeps rules line (Accepts message) m m2 k = (
  record { sealed = k.0.sealed; groups = k.0.groups; sent = k.0.sent },
  record { regions = k.1.regions; locks = k.1.locks; requests = k.1.requests },
)
request_keeps rules line (Refuses outcome) m m2 k = (
  record { sealed = k.0.sealed; groups = k.0.groups; sent = k.0.sent },
  record { regions = k.1.regions; locks = k.1.locks; requests = k.1.requests },
)

line_keeps : (rules : Rules) (line : List ℕ) (m m2 : Machine) → InKeeps m m2 → InKeeps m (with_line rules line m2)
line_keeps rules line m m2 k =
    let pass : Machine → Type 0 = λ x. InKeeps m x in
    either_bool pass (list_any (is_among m2.busy) (terminal_in (rules.terminal_of line))) _ _ (
      record { sealed = k.0.sealed; groups = k.0.groups; sent = k.0.sent },
      record { regions = k.1.regions; locks = k.1.locks; requests = k.1.requests },
    )
    (request_keeps rules line (rules.request_of m2.history line) m m2 k)

taken_keeps : (rules : Rules) (m : Machine) → InKeeps m (taken_in rules m)
taken_keeps rules m =
    let pass : Machine → Type 0 = λ x. InKeeps m x in
    either_option pass (next_line m) (λ line. with_line rules line (without_line m)) m
    (λ line. line_keeps rules line m (without_line m)
    (either_option pass m.held (λ l. record m { held = None }) (record m { lines = drop 1 m.lines })
    (λ l. (
      record { sealed = refl; groups = refl; sent = refl },
      record { regions = refl; locks = refl; requests = refl },
    ))
    (record { sealed = refl; groups = refl; sent = refl }, record { regions = refl; locks = refl; requests = refl })))
    (same_in m)

-- ---- LOG and CKPT

abbrev LogKeeps : Machine → Machine → Type 0
LogKeeps m m2 = KeepsLines m m2 × (m2.queues ≡ m.queues) × KeepsRegions m m2 × KeepsHistory m m2

once_keeps : (rules : Rules) (m m2 : Machine) → LogKeeps m m2 → LogKeeps m (sealed_once rules m2)
once_keeps rules m m2 k =
    let pass : Machine → Type 0 = λ x. LogKeeps m x in
    either_bool pass (nat_lt m2.sealed (place_of m2.history)) (with_group rules (next_group rules m2) m2) m2 (
      record { lines = k.0.lines; held = k.0.held },
      k.1,
      record { regions = k.2.regions; locks = k.2.locks; requests = k.2.requests },
      k.3,
    )
    k

same_log : (m : Machine) → LogKeeps m m
same_log m =
    (record { lines = refl; held = refl }, refl, record { regions = refl; locks = refl; requests = refl }, refl)

times_keep : (n : ℕ) (rules : Rules) (m m2 : Machine) → LogKeeps m m2 → LogKeeps m (sealed_times n rules m2)
times_keep zero rules m m2 k = k
times_keep (suc n) rules m m2 k = times_keep n rules m (sealed_once rules m2) (once_keeps rules m m2 k)

-- ---- regions

abbrev RegionKeeps : Machine → Machine → Type 0
RegionKeeps m m2 = KeepsLines m m2 × KeepsSealed m m2 × (m2.busy ≡ m.busy)

same_region : (m : Machine) → RegionKeeps m m
same_region m = (record { lines = refl; held = refl }, record { sealed = refl; groups = refl; sent = refl }, refl)

put_keeps : (region : ℕ) (r : Region) (m m2 : Machine) → RegionKeeps m m2 → RegionKeeps m (with_region region r m2)
put_keeps zero r m m2 k = k
put_keeps (suc place) r m m2 k = (
  record { lines = k.0.lines; held = k.0.held },
  record { sealed = k.1.sealed; groups = k.1.groups; sent = k.1.sent },
  k.2,
)

unlocked_keeps : (region : ℕ) (m : Machine) → RegionKeeps m (without_locks region m)
unlocked_keeps region m =
    (record { lines = refl; held = refl }, record { sealed = refl; groups = refl; sent = refl }, refl)

ended_keeps : (region : ℕ) (e : Entry) (next : Db) (m : Machine) → RegionKeeps m (ended_with region e next m)
ended_keeps region e next m =
    let k : RegionKeeps m (with_region region Idle (without_locks region m)) = put_keeps region Idle m
    (without_locks region m) (unlocked_keeps region m) in (
      record { lines = k.0.lines; held = k.0.held },
      record { sealed = k.1.sealed; groups = k.1.groups; sent = k.1.sent },
      k.2,
    )

tried_keeps : (rules : Rules) (region : ℕ) (t : Transaction) (m : Machine)
    → RegionKeeps m (tried_again rules region t m)
tried_keeps rules region t m = put_keeps region _ m (without_locks region m) (unlocked_keeps region m)

-- what is so of the machine that a turn leads to
led : (P : Machine → Type 0) (x m2 : Machine) → m2 ≡ x → P x → P m2
led P x m2 e p = subst P (sym e) p

does_keeps : (rules : Rules) (m : Machine) (region : ℕ) (t : Transaction) (act : Act) (m2 : Machine)
    → Does rules m region t act m2 → RegionKeeps m m2
does_keeps rules m region t (Answers call) m2 d =
    led (λ x. RegionKeeps m x) _ m2 d.2 (put_keeps region _ m m (same_region m))
does_keeps rules m region t (Gains needed) m2 d =
    led (λ x. RegionKeeps m x) _ m2 d.2
    (record { lines = refl; held = refl }, record { sealed = refl; groups = refl; sent = refl }, refl)
does_keeps rules m region t (Waits needed) m2 d =
    led (λ x. RegionKeeps m x) _ m2 d.3
    (record { lines = refl; held = refl }, record { sealed = refl; groups = refl; sent = refl }, refl)
does_keeps rules m region t (Deadlocks needed cycle) m2 d =
    led (λ x. RegionKeeps m x) _ m2 d.2 (ended_keeps region _ m.history.now m)
does_keeps rules m region t (Retries_at_cycle needed cycle) m2 d =
    led (λ x. RegionKeeps m x) _ m2 d.2 (tried_keeps rules region t m)
does_keeps rules m region t (Finishes ending items) m2 d =
    led (λ x. RegionKeeps m x) _ m2 d.3 (ended_keeps region _ ending.next m)
does_keeps rules m region t (Retries_at_verify ending) m2 d =
    led (λ x. RegionKeeps m x) _ m2 d.3 (tried_keeps rules region t m)

begins_keeps : (rules : Rules) (m : Machine) (region : ℕ) (messages : List Message)
    → RegionKeeps m (begins_in rules m region messages)
begins_keeps rules m region [] = same_region m
begins_keeps rules m region (message ∷ messages) =
    put_keeps region _ m _
    (record { lines = refl; held = refl }, record { sealed = refl; groups = refl; sent = refl }, refl)

region_keeps : (rules : Rules) (m : Machine) (region : ℕ) (r : Option Region) (v : Environment) (m2 : Machine)
    → RegionTurn rules m region r v m2 → RegionKeeps m m2
region_keeps rules m region None v m2 d = absurd d
region_keeps rules m region (Some Idle) NoFault m2 d =
    led (λ x. RegionKeeps m x) _ m2 d (begins_keeps rules m region (messages_for rules m region))
region_keeps rules m region (Some Idle) DeviceFault m2 d = absurd d
region_keeps rules m region (Some Idle) OutOfMemory m2 d = absurd d
region_keeps rules m region (Some (Active t)) NoFault m2 d = does_keeps rules m region t d.0 m2 d.1
region_keeps rules m region (Some (Active t)) DeviceFault m2 d =
    led (λ x. RegionKeeps m x) _ m2 d (ended_keeps region _ m.history.now m)
region_keeps rules m region (Some (Active t)) OutOfMemory m2 d =
    led (λ x. RegionKeeps m x) _ m2 d (ended_keeps region _ m.history.now m)

-- ---- PURGE

abbrev PurgeKeeps : Machine → Machine → Type 0
PurgeKeeps m m2 = KeepsLines m m2 × KeepsSealed m m2 × KeepsRegions m m2 × (m2.queues ≡ m.queues) × (m2.busy ≡ m.busy)

purge_keeps : (rules : Rules) (m : Machine) (set n : ℕ) (is_held : Bool) (m2 : Machine)
    → PurgeTurn rules m set n is_held m2 → PurgeKeeps m m2
purge_keeps rules m set n true m2 d =
    led (λ x. PurgeKeeps m x) _ m2 d (
      record { lines = refl; held = refl },
      record { sealed = refl; groups = refl; sent = refl },
      record { regions = refl; locks = refl; requests = refl },
      refl,
      refl,
    )
purge_keeps rules m set n false m2 d =
    led (λ x. PurgeKeeps m x) _ m2 d.after (
      record { lines = refl; held = refl },
      record { sealed = refl; groups = refl; sent = refl },
      record { regions = refl; locks = refl; requests = refl },
      refl,
      refl,
    )

purge_same : (m m2 : Machine) → m2 ≡ m → PurgeKeeps m m2
purge_same m m2 e =
    led (λ x. PurgeKeeps m x) m m2 e (
      record { lines = refl; held = refl },
      record { sealed = refl; groups = refl; sent = refl },
      record { regions = refl; locks = refl; requests = refl },
      refl,
      refl,
    )

-- ---- every turn

pub turn_keeps : (rules : Rules) (m : Machine) (e : Event) (v : Environment) (m2 : Machine) → Turn rules m e v m2
    → Keeps e m m2
turn_keeps rules m event.In NoFault m2 d = led (λ x. InKeeps m x) _ m2 d (taken_keeps rules m)
turn_keeps rules m event.In DeviceFault m2 d = absurd d
turn_keeps rules m event.In OutOfMemory m2 d = absurd d
turn_keeps rules m (event.Region region) v m2 d = region_keeps rules m region (region_at m region) v m2 d
turn_keeps rules m event.Log NoFault m2 d = led (λ x. LogKeeps m x) _ m2 d (once_keeps rules m m (same_log m))
turn_keeps rules m event.Log DeviceFault m2 d = absurd d
turn_keeps rules m event.Log OutOfMemory m2 d = absurd d
turn_keeps rules m event.Out v m2 d = d
turn_keeps rules m event.Ckpt NoFault m2 d =
    led (λ x. LogKeeps m x) _ m2 d (times_keep (place_of m.history - m.sealed) rules m m (same_log m))
turn_keeps rules m event.Ckpt DeviceFault m2 d =
    led (λ x. LogKeeps m x) _ m2 d (times_keep (place_of m.history - m.sealed) rules m m (same_log m))
turn_keeps rules m event.Ckpt OutOfMemory m2 d = absurd d
turn_keeps rules m (event.Purge set n) NoFault m2 d = purge_keeps rules m set n (is_area_held rules m set) m2 d
turn_keeps rules m (event.Purge set n) DeviceFault m2 d = purge_same m m2 d
turn_keeps rules m (event.Purge set n) OutOfMemory m2 d = purge_same m m2 d

-- ---- entries

-- entries, with more of them or without
abbrev Longer : List Entry → List Entry → Type 0
Longer old new = (more : List Entry) × (new ≡ old ++ more)

-- the same entries
none_added : {old new : List Entry} → new ≡ old → Longer old new
none_added {old} {new} e = ([], e ∙ sym (append-nil old))

-- the same entries, and one more
one_added : {old mid new : List Entry} (e : Entry) → mid ≡ old → new ≡ mid ++ e ∷ [] → Longer old new
one_added e same is = (e ∷ [], is ∙ ap (λ (xs : List Entry). xs ++ e ∷ []) same)

request_adds : (rules : Rules) (line : List ℕ) (r : Request) (m m2 : Machine) → m2.history.entries ≡ m.history.entries
    → AddsEntries m (with_request_of rules line r m2)
request_adds rules line (Accepts message) m m2 same = none_added same
request_adds rules line (Refuses outcome) m m2 same = one_added (entry_here m2 outcome line []) same refl

line_adds : (rules : Rules) (line : List ℕ) (m m2 : Machine) → m2.history.entries ≡ m.history.entries
    → AddsEntries m (with_line rules line m2)
line_adds rules line m m2 same =
    let pass : Machine → Type 0 = λ x. AddsEntries m x in
    either_bool pass (list_any (is_among m2.busy) (terminal_in (rules.terminal_of line))) _ _
    (none_added same)
    (request_adds rules line (rules.request_of m2.history line) m m2 same)

line_kept : (m : Machine) → (without_line m).history.entries ≡ m.history.entries
line_kept m =
    let pass : Machine → Type 0 = λ x. x.history.entries ≡ m.history.entries in
    either_option pass m.held (λ l. record m { held = None }) (record m { lines = drop 1 m.lines }) (λ l. refl) refl

taken_adds : (rules : Rules) (m : Machine) → AddsEntries m (taken_in rules m)
taken_adds rules m =
    let pass : Machine → Type 0 = λ x. AddsEntries m x in
    either_option pass (next_line m) (λ line. with_line rules line (without_line m)) m
    (λ line. line_adds rules line m (without_line m) (line_kept m)) (none_added refl)

put_same : (region : ℕ) (r : Region) (m : Machine) → (with_region region r m).history.entries ≡ m.history.entries
put_same zero r m = refl
put_same (suc place) r m = refl

ended_adds : (region : ℕ) (e : Entry) (next : Db) (m : Machine) → AddsEntries m (ended_with region e next m)
ended_adds region e next m = one_added e (put_same region Idle (without_locks region m)) refl

does_adds : (rules : Rules) (m : Machine) (region : ℕ) (t : Transaction) (act : Act) (m2 : Machine)
    → Does rules m region t act m2 → AddsEntries m m2
does_adds rules m region t (Answers call) m2 d = led (λ x. AddsEntries m x) _ m2 d.2 (none_added (put_same region _ m))
does_adds rules m region t (Gains needed) m2 d = led (λ x. AddsEntries m x) _ m2 d.2 (none_added refl)
does_adds rules m region t (Waits needed) m2 d = led (λ x. AddsEntries m x) _ m2 d.3 (none_added refl)
does_adds rules m region t (Deadlocks needed cycle) m2 d =
    led (λ x. AddsEntries m x) _ m2 d.2 (ended_adds region _ m.history.now m)
does_adds rules m region t (Retries_at_cycle needed cycle) m2 d =
    led (λ x. AddsEntries m x) _ m2 d.2 (none_added (put_same region _ (without_locks region m)))
does_adds rules m region t (Finishes ending items) m2 d =
    led (λ x. AddsEntries m x) _ m2 d.3 (ended_adds region _ ending.next m)
does_adds rules m region t (Retries_at_verify ending) m2 d =
    led (λ x. AddsEntries m x) _ m2 d.3 (none_added (put_same region _ (without_locks region m)))

begins_adds : (rules : Rules) (m : Machine) (region : ℕ) (messages : List Message)
    → AddsEntries m (begins_in rules m region messages)
begins_adds rules m region [] = none_added refl
begins_adds rules m region (message ∷ messages) = none_added (put_same region _ _)

region_adds : (rules : Rules) (m : Machine) (region : ℕ) (r : Option Region) (v : Environment) (m2 : Machine)
    → RegionTurn rules m region r v m2 → AddsEntries m m2
region_adds rules m region None v m2 d = absurd d
region_adds rules m region (Some Idle) NoFault m2 d =
    led (λ x. AddsEntries m x) _ m2 d (begins_adds rules m region (messages_for rules m region))
region_adds rules m region (Some Idle) DeviceFault m2 d = absurd d
region_adds rules m region (Some Idle) OutOfMemory m2 d = absurd d
region_adds rules m region (Some (Active t)) NoFault m2 d = does_adds rules m region t d.0 m2 d.1
region_adds rules m region (Some (Active t)) DeviceFault m2 d =
    led (λ x. AddsEntries m x) _ m2 d (ended_adds region _ m.history.now m)
region_adds rules m region (Some (Active t)) OutOfMemory m2 d =
    led (λ x. AddsEntries m x) _ m2 d (ended_adds region _ m.history.now m)

purge_adds : (rules : Rules) (m : Machine) (set n : ℕ) (is_held : Bool) (m2 : Machine)
    → PurgeTurn rules m set n is_held m2 → AddsEntries m m2
purge_adds rules m set n true m2 d = led (λ x. AddsEntries m x) _ m2 d (none_added refl)
purge_adds rules m set n false m2 d =
    led (λ x. AddsEntries m x) _ m2 d.after (one_added (entry_here m (outcome.Purge set n) [] d.items) refl refl)

-- a turn takes no entry back
pub turn_adds : (rules : Rules) (m : Machine) (e : Event) (v : Environment) (m2 : Machine) → Turn rules m e v m2
    → AddsEntries m m2
turn_adds rules m event.In NoFault m2 d = led (λ x. AddsEntries m x) _ m2 d (taken_adds rules m)
turn_adds rules m event.In DeviceFault m2 d = absurd d
turn_adds rules m event.In OutOfMemory m2 d = absurd d
turn_adds rules m (event.Region region) v m2 d = region_adds rules m region (region_at m region) v m2 d
turn_adds rules m event.Log NoFault m2 d =
    led (λ x. AddsEntries m x) _ m2 d
    (none_added (ap (λ (h : History). h.entries) (once_keeps rules m m (same_log m)).3))
turn_adds rules m event.Log DeviceFault m2 d = absurd d
turn_adds rules m event.Log OutOfMemory m2 d = absurd d
turn_adds rules m event.Out v m2 d = led (λ x. AddsEntries m x) m m2 d (none_added refl)
turn_adds rules m event.Ckpt NoFault m2 d =
    led (λ x. AddsEntries m x) _ m2 d
    (none_added (ap (λ (h : History). h.entries) (times_keep (place_of m.history - m.sealed) rules m m (same_log m)).3))
turn_adds rules m event.Ckpt DeviceFault m2 d =
    led (λ x. AddsEntries m x) _ m2 d
    (none_added (ap (λ (h : History). h.entries) (times_keep (place_of m.history - m.sealed) rules m m (same_log m)).3))
turn_adds rules m event.Ckpt OutOfMemory m2 d = absurd d
turn_adds rules m (event.Purge set n) NoFault m2 d = purge_adds rules m set n (is_area_held rules m set) m2 d
turn_adds rules m (event.Purge set n) DeviceFault m2 d = led (λ x. AddsEntries m x) m m2 d (none_added refl)
turn_adds rules m (event.Purge set n) OutOfMemory m2 d = led (λ x. AddsEntries m x) m m2 d (none_added refl)
