-- No turn changes the format in which lines are read.
use Rattle.std.proofs.Common.{◌≡◌, refl, sym, ◌∙◌, ap, subst, ℕ, zero, suc, ◌-◌, List, [], ◌∷◌, ◌++◌, Bool, true, false, Option, Some, None, drop}
use Rattle.std.specs.Prelude.{if◌then◌else◌}
use Rattle.std.specs.List.{list_any}
use Rattle.std.specs.Option.{option_map_or}
use Rattle.fp_model.specs.declared.database.Db.{Db}
use Rattle.fp_model.specs.declared.calls.Message.{Message}
use Rattle.fp_model.specs.declared.events.Event.{Event}
use Rattle.fp_model.specs.declared.events.Event.TheVariants as event
use Rattle.fp_model.specs.declared.log.Entry.{Entry}
use Rattle.fp_model.specs.declared.log.Outcome.{Outcome}
use Rattle.fp_model.specs.declared.log.Outcome.TheVariants as outcome
use Rattle.fp_model.specs.Asking.{Ask, Asks, Replies, Rolls}
use Rattle.fp_model.specs.Commit.{Settlement, Commits, FailsVerify, FillsPart}
use Rattle.fp_model.specs.History.{History, Request, Accepts, Refuses, with_entry}
use Rattle.fp_model.specs.Lasts.{format_at, format_behind}
use Rattle.fp_model.specs.Machine.{Transaction, Region, Idle, Active, Machine, region_at, with_region, entry_here, ended_with, without_locks, next_line, without_line, with_request_of, with_line, taken_in, is_among, terminal_in}
use Rattle.fp_model.specs.Rules.{Rules}
use Rattle.fp_model.specs.Runs.{RunStep, Runs}
use Rattle.fp_model.specs.Serial.{Ending, refused_as, settled_as}
use Rattle.fp_model.specs.Turns.{Environment, NoFault, DeviceFault, OutOfMemory, Act, Answers, Gains, Waits, Deadlocks, Retries_at_cycle, Finishes, Retries_at_verify, Does, RegionTurn, PurgeTurn, Turn, asks, begins_in, ending_of, is_area_held, messages_for}
use Rattle.fp_model.proofs.FrameLemmas.{turn_keeps}
use Rattle.fp_core.proofs.Ends.{format_more}
use Rattle.serial_order.specs.Laws.{IsRefusal}
use Rattle.sealed_runs.specs.Behind.{KeepsFormat}
use Rattle.std.proofs.lemmas.Option.{same_Some}

-- such an outcome leaves the format
abbrev IsPlain : Outcome → Type 0
IsPlain o = (format : ℕ) → format_behind format o ≡ format

refusal_plain : (o : Outcome) → IsRefusal o → IsPlain o
refusal_plain outcome.Unknown is format = refl
refusal_plain (outcome.Old last) is format = refl
refusal_plain (outcome.Repeat kept) is format = refl
refusal_plain outcome.Done is format = absurd is
refusal_plain (outcome.Verify call fsa found) is format = absurd is
refusal_plain (outcome.Roll code) is format = absurd is
refusal_plain (outcome.SeqFull set begin end n) is format = absurd is
refusal_plain (outcome.Deadlock cycle) is format = absurd is
refusal_plain outcome.Device is format = absurd is
refusal_plain outcome.Memory is format = absurd is
refusal_plain (outcome.Purge set n) is format = absurd is
refusal_plain outcome.Format is format = absurd is

-- ---- histories

same_history : {m m2 : Machine} → m2.history ≡ m.history → KeepsFormat m m2
same_history {m} {m2} same = record {
  front = ap (λ (h : History). h.format) same;
  now = ap (λ (h : History). format_at h.format h.entries) same;
}

led : (m mid m2 : Machine) → m2 ≡ mid → KeepsFormat m mid → KeepsFormat m m2
led m mid m2 e k = subst (λ (x : Machine). KeepsFormat m x) (sym e) k

-- one entry more, that isn't a Format
one_more : {m m2 : Machine} (e : Entry) (next : Db) → m2.history ≡ with_entry e next m.history → IsPlain e.outcome
    → KeepsFormat m m2
one_more {m} {m2} e next is plain = record {
  front = ap (λ (h : History). h.format) is;
  now = ap (λ (h : History). format_at h.format h.entries) is
      ∙ format_more m.history.format m.history.entries e (format_at m.history.format m.history.entries) refl
      (plain (format_at m.history.format m.history.entries));
}

put_history : (region : ℕ) (r : Region) (m : Machine) → (with_region region r m).history ≡ m.history
put_history zero r m = refl
put_history (suc place) r m = refl

ended : (region : ℕ) (e : Entry) (next : Db) (m : Machine) → IsPlain e.outcome
    → KeepsFormat m (ended_with region e next m)
ended region e next m plain =
    one_more e next (ap (with_entry e next) (put_history region Idle (without_locks region m))) plain

module _ (rules : Rules)
    (refuses : (h : History) (line : List ℕ) (o : Outcome) → rules.request_of h line ≡ Refuses o → IsRefusal o) where
  -- ---- a region's turn

  settled_plain : (now : Db) (reply : List ℕ) (s : Settlement) → IsPlain (settled_as now reply s).outcome
  settled_plain now reply (Commits next) format = refl
  settled_plain now reply (FailsVerify call fsa found) format = refl
  settled_plain now reply (FillsPart set begin end n) format = refl

  ending_plain : (now : Db) (t : Transaction) (ask : Ask) (ending : Ending) → ending_of rules now t ask ≡ Some ending
      → IsPlain ending.outcome
  ending_plain now t (Asks call) ending e = absurd cc
  ending_plain now t (Replies reply) ending e =
      subst (λ (x : Ending). IsPlain x.outcome)
      (same_Some (settled_as now reply (rules.settle now t.point.own)) ending e)
      (settled_plain now reply (rules.settle now t.point.own))
  ending_plain now t (Rolls code) ending e =
      subst (λ (x : Ending). IsPlain x.outcome) (same_Some (refused_as (outcome.Roll code) now) ending e)
      (λ format. refl)

  does_keep : (m : Machine) (region : ℕ) (t : Transaction) (act : Act) (m2 : Machine) → Does rules m region t act m2
      → KeepsFormat m m2
  does_keep m region t (Answers call) m2 d = led m _ m2 d.2 (same_history (put_history region _ m))
  does_keep m region t (Gains needed) m2 d = led m _ m2 d.2 (same_history refl)
  does_keep m region t (Waits needed) m2 d = led m _ m2 d.3 (same_history refl)
  does_keep m region t (Deadlocks needed cycle) m2 d =
      led m _ m2 d.2 (ended region _ m.history.now m (λ format. refl))
  does_keep m region t (Retries_at_cycle needed cycle) m2 d =
      led m _ m2 d.2 (same_history (put_history region _ (without_locks region m)))
  does_keep m region t (Finishes ending items) m2 d =
      led m _ m2 d.3 (ended region _ ending.next m (ending_plain m.history.now t (asks rules t) ending d.0.ends))
  does_keep m region t (Retries_at_verify ending) m2 d =
      led m _ m2 d.3 (same_history (put_history region _ (without_locks region m)))

  begins_keep : (m : Machine) (region : ℕ) (messages : List Message)
      → KeepsFormat m (begins_in rules m region messages)
  begins_keep m region [] = same_history refl
  begins_keep m region (message ∷ messages) = same_history (put_history region _ _)

  region_keeps : (m : Machine) (region : ℕ) (r : Option Region) (v : Environment) (m2 : Machine)
      → RegionTurn rules m region r v m2 → KeepsFormat m m2
  region_keeps m region None v m2 d = absurd d
  region_keeps m region (Some Idle) NoFault m2 d =
      led m _ m2 d (begins_keep m region (messages_for rules m region))
  region_keeps m region (Some Idle) DeviceFault m2 d = absurd d
  region_keeps m region (Some Idle) OutOfMemory m2 d = absurd d
  region_keeps m region (Some (Active t)) NoFault m2 d = does_keep m region t d.0 m2 d.1
  region_keeps m region (Some (Active t)) DeviceFault m2 d =
      led m _ m2 d (ended region _ m.history.now m (λ format. refl))
  region_keeps m region (Some (Active t)) OutOfMemory m2 d =
      led m _ m2 d (ended region _ m.history.now m (λ format. refl))

  -- ---- IN

  line_keeps : (m mid : Machine) (line : List ℕ) → mid.history ≡ m.history → KeepsFormat m (with_line rules line mid)
  line_keeps m mid line same = either (list_any (is_among mid.busy) (terminal_in (rules.terminal_of line)))
    where
      requested : (r : Request) → rules.request_of mid.history line ≡ r
          → KeepsFormat m (with_request_of rules line r mid)
      requested (Accepts message) is = same_history same
      requested (Refuses o) is =
          one_more (entry_here mid o line []) mid.history.now
          (ap (with_entry (entry_here mid o line []) mid.history.now) same)
          (refusal_plain o (refuses mid.history line o is))

      either : (b : Bool) → KeepsFormat m (if b then record mid { held = Some line } else
          with_request_of rules line (rules.request_of mid.history line) mid)
      either true = same_history same
      either false = requested (rules.request_of mid.history line) refl

  taken_keeps : (m : Machine) → KeepsFormat m (taken_in rules m)
  taken_keeps m = taken (next_line m)
    where
      without : (o : Option (List ℕ)) → (option_map_or (λ (line : List ℕ). record m { held = None }) o
          (record m { lines = drop 1 m.lines })).history ≡ m.history
      without None = refl
      without (Some line) = refl

      taken : (o : Option (List ℕ))
          → KeepsFormat m (option_map_or (λ line. with_line rules line (without_line m)) o m)
      taken None = same_history refl
      taken (Some line) = line_keeps m (without_line m) line (without m.held)

  -- ---- all turns

  purge_keeps : (m : Machine) (set n : ℕ) (held : Bool) (m2 : Machine) → PurgeTurn rules m set n held m2
      → KeepsFormat m m2
  purge_keeps m set n true m2 d = led m m m2 d (same_history refl)
  purge_keeps m set n false m2 d =
      led m _ m2 d.after (one_more (entry_here m (outcome.Purge set n) [] d.items) d.next refl (λ format. refl))

  pub turn_format : (m : Machine) (e : Event) (v : Environment) (m2 : Machine) → Turn rules m e v m2
      → KeepsFormat m m2
  turn_format m event.In NoFault m2 d = led m _ m2 d (taken_keeps m)
  turn_format m event.In DeviceFault m2 d = absurd d
  turn_format m event.In OutOfMemory m2 d = absurd d
  turn_format m (event.Region region) v m2 d = region_keeps m region (region_at m region) v m2 d
  turn_format m event.Log v m2 d = same_history (turn_keeps rules m event.Log v m2 d).3
  turn_format m event.Out v m2 d = led m m m2 d (same_history refl)
  turn_format m event.Ckpt v m2 d = same_history (turn_keeps rules m event.Ckpt v m2 d).3
  turn_format m (event.Purge set n) NoFault m2 d = purge_keeps m set n (is_area_held rules m set) m2 d
  turn_format m (event.Purge set n) DeviceFault m2 d = led m m m2 d (same_history refl)
  turn_format m (event.Purge set n) OutOfMemory m2 d = led m m m2 d (same_history refl)

  pub run_format : (m : Machine) (steps : List RunStep) (m2 : Machine) → Runs rules m steps m2 → KeepsFormat m m2
  run_format m [] m2 runs = led m m m2 runs (same_history refl)
  run_format m (step ∷ steps) m2 runs =
      let first = turn_format m step.event step.environment step.after runs.0 in
      let rest = run_format step.after steps m2 runs.1 in
      record { front = rest.front ∙ first.front; now = rest.now ∙ first.now }
