-- The laws of machines that a run of this system led to.
use Rattle.std.proofs.Common.{◌≡◌, ℕ, ◌≤◌, ◌∙◌, List, [], ◌∷◌, Option, Some, None, refl, sym, ap, subst, Bool, true, false, if◌then◌else◌, arith}
use Rattle.std.specs.Prelude.{sum_by, find, option_map}
use Rattle.std.specs.Option.{option_map_or}
use Rattle.std.specs.List.{Contains}
use Rattle.std.proofs.lemmas.List.Sums.{sum_by-cons}
use Rattle.fp_model.specs.declared.definitions.Defs.{Defs}
use Rattle.fp_model.specs.declared.calls.Message.{Message}
use Rattle.fp_model.specs.declared.calls.Mode.TheVariants.{Exclusive}
use Rattle.fp_model.specs.declared.calls.Resource.{Resource}
use Rattle.fp_model.specs.declared.name.Name.{Name}
use Rattle.fp_model.specs.declared.scripts.Script.{Script}
use Rattle.fp_model.specs.Answers.{Needed, serves}
use Rattle.fp_model.specs.Asking.{Ask, Asks, Replies, Rolls, full_cost, script_of}
use Rattle.fp_model.specs.History.{place_of}
use Rattle.fp_model.specs.Product.{cost_of, rules_of}
use Rattle.fp_model.specs.Waiting.{Lock, held_as}
use Rattle.fp_model.specs.Machine.{Transaction, Active, Machine, at_rest, region_at}
use Rattle.fp_model.specs.Turns.{wanted}
use Rattle.fp_model.specs.WellFormed.{AreDefs}
use Rattle.serial_order.specs.Laws.{Laws}
use Rattle.serial_order.specs.Kept.{count, Kept}
use Rattle.serial_order.specs.ProductView.{view_of}
use Rattle.serial_order.proofs.ProductLaws.{laws_of}
use Rattle.serial_order.proofs.Replies.{exclusive_serves}
use Rattle.serial_order.proofs.Lists.{true_is_not_false}
use Rattle.serial_order.proofs.Turns.{at_rest_rests, rest_kept, run_kept}
use Rattle.drain_laws.specs.Live.{EndLaws, IsAtWork, IsReached}
use Rattle.drain_laws.specs.ProductGauge.{gauge_with}
use Rattle.drain_laws.proofs.Live.{rest_live}
use Rattle.drain_laws.proofs.InOrder.{rest_ordered}
use Rattle.run_laws.specs.Starts.{IsFromSerial}
use Rattle.drain_laws.proofs.Rounds.{reached_after}
use Rattle.drain_laws.proofs.Foreseen.{call_needed, end_needed}
use Rattle.drain_laws.proofs.SystemEnds.{end_laws_at}
use Rattle.run_laws.specs.Requests.{IsCurrent, times_in}
use Rattle.run_laws.specs.inside.Requests.{IsTidy}
use Rattle.run_laws.specs.Fresh.{IsFresh}
use Rattle.run_laws.proofs.Wanted.{needs_alike}
use Rattle.run_laws.proofs.Tidy.{run_tidy, rest_tidy}
use Rattle.run_laws.proofs.Numbers.{fresh_of}
use Rattle.std.proofs.lemmas.Option.{none-some, same_Some}

-- ---- what scripts cost together

abbrev pub all_calls : List Script → ℕ
all_calls scripts = sum_by (λ s. full_cost s.statements) scripts

found_within : (scripts : List Script) (p : Script → Bool) (s : Script) → find p scripts ≡ Some s
    → full_cost s.statements ≤ all_calls scripts
found_within [] p s e = absurd (none-some s e)
found_within (x ∷ xs) p s e = by (p x) e (λ f. found_within xs p s f)
  where
    of : Script → ℕ
    of q = full_cost q.statements

    by : (b : Bool) → (if b then Some x else find p xs) ≡ Some s
        → (find p xs ≡ Some s → full_cost s.statements ≤ all_calls xs)
        → full_cost s.statements ≤ all_calls (x ∷ xs)
    by true f later =
        let same : full_cost x.statements ≡ full_cost s.statements
        = ap (λ (q : Script). full_cost q.statements) (same_Some x s f) in
        omega (arith, same, sum_by-cons (λ (q : Script). full_cost q.statements) x xs)
    by false f later = omega (arith, later f, sum_by-cons (λ (q : Script). full_cost q.statements) x xs)

cost_below : (scripts : List Script) (message : Message) → cost_of scripts message ≤ all_calls scripts
cost_below scripts message =
    by (script_of scripts message.tran) (λ s e. found_within scripts _ s e)
  where
    by : (o : Option Script) → ((s : Script) → o ≡ Some s → full_cost s.statements ≤ all_calls scripts)
        → option_map_or (λ script. full_cost script.statements) o 0 ≤ all_calls scripts
    by None h = omega arith
    by (Some s) h = h s refl

-- ---- what is wanted isn't held

module _ (defs : Defs) (scripts : List Script) (m : Machine) (region : ℕ) (t : Transaction) (needed : Needed) where
  pub isnt_served : (ask : Ask) → wanted (rules_of defs scripts) m region t ask ≡ Some needed
      → serves (held_as m.locks region needed.resource) needed.mode ≡ false
  isnt_served (Asks call) e =
      (call_needed (held_as m.locks region) needed defs m.history.now t.point.own call e).is_unserved
  isnt_served (Replies reply) e = by ((rules_of defs scripts).lack t.point.own (held_as m.locks region)) refl e
    where
      by : (o : Option Resource) → (rules_of defs scripts).lack t.point.own (held_as m.locks region) ≡ o
          → option_map (λ (r : Resource). let n : Needed = record { resource = r; mode = Exclusive } in n) o
          ≡ Some needed
          → serves (held_as m.locks region needed.resource) needed.mode ≡ false
      by None is f = absurd (none-some needed f)
      by (Some r) is f =
          subst (λ (n : Needed). serves (held_as m.locks region n.resource) n.mode ≡ false) (same_Some _ needed f)
          (end_needed defs t.point.own (held_as m.locks region) reply r is).is_unserved
  isnt_served (Rolls code) e = absurd (none-some needed e)

  pub isnt_exclusive : (ask : Ask) → wanted (rules_of defs scripts) m region t ask ≡ Some needed
      → ¬ (held_as m.locks region needed.resource ≡ Some Exclusive)
  isnt_exclusive ask e is =
      true_is_not_false (sym (exclusive_serves (held_as m.locks region needed.resource) needed.mode is)
      ∙ isnt_served ask e)

-- ---- machines that a run led to

module _ (defs : Defs) (scripts : List Script) (are : AreDefs defs) where
  pub order : Laws (rules_of defs scripts) (view_of defs)
  order = laws_of defs scripts are.each_msdb

  pub ends : EndLaws (rules_of defs scripts) (gauge_with (all_calls scripts) defs)
  ends = end_laws_at defs scripts (all_calls scripts) are (cost_below scripts)

  module _ (m : Machine) (whole : IsFromSerial (rules_of defs scripts) m) where
    rest : Machine
    rest = at_rest (rules_of defs scripts) whole.from.lines whole.from.start

    resting_kept : Kept (rules_of defs scripts) (view_of defs)
        (at_rest (rules_of defs scripts) whole.from.lines whole.from.start)
    resting_kept = rest_kept (rules_of defs scripts) (view_of defs)
        (at_rest (rules_of defs scripts) whole.from.lines whole.from.start)
        (at_rest_rests (rules_of defs scripts) whole.from.lines whole.from.start whole.is_serial)

    kept : Kept (rules_of defs scripts) (view_of defs) m
    kept = run_kept (rules_of defs scripts) (view_of defs) order
        (at_rest (rules_of defs scripts) whole.from.lines whole.from.start) whole.from.steps m whole.from.runs
        resting_kept

    resting : IsReached (rules_of defs scripts) (gauge_with (all_calls scripts) defs)
        (at_rest (rules_of defs scripts) whole.from.lines whole.from.start)
    resting = record {
      in_order = rest_ordered (rules_of defs scripts) whole.from.lines whole.from.start;
      live = rest_live (rules_of defs scripts) (gauge_with (all_calls scripts) defs) whole.from.lines whole.from.start;
    }

    pub reached : IsReached (rules_of defs scripts) (gauge_with (all_calls scripts) defs) m
    reached = reached_after (rules_of defs scripts) (gauge_with (all_calls scripts) defs) ends (view_of defs) order
        (at_rest (rules_of defs scripts) whole.from.lines whole.from.start) whole.from.steps m resting whole.from.runs

    tidy : IsTidy (rules_of defs scripts) m
    tidy = run_tidy (rules_of defs scripts) (gauge_with (all_calls scripts) defs) ends (view_of defs) order
        (λ db db2 own held call same. needs_alike defs held own db db2 same call)
        (at_rest (rules_of defs scripts) whole.from.lines whole.from.start) whole.from.steps m resting resting_kept
        whole.from.runs
        (rest_tidy (rules_of defs scripts) (gauge_with (all_calls scripts) defs) ends (view_of defs) order
        (λ db db2 own held call same. needs_alike defs held own db db2 same call)
        whole.from.lines whole.from.start resting_kept.terminals)

    pub busy_of : (name : Name) → times_in m.busy name ≡ count (rules_of defs scripts) name m
    busy_of name = tidy.busy name

    pub once_of : (name : Name) → count (rules_of defs scripts) name m ≤ 1
    once_of name = kept.terminals.once name

    pub holders_of : (lock : Lock) → Contains m.locks lock → IsAtWork m lock.region
    holders_of lock c = reached.live.holders lock c

    pub current_of : (request : Lock) → Contains m.requests request → IsCurrent (rules_of defs scripts) m request
    current_of request c = tidy.current request c

    pub queued_fresh : (messages : List Message) (message : Message) → Contains m.queues messages
        → Contains messages message
        → IsFresh scripts m.history message
    queued_fresh messages message c d = fresh_of scripts m.history message (kept.queued messages message c d)

    pub active_fresh : (region : ℕ) (t : Transaction) → region_at m region ≡ Some (Active t)
        → IsFresh scripts m.history t.message
    active_fresh region t at = fresh_of scripts m.history t.message (kept.sound region t at).is_request

    pub sealed_of : m.sealed ≤ place_of m.history
    sealed_of = kept.terminals.sealed
