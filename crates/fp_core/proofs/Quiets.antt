-- Whether anything is left to do.
use Rattle.std.proofs.Common.{◌≡◌, refl, sym, ◌∙◌, ap, subst, arith, ℕ, List, [], ◌∷◌, length, Bool, true, false, Option, Some, None, slice_get}
use Rattle.std.proofs.lemmas.List.Sums.{sum_by-cons}
use Rattle.std.specs.Prelude.{sum_by, unwrap_or, if◌then◌else◌}
use Rattle.std.specs.List.{AllZip, list_all, list_any}
use Rattle.std.specs.Option.{option_map_or}
use Rattle.fp_model.specs.declared.calls.Message.{Message}
use Rattle.fp_model.specs.declared.events.Event.TheVariants as event
use Rattle.fp_model.specs.declared.scripts.Script.{Script}
use Rattle.fp_model.specs.declared.definitions.Defs.{Defs}
use Rattle.fp_model.specs.History.{Request, Accepts, Refuses, place_of}
use Rattle.fp_model.specs.Machine as machine
use Rattle.fp_model.specs.Machine.{Machine, is_among, next_line, taken_in, terminal_in, with_line, without_line}
use Rattle.fp_model.specs.Rules.{Rules}
use Rattle.fp_model.specs.Runs.{IsDrained, is_empty, is_idle}
use Rattle.fp_model.specs.Turns.{Environment, NoFault, DeviceFault, OutOfMemory, Turn}
use Rattle.message_lines.specs.declared.lines.Lines.{Lines}
use Rattle.fp_core.specs.declared.did.Did.{Did}
use Rattle.fp_core.specs.declared.did.Did.TheVariants as did
use Rattle.fp_core.specs.declared.engine.Engine.{Engine}
use Rattle.fp_core.specs.declared.engine.Region.{Region}
use Rattle.fp_core.specs.declared.engine.Region.TheVariants as region
use Rattle.fp_core.specs.Relation.{IsRegion, StandsFor, rules_in}
use Rattle.fp_core.specs.inside.Rounding.{Began, BeganBy, IsQuiet, is_at_rest}
use Rattle.fp_core.specs.Standing.{Stepped}
use Rattle.fp_core.specs.inside.Standing.{SteppedBy}
use Rattle.fp_core.specs.Turning.{Turned, did_for, did_with}

-- ---- the engine and the machine

-- regions are at rest where those of the machine are idle
rest_alike : (defs : Defs) (scripts : List Script) (rules : Rules) (xs : List Region) (ys : List machine.Region)
    → AllZip (IsRegion defs scripts) xs ys → list_all is_at_rest xs ≡ list_all (is_idle rules) ys
rest_alike defs scripts rules [] [] h = refl
rest_alike defs scripts rules [] (y ∷ ys) h = absurd h
rest_alike defs scripts rules (x ∷ xs) [] h = absurd h
rest_alike defs scripts rules (region.Idle ∷ xs) (machine.Idle ∷ ys) h = rest_alike defs scripts rules xs ys h.1
rest_alike defs scripts rules (region.Idle ∷ xs) (machine.Active t ∷ ys) h = absurd h.0
rest_alike defs scripts rules (region.Active a ∷ xs) (machine.Idle ∷ ys) h = absurd h.0
rest_alike defs scripts rules (region.Active a ∷ xs) (machine.Active t ∷ ys) h = refl

-- queues are empty where they have no message
all_empty : (rules : Rules) (queues : List (List Message)) → sum_by length queues ≡ 0
    → list_all (is_empty rules) queues ≡ true
all_empty rules [] none = refl
all_empty rules ([] ∷ queues) none =
    all_empty rules queues (omega (arith, none, sum_by-cons (λ (q : List Message). length q) [] queues))
all_empty rules ((x ∷ q) ∷ queues) none =
    absurd (omega (arith, none, sum_by-cons (λ (q : List Message). length q) (x ∷ q) queues))

none_queued : (rules : Rules) (queues : List (List Message)) → list_all (is_empty rules) queues ≡ true
    → sum_by length queues ≡ 0
none_queued rules [] empty = refl
none_queued rules ([] ∷ queues) empty =
    let rest = none_queued rules queues empty in
    omega (arith, rest, sum_by-cons (λ (q : List Message). length q) [] queues)
none_queued rules ((x ∷ q) ∷ queues) empty = absurd cc

module _ (engine : Engine) (m : Machine) (s : StandsFor engine m) where
  -- where no line is left, nothing is left at all
  pub quiet_drained : m.lines ≡ [] → m.held ≡ None → IsQuiet engine → IsDrained (rules_in engine) m
  quiet_drained no_line no_held quiet = record {
    no_line = no_line;
    no_held = no_held;
    no_message = all_empty (rules_in engine) m.queues
        (subst (λ (qs : List (List Message)). sum_by length qs ≡ 0) s.queues quiet.no_message);
    no_active = sym (rest_alike engine.defs.now engine.scripts.now.scripts (rules_in engine) engine.regions m.regions
        s.regions)
        ∙ quiet.no_active;
    no_unsealed = let e : m.sealed ≡ place_of m.history = omega (arith, s.count, s.sealed, quiet.no_unsealed) in e;
  }

  pub drained_quiet : IsDrained (rules_in engine) m → IsQuiet engine
  drained_quiet d = record {
    no_message = subst (λ (qs : List (List Message)). sum_by length qs ≡ 0) (sym s.queues)
        (none_queued (rules_in engine) m.queues d.no_message);
    no_active = rest_alike engine.defs.now engine.scripts.now.scripts (rules_in engine) engine.regions m.regions
        s.regions
        ∙ d.no_active;
    no_unsealed = let e : length engine.log.unsealed ≡ 0 = omega (arith, s.count, s.sealed, d.no_unsealed) in e;
  }

-- ---- IN

-- a line is always taken somewhere
something : (rules : Rules) (m : Machine) (line : List ℕ) → ¬ (did_with rules m line ≡ did.Nothing)
something rules m line is = by (list_any (is_among m.busy) (terminal_in (rules.terminal_of line)))
    (rules.request_of m.history line) is
  where
    by : (waits : Bool) (request : Request) → (if waits then did.Held else did_for request) ≡ did.Nothing → ⊥
    by true request e = cc
    by false (Accepts message) e = cc
    by false (Refuses outcome) e = cc

-- where IN has nothing to do there is no line, and the machine stays
pub record HasNothing (m after : Machine) : Type 0 where
  pub no_line : m.lines ≡ []
  pub no_held : m.held ≡ None
  pub same : after ≡ m

no_line : (rules : Rules) (m : Machine) (held : Option (List ℕ)) (lines : List (List ℕ)) → m.held ≡ held
    → m.lines ≡ lines
    → option_map_or (did_with rules m) (next_line m) did.Nothing ≡ did.Nothing
    → HasNothing m (taken_in rules m)
no_line rules m (Some line) lines is are e =
    let next : next_line m ≡ Some line = ap (λ (h : Option (List ℕ)). unwrap_or
    (option_map_or (λ (line : List ℕ). Some (Some line)) h None) (slice_get m.lines 0)) is in
    absurd (something rules m line (ap (λ (o : Option (List ℕ)). option_map_or (did_with rules m) o did.Nothing)
    (sym next) ∙ e))
no_line rules m None (line ∷ lines) is are e =
    let next : next_line m ≡ Some line = ap (λ (h : Option (List ℕ)). unwrap_or
    (option_map_or (λ (line : List ℕ). Some (Some line)) h None) (slice_get m.lines 0)) is
    ∙ ap (λ (ls : List (List ℕ)). slice_get ls 0) are in
    absurd (something rules m line (ap (λ (o : Option (List ℕ)). option_map_or (did_with rules m) o did.Nothing)
    (sym next) ∙ e))
no_line rules m None [] is are e =
    let next : next_line m ≡ None = ap (λ (h : Option (List ℕ)). unwrap_or
    (option_map_or (λ (line : List ℕ). Some (Some line)) h None) (slice_get m.lines 0)) is
    ∙ ap (λ (ls : List (List ℕ)). slice_get ls 0) are in
    record {
      no_line = are;
      no_held = is;
      same = ap (λ (o : Option (List ℕ)). option_map_or (λ (line : List ℕ). with_line rules line (without_line m)) o
          m) next;
    }

in_after : (rules : Rules) (m : Machine) (environment : Environment) (after : Machine)
    → Turn rules m event.In environment after
    → after ≡ taken_in rules m
in_after rules m NoFault after turn = turn
in_after rules m DeviceFault after turn = absurd turn
in_after rules m OutOfMemory after turn = absurd turn

pub has_nothing : (m : Machine) (engine : Engine) (given : Did) (t : Turned event.In m engine given)
    → given ≡ did.Nothing
    → HasNothing m t.after
has_nothing m engine given t none =
    let n = no_line (rules_in engine) m m.held m.lines refl refl (sym t.is_did ∙ none) in
    record {
      no_line = n.no_line;
      no_held = n.no_held;
      same = in_after (rules_in engine) m t.environment t.after
          t.turn ∙ n.same;
    }

-- a line that there is is found
pub finds : (rules : Rules) (m : Machine) → m.lines ≡ [] → m.held ≡ None
    → option_map_or (did_with rules m) (next_line m) did.Nothing ≡ did.Nothing
finds rules m are is =
    let next : next_line m ≡ None = ap (λ (h : Option (List ℕ)). unwrap_or
    (option_map_or (λ (line : List ℕ). Some (Some line)) h None) (slice_get m.lines 0)) is
    ∙ ap (λ (ls : List (List ℕ)). slice_get ls 0) are in
    ap (λ (o : Option (List ℕ)). option_map_or (did_with rules m) o did.Nothing) next

-- The round goes on where there was a line, or the engine isn't quiet.
abbrev pub began : (m : Machine) (old_lines lines : Lines) (engine : Engine) (given : Did) (more : Bool)
    → Stepped event.In m old_lines lines engine given
    → (more ≡ true → (given ≡ did.Nothing) → ¬ IsQuiet engine)
    → (more ≡ false → (given ≡ did.Nothing) × IsQuiet engine)
    → Began m old_lines lines engine more
began m old_lines lines engine given more s goes ends = record {
  did = given;
  stepped = s;
  goes = λ on d.
      let none : given ≡ did.Nothing = s.turned.is_did ∙ finds (rules_in engine) m d.no_line d.no_held in
      let same = (has_nothing m engine given s.turned none).same in
      goes on none (drained_quiet engine m (subst (λ (x : Machine). StandsFor engine x) same s.turned.stands) d);
  done = λ off.
      let none = has_nothing m engine given s.turned (ends off).0 in (
        quiet_drained engine m (subst (λ (x : Machine). StandsFor engine x) none.same s.turned.stands) none.no_line
            none.no_held (ends off).1,
        none.same,
      );
}

-- the same beside a source
abbrev pub began_by : (m : Machine) (old_lines lines : Lines) (left : List ℕ) (engine : Engine) (given : Did)
    (more : Bool)
    → SteppedBy event.In m old_lines lines left engine given
    → (more ≡ true → (given ≡ did.Nothing) → ¬ IsQuiet engine)
    → (more ≡ false → (given ≡ did.Nothing) × IsQuiet engine)
    → BeganBy m old_lines lines left engine more
began_by m old_lines lines left engine given more by goes ends =
    record { began = began m old_lines lines engine given more by.stepped goes ends; lines_are = by.lines_are }
