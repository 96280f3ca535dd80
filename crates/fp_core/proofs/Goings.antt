-- An active region goes on.
use Rattle.std.proofs.Common.{◌≡◌, refl, sym, ◌∙◌, ap, subst, arith, ℕ, zero, suc, ◌-◌, List, [], ◌∷◌, ◌++◌, Bool, true, false, length, Option, Some, slice_get, slice_set}
use mathlib.Core.Path.{fun_ext}
use Rattle.std.specs.Prelude.{IfSome, None, if◌then◌else◌, option_map}
use Rattle.std.specs.Option.{option_map_or}
use Rattle.std.proofs.lemmas.List.{length-set}
use Rattle.ci_locks.specs.Table.{standing}
use Rattle.drain_laws.specs.Measure.{one_if_active}
use Rattle.fp_model.specs.declared.calls.Call.{Call}
use Rattle.fp_model.specs.declared.calls.Message.{Message}
use Rattle.fp_model.specs.declared.calls.Mode.{Mode}
use Rattle.fp_model.specs.declared.calls.Mode.TheVariants.{Exclusive}
use Rattle.fp_model.specs.declared.calls.Resource.{Resource}
use Rattle.fp_model.specs.declared.database.Db.{Db}
use Rattle.fp_model.specs.declared.definitions.Defs.{Defs}
use Rattle.fp_model.specs.declared.scripts.Script.{Script}
use Rattle.fp_model.specs.Answers.{Needed}
use Rattle.fp_model.specs.Asking.{Ask, Asks, Replies, Rolls, ask}
use Rattle.fp_model.specs.Calls.{need_of}
use Rattle.fp_model.specs.Machine as machine
use Rattle.fp_model.specs.Machine.{Transaction, Machine}
use Rattle.fp_model.specs.Product.{rules_of}
use Rattle.fp_model.specs.Rules.{Rules}
use Rattle.fp_model.specs.Turns.{Answers, asks, holds, noted, wanted, with_answer}
use Rattle.txn_machine.specs.Running.{IsAt, IsFit}
use Rattle.txn_machine.specs.declared.program.Program.{Program}
use Rattle.fp_core.specs.declared.answering.Acted.{Acted}
use Rattle.fp_core.specs.declared.answering.Acted.TheVariants as acts
use Rattle.fp_core.specs.declared.engine.Active.{Active}
use Rattle.fp_core.specs.declared.engine.Ahead.{Ahead}
use Rattle.fp_core.specs.declared.engine.Engine.{Engine}
use Rattle.fp_core.specs.declared.engine.Region.TheVariants as regions
use Rattle.fp_core.specs.inside.Acting.{HasActed, IsAtWork, MayEnd}
use Rattle.fp_core.specs.inside.Answering.{IsActed, lock_for}
use Rattle.fp_core.specs.Relation.{IsAhead, IsRead, IsReadIn, IsRegion, IsTransaction, StandsFor, room_of, rules_in}
use Rattle.fp_core.proofs.Ends.{may_end}
use Rattle.fp_core.proofs.Places.{each_has, put_both, put_left, sum_put}
use Rattle.fp_core.proofs.Turns.{acted}
use Rattle.plain_laws.proofs.Alls.{all_set}
use Rattle.std.proofs.lemmas.Option.{none-some}

-- ---- one transaction

pub noted_is : (rules : Rules) (b : Bool) (notes : List ℕ) (n : ℕ)
    → (if b then notes ++ n ∷ [] else notes) ≡ noted rules b notes n
noted_is rules true notes n = refl
noted_is rules false notes n = refl

-- where nothing is worked out there is nothing to show
pub nothing : (P : Ahead → Type 0) (ahead : Option Ahead) → ahead ≡ None → IfSome ahead P
nothing P ahead none = subst (λ (o : Option Ahead). IfSome o P) (sym none) tt

module _ (defs : Defs) (scripts : List Script) (active : Active) (t : Transaction)
    (s : IsTransaction defs scripts active t) where
  -- the program is where its script is, for the message that the code keeps
  pub is_here : IsAt defs s.script.statements active.message t.point.answers active.program
  is_here = subst (λ (message : Message). IsAt defs s.script.statements message t.point.answers active.program)
      (sym s.message) s.at

  -- what its message asks is what its script asks
  pub asks_are : (a : Ask) → ask defs s.script.statements active.message t.point.answers ≡ a
      → asks (rules_of defs scripts) t ≡ a
  asks_are a e =
      ap (λ (o : Option Script). option_map_or (λ (x : Script). ask defs x.statements t.message t.point.answers) o
      (Replies [])) s.named
      ∙ ap (λ (message : Message). ask defs s.script.statements message t.point.answers) (sym s.message)
      ∙ e

  -- the program moves on to its next call, where nothing is worked out
  pub moves : active.ahead ≡ None → (program : Program) → program.number ≡ active.program.number
      → IsAt defs s.script.statements active.message t.point.answers program
      → IsFit defs program
      → IsTransaction defs scripts (record active { program = program }) t
  moves none program number at fit = record {
    from = s.from;
    message = s.message;
    short = s.short;
    tries = s.tries;
    refusal = s.refusal;
    own = s.own;
    notes = s.notes;
    of = s.of;
    changes = s.changes;
    inserts = s.inserts;
    script = s.script;
    named = s.named;
    numbered = rw number s.numbered;
    at = subst (λ (message : Message). IsAt defs s.script.statements message t.point.answers program) s.message at;
    fit = fit;
    ahead = nothing (IsAhead defs scripts program t) active.ahead none;
  }

  -- this is what it does next, or it is to be worked out
  pub keeps : (ahead : Option Ahead) → IfSome ahead (IsAhead defs scripts active.program t)
      → IsTransaction defs scripts (record active { ahead = ahead }) t
  keeps ahead is = record {
    from = s.from;
    message = s.message;
    short = s.short;
    tries = s.tries;
    refusal = s.refusal;
    own = s.own;
    notes = s.notes;
    of = s.of;
    changes = s.changes;
    inserts = s.inserts;
    script = s.script;
    named = s.named;
    numbered = s.numbered;
    at = s.at;
    fit = s.fit;
    ahead = is;
  }

  -- the lock that the code's work needs is the one that the machine's does
  pub needs_are : (held : Resource → Option Mode) (now : Db) (call : Call) (needed : Option Needed)
      → needed ≡ need_of defs now active.work.own held call
      → need_of defs now t.point.own held call ≡ needed
  needs_are held now call needed e = ap (λ own. need_of defs now own held call) (sym s.own) ∙ sym e

-- ---- its region

abbrev pub as_exclusive : Resource → Needed
as_exclusive resource = record { resource = resource; mode = Exclusive }

-- with a transaction put at a region's place
abbrev pub with_active : Engine → ℕ → Active → Engine
with_active engine place active = record engine { regions = slice_set engine.regions place (regions.Active active) }

module _ (engine : Engine) (m : Machine) (place : ℕ) (t : Transaction) (new : Active) (s : StandsFor engine m)
    (there : slice_get m.regions place ≡ Some (machine.Active t)) where
  -- a region's transaction is another of the same message, in the engine and in the machine,
  pub stands_with : (u : Transaction) → u.message ≡ t.message
      → IsTransaction engine.defs.now engine.scripts.now.scripts new u
      → StandsFor (with_active engine place new) (record m { regions = slice_set m.regions place (machine.Active u) })
  stands_with u same is = record {
    setup = s.setup;
    held = s.held;
    held_short = s.held_short;
    queues = s.queues;
    groups = s.groups;
    takeable = s.takeable;
    busy = s.busy;
    regions = put_both (IsRegion engine.defs.now engine.scripts.now.scripts) engine.regions m.regions place
        (regions.Active new) (machine.Active u) s.regions is;
    numbers = length-set m.regions place (machine.Active u) ∙ s.numbers;
    locks = s.locks;
    rows = s.rows ∙ sym (length-set engine.regions place (regions.Active new));
    of = s.of;
    msdbs = s.msdbs;
    past = s.past;
    format = s.format;
    read = all_set (IsReadIn engine.format) m.regions place (machine.Active u) s.read
        (subst (IsRead engine.format) (sym same)
        (each_has (IsReadIn engine.format) m.regions place (machine.Active t) s.read there));
    lasts = s.lasts;
    places =
        let put = sum_put one_if_active m.regions place (machine.Active u) (machine.Active t) there in
        omega (arith, s.places, put);
    count = s.count;
    sealed = s.sealed;
    unsealed = s.unsealed;
    owed = s.owed;
    made = s.made;
    room =
        let put = sum_put room_of m.regions place (machine.Active u) (machine.Active t) there in
        let line : length u.message.line ≡ length t.message.line = ap (λ message. length message.line) same in
        omega (arith, s.room, put, line);
    spare = s.spare;
    slots =
        let put = sum_put one_if_active m.regions place (machine.Active u) (machine.Active t) there in
        omega (arith, s.slots, put);
  }

  -- or it is the same still
  pub stands_still : IsTransaction engine.defs.now engine.scripts.now.scripts new t
      → StandsFor (with_active engine place new) m
  stands_still is = record {
    setup = s.setup;
    held = s.held;
    held_short = s.held_short;
    queues = s.queues;
    groups = s.groups;
    takeable = s.takeable;
    busy = s.busy;
    regions = put_left (IsRegion engine.defs.now engine.scripts.now.scripts) engine.regions m.regions place
        (regions.Active new) (machine.Active t) s.regions there is;
    numbers = s.numbers;
    locks = s.locks;
    rows = s.rows ∙ sym (length-set engine.regions place (regions.Active new));
    of = s.of;
    msdbs = s.msdbs;
    past = s.past;
    format = s.format;
    read = s.read;
    lasts = s.lasts;
    places = s.places;
    count = s.count;
    sealed = s.sealed;
    unsealed = s.unsealed;
    owed = s.owed;
    made = s.made;
    room = s.room;
    spare = s.spare;
    slots = s.slots;
  }

  -- what the locks say that the region holds
  holds_are : holds (rules_in engine) m (suc place) ≡ (standing engine.locks).holds (suc place)
  holds_are = fun_ext (λ resource. s.locks.held (suc place) resource)

  -- and so is the lock that it needs
  wanted_is : (a : Ask) → wanted (rules_in engine) m (suc place) t a
      ≡ lock_for (rules_in engine) ((standing engine.locks).holds (suc place)) m.history.now t a
  wanted_is (Asks call) =
      ap (λ (held : Resource → Option Mode). (rules_in engine).need m.history.now t.point.own held call) holds_are
  wanted_is (Replies reply) =
      ap (λ (held : Resource → Option Mode). option_map (λ resource. as_exclusive resource)
      ((rules_in engine).lack t.point.own held)) holds_are
  wanted_is (Rolls code) = refl

  -- what its transaction came to, its region came to
  acted_here : (count : ℕ) → count ≡ length m.history.entries → (a : Acted)
      → IsActed engine.defs.now engine.scripts.now.scripts ((standing engine.locks).holds (suc place)) m.history.now
      count t new a
      → HasActed (with_active engine place new) m (suc place) t a
  acted_here count counts acts.Answered w =
      acted (with_active engine place new) m (suc place) t (Answers w.call)
      (record m { regions = slice_set m.regions place (machine.Active (with_answer (rules_in engine) m t w.call)) })
      there (
        w.asked,
        ap (wanted (rules_in engine) m (suc place) t) w.asked
            ∙ ap (λ (held : Resource → Option Mode). (rules_in engine).need m.history.now t.point.own held w.call)
            holds_are
            ∙ w.ready,
        refl,
      )
      tt
      (stands_with (with_answer (rules_in engine) m t w.call) refl
      (subst (λ (n : ℕ). IsTransaction engine.defs.now engine.scripts.now.scripts new
      (record (with_answer (rules_in engine) m t w.call) {
        notes = noted (rules_in engine) ((rules_in engine).looks t.point.own w.call) t.notes n;
      })) counts w.is))
  acted_here count counts (acts.Needs resource mode) w = record {
    at_work = record { stands = stands_still w.is; active = there };
    wants = wanted_is (asks (rules_in engine) t) ∙ w.needs;
  }
  acted_here count counts (acts.Replies reply) w = record {
    at_end = record { at_work = record { stands = stands_still w.is; active = there }; asked = w.asked };
    lacks_none = wanted_is (asks (rules_in engine) t)
        ∙ ap (lock_for (rules_in engine) ((standing engine.locks).holds (suc place)) m.history.now t) w.asked
        ∙ ap (λ (o : Option Resource). option_map (λ resource. as_exclusive resource) o) w.lacks_none;
  }
  acted_here count counts (acts.Rolls code) w = record {
    at_work = record { stands = stands_still w.is; active = there };
    asked = w.asked;
  }

module _ (engine : Engine) (m : Machine) (t : Transaction) (new : Active) where
  -- The same at the region's number.
  pub has_acted : (region : ℕ) → IsAtWork engine m region t → (count : ℕ) → count ≡ length m.history.entries
      → (a : Acted)
      → IsActed engine.defs.now engine.scripts.now.scripts ((standing engine.locks).holds region) m.history.now count t
      new a
      → HasActed (with_active engine (region - 1) new) m region t a
  has_acted zero w count counts a is = absurd (none-some (machine.Active t) w.active)
  has_acted (suc place) w count counts a is =
      let same : suc place - 1 ≡ place = omega arith in
      subst (λ n. HasActed (with_active engine n new) m (suc place) t a) (sym same)
      (acted_here engine m place t new w.stands w.active count counts a is)

  -- where it came to nothing, it is at work still
  pub works_still : (region : ℕ) → IsAtWork engine m region t
      → IsTransaction engine.defs.now engine.scripts.now.scripts new t
      → MayEnd (with_active engine (region - 1) new) m region t
  works_still zero w is = absurd (none-some (machine.Active t) w.active)
  works_still (suc place) w is =
      let same : suc place - 1 ≡ place = omega arith in
      subst (λ n. MayEnd (with_active engine n new) m (suc place) t) (sym same)
      (may_end (with_active engine place new) m (suc place) t
      (record { stands = stands_still engine m place t new w.stands w.active is; active = w.active }))
