use Rattle.std.proofs.Common.{refl, ◌≡◌, ◌∙◌, sym, ap, subst, ℕ, [], suc, length, List, Some, None, Option, arith}
use Rattle.std.specs.Option.{option_map_or}
use Rattle.dedb_calls.specs.Anchors.{Sees}
use Rattle.dedb_calls.specs.declared.anchors.HeldAnchor.{HeldAnchor}
use Rattle.fp_model.specs.declared.scripts.Script.{Script}
use Rattle.fp_model.specs.Asking.{full_cost, script_of}
use Rattle.fp_model.specs.FitCalls.{IsTied}
use Rattle.fp_model.specs.Serial.{goes}
use Rattle.fp_model.specs.Workspace.{Workspace, fresh}
use Rattle.past_replay.specs.inside.Running.{now_of, rules_in}
use Rattle.past_replay.proofs.GoingLemmas.{tied_so}
use Rattle.past_replay.proofs.HoldingLemmas.{sees_none}
use Rattle.past_replay.proofs.running.Running.start.Goals as goal
use Rattle.state_laws.specs.Workspaces.{FitsWorkspace}
use Rattle.state_laws.proofs.Alone.{fresh_fits, fresh_tied}
use Rattle.txn_machine.specs.Running.{types_shown}
use Rattle.plain_laws.proofs.Places.{get_there}

pub returns : goal.returns
returns c =
    let it = c.args.it.now in
    let scripts = it.scripts.now.scripts in
    let there = get_there scripts c.args.number c.requires.number in
    let script : Script = there.0 in
    let named : script_of scripts it.message.now.tran ≡ Some script = sym c.requires.named ∙ there.1 in
    let work = c.in_ok-work.work in
    let own : work.own ≡ fresh it.defs.now = c.in_ok-work.ensures.own in
    record {
      answers = [];
      counted = refl;
      kept = record {
        of = c.in_ok-work.ensures.of;
        sees = subst (λ (anchors : List HeldAnchor). Sees (now_of it) anchors) (sym c.in_ok-work.ensures.anchors)
            (sees_none (now_of it));
        fits = subst (λ (w : Workspace). FitsWorkspace it.defs.now (now_of it) w) (sym own)
            (fresh_fits it.defs.now (now_of it));
        tied = subst (λ (w : Workspace). IsTied it.defs.now (types_shown c.start-program.result) w) (sym own)
            (tied_so it (λ db. None) (types_shown c.start-program.result) (fresh it.defs.now)
            c.start-program.ensures.types (fresh_tied it.defs.now));
        few = let none : length work.own.deferred ≡ 0
            = ap (λ (w : Workspace). length w.deferred) own in omega (arith, none);
      };
      used = omega arith;
      script = script;
      named = named;
      numbered = rw c.start-program.ensures.number there.1;
      at = c.start-program.ensures.at it.defs.now script.statements it.message.now;
      fit = c.start-program.ensures.fit it.defs.now;
      left = full_cost script.statements;
      budget = omega arith;
      goes_on = λ now states are.
          ap (λ (o : Option Script). goes (rules_in it) now states it.message.now
          (suc (option_map_or (λ (s : Script). full_cost s.statements) o 0))
          (record { answers = []; own = fresh it.defs.now }) it.notes.now) named
          ∙ ap (λ (w : Workspace). goes (rules_in it) now states it.message.now (suc (full_cost script.statements))
          (record { answers = []; own = w }) it.notes.now) (sym own);
    }
