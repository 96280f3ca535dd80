use Rattle.std.proofs.Common.{◌∙◌, ap, sym, subst, List, []}
use Rattle.fp_model.specs.Asking.{ask}
use Rattle.fp_model.specs.Operands.{Env, ShownSegment}
use Rattle.std.specs.Prelude.{◌==◌, find, option_map}
use Rattle.txn_machine.specs.declared.place.Frame.{Frame}
use Rattle.txn_machine.specs.Places.{end_from}
use Rattle.txn_machine.specs.Knowing.{env_of}
use Rattle.std.specs.List.{AllByRecursion}
use Rattle.txn_machine.specs.Fit.{IsShownSegment}
use Rattle.txn_machine.proofs.program.Program.start.Goals as goal

pub returns-clause-at : goal.returns-clause-at
unfolding ask
returns-clause-at c = λ defs statements message. record {
  comes = λ more.
      ap (λ (env : Env). end_from defs message statements (record { frames = []; at = 0 }) env)
      (sym (c.new-2.ensures more))
      ∙ ap (λ (fs : List Frame). end_from defs message statements (record { frames = fs; at = 0 })
      (env_of c.new-2.result more)) (sym c.new.ensures);
  waits = tt;
}

pub returns-clause-fit : goal.returns-clause-fit
returns-clause-fit c = λ defs. record {
  shown = record {
    each = subst (AllByRecursion (IsShownSegment defs))
        (sym (ap (λ (env : Env). env.shown) (c.new-2.ensures []))) tt;
  };
}

pub returns-clause-types : goal.returns-clause-types
returns-clause-types c = λ db.
    ap (λ (env : Env). option_map (λ (s : ShownSegment). s.type_number) (find (λ (s : ShownSegment). s.db == db)
    env.shown)) (c.new-2.ensures [])
