use Rattle.std.proofs.Common.{◌≡◌, ◌∙◌, [], List, map, ap, sym, subst, arith}
use Rattle.fp_model.specs.declared.calls.Deferred.{Deferred}
use Rattle.fp_model.specs.declared.calls.Resource.{Resource}
use Rattle.fp_model.specs.Workspace.{MsdbPosition, no_msdb_position}
use Rattle.msdb_calls.specs.Progress.{IsMsdbWorkOf, MsdbProgress}
use Rattle.msdb_calls.proofs.BeginLemmas.{begun_fits}
use Rattle.msdb_calls.proofs.work.MsdbWork.new.Goals as goal
use Rattle.model_laws.proofs.Positions.{fresh_all, fresh_positions}

all : (c : goal.After-new-3) → c.loop.positions.items ≡ map (λ def. no_msdb_position) c.args.defs.now.msdbs
all c =
    fresh_all c.loop.counter c.loop.positions.items c.args.defs.now.msdbs c.loop.invariant
    (omega (arith, c.len-end.ensures))
    ∙ fresh_positions c.args.defs.now.msdbs

abbrev made : List MsdbPosition → List Deferred → List Resource → MsdbProgress
made positions deferred changed = record { positions = positions; deferred = deferred; changed = changed }

pub returns-clause-begins : goal.returns-clause-begins
returns-clause-begins c =
    ap (λ ps. made ps c.new-2.result c.new-3.result) (all c)
    ∙ ap (λ queue. made (map (λ def. no_msdb_position) c.args.defs.now.msdbs) queue c.new-3.result) c.new-2.ensures
    ∙ ap (λ keys. made (map (λ def. no_msdb_position) c.args.defs.now.msdbs) [] keys) c.new-3.ensures

pub returns-clause-of : goal.returns-clause-of
returns-clause-of c =
    subst (IsMsdbWorkOf c.args.defs.now.msdbs) (sym (returns-clause-begins c)) (begun_fits c.args.defs.now.msdbs)
