use Rattle.std.proofs.Common.{◌≡◌, ◌∙◌, [], List, map, ap, sym, subst, arith}
use Rattle.fp_model.specs.declared.calls.SeqInsert.{SeqInsert}
use Rattle.fp_model.specs.Workspace.{DedbPosition, no_dedb_position}
use Rattle.dedb_calls.specs.declared.anchors.HeldAnchor.{HeldAnchor}
use Rattle.dedb_calls.specs.Progress.{DedbProgress, IsDedbWorkOf}
use Rattle.dedb_calls.proofs.BeginLemmas.{begun_fits, fresh_all}
use Rattle.dedb_calls.proofs.work.DedbWork.new.Goals as goal

all : (c : goal.After-new-3) → c.loop.positions.items ≡ map (λ def. no_dedb_position) c.args.defs.now.dedbs
all c = fresh_all c.loop.counter c.loop.positions.items c.args.defs.now.dedbs c.loop.invariant
    (omega (arith, c.len-end.ensures))

abbrev made : List DedbPosition → List HeldAnchor → List SeqInsert → DedbProgress
made positions anchors inserts = record { positions = positions; anchors = anchors; inserts = inserts }

pub returns-clause-begins : goal.returns-clause-begins
returns-clause-begins c =
    ap (λ ps. made ps c.new-2.result c.new-3.result.items) (all c)
    ∙ ap (λ held. made (map (λ def. no_dedb_position) c.args.defs.now.dedbs) held c.new-3.result.items) c.new-2.ensures
    ∙ ap (λ queue. made (map (λ def. no_dedb_position) c.args.defs.now.dedbs) [] queue) c.new-3.ensures.items

pub returns-clause-of : goal.returns-clause-of
returns-clause-of c =
    subst (IsDedbWorkOf c.args.defs.now.dedbs) (sym (returns-clause-begins c)) (begun_fits c.args.defs.now.dedbs)
