use Rattle.std.proofs.Common.{◌≡◌, ◌∙◌, List, slice_index_or, not, ap}
use Rattle.std.specs.Prelude.{filter}
use Rattle.fp_model.specs.declared.calls.SeqInsert.{SeqInsert}
use Rattle.fp_model.specs.DedbCalls.{goes_with}
use Rattle.fp_model.specs.Workspace.{DedbPosition, no_dedb_position}
use Rattle.dedb_calls.specs.Progress.{DedbProgress, position_in}
use Rattle.dedb_calls.proofs.ArgumentLemmas.{or_else}
use Rattle.dedb_calls.proofs.work.DedbWork.drop_held.Goals as goal

pub returns-clause-inserts : goal.returns-clause-inserts
returns-clause-inserts c def at its =
    let places : c.self.inside.positions.items ≡ c.args.self.now.positions =
    ap (λ (w : DedbProgress). w.positions) c.self.view_is in
    let queue : c.self.inside.inserts.items ≡ c.args.self.now.inserts =
    ap (λ (w : DedbProgress). w.inserts) c.self.view_is in
    let here : c.index.result.now ≡ position_in c.args.self.now c.args.dedb =
    or_else c.args.self.now.positions c.args.dedb c.index.result.now no_dedb_position c.requires
    (c.index.ensures ∙ ap (λ (ps : List DedbPosition). slice_index_or ps c.args.dedb c.index.result.now) places) in
    c.drop_below.ensures def at (c.place-place.ensures ∙ ap (λ (p : DedbPosition). p.place) here ∙ its)
    ∙ ap (λ (xs : List SeqInsert). filter (λ i. not (goes_with def c.args.dedb at i)) xs) queue
