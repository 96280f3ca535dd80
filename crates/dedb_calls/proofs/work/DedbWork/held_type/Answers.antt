use Rattle.std.proofs.Common.{◌∙◌, ℕ, Option, Some, ap}
use Rattle.std.specs.Prelude.{option_map}
use Rattle.fp_model.specs.DedbCalls.{type_of_path}
use Rattle.fp_model.specs.Order.{Place}
use Rattle.dedb_calls.proofs.work.DedbWork.held_type.Goals as goal

pub returns-in-Some : goal.returns-in-Some
returns-in-Some c def =
    ap (λ (n : ℕ). Some n)
    (c.type_of_path.ensures def c.args.dedb ∙ ap (type_of_path def c.args.dedb) c.steps.ensures)
    ∙ ap (λ (o : Option Place). option_map (λ place. type_of_path def c.args.dedb place.path) o) c.in-Some.ensures
