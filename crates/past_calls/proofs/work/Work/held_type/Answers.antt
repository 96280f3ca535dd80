use Rattle.std.proofs.Common.{◌∙◌, ap}
use Rattle.std.specs.Option.{option_map}
use Rattle.dedb_calls.specs.Progress.{held_in}
use Rattle.fp_model.specs.DedbCalls.{type_of_path}
use Rattle.past_calls.specs.Progress.{Progress, dedbs_in}
use Rattle.past_calls.proofs.work.Work.held_type.Goals as goal

pub returns : goal.returns
returns c def =
    c.held_type.ensures def
    ∙ ap (λ (work : Progress). option_map (λ place. type_of_path def c.args.dedb place.path)
    (held_in (dedbs_in work) c.args.dedb)) c.self.view_is
