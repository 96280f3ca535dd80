use Rattle.std.proofs.Common.{◌≡◌, ◌∙◌, sym, ap, List, ℕ}
use Rattle.std.specs.Prelude.{Ok}
use Rattle.fp_model.specs.Messages.{message_of}
use Rattle.fp_core.specs.inside.Reading.{IsDemandIn, IsDemandOf}
use Rattle.fp_core.proofs.Askings.{demand_is}
use Rattle.fp_core.proofs.asking.demand_in.Goals as goal
use Rattle.plain_laws.proofs.Results.{if_ok_by}

pub returns-in-Ok-clause-is : goal.returns-in-Ok-clause-is
returns-in-Ok-clause-is c =
    let scripts = c.args.scripts.now.scripts in
    let line = c.args.line.now in
    let of : message_of c.args.format line ≡ Ok c.in-Ok.message =
    ap (λ (l : List ℕ). message_of c.args.format l) (sym c.as_slice.ensures) ∙ c.in-Ok.ensures.ok in
    if_ok_by (IsDemandOf scripts c.in-Ok.message) (IsDemandIn c.args.format scripts line) c.demand_of.result
    (demand_is c.args.format scripts line c.in-Ok.message of) c.demand_of.ensures.is
