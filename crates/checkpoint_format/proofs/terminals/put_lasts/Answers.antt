use Rattle.std.proofs.Common.{◌++◌, ◌∙◌, ap, sym, length, arith, take}
use Rattle.std.specs.List.{flat_map}
use Rattle.fp_model.specs.CheckpointText.{last_text}
use Rattle.fp_model.specs.Spellings.{be64}
use Rattle.checkpoint_format.proofs.Numbers.{one_written, three}
use Rattle.checkpoint_format.proofs.terminals.put_lasts.Goals as goal
use Rattle.plain_laws.proofs.Places.{get_there}

pub loop-place-preserved : goal.loop-place-preserved
loop-place-preserved c =
    let all = c.args.lasts.now.terminals in
    let here = get_there all c.loop-place.place (omega (arith, c.loop-place-test.true, c.len-place-end.ensures)) in
    c.in_ok-put_at.ensures here.0 here.1
    ∙ ap (λ t. t ++ last_text here.0) c.loop-place.invariant
    ∙ three c.args.into.now (be64 (length all)) (flat_map last_text (take c.loop-place.place all)) (last_text here.0)
    ∙ ap (λ t. c.args.into.now ++ (be64 (length all) ++ t))
    (sym (one_written last_text all c.loop-place.place here.0 here.1))
