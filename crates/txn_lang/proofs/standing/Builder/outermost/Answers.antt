use Rattle.std.proofs.Common.{◌∙◌, ap}
use Rattle.std.specs.Prelude.{option_map}
use Rattle.txn_lang.specs.declared.standing.Frame.{Frame}
use Rattle.txn_lang.proofs.BlockLemmas.{outermost_first}
use Rattle.txn_lang.proofs.standing.Builder.outermost.Goals as goal

pub returns-in-Some : goal.returns-in-Some
returns-in-Some c = ap (option_map (λ (frame : Frame). frame.line)) c.in-Some.ensures.value ∙ outermost_first
    c.args.self.now.frames

pub returns-in-None : goal.returns-in-None
returns-in-None c = ap (option_map (λ (frame : Frame). frame.line)) c.in-None.ensures.value ∙ outermost_first
    c.args.self.now.frames
