use Rattle.std.proofs.Common.{◌∙◌, ◌∷◌, [], ap, List, ℕ}
use Rattle.dli_tree.specs.declared.path.Step.{Step}
use Rattle.dli_tree.specs.Paths.{steps_of}
use Rattle.dedb_calls.specs.declared.ready.DedbReady.TheVariants as ready
use Rattle.fp_model.specs.declared.calls.Answer.{Answer}
use Rattle.fp_model.specs.DedbCalls.{type_of_path}
use Rattle.dedb_calls.proofs.get.show.Goals as goal

abbrev made : ℕ → List ℕ → List ℕ → Answer
made type bytes letters = record { status = 32 ∷ 32 ∷ []; segment = type; bytes = bytes; letters = letters }

pub returns-clause-answer : goal.returns-clause-answer
returns-clause-answer c def =
    ap (λ type. ready.Answer (made type c.args.found.bytes c.new.result))
    (c.type_of_path-segment.ensures def c.args.number
    ∙ ap (λ (steps : List Step). type_of_path def c.args.number (steps_of steps)) c.as_slice.ensures)
    ∙ ap (λ letters. ready.Answer (made (type_of_path def c.args.number (steps_of c.args.found.path.steps))
    c.args.found.bytes letters)) c.new.ensures
