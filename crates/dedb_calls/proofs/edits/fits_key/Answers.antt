use Rattle.std.proofs.Common.{◌∙◌, List, ℕ, sym, ap}
use Rattle.dli_tree.specs.Paths.{steps_of}
use Rattle.fp_model.specs.DedbCalls.{type_of_path}
use Rattle.fp_model.specs.Order.{key_in}
use Rattle.fp_model.specs.Texts.{same_text}
use Rattle.fp_model.specs.declared.definitions.SegDef.{SegDef}
use Rattle.dedb_calls.proofs.edits.fits_key.Goals as goal

pub returns : goal.returns
returns c def dedb same =
    c.eq.ensures
    ∙ ap (λ (k : List ℕ). same_text k c.key_of_path.result.now)
    (c.key_in.ensures
    ∙ ap (λ (t : ℕ). key_in c.args.segments.now t c.args.bytes.now) (c.type_of_path.ensures def dedb)
    ∙ ap (λ (ts : List SegDef). key_in ts (type_of_path def dedb (steps_of c.args.steps.now)) c.args.bytes.now)
    (sym same))
    ∙ ap (λ (k : List ℕ). same_text (key_in def.segments (type_of_path def dedb (steps_of c.args.steps.now))
    c.args.bytes.now) k) (c.key_of_path.ensures def dedb)
