use Rattle.std.proofs.Common.{◌∙◌, ℕ, List, Option, sym, ap, subst}
use Rattle.std.specs.Prelude.{option_map}
use Rattle.fp_model.specs.DedbCalls.{type_of_path}
use Rattle.fp_model.specs.Order.{Place}
use Rattle.fp_model.specs.Shape.{has_length}
use Rattle.fp_model.specs.declared.definitions.SegDef.{SegDef}
use Rattle.dedb_calls.specs.Calls.{FitsCallOn}
use Rattle.dedb_storm.proofs.Benches.{none_held}
use Rattle.dedb_storm.proofs.fitting.fits_call.Goals as goal
use Rattle.std.proofs.lemmas.Option.{same_Some}

pub returns-in-Some : goal.returns-in-Some
returns-in-Some c long work its =
    subst (FitsCallOn c.args.def.now c.args.number work) (sym c.in-Repl.is) (λ place held.
    let type = same_Some c.in-Some.segment (type_of_path c.args.def.now c.args.number place.path) (sym c.in-Some.is ∙ its
    ∙ ap (λ (o : Option Place). option_map (λ p. type_of_path c.args.def.now c.args.number p.path) o) held) in
    ap (λ (t : ℕ). has_length c.args.def.now.segments t c.in-Repl.bytes) (sym type)
    ∙ sym (c.has_length-in-Some.ensures
    ∙ ap (λ (ts : List SegDef). has_length ts c.in-Some.segment c.as_slice-in-Some.result.now) c.as_slice-types.ensures
    ∙ ap (λ (b : List ℕ). has_length c.args.def.now.segments c.in-Some.segment b) c.as_slice-in-Some.ensures)
    ∙ long)

pub returns-in-None : goal.returns-in-None
returns-in-None c long work its =
    subst (FitsCallOn c.args.def.now c.args.number work) (sym c.in-Repl.is) (λ place held.
    absurd (none_held (λ (p : Place). type_of_path c.args.def.now c.args.number p.path) _ place (sym c.in-None.is ∙ its) held))
