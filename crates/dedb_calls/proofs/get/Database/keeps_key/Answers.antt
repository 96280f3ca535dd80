use Rattle.std.proofs.Common.{◌≡◌, ◌∙◌, List, ℕ, Some, None, sym, ap}
use Rattle.fp_model.specs.Order.{Place}
use Rattle.dli_tree.specs.Paths.{steps_of}
use Rattle.dedb_calls.specs.inside.Edits.{fits_key}
use Rattle.dedb_calls.specs.Progress.{held_in}
use Rattle.dedb_calls.proofs.get.Database.keeps_key.Goals as goal
use Rattle.std.proofs.lemmas.Option.{same_Some}

pub returns-in-Some : goal.returns-in-Some
returns-in-Some c place its =
    let same = same_Some c.in-Some.place.now place (c.in-Some.ensures ∙ its) in
    c.fits_key.ensures c.args.self.def.now c.args.self.number (sym c.as_slice-segments.ensures)
    ∙ ap (λ (b : List ℕ). fits_key c.args.self.def.now c.args.self.number b (steps_of c.steps.result.now))
    c.as_slice.ensures
    ∙ ap (fits_key c.args.self.def.now c.args.self.number c.args.bytes.now)
    (c.steps.ensures ∙ ap (λ (p : Place). p.path) same)

pub returns-in-None : goal.returns-in-None
returns-in-None c place its = absurd (lacks c.in-None.ensures its)
  where
    lacks : None ≡ held_in c.args.work.now c.args.self.number → held_in c.args.work.now c.args.self.number ≡ Some place
        → ⊥
    lacks e f = cc
