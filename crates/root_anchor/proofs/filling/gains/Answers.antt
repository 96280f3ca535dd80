use Rattle.std.proofs.Common.{◌≡◌, IsTrue, List, true, false, not, refl, subst}
use Rattle.fp_model.specs.declared.database.Root.{Root}
use Rattle.root_changes.specs.Telling.{TellsRootGain}
use Rattle.root_anchor.proofs.ChangeLemmas.{gain_told}
use Rattle.root_anchor.proofs.filling.gains.Goals as goal
use Rattle.root_anchor.proofs.filling.gains.Goals.{in-Not, in_default}

pub returns : goal.returns
returns c =
    let P : List Root → Type 0 = λ rs. TellsRootGain rs c.as_slice-2.result.now c.gain_of_roots.result in
    let Q : List Root → Type 0 = λ rs. TellsRootGain c.args.roots.now rs c.gain_of_roots.result in
    let told : TellsRootGain c.args.roots.now c.args.others.now c.gain_of_roots.result =
    subst Q c.as_slice-2.ensures (subst P c.as_slice.ensures c.gain_of_roots.ensures.tells) in
    (elim c.match-matches.branch [
      | in-Not w ↦ (
        (λ yes. (let y : IsTrue (not true) = rw w.matches-is at yes in let z : false ≡ true = y in absurd (cc))),
        (λ g. absurd (told.none w.in-Not.is g)),
      )
      | in_default w ↦ (
        (λ yes. gain_told c.args.roots.now c.args.others.now c.gain_of_roots.result told w.in_default.not-Not),
        (λ g. rw w.matches-is refl),
      )
    ])
