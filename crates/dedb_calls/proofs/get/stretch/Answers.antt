use Rattle.std.proofs.Common.{◌≡◌, ◌∙◌, Option, List, sym, subst, ℕ}
use Rattle.fp_model.specs.DedbCalls.{anchors_searched}
use Rattle.fp_model.specs.Exits.{anchor_of}
use Rattle.dedb_calls.specs.inside.Searches.{numbers_in}
use Rattle.dedb_calls.proofs.SeenLemmas.{option_is, option_none}
use Rattle.dedb_calls.proofs.get.stretch.Goals as goal

pub returns-in-Some-clause-anchors : goal.returns-in-Some-clause-anchors
returns-in-Some-clause-anchors c dedb key is =
    let its = option_is (anchor_of c.args.def.now) key c.in-Some.root (sym c.in-Some.is ∙ is) in
    subst (λ (k : Option (List ℕ)). numbers_in c.named_stretch.result
    ≡ anchors_searched c.args.def.now dedb c.args.position.now c.args.get k) (sym its.1)
    (c.named_stretch.ensures.anchors c.args.def.now dedb its.0 its.2)

pub returns-in-None-clause-anchors : goal.returns-in-None-clause-anchors
returns-in-None-clause-anchors c dedb key is =
    subst (λ (k : Option (List ℕ)). numbers_in c.open_stretch.result
    ≡ anchors_searched c.args.def.now dedb c.args.position.now c.args.get k)
    (sym (option_none (anchor_of c.args.def.now) key (sym c.in-None.is ∙ is))) (c.open_stretch.ensures.anchors dedb)
