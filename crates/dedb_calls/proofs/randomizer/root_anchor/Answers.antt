use Rattle.std.proofs.Common.{◌∙◌, sym, ap, Some, List, ℕ, Option}
use Rattle.std.specs.Prelude.{option_map}
use Rattle.fp_model.specs.Exits.{anchor_of}
use Rattle.dedb_calls.proofs.RandomizerLemmas.{named_key_fits}
use Rattle.dedb_calls.proofs.randomizer.root_anchor.Goals as goal

pub anchor_of-requires-clause-some : goal.anchor_of-requires-clause-some
anchor_of-requires-clause-some g c =
    (named_key_fits c.args.def.now 0 c.args.ssas.now c.in-Some.key.now c.requires.def c.requires.ssas
    (sym (c.in-Some.ensures c.args.def.now 0))).0

pub anchor_of-requires-clause-short : goal.anchor_of-requires-clause-short
anchor_of-requires-clause-short g c =
    (named_key_fits c.args.def.now 0 c.args.ssas.now c.in-Some.key.now c.requires.def c.requires.ssas
    (sym (c.in-Some.ensures c.args.def.now 0))).1

pub returns-in-Some : goal.returns-in-Some
returns-in-Some g c dedb =
    ap (λ (n : ℕ). Some n) c.anchor_of.ensures
    ∙ ap (λ (o : Option (List ℕ)). option_map (anchor_of c.args.def.now) o) (c.in-Some.ensures c.args.def.now dedb)

pub returns-in-None : goal.returns-in-None
returns-in-None g c dedb =
    ap (λ (o : Option (List ℕ)). option_map (anchor_of c.args.def.now) o) (c.in-None.ensures c.args.def.now dedb)
