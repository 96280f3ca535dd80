use Rattle.std.proofs.Common.{arith, rules}
use Rattle.std.proofs.lemmas.Nat.{be_bytes_8}
use Rattle.fp_model.specs.Spellings.{be64}
use Rattle.log_format.proofs.takes.number_of.Goals as goal

-- the number that they spell spells them
pub returns-clause-text : goal.returns-clause-text
unfolding be64
returns-clause-text c = be_bytes_8 c.args.bytes.now c.from_be_bytes.result c.requires
    (λ i. omega (arith, c.type_inv.bytes i)) (search rules)
