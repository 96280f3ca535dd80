use Rattle.std.proofs.Common.{◌≡◌, [], sym, subst, rules}
use Rattle.std.specs.Prelude.{codes}
use Rattle.fp_model.specs.WellFormed.{IsMsdbDef}
use Rattle.call_tests.proofs.Samples.{sample_fields, sample_good}
use Rattle.call_tests.proofs.accounts.accounts.Goals as goal

pub returns-clause-good : goal.returns-clause-good
returns-clause-good c =
    let fields : c.from_vec.result ≡ sample_fields = search rules in
    let load : c.new.result ≡ [] = search rules in
    subst (λ fs. IsMsdbDef (record {
      name = record { 0 = codes "ACCTS   " };
      dynamic = c.args.dynamic;
      fields =
          fs;
      length = 8;
      load = c.new.result;
    })) (sym fields)
    (subst (λ l. IsMsdbDef (record {
      name = record { 0 = codes "ACCTS   " };
      dynamic = c.args.dynamic;
      fields =
          sample_fields;
      length = 8;
      load = l;
    })) (sym load) (sample_good c.args.dynamic))
