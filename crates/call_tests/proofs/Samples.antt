-- A definition and a list of field search arguments for the tests.
use Rattle.std.proofs.Common.{ℕ, List, [], ◌∷◌, ◌++◌, refl, arith, Bool}
use Rattle.std.specs.Prelude.{codes}
use Rattle.std.specs.List.{IsDistinct}
use Rattle.fp_model.specs.declared.definitions.FieldDef.{FieldDef}
use Rattle.fp_model.specs.declared.definitions.FieldKind.TheVariants.{C, P}
use Rattle.fp_model.specs.declared.definitions.MsdbDef.{MsdbDef}
use Rattle.fp_model.specs.FitCalls.{IsFsaList}
use Rattle.fp_model.specs.Fsas.{Fsa}
use Rattle.fp_model.specs.Spellings.{be16}
use Rattle.fp_model.specs.WellFormed.{IsMsdbDef}

abbrev pub sample_fields : List FieldDef
sample_fields = record { name = record { 0 = codes "ACCT    " }; kind = C; at = 0; length = 4 } ∷ record
    { name = record { 0 = codes "BAL     " }; kind = P; at = 4; length = 4 } ∷ []

abbrev pub sample : Bool → MsdbDef
sample dynamic = record {
  name = record { 0 = codes "ACCTS   " };
  dynamic = dynamic;
  fields = sample_fields;
  length =
      8;
  load = [];
}

pub sample_good : (dynamic : Bool) → IsMsdbDef (sample dynamic)
unfolding IsDistinct
sample_good dynamic = record {
  name = (codes "ACCTS", refl, refl);
  layout = record {
    count = (omega arith, omega arith);
    stand = (refl, refl, (refl, refl, refl));
    names = (((codes "ACCT", refl, refl), refl, refl, refl), (((codes "BAL", refl, refl), refl, refl, refl), tt));
    distinct = ((refl, tt), (tt, tt));
  };
  key = (refl, omega arith);
  short = omega arith;
  loaded = tt;
  keys = tt;
}

-- at least 60, and less 60
abbrev pub withdrawn : List ℕ
withdrawn = codes "BAL      H" ++ 0 ∷ 2 ∷ codes "60*BAL      -" ++ 0 ∷ 2 ∷ codes "60 "

abbrev of_balance : ℕ → Fsa
of_balance op = record { field = codes "BAL     "; status = 32; op = op; operand = codes "60" }

pub withdrawn_good : IsFsaList withdrawn
unfolding be16
withdrawn_good = record {
  fsas = of_balance 72 ∷ of_balance 45 ∷ [];
  count = (omega arith, omega arith);
  each = (
    record { name = refl; status_fits = omega arith; op_fits = omega arith; operand_fits = omega arith },
    (record { name = refl; status_fits = omega arith; op_fits = omega arith; operand_fits = omega arith }, tt),
  );
  text = refl;
}
