use Rattle.std.proofs.Common.{sym, subst}
use Rattle.std.specs.List.{AllByRecursion}
use Rattle.def_tables.specs.inside.Fields.{IsShort}
use Rattle.def_tables.proofs.Steps.{some_from_ok}
use Rattle.def_tables.proofs.FieldLemmas.{triples-short}
use Rattle.def_tables.proofs.fields.fields_at.Goals as goal

pub layout_of-requires : goal.layout_of-requires
layout_of-requires c =
    subst (AllByRecursion IsShort) (sym c.as_slice.ensures.value)
    (triples-short _ _ (some_from_ok _ _ _ c.in_ok-read.ensures))
