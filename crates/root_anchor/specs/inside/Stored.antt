-- What bodies and proofs need of Stored, beside what contracts say.
use Rattle.std.specs.Prelude.{ℕ, List, map, Bool}
use Rattle.std.specs.List.{list_all}
use Rattle.fp_model.specs.declared.definitions.SegDef.{SegDef}
use Rattle.fp_model.specs.declared.database.Node.{Node}
use Rattle.root_anchor.specs.Stored.{is_in_form}

-- ---- roots in form: each segment has the length of its type, and there is one row for each direct child type

abbrev pub row_has_form : List SegDef → ℕ → List Node → Bool
row_has_form types type row = list_all (λ node. node type) (map (is_in_form types) row)
