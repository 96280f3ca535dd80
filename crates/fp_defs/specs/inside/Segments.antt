-- What bodies and proofs need of Segments, beside what contracts say.
use Rattle.std.specs.Prelude.{◌<◌, IfSome}
use Rattle.fp_model.specs.declared.definitions.SegDef.{SegDef}

-- ---- no part of what a text means: a condition of a function that makes definitions of drafts

-- A segment type with a parent and a length that its definition has room for.
pub record IsNarrow (def : SegDef) : Type 0 where
  pub near : IfSome def.parent (λ parent. parent < 256)
  pub short : def.length < 65536
