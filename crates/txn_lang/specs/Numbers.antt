-- Scripts by name.
use Rattle.std.specs.Prelude.{◌≡◌, ℕ, List, Option, position}
use Rattle.std.specs.declared.cmp.Ordering.{Ordering}
use Rattle.std.specs.Ordering.{nat_cmp}
use Rattle.std.specs.Cmp.Lexicographic.{slice_cmp}
use Rattle.std.specs.BTreeMap.{BTreeMap, get}
use Rattle.fp_model.specs.declared.name.Name.{Name}
use Rattle.fp_model.specs.declared.scripts.Script.{Script}
use Rattle.fp_model.specs.Texts.{same_text}

-- the order of names: byte by byte
abbrev pub name_cmp : Name → Name → Ordering
name_cmp a b = slice_cmp nat_cmp a.0 b.0

-- the number of the script of a name
abbrev pub place_of : List Script → Name → Option ℕ
place_of scripts name = position (λ s. same_text s.name.0 name.0) scripts

-- a map has the numbers of these scripts
abbrev pub Indexes : BTreeMap Name ℕ → List Script → Type 0
Indexes numbers scripts = (name : Name) → get name_cmp numbers name ≡ place_of scripts name
