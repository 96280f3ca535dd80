-- The sample: a text of definitions, and the definitions that it is.
use Rattle.std.specs.Prelude.{ℕ, List, [], ◌∷◌, ◌++◌, true, false, codes, Some, None}
use Rattle.fp_model.specs.declared.name.Name.{Name}
use Rattle.fp_model.specs.declared.definitions.Kind.TheVariants.{Fold}
use Rattle.fp_model.specs.declared.definitions.FieldKind.{FieldKind}
use Rattle.fp_model.specs.declared.definitions.FieldKind.TheVariants.{C, F, P}
use Rattle.fp_model.specs.declared.definitions.FieldDef.{FieldDef}
use Rattle.fp_model.specs.declared.definitions.MsdbDef.{MsdbDef}
use Rattle.fp_model.specs.declared.definitions.SegDef.{SegDef}
use Rattle.fp_model.specs.declared.definitions.AreaDef.{AreaDef}
use Rattle.fp_model.specs.declared.definitions.DedbDef.{DedbDef}
use Rattle.fp_model.specs.declared.definitions.Defs.{Defs}
use Rattle.fp_model.specs.Texts.{padded}

abbrev pub sample_text : List ℕ
sample_text =
    codes "regions = [1, 1]\nrouter = \"FOLD\"\n"
    ++ codes "[[msdb]]\nname = \"ACCTS\"\nfields = [[\"ACCT\", \"C\", 4], [\"BAL\", \"P\", 4]]\nload = [[\"A001\", \"100\"], [\"A002\", \"50\"]]\n"
    ++ codes "[[msdb]]\nname = \"TELLERS\"\ndynamic = true\nfields = [[\"TNO\", \"C\", 4], [\"CASH\", \"F\", 4]]\nload = [[\"T001\", \"0\"]]\n"
    ++ codes "[[dedb]]\nname = \"CUST\"\nrandomizer = \"FOLD\"\nci = 512\n"
    ++ codes "[[dedb.segment]]\nname = \"CUSTOMER\"\nfields = [[\"CNO\", \"C\", 4], [\"NAME\", \"C\", 12]]\n"
    ++ codes "[[dedb.segment]]\nname = \"AUDIT\"\nparent = \"CUSTOMER\"\nsequential = true\nfields = [[\"WHAT\", \"C\", 8]]\n"
    ++ codes "[[dedb.segment]]\nname = \"LOAN\"\nparent = \"CUSTOMER\"\nfields = [[\"LNO\", \"C\", 2], [\"DUE\", \"P\", 4]]\n"
    ++ codes "[[dedb.area]]\nname = \"AREA1\"\nuows = 2\nbase = 2\noverflow = 1\ncapacity = 4\n"
    ++ codes "[[dedb.area]]\nname = \"AREA2\"\nuows = 2\nbase = 2\noverflow = 1\ncapacity = 4\n"

abbrev named : List ℕ → Name
named text = record { 0 = padded 8 text }

abbrev field : List ℕ → FieldKind → ℕ → ℕ → FieldDef
field name kind at size = record { name = named name; kind = kind; at = at; length = size }

-- accounts: a key of 4 characters, and a balance in 4 packed bytes
abbrev pub accts : MsdbDef
accts = record {
  name = named (codes "ACCTS");
  dynamic = false;
  fields = field (codes "ACCT") C 0 4 ∷ field (codes "BAL") P 4 4 ∷ [];
  length = 8;
  load = (65 ∷ 48 ∷ 48 ∷ 49 ∷ 0 ∷ 0 ∷ 16 ∷ 12 ∷ []) ∷ (65 ∷ 48 ∷ 48 ∷ 50 ∷ 0 ∷ 0 ∷ 5 ∷ 12 ∷ []) ∷ [];
}

-- tellers: a key of 4 characters, and the cash in a full word
abbrev pub tellers : MsdbDef
tellers = record {
  name = named (codes "TELLERS");
  dynamic = true;
  fields = field (codes "TNO") C 0 4 ∷ field (codes "CASH") F 4 4 ∷ [];
  length = 8;
  load = (84 ∷ 48 ∷ 48 ∷ 49 ∷ 0 ∷ 0 ∷ 0 ∷ 0 ∷ []) ∷ [];
}

abbrev pub customer : SegDef
customer = record {
  name = named (codes "CUSTOMER");
  parent = None;
  sequential = false;
  fields = field (codes "CNO") C 0 4 ∷ field (codes "NAME") C 4 12 ∷ [];
  length = 16;
}

abbrev pub audit : SegDef
audit = record {
  name = named (codes "AUDIT");
  parent = Some 0;
  sequential = true;
  fields = field (codes "WHAT") C 0 8 ∷ [];
  length = 8;
}

abbrev pub loan : SegDef
loan = record {
  name = named (codes "LOAN");
  parent = Some 0;
  sequential = false;
  fields = field (codes "LNO") C 0 2 ∷ field (codes "DUE") P 2 4 ∷ [];
  length = 6;
}

abbrev pub area : List ℕ → AreaDef
area name = record { name = named name; uows = 2; base = 2; overflow = 1; capacity = 4; copies = 1 }

abbrev pub cust : DedbDef
cust = record {
  name = named (codes "CUST");
  randomizer = Fold;
  ci = 512;
  segments = customer ∷ audit ∷ loan ∷ [];
  areas = area (codes "AREA1") ∷ area (codes "AREA2") ∷ [];
}

-- two regions of one group, and nothing said of the log's groups, the pool, tries and copies
abbrev pub sample : Defs
sample = record {
  regions = 1 ∷ 1 ∷ [];
  router = Fold;
  log_group = 100;
  pool = 1000;
  tries = 0;
  msdbs = accts ∷ tellers ∷ [];
  dedbs = cust ∷ [];
  text = sample_text;
}
