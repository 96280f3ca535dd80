-- Entries, items and keys of the rows on the log's bytes.
use Rattle.std.specs.Prelude.{ℕ, List, [], ◌∷◌, codes}
use Rattle.fp_model.specs.declared.log.Entry.{Entry}
use Rattle.fp_model.specs.declared.log.Item.{Item}
use Rattle.fp_model.specs.declared.log.Item.TheVariants.{Segment, Image}
use Rattle.fp_model.specs.declared.log.Outcome.{Outcome}

-- the first entry, of a transaction that ended so
abbrev pub ended : Outcome → List ℕ → Entry
ended outcome reply = record {
  from = 0;
  outcome = outcome;
  line = codes "T1 ASK A001";
  reply = reply;
  notes =
      [];
  items = [];
}

-- a changed segment
abbrev pub changed : ℕ → List ℕ → Item
changed msdb key = Segment msdb key []

-- a changed interval
abbrev pub image : ℕ → ℕ → Item
image set ci = Image set ci []

-- the keys of 21 customers
abbrev pub customers : List (List ℕ)
customers =
    codes "C001" ∷ codes "C009" ∷ codes "C012" ∷ codes "C023" ∷ codes "C034" ∷ codes "C045" ∷ codes "C056"
    ∷ codes "C067" ∷ codes "C070" ∷ codes "C078" ∷ codes "C081" ∷ codes "C089" ∷ codes "C092" ∷ codes "C100"
    ∷ codes "C108" ∷ codes "C111" ∷ codes "C119" ∷ codes "C122" ∷ codes "C133" ∷ codes "C144" ∷ codes "C155" ∷ []
