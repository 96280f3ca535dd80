-- What an audit sends.
use Rattle.std.specs.Prelude.{◌≡◌, ◌⊎◌, ℕ, List, [], ◌∷◌, ◌++◌, codes}
use Rattle.std.specs.Fmt.{decimal}
use Rattle.fp_model.specs.declared.definitions.Defs.{Defs}
use Rattle.fp_model.specs.declared.scripts.Script.{Script}
use Rattle.fp_model.specs.LogText.{Front}
use Rattle.fp_site.specs.Disk.{Disk}
use Rattle.site_audit.specs.Legal.{IsLegalLog}
use Rattle.site_texts.specs.Sent.{HasSentPart}

-- that so many entries are legal: a line
abbrev pub legal_text : ℕ → List ℕ
legal_text count = codes "legal " ++ decimal count ++ 10 ∷ []

-- Whatever the answer is, a first part of the line was sent, of a log whose entries are all legal, and of any other
-- nothing; and nothing else changed, at no moment.
pub record SendsVerdict (defs : Defs) (scripts : List Script) (front : Front) (old new : Disk) : Type 0 where
  pub text : List ℕ
  pub is : (text ≡ [])
      ⊎ ((count : ℕ) × (IsLegalLog defs scripts front (old.contents 0) count × (text ≡ legal_text count)))
  pub sent : HasSentPart old new text
