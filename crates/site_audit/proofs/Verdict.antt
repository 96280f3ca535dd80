-- What an audit sends, seen from before it read the log.
use Rattle.std.proofs.Common.{ℕ, List, [], inl, inr, refl}
use Rattle.std.specs.Prelude.{IfErr, Result, Ok, Err}
use Rattle.fp_model.specs.declared.definitions.Defs.{Defs}
use Rattle.fp_model.specs.declared.scripts.Script.{Script}
use Rattle.fp_model.specs.LogText.{Front}
use Rattle.fp_site.specs.Disk.{Disk, IsLawful, Stays}
use Rattle.site_audit.specs.Legal.{IsLegalLog}
use Rattle.site_audit.specs.Verdicts.{SendsVerdict, legal_text}
use Rattle.site_texts.specs.Sent.{HasSent, HasSentPart}
use Rattle.site_texts.proofs.Told.{part_whole, sent_on, sent_stays, stays_then_part}

-- what holds with any error
pub with_any : {A E : Type 0} (r : Result A E) (P : E → Type 0) → ((why : E) → P why) → IfErr r P
with_any (Ok x) P each = tt
with_any (Err why) P each = each why

-- nothing was sent
pub no_verdict : (defs : Defs) (scripts : List Script) (front : Front) (d0 d1 : Disk) → Stays d0 d1
    → SendsVerdict defs scripts front d0 d1
no_verdict defs scripts front d0 d1 stays = record {
  text = [];
  is = inl refl;
  sent = part_whole d0 d1 [] (sent_stays d0 d1 stays);
}

-- a first part of the line, or the whole of it
module _ (d0 d1 d2 : Disk) (law0 : IsLawful d0) (law1 : IsLawful d1) (stays : Stays d0 d1) where
  pub verdict_part : (defs : Defs) (scripts : List Script) (front : Front) (count : ℕ)
      → IsLegalLog defs scripts front (d0.contents 0) count → HasSentPart d1 d2 (legal_text count)
      → SendsVerdict defs scripts front d0 d2
  verdict_part defs scripts front count legal part = record {
    text = legal_text count;
    is = inr (count, (legal, refl));
    sent = stays_then_part d0 d1 d2 (legal_text count) law0 law1 stays part;
  }

  pub verdict_whole : (text : List ℕ) → HasSent d1 d2 text → HasSent d0 d2 text
  verdict_whole text sent = sent_on d0 d1 d2 [] text law0 law1 (sent_stays d0 d1 stays) sent
