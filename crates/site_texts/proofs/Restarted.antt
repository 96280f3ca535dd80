-- The text of the databases, seen from before the restart.
use Rattle.std.proofs.Common.{◌≡◌, ◌≢◌, ◌∙◌, ◌++◌, inl, inr, ap, arith, sym, subst, refl, ℕ, List, [], take}
use Rattle.std.specs.Prelude.{◌⊎◌, slice_index}
use Rattle.std.proofs.lemmas.List.{append-nil}
use Rattle.fp_model.specs.declared.database.Msdb.{Msdb}
use Rattle.fp_model.specs.declared.definitions.Defs.{Defs}
use Rattle.fp_model.specs.Groups.{entries_of}
use Rattle.balancing.specs.Numbered.{Numbered}
use Rattle.fp_model.specs.LogText.{Front, IsFormat, StartsWithFront, first_gate}
use Rattle.log_groups.specs.Images.{in_format}
use Rattle.log_groups.proofs.Fronts.{same_gate}
use Rattle.fp_restart.specs.Replayed.{HoldsFit, ReadsBack}
use Rattle.fp_site.specs.Disk.{Disk, IsDurable, IsLawful, Sends, Settles, Snapshot, Syncs}
use Rattle.fp_site.specs.Moments.{Through}
use Rattle.fp_site.proofs.Runs.{goes_on, weaker}
use Rattle.log_groups.specs.Log.{LogState}
use Rattle.msdb_store.specs.Store.{Stored}
use Rattle.site_texts.specs.Sent.{HasSent, HasSentPart, SyncsAndSends}
use Rattle.site_texts.specs.Texts.{IsTextOf, SendsDb, msdbs_text}

-- before the first byte is sent
synced_only : (old : Disk) (text : List ℕ) (s : Snapshot) → Syncs old 0 s → SyncsAndSends old text s
synced_only old text s d = record {
  before = d.before;
  left = d.left;
  log = inr d.this;
  others = d.others;
  count = 0;
  sent = λ told. d.sent told ∙ sym (append-nil d.before.sent);
}

module _ (old mid : Disk) (law : IsLawful mid) (restarted : Through old mid (Syncs old 0)) where
  -- and behind it
  sent_behind : (text : List ℕ) (s : Snapshot) → Sends mid text s → SyncsAndSends old text s
  sent_behind text s d =
      let base : Syncs old 0 d.before =
      restarted.each d.before (law.earlier old.moment mid.moment d.before restarted.later
      (law.counts_now d.before d.left)) in
      let at : (set : ℕ) → s.images set ≡ d.before.images set = λ set. ap (λ (f : ℕ → List ℕ). f set) d.images in
      record {
        before = base.before;
        left = base.left;
        log = inr (subst (Settles old 0) (sym (at 0)) base.this);
        others = λ set other. at set ∙ base.others set other;
        count = d.count;
        sent = λ told. d.sent (restarted.tells_sent told)
            ∙ ap (λ (t : List ℕ). t ++ take d.count text) (base.sent told);
      }

  pub show_moments : (text : List ℕ) (new : Disk) → HasSentPart mid new text → Through old new (SyncsAndSends old text)
  show_moments text new part = goes_on (SyncsAndSends old text) old mid new (Sends mid text)
      (weaker (Syncs old 0) (SyncsAndSends old text) old mid (synced_only old text) restarted) part.crash
      (sent_behind text)

-- a restart that gave nothing sends nothing
pub nothing_shown : (defs : Defs) (front : Front) (old mid : Disk) → ((set : ℕ) → mid.contents set ≡ old.contents set)
    → mid.sent ≡ old.sent → Through old mid (Syncs old 0) → SendsDb defs front old mid
nothing_shown defs front old mid contents sent run = record {
  text = [];
  is = inl refl;
  count = 0;
  sent = sent ∙ sym (append-nil old.sent);
  contents = contents;
  crash = weaker (Syncs old 0) (SyncsAndSends old []) old mid (synced_only old []) run;
}

-- what a restart read back is the log's text
pub text_read : (defs : Defs) (front : Front) (old mid : Disk) (store : Stored) (log : LogState) (lasts : Numbered)
    → mid.contents 0 ≡ old.contents 0 → IsFormat log.front_format
    → ReadsBack defs (in_format log.front_format front) mid store log lasts
    → IsTextOf defs front (old.contents 0) (msdbs_text defs store.msdbs)
text_read defs front old mid store log lasts same is_format read = record {
  groups = read.replayed.groups;
  gate = log.gate;
  begins = record {
    format = log.front_format;
    is_format = is_format;
    begins = subst (λ (l : List ℕ). StartsWithFront l (in_format log.front_format front)) same read.begins;
  };
  holds =
      subst (λ (n : ℕ). HoldsFit defs (old.contents 0) n log.gate read.replayed.groups)
      (same_gate log.front_format front)
      (subst (λ (l : List ℕ).
      HoldsFit defs l (first_gate (in_format log.front_format front)) log.gate read.replayed.groups) same
      read.replayed.holds);
  closed = subst (λ (l : List ℕ). slice_index l log.gate ≢ 1) same read.closed;
  is_text = ap (λ (ms : List Msdb). msdbs_text defs ms) read.replayed.msdbs;
}

-- behind a text that was sent, or a first part of it, a crash leaves a log that was for good
left_alike : (mid : Disk) (text : List ℕ) (s : Snapshot) → IsLawful mid → IsDurable mid 0
    → mid.left_since mid.moment s ⊎ Sends mid text s → s.images 0 ≡ mid.contents 0
left_alike mid text s law durable (inl before) = durable s (law.only_now s before)
left_alike mid text s law durable (inr sent) =
    ap (λ (f : ℕ → List ℕ). f 0) sent.images ∙ durable sent.before sent.left

pub rests_behind : (mid new : Disk) (text : List ℕ) → IsLawful mid → IsLawful new → IsDurable mid 0
    → HasSent mid new text → IsDurable new 0
rests_behind mid new text law law2 durable all s now =
    let since = law2.earlier mid.moment new.moment s all.crash.later (law2.counts_now s now) in
    left_alike mid text s law durable (all.crash.nothing_else mid.moment s (omega arith) since)
    ∙ sym (ap (λ (f : ℕ → List ℕ). f 0) all.contents)
