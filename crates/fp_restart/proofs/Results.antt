-- Several facts of one answer.
use Rattle.std.proofs.Common.{◌≡◌, refl, sym, subst}
use Rattle.std.specs.Prelude.{ℕ, IfOk, IsErrOf, List, OnOk, Result, Ok, Err}
use Rattle.fp_model.specs.declared.definitions.Defs.{Defs}
use Rattle.fp_model.specs.LogText.{Front}
use Rattle.fp_model.specs.declared.log.Entry.{Entry}
use Rattle.fp_model.specs.declared.scripts.Script.{Script}
use Rattle.fp_site.proofs.Images.{settles_left}
use Rattle.fp_site.specs.Disk.{Disk, Settles, Snapshot, Syncs}
use Rattle.log_groups.specs.Kept.{BeginsWith, IsSafeFrom}
use Rattle.fp_restart.proofs.Replays.{one_first_bad, readable_not_bad}
use Rattle.fp_restart.specs.Replayed.{IsFirstBadAt, IsReadable}
use Rattle.fp_restart.specs.Restarts.{IsDamageOr}
use Rattle.fp_restart.specs.declared.fault.RestartFault.{RestartFault}
use Rattle.fp_restart.specs.declared.fault.RestartFault.TheVariants as fault

-- what four facts of a value say together
pub of_four : {X E : Type 0} (r : Result X E) (A B C D Q : X → Type 0) → ((x : X) → A x → B x → C x → D x → Q x)
    → IfOk r A → IfOk r B → IfOk r C → IfOk r D → IfOk r Q
of_four (Ok x) A B C D Q f a b c d = f x a b c d
of_four (Err e) A B C D Q f a b c d = tt

-- and five
pub of_five : {X E : Type 0} (r : Result X E) (A B C D E2 Q : X → Type 0)
    → ((x : X) → A x → B x → C x → D x → E2 x → Q x) → IfOk r A → IfOk r B → IfOk r C → IfOk r D → IfOk r E2 → IfOk r Q
of_five (Ok x) A B C D E2 Q f a b c d e = f x a b c d e
of_five (Err bad) A B C D E2 Q f a b c d e = tt

-- a log that is bad at a place has no answer but that, or a fault
pub damage_or : {X : Type 0} (r : Result X RestartFault) (defs : Defs) (log : List ℕ) (first at : ℕ)
    → OnOk r (IsReadable defs log first) → (IsErrOf r fault.Foreign → ⊥)
    → ((set place : ℕ) → IsErrOf r (fault.Damaged set place) → (set ≡ 0) × IsFirstBadAt defs log first place)
    → IsFirstBadAt defs log first at → IsDamageOr at r
damage_or (Ok x) defs log first at readable foreign damaged bad = readable_not_bad defs log first at readable bad
damage_or (Err fault.Foreign) defs log first at readable foreign damaged bad = foreign refl
damage_or (Err fault.SiteFault) defs log first at readable foreign damaged bad = tt
damage_or (Err (fault.Damaged set place)) defs log first at readable foreign damaged bad =
    let it = damaged set place refl in (it.0, one_first_bad defs log first at place bad it.1)
damage_or (Err fault.Memory) defs log first at readable foreign damaged bad = tt

-- what a crash may leave, a sync may leave
pub same_synced : (h : Disk) (s : Snapshot) → h.may_leave s → Syncs h 0 s
same_synced h s left = record {
  before = s;
  left = left;
  this = settles_left h 0 s left;
  others =
      λ k other. refl;
  sent = λ told. refl;
}

-- where each image that a sync may make might have been made before, and the log is the same, it goes on to begin so
pub narrower : (defs : Defs) (scripts : List Script) (front : Front) (old new : Disk) (earlier : List Entry)
    → new.contents 0 ≡ old.contents 0 → ((image : List ℕ) → Settles new 0 image → Settles old 0 image)
    → IsSafeFrom defs scripts front old earlier → IsSafeFrom defs scripts front new earlier
narrower defs scripts front old new earlier same settles safe = record {
  now = subst (λ log. BeginsWith defs scripts front log earlier) (sym same) safe.now;
  crash = λ image now. safe.crash image (settles image now);
}
