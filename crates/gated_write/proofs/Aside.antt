-- A gated write goes on where calls on other data sets came between.
use Rattle.std.proofs.Common.{◌≡◌, ℕ, List, refl, sym, ◌∙◌, subst}
use Rattle.fp_site.specs.Disk.{Disk, Snapshot, IsDurable, Settles, IsLawful}
use Rattle.fp_site.specs.Moments.{OnlyOn}
use Rattle.fp_site.proofs.Images.{settles_again, settles_left}
use Rattle.fp_site.proofs.Runs.{now_one}
use Rattle.gated_write.specs.Gates.{AreUnopened, IsClosed, IsReady, IsShut, IsWriting}

-- a run on data set k, and another one, set
module _ (k set : ℕ) (old new : Disk) (law : IsLawful old) (law2 : IsLawful new) (ne : set ≡ k → ⊥)
    (only : OnlyOn k old new) where
  -- what a crash leaves of it, one might have left before
  left_aside : (s : Snapshot) → new.may_leave s → Settles old set (s.images set)
  left_aside s now =
      let d = now_one old new _ law law2 only.crash
      (λ c left. record { before = c; left = left; this = tt; others = λ j other. refl; sent = λ told. refl }) s now in
      subst (Settles old set) (sym (d.others set ne)) (settles_left old set d.before d.left)

  -- so does what a further sync may make of it
  pub settles_aside : (image : List ℕ) → Settles new set image → Settles old set image
  settles_aside image settles = settles_again old new set image left_aside settles

  pub durable_beside : IsDurable old set → IsDurable new set
  durable_beside durable s now =
      let d = now_one old new _ law law2 only.crash
      (λ c left. record { before = c; left = left; this = tt; others = λ j other. refl; sent = λ told. refl }) s now in
      d.others set ne ∙ durable d.before d.left ∙ sym (only.now.contents set ne)

  pub unopened_aside : (start : List ℕ) (gate : ℕ) → AreUnopened start gate set old → AreUnopened start gate set new
  unopened_aside start gate each image settles = each image (settles_aside image settles)

  pub writing_aside : (start : List ℕ) (gate : ℕ) (body : List ℕ) → IsWriting start gate body set old
      → IsWriting start gate body set new
  writing_aside start gate body writing = record {
    stands = writing.stands;
    each = unopened_aside start gate writing.each;
    rest = writing.rest;
    is = only.now.contents set ne ∙ writing.is;
  }

  pub ready_aside : (start : List ℕ) (gate : ℕ) (body : List ℕ) → IsReady start gate body set old
      → IsReady start gate body set new
  ready_aside start gate body ready = record {
    stands = ready.stands;
    durable = durable_beside ready.durable;
    rest = ready.rest;
    is = only.now.contents set ne ∙ ready.is;
  }

  pub shut_aside : (gate : ℕ) → IsShut set gate old → IsShut set gate new
  shut_aside gate shut = record {
    durable = durable_beside shut.durable;
    closed = subst (IsClosed gate) (sym (only.now.contents set ne)) shut.closed;
  }
