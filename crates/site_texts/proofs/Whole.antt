-- The text of a log, seen from before it was opened.
use Rattle.std.proofs.Common.{◌≡◌, ◌≢◌, ◌∙◌, ◌++◌, ap, inl, inr, sym, arith, subst, refl, ℕ, List, []}
use Rattle.std.specs.Prelude.{slice_index}
use Rattle.fp_model.specs.LogText.{Front, first_gate}
use Rattle.log_groups.specs.Images.{BeginsFor}
use Rattle.fp_model.specs.Groups.{HoldsGroups, IsDamaged}
use Rattle.fp_site.specs.Disk.{Disk, IsLawful, Stays}
use Rattle.site_texts.specs.inside.Groups.{AreAllSent, AreSentToDamage, SendsFrom}
use Rattle.site_texts.specs.Texts.{IsLogSent, IsSentToDamage, SendsGroups, log_shown}
use Rattle.site_texts.proofs.Told.{part_whole, sent_stays, stays_then_part}

-- nothing was sent
pub none_sent : (front : Front) (d0 d1 : Disk) → Stays d0 d1 → SendsGroups front d0 d1
none_sent front d0 d1 stays = record {
  groups = [];
  gate = first_gate front;
  begins = inl refl;
  holds = record { each = tt; next = omega arith; text = refl };
  sent = part_whole d0 d1 [] (sent_stays d0 d1 stays);
}

module _ (front : Front) (first : ℕ) (d0 d1 d2 : Disk) (law0 : IsLawful d0) (law1 : IsLawful d1)
    (is : first ≡ first_gate front) (stays : Stays d0 d1) where
  same : d1.contents 0 ≡ d0.contents 0
  same = ap (λ (f : ℕ → List ℕ). f 0) stays.contents

  pub part_sent : BeginsFor front (d0.contents 0) → SendsFrom first d1 d2 → SendsGroups front d0 d2
  part_sent begins sends = record {
    groups = sends.groups;
    gate = sends.gate;
    begins = inr begins;
    holds =
        subst (λ (l : List ℕ). HoldsGroups l (first_gate front) sends.groups sends.gate) same
        (subst (λ (n : ℕ). HoldsGroups (d1.contents 0) n sends.groups sends.gate) is sends.holds);
    sent = stays_then_part d0 d1 d2 _ law0 law1 stays sends.sent;
  }

  pub whole_sent : BeginsFor front (d0.contents 0) → AreAllSent first d1 d2 → IsLogSent front d0 d2
  whole_sent begins all = record {
    groups = all.groups;
    gate = all.gate;
    holds = record {
      begins = begins;
      reads = (
        subst (λ (l : List ℕ). HoldsGroups l (first_gate front) all.groups all.gate) same
            (subst (λ (n : ℕ). HoldsGroups (d1.contents 0) n all.groups all.gate) is all.holds),
        subst (λ (l : List ℕ). slice_index l all.gate ≢ 1) same all.closed,
      );
    };
    sent = all.sent ∙ ap (λ (t : List ℕ). t ++ log_shown all.groups) stays.sent;
  }

  pub damage_sent : (at : ℕ) → BeginsFor front (d0.contents 0) → AreSentToDamage first at d1 d2
      → IsSentToDamage front at d0 d2
  damage_sent at begins all = record {
    groups = all.groups;
    begins = begins;
    holds =
        subst (λ (l : List ℕ). HoldsGroups l (first_gate front) all.groups at) same
        (subst (λ (n : ℕ). HoldsGroups (d1.contents 0) n all.groups at) is all.holds);
    damaged = subst (λ (l : List ℕ). IsDamaged l at) same all.damaged;
    sent = all.sent ∙ ap (λ (t : List ℕ). t ++ log_shown all.groups) stays.sent;
  }
