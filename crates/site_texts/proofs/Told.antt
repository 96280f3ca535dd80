-- Texts that are sent one after another, and what is held back meanwhile.
use Rattle.std.proofs.Common.{◌≡◌, refl, sym, ◌∙◌, ap, arith, subst, ℕ, List, [], ◌∷◌, ◌++◌, length, take}
use Rattle.std.proofs.lemmas.List.{append-nil, append_assoc}
use Rattle.fp_site.specs.Disk.{Disk, Elapses, IsLawful, Sends, Snapshot, Stays}
use Rattle.fp_site.proofs.Runs.{elapses_none, elapses_on, elapses_weaker, stays_now}
use Rattle.fp_site.proofs.Sendings.{all_after, part_after, part_wider, sent_after, sent_wider, take_whole}
use Rattle.site_texts.specs.Sent.{HasSent, HasSentPart}
use Rattle.site_texts.specs.inside.Sent.{IsTold}

-- what was left before the first byte is sent
sends_nothing : (d : Disk) (text : List ℕ) (s : Snapshot) → d.may_leave s → Sends d text s
sends_nothing d text s left = record {
  before = s;
  left = left;
  images = refl;
  count = 0;
  sent = λ told. sym (append-nil s.sent);
}

-- nothing was sent
pub sent_none : (d : Disk) → HasSent d d []
sent_none d = record { sent = sym (append-nil d.sent); contents = refl; crash = elapses_none d (Sends d []) }

-- calls that change nothing send nothing
pub sent_stays : (d0 d1 : Disk) → Stays d0 d1 → HasSent d0 d1 []
sent_stays d0 d1 stays = record {
  sent = stays.sent ∙ sym (append-nil d0.sent);
  contents = stays.contents;
  crash = elapses_weaker d0 d1 d0.may_leave (Sends d0 []) (sends_nothing d0 []) stays.crash;
}

-- all of a text is a first part of it
pub part_whole : (d0 d1 : Disk) (text : List ℕ) → HasSent d0 d1 text → HasSentPart d0 d1 text
part_whole d0 d1 text all = record {
  count = length text;
  sent = all.sent ∙ ap (λ (t : List ℕ). d0.sent ++ t) (sym (take_whole text));
  contents = all.contents;
  crash = all.crash;
}

-- a first part of a text is one of a longer text
pub part_of_more : (d0 d1 : Disk) (a b : List ℕ) → HasSentPart d0 d1 a → HasSentPart d0 d1 (a ++ b)
part_of_more d0 d1 a b part =
    let wider = part_wider d0.sent d1.sent a b (part.count, part.sent) in record {
      count = wider.0;
      sent = wider.1;
      contents = part.contents;
      crash = sent_wider d0 d1 a b part.crash;
    }

-- nothing was sent of a text that was to be
pub part_none : (d0 d1 : Disk) (text : List ℕ) → HasSent d0 d1 [] → HasSentPart d0 d1 text
part_none d0 d1 text none = part_of_more d0 d1 [] text (part_whole d0 d1 [] none)

module _ (d0 d1 d2 : Disk) (a b : List ℕ) (law0 : IsLawful d0) (law1 : IsLawful d1) (first : HasSent d0 d1 a) where
  -- one text is sent after another
  pub sent_on : HasSent d1 d2 b → HasSent d0 d2 (a ++ b)
  sent_on second = record {
    sent = all_after d0.sent d1.sent d2.sent a b first.sent second.sent;
    contents = second.contents ∙ first.contents;
    crash = sent_after d0 d1 a b law0 law1 first.sent first.crash d2 second.crash;
  }

  -- and of the second a first part
  pub part_on : HasSentPart d1 d2 b → HasSentPart d0 d2 (a ++ b)
  part_on second =
      let all = part_after d0.sent d1.sent d2.sent a b first.sent (second.count, second.sent) in record {
        count = all.0;
        sent = all.1;
        contents = second.contents ∙ first.contents;
        crash = sent_after d0 d1 a b law0 law1 first.sent first.crash d2 second.crash;
      }

-- calls that change nothing behind a text, and before one
pub sent_then_stays : (d0 d1 d2 : Disk) (a : List ℕ) → IsLawful d0 → IsLawful d1 → HasSent d0 d1 a → Stays d1 d2
    → HasSent d0 d2 a
sent_then_stays d0 d1 d2 a law0 law1 first stays =
    subst (HasSent d0 d2) (append-nil a) (sent_on d0 d1 d2 a [] law0 law1 first (sent_stays d1 d2 stays))

pub stays_then_part : (d0 d1 d2 : Disk) (a : List ℕ) → IsLawful d0 → IsLawful d1 → Stays d0 d1 → HasSentPart d1 d2 a
    → HasSentPart d0 d2 a
stays_then_part d0 d1 d2 a law0 law1 stays second = part_on d0 d1 d2 [] a law0 law1 (sent_stays d0 d1 stays) second

-- ---- what is held back

-- nothing is sent yet
pub told_none : (d : Disk) (held rest : List ℕ) → IsTold d d (held ++ rest) held rest
told_none d held rest = record { done = []; all = refl; sent = sent_none d }

-- a first part of a text was sent, whatever is held back
pub told_part : (d0 d1 : Disk) (text held rest : List ℕ) → IsTold d0 d1 text held rest → HasSentPart d0 d1 text
told_part d0 d1 text held rest so_far = subst (HasSentPart d0 d1) (sym so_far.all)
    (part_of_more d0 d1 so_far.done (held ++ rest) (part_whole d0 d1 so_far.done so_far.sent))

-- what is still to come, as another text
pub told_as : (d0 d1 : Disk) (text held a b : List ℕ) → a ≡ b → IsTold d0 d1 text held a → IsTold d0 d1 text held b
told_as d0 d1 text held a b same = subst (IsTold d0 d1 text held) same

module _ (d0 d1 d2 : Disk) (text held piece rest : List ℕ) (law0 : IsLawful d0) (law1 : IsLawful d1)
    (so_far : IsTold d0 d1 text held (piece ++ rest)) where
  -- the text, seen from the next piece
  from_piece : text ≡ so_far.done ++ ((held ++ piece) ++ rest)
  from_piece = so_far.all ∙ ap (λ (t : List ℕ). so_far.done ++ t) (sym (append_assoc held piece rest))

  -- one piece more is told
  pub told_next : (held2 : List ℕ) → IsTold d1 d2 (held ++ piece) held2 [] → IsTold d0 d2 text held2 rest
  told_next held2 next = record {
    done = so_far.done ++ next.done;
    all =
        from_piece
        ∙ ap (λ (t : List ℕ). so_far.done ++ (t ++ rest))
        (next.all ∙ ap (λ (t : List ℕ). next.done ++ t) (append-nil held2))
        ∙ ap (λ (t : List ℕ). so_far.done ++ t) (append_assoc next.done held2 rest)
        ∙ sym (append_assoc so_far.done next.done (held2 ++ rest));
    sent = sent_on d0 d1 d2 so_far.done next.done law0 law1 so_far.sent next.sent;
  }

  -- or a first part of it is sent
  pub told_next_part : HasSentPart d1 d2 (held ++ piece) → HasSentPart d0 d2 text
  told_next_part part =
      let all : text ≡ (so_far.done ++ (held ++ piece)) ++ rest =
      from_piece ∙ sym (append_assoc so_far.done (held ++ piece) rest) in
      subst (HasSentPart d0 d2) (sym all)
      (part_of_more d0 d2 (so_far.done ++ (held ++ piece)) rest
      (part_on d0 d1 d2 so_far.done (held ++ piece) law0 law1 so_far.sent part))

-- all that is held back is sent, and nothing is to come
module _ (d0 d1 d2 : Disk) (text held : List ℕ) (law0 : IsLawful d0) (law1 : IsLawful d1)
    (so_far : IsTold d0 d1 text held []) where
  pub told_all : HasSent d1 d2 held → HasSent d0 d2 text
  told_all last = subst (HasSent d0 d2)
      (sym (so_far.all ∙ ap (λ (t : List ℕ). so_far.done ++ t) (append-nil held)))
      (sent_on d0 d1 d2 so_far.done held law0 law1 so_far.sent last)

  pub told_last_part : HasSentPart d1 d2 held → HasSentPart d0 d2 text
  told_last_part last = subst (HasSentPart d0 d2)
      (sym (so_far.all ∙ ap (λ (t : List ℕ). so_far.done ++ t) (append-nil held)))
      (part_on d0 d1 d2 so_far.done held law0 law1 so_far.sent last)
