-- The texts of groups, one after another.
use Rattle.std.proofs.Common.{◌≡◌, ◌≢◌, inl, inr, refl, sym, ◌∙◌, ap, arith, subst, ℕ, ◌+◌, List, [], ◌∷◌, ◌++◌, length}
use Rattle.std.specs.Prelude.{slice_index}
use Rattle.std.proofs.lemmas.List.{append-nil, append_assoc, length-append}
use Rattle.std.proofs.lemmas.List.Concat.{flat_map-cons}
use Rattle.fp_model.specs.declared.log.Entry.{Entry}
use Rattle.fp_model.specs.Groups.{HoldsGroups, IsDamaged, entries_of}
use Rattle.log_groups.specs.Reads.{HasGroup}
use Rattle.log_groups.proofs.LogImages.{groups_more}
use Rattle.fp_show.specs.GroupText.{group_text}
use Rattle.fp_site.specs.Disk.{Disk, IsLawful, Stays}
use Rattle.site_texts.specs.inside.Groups.{AreAllSent, AreSent, AreSentToDamage, IsOneSent, SendsFrom, SendsOne}
use Rattle.site_texts.specs.Sent.{HasSent, HasSentPart}
use Rattle.site_texts.specs.Texts.{groups_shown, log_shown}
use Rattle.site_texts.proofs.Told.{part_on, part_whole, sent_none, sent_on, sent_then_stays}
use Rattle.site_texts.specs.declared.groups.Place.{Place}
use Rattle.model_laws.proofs.Entries.{entries_push}

-- one group more behind others
shown_more : (number first : ℕ) (groups : List (List Entry)) (group : List Entry)
    → groups_shown number first (groups ++ group ∷ []) ≡
    groups_shown number first groups ++ group_text (number + length groups) (first + length (entries_of groups)) group
shown_more number first [] group =
    let n : number ≡ number + length {A = List Entry} [] = omega arith in
    let f : first ≡ first + length {A = Entry} [] = omega arith in
    append-nil (group_text number first group)
    ∙ ap (λ (k : ℕ). group_text k first group) n
    ∙ ap (λ (k : ℕ). group_text (number + length {A = List Entry} []) k group) f
shown_more number first (g ∷ groups) group =
    let n : number + 1 + length groups ≡ number + length (g ∷ groups) = omega arith in
    let f : first + length g + length (entries_of groups) ≡ first + length (entries_of (g ∷ groups)) =
    omega (arith, ap length (flat_map-cons (λ (es : List Entry). es) g groups), length-append g (entries_of groups)) in
    ap (λ (t : List ℕ). group_text number first g ++ t)
    (shown_more (number + 1) (first + length g) groups group
    ∙ ap (λ (k : ℕ). groups_shown (number + 1) (first + length g) groups
    ++ group_text k (first + length g + length (entries_of groups)) group) n
    ∙ ap (λ (k : ℕ). groups_shown (number + 1) (first + length g) groups
    ++ group_text (number + length (g ∷ groups)) k group) f)
    ∙ sym (append_assoc (group_text number first g) (groups_shown (number + 1) (first + length g) groups) _)

pub log_more : (groups : List (List Entry)) (group : List Entry) → log_shown (groups ++ group ∷ []) ≡ log_shown groups
    ++ group_text (length groups) (length (entries_of groups)) group
log_more groups group =
    let n : 0 + length groups ≡ length groups = omega arith in
    let f : 0 + length (entries_of groups) ≡ length (entries_of groups) = omega arith in
    shown_more 0 0 groups group
    ∙ ap (λ (k : ℕ). log_shown groups ++ group_text k (0 + length (entries_of groups)) group) n
    ∙ ap (λ (k : ℕ). log_shown groups ++ group_text (length groups) k group) f

-- the text of groups up to a place, and of one behind them
behind_place : (first : ℕ) (place : Place) (d0 d1 : Disk) (so_far : AreSent first place d0 d1) (entries : List Entry)
    → log_shown (so_far.groups ++ entries ∷ []) ≡ log_shown so_far.groups
    ++ group_text place.groups place.entries entries
behind_place first place d0 d1 so_far entries =
    log_more so_far.groups entries
    ∙ ap (λ (k : ℕ). log_shown so_far.groups ++ group_text k (length (entries_of so_far.groups)) entries)
    (sym so_far.number)
    ∙ ap (λ (k : ℕ). log_shown so_far.groups ++ group_text place.groups k entries) (sym so_far.count)

-- no group yet
pub are_sent_none : (first : ℕ) (d : Disk) → AreSent first (record { at = first; groups = 0; entries = 0 }) d d
are_sent_none first d = record {
  groups = [];
  holds = record { each = tt; next = omega arith; text = refl };
  number = omega arith;
  count = omega arith;
  sent = sent_none d;
}

-- one group more
pub are_sent_more : (first : ℕ) (place next : Place) (d0 d1 d2 : Disk) → IsLawful d0 → IsLawful d1
    → AreSent first place d0 d1 → IsOneSent place next d1 d2 → AreSent first next d0 d2
are_sent_more first place next d0 d1 d2 law0 law1 so_far one =
    let same = ap (λ (f : ℕ → List ℕ). f 0) so_far.sent.contents in
    let group = subst (λ (l : List ℕ). HasGroup l place.at one.entries next.at) same one.group in
    let all : entries_of (so_far.groups ++ one.entries ∷ []) ≡ entries_of so_far.groups ++ one.entries =
    entries_push so_far.groups one.entries in
    let text = behind_place first place d0 d1 so_far one.entries in
    record {
      groups = so_far.groups ++ one.entries ∷ [];
      holds = groups_more (d0.contents 0) first so_far.groups place.at one.entries next.at so_far.holds group;
      number =
          let more = length-append so_far.groups (one.entries ∷ []) in
          omega (arith, so_far.number, one.groups, more);
      count = omega (
        arith,
        so_far.count,
        one.count,
        ap length all,
        length-append (entries_of so_far.groups)
            one.entries,
      );
      sent = subst (HasSent d0 d2) (sym text)
          (sent_on d0 d1 d2 (log_shown so_far.groups) (group_text place.groups place.entries one.entries) law0 law1
          so_far.sent one.sent);
    }

-- whatever became of the next group, a first part of the text of groups was sent
pub sends_more : (first : ℕ) (place : Place) (d0 d1 d2 : Disk) → IsLawful d0 → IsLawful d1 → AreSent first place d0 d1
    → SendsOne place d1 d2 → SendsFrom first d0 d2
sends_more first place d0 d1 d2 law0 law1 so_far (inl stays) = record {
  groups = so_far.groups;
  gate = place.at;
  holds = so_far.holds;
  sent = part_whole d0 d2 (log_shown so_far.groups)
      (sent_then_stays d0 d1 d2 (log_shown so_far.groups) law0 law1 so_far.sent stays);
}
sends_more first place d0 d1 d2 law0 law1 so_far (inr part) =
    let same = ap (λ (f : ℕ → List ℕ). f 0) so_far.sent.contents in
    let group = subst (λ (l : List ℕ). HasGroup l place.at part.entries part.next) same part.group in
    record {
      groups = so_far.groups ++ part.entries ∷ [];
      gate = part.next;
      holds = groups_more (d0.contents 0) first so_far.groups place.at part.entries part.next so_far.holds group;
      sent = subst (HasSentPart d0 d2) (sym (behind_place first place d0 d1 so_far part.entries))
          (part_on d0 d1 d2 (log_shown so_far.groups) (group_text place.groups place.entries part.entries) law0 law1
          so_far.sent part.sent);
    }

-- all groups up to a gate that isn't open were sent
pub all_sent : (first : ℕ) (place : Place) (d0 d1 d2 : Disk) → AreSent first place d0 d1
    → slice_index (d1.contents 0) place.at ≢ 1 → Stays d1 d2 → AreAllSent first d0 d2
all_sent first place d0 d1 d2 so_far closed stays = record {
  groups = so_far.groups;
  gate = place.at;
  holds = so_far.holds;
  closed = subst (λ (l : List ℕ). slice_index l place.at ≢ 1) (ap (λ (f : ℕ → List ℕ). f 0) so_far.sent.contents)
      closed;
  sent = stays.sent ∙ so_far.sent.sent;
}

-- all groups before damage were sent
pub sent_to_damage : (first at : ℕ) (place : Place) (d0 d1 d2 : Disk) → AreSent first place d0 d1 → at ≡ place.at
    → IsDamaged (d1.contents 0) at → Stays d1 d2 → AreSentToDamage first at d0 d2
sent_to_damage first at place d0 d1 d2 so_far here damaged stays = record {
  groups = so_far.groups;
  holds = subst (λ (n : ℕ). HoldsGroups (d0.contents 0) first so_far.groups n) (sym here) so_far.holds;
  damaged = subst (λ (l : List ℕ). IsDamaged l at) (ap (λ (f : ℕ → List ℕ). f 0) so_far.sent.contents) damaged;
  sent = stays.sent ∙ so_far.sent.sent;
}
