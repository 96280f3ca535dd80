-- The disk model is lawful: what a read gives is one of the images that a crash may leave, and the moments go on.
use Rattle.std.proofs.Common.{◌^◌, ◌≡◌, ◌⊎◌, inl, inr, ⊎_elim, ℕ, ◌+◌, ◌<◌, ◌≤◌, max, Bool, true, false, ◌||◌, List, [], ◌∷◌, length, get_or, refl, sym, ◌∙◌, ap, subst, arith}
use Rattle.std.specs.Prelude.{◌==◌}
use Rattle.std.proofs.lemmas.Bool.{cases_eq}
use Rattle.std.proofs.lemmas.Bool.Decides.{nat_tests}
use Rattle.fp_site.specs.Disk.{Snapshot, written, covers}
use Rattle.fp_site.specs.Disk.{IsLawful}
use Rattle.memory_site.specs.History.{disk_of, LeftSince, History, Image, MayLeave, contents_after, synced_after, is_touched, longest_end, sent_after}
use Rattle.memory_site.specs.History.Event.{Opened, Wrote, Synced, Sent}
use Rattle.fp_site.specs.Written.{length-written, written_other}

-- the test of a data set's number is true of it,
pub same_set : (set : ℕ) → (set == set) ≡ true
same_set set = grind (arith, nat_tests)

-- and false of another
pub other_set : (s set : ℕ) → (s ≡ set → ⊥) → (s == set) ≡ false
other_set s set ne = grind (arith, nat_tests)

-- of two tests of which none is true, each is false
neither : (a b : Bool) → (a || b) ≡ false → (a ≡ false) × (b ≡ false)
neither true b h = cc
neither false true h = cc
neither false false h = (refl, refl)

-- a byte that a range does not cover stands before or behind it
pub outside : (at count i : ℕ) → covers at count i ≡ false → (i < at) ⊎ (at + count ≤ i)
outside at count i h = grind (arith, nat_tests)

-- the image after a write of some bytes in a range of this length
module _ (h : History) (set at count : ℕ) (c bytes : List ℕ) (le : length bytes ≤ count) (before : Image h set c) where
  -- the bytes after it
  abbrev now : List ℕ
  now = written c at bytes

  -- it is no shorter than at the last sync,
  pub write_shorter : length (synced_after h set) ≤ length now
  write_shorter = let a = before.no_shorter in let b = length-written c at bytes in omega arith

  -- no longer than the longest write ends,
  pub write_longer : length now ≤ max (length (synced_after h set)) (max (at + count) (longest_end h set))
  write_longer = let a = before.no_longer in let b = length-written c at bytes in omega arith

  -- and has the bytes that no write covers
  pub write_kept : (i : ℕ) → i < length (synced_after h set) → (covers at count i || is_touched h set i) ≡ false
      → get_or now i 0 ≡ get_or (synced_after h set) i 0
  write_kept i lt un =
      let parts = neither (covers at count i) (is_touched h set i) un in
      let out : (i < at) ⊎ (at + length bytes ≤ i) =
      ⊎_elim (λ a. inl a) (λ b. inr (omega arith)) (outside at count i parts.0) in
      written_other c at bytes i out ∙ before.kept i lt parts.1

-- a write that a crash leaves in part or whole
pub image_wrote : (h : History) (set at : ℕ) (whole c part : List ℕ) → length part ≤ length whole → Image h set c
    → Image (Wrote set at whole ∷ h) set (written c at part)
image_wrote h set at whole c part le before =
    let eq = same_set set in
    record {
      no_shorter = write_shorter h set at (length whole) c part le before;
      no_longer = rw eq (write_longer h set at (length whole) c part le before);
      kept = λ i lt un. let u = rw eq at un in write_kept h set at (length whole) c part le before i lt u;
    }

-- after a sync of the data set it is what a read gives
pub image_synced : (h : History) (set : ℕ) (c : List ℕ) → c ≡ contents_after h set → Image (Synced set ∷ h) set c
image_synced h set c is = let eq = same_set set in let len = ap length is in
    record {
      no_shorter = rw eq (omega arith);
      no_longer = rw eq (omega arith);
      kept =
          λ i lt un. rw eq (ap (λ l. get_or l i 0) is);
    }

-- a send changes no image
pub image_sent : (h : History) (set : ℕ) (text c : List ℕ) → Image h set c → Image (Sent text ∷ h) set c
image_sent h set text c before = record {
  no_shorter = before.no_shorter;
  no_longer = before.no_longer;
  kept =
      before.kept;
}

-- after a start every image is what was given
pub image_opened : (h : History) (images : ℕ → List ℕ) (text : List ℕ) (set : ℕ)
    → Image (Opened images text ∷ h) set (images set)
image_opened h images text set = record { no_shorter = omega arith; no_longer = omega arith; kept = λ i lt un. refl }

-- and of another data set
module _ (h : History) (s set : ℕ) (ne : s ≡ set → ⊥) (c : List ℕ) (before : Image h set c) where
  -- a write to another data set leaves the image one
  pub other_wrote : (at : ℕ) (bytes : List ℕ) → Image (Wrote s at bytes ∷ h) set c
  other_wrote at bytes = let eq = other_set s set ne in
      record {
        no_shorter = before.no_shorter;
        no_longer = rw eq before.no_longer;
        kept =
            λ i lt un. let u = rw eq at un in before.kept i lt u;
      }

  -- and so does a sync of another
  pub other_synced : Image (Synced s ∷ h) set c
  other_synced = let eq = other_set s set ne in record {
    no_shorter = rw eq before.no_shorter;
    no_longer = rw eq before.no_longer;
    kept =
        λ i lt un. let l = rw eq at lt in let u = rw eq at un in rw eq (before.kept i l u);
  }

-- what a read gives of a data set is one of its images
pub contents_image : (h : History) (set : ℕ) → Image h set (contents_after h set)
contents_image [] set = record { no_shorter = omega arith; no_longer = omega arith; kept = λ i lt un. refl }
contents_image (Opened images text ∷ h) set = image_opened h images text set
contents_image (Sent text ∷ h) set = image_sent h set text (contents_after h set) (contents_image h set)
contents_image (Wrote s at bytes ∷ h) set = let before = contents_image h set in elim (cases_eq s set) [
  | inl is ↦ let one : (s == set) ≡ true = ap (λ v. v == set) is ∙ same_set set in
      subst (λ v. Image (Wrote v at bytes ∷ h) set (contents_after (Wrote s at bytes ∷ h) set)) (sym is)
      (rw one (image_wrote h set at bytes (contents_after h set) bytes (omega arith) before))
  | inr ne ↦ let none = other_set s set ne in rw none (other_wrote h s set ne (contents_after h set) before at bytes)
]
contents_image (Synced s ∷ h) set = let before = contents_image h set in elim (cases_eq s set) [
  | inl is ↦ subst (λ v. Image (Synced v ∷ h) set (contents_after h set)) (sym is)
      (image_synced h set (contents_after h set) refl)
  | inr ne ↦ other_synced h s set ne (contents_after h set) before
]

-- what a read gives and what was sent is what a crash now may leave
pub now_left : (h : History) → MayLeave h (record { images = contents_after h; sent = sent_after h })
now_left h = record { images = contents_image h; sent = refl }

-- since now there is only what a crash now may leave,
none_later : (h : History) (s : Snapshot) → LeftSince (length h) h s → MayLeave h s
none_later [] s left = left
none_later (e ∷ before) s (inl now) = now
none_later (e ∷ before) s (inr past) = let le = past.0 in absurd (omega arith)

-- which counts as left since each moment,
one_of_them : (h : History) (t : ℕ) (s : Snapshot) → MayLeave h s → LeftSince t h s
one_of_them [] t s now = now
one_of_them (e ∷ before) t s now = inl now

-- and what was left since a moment was left since each earlier one
earlier : (h : History) (t u : ℕ) (s : Snapshot) → t ≤ u → LeftSince u h s → LeftSince t h s
earlier [] t u s le left = left
earlier (e ∷ before) t u s le (inl now) = inl now
earlier (e ∷ before) t u s le (inr past) = let ge = past.0 in
    inr (omega arith, ⊎_elim (λ w. inl w) (λ l. inr (earlier before t u s le l)) past.1)

-- the laws of a disk with this history
pub lawful : (h : History) → ((set : ℕ) → length (contents_after h set) ≤ 2 ^ 62) → IsLawful (disk_of h)
lawful h bounded = record {
  counts_now = λ s now. one_of_them h (length h) s now;
  earlier = earlier h;
  only_now = λ s left. none_later h s left;
  stands = (record { images = contents_after h; sent = sent_after h }, now_left h, refl);
  sent_now = λ told s now. now.sent;
  bounded = bounded;
}

-- no data set of a site is too long, where its contents are these
pub bounded_by : (h : History) (sets : ℕ → List ℕ) → ((k : ℕ) → sets k ≡ contents_after h k)
    → ((k : ℕ) → length (sets k) ≤ 2 ^ 62) → (k : ℕ) → length (contents_after h k) ≤ 2 ^ 62
bounded_by h sets stands bounded k = let e = ap length (stands k) in let b = bounded k in omega arith
