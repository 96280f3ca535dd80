-- What each call of a site in memory adds to what a crash may leave.
use Rattle.std.proofs.Common.{min, take, ◌++◌, ◌∙◌, ap, ◌≡◌, ◌⊎◌, inl, inr, ⊎_elim, ℕ, suc, ◌+◌, ◌<◌, ◌≤◌, max, false, ◌||◌, List, [], ◌∷◌, length, get_or, refl, sym, subst, arith, Result, OnOk, OnErr}
use Rattle.std.specs.Prelude.{◌==◌, if◌then◌else◌, Ok, Err, is_err}
use Rattle.std.proofs.lemmas.Bool.{cases_eq, cases_lt}
use Rattle.std.proofs.lemmas.List.{ext_get_or, take-take, take_all, length-take}
use Rattle.std.proofs.Math.Seq.{take-length}
use Rattle.fp_site.specs.Disk.{Snapshot, IsDurable, Broken, Leaves, written, Torn, Differs, Settles, Sends, Elapses, covers}
use Rattle.memory_site.specs.History.{Event, History, Image, MayLeave, MayLeaveWithin, LeftSince, contents_after, synced_after, is_touched, longest_end, sent_after, disk_of}
use Rattle.memory_site.specs.History.Event.{Opened, Wrote, Synced, Sent}
use Rattle.memory_site.specs.inside.Past.{Breaks}
use Rattle.fp_site.specs.Written.{length-written, written_other}
use Rattle.memory_site.specs.Laws.{outside, same_set, other_set, contents_image}
use Rattle.fp_site.proofs.Runs.{elapses_weaker}
use Rattle.memory_site.proofs.Untorn.{untorn, untorn_shorter, untorn_longer, untorn_kept, is_torn}
use Rattle.fp_site.proofs.Images.{settles_left}

-- a prefix of a prefix
take-take_min : (n m : ℕ) (xs : List ℕ) → take n (take m xs) ≡ take (min n m) xs
take-take_min n m xs = elim (cases_lt n m) [
  | inl lt ↦ take-take n m xs (omega arith) ∙ ap (λ k. take k xs) (omega arith)
  | inr ge ↦ take_all n (take m xs) (omega (arith, length-take m xs)) ∙ ap (λ k. take k xs) (omega arith)
]

-- the contents after a write of other bytes
broken_by : (c : List ℕ) (at : ℕ) (left : List ℕ) (count : ℕ) → length left ≡ count
    → Broken at count c (written c at left)
broken_by c at left count is =
    let len = length-written c at left in
    record {
      no_shorter = len.0;
      no_longer = omega (arith, len.1);
      others = λ i out. written_other c at left i (⊎_elim (λ a. inl a) (λ b. inr (omega arith))
          (outside at count i out));
    }

-- by what a call answered
pub by_result : {T E P Q R : Type 0} (r : Result T E) → OnOk r P → OnErr r Q → (P → R) → (Q → R) → R
by_result (Ok v) p q f g = f p
by_result (Err e) p q f g = g q

-- where nothing was noted no time went on
pub none_more : (h : History) (these : Snapshot → Type 0) → Elapses (disk_of h) (disk_of h) these
none_more h these = record {
  later = omega arith;
  keeps = λ t s le left. left;
  nothing_else =
      λ t s le left. inl left;
  tells_sent = λ told. told;
}

-- one event more: what a crash after it, or within it, may leave
one_more : (h : History) (e : Event) (these : Snapshot → Type 0) → ((s : Snapshot) → MayLeave (e ∷ h) s → these s)
    → ((s : Snapshot) → MayLeaveWithin e h s → these s) → Elapses (disk_of h) (disk_of (e ∷ h)) these
one_more h e these here within = record {
  later = let le : length h ≤ suc (length h) = omega arith in le;
  keeps = λ t s le left. inr (le, inr left);
  nothing_else = nothing_else;
  tells_sent = λ told. told;
}
  where
    nothing_else : (t : ℕ) (s : Snapshot) → t ≤ length h → LeftSince t (e ∷ h) s → LeftSince t h s ⊎ these s
    nothing_else t s le (inl now) = inr (here s now)
    nothing_else t s le (inr past) = ⊎_elim (λ w. inr (within s w)) (λ l. inl l) past.1

-- the snapshot with another image of one data set
abbrev put : ℕ → List ℕ → Snapshot → Snapshot
put set image s = record { images = λ k. if k == set then image else s.images k; sent = s.sent }

-- it has this image,
put_this : (set : ℕ) (image : List ℕ) (s : Snapshot) → (put set image s).images set ≡ image
put_this set image s = rw (same_set set) refl

-- and the others as they were
put_other : (set : ℕ) (image : List ℕ) (s : Snapshot) (k : ℕ) → (k ≡ set → ⊥) → (put set image s).images k ≡ s.images k
put_other set image s k ne = rw (other_set k set ne) refl

-- where the other data sets are as before, and this one has an image from before
put_left : (h : History) (set : ℕ) (image : List ℕ) (s : Snapshot) → Image h set image
    → ((k : ℕ) → (k ≡ set → ⊥) → Image h k (s.images k)) → s.sent ≡ sent_after h → MayLeave h (put set image s)
put_left h set image s this others text = record { images = images; sent = text }
  where
    images : (k : ℕ) → Image h k ((put set image s).images k)
    images k = elim (cases_eq k set) [
      | inl is ↦ subst (λ v. Image h v ((put set image s).images v)) (sym is)
          (subst (λ c. Image h set c) (sym (put_this set image s)) this)
      | inr ne ↦ subst (λ c. Image h k c) (sym (put_other set image s k ne)) (others k ne)
    ]

-- an inequality the other way round
flip_ne : (k set : ℕ) → (k ≡ set → ⊥) → set ≡ k → ⊥
flip_ne k set ne is = ne (sym is)

-- where an image from before is known that this step leads from
differs_by : (h : History) (set : ℕ) (step : List ℕ → List ℕ → Type 0) (image : List ℕ) (s : Snapshot)
    → Image h set image → ((k : ℕ) → (k ≡ set → ⊥) → Image h k (s.images k)) → s.sent ≡ sent_after h
    → step image (s.images set) → Differs (disk_of h) set step s
differs_by h set step image s this others text by = record {
  before = put set image s;
  left = put_left h set image s this others text;
  this = subst (λ c. step c (s.images set)) (sym (put_this set image s)) by;
  others = λ k ne. sym (put_other set image s k ne);
  sent = λ told. refl;
}

-- before a write to another data set the image was one
other_was_wrote : (h : History) (s set at : ℕ) (bytes c : List ℕ) → (set ≡ s → ⊥) → Image (Wrote s at bytes ∷ h) set c
    → Image h set c
other_was_wrote h s set at bytes c ne im =
    let eq = other_set s set (flip_ne set s ne) in
    record { no_shorter = im.no_shorter; no_longer = rw eq at im.no_longer; kept = λ i lt un. im.kept i lt (rw eq un) }

-- and before a sync of another
other_was_synced : (h : History) (s set : ℕ) (c : List ℕ) → (set ≡ s → ⊥) → Image (Synced s ∷ h) set c → Image h set c
other_was_synced h s set c ne im =
    let eq = other_set s set (flip_ne set s ne) in
    record {
      no_shorter = rw eq at im.no_shorter;
      no_longer = rw eq at im.no_longer;
      kept =
          λ i lt un. (rw eq at im.kept) i lt un;
    }

-- a write
pub wrote : (h : History) (set at : ℕ) (bytes : List ℕ)
    → Elapses (disk_of h) (disk_of (Wrote set at bytes ∷ h)) (Differs (disk_of h) set (Torn at (length bytes)))
wrote h set at bytes = one_more h (Wrote set at bytes) (Differs (disk_of h) set (Torn at (length bytes))) here
    (λ s none. absurd none)
  where
    here : (s : Snapshot) → MayLeave (Wrote set at bytes ∷ h) s → Differs (disk_of h) set (Torn at (length bytes)) s
    here s now =
        let im = now.images set in
        let eq = same_set set in
        let n = length bytes in
        let c = s.images set in
        let longer : length c ≤ max (length (synced_after h set)) (max (at + n) (longest_end h set)) =
        rw eq at im.no_longer in
        let kept : (i : ℕ) → i < length (synced_after h set) → (covers at n i || is_touched h set i) ≡ false
        → get_or c i 0 ≡ get_or (synced_after h set) i 0 = λ i lt un. im.kept i lt (rw eq un) in
        let image = untorn (synced_after h set) (is_touched h set) (longest_end h set) at n c im.no_shorter longer kept
        in
        differs_by h set (Torn at n) image s
        (record {
          no_shorter = untorn_shorter (synced_after h set) (is_touched h set) (longest_end h set) at n c im.no_shorter
              longer kept;
          no_longer = untorn_longer (synced_after h set) (is_touched h set) (longest_end h set) at n c im.no_shorter
              longer kept;
          kept = untorn_kept (synced_after h set) (is_touched h set) (longest_end h set) at n c im.no_shorter longer
              kept;
        })
        (λ k ne. other_was_wrote h set k at bytes (s.images k) ne (now.images k)) now.sent
        (is_torn (synced_after h set) (is_touched h set) (longest_end h set) at n c im.no_shorter longer kept)

-- after a sync a crash leaves what a read gives
pub synced_is : (h : History) (set : ℕ) (c : List ℕ) → Image (Synced set ∷ h) set c → c ≡ contents_after h set
synced_is h set c im =
    let eq = same_set set in
    let shorter : length (contents_after h set) ≤ length c = rw eq at im.no_shorter in
    let longer : length c ≤ max (length (contents_after h set)) 0 = rw eq at im.no_longer in
    let kept : (i : ℕ) → i < length (contents_after h set) → false ≡ false
    → get_or c i 0 ≡ get_or (contents_after h set) i 0 = rw eq at im.kept in
    ext_get_or 0 c (contents_after h set) (omega arith) (λ i lt. kept i (let l = lt in omega arith) refl)

-- so the data set is durable
pub synced_durable : (h : History) (set : ℕ) → IsDurable (disk_of (Synced set ∷ h)) set
synced_durable h set s now = synced_is h set (s.images set) (now.images set)

-- a sync
pub synced : (h : History) (set : ℕ) → Elapses (disk_of h) (disk_of (Synced set ∷ h))
    (Differs (disk_of h) set (λ _ image. Settles (disk_of h) set image))
synced h set = one_more h (Synced set) (Differs (disk_of h) set (λ _ image. Settles (disk_of h) set image)) here
    (λ s none. absurd none)
  where
    left : (s : Snapshot) → MayLeave (Synced set ∷ h) s → MayLeave h s
    left s now = record {
      images = λ k. elim (cases_eq k set) [
        | inl is ↦ subst (λ v. Image h v (s.images v)) (sym is)
            (subst (λ c. Image h set c) (sym (synced_is h set (s.images set) (now.images set))) (contents_image h set))
        | inr ne ↦ other_was_synced h set k (s.images k) ne (now.images k)
      ];
      sent = now.sent;
    }

    here : (s : Snapshot) → MayLeave (Synced set ∷ h) s
        → Differs (disk_of h) set (λ _ image. Settles (disk_of h) set image) s
    here s now = record {
      before = s;
      left = left s now;
      this = settles_left (disk_of h) set s (left s now);
      others =
          λ k ne. refl;
      sent = λ told. refl;
    }

-- a send
pub sent_whole : (h : History) (text : List ℕ) → Elapses (disk_of h) (disk_of (Sent text ∷ h)) (Sends (disk_of h) text)
sent_whole h text = one_more h (Sent text) (Sends (disk_of h) text) here within
  where
    before : Snapshot → Snapshot
    before s = record { images = s.images; sent = sent_after h }

    here : (s : Snapshot) → MayLeave (Sent text ∷ h) s → Sends (disk_of h) text s
    here s now = record {
      before = before s;
      left = record {
        images = λ k. let im = now.images k in record
            { no_shorter = im.no_shorter; no_longer = im.no_longer; kept = im.kept };
        sent = refl;
      };
      images = refl;
      count = length text;
      sent = λ told. now.sent ∙ ap (λ t. sent_after h ++ t) (sym (take-length text));
    }

    within : (s : Snapshot) → MayLeaveWithin (Sent text) h s → Sends (disk_of h) text s
    within s w = record {
      before = before s;
      left = record { images = w.1.0; sent = refl };
      images = refl;
      count = w.0;
      sent = λ told. w.1.1;
    }

-- a send of a prefix sends prefixes of the whole
pub sent_part : (h : History) (text : List ℕ) (n : ℕ)
    → Elapses (disk_of h) (disk_of (Sent (take n text) ∷ h)) (Sends (disk_of h) text)
sent_part h text n = elapses_weaker (disk_of h) (disk_of (Sent (take n text) ∷ h)) (Sends (disk_of h) (take n text))
    (Sends (disk_of h) text) of_whole (sent_whole h (take n text))
  where
    of_whole : (s : Snapshot) → Sends (disk_of h) (take n text) s → Sends (disk_of h) text s
    of_whole s d = record {
      before = d.before;
      left = d.left;
      images = d.images;
      count = min d.count n;
      sent = λ told. d.sent told ∙ ap (λ t. d.before.sent ++ t) (take-take_min d.count n text);
    }

-- what a call said of the history, by what it answered
pub by_history : {T E : Type 0} (r : Result T E) (old new : History) (e : Event) (these : Snapshot → Type 0)
    → OnOk r (new ≡ e ∷ old) → OnErr r (new ≡ old) → Elapses (disk_of old) (disk_of (e ∷ old)) these
    → Elapses (disk_of old) (disk_of new) these
by_history r old new e these ok err more =
    by_result r ok err
    (λ is. subst (λ n. Elapses (disk_of old) (disk_of n) these) (sym is) more)
    (λ same. subst (λ n. Elapses (disk_of old) (disk_of n) these) (sym same) (none_more old these))

-- after a start a crash leaves what was given
pub opened_is : (h : History) (images : ℕ → List ℕ) (text : List ℕ) (set : ℕ) (c : List ℕ)
    → Image (Opened images text ∷ h) set c → c ≡ images set
opened_is h images text set c im =
    let shorter = im.no_shorter in
    let longer = im.no_longer in
    ext_get_or 0 c (images set) (omega arith) (λ i lt. im.kept i (let l = lt in omega arith) refl)

-- so every data set is durable there
pub opened_durable : (h : History) (images : ℕ → List ℕ) (text : List ℕ) → h ≡ Opened images text ∷ [] → (set : ℕ)
    → IsDurable (disk_of h) set
opened_durable h images text is set = subst (λ g. IsDurable (disk_of g) set) (sym is)
    (λ s now. opened_is [] images text set (s.images set) (now.images set))

-- what an Ok tells
pub of_ok : {T E P : Type 0} (r : Result T E) → is_err r ≡ false → OnOk r P → P
of_ok (Ok v) is p = p
of_ok (Err e) is p = cc

-- a write that failed, where it noted mixed bytes or found no memory
module _ {T E : Type 0} (r : Result T E) (set at count : ℕ) (old new : History)
    (ok : OnOk r (Breaks set at count old new)) (err : OnErr r (new ≡ old)) where
  -- what a crash may leave
  pub broke_crash : Elapses (disk_of old) (disk_of new) (Differs (disk_of old) set (Torn at count))
  broke_crash =
      by_result r ok err
      (λ b. subst (λ n. Elapses (disk_of old) (disk_of n) (Differs (disk_of old) set (Torn at count))) (sym b.noted)
      (subst (λ n. Elapses (disk_of old) (disk_of (Wrote set at b.left ∷ old)) (Differs (disk_of old) set (Torn at n)))
      b.as_long (wrote old set at b.left)))
      (λ same. subst (λ n. Elapses (disk_of old) (disk_of n) (Differs (disk_of old) set (Torn at count))) (sym same)
      (none_more old (Differs (disk_of old) set (Torn at count))))

  -- what a read gives
  pub broke_contents : Broken at count (contents_after old set) (contents_after new set)
  broke_contents =
      by_result r ok err
      (λ b. subst (λ n. Broken at count (contents_after old set) (contents_after n set)) (sym b.noted)
      (let eq = same_set set in rw eq (broken_by (contents_after old set) at b.left count b.as_long)))
      (λ same. subst (λ n. Broken at count (contents_after old set) (contents_after n set)) (sym same)
      (record { no_shorter = omega arith; no_longer = omega arith; others = λ i out. refl }))

  -- what stays
  pub broke_leaves : Leaves set (disk_of old) (disk_of new)
  broke_leaves =
      by_result r ok err
      (λ b. subst (λ n. Leaves set (disk_of old) (disk_of n)) (sym b.noted)
      (record { contents = λ k ne. let eq = other_set set k (λ e. ne (sym e)) in rw eq refl; sent = refl }))
      (λ same. subst (λ n. Leaves set (disk_of old) (disk_of n)) (sym same)
      (record { contents = λ k ne. refl; sent = refl }))
