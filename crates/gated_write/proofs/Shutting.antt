-- The gate at the head of a data set is closed: what a crash leaves of each call.
use Rattle.std.proofs.Common.{◌≡◌, ◌⊎◌, inl, inr, ⊎_elim, ℕ, zero, suc, ◌+◌, ◌<◌, ◌≤◌, ◌≢◌, eqb, not, true, false, List, [], ◌∷◌, length, get_or, drop, refl, sym, ◌∙◌, ap, subst, arith}
use Rattle.std.specs.Prelude.{slice_index}
use Rattle.std.proofs.lemmas.Bool.Decides.{nat_tests}
use Rattle.std.proofs.lemmas.Bool.{cases_eq}
use Rattle.std.proofs.lemmas.List.{ext_get_or}
use Rattle.fp_site.specs.Disk.{Disk, Snapshot, Torn, IsDurable, Settles, Tears, Syncs, Elapses, Leaves, Stays, IsLawful, written, covers, read_range}
use Rattle.fp_site.specs.Moments.{Through, OnlyOn}
use Rattle.fp_site.proofs.Ranges.{get_or-read}
use Rattle.fp_site.proofs.Images.{torn_from, durable_stays, settles_left, settles_contents, settles_synced, settles_stays, settles_torn}
use Rattle.fp_site.proofs.Runs.{started, goes_on, stays_on}
use Rattle.fp_site.proofs.Frames.{only_none, only_more, only_stays}
use Rattle.fp_site.specs.Site.{ReadsNothing}
use Rattle.gated_write.specs.Gates.{ReadsOnly, IsClosed, IsShut, IsOldOrShut}
use Rattle.gated_write.proofs.Bodies.{written_is}

-- the gate is absent, or open
abbrev pub IsOpenGate : List ℕ → Type 0
IsOpenGate bytes = (length bytes ≡ 0) ⊎ (slice_index bytes 0 ≡ 1)

-- what a crash leaves of a write of the gate
torn_gate : (old c : List ℕ) → IsOpenGate old → Torn 0 1 old c
    → (c ≡ old) ⊎ (IsClosed 0 c ⊎ ((length old ≡ 0) × (length c ≤ 1)))
torn_gate old c (inl none) torn = let short = torn.no_longer in inr (inr (none, omega (arith, none)))
torn_gate [] c (inr is_open) torn = let short = torn.no_longer in inr (inr (refl, omega arith))
torn_gate (x ∷ xs) c (inr is_open) torn = elim (cases_eq (get_or c 0 0) 1) [
  | inl is ↦ let no_shorter = torn.no_shorter in let no_longer = torn.no_longer in
      inl (ext_get_or 0 c (x ∷ xs) (omega arith) (λ i lt. same i lt is))
  | inr ne ↦ let no_shorter = torn.no_shorter in inr (inl (record { stands = omega arith; byte = ne }))
]
  where
    same : (i : ℕ) → i < length c → get_or c 0 0 ≡ 1 → get_or c i 0 ≡ get_or (x ∷ xs) i 0
    same zero lt is = is ∙ sym is_open
    same (suc i) lt is = let no_longer = torn.no_longer in
        let out : covers 0 1 (suc i) ≡ false = grind (arith, nat_tests) in torn.others (suc i) (omega arith) out

-- ---- a look at the gate

-- the byte that was read
looked_at : (bytes now seen : List ℕ) → now ≡ bytes → seen ≡ read_range now 0 1 → get_or seen 0 0 ≡ get_or bytes 0 0
looked_at bytes now seen same is =
    ap (λ l. get_or l 0 0) is ∙ get_or-read now 0 1 0 (omega arith) ∙ ap (λ l. get_or l 0 0) same

pub looked_closed : (bytes now seen : List ℕ) (len : ℕ) → len ≡ length bytes → len ≢ 0 → now ≡ bytes
    → seen ≡ read_range now 0 1 → not (eqb (get_or seen 0 0) 1) ≡ true → IsClosed 0 bytes
looked_closed bytes now seen len long some same is shut = record {
  stands = omega (arith, long, some);
  byte = λ one. let e : get_or seen 0 0 ≡ 1 = looked_at bytes now seen same is ∙ one in grind (arith, nat_tests);
}

pub looked_open : (bytes now seen : List ℕ) → now ≡ bytes → seen ≡ read_range now 0 1
    → not (eqb (get_or seen 0 0) 1) ≡ false → slice_index bytes 0 ≡ 1
looked_open bytes now seen same is open_now =
    sym (looked_at bytes now seen same is) ∙ (let e : get_or seen 0 0 ≡ 1 = grind (arith, nat_tests) in e)

-- ---- the calls

-- the disks: h before, h1 after the sync, h2 after a look at the gate
module _ (set : ℕ) (h h1 : Disk) (law : IsLawful h) (law1 : IsLawful h1) (leaves1 : Leaves set h h1)
    (first : Elapses h h1 (Syncs h set)) where
  abbrev pub Q : Snapshot → Type 0
  Q s = IsOldOrShut h set (s.images set)

  pub only1 : OnlyOn set h h1
  only1 = only_more set h h h1 (λ _ image. Settles h set image) law law (only_none set h) leaves1 first

  pub synced1 : Through h h1 (Q)
  synced1 = goes_on (Q) h h h1 (Syncs h set)
      (started (Q) h law (λ s left. inl (settles_left h set s left))) first (λ s d. inl d.this)

  -- what settles after it
  pub settled1 : (image : List ℕ) → Settles h1 set image → IsOldOrShut h set image
  settled1 image settles = inl (settles_synced h h1 set image law law1 first settles)

  module _ (h2 : Disk) (law2 : IsLawful h2) (stays : Stays h1 h2) where
    pub only2 : OnlyOn set h h2
    only2 = only_stays set h h1 h2 law law1 only1 stays

    pub settled2 : (image : List ℕ) → Settles h2 set image → IsOldOrShut h set image
    settled2 image settles = settled1 image (settles_stays h1 h2 set image law1 law2 stays settles)

    module _ (durable1 : IsDurable h1 set) (same1 : h1.contents set ≡ h.contents set) where
      pub looked : Through h h2 (Q)
      looked = stays_on (Q) h h1 h2 law1 synced1 stays
          (λ s left. inl (subst (Settles h set) (sym (durable1 s left ∙ same1)) (settles_contents h set law)))

      pub durable2 : IsDurable h2 set
      durable2 = durable_stays h1 h2 set law1 law2 stays durable1

      same2 : h2.contents set ≡ h.contents set
      same2 = ap (λ f. f set) stays.contents ∙ same1

      pub shut_already : IsClosed 0 (h1.contents set) → IsShut set 0 h2
      shut_already gate = record {
        durable = durable2;
        closed =
            subst (IsClosed 0) (sym (ap (λ f. f set) stays.contents)) gate;
      }

      -- an image with a torn gate
      torn_image : (c : List ℕ) → IsOpenGate (h1.contents set) → Torn 0 1 (h2.contents set) c → IsOldOrShut h set c
      torn_image c gate torn = ⊎_elim (λ same. inl (subst (Settles h set) (sym (same ∙ same2))
          (settles_contents h set law)))
          (λ no. inr (⊎_elim (λ closed. inl closed) (λ none. inr (ap length (sym same2) ∙ none.0, none.1)) no))
          (torn_gate (h2.contents set) c (subst IsOpenGate (sym (ap (λ f. f set) stays.contents)) gate) torn)

      module _ (h3 : Disk) (law3 : IsLawful h3) (gate : IsOpenGate (h1.contents set)) (leaves3 : Leaves set h2 h3)
          (third : Elapses h2 h3 (Tears h2 set 0 1)) where
        pub only3 : OnlyOn set h h3
        only3 = only_more set h h2 h3 (Torn 0 1) law law2 only2 leaves3 third

        pub wrote : Through h h3 (Q)
        wrote = goes_on (Q) h h2 h3 (Tears h2 set 0 1) looked third
            (λ s d. torn_image (s.images set) gate (torn_from h2 set 0 1 s durable2 d))

        pub settled3 : (image : List ℕ) → Settles h3 set image → IsOldOrShut h set image
        settled3 image settles = torn_image image gate
            (settles_torn h2 h3 set 0 1 image law2 law3 durable2 third settles)

        module _ (h4 : Disk) (leaves4 : Leaves set h3 h4) (fourth : Elapses h3 h4 (Syncs h3 set)) where
          pub only4 : OnlyOn set h h4
          only4 = only_more set h h3 h4 (λ _ image. Settles h3 set image) law law3 only3 leaves4 fourth

          pub synced2 : Through h h4 (Q)
          synced2 = goes_on (Q) h h3 h4 (Syncs h3 set) wrote fourth (λ s d. settled3 (s.images set) d.this)

          pub settled4 : IsLawful h4 → (image : List ℕ) → Settles h4 set image → IsOldOrShut h set image
          settled4 law4 image settles = settled3 image (settles_synced h3 h4 set image law3 law4 fourth settles)

-- after the write
pub shut_now : (set : ℕ) (old : List ℕ) (new : Disk) → IsDurable new set → new.contents set ≡ written old 0 (0 ∷ [])
    → IsShut set 0 new
shut_now set old new durable is =
    let all : new.contents set ≡ 0 ∷ drop 1 old = is ∙ written_is old 0 (0 ∷ []) (omega arith) in
    let byte : slice_index (new.contents set) 0 ≡ 0 = ap (λ l. get_or l 0 0) all in
    record {
      durable = durable;
      closed = record { stands = omega (arith, ap length all); byte = λ one. omega (arith, byte, one) };
    }

-- the rest stays
pub rest_now : (set : ℕ) (old : List ℕ) (new : Disk) → new.contents set ≡ written old 0 (0 ∷ [])
    → drop 1 (new.contents set) ≡ drop 1 old
rest_now set old new is = ap (drop 1) (is ∙ written_is old 0 (0 ∷ []) (omega arith))

-- ---- what is read, by what is told and by the numbers

-- no data set, and then this one alone; no more than so much of it
module _ (set : ℕ) (told told1 told2 : ℕ → Type 0) (read read1 read2 : ℕ → ℕ)
    (first : ReadsNothing told told1 read read1) where
  pub then_reads : ReadsOnly set told1 told2 read1 read2 → ReadsOnly set told told2 read read2
  then_reads only k t =
      let second = only k t in
      let before = first k second.0 in
      (before.0, λ other. second.1 other ∙ before.1)

  pub then_few : (count : ℕ) → ReadsOnly set told1 told2 read1 read2 → (told2 set → read2 set ≤ read1 set + count)
      → told2 set → read2 set ≤ read set + count
  then_few count only few t = omega (arith, few t, (first set (only set t).0).1)

-- this one alone, and then no data set
pub reads_then : (set : ℕ) (told told1 told2 : ℕ → Type 0) (read read1 read2 : ℕ → ℕ)
    → ReadsNothing told1 told2 read1 read2 → ReadsOnly set told told1 read read1 → ReadsOnly set told told2 read read2
reads_then set told told1 told2 read read1 read2 second only k t =
    let after = second k t in
    let before = only k after.0 in
    (before.0, λ other. after.1 ∙ before.1 other)

pub few_then : (set : ℕ) (told1 told2 : ℕ → Type 0) (read1 read2 : ℕ → ℕ) → ReadsNothing told1 told2 read1 read2
    → (most : ℕ) → (told1 set → read1 set ≤ most) → told2 set → read2 set ≤ most
few_then set told1 told2 read1 read2 second most few t =
    let after = second set t in
    omega (arith, after.1, few after.0)

-- ---- the calls one behind the other, of a device x by what it tells

module _ {X : Type 0} (told : X → Type 0) (disk : X → Disk) (tells : X → ℕ → Type 0) (read : X → ℕ → ℕ)
    (lawful : (x : X) → told x → IsLawful (disk x)) (set : ℕ) where
  -- What calls that close the gate leave: no other data set changed, at every moment and behind a further sync the data
  -- set is as it might have been, or shut, and no more than the gate was read.
  pub record Left (x y : X) : Type 0 where
    pub only : told x → OnlyOn set (disk x) (disk y)
    pub crash : told x → Through (disk x) (disk y) (λ s. IsOldOrShut (disk x) set (s.images set))
    pub settles : (image : List ℕ) → told x → Settles (disk y) set image → IsOldOrShut (disk x) set image
    pub reads : ReadsOnly set (tells x) (tells y) (read x) (read y)
    pub few : tells y set → read y set ≤ read x set + 1

  module _ (x x1 : X) (still1 : told x → told x1) (leaves1 : told x → Leaves set (disk x) (disk x1))
      (first : told x → Elapses (disk x) (disk x1) (Syncs (disk x) set))
      (reads1 : ReadsNothing (tells x) (tells x1) (read x) (read x1)) where
    pub left_sync : Left x x1
    left_sync = record {
      only = λ t. only1 set (disk x) (disk x1) (lawful x t) (lawful x1 (still1 t)) (leaves1 t) (first t);
      crash = λ t. synced1 set (disk x) (disk x1) (lawful x t) (lawful x1 (still1 t)) (leaves1 t) (first t);
      settles = λ image t. settled1 set (disk x) (disk x1) (lawful x t) (lawful x1 (still1 t)) (leaves1 t) (first t)
          image;
      reads = λ k t. let r = reads1 k t in (r.0, λ other. r.1);
      few = λ t. omega (arith, (reads1 set t).1);
    }

    module _ (durable1 : told x → IsDurable (disk x1) set)
        (same1 : told x → (disk x1).contents set ≡ (disk x).contents set) (x2 : X) (still2 : told x1 → told x2)
        (stays : told x1 → Stays (disk x1) (disk x2)) (reads2 : ReadsOnly set (tells x1) (tells x2) (read x1) (read x2))
        (few2 : tells x2 set → read x2 set ≤ read x1 set + 1) where
      pub left_look : Left x x2
      left_look = record {
        only = λ t. let t1 = still1 t in only2 set (disk x) (disk x1) (lawful x t) (lawful x1 t1) (leaves1 t) (first t)
            (disk x2) (lawful x2 (still2 t1)) (stays t1);
        crash = λ t. let t1 = still1 t in looked set (disk x) (disk x1) (lawful x t) (lawful x1 t1) (leaves1 t)
            (first t) (disk x2) (lawful x2 (still2 t1)) (stays t1) (durable1 t) (same1 t);
        settles = λ image t. let t1 = still1 t in settled2 set (disk x) (disk x1) (lawful x t) (lawful x1 t1)
            (leaves1 t) (first t) (disk x2) (lawful x2 (still2 t1)) (stays t1) image;
        reads = then_reads set (tells x) (tells x1) (tells x2) (read x) (read x1) (read x2) reads1 reads2;
        few = then_few set (tells x) (tells x1) (tells x2) (read x) (read x1) (read x2) reads1 1 reads2 few2;
      }

      module _ (gate : told x1 → IsOpenGate ((disk x1).contents set)) (x3 : X) (still3 : told x2 → told x3)
          (leaves3 : told x2 → Leaves set (disk x2) (disk x3))
          (third : told x2 → Elapses (disk x2) (disk x3) (Tears (disk x2) set 0 1))
          (reads3 : ReadsNothing (tells x2) (tells x3) (read x2) (read x3)) where
        pub left_write : Left x x3
        left_write = record {
          only = λ t. let t1 = still1 t in let t2 = still2 t1 in only3 set (disk x) (disk x1) (lawful x t)
              (lawful x1 t1) (leaves1 t) (first t) (disk x2) (lawful x2 t2) (stays t1) (durable1 t) (same1 t) (disk x3)
              (lawful x3 (still3 t2)) (gate t1) (leaves3 t2) (third t2);
          crash = λ t. let t1 = still1 t in let t2 = still2 t1 in wrote set (disk x) (disk x1) (lawful x t)
              (lawful x1 t1) (leaves1 t) (first t) (disk x2) (lawful x2 t2) (stays t1) (durable1 t) (same1 t) (disk x3)
              (lawful x3 (still3 t2)) (gate t1) (leaves3 t2) (third t2);
          settles = λ image t. let t1 = still1 t in let t2 = still2 t1 in settled3 set (disk x) (disk x1) (lawful x t)
              (lawful x1 t1) (leaves1 t) (first t) (disk x2) (lawful x2 t2) (stays t1) (durable1 t) (same1 t) (disk x3)
              (lawful x3 (still3 t2)) (gate t1) (leaves3 t2) (third t2) image;
          reads = reads_then set (tells x) (tells x2) (tells x3) (read x) (read x2) (read x3) reads3 left_look.reads;
          few = few_then set (tells x2) (tells x3) (read x2) (read x3) reads3 (read x set + 1) left_look.few;
        }

        module _ (x4 : X) (still4 : told x3 → told x4) (leaves4 : told x3 → Leaves set (disk x3) (disk x4))
            (fourth : told x3 → Elapses (disk x3) (disk x4) (Syncs (disk x3) set))
            (reads4 : ReadsNothing (tells x3) (tells x4) (read x3) (read x4)) where
          pub left_all : Left x x4
          left_all = record {
            only = λ t. let t1 = still1 t in let t2 = still2 t1 in let t3 = still3 t2 in only4 set (disk x) (disk x1)
                (lawful x t) (lawful x1 t1) (leaves1 t) (first t) (disk x2) (lawful x2 t2) (stays t1) (durable1 t)
                (same1 t) (disk x3) (lawful x3 t3) (gate t1) (leaves3 t2) (third t2) (disk x4) (leaves4 t3) (fourth t3);
            crash = λ t. let t1 = still1 t in let t2 = still2 t1 in let t3 = still3 t2 in synced2 set (disk x)
                (disk x1) (lawful x t) (lawful x1 t1) (leaves1 t) (first t) (disk x2) (lawful x2 t2) (stays t1)
                (durable1 t) (same1 t) (disk x3) (lawful x3 t3) (gate t1) (leaves3 t2) (third t2) (disk x4) (leaves4 t3)
                (fourth t3);
            settles = λ image t. let t1 = still1 t in let t2 = still2 t1 in let t3 = still3 t2 in settled4 set (disk x)
                (disk x1) (lawful x t) (lawful x1 t1) (leaves1 t) (first t) (disk x2) (lawful x2 t2) (stays t1)
                (durable1 t) (same1 t) (disk x3) (lawful x3 t3) (gate t1) (leaves3 t2) (third t2) (disk x4) (leaves4 t3)
                (fourth t3) (lawful x4 (still4 t3)) image;
            reads = reads_then set (tells x) (tells x3) (tells x4) (read x) (read x3) (read x4) reads4
                left_write.reads;
            few = few_then set (tells x3) (tells x4) (read x3) (read x4) reads4 (read x set + 1) left_write.few;
          }
