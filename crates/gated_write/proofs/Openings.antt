-- The gate is opened: what a crash leaves of its write and of the sync behind it.
use Rattle.std.proofs.Common.{◌≡◌, ℕ, ◌+◌, ◌<◌, ◌≤◌, List, [], ◌∷◌, ◌++◌, length, get_or, take, drop, sym, ◌∙◌, ap, subst, arith}
use Rattle.std.proofs.lemmas.List.{length-append, length-take, take-take, take_at, drop_at, drop_more, take-append-le}
use Rattle.fp_site.specs.Disk.{Disk, Snapshot, Torn, IsDurable, Settles, Tears, Syncs, Elapses, Leaves, IsLawful, written}
use Rattle.fp_site.specs.Moments.{Through, OnlyOn}
use Rattle.fp_site.proofs.Torns.{torn_front, torn_back}
use Rattle.fp_site.proofs.Images.{torn_from, settles_synced, settles_torn}
use Rattle.fp_site.proofs.Runs.{started, goes_on}
use Rattle.fp_site.proofs.Frames.{only_none, only_more}
use Rattle.gated_write.specs.Gates.{IsReady, IsStaged, IsOpened}
use Rattle.gated_write.proofs.Bodies.{written_is}

-- contents with a body behind the gate
module _ (old : List ℕ) (gate : ℕ) (body rest c : List ℕ) (stands : gate < length old)
    (is : c ≡ take (gate + 1) old ++ (body ++ rest)) where
  head_length : length (take (gate + 1) old) ≡ gate + 1
  head_length = omega (arith, stands, length-take (gate + 1) old)

  c_length : gate + 1 ≤ length c
  c_length = omega (arith, ap length is, length-append (take (gate + 1) old) (body ++ rest), head_length)

  c_front : take gate c ≡ take gate old
  c_front =
      ap (take gate) is ∙ take-append-le gate (take (gate + 1) old) (body ++ rest) (omega (arith, head_length))
      ∙ take-take gate (gate + 1) old (omega arith)

  c_back : drop (gate + 1) c ≡ body ++ rest
  c_back = ap (drop (gate + 1)) is ∙ drop_at (take (gate + 1) old) (body ++ rest) (gate + 1) head_length

  -- whatever stands at the gate
  pub at_gate : (image : List ℕ) → Torn gate 1 c image → IsStaged old gate body image
  at_gate image torn =
      let longer = torn.no_shorter in
      let long : gate < length image = omega (arith, c_length) in
      record {
        front = torn_front gate 1 c image (omega (arith, c_length)) torn ∙ c_front;
        first = get_or image gate 0;
        rest = rest;
        behind = drop_more image gate 0 long ∙ ap (λ t. get_or image gate 0 ∷ t)
            (torn_back gate 1 c image c_length torn ∙ c_back);
      }

  -- before it is written
  pub unwritten : IsStaged old gate body c
  unwritten = record {
    front = c_front;
    first = get_or c gate 0;
    rest = rest;
    behind = drop_more c gate 0 (omega (arith, c_length)) ∙ ap (λ t. get_or c gate 0 ∷ t) c_back;
  }

  gate_length : length (take gate old) ≡ gate
  gate_length = omega (arith, stands, length-take gate old)

  final_is : written c gate (1 ∷ []) ≡ take gate old ++ (1 ∷ (body ++ rest))
  final_is =
      written_is c gate (1 ∷ []) (omega (arith, c_length)) ∙ ap (λ l. l ++ (1 ∷ drop (gate + 1) c)) c_front
      ∙ ap (λ l. take gate old ++ (1 ∷ l)) c_back

  -- and at the end
  pub opened : (set : ℕ) (new : Disk) → IsDurable new set → new.contents set ≡ written c gate (1 ∷ [])
      → IsOpened old gate body set new
  opened set new durable same = record {
    durable = durable;
    front = ap (take gate) (same ∙ final_is) ∙ take_at (take gate old) (1 ∷ (body ++ rest)) gate gate_length;
    rest = rest;
    behind = ap (drop gate) (same ∙ final_is) ∙ drop_at (take gate old) (1 ∷ (body ++ rest)) gate gate_length;
  }

-- the disks: h before, h1 after the write, h2 after the sync
module _ (set gate : ℕ) (h h1 : Disk) (law : IsLawful h) (law1 : IsLawful h1)
    (first : Elapses h h1 (Tears h set gate 1)) (old body : List ℕ) (ready : IsReady old gate body set h) where
  abbrev P : Snapshot → Type 0
  P s = IsStaged old gate body (s.images set)

  pub wrote : Through h h1 P
  wrote = goes_on P h h h1 (Tears h set gate 1)
      (started P h law (λ s left. subst (IsStaged old gate body) (sym (ready.durable s left))
      (unwritten old gate body ready.rest (h.contents set) ready.stands ready.is))) first
      (λ s d. at_gate old gate body ready.rest (h.contents set) ready.stands ready.is (s.images set)
      (torn_from h set gate 1 s ready.durable d))

  pub settled1 : (image : List ℕ) → Settles h1 set image → IsStaged old gate body image
  settled1 image settles = at_gate old gate body ready.rest (h.contents set) ready.stands ready.is image
      (settles_torn h h1 set gate 1 image law law1 ready.durable first settles)

  module _ (h2 : Disk) (second : Elapses h1 h2 (Syncs h1 set)) where
    pub synced : Through h h2 P
    synced = goes_on P h h1 h2 (Syncs h1 set) wrote second (λ s d. settled1 (s.images set) d.this)

    pub settled2 : IsLawful h2 → (image : List ℕ) → Settles h2 set image → IsStaged old gate body image
    settled2 law2 image settles = settled1 image (settles_synced h1 h2 set image law1 law2 second settles)

-- the frame of the two
pub only_two : (set gate : ℕ) (h h1 h2 : Disk) → IsLawful h → IsLawful h1 → Leaves set h h1
    → Elapses h h1 (Tears h set gate 1) → Leaves set h1 h2 → Elapses h1 h2 (Syncs h1 set) → OnlyOn set h h2
only_two set gate h h1 h2 law law1 leaves1 first leaves2 second =
    only_more set h h1 h2 (λ _ image. Settles h1 set image) law law1
    (only_more set h h h1 (Torn gate 1) law law (only_none set h) leaves1 first) leaves2 second
