-- What stands in front of a gate while a body is written behind it, also where that gate is absent; and the bytes that
-- a gated write leaves.
use Rattle.std.proofs.Common.{◌≡◌, inl, inr, ℕ, ◌+◌, ◌-◌, ◌<◌, ◌≤◌, false, List, [], ◌∷◌, ◌++◌, length, get_or, take, drop, replicate, sym, ◌∙◌, ap, arith, append_assoc}
use Rattle.std.proofs.lemmas.Bool.{cases_lt}
use Rattle.std.proofs.lemmas.Bool.Decides.{nat_tests}
use Rattle.std.proofs.lemmas.List.{ext_get_or, get_or-take, length-append, length-take, length-replicate, drop_at}
use Rattle.fp_site.specs.Disk.{Disk, Snapshot, Torn, IsDurable, Settles, Tears, Syncs, Elapses, IsLawful, written, covers}
use Rattle.fp_site.specs.Moments.{Through}
use Rattle.fp_site.specs.Written.{length-written, written_other}
use Rattle.fp_site.proofs.Torns.{torn_none}
use Rattle.fp_site.proofs.Images.{same_step, settles_left, settles_synced, durable_settles}
use Rattle.fp_site.proofs.Runs.{now_one, started, goes_on}
use Rattle.gated_write.specs.Gates.{AreFronts, IsFrontOf, with_body}
use Rattle.gated_write.proofs.Bodies.{written_is}

-- ---- images, byte by byte

-- an image that has the bytes in front of a gate is as long
reaches : (old : List ℕ) (gate : ℕ) (image : List ℕ) → gate ≤ length old → IsFrontOf old gate image
    → gate ≤ length image
reaches old gate image le front = omega (arith, ap length front, length-take gate image, length-take gate old, le)

up_to : (old : List ℕ) (gate : ℕ) (image : List ℕ) → IsFrontOf old gate image → (i : ℕ) → i < gate
    → get_or image i 0 ≡ get_or old i 0
up_to old gate image front i lt =
    sym (get_or-take gate image i 0 lt) ∙ ap (λ l. get_or l i 0) front ∙ get_or-take gate old i 0 lt

from_bytes : (old : List ℕ) (gate : ℕ) (image : List ℕ) → gate ≤ length old → gate ≤ length image
    → ((i : ℕ) → i < gate → get_or image i 0 ≡ get_or old i 0) → IsFrontOf old gate image
from_bytes old gate image le long same =
    ext_get_or 0 (take gate image) (take gate old) (omega (arith, length-take gate image, length-take gate old))
    (λ i lt. let inside : i < gate = omega (arith, lt, length-take gate image) in
    get_or-take gate image i 0 inside ∙ same i inside ∙ sym (get_or-take gate old i 0 inside))

-- a torn write behind them leaves them
torn_keeps : (old : List ℕ) (gate at count : ℕ) (before image : List ℕ) → gate ≤ length old → gate ≤ at
    → IsFrontOf old gate before → Torn at count before image → IsFrontOf old gate image
torn_keeps old gate at count before image le below front torn =
    let long = reaches old gate before le front in
    let longer = torn.no_shorter in
    from_bytes old gate image le (omega (arith, long, longer))
    (λ i lt. let out : covers at count i ≡ false = grind (arith, nat_tests) in
    torn.others i (omega (arith, lt, long)) out ∙ up_to old gate before front i lt)

-- where all that a crash may leave has them, so has what a sync may make of it
settles_front : (d : Disk) (set : ℕ) (old : List ℕ) (gate : ℕ) (image : List ℕ) → gate ≤ length old
    → ((s : Snapshot) → d.may_leave s → IsFrontOf old gate (s.images set)) → Settles d set image
    → IsFrontOf old gate image
settles_front d set old gate image le each settles =
    from_bytes old gate image le
    (settles.no_shorter gate (λ c left. reaches old gate (c.images set) le (each c left)))
    (λ i lt. settles.bytes i (get_or old i 0) (λ c left. up_to old gate (c.images set) (each c left) i lt))

-- ---- one write: h before, h1 after it

module _ (set at count : ℕ) (h h1 : Disk) (law : IsLawful h) (law1 : IsLawful h1)
    (first : Elapses h h1 (Tears h set at count)) (old : List ℕ) (gate : ℕ) (each : AreFronts old gate set h)
    (le : gate ≤ length old) (below : gate ≤ at) where
  abbrev P : Snapshot → Type 0
  P s = IsFrontOf old gate (s.images set)

  torn_one : (s : Snapshot) → Tears h set at count s → P s
  torn_one s d = torn_keeps old gate at count (d.before.images set) (s.images set) le below
      (each (d.before.images set) (settles_left h set d.before d.left)) d.this

  pub write_keeps : Through h h1 P
  write_keeps = goes_on P h h h1 (Tears h set at count)
      (started P h law (λ s left. each (s.images set) (settles_left h set s left))) first torn_one

  pub write_settles : AreFronts old gate set h1
  write_settles image settles = settles_front h1 set old gate image le
      (λ s now. torn_one s (now_one h h1 (Tears h set at count) law law1 first
      (same_step h set (Torn at count) (λ c left. torn_none at count (c.images set))) s now)) settles

  -- and the sync behind it: h2 after that
  module _ (h2 : Disk) (second : Elapses h1 h2 (Syncs h1 set)) where
    pub both_keep : Through h h2 P
    both_keep = goes_on P h h1 h2 (Syncs h1 set) write_keeps second (λ s d. write_settles (s.images set) d.this)

-- ---- a sync: h before, h1 after it

module _ (set : ℕ) (h h1 : Disk) (law : IsLawful h) (law1 : IsLawful h1) (first : Elapses h h1 (Syncs h set))
    (old : List ℕ) (gate : ℕ) (each : AreFronts old gate set h) where
  pub sync_keeps : Through h h1 (λ s. IsFrontOf old gate (s.images set))
  sync_keeps = goes_on (λ s. IsFrontOf old gate (s.images set)) h h h1 (Syncs h set)
      (started (λ s. IsFrontOf old gate (s.images set)) h law
      (λ s left. each (s.images set) (settles_left h set s left))) first
      (λ s d. each (s.images set) d.this)

  pub sync_settles : AreFronts old gate set h1
  sync_settles image settles = each image (settles_synced h h1 set image law law1 first settles)

-- a data set that every crash leaves has them
pub all_fronts : (set gate : ℕ) (h : Disk) → IsDurable h set → AreFronts (h.contents set) gate set h
all_fronts set gate h durable image settles = ap (take gate) (durable_settles h set image durable settles)

-- ---- the bytes that a gated write leaves

written_keeps : (at gate : ℕ) (old bytes : List ℕ) → gate ≤ at → gate ≤ length old
    → IsFrontOf old gate (written old at bytes)
written_keeps at gate old bytes below le =
    let longer = length-written old at bytes in
    from_bytes old gate (written old at bytes) le (omega (arith, longer.0, le))
    (λ i lt. written_other old at bytes i (inl (omega (arith, lt, below))))

-- what stands behind the gate once the body is there
behind_present : (old : List ℕ) (gate : ℕ) (body : List ℕ) → gate < length old
    → drop (gate + 1) (written old (gate + 1) body) ≡ body ++ drop (gate + 1 + length body) old
behind_present old gate body stands =
    ap (drop (gate + 1)) (written_is old (gate + 1) body (omega (arith, stands)))
    ∙ drop_at (take (gate + 1) old) (body ++ drop (gate + 1 + length body) old) (gate + 1)
    (omega (arith, stands, length-take (gate + 1) old))

behind_absent : (old : List ℕ) (gate : ℕ) (body : List ℕ) → length old ≡ gate
    → drop (gate + 1) (written old (gate + 1) body) ≡ body ++ drop (gate + 1 + length body) old
behind_absent old gate [] ends = ap (λ n. drop n old) (omega arith)
behind_absent old gate (b ∷ bytes) ends =
    let body = b ∷ bytes in
    let rest = body ++ drop (gate + 1 + length body) old in
    let hole = replicate (gate + 1 - length old) 0 in
    let head = take (gate + 1) old ++ hole in
    let long : length head ≡ gate + 1 =
    length-append (take (gate + 1) old) hole
    ∙ omega (arith, length-take (gate + 1) old, length-replicate {A = ℕ} (gate + 1 - length old) 0) in
    ap (drop (gate + 1)) (sym (append_assoc (take (gate + 1) old) hole rest)) ∙ drop_at head rest (gate + 1) long

behind_gate : (old : List ℕ) (gate : ℕ) (body : List ℕ) → gate ≤ length old
    → drop (gate + 1) (written old (gate + 1) body) ≡ body ++ drop (gate + 1 + length body) old
behind_gate old gate body le = elim (cases_lt gate (length old)) [
  | inl lt ↦ behind_present old gate body lt
  | inr ge ↦ behind_absent old gate body (omega (arith, le, ge))
]

pub with_body_is : (old : List ℕ) (gate : ℕ) (body : List ℕ) → gate ≤ length old
    → written (written old (gate + 1) body) gate (1 ∷ []) ≡ with_body old gate body
with_body_is old gate body le =
    let staged = written old (gate + 1) body in
    let longer = length-written old (gate + 1) body in
    let long : gate ≤ length staged = omega (arith, longer.0, le) in
    written_is staged gate (1 ∷ []) long
    ∙ ap (λ l. l ++ (1 ∷ drop (gate + 1) staged)) (written_keeps (gate + 1) gate old body (omega arith) le)
    ∙ ap (λ l. take gate old ++ (1 ∷ l)) (behind_gate old gate body le)
