-- Pieces of a body behind a gate: what a crash leaves of each write, and of the sync behind them.
use Rattle.std.proofs.Common.{◌≡◌, ⊎_elim, ℕ, suc, ◌+◌, ◌-◌, ◌<◌, ◌≤◌, false, List, [], ◌∷◌, ◌++◌, length, get_or, take, drop, refl, sym, ◌∙◌, ap, subst, arith, append_assoc}
use Rattle.std.specs.Prelude.{slice_index, Result, Ok, Err, OnOk}
use Rattle.std.proofs.lemmas.Bool.{cases_lt}
use Rattle.std.proofs.lemmas.Bool.Decides.{nat_tests}
use Rattle.std.proofs.lemmas.List.{ext_get_or, get_or-take, length-append, length-take, take_at, take-append-drop}
use Rattle.fp_site.specs.Disk.{Disk, Snapshot, Torn, IsDurable, Differs, Settles, Tears, Syncs, Elapses, Leaves, IsLawful, written, covers}
use Rattle.fp_site.specs.Moments.{Through, OnlyOn}
use Rattle.fp_site.proofs.Torns.{torn_none}
use Rattle.fp_site.proofs.Images.{same_step, settles_left, settles_synced, durable_settles}
use Rattle.fp_site.proofs.Runs.{now_one, started, goes_on}
use Rattle.fp_site.proofs.Frames.{only_none, only_more}
use Rattle.gated_write.specs.Gates.{IsUnopened, AreUnopened, IsWriting}

-- what an Ok leads to
pub on_ok : {T E P Q : Type 0} (r : Result T E) → OnOk r P → (P → Q) → OnOk r Q
on_ok (Ok v) p f = f p
on_ok (Err e) p f = tt

-- a write that leaves no hole
pub written_is : (old : List ℕ) (at : ℕ) (bytes : List ℕ) → at ≤ length old
    → written old at bytes ≡ take at old ++ (bytes ++ drop (at + length bytes) old)
written_is old at [] le = sym (take-append-drop at old) ∙ ap (λ d. take at old ++ drop d old) (omega arith)
written_is old at (b ∷ bytes) le = let none : at - length old ≡ 0 = omega arith in rw none refl

-- ---- images, byte by byte

-- up to the gate an image has the bytes that stood
pub up_to : (old : List ℕ) (gate : ℕ) (image : List ℕ) → IsUnopened old gate image → (i : ℕ) → i < suc gate
    → get_or image i 0 ≡ get_or old i 0
up_to old gate image un i lt = ⊎_elim
    (λ below. sym (get_or-take gate image i 0 below) ∙ ap (λ l. get_or l i 0) un.front ∙ get_or-take gate old i 0 below)
    (λ ge. let is : i ≡ gate = omega (arith, lt, ge) in
    ap (λ k. get_or image k 0) is ∙ un.byte ∙ ap (λ k. get_or old k 0) (sym is))
    (cases_lt i gate)

-- and one that has them is such
pub from_bytes : (old : List ℕ) (gate : ℕ) (image : List ℕ) → gate < length old → gate < length image
    → ((i : ℕ) → i < suc gate → get_or image i 0 ≡ get_or old i 0) → IsUnopened old gate image
from_bytes old gate image there stands same = record {
  front = ext_get_or 0 (take gate image) (take gate old)
      (omega (arith, length-take gate image, length-take gate old))
      (λ i lt. let below : i < gate = omega (arith, lt, length-take gate image) in
      get_or-take gate image i 0 below ∙ same i (omega (arith, below)) ∙ sym (get_or-take gate old i 0 below));
  byte = same gate (omega arith);
  stands = stands;
}

-- a torn write behind the gate leaves it so
pub torn_behind : (old : List ℕ) (gate at count : ℕ) (before image : List ℕ) → gate < length old → gate < at
    → IsUnopened old gate before → Torn at count before image → IsUnopened old gate image
torn_behind old gate at count before image there lt un torn =
    let long = torn.no_shorter in
    let stands = un.stands in
    from_bytes old gate image there (omega arith)
    (λ i below. let out : covers at count i ≡ false = grind (arith, nat_tests) in
    torn.others i (omega arith) out ∙ up_to old gate before un i below)

-- where all that a crash may leave is so, so is what a sync may make of it
pub settles_unopened : (d : Disk) (set : ℕ) (old : List ℕ) (gate : ℕ) (image : List ℕ) → gate < length old
    → ((s : Snapshot) → d.may_leave s → IsUnopened old gate (s.images set)) → Settles d set image
    → IsUnopened old gate image
settles_unopened d set old gate image there each settles =
    from_bytes old gate image there (settles.no_shorter (suc gate) (λ c left. (each c left).stands))
    (λ i lt. settles.bytes i (get_or old i 0) (λ c left. up_to old gate (c.images set) (each c left) i lt))

-- ---- one write of a piece: h before, h1 after it

module _ (set at count : ℕ) (h h1 : Disk) (law : IsLawful h) (law1 : IsLawful h1)
    (first : Elapses h h1 (Tears h set at count)) (old : List ℕ) (gate : ℕ) (each : AreUnopened old gate set h)
    (there : gate < length old) (lt : gate < at) where
  abbrev P : Snapshot → Type 0
  P s = IsUnopened old gate (s.images set)

  torn_one : (s : Snapshot) → Tears h set at count s → P s
  torn_one s d = torn_behind old gate at count (d.before.images set) (s.images set) there lt
      (each (d.before.images set) (settles_left h set d.before d.left)) d.this

  pub put_through : Through h h1 P
  put_through = goes_on P h h h1 (Tears h set at count)
      (started P h law (λ s left. each (s.images set) (settles_left h set s left))) first torn_one

  pub put_settles : AreUnopened old gate set h1
  put_settles image settles = settles_unopened h1 set old gate image there
      (λ s now. torn_one s (now_one h h1 (Tears h set at count) law law1 first
      (same_step h set (Torn at count) (λ c left. torn_none at count (c.images set))) s now)) settles

-- the body goes on by the piece
pub put_is : (old body piece rest contents new : List ℕ) (gate at : ℕ) → gate < length old
    → contents ≡ take (gate + 1) old ++ (body ++ rest) → at ≡ gate + 1 + length body → new ≡ written contents at piece
    → new ≡ take (gate + 1) old ++ ((body ++ piece) ++ drop (at + length piece) contents)
put_is old body piece rest contents new gate at there is place wrote =
    let head = take (gate + 1) old in
    let head_length : length head ≡ gate + 1 = omega (arith, there, length-take (gate + 1) old) in
    let front : contents ≡ (head ++ body) ++ rest = is ∙ sym (append_assoc head body rest) in
    let front_length : length (head ++ body) ≡ at = omega (arith, head_length, length-append head body, place) in
    let taken : take at contents ≡ head ++ body = ap (take at) front ∙ take_at (head ++ body) rest at front_length in
    let le : at ≤ length contents =
    omega (arith, front_length, ap length front, length-append (head ++ body) rest) in
    wrote ∙ written_is contents at piece le
    ∙ ap (λ l. l ++ (piece ++ drop (at + length piece) contents)) taken
    ∙ append_assoc head body (piece ++ drop (at + length piece) contents)
    ∙ ap (λ l. head ++ l) (sym (append_assoc body piece (drop (at + length piece) contents)))

-- ---- the sync behind them: h before, h1 after it

module _ (set : ℕ) (h h1 : Disk) (law : IsLawful h) (law1 : IsLawful h1) (first : Elapses h h1 (Syncs h set))
    (old : List ℕ) (gate : ℕ) (each : AreUnopened old gate set h) where
  pub finish_through : Through h h1 (λ s. IsUnopened old gate (s.images set))
  finish_through = goes_on (λ s. IsUnopened old gate (s.images set)) h h h1 (Syncs h set)
      (started (λ s. IsUnopened old gate (s.images set)) h law
      (λ s left. each (s.images set) (settles_left h set s left))) first
      (λ s d. each (s.images set) d.this)

  pub finish_settles : AreUnopened old gate set h1
  finish_settles image settles = each image (settles_synced h h1 set image law law1 first settles)

-- ---- frames

-- one call on a data set
pub only_one : (set : ℕ) (h h1 : Disk) (step : List ℕ → List ℕ → Type 0) → IsLawful h → Leaves set h h1
    → Elapses h h1 (Differs h set step) → OnlyOn set h h1
only_one set h h1 step law leaves first = only_more set h h h1 step law law (only_none set h) leaves first

-- ---- where a body begins

-- a data set that every crash leaves has its bytes up to the gate, and no body
pub begins : (set gate : ℕ) (h : Disk) → IsDurable h set → gate < length (h.contents set)
    → IsWriting (h.contents set) gate [] set h
begins set gate h durable stands = record {
  stands = stands;
  each = λ image settles. let is = durable_settles h set image durable settles in record {
    front = ap (take gate) is;
    byte = ap (λ l. slice_index l gate) is;
    stands = subst (λ l. gate < length l) (sym is) stands;
  };
  rest = drop (gate + 1) (h.contents set);
  is = sym (take-append-drop (gate + 1) (h.contents set));
}
