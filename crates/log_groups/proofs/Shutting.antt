-- Closing the front's gate: what a crash leaves of each call.
use Rattle.std.proofs.Common.{◌≡◌, ◌⊎◌, inl, inr, ⊎_elim, ℕ, ◌+◌, ◌<◌, List, [], ◌∷◌, ◌++◌, length, get_or, drop, refl, sym, ◌∙◌, ap, arith, append_assoc}
use Rattle.std.specs.Prelude.{slice_index, codes}
use Rattle.std.proofs.lemmas.Bool.{cases_eq}
use Rattle.std.proofs.lemmas.List.{length-append, drop_at, append-nil}
use Rattle.fp_model.specs.Spellings.{be32, part_text}
use Rattle.fp_model.specs.LogText.{Front, StartsWithFront, front_text, front_rest, of_format, first_gate}
use Rattle.fp_site.specs.Disk.{Disk, IsDurable, Differs, Settles, IsLawful}
use Rattle.fp_site.specs.Moments.{Through, OnlyOn}
use Rattle.fp_site.proofs.Images.{durable_settles, settles_left}
use Rattle.fp_site.proofs.Runs.{started, joined, weaker}
use Rattle.fp_site.proofs.Frames.{only_with}
use Rattle.log_format.proofs.Fields.{length-be32}
use Rattle.log_groups.specs.Images.{IsLog, IsAtRest, IsShut, IsShutGate, HasNoFront, IsOldOrShut, IsOldOrMade, IsBeforeOrShut, IsBeforeOrMade, IsSameOrShut, IsSameOrMade}
use Rattle.log_groups.specs.inside.Images.{IsGated, IsOpened}
use Rattle.log_groups.proofs.LogImages.{log_of}
use Rattle.gated_write.specs.Gates.{IsGatedImage}
use Rattle.gated_write.specs.Gates as gates
use Rattle.plain_laws.proofs.Lists.{head_is}

-- ---- fronts

-- bytes that begin with an open front begin with 1,
pub begins_open : (front : Front) (bytes : List ℕ) → StartsWithFront bytes front → slice_index bytes 0 ≡ 1
begins_open front bytes begins = ap (λ l. get_or l 0 0) begins.1

-- and they are more than one
pub begins_long : (front : Front) (bytes : List ℕ) → StartsWithFront bytes front → 1 < length bytes
begins_long front bytes begins = omega (arith, ap length begins.1, length-append (front_text 1 front) begins.0)

-- how long a front is
pub length-front : (front : Front) → length (front_rest front) ≡ 8 + (4 + length front.defs) +
    (4 + length front.scripts)
length-front front =
    let head = of_format (codes "IMSFPLG") front.format in
    omega (
      arith,
      length-append (head ++ part_text front.defs) (part_text front.scripts),
      length-append head (part_text front.defs),
      length-append (be32 (length front.defs)) front.defs,
      length-append (be32 (length front.scripts)) front.scripts,
      length-be32 (length front.defs),
      length-be32 (length front.scripts),
    )

-- ---- closing the gate

-- a data set whose gate is closed, or that has no more than a byte, begins with no open front
pub no_front : (start : Disk) (image : List ℕ) → gates.IsOldOrShut start 0 image → IsOldOrShut start image
no_front start image (inl settles) = inl settles
no_front start image (inr (inl closed)) = inr (λ front begins. closed.byte (begins_open front image begins))
no_front start image (inr (inr short)) =
    inr (λ front begins. omega (arith, begins_long front image begins, short.1))

pub shut_is : (disk : Disk) → gates.IsShut 0 0 disk → IsShut disk
shut_is disk shut = record {
  durable = shut.durable;
  gate = record { some = shut.closed.stands; gate = shut.closed.byte };
}

-- ---- the new log

-- bytes that begin with an open front and a closed gate are a log with no groups
pub new_log : (front : Front) (bytes rest : List ℕ) → bytes ≡ 1 ∷ (front_rest front ++ 0 ∷ []) ++ rest
    → IsLog front bytes [] (first_gate front)
new_log front bytes rest is =
    let head = front_text 1 front in
    let all : bytes ≡ head ++ (0 ∷ rest) = is ∙ ap (λ t. 1 ∷ t) (append_assoc (front_rest front) (0 ∷ []) rest) in
    let end : drop (length head) bytes ≡ 0 ∷ rest =
    ap (drop (length head)) all ∙ drop_at head (0 ∷ rest) (length head) refl in
    let none : head ++ [] ≡ head = append-nil head in
    log_of front [] (length head) bytes
    (record {
      each = tt;
      place = ap length (sym none);
      text = all ∙ ap (λ t. t ++ (0 ∷ rest)) (sym none) ∙ ap (λ t. (head ++ []) ++ t) (sym end);
    })
    (omega (arith, ap length all, length-append head (0 ∷ rest)))
    (λ one. let zero_is : slice_index bytes (length head) ≡ 0 = head_is bytes (length head) 0 rest end in
    omega (arith, zero_is, one))

-- an image within the gated write of the front's rest and the first gate
pub made_image : (start : Disk) (front : Front) (old image : List ℕ) → IsShutGate old
    → IsGatedImage old 0 (front_rest front ++ 0 ∷ []) image → IsOldOrMade start front image
made_image start front old image shut (inl un) = inl
    (inr (λ other begins. shut.gate (sym un.byte ∙ begins_open other image begins)))
made_image start front old image shut (inr staged) = elim (cases_eq staged.first 1) [
  | inl one ↦ inr (new_log front image staged.rest (staged.behind ∙ ap
      (λ b. b ∷ (front_rest front ++ 0 ∷ []) ++ staged.rest) one))
  | inr ne ↦ inl (inr (λ other begins. ne (sym (ap (λ l. get_or l 0 0) staged.behind) ∙ begins_open other image
      begins)))
]

-- and what it leaves at Ok
pub made_log : (front : Front) (old : List ℕ) (new : Disk) → IsOpened old 0 (front_rest front ++ 0 ∷ []) new
    → IsAtRest new front [] (first_gate front)
made_log front old new opened = record {
  durable = opened.durable;
  log =
      new_log front (new.contents 0) opened.rest opened.behind;
}

-- the whole of making a log: h before, a once its gate is shut, b after the gated write
module _ (front : Front) (h a b : Disk) (law : IsLawful h) (law1 : IsLawful a) where
  -- nothing was done yet
  pub unbegun : Through h h (IsBeforeOrMade h front)
  unbegun = started (IsBeforeOrMade h front) h law (λ s left. inl (inl (settles_left h 0 s left)))

  -- the gate was shut
  pub once_shut : Through h a (IsBeforeOrShut h) → Through h a (IsBeforeOrMade h front)
  once_shut run = weaker (IsBeforeOrShut h) (IsBeforeOrMade h front) h a (λ s p. inl p) run

  -- and the rest was written
  pub once_made : Through h a (IsBeforeOrShut h) → IsShut a
      → Through a b (IsGated (a.contents 0) 0 (front_rest front ++ 0 ∷ [])) → Through h b (IsBeforeOrMade h front)
  once_made run shut more =
      joined (IsBeforeOrMade h front) h a b (once_shut run)
      (weaker (IsGated (a.contents 0) 0 (front_rest front ++ 0 ∷ [])) (IsBeforeOrMade h front) a b
      (λ s p. made_image h front (a.contents 0) (s.images 0) shut.gate p) more)

-- ---- from a log that a sync had left

-- what a sync may leave of it is the log itself
same_or_shut : (h : Disk) (c : List ℕ) → IsDurable h 0 → Settles h 0 c ⊎ HasNoFront c → IsSameOrShut (h.contents 0) c
same_or_shut h c durable p = ⊎_elim (λ settles. inl (durable_settles h 0 c durable settles)) (λ no. inr no) p

-- so at every moment of closing its gate,
pub shut_kept : (h a : Disk) → IsLawful h → IsDurable h 0 → OnlyOn 0 h a → Through h a (IsBeforeOrShut h)
    → Through h a (Differs h 0 IsSameOrShut)
shut_kept h a law durable only run = only_with 0 h a (λ c. Settles h 0 c ⊎ HasNoFront c) IsSameOrShut law durable
    (λ c p. same_or_shut h c durable p) only run

-- and of making a new log
pub made_kept : (front : Front) (h b : Disk) → IsLawful h → IsDurable h 0 → OnlyOn 0 h b
    → Through h b (IsBeforeOrMade h front) → Through h b (Differs h 0 (IsSameOrMade front))
made_kept front h b law durable only run =
    only_with 0 h b (λ c. (Settles h 0 c ⊎ HasNoFront c) ⊎ IsLog front c [] (first_gate front)) (IsSameOrMade front) law
    durable
    (λ c p. ⊎_elim (λ q. inl (same_or_shut h c durable q)) (λ log. inr log) p) only run

-- a log that was shut begins with no open front until it is made
pub shut_stays : (front : Front) (before now : List ℕ) → IsShutGate before → IsSameOrMade front before now
    → HasNoFront now ⊎ IsLog front now [] (first_gate front)
shut_stays front before now shut (inl (inl same)) =
    inl (λ other begins. shut.gate (ap (λ l. slice_index l 0) (sym same) ∙ begins_open other now begins))
shut_stays front before now shut (inl (inr none)) = inl none
shut_stays front before now shut (inr log) = inr log
