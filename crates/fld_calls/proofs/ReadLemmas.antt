-- Reading a list from the front.
use Rattle.fld_calls.specs.declared.arguments.Fsa.{Fsa as Argument}
use Rattle.fld_calls.specs.Forms.{form_of, forms, IsShort}
use Rattle.fld_calls.specs.inside.Forms.{is_last}
use Rattle.std.proofs.Common.{◌≡◌, ◌≢◌, refl, ap, ◌∙◌, arith, ℕ, zero, suc, ◌+◌, ◌<◌, List, [], ◌∷◌, ◌++◌, length, true, false, ◌==◌, if◌then◌else◌, Option, Some, None}
use Rattle.std.specs.List.{AllByRecursion}
use Rattle.std.proofs.lemmas.Bool.Decides.{nat_tests}
use Rattle.fp_model.specs.Fsas.{Fsa, ListReading, Whole, Short, BadConnector, operand_length, connector_in, behind, fsa_in, with_fsa, joined, fsas_from, fsas_of}

-- with some arguments in front
abbrev pub with_fsas : List Fsa → ListReading → ListReading
with_fsas [] reading = reading
with_fsas (fsa ∷ fsas) reading = with_fsa fsa (with_fsas fsas reading)

short_behind : (fsas : List Fsa) (place : ℕ) → with_fsas fsas (Short place) ≡ Short place
short_behind [] place = refl
short_behind (fsa ∷ fsas) place = ap (with_fsa fsa) (short_behind fsas place)

bad_behind : (fsas : List Fsa) (place : ℕ) → with_fsas fsas (BadConnector place) ≡ BadConnector place
bad_behind [] place = refl
bad_behind (fsa ∷ fsas) place = ap (with_fsa fsa) (bad_behind fsas place)

whole_behind : (fsas others : List Fsa) → with_fsas fsas (Whole others) ≡ Whole (fsas ++ others)
whole_behind [] others = refl
whole_behind (fsa ∷ fsas) others = ap (with_fsa fsa) (whole_behind fsas others)

one_behind : (fsas : List Fsa) (fsa : Fsa) (reading : ListReading)
    → with_fsas fsas (with_fsa fsa reading) ≡ with_fsas (fsas ++ fsa ∷ []) reading
one_behind [] fsa reading = refl
one_behind (f ∷ fsas) fsa reading = ap (with_fsa f) (one_behind fsas fsa reading)

-- these arguments were read, and the rest begins at a place
pub record StandsAt (bytes : List ℕ) (fsas : List Fsa) (place : ℕ) (rest : List ℕ) : Type 0 where
  pub most : ℕ
  pub enough : length rest < most
  pub reads : fsas_of bytes ≡ with_fsas fsas (fsas_from most place rest)

pub at-start : (bytes : List ℕ) → StandsAt bytes [] 0 bytes
at-start bytes = record { most = length bytes + 1; enough = omega arith; reads = refl }

-- where the bytes end
pub short_from : (most place : ℕ) (rest : List ℕ) → connector_in rest ≡ None → fsas_from most place rest ≡ Short place
short_from zero place rest none = refl
short_from (suc most) place rest none =
    let at = place + 12 + operand_length rest in
    let on = place + 13 + operand_length rest in
    ap (λ (o : Option ℕ).
    let read : ListReading = elim o [
      | None ↦ Short place
      | Some c ↦
          joined at c (behind rest) (fsa_in rest) (fsas_from most on (behind rest))
    ] in read) none

pub at-short : (bytes : List ℕ) (fsas : List Fsa) (place : ℕ) (rest : List ℕ) → StandsAt bytes fsas place rest
    → connector_in rest ≡ None → fsas_of bytes ≡ Short place
at-short bytes fsas place rest s none = s.reads ∙ ap (with_fsas fsas) (short_from s.most place rest none) ∙ short_behind
    fsas place

-- an argument with its connector, and what is behind it
module _ (rest : List ℕ) (fsa : Fsa) (connector n : ℕ) (next : List ℕ) (found : connector_in rest ≡ Some connector)
    (long : operand_length rest ≡ n) (left : behind rest ≡ next) (first : fsa_in rest ≡ fsa) where
  pub one_from : (most place : ℕ) → fsas_from (suc most) place rest ≡ joined (place + 12 + n) connector next fsa
      (fsas_from most (place + 13 + n) next)
  one_from most place =
      let at = place + 12 + operand_length rest in
      let on = place + 13 + operand_length rest in
      ap (λ (o : Option ℕ).
      let read : ListReading = elim o [
        | None ↦ Short place
        | Some c ↦
            joined at c (behind rest) (fsa_in rest) (fsas_from most on (behind rest))
      ] in read) found
      ∙ ap (λ (xs : List ℕ). joined at connector xs (fsa_in rest) (fsas_from most on xs)) left
      ∙ ap (λ (f : Fsa). joined at connector next f (fsas_from most on next)) first
      ∙ ap (λ (k : ℕ). joined (place + 12 + k) connector next fsa (fsas_from most (place + 13 + k) next)) long

  joined_bad : (place : ℕ) (xs : List ℕ) (others : ListReading) → connector ≢ (if is_last xs then 32 else 42)
      → joined place connector xs fsa others ≡ BadConnector place
  joined_bad place [] others ne = let e : (connector == 32) ≡ false = grind (arith, nat_tests) in rw e refl
  joined_bad place (b ∷ bs) others ne = let e : (connector == 42) ≡ false = grind (arith, nat_tests) in rw e refl

  joined_last : (place : ℕ) (xs : List ℕ) (others : ListReading) → is_last xs ≡ true → connector ≡ 32
      → joined place connector xs fsa others ≡ Whole (fsa ∷ [])
  joined_last place [] others last is = rw is refl
  joined_last place (b ∷ bs) others last is = absurd cc

  joined_more : (place : ℕ) (xs : List ℕ) (others : ListReading) → is_last xs ≡ false → connector ≡ 42
      → joined place connector xs fsa others ≡ with_fsa fsa others
  joined_more place [] others more is = absurd cc
  joined_more place (b ∷ bs) others more is = rw is refl

  bad_from : (most place : ℕ) → length rest < most → connector ≢ (if is_last next then 32 else 42)
      → fsas_from most place rest ≡ BadConnector (place + 12 + n)
  bad_from zero place lt ne = absurd (omega arith)
  bad_from (suc most) place lt ne = one_from most place ∙ joined_bad (place + 12 + n) next
      (fsas_from most (place + 13 + n) next) ne

  pub at-bad : (bytes : List ℕ) (fsas : List Fsa) (place : ℕ) → StandsAt bytes fsas place rest
      → connector ≢ (if is_last next then 32 else 42) → fsas_of bytes ≡ BadConnector (place + 12 + n)
  at-bad bytes fsas place s ne = s.reads ∙ ap (with_fsas fsas) (bad_from s.most place s.enough ne) ∙ bad_behind fsas
      (place + 12 + n)

  last_from : (most place : ℕ) → length rest < most → is_last next ≡ true → connector ≡ 32
      → fsas_from most place rest ≡ Whole (fsa ∷ [])
  last_from zero place lt last is = absurd (omega arith)
  last_from (suc most) place lt last is = one_from most place ∙ joined_last (place + 12 + n) next
      (fsas_from most (place + 13 + n) next) last is

  pub at-last : (bytes : List ℕ) (fsas : List Fsa) (place : ℕ) → StandsAt bytes fsas place rest → is_last next ≡ true
      → connector ≡ 32 → fsas_of bytes ≡ Whole (fsas ++ fsa ∷ [])
  at-last bytes fsas place s last is = s.reads ∙ ap (with_fsas fsas) (last_from s.most place s.enough last is) ∙
      whole_behind fsas (fsa ∷ [])

  more_from : (bytes : List ℕ) (fsas : List Fsa) (most place : ℕ) → length rest < most
      → fsas_of bytes ≡ with_fsas fsas (fsas_from most place rest) → length next < length rest → is_last next ≡ false
      → connector ≡ 42
      → StandsAt bytes (fsas ++ fsa ∷ []) (place + 13 + n) next
  more_from bytes fsas zero place lt reads shorter more is = absurd (omega arith)
  more_from bytes fsas (suc most) place lt reads shorter more is = record {
    most = most;
    enough = omega (arith, lt, shorter);
    reads = reads ∙ ap (with_fsas fsas) (one_from most place ∙ joined_more (place + 12 + n) next
        (fsas_from most (place + 13 + n) next) more is) ∙ one_behind fsas fsa (fsas_from most (place + 13 + n) next);
  }

  pub at-more : (bytes : List ℕ) (fsas : List Fsa) (place : ℕ) → StandsAt bytes fsas place rest
      → length next < length rest → is_last next ≡ false → connector ≡ 42
      → StandsAt bytes (fsas ++ fsa ∷ []) (place + 13 + n) next
  at-more bytes fsas place s shorter more is = more_from bytes fsas s.most place s.enough s.reads shorter more is

-- ---- the list that is read

pub forms-more : (fsas : List Argument) (fsa : Argument) → forms (fsas ++ fsa ∷ []) ≡ forms fsas ++ form_of fsa ∷ []
forms-more [] fsa = refl
forms-more (f ∷ fsas) fsa = ap (λ (others : List Fsa). form_of f ∷ others) (forms-more fsas fsa)

pub short-more : (fsas : List Argument) (fsa : Argument) → AllByRecursion IsShort fsas → IsShort fsa
    → AllByRecursion IsShort (fsas ++ fsa ∷ [])
short-more [] fsa all short = (short, tt)
short-more (f ∷ fsas) fsa all short = (all.0, short-more fsas fsa all.1 short)
