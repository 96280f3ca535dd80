-- Laws of field search arguments: a list is read as it was written, and none of it fails exactly where all is good.
use Rattle.std.proofs.Common.{◌≡◌, refl, ap, arith, ◌∙◌, ℕ, zero, suc, ◌+◌, ◌≤◌, ◌<◌, List, [], ◌∷◌, ◌++◌, length, take, drop, Bool, true, false, ◌&&◌, ◌==◌, if◌then◌else◌, Option, Some, None, slice_get, is_none, All, length-append}
use Rattle.std.proofs.Math.Seq.{take-append_seam, drop-append-add}
use Rattle.fp_model.specs.declared.definitions.MsdbDef.{MsdbDef}
use Rattle.fp_model.specs.Spellings.{be16}
use Rattle.fp_model.specs.Fsas.{Fsa, IsFsa, ListReading, Whole, Short, fsa_text, list_text, operand_length, connector_in, behind, fsa_in, with_fsa, joined, fsas_from, fsas_of, Failure, letter_of, fsa_on, list_on, first_failure, all_blank}

-- ---- reading what was written

slice_get-behind : (xs ys : List ℕ) (n : ℕ) → slice_get (xs ++ ys) (length xs + n) ≡ slice_get ys n
slice_get-behind [] ys n = let e : 0 + n ≡ n = omega arith in rw e refl
slice_get-behind (x ∷ xs) ys n = let e : length (x ∷ xs) + n ≡ suc (length xs + n) = omega arith in
    rw e (slice_get-behind xs ys n)

-- an FSA's bytes, with its name cut into its 8 bytes
module _ (a b c d e f g h status op : ℕ) (operand : List ℕ) (fits : length operand < 65536) (connector : ℕ)
    (rest : List ℕ) where
  abbrev its_fsa : Fsa
  its_fsa = record { field = a ∷ b ∷ c ∷ d ∷ e ∷ f ∷ g ∷ h ∷ []; status = status; op = op; operand = operand }

  abbrev its_bytes : List ℕ
  its_bytes = fsa_text its_fsa ++ connector ∷ rest

  length-read : operand_length its_bytes ≡ length operand
  unfolding be16
  length-read = omega arith

  -- the twelve its_bytes before the operand
  abbrev front : List ℕ
  unfolding be16
  front = a ∷ b ∷ c ∷ d ∷ e ∷ f ∷ g ∷ h ∷ status ∷ op ∷ be16 (length operand)

  connector-read : connector_in its_bytes ≡ Some connector
  unfolding be16
  connector-read =
      ap (λ (n : ℕ). slice_get its_bytes (12 + n)) length-read
      ∙ slice_get-behind front (operand ++ connector ∷ rest) (length operand)
      ∙ (let none : length operand ≡ length operand + 0 = omega arith in
      ap (λ (n : ℕ). slice_get (operand ++ connector ∷ rest) n) none ∙ slice_get-behind operand (connector ∷ rest) 0)

  behind-read : behind its_bytes ≡ rest
  unfolding be16
  behind-read =
      let next : 13 + length operand ≡ 12 + (length operand + 1) = omega arith in
      ap (λ (n : ℕ). drop (13 + n) its_bytes) length-read
      ∙ ap (λ (n : ℕ). drop n its_bytes) next
      ∙ drop-append-add front (operand ++ connector ∷ rest) (length operand + 1)
      ∙ drop-append-add operand (connector ∷ rest) 1

  fsa-read : fsa_in its_bytes ≡ its_fsa
  unfolding be16
  fsa-read =
      ap (λ (text : List ℕ).
      let read : Fsa = record {
        field = a ∷ b ∷ c ∷ d ∷ e ∷ f ∷ g ∷ h ∷ [];
        status = status;
        op = op;
        operand =
            text;
      } in read)
      (ap (λ (n : ℕ). take n (operand ++ connector ∷ rest)) length-read ∙ take-append_seam operand (connector ∷ rest))

-- what the bytes of an FSA, its connector and what follows read as
record ReadsBack (bytes : List ℕ) (fsa : Fsa) (connector : ℕ) (rest : List ℕ) : Type 0 where
  found : connector_in bytes ≡ Some connector
  left : behind bytes ≡ rest
  first : fsa_in bytes ≡ fsa

-- a list of length 8 has 8 elements
eight : (P : List ℕ → Type 0) → ((a b c d e f g h : ℕ) → P (a ∷ b ∷ c ∷ d ∷ e ∷ f ∷ g ∷ h ∷ [])) → (xs : List ℕ)
    → length xs ≡ 8 → P xs
eight P q [] l = absurd (omega arith)
eight P q (a ∷ []) l = absurd (omega arith)
eight P q (a ∷ b ∷ []) l = absurd (omega arith)
eight P q (a ∷ b ∷ c ∷ []) l = absurd (omega arith)
eight P q (a ∷ b ∷ c ∷ d ∷ []) l = absurd (omega arith)
eight P q (a ∷ b ∷ c ∷ d ∷ e ∷ []) l = absurd (omega arith)
eight P q (a ∷ b ∷ c ∷ d ∷ e ∷ f ∷ []) l = absurd (omega arith)
eight P q (a ∷ b ∷ c ∷ d ∷ e ∷ f ∷ g ∷ []) l = absurd (omega arith)
eight P q (a ∷ b ∷ c ∷ d ∷ e ∷ f ∷ g ∷ h ∷ []) l = q a b c d e f g h
eight P q (a ∷ b ∷ c ∷ d ∷ e ∷ f ∷ g ∷ h ∷ i ∷ xs) l = absurd (omega arith)

reads_back : (fsa : Fsa) (connector : ℕ) (rest : List ℕ) → IsFsa fsa
    → ReadsBack (fsa_text fsa ++ connector ∷ rest) fsa connector rest
reads_back fsa connector rest is =
    eight (λ name. let it : Fsa = record { field = name; status = fsa.status; op = fsa.op; operand = fsa.operand } in
    ReadsBack (fsa_text it ++ connector ∷ rest) it connector rest)
    (λ a b c d e f g h. record {
      found = connector-read a b c d e f g h fsa.status fsa.op fsa.operand is.operand_fits connector rest;
      left = behind-read a b c d e f g h fsa.status fsa.op fsa.operand is.operand_fits connector rest;
      first = fsa-read a b c d e f g h fsa.status fsa.op fsa.operand is.operand_fits connector rest;
    })
    fsa.field is.name

-- one step of reading
step : (most place : ℕ) (bytes : List ℕ) (fsa : Fsa) (connector : ℕ) (rest : List ℕ)
    → ReadsBack bytes fsa connector rest
    → fsas_from (suc most) place bytes ≡ joined (place + 12 + operand_length bytes) connector rest fsa
    (fsas_from most (place + 13 + operand_length bytes) rest)
step most place bytes fsa connector rest r =
    let at = place + 12 + operand_length bytes in
    let on = place + 13 + operand_length bytes in
    ap (λ (o : Option ℕ).
    let read : ListReading = elim o [
      | None ↦ Short place
      | Some c ↦
          joined at c (behind bytes) (fsa_in bytes) (fsas_from most on (behind bytes))
    ] in read) r.found
    ∙ ap (λ (left : List ℕ). joined at connector left (fsa_in bytes) (fsas_from most on left)) r.left
    ∙ ap (λ (first : Fsa). joined at connector rest first (fsas_from most on rest)) r.first

-- behind a `*` there is something
goes_on : (place : ℕ) (rest : List ℕ) (fsa : Fsa) (others : ListReading) → 0 < length rest
    → joined place 42 rest fsa others ≡ with_fsa fsa others
goes_on place [] fsa others l = absurd (omega arith)
goes_on place (b ∷ bs) fsa others l = refl

written-length : (fsas : List Fsa) → length fsas ≤ length (list_text fsas)
written-length [] = omega arith
written-length (fsa ∷ []) = omega (arith, length-append (fsa_text fsa) (32 ∷ []))
written-length (fsa ∷ next ∷ fsas) = omega (
  arith,
  length-append (fsa_text fsa) (42 ∷ list_text (next ∷ fsas)),
  written-length (next ∷ fsas),
)

written_from : (most place : ℕ) (fsas : List Fsa) → All IsFsa fsas → 0 < length fsas → length fsas ≤ most
    → fsas_from most place (list_text fsas) ≡ Whole fsas
written_from zero place fsas all some enough = absurd (omega arith)
written_from (suc most) place [] all some enough = absurd (omega arith)
written_from (suc most) place (fsa ∷ []) all some enough =
    step most place (list_text (fsa ∷ [])) fsa 32 [] (reads_back fsa 32 [] (all 0 fsa (omega arith)))
written_from (suc most) place (fsa ∷ next ∷ fsas) all some enough =
    step most place (list_text (fsa ∷ next ∷ fsas)) fsa 42 (list_text (next ∷ fsas))
    (reads_back fsa 42 (list_text (next ∷ fsas)) (all 0 fsa (omega arith)))
    ∙ goes_on _ (list_text (next ∷ fsas)) fsa _ (omega (arith, written-length (next ∷ fsas)))
    ∙ ap (with_fsa fsa) (written_from most _ (next ∷ fsas) (λ k d l. all (suc k) d (omega arith)) (omega arith)
    (omega arith))

-- A list of FSAs is read as it was written.
pub fsas_of_list_text : (fsas : List Fsa) → All IsFsa fsas → 0 < length fsas → fsas_of (list_text fsas) ≡ Whole fsas
fsas_of_list_text fsas all some = written_from (length (list_text fsas) + 1) 0 fsas all some
    (omega (arith, written-length fsas))

-- ---- failures

by_letter : (good : Bool) (failure : Failure) (later : Option Failure) (blank : Bool) → is_none later ≡ blank
    → is_none (if good then later else Some failure) ≡ (good && blank)
by_letter true failure later blank e = e
by_letter false failure later blank e = refl

-- An FSA fails at the sync point exactly where its letter isn't blank.
pub failure_or_blank : (def : MsdbDef) (place : ℕ) (fsas : List Fsa) (segment : List ℕ)
    → is_none (first_failure def place fsas segment) ≡ all_blank (list_on def fsas segment).letters
unfolding first_failure list_on
failure_or_blank def place [] segment = refl
failure_or_blank def place (fsa ∷ fsas) segment = by_letter (letter_of def fsa segment == 32) _ _ _
    (failure_or_blank def (place + 1) fsas (fsa_on def fsa segment).segment)
