-- The bytes of a list, read in place from argument to argument.
use Rattle.std.proofs.Common.{◌≡◌, refl, sym, ◌∙◌, ℕ, zero, suc, ◌+◌, List, [], ◌∷◌, length, Bool, true, false, ◌==◌, if◌then◌else◌, Some, None}
use Rattle.fp_model.specs.Fsas.{Fsa, ListReading, Whole, Short, BadConnector, operand_length, connector_in, behind, fsa_in, with_fsa, joined, fsas_from, fsas_of, fsas_in}
use Rattle.fp_model.specs.FitCalls.{IsFsaList}
use Rattle.fld_calls.proofs.ReadLemmas.{one_from, short_from}
use Rattle.fld_calls.proofs.ListBytes.{text_whole}

-- bytes at a place read as these arguments; no bytes are left behind the last
abbrev pub IsRead : ℕ → ℕ → List ℕ → List Fsa → Type 0
IsRead most place [] left = left ≡ []
IsRead most place (b ∷ bs) left = fsas_from most place (b ∷ bs) ≡ Whole left

-- these arguments are left to be read
pub record Reads (rest : List ℕ) (left : List Fsa) : Type 0 where
  pub most : ℕ
  pub place : ℕ
  pub reads : IsRead most place rest left

-- at the start all are left
pub all_left : (bytes : List ℕ) → IsFsaList bytes → Reads bytes (fsas_in bytes)
all_left bytes is = record { most = length bytes + 1; place = 0; reads = at bytes is }
  where
    whole_in : (reading : ListReading) (fsas : List Fsa) → reading ≡ Whole fsas
        → reading ≡ Whole (elim reading as (λ _. List Fsa) [
          | Whole read ↦ read
          | Short place ↦ []
          | BadConnector place ↦ []
        ])
    whole_in (Whole read) fsas e = refl
    whole_in (Short place) fsas e = absurd cc
    whole_in (BadConnector place) fsas e = absurd cc

    at : (bytes : List ℕ) → IsFsaList bytes → IsRead (length bytes + 1) 0 bytes (fsas_in bytes)
    at [] is = refl
    at (b ∷ bs) is = whole_in (fsas_of (b ∷ bs)) is.fsas (text_whole (b ∷ bs) is)

-- where no argument stands in front, none is left
pub none_left : (rest : List ℕ) (left : List Fsa) → Reads rest left → connector_in rest ≡ None → left ≡ []
none_left [] left r none = r.reads
none_left (b ∷ bs) left r none =
    let short : fsas_from r.most r.place (b ∷ bs) ≡ Short r.place = short_from r.most r.place (b ∷ bs) none in
    let both : Short r.place ≡ Whole left = sym short ∙ r.reads in
    absurd cc

-- what is left behind one argument
pub record LeftBehind (fsa : Fsa) (next : List ℕ) (left : List Fsa) : Type 0 where
  pub others : List Fsa
  pub is : left ≡ fsa ∷ others
  pub reads : Reads next others

whole_if : (good : Bool) (reading : ListReading) (place : ℕ) (left : List Fsa)
    → (if good then reading else BadConnector place) ≡ Whole left → reading ≡ Whole left
whole_if true reading place left e = e
whole_if false reading place left e = absurd cc

-- with another in front it is whole only where the others are
whole_others : (fsa : Fsa) (b : ℕ) (bs : List ℕ) (most place : ℕ) (left : List Fsa) (reading : ListReading)
    → fsas_from most place (b ∷ bs) ≡ reading → with_fsa fsa reading ≡ Whole left → LeftBehind fsa (b ∷ bs) left
whole_others fsa b bs most place left (Whole others) is e = record {
  others = others;
  is = cc;
  reads = record { most = most; place = place; reads = is };
}
whole_others fsa b bs most place left (Short at) is e = absurd cc
whole_others fsa b bs most place left (BadConnector at) is e = absurd cc

joined_whole : (at connector : ℕ) (next : List ℕ) (fsa : Fsa) (most place : ℕ) (left : List Fsa)
    → joined at connector next fsa (fsas_from most place next) ≡ Whole left → LeftBehind fsa next left
joined_whole at connector [] fsa most place left e =
    let whole : Whole (fsa ∷ []) ≡ Whole left = whole_if (connector == 32) (Whole (fsa ∷ [])) at left e in
    record { others = []; is = cc; reads = record { most = most; place = place; reads = refl } }
joined_whole at connector (b ∷ bs) fsa most place left e = whole_others fsa b bs most place left _ refl
    (whole_if (connector == 42) (with_fsa fsa (fsas_from most place (b ∷ bs))) at left e)

-- one that stands in front is the first that is left
pub first_left : (rest : List ℕ) (left : List Fsa) (fsa : Fsa) (connector : ℕ) (next : List ℕ) → Reads rest left
    → connector_in rest ≡ Some connector → behind rest ≡ next → fsa_in rest ≡ fsa → LeftBehind fsa next left
first_left [] left fsa connector next r found behind first = absurd cc
first_left (b ∷ bs) left fsa connector next r found behind first = from r.most r.reads
  where
    from : (most : ℕ) → fsas_from most r.place (b ∷ bs) ≡ Whole left → LeftBehind fsa next left
    from zero e = absurd cc
    from (suc most) e =
        let n = operand_length (b ∷ bs) in
        joined_whole (r.place + 12 + n) connector next fsa most (r.place + 13 + n) left
        (sym (one_from (b ∷ bs) fsa connector n next found refl behind first most r.place) ∙ e)
