-- The bytes of a list that fits are read as the list.
use Rattle.std.proofs.Common.{◌≡◌, ap, ◌∙◌, arith, ℕ, zero, suc, All, List, [], ◌∷◌}
use Rattle.std.specs.List.{AllByRecursion}
use Rattle.fp_model.specs.Fsas.{Fsa, IsFsa, ListReading, Whole, Short, BadConnector, fsas_in, fsas_of}
use Rattle.fp_model.specs.FitCalls.{IsFsaList}
use Rattle.fp_model.proofs.FsaLemmas.{fsas_of_list_text}

all_from : {X : Type 0} (P : X → Type 0) (xs : List X) → AllByRecursion P xs → All P xs
all_from P [] all k d within = absurd (omega (arith, within))
all_from P (x ∷ xs) all zero d within = all.0
all_from P (x ∷ xs) all (suc k) d within = all_from P xs all.1 k d (omega (arith, within))

pub text_whole : (bytes : List ℕ) (is : IsFsaList bytes) → fsas_of bytes ≡ Whole is.fsas
text_whole bytes is = ap fsas_of is.text ∙ fsas_of_list_text is.fsas (all_from IsFsa is.fsas is.each)
    (omega (arith, is.count.0))

pub list_is : (bytes : List ℕ) (is : IsFsaList bytes) → fsas_in bytes ≡ is.fsas
list_is bytes is = ap in_list (text_whole bytes is)
  where
    in_list : ListReading → List Fsa
    in_list (Whole fsas) = fsas
    in_list (Short place) = []
    in_list (BadConnector place) = []
