-- Of the code, not of the language: the keywords in three parts, as the code looks them up: those of scripts and
-- blocks, the gets, and the others.
use Rattle.std.specs.Prelude.{ℕ, List, [], ◌∷◌, true, false, codes}
use Rattle.fp_model.specs.declared.calls.Get.TheVariants.{Unique, Next, NextInParent}
use Rattle.txn_lang.specs.declared.line.Keyword.{Keyword}
use Rattle.txn_lang.specs.declared.line.Keyword.TheVariants as keyword

unfoldable pub block_keywords : List (List ℕ × Keyword)
block_keywords =
    (codes "TRAN", keyword.Tran)
    ∷ (codes "IF", keyword.If)
    ∷ (codes "ELSE", keyword.Else)
    ∷ (codes "REPEAT", keyword.Repeat)
    ∷ (codes "BREAK", keyword.Break)
    ∷ (codes "END", keyword.End)
    ∷ []

unfoldable pub get_keywords : List (List ℕ × Keyword)
get_keywords =
    (codes "GU", keyword.Get Unique false)
    ∷ (codes "GN", keyword.Get Next false)
    ∷ (codes "GNP", keyword.Get NextInParent false)
    ∷ (codes "GHU", keyword.Get Unique true)
    ∷ (codes "GHN", keyword.Get Next true)
    ∷ (codes "GHNP", keyword.Get NextInParent true)
    ∷ []

unfoldable pub plain_keywords : List (List ℕ × Keyword)
plain_keywords =
    (codes "SET", keyword.Set)
    ∷ (codes "REPLY", keyword.Reply)
    ∷ (codes "ROLB", keyword.Rolb)
    ∷ (codes "FLD", keyword.Fld)
    ∷ (codes "ISRT", keyword.Isrt)
    ∷ (codes "REPL", keyword.Repl)
    ∷ (codes "DLET", keyword.Dlet)
    ∷ []
