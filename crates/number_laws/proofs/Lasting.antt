-- The last number of a terminal, when one is put.
use Rattle.std.proofs.Common.{◌≡◌, refl, sym, ap, ◌∙◌, ℕ, List, [], ◌∷◌, Bool, true, false, not}
use Rattle.std.specs.Prelude.{Option, Some, None, find, if◌then◌else◌}
use Rattle.fp_model.specs.declared.name.Name.{Name}
use Rattle.fp_model.specs.Lasts.{Last, last_of, with_last}
use Rattle.fp_model.specs.State.{drop_key, is_below, put_by_key}
use Rattle.fp_model.specs.Texts.{same_text}
use Rattle.model_laws.proofs.Texts.{text_is_same}
use Rattle.model_laws.proofs.Entries.{name_of}

-- a terminal's is of its name
pub last_named : (name : Name) (lasts : List Last) (last : Last) → last_of name lasts ≡ Some last
    → same_text last.lterm.0 name.0 ≡ true
last_named name [] last is = absurd cc
last_named name (y ∷ ys) last is =
    by (same_text (name_of y) name.0) refl is (λ later. last_named name ys last later)
  where
    by : (b : Bool) → same_text (name_of y) name.0 ≡ b
        → (if b then Some y else find (λ (l : Last). same_text (name_of l) name.0) ys) ≡ Some last
        → (last_of name ys ≡ Some last → same_text last.lterm.0 name.0 ≡ true)
        → same_text last.lterm.0 name.0 ≡ true
    by true e is later = let same : y ≡ last = cc in ap (λ (l : Last). same_text (name_of l) name.0) (sym same) ∙ e
    by false e is later = later is
