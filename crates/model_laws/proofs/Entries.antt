-- Entries of the log: their items, their formats, the last numbers that they leave.
use Rattle.std.proofs.Common.{Bool, true, false, not, find, Some, None, ◌++◌, ◌∙◌, ◌∷◌, ◌≡◌, ◌⊎◌, List, [], ap, arith, inl, inr, refl, suc, sym, zero, ℕ}
use Rattle.std.specs.Prelude.{if◌then◌else◌}
use Rattle.std.proofs.lemmas.List.{append-nil}
use Rattle.std.proofs.lemmas.List.Concat.{flat_map-append, flat_map-cons}
use Rattle.fp_model.specs.Groups.{entries_of}
use Rattle.fp_model.specs.Items.{items_of}
use Rattle.fp_model.specs.Lasts.{format_at, format_behind, Last, last_of, with_last}
use Rattle.fp_model.specs.LogText.{IsFormat}
use Rattle.fp_model.specs.declared.log.Entry.{Entry}
use Rattle.fp_model.specs.State.{drop_key, is_below, put_by_key}
use Rattle.fp_model.specs.Texts.{same_text}
use Rattle.model_laws.proofs.Texts.{text_is_same}

-- the entries of groups behind groups
pub entries-append : (gs hs : List (List Entry)) → entries_of (gs ++ hs) ≡ entries_of gs ++ entries_of hs
entries-append gs hs = flat_map-append (λ (x : List Entry). x) gs hs

-- and of a further one
pub entries_push : (gs : List (List Entry)) (es : List Entry) → entries_of (gs ++ es ∷ []) ≡ entries_of gs ++ es
entries_push gs es = entries-append gs (es ∷ []) ∙ ap (λ l. entries_of gs ++ l)
    (flat_map-cons (λ (x : List Entry). x) es [] ∙ append-nil es)

-- there are two
pub format_is : (format : ℕ) → IsFormat format → (format ≡ 1) ⊎ (format ≡ 2)
format_is format (zero, lt, is) = inl (sym is)
format_is format (suc zero, lt, is) = inr (sym is)
format_is format (suc (suc i), lt, is) = absurd (omega (arith, lt))

-- the format behind one entry more
pub format_push : (format : ℕ) (es : List Entry) (e : Entry)
    → format_at format (es ++ e ∷ []) ≡ format_behind (format_at format es) e.outcome
format_push format [] e = refl
format_push format (x ∷ es) e = format_push (format_behind format x.outcome) es e

-- the items of entries behind entries
pub items-append : (es fs : List Entry) → items_of (es ++ fs) ≡ items_of es ++ items_of fs
items-append es fs = flat_map-append (λ e. e.items) es fs

-- the name of the terminal that a last number is of
abbrev pub name_of : Last → List ℕ
name_of last = last.lterm.0

-- behind those that are dropped none of the name is left before the new one
module _ (last : Last) where
  abbrev is_its : Last → Bool
  is_its l = same_text (name_of l) (name_of last)

  put_found : (ys : List Last) → find is_its ys ≡ None → find is_its (put_by_key name_of last ys) ≡ Some last
  put_found [] none = ap (λ (b : Bool). if b then Some last else None) (text_is_same (name_of last))
  put_found (y ∷ ys) none =
      by (is_below (name_of last) (name_of y)) (is_its y) refl none (λ rest. put_found ys rest)
    where
      by : (below its : Bool) → is_its y ≡ its → (if its then Some y else find is_its ys) ≡ None
          → (find is_its ys ≡ None → find is_its (put_by_key name_of last ys) ≡ Some last)
          → find is_its (if below then last ∷ y ∷ ys else y ∷ put_by_key name_of last ys) ≡ Some last
      by true its e none later = rw (text_is_same (name_of last)) refl
      by false true e none later = absurd cc
      by false false e none later = rw e (later none)

  dropped : (ys : List Last) → find is_its (drop_key name_of (name_of last) ys) ≡ None
  dropped [] = refl
  dropped (y ∷ ys) = by (is_its y) refl (dropped ys)
    where
      by : (its : Bool) → is_its y ≡ its → find is_its (drop_key name_of (name_of last) ys) ≡ None
          → find is_its (if not its then y ∷ drop_key name_of (name_of last) ys else drop_key name_of (name_of last) ys)
          ≡ None
      by true e later = later
      by false e later = rw e later

-- the number that is put is the last one of its terminal
pub last_put : (last : Last) (lasts : List Last) → last_of last.lterm (with_last last lasts) ≡ Some last
last_put last lasts = put_found last (drop_key name_of (name_of last) lasts) (dropped last lasts)
