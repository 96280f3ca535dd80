-- Items that are read from the newest down.
use Rattle.std.proofs.Common.{◌≡◌, ℕ, ◌<◌, ◌≤◌, List, [], ◌∷◌, ◌++◌, sym, ap, ◌∙◌, subst, append_assoc, append-nil}
use Rattle.fp_model.specs.declared.database.SeqItem.{SeqItem}
use Rattle.seq_dependents.specs.declared.part.Part.{Part}
use Rattle.seq_dependents.specs.Control.{IsKept, begin_of, end_of}
use Rattle.seq_dependents.specs.Slots.{IsHeld}
use Rattle.seq_dependents.specs.Down.{IsItem, IsDown}
use Rattle.seq_dependents.proofs.FaultLemmas.{between}

pub not_between : (area : List (List ℕ)) (begin end serial : ℕ) → begin ≡ begin_of area → end ≡ end_of area
    → (begin ≤ serial → serial < end → ⊥) → IsKept area serial → ⊥
not_between area begin end serial b e f k = f (rw b k.from_begin) (rw e k.before_end)

-- one item more
pub down_on : (part : Part) (area now : List (List ℕ)) (newest begin end serial previous : ℕ)
    (items pushed : List SeqItem) (item : SeqItem) → now ≡ area → begin ≡ begin_of area → end ≡ end_of area
    → begin ≤ serial → serial < end → item.serial ≡ serial → IsHeld part now serial previous item.bytes
    → pushed ≡ items ++ item ∷ []
    → ((rest : List SeqItem) → IsDown part area serial rest → IsDown part area newest (items ++ rest))
    → (rest : List SeqItem) → IsDown part area previous rest → IsDown part area newest (pushed ++ rest)
down_on part area now newest begin end serial previous items pushed item same eb ee l m es h p f rest d =
    let it : IsItem part area serial previous item = record {
      is_kept = between area begin end serial eb ee l m;
      is_serial = es;
      is_held = rw (← same) h;
    } in
    let joined : pushed ++ rest ≡ items ++ (item ∷ rest) =
    ap (λ (xs : List SeqItem). xs ++ rest) p ∙ append_assoc items (item ∷ []) rest in
    subst (IsDown part area newest) (sym joined) (f (item ∷ rest) (previous, it, d))

pub down_ends : (part : Part) (area : List (List ℕ)) (newest serial : ℕ) (items : List SeqItem)
    → ((rest : List SeqItem) → IsDown part area serial rest → IsDown part area newest (items ++ rest))
    → ¬ IsKept area serial → IsDown part area newest items
down_ends part area newest serial items f n = subst (IsDown part area newest) (append-nil items) (f [] n)
