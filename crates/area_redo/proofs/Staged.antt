-- What is staged is an entry's items, as a commit needs them.
use Rattle.std.proofs.Common.{◌≡◌, ℕ, ◌-◌, ◌≤◌, Bool, ◌||◌, [], ◌∷◌, length, drop, sym, ◌∙◌, ap, arith}
use Rattle.std.proofs.lemmas.List.{length-append, drop-append-le}
use Rattle.fp_model.specs.declared.log.Entry.{Entry}
use Rattle.fp_model.specs.Items.{items_of}
use Rattle.area_redo.specs.Redo.{AreaBytes, names, redone, Layout, count_in, GrowByImages}
use Rattle.area_redo.specs.Standing.{Way, all_of, all_since_mark, Owed, Owes, BeginsSinceMark}
use Rattle.area_redo.specs.Steps.{longer, AreItemsOf, AreImaged}
use Rattle.area_redo.proofs.Items.{names_more}
use Rattle.area_redo.proofs.Dues.{all_longer}
use Rattle.area_redo.proofs.Steps.{items_one}

pub begins_since_mark : (layout : Layout) (way : Way) (is_imaged : ℕ → ℕ → Bool) (newest staged : AreaBytes) (e : Entry)
    → AreItemsOf layout is_imaged newest staged e.items → AreImaged way is_imaged → BeginsSinceMark way e
begins_since_mark layout way is_imaged newest staged e are imaged set ci none = are.images set ci (imaged set ci ∙ none)

pub grow_by_images : (layout : Layout) (is_imaged : ℕ → ℕ → Bool) (newest staged : AreaBytes) (e : Entry)
    → AreItemsOf layout is_imaged newest staged e.items → GrowByImages layout e.items newest
grow_by_images layout is_imaged newest staged e are set ci ge below =
    let same : count_in layout (redone e.items newest) set ≡ count_in layout staged set =
    ap (layout.counted set) (are.gives set 0) in
    are.fresh set ci ge (omega arith)

-- behind the entry, the intervals with an image since the mark are those that had one and those that it names
pub imaged_longer : (way : Way) (owed : Owed) (is_imaged : ℕ → ℕ → Bool) (e : Entry) → Owes way owed
    → AreImaged way is_imaged → AreImaged (longer way e) (λ set ci. is_imaged set ci || names set ci e.items)
imaged_longer way owed is_imaged e owes imaged set ci =
    ap (λ b. b || names set ci e.items) (imaged set ci)
    ∙ sym (ap (names set ci) (ap items_of
    (ap (drop (way.mark - way.count)) (all_longer way e)
    ∙ drop-append-le (way.mark - way.count) (all_of way) (e ∷ []) low)
    ∙ items_one (all_since_mark way) e)
    ∙ names_more set ci (items_of (all_since_mark way)) e.items)
  where
    low : way.mark - way.count ≤ length (all_of way)
    low = let m = owes.mark_sealed in omega (arith, m, length-append way.tail way.unsealed)
