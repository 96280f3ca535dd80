use Rattle.std.proofs.Common.{◌≡◌, ℕ, zero, suc, true, false, sym, ◌∙◌, ap, rules}
use Rattle.std.specs.Prelude.{slice_get, Some, replicate}
use Rattle.dedb_area.proofs.areas.Areas.open.Goals as goal

none_true : (n number : ℕ) → slice_get (replicate n false) number ≡ Some true → ⊥
none_true zero number is = cc
none_true (suc n) zero is = cc
none_true (suc n) (suc number) is = none_true n number is

pub returns-clause-synced : goal.returns-clause-synced
returns-clause-synced c number is = none_true _ number (ap (λ l. slice_get l number) (sym (c.in_ok-unsynced.ensures.items_if_clones_equal (λ y h. h)))
    ∙ is)

pub returns-clause-opened : goal.returns-clause-opened
returns-clause-opened c none cells = record {
  places = c.in_ok-places.ensures.places;
  none_clean = none;
  none_held = cells;
  count = search rules;
  synced = returns-clause-synced c;
  unimaged = c.in_ok-imaged.ensures.none;
}
