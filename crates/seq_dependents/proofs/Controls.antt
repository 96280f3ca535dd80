-- Control with other ends.
use Rattle.std.proofs.Common.{◌≡◌, ℕ, ◌-◌, List, [], ◌∷◌, length, drop, slice_index, ap, ◌∙◌}
use Rattle.ci_space.specs.Interval.{kind_of, IsInterval, Keeps}
use Rattle.ci_space.specs.Head.{ends_of}
use Rattle.ci_space.proofs.Heads.{ends-tiles}
use Rattle.ci_overflow.specs.Lists.{bytes_at}
use Rattle.ci_overflow.specs.Rooms.{IsPut}
use Rattle.ci_overflow.proofs.Joins.{tiles-interval}
use Rattle.seq_dependents.specs.Control.{ChangesEnds, PutsEnds}
use Rattle.plain_laws.proofs.Lists.{keeps_dropped}

changes_ends : (old new ends : List ℕ) (begin end : ℕ) → ends ≡ ends_of old
    → ends_of new ≡ begin ∷ end ∷ slice_index ends 2 ∷ slice_index ends 3 ∷ []
    → ends_of new ≡ begin ∷ end ∷ drop 2 (ends_of old)
changes_ends old new ends begin end e f =
    f ∙ ap (λ (xs : List ℕ). begin ∷ end ∷ slice_index xs 2 ∷ slice_index xs 3 ∷ []) e

pub puts_ends : (old new : List (List ℕ)) (given control ends : List ℕ) (begin end : ℕ) → given ≡ bytes_at old 0
    → IsInterval given → kind_of given ≡ 1 → ends ≡ ends_of given
    → ends_of control ≡ begin ∷ end ∷ slice_index ends 2 ∷ slice_index ends 3 ∷ []
    → Keeps given control 0 32 → length control ≡ length given → drop 64 control ≡ drop 64 given
    → IsPut old new 0 control → PutsEnds old new begin end
puts_ends old new given control ends begin end g i c e f k l d p =
    let q : IsInterval control = tiles-interval given control i
    (ends-tiles given control l c k (λ j x y. keeps_dropped given control d j x)) in
    let x : ChangesEnds given control begin end = record {
      is_ends = changes_ends given control ends begin end e f;
      head = k;
      behind = d;
      same_size = l;
    } in
    record {
      control = rw (p.here, ← g) x;
      is_interval = rw p.here q;
      others = p.others;
      same_number = p.same_number;
    }
