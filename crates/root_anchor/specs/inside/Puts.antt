-- What a root anchor point that is put into an area changes.
use Rattle.std.specs.Prelude.{◌≡◌, ◌≢◌, ℕ, List, length}
use Rattle.ci_space.specs.declared.intervals.Shape.{Shape}
use Rattle.ci_space.specs.Interval.{IsInterval}
use Rattle.ci_space.specs.Head.{head_of}
use Rattle.ci_overflow.specs.Lists.{bytes_at}
use Rattle.ci_overflow.specs.Places.{base_of}
use Rattle.ci_overflow.specs.Rooms.{KeepsUsed}
use Rattle.anchor_elements.specs.Elements.{Pointer}

-- an anchor's root anchor point becomes this pointer; every element stays, and what else the heads say
pub record PutsRoot (shape : Shape) (old new : List (List ℕ)) (anchor : ℕ) (at : Pointer) : Type 0 where
  pub head : head_of (bytes_at new (base_of shape anchor)) ≡
      (record (head_of (bytes_at old (base_of shape anchor))) { root = at })
  pub used : KeepsUsed (bytes_at old (base_of shape anchor)) (bytes_at new (base_of shape anchor))
  pub is_interval : IsInterval (bytes_at new (base_of shape anchor))
  pub elsewhere : (ci : ℕ) → ci ≢ base_of shape anchor → bytes_at new ci ≡ bytes_at old ci
  pub same_number : length new ≡ length old
