-- Where the parts of an area begin, and which anchor and which unit of work an interval belongs to.
use Rattle.std.specs.Prelude.{ℕ, ◌+◌, ◌*◌, ◌-◌, ◌/◌, ◌%◌, ◌==◌, nat_lt, if◌then◌else◌}
use Rattle.ci_space.specs.declared.intervals.Shape.{Shape}

-- the first base interval of a unit of work: behind control and the units of work before it
abbrev pub first_base : Shape → ℕ → ℕ
first_base shape uow = 1 + uow * (shape.base + shape.overflow)

-- its first dependent overflow interval
abbrev pub first_dependent : Shape → ℕ → ℕ
first_dependent shape uow = first_base shape uow + shape.base

-- the first sequential interval
abbrev pub first_sequential : Shape → ℕ
first_sequential shape = first_base shape shape.uows

-- the first independent overflow interval
abbrev pub first_independent : Shape → ℕ
first_independent shape = first_sequential shape + shape.seq_cis

-- the unit of work of an anchor
abbrev pub uow_of : Shape → ℕ → ℕ
uow_of shape anchor = anchor / shape.base

-- the base interval of an anchor
abbrev pub base_of : Shape → ℕ → ℕ
base_of shape anchor = first_base shape (uow_of shape anchor) + anchor % shape.base

-- the kind of a place: 1 control, 2 base, 3 dependent overflow, 4 sequential, 5 independent overflow
abbrev pub kind_at : Shape → ℕ → ℕ
kind_at shape ci =
    if ci == 0 then 1
    else if nat_lt ci (first_sequential shape) then
    (if nat_lt ((ci - 1) % (shape.base + shape.overflow)) shape.base then 2 else 3)
    else if nat_lt ci (first_independent shape) then 4
    else 5
