-- The data sets that values of the program stand for.
use Rattle.std.specs.Prelude.{ℕ, zero, suc, ◌+◌, ◌≤◌, List, [], ◌∷◌, Vec, vec_capacity, vec_len}
use Rattle.std.specs.declared.alloc.Global.{Global}
use Rattle.fp_site.specs.Disk.{Snapshot}
use Rattle.memory_site.specs.declared.snapshot.Snapshot.{Snapshot as Kept}

-- the bytes of a data set, none where it is absent
abbrev pub set_bytes : List (Vec ℕ Global) → ℕ → List ℕ
set_bytes [] set = []
set_bytes (bytes ∷ sets) zero = bytes.items
set_bytes (bytes ∷ sets) (suc set) = set_bytes sets set

-- the same of plain lists
abbrev pub image_at : List (List ℕ) → ℕ → List ℕ
image_at [] set = []
image_at (image ∷ images) zero = image
image_at (image ∷ images) (suc set) = image_at images set

-- the snapshot that a value of the program stands for
abbrev pub snapshot_of : Kept → Snapshot
snapshot_of s = record { images = image_at s.images; sent = s.sent }

-- so many bytes more fit without memory
abbrev pub HasSpare : ℕ → Vec ℕ Global → Type 0
HasSpare bytes all = vec_len all + bytes ≤ vec_capacity all
