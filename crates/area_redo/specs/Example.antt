-- One area of two intervals of four bytes: control, which counts them in its first byte, and one that an image and a
-- range were written for.
use Rattle.std.specs.Prelude.{ℕ, zero, suc, List, [], ◌∷◌, ◌==◌, if◌then◌else◌, get_or, ◌≡◌}
use Rattle.fp_site.specs.Disk.{Disk}
use Rattle.fp_model.specs.declared.log.Item.{Item}
use Rattle.fp_model.specs.declared.log.Item.TheVariants.{Image, Range}
use Rattle.fp_model.specs.declared.log.Entry.{Entry}
use Rattle.fp_model.specs.declared.log.Outcome.TheVariants.{Done}
use Rattle.area_redo.specs.Redo.{AreaBytes, Layout}

-- data set 3 alone is an area
abbrev pub one_area : Layout
one_area = record { size = λ set. 4; counted = λ set control. if set == 3 then get_or control 0 0 else 0 }

abbrev pub with_items : List Item → Entry
with_items items = record { from = 0; outcome = Done; line = []; reply = []; notes = []; items = items }

-- interval 1 comes whole, and then two bytes of it change
abbrev pub two_entries : List Entry
two_entries = with_items (Image 3 1 (1 ∷ 2 ∷ 3 ∷ 4 ∷ []) ∷ []) ∷ with_items (Range 3 1 1 (8 ∷ 9 ∷ []) ∷ []) ∷ []

-- the intervals as they are then
abbrev pub intervals : ℕ → List ℕ
intervals zero = 2 ∷ 0 ∷ 0 ∷ 7 ∷ []
intervals (suc zero) = 1 ∷ 8 ∷ 9 ∷ 4 ∷ []
intervals ci = []

abbrev pub the_bytes : AreaBytes
the_bytes = λ set ci. if set == 3 then intervals ci else []

-- data sets of which only the area has bytes
abbrev pub area_of : List ℕ → ℕ → List ℕ
area_of image = λ set. if set == 3 then image else []

-- before interval 1 is written, the data set ends behind control
abbrev pub unwritten : List ℕ
unwritten = 2 ∷ 0 ∷ 0 ∷ 7 ∷ []

-- a write of it that a crash tore
abbrev pub torn : List ℕ
torn = 2 ∷ 0 ∷ 0 ∷ 7 ∷ 1 ∷ 250 ∷ 9 ∷ []

-- and the whole write
abbrev pub whole : List ℕ
whole = 2 ∷ 0 ∷ 0 ∷ 7 ∷ 1 ∷ 8 ∷ 9 ∷ 4 ∷ []

-- control is another one
abbrev pub other_control : List ℕ
other_control = 2 ∷ 0 ∷ 0 ∷ 6 ∷ 1 ∷ 8 ∷ 9 ∷ 4 ∷ []

-- a disk of which every crash leaves these images
abbrev pub resting : (ℕ → List ℕ) → Disk
resting images = record {
  contents = images;
  sent = [];
  tells_sent = Unit {0};
  may_leave = λ s. s.images ≡ images;
  moment = 0;
  left_since = λ t s. s.images ≡ images;
}
