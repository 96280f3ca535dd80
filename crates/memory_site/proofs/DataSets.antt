-- The data sets of a site in memory after a change, and what a read of one gives.
use Rattle.std.proofs.lemmas.List.{ext_get_or, get_or-take, get_or-drop, length-take, length-append, length-replicate}
use Rattle.std.proofs.Common.{◌≡◌, ℕ, zero, suc, ◌+◌, ◌<◌, ◌≤◌, drop, List, [], ◌∷◌, ◌++◌, length, get_or, set, refl, sym, ◌∙◌, ap, arith, Vec}
use Rattle.std.specs.declared.alloc.Global.{Global}
use Rattle.fp_site.specs.Disk.{read_range}
use Rattle.memory_site.specs.Sets.{set_bytes, image_at}
use Rattle.fp_site.specs.Written.{zeros}
use Rattle.fp_site.specs.inside.Written.{get_or-append_zeros}

abbrev Sets : Type 0
Sets = List (Vec ℕ Global)

-- an empty data set more changes none
pub set_bytes-push_empty : (sets : Sets) (v : Vec ℕ Global) (k : ℕ) → v.items ≡ []
    → set_bytes (sets ++ v ∷ []) k ≡ set_bytes sets k
set_bytes-push_empty [] v zero empty = empty
set_bytes-push_empty [] v (suc k) empty = refl
set_bytes-push_empty (s ∷ sets) v zero empty = refl
set_bytes-push_empty (s ∷ sets) v (suc k) empty = set_bytes-push_empty sets v k empty

-- one data set more: those before it,
pub set_bytes-push_below : (sets : Sets) (v : Vec ℕ Global) (k : ℕ) → k < length sets
    → set_bytes (sets ++ v ∷ []) k ≡ set_bytes sets k
set_bytes-push_below [] v k lt = absurd (omega arith)
set_bytes-push_below (s ∷ sets) v zero lt = refl
set_bytes-push_below (s ∷ sets) v (suc k) lt = set_bytes-push_below sets v k (omega arith)

-- and it
pub set_bytes-push_at : (sets : Sets) (v : Vec ℕ Global) (k : ℕ) → k ≡ length sets
    → set_bytes (sets ++ v ∷ []) k ≡ v.items
set_bytes-push_at [] v zero is = refl
set_bytes-push_at [] v (suc k) is = absurd (omega arith)
set_bytes-push_at (s ∷ sets) v zero is = absurd (omega arith)
set_bytes-push_at (s ∷ sets) v (suc k) is = set_bytes-push_at sets v k (omega arith)

-- another data set in the place of one: it,
pub set_bytes-set_same : (sets : Sets) (v : Vec ℕ Global) (k : ℕ) → k < length sets
    → set_bytes (set sets k v) k ≡ v.items
set_bytes-set_same [] v k lt = absurd (omega arith)
set_bytes-set_same (s ∷ sets) v zero lt = refl
set_bytes-set_same (s ∷ sets) v (suc k) lt = set_bytes-set_same sets v k (omega arith)

-- and the others
pub set_bytes-set_other : (sets : Sets) (v : Vec ℕ Global) (k j : ℕ) → (j ≡ k → ⊥)
    → set_bytes (set sets k v) j ≡ set_bytes sets j
set_bytes-set_other [] v k j ne = refl
set_bytes-set_other (s ∷ sets) v zero zero ne = absurd (ne refl)
set_bytes-set_other (s ∷ sets) v zero (suc j) ne = refl
set_bytes-set_other (s ∷ sets) v (suc k) zero ne = refl
set_bytes-set_other (s ∷ sets) v (suc k) (suc j) ne = set_bytes-set_other sets v k j (λ e. ne (ap suc e))

-- one with the same bytes changes none
pub set_bytes-set_anew : (sets : Sets) (v : Vec ℕ Global) (k : ℕ) → k < length sets → v.items ≡ set_bytes sets k
    → (j : ℕ) → set_bytes (set sets k v) j ≡ set_bytes sets j
set_bytes-set_anew [] v k lt is j = absurd (omega arith)
set_bytes-set_anew (s ∷ sets) v zero lt is zero = is
set_bytes-set_anew (s ∷ sets) v zero lt is (suc j) = refl
set_bytes-set_anew (s ∷ sets) v (suc k) lt is zero = refl
set_bytes-set_anew (s ∷ sets) v (suc k) lt is (suc j) = set_bytes-set_anew sets v k (omega arith) is j

-- what `sets[k]` reads
pub set_bytes_read : (sets : Sets) (k : ℕ) (v : Vec ℕ Global) → k < length sets → v ≡ get_or sets k v
    → set_bytes sets k ≡ v.items
set_bytes_read [] k v lt is = absurd (omega arith)
set_bytes_read (s ∷ sets) zero v lt is = ap (λ (w : Vec ℕ Global). w.items) (sym is)
set_bytes_read (s ∷ sets) (suc k) v lt is = set_bytes_read sets k v (omega arith) is

-- past the end there are no bytes
pub set_bytes_past : (sets : Sets) (k : ℕ) → length sets ≤ k → set_bytes sets k ≡ []
set_bytes_past [] k le = refl
set_bytes_past (s ∷ sets) zero le = absurd (omega arith)
set_bytes_past (s ∷ sets) (suc k) le = set_bytes_past sets k (omega arith)

-- the same of plain lists
pub image_at-push_below : (images : List (List ℕ)) (image : List ℕ) (k : ℕ) → k < length images
    → image_at (images ++ image ∷ []) k ≡ image_at images k
image_at-push_below [] image k lt = absurd (omega arith)
image_at-push_below (s ∷ images) image zero lt = refl
image_at-push_below (s ∷ images) image (suc k) lt = image_at-push_below images image k (omega arith)

-- and the new one
pub image_at-push_at : (images : List (List ℕ)) (image : List ℕ) (k : ℕ) → k ≡ length images
    → image_at (images ++ image ∷ []) k ≡ image
image_at-push_at [] image zero is = refl
image_at-push_at [] image (suc k) is = absurd (omega arith)
image_at-push_at (s ∷ images) image zero is = absurd (omega arith)
image_at-push_at (s ∷ images) image (suc k) is = image_at-push_at images image k (omega arith)

-- what `images.get(k)` reads
pub image_at_read : (images : List (List ℕ)) (k : ℕ) (image : List ℕ) → k < length images
    → image ≡ get_or images k image → image_at images k ≡ image
image_at_read [] k image lt is = absurd (omega arith)
image_at_read (s ∷ images) zero image lt is = sym is
image_at_read (s ∷ images) (suc k) image lt is = image_at_read images k image (omega arith) is

-- past the end
pub image_at_past : (images : List (List ℕ)) (k : ℕ) → length images ≤ k → image_at images k ≡ []
image_at_past [] k le = refl
image_at_past (s ∷ images) zero le = absurd (omega arith)
image_at_past (s ∷ images) (suc k) le = image_at_past images k (omega arith)

-- what a read gives, by its bytes
pub read_range_by : (xs : List ℕ) (at count : ℕ) (into : List ℕ) → length into ≡ count
    → ((k : ℕ) → k < count → get_or into k 0 ≡ get_or xs (at + k) 0) → into ≡ read_range xs at count
read_range_by xs at count into len each =
    let padded = drop at xs ++ zeros count in
    ext_get_or 0 into (read_range xs at count) (omega (
      arith,
      len,
      length-take count padded,
      length-append (drop at xs) (zeros count),
      length-replicate {A = ℕ} count 0,
    ))
    (λ k lt.
    let below : k < count = omega (arith, lt, len) in
    each k below ∙ sym (get_or-drop at xs k 0) ∙ sym (get_or-append_zeros (drop at xs) count k) ∙ sym
    (get_or-take count padded k 0 below))
