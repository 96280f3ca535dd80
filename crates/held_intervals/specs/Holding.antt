-- The intervals of an area, under changes that are held.
use Rattle.std.proofs.Common.{◌≡◌, ℕ, zero, suc, ◌<◌, ◌≤◌, List, [], ◌∷◌, length, get_or, refl, sym, ◌∙◌, ap, arith}
use Rattle.std.specs.Prelude.{Option, Some, None, slice_get}
use Rattle.ci_space.specs.Calls.{GoesOn, HaveSize}

-- what is held of each interval
abbrev pub Changes : Type 0
Changes = ℕ → Option (List ℕ)

-- the bytes that are held, else these
abbrev pub held_or : Option (List ℕ) → List ℕ → List ℕ
held_or None otherwise = otherwise
held_or (Some bytes) otherwise = bytes

-- an interval as it is held, else as it stands in the area
abbrev pub bytes_of : Changes → List (List ℕ) → ℕ → List ℕ
bytes_of changed area ci = held_or (changed ci) (get_or area ci [])

-- the list of the values at the numbers below n
abbrev pub listed : ℕ → (ℕ → List ℕ) → List (List ℕ)
listed zero f = []
listed (suc n) f = f 0 ∷ listed n (λ i. f (suc i))

-- so many intervals, each as it is held, else as it stands in the area
abbrev pub overlaid : ℕ → Changes → List (List ℕ) → List (List ℕ)
overlaid number changed area = listed number (bytes_of changed area)

-- what was read is what stands there
abbrev pub AreRead : Changes → List (List ℕ) → Type 0
AreRead read area = (ci : ℕ) (bytes : List ℕ) → read ci ≡ Some bytes → slice_get area ci ≡ Some bytes

-- what is held is of intervals of the area, and has their size
abbrev pub Fit : ℕ → ℕ → Changes → Type 0
Fit number size changed = (ci : ℕ) (bytes : List ℕ) → changed ci ≡ Some bytes → (ci < number) × (length bytes ≡ size)

-- what is told where the area is told
pub record IsToldHeld (number area_size : ℕ) (area : List (List ℕ)) (size : ℕ) (read changed : Changes) : Type 0 where
  pub same_size : size ≡ area_size
  pub are_read : AreRead read area
  pub fit : Fit number size changed

-- the intervals that stood in the area stay there
abbrev pub KeepsFront : List (List ℕ) → List (List ℕ) → Type 0
KeepsFront old new = (ci : ℕ) (bytes : List ℕ) → slice_get old ci ≡ Some bytes → slice_get new ci ≡ Some bytes

-- what is known since the first, beyond what is told
pub record Keeps {I : Type 0} (told : I → Type 0) (intervals : I → List (List ℕ)) (number size faults : I → ℕ)
    (keeps : I → I → Type 0) (first now : I) (first_size now_size : ℕ) (first_changed changed : Changes) : Type 0 where
  pub area : GoesOn told size faults keeps first now
  pub no_fewer : number first ≤ number now
  pub front : told first → KeepsFront (intervals first) (intervals now)
  pub same_size : now_size ≡ first_size
  pub fit : first_size ≡ size first → Fit (number first) first_size first_changed → Fit (number now) now_size changed

pub keeps_itself : {I : Type 0} (told : I → Type 0) (intervals : I → List (List ℕ)) (number size faults : I → ℕ)
    (keeps : I → I → Type 0) (now : I) (held_size : ℕ) (changed : Changes)
    → Keeps told intervals number size faults keeps now now held_size held_size changed changed
keeps_itself told intervals number size faults keeps now held_size changed = record {
  area = record { tells = λ t. t; same_size = refl; later = omega arith; known = λ first k. k };
  no_fewer = omega arith;
  front = λ t ci bytes e. e;
  same_size = refl;
  fit = λ e f. f;
}

length-listed : (n : ℕ) (f : ℕ → List ℕ) → length (listed n f) ≡ n
length-listed zero f = refl
length-listed (suc n) f = ap suc (length-listed n (λ i. f (suc i)))

pub length-overlaid : (number : ℕ) (changed : Changes) (area : List (List ℕ))
    → length (overlaid number changed area) ≡ number
length-overlaid number changed area = length-listed number (bytes_of changed area)

get_or-listed : (n : ℕ) (f : ℕ → List ℕ) (i : ℕ) (d : List ℕ) → i < n → get_or (listed n f) i d ≡ f i
get_or-listed zero f i d lt = absurd (omega arith)
get_or-listed (suc n) f zero d lt = refl
get_or-listed (suc n) f (suc i) d lt = get_or-listed n (λ j. f (suc j)) i d (omega arith)

held_size : (o : Option (List ℕ)) (otherwise : List ℕ) (size : ℕ) → ((bytes : List ℕ) → o ≡ Some bytes
    → length bytes ≡ size) → length otherwise ≡ size → length (held_or o otherwise) ≡ size
held_size None otherwise size f e = e
held_size (Some bytes) otherwise size f e = f bytes refl

pub sized-overlaid : (number area_size : ℕ) (area : List (List ℕ)) (size : ℕ) (read changed : Changes)
    → IsToldHeld number area_size area size read changed → length area ≡ number → HaveSize area_size area
    → HaveSize size (overlaid number changed area)
sized-overlaid number area_size area size read changed told n each k d lt =
    let below : k < number = omega (arith, lt, length-overlaid number changed area) in
    ap length (get_or-listed number (bytes_of changed area) k d below)
    ∙ held_size (changed k) (get_or area k []) size (λ bytes e. (told.fit k bytes e).1)
    (each k [] (omega (arith, below, n)) ∙ sym told.same_size)
