-- The rows that contracts see say the same as what the code keeps.
use Rattle.std.proofs.Common.{refl, arith, ◌≡◌, ℕ, zero, suc, ◌+◌, ◌<◌, ◌≤◌, List, [], ◌∷◌, length, map, Bool, true, false, cond, Option, Some, None, ⊎_elim, ap, sym, subst, ◌∙◌}
use mathlib.Core.Path.{fun_ext}
use Rattle.std.specs.Prelude.{IsSome, option_and_then, slice_get}
use Rattle.std.specs.BTreeMap.{BTreeMap, is_at}
use Rattle.std.specs.Map.{lookup}
use Rattle.std.specs.Cmp.Lexicographic.{slice_cmp}
use Rattle.std.specs.Ordering.{nat_cmp}
use Rattle.std.proofs.lemmas.Bool.{cases_lt}
use Rattle.fp_model.specs.declared.calls.Mode.{Mode}
use Rattle.fp_model.specs.declared.calls.Resource.{Resource}
use Rattle.fp_model.specs.declared.calls.Resource.TheVariants.{Segment, Anchor}
use Rattle.fp_model.specs.Waiting.{Lock}
use Rattle.ci_locks.specs.Holdings as code
use Rattle.ci_locks.specs.Holdings.{anchor_cmp, at_key, held_by, key_holders}
use Rattle.ci_locks.specs.Regions.{IsSound, region_at, row_of, rows_from, rows_of}
use Rattle.ci_locks.specs.inside.Regions.{region_request, standing_of}
use Rattle.ci_locks.specs.Standing.{Standing, Shows}
use Rattle.ci_locks.specs.Table.{Row, joined, key_mode, mode_of, request_of, row_at, row_mode, standing}
use Rattle.ci_locks.specs.declared.holding.Holdings.{Holdings}
use Rattle.ci_locks.specs.declared.state.Region.{Region}
use Rattle.ci_locks.specs.declared.state.State.{State}
use Rattle.plain_laws.proofs.Options.{none_isnt_some, some_value}

-- ---- one row

-- what is found among the modes is how its holders hold it
found_by : {K L V : Type 0} (key : K → L) (mode : V → Option Mode) (test : L → Bool) (es : List (K × V))
    → joined (lookup test (map (λ (e : K × V). (key e.0, mode e.1)) es)) ≡ option_and_then mode
    (lookup (λ k. test (key k)) es)
found_by key mode test [] = refl
found_by key mode test (e ∷ es) = by (test (key e.0)) (found_by key mode test es)
  where
    by : (b : Bool) → joined (lookup test (map (λ e. (key e.0, mode e.1)) es)) ≡ option_and_then mode
        (lookup (λ k. test (key k)) es)
        → joined (cond b (Some (mode e.1)) (lookup test (map (λ e. (key e.0, mode e.1)) es))) ≡ option_and_then mode
        (cond b (Some e.1) (lookup (λ k. test (key k)) es))
    by true rest = refl
    by false rest = rest

module _ {K V : Type 0} (bytes : K → List ℕ) (mode : V → Option Mode) where
  key_is : (tables : List (BTreeMap K V)) (msdb : ℕ) (key : List ℕ)
      → key_mode key (slice_get (map (λ (table : BTreeMap K V). map (λ (e : K × V). (bytes e.0, mode e.1))
      table.entries) tables) msdb)
      ≡ option_and_then mode (key_holders bytes key (slice_get tables msdb))
  key_is [] msdb key = refl
  key_is (t ∷ ts) zero key = found_by bytes mode (is_at (slice_cmp nat_cmp key)) t.entries
  key_is (t ∷ ts) (suc msdb) key = key_is ts msdb key

row_is : (holdings : Holdings) (number : ℕ) (region : Region) (resource : Resource)
    → row_mode (row_of holdings number region) resource ≡ held_by holdings number resource
row_is holdings number region (Anchor dedb anchor) =
    found_by (λ k. k) (λ holders. code.mode_of holders number) (is_at (anchor_cmp (dedb, anchor)))
    holdings.anchors.entries
row_is holdings number region (Segment msdb key) = key_is (λ k. k.items) (λ holders. code.mode_of holders number)
    holdings.segments.items msdb key

-- ---- all rows

pub rows_long : (holdings : Holdings) (place : ℕ) (regions : List Region)
    → length (rows_from holdings place regions) ≡ length regions
rows_long holdings place [] = refl
rows_long holdings place (r ∷ rs) = ap suc (rows_long holdings (suc place) rs)

mode_at : (holdings : Holdings) (from : ℕ) (regions : List Region) (place : ℕ) (resource : Resource)
    → place < length regions
    → mode_of (slice_get (rows_from holdings from regions) place) resource ≡ held_by holdings (suc (place + from))
    resource
mode_at holdings from [] place resource h = absurd (omega (arith, h))
mode_at holdings from (r ∷ rs) zero resource h = row_is holdings (suc from) r resource ∙ ap
    (λ n. held_by holdings (suc n) resource) (let e : from ≡ 0 + from = omega arith in e)
mode_at holdings from (r ∷ rs) (suc place) resource h =
    mode_at holdings (suc from) rs place resource (omega (arith, h)) ∙ ap (λ n. held_by holdings (suc n) resource)
    (let e : place + suc from ≡ suc place + from = omega arith in e)

none_at : (holdings : Holdings) (from : ℕ) (regions : List Region) (place : ℕ) (resource : Resource)
    → length regions ≤ place → mode_of (slice_get (rows_from holdings from regions) place) resource ≡ None
none_at holdings from [] place resource h = refl
none_at holdings from (r ∷ rs) zero resource h = absurd (omega (arith, h))
none_at holdings from (r ∷ rs) (suc place) resource h = none_at holdings (suc from) rs place resource (omega (arith, h))

request_at : (holdings : Holdings) (from : ℕ) (regions : List Region) (place number : ℕ)
    → request_of number (slice_get (rows_from holdings from regions) place) ≡ region_request number
    (slice_get regions place)
request_at holdings from [] place number = refl
request_at holdings from (r ∷ rs) zero number = refl
request_at holdings from (r ∷ rs) (suc place) number = request_at holdings (suc from) rs place number

requests_are : (s : State) (number : ℕ) → request_of number (row_at (rows_of s) number) ≡ region_request number
    (region_at s.regions.items number)
requests_are s zero = refl
requests_are s (suc place) = request_at s.holdings 0 s.regions.items place (suc place)

module _ (s : State) (sound : IsSound s) where
  not_out : (number : ℕ) (resource : Resource) → ((1 ≤ number) × (number ≤ length s.regions.items) → ⊥)
      → None ≡ held_by s.holdings number resource
  not_out number resource out = by (held_by s.holdings number resource) refl
    where
      by : (o : Option Mode) → held_by s.holdings number resource ≡ o → None ≡ o
      by None e = refl
      by (Some m) e = absurd (out (sound.within number resource m e))

  modes_are : (number : ℕ) (resource : Resource) → mode_of (row_at (rows_of s) number) resource ≡ held_by s.holdings
      number resource
  modes_are zero resource = not_out 0 resource (λ w. omega (arith, w.0))
  modes_are (suc place) resource =
      ⊎_elim
      (λ (h : place < length s.regions.items). mode_at s.holdings 0 s.regions.items place resource h ∙ ap
      (λ n. held_by s.holdings (suc n) resource) (let e : place + 0 ≡ place = omega arith in e))
      (λ (h : length s.regions.items ≤ place). none_at s.holdings 0 s.regions.items place resource h ∙ not_out
      (suc place) resource (λ w. omega (arith, w.1, h)))
      (cases_lt place (length s.regions.items))

  pub standing_is : standing (rows_of s) ≡ standing_of s
  standing_is =
      ap (λ n. record {
        regions = n;
        holds = λ region. mode_of (row_at (rows_of s) region);
        asks =
            λ region. request_of region (row_at (rows_of s) region);
      }) (rows_long s.holdings 0 s.regions.items)
      ∙ ap (λ (h : ℕ → Resource → Option Mode). record {
        regions = length s.regions.items;
        holds = h;
        asks =
            λ region. request_of region (row_at (rows_of s) region);
      })
      (fun_ext (λ region. fun_ext (λ resource. modes_are region resource)))
      ∙ ap (λ (a : ℕ → Option Lock). record { regions = length s.regions.items; holds = held_by s.holdings; asks = a })
      (fun_ext (λ region. requests_are s region))

-- ---- by what contracts see

pub stands : (s : State) (rows : List Row) → IsSound s → rows_of s ≡ rows → standing_of s ≡ standing rows
stands s rows sound e = sym (standing_is s sound) ∙ ap standing e

pub long_rows : (s : State) (rows : List Row) → rows_of s ≡ rows → length rows ≡ length s.regions.items
long_rows s rows e = ap length (sym e) ∙ rows_long s.holdings 0 s.regions.items

pub shows_code : (s : State) (rows : List Row) (locks requests : List Lock) → IsSound s → rows_of s ≡ rows
    → Shows (standing rows) locks requests → Shows (standing_of s) locks requests
shows_code s rows locks requests sound e sh = let P : Standing → Type 0 = λ t. Shows t locks requests in
    subst P (sym (stands s rows sound e)) sh

pub shows_rows : (s : State) (locks requests : List Lock) → IsSound s → Shows (standing_of s) locks requests
    → Shows (standing (rows_of s)) locks requests
shows_rows s locks requests sound sh = let P : Standing → Type 0 = λ t. Shows t locks requests in
    subst P (sym (standing_is s sound)) sh

-- ---- anchors of a range

module _ (s : State) (rows : List Row) (sound : IsSound s) (e : rows_of s ≡ rows) (dedb first last : ℕ) where
  -- one that has an entry is held
  pub one_held : ((anchor : ℕ) × (first ≤ anchor) × (anchor ≤ last)
      × IsSome (code.holders_in s.holdings (Anchor dedb anchor)))
      → (region anchor : ℕ) × (first ≤ anchor) × (anchor ≤ last)
      × IsSome ((standing rows).holds region (Anchor dedb anchor))
  one_held (anchor, from, to, some) =
      let holders = some_value (code.holders_in s.holdings (Anchor dedb anchor)) some in
      let region = sound.held (Anchor dedb anchor) holders.0 holders.1 in
      let P : Option Mode → Type 0 = IsSome in (
        region.0,
        anchor,
        from,
        to,
        subst P (ap (λ found. option_and_then (λ h. code.mode_of h region.0) found) (sym holders.1) ∙ ap
            (λ (t : Standing). t.holds region.0 (Anchor dedb anchor)) (stands s rows sound e)) region.1,
      )

  -- where none has one, none is held
  pub none_held : ((anchor : ℕ) → first ≤ anchor → anchor ≤ last
      → code.holders_in s.holdings (Anchor dedb anchor) ≡ None)
      → ((region anchor : ℕ) × (first ≤ anchor) × (anchor ≤ last)
      × IsSome ((standing rows).holds region (Anchor dedb anchor))) → ⊥
  none_held none (region, anchor, from, to, some) =
      none_isnt_some ((standing rows).holds region (Anchor dedb anchor))
      (sym (ap (λ (t : Standing). t.holds region (Anchor dedb anchor)) (stands s rows sound e)) ∙ ap
      (λ found. option_and_then (λ h. code.mode_of h region) found) (none anchor from to)) some
