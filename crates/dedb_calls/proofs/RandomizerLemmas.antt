-- What definitions say of anchors and root keys: at least one anchor, keys of 1 to 64 bytes, an exit of the kind.
use Rattle.std.proofs.Common.{◌≡◌, ℕ, zero, suc, ◌*◌, ◌≤◌, List, [], ◌∷◌, map, length, Some, None, refl, sym, ◌∙◌, ap, subst, Bool, true, false, ◌||◌, ◌==◌, ◌⊎◌, inl, inr, slice_get, arith}
use Rattle.std.proofs.Math.Nat.{mul-le-mul_left}
use Rattle.std.proofs.lemmas.List.Sums.{sum_by-cons}
use Rattle.std.specs.Prelude.{All, sum_by, IfSome, IsTrue, if◌then◌else◌}
use Rattle.std.specs.List.{AllByRecursion}
use Rattle.fp_exits.specs.Kinds.{has_kind, same_kind}
use Rattle.fp_model.specs.declared.calls.Ssa.{Ssa}
use Rattle.fp_model.specs.declared.definitions.AreaDef.{AreaDef}
use Rattle.fp_model.specs.declared.definitions.DedbDef.{DedbDef}
use Rattle.fp_model.specs.declared.definitions.FieldDef.{FieldDef}
use Rattle.fp_model.specs.declared.definitions.FieldKind.TheVariants.{C}
use Rattle.fp_model.specs.declared.definitions.Kind.{Kind}
use Rattle.fp_model.specs.declared.definitions.Kind.TheVariants.{Fold, Range}
use Rattle.fp_model.specs.declared.definitions.SegDef.{SegDef}
use Rattle.fp_model.specs.DedbCalls.{root_named}
use Rattle.fp_model.specs.FitCalls.{AreFitSsas, FitsSsa}
use Rattle.fp_model.specs.State.{anchor_count, anchors_in, key_length}
use Rattle.fp_model.specs.WellFormed.{BeginsWithKey, HasPlace, HavePlaces, IsAreaDef, IsDedbDef, IsSegDef, StandFrom, is_field_length}

-- ---- exits

same_is : (a b : Kind) → same_kind a b ≡ true → b ≡ a
same_is Fold Fold e = refl
same_is Fold Range e = absurd (cc)
same_is Range Fold e = absurd (cc)
same_is Range Range e = refl

-- one of a kind isn't missing
pub not_missing : {X : Type 0} (f : X → Kind) (kind : Kind) (xs : List X) → has_kind (map f xs) kind ≡ true
    → All (λ x. ¬ (f x ≡ kind)) xs → ⊥
not_missing f kind [] e all = absurd (cc)
not_missing f kind (x ∷ xs) e all =
    by (same_kind kind (f x)) refl e (λ h. not_missing f kind xs h (λ k d less. all (suc k) d (omega (arith, less))))
  where
    by : (b : Bool) → same_kind kind (f x) ≡ b → (b || has_kind (map f xs) kind) ≡ true
        → (has_kind (map f xs) kind ≡ true → ⊥) → ⊥
    by true same h later = all 0 x (omega arith) (same_is kind (f x) same)
    by false same h later = later h

-- ---- anchors

some_product : (a b : ℕ) → 1 ≤ a → 1 ≤ b → 1 ≤ a * b
some_product a b p q = let more = mul-le-mul_left a q in omega (arith, p, more)

some_anchors : (types : List SegDef) (areas : List AreaDef) → 1 ≤ length areas → AllByRecursion (IsAreaDef types) areas
    → 1 ≤ sum_by anchors_in areas
some_anchors types [] some each = absurd (omega (arith, some))
some_anchors types (a ∷ areas) some each =
    let first = some_product a.uows a.base each.0.uows.0 each.0.base.0 in
    let all = sum_by-cons anchors_in a areas in
    omega (arith, first, all)

pub has_anchors : (def : DedbDef) → IsDedbDef def → 1 ≤ anchor_count def
has_anchors def good = some_anchors def.segments def.areas good.areas.0 good.each_area

-- ---- root keys

first_at : {X : Type 0} (P : X → Type 0) (xs : List X) (x : X) → AllByRecursion P xs → slice_get xs 0 ≡ Some x → P x
first_at P [] x all at = absurd (cc)
first_at P (y ∷ ys) x all at = let same : y ≡ x = cc in subst P same all.0

first_place : (xs : List SegDef) (x : SegDef) → HavePlaces 0 xs → slice_get xs 0 ≡ Some x → HasPlace 0 x
first_place [] x all at = absurd (cc)
first_place (y ∷ ys) x all at = let same : y ≡ x = cc in subst (HasPlace 0) same all.0

not_sequential : (def : SegDef) → HasPlace 0 def → def.sequential ≡ false
not_sequential def place = by def.sequential refl
  where
    by : (b : Bool) → def.sequential ≡ b → b ≡ false
    by true e = absurd (omega (arith, (place.3 e).0))
    by false e = refl

short_key : (fields : List FieldDef) (end : ℕ) → BeginsWithKey fields → StandFrom 0 fields end
    → (1 ≤ key_length fields) × (key_length fields ≤ 64)
short_key [] end begins stand = absurd begins
short_key (f ∷ fs) end begins stand =
    (some f.length (subst (λ kind. IsTrue (is_field_length kind f.length)) begins.0 stand.1), begins.1)
  where
    some : (n : ℕ) → IsTrue (is_field_length C n) → 1 ≤ n
    some zero e = absurd (cc)
    some (suc n) e = omega arith

pub first_type : (def : DedbDef) (root : SegDef) → IsDedbDef def → slice_get def.segments 0 ≡ Some root
    → StandFrom 0 root.fields root.length × (root.sequential ≡ false)
first_type def root good at = (
  (first_at (IsSegDef def.segments) def.segments root good.each_type at).layout.stand,
  not_sequential root (first_place def.segments root good.places at),
)

pub root_key_fits : (def : DedbDef) (root : SegDef) → IsDedbDef def → slice_get def.segments 0 ≡ Some root
    → (1 ≤ key_length root.fields) × (key_length root.fields ≤ 64)
root_key_fits def root good at =
    let type = first_at (IsSegDef def.segments) def.segments root good.each_type at in
    by type.key (not_sequential root (first_place def.segments root good.places at)) type.layout.stand
  where
    by : (root.sequential ≡ true) ⊎ BeginsWithKey root.fields → root.sequential ≡ false
        → StandFrom 0 root.fields root.length → (1 ≤ key_length root.fields) × (key_length root.fields ≤ 64)
    by (inl e) no_seq stand = absurd (cc)
    by (inr begins) no_seq stand = short_key root.fields root.length begins stand

-- the key that a get names the root by
pub named_key_fits : (def : DedbDef) (dedb : ℕ) (ssas : List Ssa) (key : List ℕ) → IsDedbDef def
    → AreFitSsas def.segments ssas → root_named def dedb ssas ≡ Some key → (1 ≤ length key) × (length key ≤ 64)
named_key_fits def dedb [] key good fit e = absurd (cc)
named_key_fits def dedb (a ∷ rest) key good fit e = by (a.segment == 0) refl e
  where
    its : FitsSsa def.segments a
    its = fit.0

    root : a.segment ≡ 0 → slice_get def.segments 0 ≡ Some its.def
    root same = ap (slice_get def.segments) (sym same) ∙ its.named

    long : (its.def.sequential ≡ true) ⊎ IfSome a.key (λ k. length k ≡ key_length its.def.fields)
        → its.def.sequential ≡ false → a.key ≡ Some key → length key ≡ key_length its.def.fields
    long (inl s) no_seq is = absurd (cc)
    long (inr fits) no_seq is = subst (λ o. IfSome o (λ k. length k ≡ key_length its.def.fields)) is fits

    by : (b : Bool) → (a.segment == 0) ≡ b → (if b then a.key else None) ≡ Some key
        → (1 ≤ length key) × (length key ≤ 64)
    by true same is =
        let at = root (number_is a.segment 0 same) in
        let fits = root_key_fits def its.def good at in
        let n = long its.key_fits (not_sequential its.def (first_place def.segments its.def good.places at)) is in
        (omega (arith, fits.0, n), omega (arith, fits.1, n))
      where
        number_is : (x y : ℕ) → (x == y) ≡ true → x ≡ y
        number_is x y h = grind arith
    by false same is = absurd (cc)
