-- How regions hold a resource, behind a change of its holders.
use Rattle.std.proofs.Common.{refl, ◌≡◌, ℕ, Bool, true, false, ◌&&◌, ◌==◌, Option, Some, None, ap, sym, ◌∙◌}
use Rattle.std.specs.Prelude.{IsSome, if◌then◌else◌, option_and_then}
use Rattle.fp_model.specs.declared.calls.Mode.{Mode}
use Rattle.fp_model.specs.declared.calls.Resource.{Resource}
use Rattle.fp_model.specs.Waiting.{same_resource}
use Rattle.ci_locks.specs.Holdings.{AreHeld, held_by, holders_in, mode_of}
use Rattle.ci_locks.specs.inside.Standing.{raised}
use Rattle.ci_locks.specs.declared.holding.Holders.{Holders}
use Rattle.ci_locks.specs.declared.holding.Holdings.{Holdings}
use Rattle.plain_laws.proofs.Numbers.{is_number}
use Rattle.plain_laws.proofs.Options.{is_some_of}
use Rattle.model_laws.proofs.Resources.{same_resources}

module _ (old new : Holdings) (resource : Resource) (region : ℕ) where
  -- one resource has other holders
  abbrev pub Puts : Option Holders → Type 0
  Puts now = (other : Resource) → holders_in new other ≡
      (if same_resource resource other then now else holders_in old other)

  -- a lock is gained
  module _ (mode : Mode) (h : Holders) (put : Puts (Some h))
      (has_it : (other : ℕ) → mode_of h other ≡ (if other == region then Some
      (raised (held_by old region resource) mode) else held_by old other resource)) where
    pub gain_modes : (other : ℕ) (one : Resource) → held_by new other one ≡
        (if other == region && same_resource resource one then Some (raised (held_by old region resource) mode) else
        held_by old other one)
    gain_modes other one = ap (λ found. option_and_then (λ holders. mode_of holders other) found) (put one) ∙ by
        (same_resource resource one) refl
      where
        else_same : (b : Bool) (x y z : Option Mode) → y ≡ z → (if b then x else y) ≡ (if b && true then x else z)
        else_same true x y z e = refl
        else_same false x y z e = e

        no_matter : (b : Bool) (x y : Option Mode) → y ≡ (if b && false then x else y)
        no_matter true x y = refl
        no_matter false x y = refl

        by : (b : Bool) → same_resource resource one ≡ b
            → option_and_then (λ holders. mode_of holders other) (if b then Some h else holders_in old one) ≡
            (if other == region && b then Some (raised (held_by old region resource) mode) else held_by old other
            one)
        by true is = has_it other ∙ else_same (other == region) (Some (raised (held_by old region resource) mode))
            (held_by old other resource) (held_by old other one) (ap (held_by old other) (same_resources resource one is))
        by false is = no_matter (other == region) (Some (raised (held_by old region resource) mode))
            (held_by old other one)

    pub gain_held : AreHeld old → AreHeld new
    gain_held were one found is = by (same_resource resource one) refl
      where
        here : mode_of h region ≡ Some (raised (held_by old region resource) mode)
        here = has_it region ∙ ap (λ b. if b then Some (raised (held_by old region resource) mode) else held_by old
            region resource) (is_number region)

        by : (b : Bool) → same_resource resource one ≡ b → (number : ℕ) × IsSome (mode_of found number)
        by true e =
            let same : Some h ≡ Some found = ap (λ b. if b then Some h else holders_in old one) (sym e)
            ∙ sym (put one) ∙ is in
            let it : h ≡ found = cc in (
              region,
              is_some_of (mode_of found region) (raised (held_by old region resource) mode)
                  (ap (λ holders. mode_of holders region) (sym it) ∙ here),
            )
        by false e = were one found (ap (λ b. if b then Some h else holders_in old one) (sym e)
            ∙ sym (put one) ∙ is)

  -- a region goes
  module _ (now : Option Holders) (put : Puts now)
      (left : (other : ℕ) → option_and_then (λ holders. mode_of holders other) now ≡
      (if other == region then None else held_by old other resource)) where
    pub leave_modes : (other : ℕ) (one : Resource) → held_by new other one ≡
        (if same_resource resource one && other == region then None else held_by old other one)
    leave_modes other one = ap (λ found. option_and_then (λ holders. mode_of holders other) found) (put one) ∙ by
        (same_resource resource one) refl
      where
        by : (b : Bool) → same_resource resource one ≡ b
            → option_and_then (λ holders. mode_of holders other) (if b then now else holders_in old one) ≡
            (if b && other == region then None else held_by old other one)
        by true is = left other ∙ ap (λ m. if other == region then None else m)
            (ap (held_by old other) (same_resources resource one is))
        by false is = refl

    pub leave_held : ((found : Holders) → now ≡ Some found → (number : ℕ) × IsSome (mode_of found number)) → AreHeld old
        → AreHeld new
    leave_held some were one found is = by (same_resource resource one) refl
      where
        by : (b : Bool) → same_resource resource one ≡ b → (number : ℕ) × IsSome (mode_of found number)
        by true e = some found (ap (λ b. if b then now else holders_in old one) (sym e) ∙ sym
            (put one) ∙ is)
        by false e = were one found (ap (λ b. if b then now else holders_in old one) (sym e) ∙
            sym (put one) ∙ is)

  -- what is left of its holders
  pub left_of : (h l : Holders) → holders_in old resource ≡ Some h
      → ((other : ℕ) → mode_of l other ≡ (if other == region then None else mode_of h other))
      → (other : ℕ) → mode_of l other ≡ (if other == region then None else held_by old other resource)
  left_of h l is less other = less other ∙ ap (λ found. if other == region then None else option_and_then
      (λ holders. mode_of holders other) found) (sym is)
