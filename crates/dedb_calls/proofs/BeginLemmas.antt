-- A transaction as it begins.
use Rattle.std.proofs.Common.{◌≡◌, ◌∙◌, ℕ, zero, suc, ◌<◌, List, [], ◌∷◌, map, length, replicate, Some, None, refl, sym, ap, false, slice_get, unwrap_or, arith}
use Rattle.std.specs.Prelude.{if◌then◌else◌}
use Rattle.fp_model.specs.declared.definitions.DedbDef.{DedbDef}
use Rattle.fp_model.specs.Order.{Place}
use Rattle.fp_model.specs.Workspace.{DedbPosition, no_dedb_position}
use Rattle.dedb_calls.specs.Progress.{DedbProgress, IsDedbWorkOf, position_in}

fresh_positions : (defs : List DedbDef) → replicate (length defs) no_dedb_position ≡ map (λ def. no_dedb_position) defs
fresh_positions [] = refl
fresh_positions (d ∷ ds) = ap (λ ps. no_dedb_position ∷ ps) (fresh_positions ds)

pub fresh_all : (n : ℕ) (positions : List DedbPosition) (defs : List DedbDef) → positions ≡ replicate n no_dedb_position
    → n ≡ length defs → positions ≡ map (λ def. no_dedb_position) defs
fresh_all n positions defs is e = is ∙ ap (λ m. replicate m no_dedb_position) e ∙ fresh_positions defs

-- as it begins
abbrev pub begun : List DedbDef → DedbProgress
begun defs = record { positions = map (λ def. no_dedb_position) defs; anchors = []; inserts = [] }

counted : (defs : List DedbDef) → length (map (λ (def : DedbDef). no_dedb_position) defs) ≡ length defs
counted [] = refl
counted (d ∷ ds) = let later = counted ds in omega (arith, later)

within : (defs : List DedbDef) (n : ℕ) (def : DedbDef) → slice_get defs n ≡ Some def → n < length defs
within [] n def at = absurd (cc)
within (d ∷ ds) zero def at = omega arith
within (d ∷ ds) (suc n) def at = let later = within ds n def at in omega (arith, later)

-- nothing is held
not_held : (defs : List DedbDef) (n : ℕ)
    → (unwrap_or (slice_get (map (λ (def : DedbDef). no_dedb_position) defs) n) no_dedb_position).held ≡ false
not_held [] n = refl
not_held (d ∷ ds) zero = refl
not_held (d ∷ ds) (suc n) = not_held ds n

pub begun_fits : (defs : List DedbDef) → IsDedbWorkOf defs (begun defs)
begun_fits defs = record {
  count = counted defs;
  order = tt;
  each = λ n def at. record {
    counted = let less = within defs n def at in let all = counted defs in omega (arith, less, all);
    shapes = λ anchor a found. absurd (cc);
    place = λ place held. absurd (none (position_in (begun defs) n) place (not_held defs n) held);
  };
}
  where
    none : (p : DedbPosition) (place : Place) → p.held ≡ false → (if p.held then p.place else None) ≡ Some place → ⊥
    none p place e held = let gone : None ≡ Some place = sym (ap (λ b. if b then p.place else None) e) ∙ held in cc
