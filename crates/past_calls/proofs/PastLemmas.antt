-- The databases of definitions at a place.
use Rattle.std.proofs.Common.{◌≡◌, ℕ, zero, suc, ◌<◌, List, [], ◌∷◌, length, Some, ap, subst, slice_get, unwrap_or, arith}
use Rattle.std.specs.List.{AllByRecursion}
use Rattle.fp_model.specs.declared.definitions.MsdbDef.{MsdbDef}
use Rattle.past_segments.specs.Times.{Past, database_at}
use Rattle.past_segments.specs.Pasts.{ArePastsOf, databases_at}

pub as_many : (defs : List MsdbDef) (pasts : List Past) (n : ℕ) → ArePastsOf defs pasts → n < length defs
    → n < length pasts
as_many [] pasts n each within = absurd (omega (arith, within))
as_many (d ∷ ds) [] n each within = absurd each
as_many (d ∷ ds) (p ∷ ps) zero each within = omega arith
as_many (d ∷ ds) (p ∷ ps) (suc n) each within = omega (arith, as_many ds ps n each.1 (omega (arith, within)))

pub def_good : (P : MsdbDef → Type 0) (defs : List MsdbDef) (n : ℕ) (def : MsdbDef) → AllByRecursion P defs
    → slice_get defs n ≡ Some def → P def
def_good P [] n def each at = absurd (cc)
def_good P (d ∷ ds) zero def each at = let same : d ≡ def = cc in subst P same each.0
def_good P (d ∷ ds) (suc n) def each at = def_good P ds n def each.1 at

-- one of them at a place
pub shown_at : (place : ℕ) (pasts : List Past) (n : ℕ) (past : Past) → slice_get pasts n ≡ Some past
    → unwrap_or (slice_get (databases_at place pasts) n) (record { segments = [] }) ≡ database_at place past
shown_at place [] n past at = absurd (cc)
shown_at place (p ∷ ps) zero past at = let same : p ≡ past = cc in ap (database_at place) same
shown_at place (p ∷ ps) (suc n) past at = shown_at place ps n past at
