-- What callers know of definitions that were read for an installation.
use Rattle.std.proofs.Common.{◌≡◌, ◌∙◌, ℕ, Bool, true, false, not, List, [], ◌∷◌, map, Option, Some, None, Result, Ok, Err, refl, sym, ap, subst}
use Rattle.std.specs.List.{AllByRecursion}
use Rattle.std.specs.Option.{option_map_or}
use Rattle.std.specs.Prelude.{if◌then◌else◌}
use Rattle.fp_model.specs.declared.definitions.DedbDef.{DedbDef}
use Rattle.fp_model.specs.declared.definitions.Kind.{Kind}
use Rattle.fp_model.specs.declared.definitions.Defs.{Defs}
use Rattle.fp_exits.specs.Kinds.{Kinds, has_kind}
use Rattle.fp_model.specs.Readings.{◌>>=◌}
use Rattle.fp_defs.specs.Whole.{defs_of}
use Rattle.fp_defs.specs.Exits.{first_lacking, lacking, with_exits, defs_for}
use Rattle.def_tables.specs.declared.fault.DefsFault.{DefsFault}
use Rattle.def_tables.specs.declared.fault.DefsFault.TheVariants.{NoExit}
use Rattle.def_tables.proofs.Steps.{ok_step}
use Rattle.plain_laws.proofs.Options.{some_isnt_none}

-- there are exits of every kind
abbrev pub HasAllKinds : Kinds → Type 0
HasAllKinds kinds = (kind : Kind) → (has_kind kinds.routers kind ≡ true) × (has_kind kinds.spreaders kind ≡ true)

ok_both : (o : Option Kind) (defs read : Defs) → option_map_or (λ kind. Err (NoExit kind)) o (Ok defs) ≡ Ok read
    → (defs ≡ read) × (o ≡ None)
ok_both None defs read e = (cc, refl)
ok_both (Some kind) defs read e = absurd (cc)

-- definitions that were read for an installation are those of the text, and lack no exit
pub read_for : (kinds : Kinds) (text : List ℕ) (defs : Defs) → defs_for kinds text ≡ Ok defs → (defs_of text ≡ Ok defs)
    × (lacking kinds defs ≡ None)
read_for kinds text defs e =
    let s = ok_step (defs_of text) (with_exits kinds) defs e in
    let b = ok_both (lacking kinds s.0) s.0 defs s.2 in
    (s.1 ∙ ap Ok b.0, subst (λ (d : Defs). lacking kinds d ≡ None) b.0 b.1)

-- where none is lacking, the router is there
pub router_there : (kinds : Kinds) (defs : Defs) → lacking kinds defs ≡ None → has_kind kinds.routers defs.router ≡ true
router_there kinds defs none = by (has_kind kinds.routers defs.router) none
  where
    by : (b : Bool) → (if b then first_lacking kinds.spreaders (map (λ d. d.randomizer) defs.dedbs) else Some
        defs.router) ≡ None → b ≡ true
    by true none = refl
    by false none = cc

each_there : (there : List Kind) (dedbs : List DedbDef) → first_lacking there (map (λ d. d.randomizer) dedbs) ≡ None
    → AllByRecursion (λ d. has_kind there d.randomizer ≡ true) dedbs
each_there there [] none = tt
each_there there (d ∷ ds) none = by (has_kind there d.randomizer) refl (each_there there ds)
  where
    rest : (b : Bool) → b ≡ true → (if not b then Some d.randomizer else first_lacking there
        (map (λ e. e.randomizer) ds)) ≡ first_lacking there (map (λ e. e.randomizer) ds)
    rest b e = rw e refl

    first : (b : Bool) → b ≡ false → (if not b then Some d.randomizer else first_lacking there
        (map (λ e. e.randomizer) ds)) ≡ Some d.randomizer
    first b e = rw e refl

    by : (b : Bool) → has_kind there d.randomizer ≡ b
        → (first_lacking there (map (λ e. e.randomizer) ds) ≡ None
        → AllByRecursion (λ e. has_kind there e.randomizer ≡ true) ds)
        → AllByRecursion (λ e. has_kind there e.randomizer ≡ true) (d ∷ ds)
    by true e later = (e, later (sym (rest (has_kind there d.randomizer) e) ∙ none))
    by false e later = absurd (some_isnt_none d.randomizer (sym (first (has_kind there d.randomizer) e) ∙ none))

-- and each randomizer
pub randomizers_there : (kinds : Kinds) (defs : Defs) → lacking kinds defs ≡ None
    → AllByRecursion (λ d. has_kind kinds.spreaders d.randomizer ≡ true) defs.dedbs
randomizers_there kinds defs none =
    each_there kinds.spreaders defs.dedbs (by (has_kind kinds.routers defs.router) (router_there kinds defs none) none)
  where
    by : (b : Bool) → b ≡ true → (if b then first_lacking kinds.spreaders (map (λ d. d.randomizer) defs.dedbs) else Some
        defs.router) ≡ None → first_lacking kinds.spreaders (map (λ d. d.randomizer) defs.dedbs) ≡ None
    by true e none = none
    by false e none = cc

none_lacks : (there needed : List Kind) → ((kind : Kind) → has_kind there kind ≡ true)
    → first_lacking there needed ≡ None
none_lacks there [] all = refl
none_lacks there (k ∷ ks) all = rw (all k) (none_lacks there ks all)

nothing_lacks : (kinds : Kinds) (defs : Defs) → HasAllKinds kinds → lacking kinds defs ≡ None
nothing_lacks kinds defs all = rw ((all defs.router).0)
    (none_lacks kinds.spreaders (map (λ d. d.randomizer) defs.dedbs) (λ k. (all k).1))

with_all : (kinds : Kinds) (read : Result Defs DefsFault) → HasAllKinds kinds → (read >>= with_exits kinds) ≡ read
with_all kinds (Ok defs) all = ap (λ o. option_map_or (λ kind. Err (NoExit kind)) o (Ok defs))
    (nothing_lacks kinds defs all)
with_all kinds (Err fault) all = refl

-- where there are exits of all kinds, the text alone decides
pub read_with_all : (kinds : Kinds) (text : List ℕ) → HasAllKinds kinds → defs_for kinds text ≡ defs_of text
read_with_all kinds text all = with_all kinds (defs_of text) all
