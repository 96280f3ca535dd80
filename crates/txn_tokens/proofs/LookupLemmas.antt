-- SSAs looked up one after another, as a loop does.
use Rattle.std.proofs.Common.{◌≡◌, ℕ, List, [], ◌∷◌, ◌++◌, Ok, Err, refl, sym, ap, ◌∙◌, length, map, arith, zero, suc, ◌+◌, ◌-◌, ◌≤◌, Bool, true, false, cond, Option, Some, None}
use Rattle.std.specs.Prelude.{slice_get, nat_le, position, option_map, ok_or, ◌≢◌}
use Rattle.std.specs.Option.{option_map_or}
use Rattle.std.specs.List.{list_all, AllByRecursion, position_or_len}
use Rattle.std.proofs.lemmas.Bool.{and_parts, leb-true}
use Rattle.fp_model.specs.declared.definitions.Defs.{Defs}
use Rattle.fp_model.specs.declared.definitions.DedbDef.{DedbDef}
use Rattle.fp_model.specs.WellFormed.{IsDedbDef, AreDefs}
use Rattle.std.proofs.lemmas.List.{append-nil, length-map}
use Rattle.fp_model.specs.declared.name.Name.{Name}
use Rattle.fp_model.specs.declared.definitions.MsdbDef.{MsdbDef}
use Rattle.fp_model.specs.declared.definitions.SegDef.{SegDef}
use Rattle.fp_model.specs.declared.scripts.SsaText.{SsaText}
use Rattle.txn_tokens.specs.declared.fault.LineFault.{LineFault}
use Rattle.txn_tokens.specs.declared.fault.LineFault.TheVariants.{UnknownName, Memory}
use Rattle.txn_tokens.specs.declared.written.WrittenSsa.{WrittenSsa}
use Rattle.txn_tokens.specs.Readings.{Reading}
use Rattle.fp_model.specs.Readings.{◌>>=◌}
use Rattle.txn_tokens.specs.Lookups.{has_name, db_of, segment_of, dedb_ssas, HaveByteNumbers}
use Rattle.txn_tokens.proofs.ReadingLemmas.{with_front, regroup}
use Rattle.plain_laws.proofs.Places.{first_place}

abbrev then_others : List SegDef → WrittenSsa → List WrittenSsa → Reading ℕ → Reading (List SsaText)
then_others types written more read = read >>= λ segment. dedb_ssas types more >>= λ others. Ok
    (record { segment = segment; key = written.key } ∷ others)

pub dedb_goes : (types : List SegDef) (front : List SsaText) (written : WrittenSsa) (all more : List WrittenSsa)
    (segment : ℕ) (total : Reading (List SsaText))
    → all ≡ written ∷ more → segment_of types written.name ≡ Ok segment → with_front front (dedb_ssas types all) ≡ total
    → with_front (front ++ record { segment = segment; key = written.key } ∷ []) (dedb_ssas types more) ≡ total
unfolding dedb_ssas
dedb_goes types front written all more segment total split is so_far =
    let one : with_front front (dedb_ssas types (written ∷ more)) ≡ with_front (front ++ record {
      segment =
          segment;
      key = written.key;
    } ∷ []) (dedb_ssas types more) =
    ap (λ (read : Reading ℕ). with_front front (then_others types written more read)) is ∙ regroup front
    (record { segment = segment; key = written.key }) (dedb_ssas types more) in
    sym one ∙ ap (λ (xs : List WrittenSsa). with_front front (dedb_ssas types xs)) (sym split) ∙ so_far

dedb_err : (types : List SegDef) (front : List SsaText) (written : WrittenSsa) (more : List WrittenSsa) (e : LineFault)
    → segment_of types written.name ≡ Err e → with_front front (dedb_ssas types (written ∷ more)) ≡ Err e
unfolding dedb_ssas
dedb_err types front written more e is = ap (λ (read : Reading ℕ). with_front front
    (then_others types written more read)) is

pub dedb_fails : (e : LineFault) (types : List SegDef) (front : List SsaText) (written : WrittenSsa)
    (all more : List WrittenSsa) (total : Reading (List SsaText))
    → all ≡ written ∷ more → (e ≢ Memory → segment_of types written.name ≡ Err e)
    → with_front front (dedb_ssas types all) ≡ total → e ≢ Memory → total ≡ Err e
dedb_fails e types front written all more total split is so_far other =
    sym so_far ∙ ap (λ (xs : List WrittenSsa). with_front front (dedb_ssas types xs)) split ∙ dedb_err types front
    written more e (is other)

pub dedb_done : (types : List SegDef) (front : List SsaText) (all : List WrittenSsa) (total : Reading (List SsaText))
    → all ≡ [] → with_front front (dedb_ssas types all) ≡ total → total ≡ Ok front
unfolding dedb_ssas
dedb_done types front all total none so_far =
    sym so_far ∙ ap (λ (xs : List WrittenSsa). with_front front (dedb_ssas types xs)) none ∙ ap
    (λ (ys : List SsaText). Ok ys) (append-nil front)

-- ---- numbers of databases

pub position_cons : {X : Type 0} (p : X → Bool) (x : X) (xs : List X)
    → position p (x ∷ xs) ≡ cond (p x) (Some 0) (option_map suc (position p xs))
position_cons p x xs = first_place (p x) (position_or_len p xs) (length xs)

-- a place among names is that of what they name
place_mapped : {X Y : Type 0} (p : Y → Bool) (f : X → Y) (xs : List X)
    → position p (map f xs) ≡ position (λ x. p (f x)) xs
place_mapped p f [] = refl
place_mapped {X = X} p f (x ∷ xs) =
    position_cons p (f x) (map f xs)
    ∙ ap (λ (o : Option ℕ). cond (p (f x)) (Some 0) (option_map suc o)) (place_mapped p f xs)
    ∙ sym (position_cons (λ (y : X). p (f y)) x xs)

-- the place in the first list, or else that in the second, behind so many
abbrev pub either_place : Option ℕ → Option ℕ → ℕ → Option ℕ
either_place (Some place) other count = Some place
either_place None (Some place) count = Some (count + place)
either_place None None count = None

either_next : (b : Bool) (o p : Option ℕ) (n : ℕ)
    → cond b (Some 0) (option_map suc (either_place o p n))
    ≡ either_place (cond b (Some 0) (option_map suc o)) p (suc n)
either_next true o p n = refl
either_next false (Some i) p n = refl
either_next false None (Some i) n = ap (λ (k : ℕ). Some k) (omega arith)
either_next false None None n = refl

either_first : (o : Option ℕ) → o ≡ either_place None o 0
either_first None = refl
either_first (Some i) = ap (λ (k : ℕ). Some k) (omega arith)

place_joined : {X : Type 0} (p : X → Bool) (xs ys : List X)
    → position p (xs ++ ys) ≡ either_place (position p xs) (position p ys) (length xs)
place_joined p [] ys = either_first (position p ys)
place_joined p (x ∷ xs) ys =
    position_cons p x (xs ++ ys)
    ∙ ap (λ (o : Option ℕ). cond (p x) (Some 0) (option_map suc o)) (place_joined p xs ys)
    ∙ either_next (p x) (position p xs) (position p ys) (length xs)
    ∙ ap (λ (o : Option ℕ). either_place o (position p ys) (suc (length xs))) (sym (position_cons p x xs))

-- the number of a database, by the two lists
abbrev or_unknown : Option ℕ → Reading ℕ
or_unknown place = ok_or place UnknownName

pub db_by_lists : (defs : Defs) (name : Name) → db_of defs name ≡ or_unknown
    (either_place (position (λ def. has_name name def.name) defs.msdbs)
    (position (λ def. has_name name def.name) defs.dedbs) (length defs.msdbs))
unfolding db_of
db_by_lists defs name =
    let mains : List Name = map (λ def. def.name) defs.msdbs in
    let entries : List Name = map (λ def. def.name) defs.dedbs in
    ap (or_unknown) (place_joined (has_name name) mains entries
    ∙ ap (λ (o : Option ℕ). either_place o (position (has_name name) entries) (length mains))
    (place_mapped (has_name name) (λ (def : MsdbDef). def.name) defs.msdbs)
    ∙ ap (λ (o : Option ℕ). either_place (position (λ (def : MsdbDef). has_name name def.name) defs.msdbs) o
    (length mains)) (place_mapped (has_name name) (λ (def : DedbDef). def.name) defs.dedbs)
    ∙ ap (either_place (position (λ (def : MsdbDef). has_name name def.name) defs.msdbs)
    (position (λ (def : DedbDef). has_name name def.name) defs.dedbs))
    (length-map defs.msdbs (λ (def : MsdbDef). def.name)))

pub db_main : (defs : Defs) (name : Name) (place : ℕ) → position (λ def. has_name name def.name) defs.msdbs ≡ Some place
    → db_of defs name ≡ Ok place
db_main defs name place is =
    db_by_lists defs name
    ∙ ap (λ (o : Option ℕ). or_unknown (either_place o
    (position (λ def. has_name name def.name) defs.dedbs) (length defs.msdbs))) is

pub db_entry : (defs : Defs) (name : Name) (place : ℕ) → position (λ def. has_name name def.name) defs.msdbs ≡ None
    → position (λ def. has_name name def.name) defs.dedbs ≡ Some place
    → db_of defs name ≡ Ok (length defs.msdbs + place)
db_entry defs name place no_main is =
    db_by_lists defs name
    ∙ ap (λ (o : Option ℕ). or_unknown (either_place o
    (position (λ def. has_name name def.name) defs.dedbs) (length defs.msdbs))) no_main
    ∙ ap (λ (o : Option ℕ). or_unknown (either_place None o (length defs.msdbs))) is

pub db_none : (defs : Defs) (name : Name) → position (λ def. has_name name def.name) defs.msdbs ≡ None
    → position (λ def. has_name name def.name) defs.dedbs ≡ None
    → UnknownName ≢ Memory → db_of defs name ≡ Err UnknownName
db_none defs name no_main no_entry other =
    db_by_lists defs name
    ∙ ap (λ (o : Option ℕ). or_unknown (either_place o
    (position (λ def. has_name name def.name) defs.dedbs) (length defs.msdbs))) no_main
    ∙ ap (λ (o : Option ℕ). or_unknown (either_place None o (length defs.msdbs))) no_entry

-- ---- numbers of one byte

abbrev Small : DedbDef → Type 0
Small def = length def.segments ≤ 256

types_small : (dedbs : List DedbDef) (place : ℕ) → AllByRecursion Small dedbs
    → length (option_map_or (λ (def : DedbDef). def.segments) (slice_get dedbs place) []) ≤ 256
types_small [] place each = omega arith
types_small (def ∷ more) zero each = each.0
types_small (def ∷ more) (suc place) each = types_small more place each.1

from_defs : (dedbs : List DedbDef) → AllByRecursion IsDedbDef dedbs → AllByRecursion Small dedbs
from_defs [] each = tt
from_defs (def ∷ more) each = (omega (arith, each.0.types.1), from_defs more each.1)

pub defs_fit : (defs : Defs) → AreDefs defs → HaveByteNumbers defs
defs_fit defs are = record {
  databases = omega (arith, are.msdbs, are.dedbs);
  types = λ db. types_small defs.dedbs (db - length defs.msdbs) (from_defs defs.dedbs are.each_dedb);
}

from_test : (dedbs : List DedbDef) → list_all (λ def. nat_le (length def.segments) 15) dedbs ≡ true
    → AllByRecursion Small dedbs
from_test [] all = tt
from_test (def ∷ more) all =
    let parts = and_parts (nat_le (length def.segments) 15) (list_all (λ d. nat_le (length d.segments) 15) more) all in
    (omega (arith, leb-true (length def.segments) 15 parts.0), from_test more parts.1)

pub tested_fit : (defs : Defs) → length defs.msdbs ≤ 32 → length defs.dedbs ≤ 16
    → list_all (λ def. nat_le (length def.segments) 15) defs.dedbs ≡ true → HaveByteNumbers defs
tested_fit defs few fewer all = record {
  databases = omega arith;
  types = λ db. types_small defs.dedbs (db - length defs.msdbs) (from_test defs.dedbs all);
}
