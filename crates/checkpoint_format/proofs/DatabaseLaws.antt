-- A database's spelling and its reader undo each other.
use Rattle.std.proofs.Common.{◌≡◌, ℕ, ◌^◌, ◌<◌, Bool, true, false, ◌&&◌, List, [], ◌∷◌, ◌++◌, length, map, Some, None, refl, sym, ap, subst, ◌∙◌, append_assoc, arith}
use Rattle.std.specs.Prelude.{if◌then◌else◌, ◌==◌}
use Rattle.std.specs.List.{AllByRecursion, AllZip, flat_map, zip}
use Rattle.std.proofs.lemmas.Bool.{eqb-true, eq-eqb, and_from, and_parts}
use Rattle.std.proofs.lemmas.List.Concat.{flat_map-cons}
use Rattle.fp_model.specs.CheckpointText.{IsMsdbOf, msdb_text}
use Rattle.fp_model.specs.LogText.{IsBytes}
use Rattle.fp_model.specs.Spellings.{be16, be32}
use Rattle.fp_model.specs.State.{ascend, key_of}
use Rattle.fp_model.specs.declared.database.Msdb.{Msdb}
use Rattle.fp_model.specs.declared.definitions.MsdbDef.{MsdbDef}
use Rattle.log_format.specs.Laws.{Lawful, Takes}
use Rattle.log_format.specs.Reading.{many_at, part_at}
use Rattle.log_format.proofs.Fields.{law16, law32, next, part_again, part_takes, then as joins}
use Rattle.log_format.proofs.Lists.{many_again, many_takes}
use Rattle.checkpoint_format.specs.Reading.{msdb_at, msdbs_at}
use Rattle.model_laws.proofs.Texts.{some_step}
use Rattle.std.proofs.lemmas.Option.{same_Some}

-- a test that passed
pub passed : {A : Type 0} (b : Bool) (x y : A) → (if b then Some x else None) ≡ Some y → (b ≡ true) × (x ≡ y)
passed true x y e = (refl, cc)
passed false x y e = absurd cc

-- a segment of a length
pub segment_law : (n : ℕ) → Lawful (List ℕ) (λ s. s) (part_at n) (λ s. length s ≡ n)
segment_law n = record {
  takes = λ bytes x fits e. let p = part_takes n bytes x fits e in (p.0, p.1);
  again = λ s rest fits. part_again s rest n fits;
}

-- what a database fits
abbrev pub FitsMsdb : MsdbDef → Msdb → Type 0
FitsMsdb def msdb = IsMsdbOf def msdb × (length msdb.segments < 2 ^ 32)

module _ (def : MsdbDef) (short : def.length < 2 ^ 16) where
  msdb_takes : (bytes : List ℕ) (x : Msdb × List ℕ) → IsBytes bytes → msdb_at def bytes ≡ Some x
      → Takes bytes (msdb_text def x.0) x.1 × FitsMsdb def x.0
  unfolding msdb_at
  msdb_takes bytes x fits e =
      let a = next law16 bytes _ x fits e in
      let b = next law32 a.0.1 _ x a.1.rest_fits a.3 in
      let c = some_step (many_at (part_at def.length) b.0.0 b.0.1) _ x b.3 in
      let m = many_takes (List ℕ) (λ s. s) (part_at def.length) (λ s. length s ≡ def.length) (segment_law def.length)
      b.0.0 b.0.1 c.0 b.1.rest_fits c.1 in
      let made : Msdb × List ℕ = (record { segments = c.0.0 }, c.0.1) in
      let p = passed ((a.0.0 == def.length) && ascend (map (key_of def.fields) c.0.0)) made x c.2 in
      let q = and_parts (a.0.0 == def.length) (ascend (map (key_of def.fields) c.0.0)) p.0 in
      let size : a.0.0 ≡ def.length = eqb-true _ _ q.0 in
      let t = joins bytes _ b.0.1 _ c.0.1 (joins bytes _ a.0.1 _ b.0.1 a.1 b.1) m.0 in
      let text : be16 a.0.0 ++ be32 b.0.0 ++ flat_map (λ s. s) c.0.0 ≡ msdb_text def (record { segments = c.0.0 }) =
      ap (λ n. be16 n ++ be32 b.0.0 ++ flat_map (λ s. s) c.0.0) size
      ∙ ap (λ n. be16 def.length ++ be32 n ++ flat_map (λ s. s) c.0.0) (sym m.1) in
      subst (λ (y : Msdb × List ℕ). Takes bytes (msdb_text def y.0) y.1 × FitsMsdb def y.0) p.1 (
        record { parts = t.parts ∙ ap (λ l. l ++ c.0.1) text; rest_fits = t.rest_fits },
        (record { lengths = m.2; in_order = q.1 }, omega (arith, m.1, b.2)),
      )

  pub msdb_again : (msdb : Msdb) (rest : List ℕ) → FitsMsdb def msdb
      → msdb_at def (msdb_text def msdb ++ rest) ≡ Some (msdb, rest)
  unfolding msdb_at
  msdb_again msdb rest fits =
      let segs = msdb.segments in
      let regrouped : msdb_text def msdb ++ rest ≡ be16 def.length
      ++ (be32 (length segs) ++ (flat_map (λ s. s) segs ++ rest)) = simp append_assoc in
      let ok : ((def.length == def.length) && ascend (map (key_of def.fields) segs)) ≡ true =
      and_from (def.length == def.length) (ascend (map (key_of def.fields) segs)) (eq-eqb def.length def.length refl)
      fits.0.in_order in
      ap (msdb_at def) regrouped ∙ rw (
        law16.again def.length (be32 (length segs) ++ (flat_map (λ s. s) segs ++ rest)) short,
        law32.again (length segs) (flat_map (λ s. s) segs ++ rest) fits.1,
        many_again (List ℕ) (λ s. s) (part_at def.length) (λ s. length s ≡ def.length) (segment_law def.length) segs
            rest fits.0.lengths,
        ok,
      ) refl

  pub msdb_law : Lawful Msdb (msdb_text def) (msdb_at def) (FitsMsdb def)
  msdb_law = record { takes = msdb_takes; again = msdb_again }

-- all databases, one of each definition
abbrev pub msdbs_text : List MsdbDef → List Msdb → List ℕ
msdbs_text defs msdbs = flat_map (λ each. msdb_text each.0 each.1) (zip defs msdbs)

abbrev pub AreShort : List MsdbDef → Type 0
AreShort defs = AllByRecursion (λ (def : MsdbDef). def.length < 2 ^ 16) defs

pub msdbs_takes : (defs : List MsdbDef) (bytes : List ℕ) (x : List Msdb × List ℕ) → AreShort defs → IsBytes bytes
    → msdbs_at defs bytes ≡ Some x
    → Takes bytes (msdbs_text defs x.0) x.1 × AllZip FitsMsdb defs x.0
unfolding msdbs_at
msdbs_takes [] bytes x short fits e =
    subst (λ (y : List Msdb × List ℕ). Takes bytes (msdbs_text [] y.0) y.1 × AllZip FitsMsdb [] y.0)
    (same_Some ([], bytes) x e) (record { parts = refl; rest_fits = fits }, tt)
msdbs_takes (def ∷ defs) bytes x short fits e =
    let a = next (msdb_law def short.0) bytes _ x fits e in
    let b = some_step (msdbs_at defs a.0.1) _ x a.3 in
    let m = msdbs_takes defs a.0.1 b.0 short.1 a.1.rest_fits b.1 in
    let t = joins bytes (msdb_text def a.0.0) a.0.1 (msdbs_text defs b.0.0) b.0.1 a.1 m.0 in
    let made : List Msdb × List ℕ = (a.0.0 ∷ b.0.0, b.0.1) in
    subst (λ (y : List Msdb × List ℕ). Takes bytes (msdbs_text (def ∷ defs) y.0) y.1 × AllZip FitsMsdb (def ∷ defs) y.0)
    (same_Some made x b.2) (rw flat_map-cons t, (a.2, m.1))

pub msdbs_again : (defs : List MsdbDef) (msdbs : List Msdb) (rest : List ℕ) → AreShort defs
    → AllZip FitsMsdb defs msdbs → msdbs_at defs (msdbs_text defs msdbs ++ rest) ≡ Some (msdbs, rest)
unfolding msdbs_at
msdbs_again [] [] rest short fits = refl
msdbs_again [] (m ∷ ms) rest short fits = absurd fits
msdbs_again (def ∷ defs) [] rest short fits = absurd fits
msdbs_again (def ∷ defs) (m ∷ ms) rest short fits =
    let regrouped : msdbs_text (def ∷ defs) (m ∷ ms) ++ rest ≡ msdb_text def m ++ (msdbs_text defs ms ++ rest) =
    ap (λ (t : List ℕ). t ++ rest) (flat_map-cons (λ each. msdb_text each.0 each.1) (def, m) (zip defs ms))
    ∙ append_assoc (msdb_text def m) (msdbs_text defs ms) rest in
    ap (msdbs_at (def ∷ defs)) regrouped ∙ rw (
      msdb_again def short.0 m (msdbs_text defs ms ++ rest) fits.0,
      msdbs_again defs ms rest short.1 fits.1,
    ) refl
