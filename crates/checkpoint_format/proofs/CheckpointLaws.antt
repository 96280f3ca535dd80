-- A checkpoint's bytes behind its gate: the spelling and the reader undo each other.
use Rattle.std.proofs.Common.{◌≡◌, ◌⊎◌, inl, inr, ℕ, ◌^◌, ◌<◌, true, List, [], ◌∷◌, ◌++◌, length, Some, refl, sym, ap, subst, ◌∙◌, append_assoc, arith}
use Rattle.std.specs.Prelude.{◌==◌}
use Rattle.std.specs.List.{AllByRecursion, AllZip}
use Rattle.std.proofs.lemmas.Bool.{eqb-true, eq-eqb}
use Rattle.std.proofs.lemmas.Slice.Zip.{AllZip-long}
use Rattle.fp_model.specs.CheckpointText.{AreLasts, Checkpoint, IsCheckpoint, IsMsdbOf, checkpoint_rest, lasts_text}
use Rattle.fp_model.specs.Lasts.{Last}
use Rattle.fp_model.specs.LogText.{IsBytes, IsFormat, of_format}
use Rattle.fp_model.specs.Spellings.{be64}
use Rattle.fp_model.specs.declared.database.Msdb.{Msdb}
use Rattle.fp_model.specs.declared.definitions.MsdbDef.{MsdbDef}
use Rattle.log_format.specs.Laws.{Takes}
use Rattle.log_format.proofs.Fields.{law8, next, then as joins}
use Rattle.checkpoint_format.specs.Reading.{all_msdbs_at, head_at, lasts_at, msdbs_at, place_at, rest_at}
use Rattle.checkpoint_format.proofs.DatabaseLaws.{AreShort, FitsMsdb, msdbs_again, msdbs_takes, msdbs_text}
use Rattle.checkpoint_format.proofs.HeadLaws.{head_again, head_takes, letters, place_again, place_takes}
use Rattle.checkpoint_format.proofs.LastLaws.{numbered_again, numbered_takes}
use Rattle.model_laws.proofs.Texts.{some_step}
use Rattle.model_laws.proofs.Entries.{format_is}
use Rattle.plain_laws.proofs.Options.{under_test}
use Rattle.std.proofs.lemmas.Option.{same_Some}

-- ---- formats

is_format : (format : ℕ) → (format ≡ 1) ⊎ (format ≡ 2) → IsFormat format
is_format format (inl one) = (0, omega arith, sym one)
is_format format (inr two) = (1, omega arith, sym two)

-- ---- databases behind their number

split : (defs : List MsdbDef) (msdbs : List Msdb) → AllZip FitsMsdb defs msdbs
    → AllZip IsMsdbOf defs msdbs × AllByRecursion (λ (m : Msdb). length m.segments < 2 ^ 32) msdbs
split [] [] all = (tt, tt)
split [] (m ∷ ms) all = absurd all
split (d ∷ ds) [] all = absurd all
split (d ∷ ds) (m ∷ ms) all = let more = split ds ms all.1 in ((all.0.0, more.0), (all.0.1, more.1))

joined : (defs : List MsdbDef) (msdbs : List Msdb) → AllZip IsMsdbOf defs msdbs
    → AllByRecursion (λ (m : Msdb). length m.segments < 2 ^ 32) msdbs → AllZip FitsMsdb defs msdbs
joined [] [] of few = tt
joined [] (m ∷ ms) of few = absurd of
joined (d ∷ ds) [] of few = absurd of
joined (d ∷ ds) (m ∷ ms) of few = ((of.0, few.0), joined ds ms of.1 few.1)

all_takes : (defs : List MsdbDef) (bytes : List ℕ) (x : List Msdb × List ℕ) → AreShort defs → IsBytes bytes
    → all_msdbs_at defs bytes ≡ Some x
    → Takes bytes (length x.0 ∷ msdbs_text defs x.0) x.1 × AllZip FitsMsdb defs x.0
unfolding all_msdbs_at
all_takes defs bytes x short fits e =
    let a = next law8 bytes _ x fits e in
    let b = under_test (a.0.0 == length defs) (msdbs_at defs a.0.1) x a.3 in
    let m = msdbs_takes defs a.0.1 x short a.1.rest_fits b.1 in
    let t = joins bytes (a.0.0 ∷ []) a.0.1 (msdbs_text defs x.0) x.1 a.1 m.0 in
    let count : a.0.0 ≡ length x.0 = eqb-true _ _ b.0 ∙ sym (AllZip-long FitsMsdb defs x.0 m.1) in (
      record { parts = t.parts ∙ ap (λ n. (n ∷ msdbs_text defs x.0) ++ x.1) count; rest_fits = t.rest_fits },
      m.1,
    )

all_again : (defs : List MsdbDef) (msdbs : List Msdb) (rest : List ℕ) → AreShort defs → AllZip FitsMsdb defs msdbs
    → all_msdbs_at defs (length msdbs ∷ (msdbs_text defs msdbs ++ rest)) ≡ Some (msdbs, rest)
unfolding all_msdbs_at
all_again defs msdbs rest short fits =
    let same : (length msdbs == length defs) ≡ true = eq-eqb _ _ (AllZip-long FitsMsdb defs msdbs fits) in
    rw same (msdbs_again defs msdbs rest short fits)

-- ---- terminals

no_lasts : AreLasts []
no_lasts = record { few = omega arith; names = tt; numbers = tt; lines = tt; in_order = refl }

lasts_takes : (format : ℕ) (bytes : List ℕ) (x : List Last × List ℕ) → (format ≡ 1) ⊎ (format ≡ 2) → IsBytes bytes
    → lasts_at format bytes ≡ Some x
    → Takes bytes (lasts_text format x.0) x.1 × AreLasts x.0 × (format ≡ 1 → x.0 ≡ [])
lasts_takes format bytes x (inl one) fits e =
    let none : ([], bytes) ≡ x = same_Some ([], bytes) x (sym (ap (λ f. lasts_at f bytes) one) ∙ e) in
    subst (λ (y : List Last × List ℕ). Takes bytes (lasts_text format y.0) y.1 × AreLasts y.0 × (format ≡ 1 → y.0 ≡ []))
    none (
      record { parts = ap (λ f. lasts_text f [] ++ bytes) (sym one); rest_fits = fits },
      no_lasts,
      λ is. refl,
    )
lasts_takes format bytes x (inr two) fits e =
    let n = numbered_takes bytes x fits (sym (ap (λ f. lasts_at f bytes) two) ∙ e) in (
      record { parts = n.0.parts ∙ ap (λ f. lasts_text f x.0 ++ x.1) (sym two); rest_fits = n.0.rest_fits },
      n.1,
      λ is. absurd (omega (arith, is, two)),
    )

lasts_again : (format : ℕ) (lasts : List Last) (rest : List ℕ) → (format ≡ 1) ⊎ (format ≡ 2) → AreLasts lasts
    → (format ≡ 1 → lasts ≡ []) → lasts_at format (lasts_text format lasts ++ rest) ≡ Some (lasts, rest)
lasts_again format lasts rest (inl one) are none =
    ap (λ f. lasts_at f (lasts_text f lasts ++ rest)) one ∙ ap (λ ls. Some (ls, rest)) (sym (none one))
lasts_again format lasts rest (inr two) are none =
    ap (λ f. lasts_at f (lasts_text f lasts ++ rest)) two ∙ numbered_again lasts rest are

-- ---- the whole

grouped : (a b c d : List ℕ) (n : ℕ) (f l : List ℕ)
    → (((a ++ b) ++ (c ++ d)) ++ (n ∷ f)) ++ l ≡ a ++ b ++ c ++ d ++ n ∷ f ++ l
grouped a b c d n f l = simp append_assoc

spread_out : (a b c d : List ℕ) (n : ℕ) (f l rest : List ℕ)
    → (a ++ b ++ c ++ d ++ n ∷ f ++ l) ++ rest ≡ a ++ (b ++ (c ++ (d ++ (n ∷ (f ++ (l ++ rest))))))
spread_out a b c d n f l rest = simp append_assoc

-- What is read is the spelling of a checkpoint that keeps the rules, with a rest;
pub rest_takes : (defs : List MsdbDef) (bytes : List ℕ) (x : (ℕ × Checkpoint) × List ℕ) → AreShort defs
    → IsBytes bytes → rest_at defs bytes ≡ Some x
    → (bytes ≡ checkpoint_rest x.0.0 defs x.0.1 ++ x.1) × IsCheckpoint x.0.0 defs x.0.1
unfolding rest_at
rest_takes defs bytes x short fits e =
    let a = some_step (head_at bytes) _ x e in
    let h = head_takes bytes a.0 fits a.1 in
    let b = some_step (place_at a.0.1) _ x a.2 in
    let p = place_takes a.0.1 b.0 h.0.rest_fits b.1 in
    let c = some_step (all_msdbs_at defs b.0.1) _ x b.2 in
    let m = all_takes defs b.0.1 c.0 short p.0.rest_fits c.1 in
    let d = some_step (lasts_at a.0.0.0 c.0.1) _ x c.2 in
    let l = lasts_takes a.0.0.0 c.0.1 d.0 h.1 m.0.rest_fits d.1 in
    let t = joins bytes _ c.0.1 _ d.0.1 (joins bytes _ b.0.1 _ c.0.1 (joins bytes _ a.0.1 _ b.0.1 h.0 p.0) m.0) l.0 in
    let k : Checkpoint = record {
      number = a.0.0.1;
      at = b.0.0.0;
      count = b.0.0.1;
      msdbs = c.0.0;
      lasts = d.0.0;
    } in
    let made : (ℕ × Checkpoint) × List ℕ = ((a.0.0.0, k), d.0.1) in
    let text = grouped (of_format letters a.0.0.0) (be64 a.0.0.1) (be64 b.0.0.0) (be64 b.0.0.1) (length c.0.0)
    (msdbs_text defs c.0.0) (lasts_text a.0.0.0 d.0.0) in
    let databases = split defs c.0.0 m.1 in
    subst (λ (y : (ℕ × Checkpoint) × List ℕ). (bytes ≡ checkpoint_rest y.0.0 defs y.0.1 ++ y.1)
    × IsCheckpoint y.0.0 defs y.0.1) (same_Some made x d.2) (
      t.parts ∙ ap (λ s. s ++ d.0.1) text,
      record {
        is_format = is_format a.0.0.0 h.1;
        number_fits = h.2;
        place = p.1;
        entries = p.2;
        few = databases.1;
        databases = databases.0;
        terminals = l.1;
        unnumbered = l.2;
      },
    )

-- and the spelling of each such checkpoint is read, whatever follows it.
pub rest_again : (defs : List MsdbDef) (format : ℕ) (c : Checkpoint) (rest : List ℕ) → AreShort defs
    → IsCheckpoint format defs c → rest_at defs (checkpoint_rest format defs c ++ rest) ≡ Some ((format, c), rest)
unfolding rest_at
rest_again defs format c rest short is =
    let of = format_is format is.is_format in
    let lasts = lasts_text format c.lasts ++ rest in
    let msdbs = length c.msdbs ∷ (msdbs_text defs c.msdbs ++ lasts) in
    let apart = spread_out (of_format letters format) (be64 c.number) (be64 c.at) (be64 c.count) (length c.msdbs)
    (msdbs_text defs c.msdbs) (lasts_text format c.lasts) rest in
    ap (rest_at defs) apart ∙ rw (
      head_again format c.number (be64 c.at ++ (be64 c.count ++ msdbs)) of is.number_fits,
      place_again c.at c.count msdbs is.place is.entries,
      all_again defs c.msdbs lasts short (joined defs c.msdbs is.databases is.few),
      lasts_again format c.lasts rest of is.terminals is.unnumbered,
    ) refl
