-- Calls that fit their database, whichever it is: what a statement that suits the definitions asks, of what was shown.
use Rattle.std.proofs.Common.{◌≡◌, ◌∙◌, ◌⊎◌, inl, inr, refl, sym, ap, subst, arith, ℕ, zero, suc, ◌-◌, ◌<◌, ◌≤◌, List, [], ◌∷◌, length, Bool, true, false, if◌then◌else◌, Option, Some, None}
use Rattle.std.specs.Prelude.{slice_get, nat_lt, nat_le, not, ◌&&◌, ◌==◌, option_map}
use Rattle.std.specs.List.{AllByRecursion, list_all}
use Rattle.std.specs.Option.{option_map_or}
use Rattle.std.proofs.lemmas.Bool.{and_parts, eq-eqb, leb-true, ltb-true}
use Rattle.std.proofs.lemmas.Bool.Decides.{nat_tests}
use Rattle.fp_model.specs.declared.calls.Message.{Message}
use Rattle.fp_model.specs.declared.calls.Call.{Call}
use Rattle.fp_model.specs.declared.calls.Call.TheVariants as call
use Rattle.fp_model.specs.declared.calls.Ssa.{Ssa}
use Rattle.fp_model.specs.declared.definitions.Defs.{Defs}
use Rattle.fp_model.specs.declared.definitions.DedbDef.{DedbDef}
use Rattle.fp_model.specs.declared.definitions.MsdbDef.{MsdbDef}
use Rattle.fp_model.specs.declared.definitions.SegDef.{SegDef}
use Rattle.fp_model.specs.declared.scripts.Operand.{Operand}
use Rattle.fp_model.specs.declared.scripts.SsaText.{SsaText}
use Rattle.fp_model.specs.declared.scripts.Statement.{Statement, out-Statement, map-Statement}
use Rattle.fp_model.specs.declared.scripts.Statement.TheOpen.{Statement-F, Set, If, Repeat, Break, Reply, Roll, Get, Fld, Isrt, Repl, Dlet}
use Rattle.fp_model.specs.Asking.{Way, Ends, Asks, run, run_step}
use Rattle.fp_model.specs.Calls.{Target, OnMsdb, OnDedb, Nowhere, database_of, dedb_target, target_of}
use Rattle.fp_model.specs.FitCalls.{AreFitSsas, FitsRoot, FitsSsa, FitsTarget, IsFsaList, IsMsdbCall, IsShownOf, is_some_few}
use Rattle.fp_model.specs.Fsas.{Fsa, IsFsa, list_text}
use Rattle.fp_model.specs.Order.{last_type}
use Rattle.fp_model.specs.Shape.{has_length}
use Rattle.fp_model.specs.State.{key_length}
use Rattle.fp_model.specs.Operands.{Env, ShownSegment, filled, fld_call, fsas_given, get_call, isrt_call, key_text, new_type, repl_call, reply_text, set_text, shown_on, ssa_of, ssas_of, text_of, with_setting}
use Rattle.fp_model.specs.Values.{◌>>=◌, Layout, empty_segment, fitted, fitted_key, layout_of}
use Rattle.fp_model.specs.WellFormed.{HavePlaces, IsDedbDef, IsMsdbDef, IsSegDef}
use Rattle.txn_lang.specs.Suiting.{has_types, is_defined, names_new, suits_statement, suits_step}
use Rattle.txn_lang.proofs.Fitting.{suits_judges}
use Rattle.txn_machine.specs.declared.doing.Deed.TheVariants as deed
use Rattle.txn_machine.specs.declared.known.Known.{Known}
use Rattle.txn_machine.specs.declared.program.Next.{Next}
use Rattle.txn_machine.specs.declared.program.Next.TheVariants as next
use Rattle.txn_machine.specs.inside.Doing.{Does, Spells}
use Rattle.txn_machine.specs.Fit.{AreShown, IsShownSegment, type_shown}
use Rattle.txn_machine.specs.Knowing.{env_of}
use Rattle.txn_machine.specs.Running.{IsSuitedNext}
use Rattle.txn_machine.specs.inside.Stepping.{IsEnd}
use Rattle.txn_machine.proofs.FitLemmas.{empty_length, filled_length, fitted_length, given_length, mapped, shown_at}
use Rattle.txn_machine.proofs.FitStatements.{asked_of, fit_fld, fit_get, fit_isrt, fit_out, fit_repl, reply_asks, set_asks}
use Rattle.txn_machine.proofs.StatementLemmas.{run_out}
use Rattle.plain_laws.proofs.Places.{get_there}
use Rattle.model_laws.proofs.Texts.{some_step}
use Rattle.std.proofs.lemmas.Option.{slice_get_within}

-- ---- definitions

holds_at : {A : Type 0} (P : A → Type 0) (xs : List A) (n : ℕ) (x : A) → AllByRecursion P xs → slice_get xs n ≡ Some x
    → P x
holds_at P [] n x all at = absurd cc
holds_at P (y ∷ ys) zero x all at = let same : y ≡ x = cc in subst P same all.0
holds_at P (y ∷ ys) (suc n) x all at = holds_at P ys n x all.1 at

-- the root isn't sequential
root_direct : (types : List SegDef) (root : SegDef) → HavePlaces 0 types → slice_get types 0 ≡ Some root
    → root.sequential ≡ false
root_direct [] root places at = absurd cc
root_direct (d ∷ ds) root places at =
    let same : d ≡ root = cc in
    subst (λ (s : SegDef). s.sequential ≡ false) same (by d.sequential refl)
  where
    by : (b : Bool) → d.sequential ≡ b → d.sequential ≡ false
    by true is = absurd (let second = (places.0.3 is).0 in omega (arith, second))
    by false is = is

-- a call that fits a main storage database fits its target
main_fits : (defs : Defs) (shown : Option ℕ) (c : Call) → IsMsdbCall defs.msdbs c
    → FitsTarget (target_of defs (database_of c)) shown c
main_fits defs shown c (def, there, fits) =
    subst (λ (t : Target). FitsTarget t shown c)
    (sym (ap (λ (o : Option MsdbDef). option_map_or (λ d. OnMsdb d (database_of c)) o
    (dedb_target defs (database_of c - length defs.msdbs))) there)) fits

module _ (defs : Defs) where
  -- a database that is defined, of the one kind or of the other
  data Named (db : ℕ) : Type 0 where
    is_main : nat_lt db (length defs.msdbs) ≡ true → Named db
    is_entry : (def : DedbDef) → slice_get defs.msdbs db ≡ None
        → slice_get defs.dedbs (db - length defs.msdbs) ≡ Some def
        → target_of defs db ≡ OnDedb def (db - length defs.msdbs)
        → Named db

  named : (db : ℕ) → is_defined (target_of defs db) ≡ true → Named db
  named db is = by (slice_get defs.msdbs db) refl
    where
      in_entries : slice_get defs.msdbs db ≡ None → (o : Option DedbDef)
          → slice_get defs.dedbs (db - length defs.msdbs) ≡ o
          → target_of defs db ≡ option_map_or (λ def. OnDedb def (db - length defs.msdbs)) o Nowhere → Named db
      in_entries none None there target = absurd (let gone = ap is_defined target in cc)
      in_entries none (Some def) there target = is_entry def none there target

      by : (o : Option MsdbDef) → slice_get defs.msdbs db ≡ o → Named db
      by (Some def) there =
          let within = slice_get_within defs.msdbs db def there in
          is_main (grind (arith, nat_tests, within))
      by None none = in_entries none (slice_get defs.dedbs (db - length defs.msdbs)) refl
          (ap (λ (o : Option MsdbDef). option_map_or (λ d. OnMsdb d db) o (dedb_target defs (db - length defs.msdbs)))
          none)

  -- segment types that a target has are those of a target that is defined
  typed_defined : (t : Target) (ssas : List SsaText) → has_types t ssas ≡ true → is_defined t ≡ true
  typed_defined (OnMsdb def n) ssas h = refl
  typed_defined (OnDedb def n) ssas h = refl
  typed_defined Nowhere ssas h = absurd cc

  -- ---- a data entry database

  module _ (message : Message) (env : Env) (db : ℕ) (def : DedbDef) (no_main : slice_get defs.msdbs db ≡ None)
      (there : slice_get defs.dedbs (db - length defs.msdbs) ≡ Some def) where
    -- the layout of a segment type
    layout_is : (type : ℕ) (layout : Layout) → layout_of defs db type ≡ Some layout
        → (seg : SegDef) × (slice_get def.segments type ≡ Some seg)
        × (layout ≡ record { fields = seg.fields; has_key = not seg.sequential })
    layout_is type layout is =
        let behind : (slice_get defs.dedbs (db - length defs.msdbs) >>= (λ d. slice_get d.segments type >>=
        (λ s. Some (record { fields = s.fields; has_key = not s.sequential })))) ≡ Some layout =
        sym (ap (λ (o : Option MsdbDef). elim o [
          | Some d ↦ Some (record { fields = d.fields; has_key = true })
          | None ↦ slice_get defs.dedbs (db - length defs.msdbs) >>=
              (λ d. slice_get d.segments type >>=
              (λ s. Some (record { fields = s.fields; has_key = not s.sequential })))
        ]) no_main) ∙ is in
        let of_def : (slice_get def.segments type >>= (λ s. Some (record {
          fields = s.fields;
          has_key = not s.sequential;
        }))) ≡ Some layout =
        sym (ap (λ (o : Option DedbDef). o >>= (λ d. slice_get d.segments type >>=
        (λ s. Some (record { fields = s.fields; has_key = not s.sequential })))) there) ∙ behind in
        let seg = some_step (slice_get def.segments type) (λ s. Some (record {
          fields = s.fields;
          has_key = not s.sequential;
        })) layout of_def in
        let same : record { fields = seg.0.fields; has_key = not seg.0.sequential } ≡ layout = let e = seg.2 in cc in
        (seg.0, seg.1, sym same)

    -- a key fits its type, where this has one
    key_long : (seg : SegDef) (text key : List ℕ)
        → fitted_key (record { fields = seg.fields; has_key = not seg.sequential }) text ≡ Some key
        → (seg.sequential ≡ true) ⊎ (length key ≡ key_length seg.fields)
    key_long seg text key is = by seg.sequential refl
      where
        by : (b : Bool) → seg.sequential ≡ b → (seg.sequential ≡ true) ⊎ (length key ≡ key_length seg.fields)
        by true e = inl e
        by false e =
            let fit : fitted (key_length seg.fields) text ≡ Some key =
            sym (ap (λ b. if not b then fitted (key_length seg.fields) text else Some text) e) ∙ is in
            inr (fitted_length (key_length seg.fields) text key fit)

    key_typed : (type : ℕ) (operand : Operand) (key : List ℕ) → key_text defs message env db type operand ≡ Some key
        → (seg : SegDef) × (slice_get def.segments type ≡ Some seg)
        × ((seg.sequential ≡ true) ⊎ (length key ≡ key_length seg.fields))
    key_typed type operand key is =
        let text = some_step (text_of defs message env operand) (λ t. layout_of defs db type >>= (λ l. fitted_key l t)) key is
        in
        let layout = some_step (layout_of defs db type) (λ l. fitted_key l text.0) key text.2 in
        let seg = layout_is type layout.0 layout.1 in
        let fit = subst (λ (l : Layout). fitted_key l text.0 ≡ Some key) seg.2 layout.2 in
        (seg.0, seg.1, key_long seg.0 text.0 key fit)

    ssa_fits : (type : ℕ) (key : Option Operand) (ssa : Ssa) → nat_lt type (length def.segments) ≡ true
        → ssa_of defs message env db (record { segment = type; key = key }) ≡ Some ssa
        → FitsSsa def.segments ssa × (ssa.segment ≡ type)
    ssa_fits type None ssa less is =
        let same : record { segment = type; key = None } ≡ ssa = cc in
        let seg = get_there def.segments type (ltb-true type (length def.segments) less) in
        subst (λ (s : Ssa). FitsSsa def.segments s × (s.segment ≡ type)) same
        (record { def = seg.0; named = seg.1; key_fits = inr tt }, refl)
    ssa_fits type (Some operand) ssa less is =
        let m = mapped (key_text defs message env db type operand) (λ k. record { segment = type; key = Some k }) ssa is
        in
        let seg = key_typed type operand m.0 m.1 in
        subst (λ (s : Ssa). FitsSsa def.segments s × (s.segment ≡ type)) m.2
        (record { def = seg.0; named = seg.1; key_fits = seg.2 }, refl)

    -- search arguments fit the types, are as many, and end in the same type
    ssas_fit : (ssas : List SsaText) (list : List Ssa) (first : ℕ)
        → list_all (λ (ssa : SsaText). nat_lt ssa.segment (length def.segments)) ssas ≡ true
        → ssas_of defs message env db ssas ≡ Some list
        → AreFitSsas def.segments list × (length list ≡ length ssas)
        × (1 ≤ length ssas → last_type first list ≡ new_type defs message ssas)
    ssas_fit [] list first h is =
        let same : [] ≡ list = cc in
        (subst (AreFitSsas def.segments) same tt, sym (ap length same), λ some. absurd (omega (arith, some)))
    ssas_fit (s ∷ ss) list first h is =
        let a = some_step (ssa_of defs message env db s) (λ x. ssas_of defs message env db ss >>= (λ more. Some (x ∷ more)))
        list is in
        let others = some_step (ssas_of defs message env db ss) (λ more. Some (a.0 ∷ more)) list a.2 in
        let same : a.0 ∷ others.0 ≡ list = let e = others.2 in cc in
        let parts = and_parts (nat_lt s.segment (length def.segments)) _ h in
        let one = ssa_fits s.segment s.key a.0 parts.0 a.1 in
        let rest = ssas_fit ss others.0 a.0.segment parts.1 others.1 in (
          subst (AreFitSsas def.segments) same (one.0, rest.0),
          sym (ap length same) ∙ ap suc rest.1,
          λ some. ap (last_type first) (sym same) ∙ last ss a.0.segment others.0 rest.1 rest.2 one.1,
        )
      where
        last : (more : List SsaText) (type : ℕ) (read : List Ssa) → length read ≡ length more
            → (1 ≤ length more → last_type type read ≡ new_type defs message more) → type ≡ s.segment
            → last_type type read ≡ new_type defs message (s ∷ more)
        last [] type [] long later is = is
        last [] type (r ∷ rs) long later is = absurd (omega (arith, long))
        last (t ∷ ts) type read long later is = later (omega arith)

    -- bytes that fill a segment are as long as it
    module _ (good : IsDedbDef def) where
      new_bytes : (type : ℕ) (layout : Layout) (values : _) (segment bytes : List ℕ)
          → layout_of defs db type ≡ Some layout
          → ((seg : SegDef) → slice_get def.segments type ≡ Some seg → length segment ≡ seg.length)
          → filled defs message env layout.fields values segment ≡ Some bytes
          → has_length def.segments type bytes ≡ true
      new_bytes type layout values segment bytes is whole fill =
          let seg = layout_is type layout is in
          let stand = (holds_at (IsSegDef def.segments) def.segments type seg.0 good.each_type seg.1).layout.stand in
          let fill2 = subst (λ (l : Layout). filled defs message env l.fields values segment ≡ Some bytes) seg.2 fill in
          let long = filled_length defs message env seg.0.fields seg.0.length values segment bytes stand
          (whole seg.0 seg.1) fill2 in
          ap (λ (o : Option SegDef). option_map_or (λ d. length bytes == d.length) o false) seg.1
          ∙ eq-eqb (length bytes) seg.0.length long

      fresh_bytes : (type : ℕ) (layout : Layout) (segment : List ℕ) → layout_of defs db type ≡ Some layout
          → empty_segment layout.fields ≡ Some segment
          → (seg : SegDef) → slice_get def.segments type ≡ Some seg → length segment ≡ seg.length
      fresh_bytes type layout segment is empty other at =
          let seg = layout_is type layout is in
          let same : seg.0 ≡ other = let e = seg.1 in cc in
          let stand = (holds_at (IsSegDef def.segments) def.segments type seg.0 good.each_type seg.1).layout.stand in
          let fill = subst (λ (l : Layout). empty_segment l.fields ≡ Some segment) seg.2 empty in
          let whole = empty_length seg.0.fields 0 seg.0.length segment stand fill in
          let long : length segment ≡ seg.0.length = omega (arith, whole) in
          long ∙ ap (λ (d : SegDef). d.length) same

      -- what was shown is whole
      shown_bytes : (type : ℕ) (bytes : List ℕ) → has_length def.segments type bytes ≡ true
          → (seg : SegDef) → slice_get def.segments type ≡ Some seg → length bytes ≡ seg.length
      shown_bytes type bytes whole seg at =
          let same : (length bytes == seg.length) ≡ true =
          sym (ap (λ (o : Option SegDef). option_map_or (λ d. length bytes == d.length) o false) at) ∙ whole in
          grind (arith, nat_tests, same)

      fits_root : (operand : Operand) (key : List ℕ) → key_text defs message env db 0 operand ≡ Some key
          → FitsRoot def.segments key
      fits_root operand key is =
          let seg = key_typed 0 operand key is in
          (seg.0, seg.1, direct seg.0 (root_direct def.segments seg.0 good.places seg.1) seg.2)
        where
          direct : (seg : SegDef) → seg.sequential ≡ false
              → (seg.sequential ≡ true) ⊎ (length key ≡ key_length seg.fields)
              → length key ≡ key_length seg.fields
          direct seg not_so (inl so) = absurd cc
          direct seg not_so (inr long) = long

-- ---- calls

module _ (defs : Defs) (message : Message) (env : Env) (well : AllByRecursion IsMsdbDef defs.msdbs)
    (good : AllByRecursion IsDedbDef defs.dedbs) (shown : ℕ → Option ℕ) where
  abbrev Fits : Call → Type 0
  Fits c = FitsTarget (target_of defs (database_of c)) (shown (database_of c)) c

  -- a call to this data entry database
  entry_fits : (db dedb : ℕ) (def : DedbDef) (c : Call) → database_of c ≡ db → target_of defs db ≡ OnDedb def dedb
      → FitsTarget (OnDedb def dedb) (shown db) c → Fits c
  entry_fits db dedb def c is target fits =
      subst (λ (n : ℕ). FitsTarget (target_of defs n) (shown n) c) (sym is)
      (subst (λ (t : Target). FitsTarget t (shown db) c) (sym target) fits)

  suit_get : (get : _) (hold : Bool) (db : ℕ) (ssas : List SsaText) (asked : Call)
      → has_types (target_of defs db) ssas ≡ true
      → get_call defs message env (call.Get get hold db) db ssas ≡ Some asked → Fits asked
  suit_get get hold db ssas asked h is = by (named defs db (typed_defined defs (target_of defs db) ssas h))
    where
      by : Named defs db → Fits asked
      by (is_main within) =
          main_fits defs (shown (database_of asked)) asked (fit_get defs message env well get hold db ssas asked within is)
      by (is_entry def none there target) =
          let m = mapped (ssas_of defs message env db ssas) (call.Get get hold db) asked is in
          let types = sym (ap (λ t. has_types t ssas) target) ∙ h in
          subst Fits m.2 (entry_fits db _ def (call.Get get hold db m.0) refl target
          (ssas_fit defs message env db def none there ssas m.0 0 types m.1).0)

  suit_fld : (db : ℕ) (key : _) (fsas : _) (asked : Call)
      → (is_defined (target_of defs db) && is_some_few fsas) ≡ true
      → ((list : List Fsa) → fsas_given defs message env fsas ≡ Some list → AllByRecursion IsFsa list)
      → fld_call defs message env db key fsas ≡ Some asked → Fits asked
  suit_fld db key fsas asked h spelled is =
      let both = and_parts (is_defined (target_of defs db)) (is_some_few fsas) h in
      by both.1 (named defs db both.0)
    where
      by : is_some_few fsas ≡ true → Named defs db → Fits asked
      by few (is_main within) =
          main_fits defs (shown (database_of asked)) asked
          (fit_fld defs message env well db key fsas asked (rw (within, few) refl) spelled is)
      by few (is_entry def none there target) =
          let k = some_step (key_text defs message env db 0 key)
          (λ b. fsas_given defs message env fsas >>= (λ l. Some (call.Fld db b (list_text l)))) asked is in
          let l = some_step (fsas_given defs message env fsas) (λ l. Some (call.Fld db k.0 (list_text l))) asked k.2 in
          let same : call.Fld db k.0 (list_text l.0) ≡ asked = let e = l.2 in cc in
          let long = given_length defs message env fsas l.0 l.1 in
          let ends = and_parts (nat_le 1 (length fsas)) (nat_le (length fsas) 255) few in
          let low = leb-true 1 (length fsas) ends.0 in
          let high = leb-true (length fsas) 255 ends.1 in
          let list : IsFsaList (list_text l.0) = record {
            fsas = l.0;
            count = (omega (arith, long, low), omega (arith, long, high));
            each = spelled l.0 l.1;
            text = refl;
          } in
          subst Fits same (entry_fits db _ def (call.Fld db k.0 (list_text l.0)) refl target
          (fits_root defs message env db def none there (holds_at IsDedbDef defs.dedbs _ def good there) key k.0 k.1, list))

  suit_isrt : (db : ℕ) (ssas : List SsaText) (fields : _) (asked : Call)
      → (has_types (target_of defs db) ssas && names_new (target_of defs db) ssas) ≡ true
      → isrt_call defs message env db ssas fields ≡ Some asked → Fits asked
  suit_isrt db ssas fields asked h is =
      let both = and_parts (has_types (target_of defs db) ssas) (names_new (target_of defs db) ssas) h in
      by both.0 both.1 (named defs db (typed_defined defs (target_of defs db) ssas both.0))
    where
      by : has_types (target_of defs db) ssas ≡ true → names_new (target_of defs db) ssas ≡ true → Named defs db
          → Fits asked
      by typed new (is_main within) =
          main_fits defs (shown (database_of asked)) asked (fit_isrt defs message env well db ssas fields asked within is)
      by typed new (is_entry def none there target) =
          let its = holds_at IsDedbDef defs.dedbs _ def good there in
          let type : ℕ = new_type defs message ssas in
          let found = some_step (ssas_of defs message env db ssas)
          (λ f. layout_of defs db (new_type defs message ssas) >>=
          (λ l. empty_segment l.fields >>= (λ s. filled defs message env l.fields fields s >>=
          (λ b. Some (call.Isrt db f b))))) asked is in
          let layout = some_step (layout_of defs db (new_type defs message ssas))
          (λ l. empty_segment l.fields >>= (λ s. filled defs message env l.fields fields s >>=
          (λ b. Some (call.Isrt db found.0 b)))) asked found.2 in
          let segment = some_step (empty_segment layout.0.fields)
          (λ s. filled defs message env layout.0.fields fields s >>= (λ b. Some (call.Isrt db found.0 b))) asked layout.2
          in
          let bytes = some_step (filled defs message env layout.0.fields fields segment.0)
          (λ b. Some (call.Isrt db found.0 b)) asked segment.2 in
          let same : call.Isrt db found.0 bytes.0 ≡ asked = let e = bytes.2 in cc in
          let types = sym (ap (λ t. has_types t ssas) target) ∙ typed in
          let names = sym (ap (λ t. names_new t ssas) target) ∙ new in
          let some = leb-true 1 (length ssas) names in
          let list = ssas_fit defs message env db def none there ssas found.0 0 types found.1 in
          let as_many = list.1 in
          let whole = new_bytes defs message env db def none there its type layout.0 fields segment.0 bytes.0 layout.1
          (fresh_bytes defs message env db def none there its type layout.0 segment.0 layout.1 segment.1) bytes.1 in
          subst Fits same (entry_fits db _ def (call.Isrt db found.0 bytes.0) refl target (
            list.0,
            omega (arith, some, as_many),
            ap (λ (t : ℕ). has_length def.segments t bytes.0) (list.2 some) ∙ whole,
          ))

  suit_repl : (db : ℕ) (fields : _) (asked : Call) → is_defined (target_of defs db) ≡ true
      → AllByRecursion (IsShownSegment defs) env.shown
      → ((n : ℕ) → shown n ≡ option_map (λ (s : ShownSegment). s.type_number) (shown_on n env))
      → repl_call defs message env db fields ≡ Some asked → Fits asked
  suit_repl db fields asked h all last is = by (named defs db h)
    where
      by : Named defs db → Fits asked
      by (is_main within) =
          main_fits defs (shown (database_of asked)) asked (fit_repl defs message env well db fields asked within all is)
      by (is_entry def none there target) =
          let its = holds_at IsDedbDef defs.dedbs _ def good there in
          let seen = some_step (shown_on db env) (λ s. layout_of defs db s.type_number >>=
          (λ l. filled defs message env l.fields fields s.bytes >>= (λ b. Some (call.Repl db b)))) asked is in
          let one = shown_at (IsShownSegment defs) env.shown db seen.0 all seen.1 in
          let whole : has_length def.segments seen.0.type_number seen.0.bytes ≡ true =
          subst (λ (t : Target). IsShownOf t seen.0.type_number seen.0.bytes) (ap (target_of defs) one.1 ∙ target) one.0
          in
          let layout = some_step (layout_of defs db seen.0.type_number)
          (λ l. filled defs message env l.fields fields seen.0.bytes >>= (λ b. Some (call.Repl db b))) asked seen.2 in
          let bytes = some_step (filled defs message env layout.0.fields fields seen.0.bytes) (λ b. Some (call.Repl db b))
          asked layout.2 in
          let same : call.Repl db bytes.0 ≡ asked = let e = bytes.2 in cc in
          let long = new_bytes defs message env db def none there its seen.0.type_number layout.0 fields seen.0.bytes
          bytes.0 layout.1 (shown_bytes defs message env db def none there its seen.0.type_number seen.0.bytes whole)
          bytes.1 in
          let type_is = last db ∙ ap (option_map (λ (s : ShownSegment). s.type_number)) seen.1 in
          subst Fits same (entry_fits db _ def (call.Repl db bytes.0) refl target (seen.0.type_number, type_is, long))

  suit_dlet : (db : ℕ) → is_defined (target_of defs db) ≡ true → Fits (call.Dlet db)
  suit_dlet db h = by (named defs db h)
    where
      by : Named defs db → Fits (call.Dlet db)
      by (is_main within) =
          let found = get_there defs.msdbs db (ltb-true db (length defs.msdbs) within) in
          main_fits defs (shown db) (call.Dlet db) (found.0, found.1, tt)
      by (is_entry def none there target) = entry_fits db _ def (call.Dlet db) refl target tt

-- ---- statements

module _ (defs : Defs) (message : Message) (known : Known) (asked : Call) (well : AllByRecursion IsMsdbDef defs.msdbs)
    (good : AllByRecursion IsDedbDef defs.dedbs) (all : AreShown defs known.gets) where
  abbrev types : ℕ → Option ℕ
  types = type_shown known.gets

  abbrev Suits : Call → Type 0
  Suits c = FitsTarget (target_of defs (database_of c)) (types (database_of c)) c

  step_suits : (d : Statement-F Statement)
      → suits_step defs (map-Statement Statement Bool (suits_statement defs) d) ≡ true
      → Spells defs message known d
      → run_step defs message (map-Statement Statement (Env → Way) (run defs message) d) (env_of known []) ≡
      Ends (Asks asked) → Suits asked
  step_suits (Set variable first rest) h spelled is =
      absurd (set_asks (set_text defs message (env_of known []) first rest)
      (λ text. with_setting variable.0 text (env_of known [])) asked is)
  step_suits (If left comparison right taken otherwise) h spelled is = absurd spelled
  step_suits (Repeat n body) h spelled is = absurd spelled
  step_suits Break h spelled is = absurd cc
  step_suits (Reply operands) h spelled is =
      absurd (reply_asks (reply_text defs message (env_of known []) operands) asked is)
  step_suits (Roll code) h spelled is = absurd cc
  step_suits (Get get hold db ssas) h spelled is =
      suit_get defs message (env_of known []) well good types get hold db ssas asked h
      (asked_of _ asked (env_of known []) refl is)
  step_suits (Fld db key fsas) h spelled is =
      suit_fld defs message (env_of known []) well good types db key fsas asked h spelled
      (asked_of _ asked (env_of known []) refl is)
  step_suits (Isrt db ssas fields) h spelled is =
      suit_isrt defs message (env_of known []) well good types db ssas fields asked h
      (asked_of _ asked (env_of known []) refl is)
  step_suits (Repl db fields) h spelled is =
      suit_repl defs message (env_of known []) well good types db fields asked h all.each (λ n. refl)
      (asked_of _ asked (env_of known []) refl is)
  step_suits (Dlet db) h spelled is =
      let same : call.Dlet db ≡ asked = cc in
      subst Suits same (suit_dlet defs message (env_of known []) well good types db h)

  pub statement_suits : (s : Statement) → suits_statement defs s ≡ true → Spells defs message known (out-Statement s)
      → Does defs message known s (deed.Ask asked) → Suits asked
  statement_suits s h spelled does =
      step_suits (out-Statement s) (sym (fit_out (suits_step defs) (suits_judges defs) s) ∙ h) spelled
      (sym (run_out defs message s (out-Statement s) (env_of known []) refl) ∙ does [])

-- an end is no call
pub ends_suit : (defs : Defs) (shown : ℕ → Option ℕ) (given : Next) → IsEnd given → IsSuitedNext defs shown given
ends_suit defs shown (next.Call asked) e = absurd e
ends_suit defs shown (next.Reply text) e = tt
ends_suit defs shown (next.Roll code) e = tt
