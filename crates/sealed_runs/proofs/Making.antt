-- The items of entries make the databases behind them.
use Rattle.std.proofs.Common.{◌≡◌, refl, sym, ◌∙◌, ap, subst, arith, ℕ, suc, ◌-◌, ◌≤◌, List, [], ◌∷◌, ◌++◌, length, append_assoc}
use Rattle.std.specs.Prelude.{Some, None, true, slice_get}
use Rattle.std.specs.List.{AllByRecursion}
use Rattle.std.proofs.lemmas.List.{length-append}
use Rattle.std.proofs.lemmas.List.Sums.{fold-append}
use Rattle.fp_model.specs.declared.database.Db.{Db}
use Rattle.fp_model.specs.declared.definitions.DedbDef.{DedbDef}
use Rattle.fp_model.specs.declared.definitions.Defs.{Defs}
use Rattle.fp_model.specs.declared.log.Entry.{Entry}
use Rattle.fp_model.specs.declared.log.Item.{Item}
use Rattle.fp_model.specs.declared.log.Item.TheVariants.{Segment, Image, Range}
use Rattle.fp_model.specs.History.{History, place_of, states_of, with_entry}
use Rattle.fp_model.specs.Items.{AreFit, IsFit, IsAreaInterval, area_sizes, begins_with_image, items_of, with_item, with_items}
use Rattle.fp_model.specs.Machine.{Machine}
use Rattle.fp_model.specs.Rules.{Rules}
use Rattle.fp_model.specs.SerialHistory.{LeadsOn}
use Rattle.fp_model.specs.State.{first_area_set}
use Rattle.fp_model.proofs.HistoryLemmas.{entries_put, join}
use Rattle.fp_core.specs.Relation.{AreMade, first_place}
use Rattle.fp_restart.proofs.Firsts.{fit-append, fit-nothing}
use Rattle.sealed_runs.proofs.Parts.{get_behind, items_first, states_more}

-- ---- items are fit

module _ (defs : Defs) (none : defs.dedbs ≡ []) where
  pub no_area : (set ci size : ℕ) → IsAreaInterval defs set ci size → ⊥
  no_area set ci size it = some_is_none (sym (nothing (set - first_area_set)) ∙ it.has_size)
    where
      nothing : (n : ℕ) → slice_get (area_sizes defs) n ≡ None
      nothing n = ap (λ (ds : List DedbDef). slice_get (area_sizes (record defs { dedbs = ds })) n) none

      some_is_none : {s : ℕ} → None ≡ Some s → ⊥
      some_is_none e = cc

  begin_none : (items : List Item) → AllByRecursion (IsFit defs) items → (set ci : ℕ)
      → begins_with_image set ci items ≡ true
  begin_none [] fit set ci = refl
  begin_none (Segment msdb key bytes ∷ items) fit set ci = begin_none items fit.1 set ci
  begin_none (Image other n bytes ∷ items) fit set ci = absurd (no_area other n (length bytes) fit.0)
  begin_none (Range other n at bytes ∷ items) fit set ci = absurd (no_area other n fit.0.0 fit.0.1)

  -- without areas, items that are each fit may be applied in any order
  fit_each : (items : List Item) → AllByRecursion (IsFit defs) items → AreFit defs items
  fit_each items fit = record { each = fit; begin = begin_none items fit }

  -- ---- entry by entry

  module _ (rules : Rules) (m : Machine) (made : AreMade defs m) where
    -- Behind a part of the machine's history, the entries that come next have items that make the state behind them.
    pub made_on : (es : List Entry) (h h2 : History) (rest : List Entry) → LeadsOn rules h es h2
        → LeadsOn rules h2 rest m.history → length h.past ≡ place_of h → first_place m ≤ place_of h
        → (with_items defs.msdbs h.now.msdbs (items_of es) ≡ h2.now.msdbs) × AreFit defs (items_of es)
    made_on [] h h2 rest l k counted first = (ap (λ (x : History). x.now.msdbs) (sym l), fit-nothing defs)
    made_on (e ∷ es) h h2 rest l k counted first =
        let next = l.0 in
        let mid = with_entry e next h in
        let on = join rules mid es rest h2 m.history l.2 k in
        let states = states_more rules mid (es ++ rest) m.history on in
        let entries = entries_put rules mid (es ++ rest) m.history on in
        let place = place_of h in
        let now_there : slice_get (states_of m.history) place ≡ Some h.now =
        ap (λ (dbs : List Db). slice_get dbs place)
        (states.1 ∙ append_assoc (states_of h) (next ∷ []) states.0 ∙ append_assoc h.past (h.now ∷ [])
        (next ∷ states.0))
        ∙ get_behind h.past h.now (next ∷ states.0) place (sym counted) in
        let next_there : slice_get (states_of m.history) (suc place) ≡ Some next =
        ap (λ (dbs : List Db). slice_get dbs (suc place))
        (states.1 ∙ append_assoc (states_of h) (next ∷ []) states.0)
        ∙ get_behind (states_of h) next states.0 (suc place)
        (omega (arith, counted, length-append h.past (h.now ∷ []))) in
        let entry_there : slice_get m.history.entries place ≡ Some e =
        ap (λ (xs : List Entry). slice_get xs place) (entries ∙ append_assoc h.entries (e ∷ []) (es ++ rest))
        ∙ get_behind h.entries e (es ++ rest) place refl in
        let is = made place h.now next e first now_there entry_there next_there in
        let behind = made_on es mid h2 rest l.2 k
        (omega (arith, counted, length-append h.past (h.now ∷ []), length-append h.entries (e ∷ [])))
        (omega (arith, first, length-append h.entries (e ∷ []))) in (
          ap (with_items defs.msdbs h.now.msdbs) (items_first e es)
              ∙ fold-append (with_item defs.msdbs) h.now.msdbs e.items (items_of es)
              ∙ ap (λ ms. with_items defs.msdbs ms (items_of es)) is.made
              ∙ behind.0,
          subst (AreFit defs) (sym (items_first e es))
              (fit-append defs e.items (items_of es) (fit_each e.items is.fit) behind.1),
        )
