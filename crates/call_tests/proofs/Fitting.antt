-- Customers that fit an anchor, and dependents that fit.
use Rattle.std.proofs.Common.{◌≡◌, ℕ, List, [], ◌∷◌, map, Some, None, refl, sym, subst, true, slice_get, inl}
use Rattle.std.specs.List.{AllByRecursion}
use Rattle.fp_model.specs.Exits.{anchor_of}
use Rattle.fp_model.specs.Order.{Inserts, Step, direct, edited, key_in, new_root, root_key}
use Rattle.fp_model.specs.Shape.{IsDedbOf, has_length, is_anchor}
use Rattle.fp_model.specs.State.{ascend}
use Rattle.fp_model.specs.declared.calls.AnchorChange.{AnchorChange}
use Rattle.fp_model.specs.declared.database.Dedb.{Dedb}
use Rattle.fp_model.specs.declared.database.Root.{Root}
use Rattle.fp_model.specs.declared.definitions.DedbDef.{DedbDef}
use Rattle.fp_model.specs.declared.definitions.Defs.{Defs}
use Rattle.past_anchors.specs.Databases.{AreDedbsOf, state_of}
use Rattle.state_laws.specs.Changes.{HasNoneOrNow}
use Rattle.state_laws.specs.Edits.{FitsEdit}
use Rattle.state_laws.specs.Parts.{FitsAnchorChange}
use Rattle.state_laws.proofs.Purging.{partner}
use Rattle.state_laws.proofs.Roots.{edited_good}

module _ (def : DedbDef) (anchor : ℕ) (bytes : List ℕ) (long : has_length def.segments 0 bytes ≡ true)
    (sent : anchor_of def (key_in def.segments 0 bytes) ≡ anchor) where
  fits : FitsEdit def anchor [] (direct 0 (key_in def.segments 0 bytes) ∷ []) (Inserts bytes)
  fits = record { direct = (refl, (refl, tt)); bytes_fit = (long, refl); new = (refl, sent) }

  pub alone_fits : (defs : Defs) (dedbs : List Dedb) (roots : List Root) → slice_get defs.dedbs 0 ≡ Some def
      → roots ≡ new_root def.segments bytes ∷ [] → AreDedbsOf defs dedbs
      → FitsAnchorChange defs (state_of [] dedbs) (record { dedb = 0; anchor = anchor; roots = roots })
  alone_fits defs dedbs roots defined is shape =
      let d = partner IsDedbOf defs.dedbs dedbs 0 def shape defined in
      record {
        def = def;
        dedb = d.0;
        defined = defined;
        now = d.1;
        fits = record {
          keys = subst (λ (rs : List Root). ascend (map (root_key def.segments) rs) ≡ true) (sym is) refl;
          in_shape = λ area ends there at has.
              subst (λ (rs : List Root). is_anchor def anchor ends rs ≡ true) (sym is)
              (edited_good def anchor ends [] (direct 0 (key_in def.segments 0 bytes) ∷ []) (Inserts bytes) refl fits);
          dependents = λ now e.
              subst (λ (rs : List Root). AllByRecursion (HasNoneOrNow (root_key def.segments) now) rs) (sym is)
              (inl refl, tt);
        };
      }
