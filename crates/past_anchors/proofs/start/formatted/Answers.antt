use Rattle.std.proofs.Common.{◌≡◌, ◌+◌, ◌<◌, ◌∙◌, ◌∷◌, ◌++◌, [], ℕ, List, ap, sym, length, get_or, map, replicate, take, sum_by, arith}
use Rattle.std.proofs.lemmas.List.Sums.{sum_by_more}
use Rattle.fp_model.specs.State.{anchors_in, first_ends}
use Rattle.fp_model.specs.declared.database.AreaEnds.{AreaEnds}
use Rattle.fp_model.specs.declared.database.Root.{Root}
use Rattle.fp_model.specs.declared.definitions.AreaDef.{AreaDef}
use Rattle.past_anchors.proofs.Lists.{map_more, replicate_more}
use Rattle.past_anchors.proofs.start.formatted.Goals as goal

-- no area at all, for a list that has one at the place
abbrev nothing : AreaDef
nothing = record { name = record { 0 = [] }; uows = 0; base = 0; overflow = 0; capacity = 0; copies = 0 }

pub loop-area-preserved : goal.loop-area-preserved
loop-area-preserved c =
    let areas = c.args.def.now.areas in
    let i = c.loop-area.area-index in
    let less : i < length areas = omega (arith, ap length c.as_slice-area-items.ensures) in
    let count : c.anchors_in.result ≡ anchors_in (get_or areas i nothing) =
    c.anchors_in.ensures.count ∙ ap (λ (xs : List AreaDef). anchors_in (get_or xs i nothing))
    c.as_slice-area-items.ensures in
    let so_far : ℕ = sum_by anchors_in (take i areas) in
    let sum : so_far + c.anchors_in.result ≡ sum_by anchors_in (take (i + 1) areas) =
    ap (λ (n : ℕ). so_far + n) count ∙ sym (sum_by_more anchors_in areas i nothing less) in
    record {
      anchors =
          c.in_ok-add_empty.ensures
          ∙ ap (λ (xs : List (List Root)). xs ++ replicate c.anchors_in.result []) c.loop-area.invariant.anchors
          ∙ sym (replicate_more so_far c.anchors_in.result [])
          ∙ ap (λ (n : ℕ). replicate {A = List Root} n []) sum;
      areas =
          c.in_ok-push.ensures.ok
          ∙ ap (λ (xs : List AreaEnds). xs ++ c.first_ends.result ∷ []) c.loop-area.invariant.areas
          ∙ ap (λ (e : AreaEnds). map (λ area. first_ends) (take i areas) ++ e ∷ []) c.first_ends.ensures
          ∙ sym (map_more (λ area. first_ends) areas i nothing less);
    }
