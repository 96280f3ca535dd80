use Rattle.std.proofs.Common.{◌≡◌, ◌+◌, ◌∙◌, inl, inr, ap, length, map, sym, subst, take, true, arith}
use Rattle.std.specs.Prelude.{Some, slice_get}
use Rattle.std.specs.List.{AllZip}
use Rattle.std.proofs.lemmas.List.Elements.{all_zip_more}
use Rattle.root_anchor.specs.Stored.{are_storable, is_storable}
use Rattle.area_states.specs.Changes.{kept_root}
use Rattle.fp_model.specs.Order.{root_key}
use Rattle.fp_model.specs.State.{ascend}
use Rattle.area_states.specs.inside.Keys.{HasSeqsAt, IsKeptAs, IsOwnOf}
use Rattle.std.proofs.lemmas.Bool.{cases_lt}
use Rattle.std.proofs.lemmas.Option.{slice_get_within}
use Rattle.area_states.proofs.Again.{got_root, has_front, has_last, one_longer}
use Rattle.area_states.proofs.Storables.{all_mapped}
use Rattle.area_states.proofs.roots.kept_roots.Goals as goal
use Rattle.plain_laws.proofs.Alls.{list_all_push}

pub loop-root-preserved : goal.loop-root-preserved
loop-root-preserved c =
    let items = c.as_slice-root-items.result.now in
    let types = c.args.segments.now in
    let n = c.loop-root.root-index in
    let root = c.root-item.result in
    let one = c.in_ok-one.one in
    let lt = c.loop-root-test.true in
    let added = c.in_ok-push.ensures.ok in
    let inv = c.loop-root.invariant in
    record {
      same = subst (λ ks. AllZip (IsKeptAs c.args.begin) (take (n + 1) items) ks) (sym added)
          (all_zip_more (IsKeptAs c.args.begin) items c.loop-root.kept n root one lt c.root-item.is inv.same
          c.in_ok-one.ensures.kept);
      form = λ all stored.
          let all2 : are_storable c.as_slice.result.now c.as_slice-in-loop-root.result.now ≡ true =
          subst (λ ts. are_storable ts c.as_slice-in-loop-root.result.now ≡ true) (sym c.as_slice.ensures)
          (subst (λ bs. are_storable types bs ≡ true) (sym c.as_slice-in-loop-root.ensures) all) in
          let one2 : is_storable c.as_slice.result.now (kept_root root) ≡ true =
          subst (λ ts. is_storable ts (kept_root root) ≡ true) (sym c.as_slice.ensures)
          (all_mapped (is_storable types) kept_root items n root stored lt c.root-item.is) in
          let got : is_storable types one ≡ true =
          subst (λ ts. is_storable ts one ≡ true) c.as_slice.ensures (c.in_ok-one.ensures.form all2 one2) in
          subst (λ ks. are_storable types ks ≡ true) (sym added)
          (list_all_push (is_storable types) c.loop-root.kept one (inv.form all stored) got);
      count = ap length added ∙ one_longer c.loop-root.kept one ∙ ap (λ k. k + 1) inv.count;
      again = λ up number r other below is at own. subst (λ ks. HasSeqsAt ks number other.seqs) (sym added)
          (elim (cases_lt number n) [
            | inl lt ↦ has_front c.loop-root.kept one number other.seqs (inv.again up number r other lt is at own)
            | inr from ↦
                let e : number ≡ n = omega (arith, from, below) in
                let r_is : r ≡ root = got_root items n r root lt (ap (slice_get items) (sym e) ∙ is) c.root-item.is in
                let own2 : IsOwnOf c.args.begin root other = subst (λ x. IsOwnOf c.args.begin x other) r_is own in
                let up2 : ascend (map (root_key c.as_slice.result.now) c.as_slice-in-loop-root.result.now) ≡ true =
                subst (λ ts. ascend (map (root_key ts) c.as_slice-in-loop-root.result.now) ≡ true)
                (sym c.as_slice.ensures)
                (subst (λ bs. ascend (map (root_key types) bs) ≡ true) (sym c.as_slice-in-loop-root.ensures) up) in
                let at2 = subst (λ bs. slice_get bs number ≡ Some other) (sym c.as_slice-in-loop-root.ensures) at in
                has_last c.loop-root.kept one number other.seqs (e ∙ sym inv.count)
                (c.in_ok-one.ensures.again up2 number other at2 own2)
          ]);
    }

pub returns-clause-again : goal.returns-clause-again
returns-clause-again c = λ up number root other is at own.
    let items = c.as_slice-root-items.result.now in
    let same = c.as_slice-root-items.ensures in
    let is2 : slice_get items number ≡ Some root = ap (λ l. slice_get l number) same ∙ is in
    let within = slice_get_within items number root is2 in
    c.loop-root.invariant.again up number root other (omega (arith, within, c.loop-root-test.false)) is2 at own
