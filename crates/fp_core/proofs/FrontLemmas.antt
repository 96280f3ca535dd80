-- Calls that leave what stands in front of a log's gate, and runs of them.
use Rattle.std.proofs.Common.{◌≡◌, ◌∙◌, sym, ap, subst, arith, ℕ, ◌+◌, ◌≤◌, List, [], ◌∷◌, ◌++◌, length, take, Result, Ok, Err}
use Rattle.std.specs.Prelude.{OnOk}
use Rattle.std.proofs.lemmas.List.{length-append, take-take}
use Rattle.fp_model.specs.declared.log.Entry.{Entry}
use Rattle.fp_model.specs.LogText.{Front, first_gate, group_text, groups_text}
use Rattle.fp_model.specs.Recovery.{Holds}
use Rattle.fp_site.specs.Disk.{Disk, Elapses, IsDurable, IsLawful, Sends, Snapshot}
use Rattle.fp_site.specs.Moments.{Through}
use Rattle.fp_site.proofs.Images.{durable_sent}
use Rattle.fp_site.proofs.Runs.{elapses_weaker, joined, of_call, shown, started, weaker}
use Rattle.log_groups.specs.Images.{HasFrontOf, IsFrontOf, IsKept, with_group}
use Rattle.log_groups.proofs.LogImages.{groups_text-append, held_reaches}
use Rattle.fp_core.specs.Fronts.{HasFront, HoldsFronts, KeepsFronts}

-- each log that a crash may leave now has them
left_so : (bytes : List ℕ) (at : ℕ) (disk : Disk) (gate : ℕ) → HasFront bytes at disk gate → (s : Snapshot)
    → disk.may_leave s → HasFrontOf bytes at s
left_so bytes at disk gate has s left = subst (IsFrontOf bytes at) (sym (has.kept.durable s left)) has.same

-- what is alike up to a gate is alike up to a place before it
shorter : (bytes old image : List ℕ) (at gate : ℕ) → at ≤ gate → IsFrontOf old gate image → IsFrontOf bytes at old
    → IsFrontOf bytes at image
shorter bytes old image at gate before same front =
    sym (take-take at gate image before) ∙ ap (take at) same ∙ take-take at gate old before ∙ front

-- the gate behind a group more is no less far
no_less : (front : Front) (groups : List (List Entry)) (entries : List Entry) (gate next : ℕ) (old new : List ℕ)
    → Holds front old groups gate → Holds front new (with_group groups entries) next → gate ≤ next
no_less front groups [] gate next old new first second =
    let one : gate ≡ first_gate front + length (groups_text groups) = first.reads.0.next in
    let two : next ≡ first_gate front + length (groups_text groups) = second.reads.0.next in
    omega (arith, one, two)
no_less front groups (e ∷ entries) gate next old new first second =
    let one : gate ≡ first_gate front + length (groups_text groups) = first.reads.0.next in
    let two : next ≡ first_gate front + length (groups_text (groups ++ (e ∷ entries) ∷ [])) = second.reads.0.next in
    let more : length (groups_text (groups ++ (e ∷ entries) ∷ [])) ≡ length (groups_text groups)
    + length (group_text (e ∷ entries)) =
    ap length (groups_text-append groups (e ∷ entries)) ∙ length-append (groups_text groups) (group_text (e ∷ entries)) in
    omega (arith, one, two, more)

-- where no call is made
pub fronts_none : (h : Disk) (gate : ℕ) → IsLawful h → KeepsFronts h gate h
fronts_none h gate law bytes at has = started (HasFrontOf bytes at) h law (left_so bytes at h gate has)

-- and the gate is the same
pub holds_none : (h : Disk) (gate next : ℕ) → next ≡ gate → HoldsFronts h gate h next
holds_none h gate next same bytes at has = subst (HasFront bytes at h) (sym same) has

-- so it is whatever the answer is
pub on_ok_holds : {A E : Type 0} (r : Result A E) (h : Disk) (gate next : ℕ) → next ≡ gate
    → OnOk r (HoldsFronts h gate h next)
on_ok_holds (Ok a) h gate next same = holds_none h gate next same
on_ok_holds (Err e) h gate next same = tt

-- one run after another
pub fronts_on : (a b c : Disk) (gate next : ℕ) → KeepsFronts a gate b → HoldsFronts a gate b next
    → KeepsFronts b next c → KeepsFronts a gate c
fronts_on a b c gate next first holds second bytes at has =
    joined (HasFrontOf bytes at) a b c (first bytes at has) (second bytes at (holds bytes at has))

pub holds_on : (a b c : Disk) (gate next last : ℕ) → HoldsFronts a gate b next → HoldsFronts b next c last
    → HoldsFronts a gate c last
holds_on a b c gate next last first second bytes at has = second bytes at (first bytes at has)

-- the gate of the first is another's
pub fronts_from : (a b : Disk) (gate next : ℕ) → next ≡ gate → KeepsFronts a next b → KeepsFronts a gate b
fronts_from a b gate next same keeps = subst (λ (g : ℕ). KeepsFronts a g b) same keeps

pub holds_from : (a b : Disk) (gate next last : ℕ) → next ≡ gate → HoldsFronts a next b last → HoldsFronts a gate b last
holds_from a b gate next last same holds = subst (λ (g : ℕ). HoldsFronts a g b last) same holds

-- ---- a seal

module _ (old mid : Disk) (gate next : ℕ)
    (front : IsDurable old 0 → gate ≤ length (old.contents 0) → Through old mid (HasFrontOf (old.contents 0) gate)) where
  -- however it ends
  pub fronts_sealing : KeepsFronts old gate mid
  fronts_sealing bytes at has =
      weaker (HasFrontOf (old.contents 0) gate) (HasFrontOf bytes at) old mid
      (λ s same. shorter bytes (old.contents 0) (s.images 0) at gate has.behind same has.same)
      (front has.kept.durable (held_reaches has.front has.groups gate (old.contents 0) has.kept.holds))

  -- where it sealed these entries, if any
  pub holds_sealed : IsLawful mid → (entries : List Entry)
      → ((front : Front) (groups : List (List Entry)) → IsKept old front groups gate
      → IsKept mid front (with_group groups entries) next)
      → HoldsFronts old gate mid next
  holds_sealed law entries kept bytes at has =
      let on = kept has.front has.groups has.kept in
      let later = no_less has.front has.groups entries gate next (old.contents 0) (mid.contents 0) has.kept.holds
      on.holds in
      let run = fronts_sealing bytes at has in
      let seen = shown old mid (HasFrontOf bytes at) law run in
      record {
        front = has.front;
        groups = with_group has.groups entries;
        kept = on;
        behind = omega (arith, has.behind, later);
        same = subst (λ (images : ℕ → List ℕ). IsFrontOf bytes at (images 0)) seen.2 (run.each seen.0 seen.1);
      }

-- ---- a text that is sent

module _ (mid new : Disk) (text : List ℕ) (gate : ℕ) (law : IsLawful mid) (law2 : IsLawful new)
    (same : new.contents ≡ mid.contents) (send : Elapses mid new (Sends mid text)) where
  pub fronts_sent : KeepsFronts mid gate new
  fronts_sent bytes at has =
      of_call mid new (HasFrontOf bytes at) law
      (elapses_weaker mid new (Sends mid text) (HasFrontOf bytes at)
      (λ s d. subst (λ (images : ℕ → List ℕ). IsFrontOf bytes at (images 0)) (sym d.images)
      (left_so bytes at mid gate has d.before d.left))
      send)
      (left_so bytes at mid gate has)

  pub holds_sent : HoldsFronts mid gate new gate
  holds_sent bytes at has = record {
    front = has.front;
    groups = has.groups;
    kept = record {
      durable = durable_sent mid new 0 text law law2 same send has.kept.durable;
      holds =
          subst (λ (contents : ℕ → List ℕ). Holds has.front (contents 0) has.groups gate) (sym same) has.kept.holds;
    };
    behind = has.behind;
    same = subst (λ (contents : ℕ → List ℕ). IsFrontOf bytes at (contents 0)) (sym same) has.same;
  }
