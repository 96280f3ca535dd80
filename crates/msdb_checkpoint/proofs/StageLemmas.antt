-- What a gated write leaves, as a checkpoint that is old, closed or whole.
use Rattle.std.proofs.Common.{◌≡◌, inl, inr, ℕ, ◌+◌, ◌-◌, ◌<◌, ◌≤◌, List, ◌∷◌, ◌++◌, length, max, min, take, drop, Option, Some, sym, ◌∙◌, ap, subst, arith}
use Rattle.std.specs.Prelude.{slice_index}
use Rattle.std.proofs.lemmas.Bool.{cases_eq, cases_lt}
use Rattle.std.proofs.lemmas.List.{drop-take, take-append-drop, take-take, take_all, length-append, length-drop, length-take}
use Rattle.fp_site.specs.Disk.{Disk, Settles, written}
use Rattle.fp_site.specs.Written.{length-written}
use Rattle.gated_write.specs.Gates.{IsClosed, IsOpened, IsShut, IsStaged, IsUnopened, IsWriting}
use Rattle.gated_write.proofs.Bodies.{begins}
use Rattle.fp_site.specs.Moments.{Through}
use Rattle.msdb_checkpoint.specs.Steps.{GoesFrom, GoesOn, IsAt, IsOldClosedOrWhole, IsSure, IsUnderWay, MayGo, StandsOn, Turn, other_set}
use Rattle.msdb_checkpoint.specs.declared.stages.UnderWay.{UnderWay}
use Rattle.msdb_checkpoint.specs.declared.stages.Stage.{Stage}
use Rattle.msdb_checkpoint.specs.declared.stages.Stage.TheVariants.{Begun, Written, Synced}
use Rattle.std.proofs.lemmas.Option.{same_Some}

-- where the gate was closed it stays so until it is opened
pub closed_unopened : (old image : List ℕ) → IsClosed 0 old → IsUnopened old 0 image → IsClosed 0 image
closed_unopened old image closed un = record {
  stands = un.stands;
  byte = λ one. closed.byte (sym un.byte ∙ one);
}

pub unopened_is : (start : Disk) (set : ℕ) (body old image : List ℕ) → IsClosed 0 old → IsUnopened old 0 image
    → IsOldClosedOrWhole start set body image
unopened_is start set body old image closed un = inr (inl (closed_unopened old image closed un))

-- and from then on the checkpoint is whole behind it
pub staged_is : (start : Disk) (set : ℕ) (body old image : List ℕ) → IsStaged old 0 body image
    → IsOldClosedOrWhole start set body image
staged_is start set body old image staged = elim (cases_eq staged.first 1) [
  | inl one ↦ inr (inr (staged.rest, staged.behind ∙ ap (λ b. b ∷ (body ++ staged.rest)) one))
  | inr ne ↦ inr (inl (record {
    stands = omega (arith, ap length staged.behind);
    byte = λ one. ne (sym (ap (λ l. slice_index l 0) staged.behind) ∙ one);
  }))
]

-- the gate was closed, and nothing is written
pub shut_begins : (set : ℕ) (body : List ℕ) (disk : Disk) → IsShut set 0 disk → IsAt body set disk (Written 0)
shut_begins set body disk shut = (
  disk.contents set,
  shut.closed,
  omega arith,
  begins set 0 disk shut.durable shut.closed.stands,
)

-- a body up to one place, and on to another
pub up_to : (body : List ℕ) (count end : ℕ) → count ≤ end
    → take end body ≡ take count body ++ take (end - count) (drop count body)
up_to body count end le =
    let is : end ≡ count + (end - count) = omega (arith, le) in
    sym (take-append-drop count (take end body))
    ∙ ap (λ l. l ++ drop count (take end body)) (take-take count end body le)
    ∙ ap (λ n. take count body ++ drop count (take n body)) is
    ∙ ap (λ l. take count body ++ l) (drop-take count (end - count) body)

-- a piece ends where the body ends, or 65,536 bytes behind its beginning
pub piece_is : (body : List ℕ) (count end : ℕ) → count ≤ length body → end ≡ min (length body) (count + 65536)
    → take (end - count) (drop count body) ≡ take 65536 (drop count body)
piece_is body count end le is = elim (cases_lt (length body) (count + 65536)) [
  | inl short ↦ take_all (end - count) (drop count body) (omega (arith, length-drop count body, le, is, short))
      ∙ sym (take_all 65536 (drop count body) (omega (arith, length-drop count body, le, short)))
  | inr fits ↦ let all : end - count ≡ 65536 = omega (arith, fits, is) in ap (λ n. take n (drop count body)) all
]

-- all of it is written
pub whole_body : (old body : List ℕ) (set : ℕ) (disk : Disk) (count : ℕ) → length body ≤ count
    → IsWriting old 0 (take count body) set disk → IsWriting old 0 body set disk
whole_body old body set disk count le writing = subst (λ b. IsWriting old 0 b set disk) (take_all count body le) writing

pub sure_now : (old body : List ℕ) (set : ℕ) (disk : Disk) → IsOpened old 0 body set disk → IsSure body set disk
sure_now old body set disk opened = record { durable = opened.durable; rest = opened.rest; is = opened.behind }

-- closing the gate lengthens by no more than the gate
pub shut_within : (body old new : List ℕ) → 0 < length new → drop 1 new ≡ drop 1 old
    → length new ≤ max (length old) (1 + length body)
shut_within body old new stands rest =
    omega (arith, stands, ap length rest, length-drop 1 new, length-drop 1 old)

-- and so does a write up to the end of the body
pub written_within : (body old new bytes : List ℕ) (at : ℕ) → at + length bytes ≤ 1 + length body
    → new ≡ written old at bytes → length new ≤ max (length old) (1 + length body)
written_within body old new bytes at le is =
    let wrote = (length-written old at bytes).1 in omega (arith, le, ap length is, wrote)

-- ---- in turn

-- what is under way stands at its stage
pub stands_at : (set number : ℕ) (o : Option UnderWay) (turn : Turn) (disk : Disk) (w : UnderWay)
    → record { set = set; number = number; under_way = o } ≡ turn → o ≡ Some w → StandsOn turn disk
    → IsAt w.body (other_set set) disk w.stage
stands_at set number o turn disk w view is stands = subst (λ p. IsUnderWay (other_set set) disk p) is
    (subst (λ t. StandsOn t disk) (sym view) stands)

-- or may be taken on from there
pub goes_at : (set number : ℕ) (o : Option UnderWay) (turn : Turn) (disk : Disk) (w : UnderWay)
    → record { set = set; number = number; under_way = o } ≡ turn → o ≡ Some w → GoesOn turn disk
    → GoesFrom w.body (other_set set) disk w.stage
goes_at set number o turn disk w view is goes = subst (λ p. MayGo (other_set set) disk p) is
    (subst (λ t. GoesOn t disk) (sym view) goes)

-- and is the same by the view and by the fields
pub same_body : (set number : ℕ) (o : Option UnderWay) (turn : Turn) (u w : UnderWay)
    → record { set = set; number = number; under_way = o } ≡ turn → o ≡ Some w → turn.under_way ≡ Some u
    → w.body ≡ u.body
same_body set number o turn u w view is was =
    ap (λ (v : UnderWay). v.body) (same_Some w u (sym is ∙ ap (λ (t : Turn). t.under_way) view ∙ was))

pub moved : (d new : Disk) (set turned : ℕ) (body given : List ℕ) → set ≡ turned → body ≡ given
    → Through d new (λ s. IsOldClosedOrWhole d (other_set set) body (s.images (other_set set)))
    → Through d new (λ s. IsOldClosedOrWhole d (other_set turned) given (s.images (other_set turned)))
moved d new set turned body given of_set of_body run =
    subst (λ k. Through d new (λ s. IsOldClosedOrWhole d (other_set k) given (s.images (other_set k)))) of_set
    (subst (λ b. Through d new (λ s. IsOldClosedOrWhole d (other_set set) b (s.images (other_set set)))) of_body run)

pub moved_image : (d : Disk) (set turned : ℕ) (body given image : List ℕ) → set ≡ turned → body ≡ given
    → IsOldClosedOrWhole d (other_set set) body image → IsOldClosedOrWhole d (other_set turned) given image
moved_image d set turned body given image of_set of_body is =
    subst (λ k. IsOldClosedOrWhole d (other_set k) given image) of_set
    (subst (λ b. IsOldClosedOrWhole d (other_set set) b image) of_body is)

-- the same, of the body as a slice
pub at_slice : (w : UnderWay) (body : List ℕ) (set : ℕ) (disk : Disk) → body ≡ w.body → IsAt w.body set disk w.stage
    → IsAt body set disk w.stage
at_slice w body set disk is at = subst (λ b. IsAt b set disk w.stage) (sym is) at

pub goes_slice : (w : UnderWay) (body : List ℕ) (set : ℕ) (disk : Disk) → body ≡ w.body
    → GoesFrom w.body set disk w.stage → GoesFrom body set disk w.stage
goes_slice w body set disk is goes = subst (λ b. GoesFrom b set disk w.stage) (sym is) goes

-- where it stands at a stage the next step may be taken
pub may_go : (body : List ℕ) (set : ℕ) (disk : Disk) (stage : Stage) → IsAt body set disk stage
    → GoesFrom body set disk stage
may_go body set disk Begun at = tt
may_go body set disk (Written count) at = at
may_go body set disk Synced at = at

-- at each stage the data set has a byte
behind_some : (old body rest c : List ℕ) → 0 < length old → c ≡ take 1 old ++ (body ++ rest) → 0 < length c
behind_some old body rest c some is =
    omega (arith, some, ap length is, length-append (take 1 old) (body ++ rest), length-take 1 old)

pub at_some : (body : List ℕ) (set : ℕ) (disk : Disk) (stage : Stage) → IsAt body set disk stage
    → 0 < length (disk.contents set)
at_some body set disk Begun at = at
at_some body set disk (Written count) at = behind_some at.0 (take count body) at.3.rest _ at.3.stands at.3.is
at_some body set disk Synced at = behind_some at.0 body at.2.rest _ at.2.stands at.2.is

-- one step and then others
pub and_then : (d mid : Disk) (set : ℕ) (body image : List ℕ)
    → ((i : List ℕ) → Settles mid set i → IsOldClosedOrWhole d set body i) → IsOldClosedOrWhole mid set body image
    → IsOldClosedOrWhole d set body image
and_then d mid set body image before (inl settles) = before image settles
and_then d mid set body image before (inr other) = inr other
