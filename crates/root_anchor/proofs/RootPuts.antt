-- A root anchor point that is put.
use Rattle.std.proofs.Common.{◌≡◌, ℕ, List, length, refl, sym, ap, ◌∙◌}
use Rattle.ci_space.specs.declared.intervals.Shape.{Shape}
use Rattle.ci_space.specs.declared.head.Head.{Head}
use Rattle.ci_space.specs.Element.{Element}
use Rattle.ci_space.specs.Interval.{IsInterval, Tiles}
use Rattle.ci_space.specs.Head.{head_of}
use Rattle.ci_overflow.specs.Lists.{bytes_at}
use Rattle.ci_overflow.specs.Places.{base_of}
use Rattle.ci_overflow.specs.Rooms.{IsPut}
use Rattle.ci_overflow.proofs.Joins.{tiles-used, tiles-interval}
use Rattle.anchor_elements.specs.Elements.{Pointer}
use Rattle.anchor_elements.proofs.ElementLemmas.{put_itself}
use Rattle.root_anchor.specs.inside.Puts.{PutsRoot}

pub puts_root : (shape : Shape) (old middle new : List (List ℕ)) (was now : List ℕ) (anchor : ℕ) (at : Pointer)
    (base : ℕ) (head : Head) → base ≡ base_of shape anchor → middle ≡ old → was ≡ bytes_at old base
    → IsPut middle new base now
    → IsInterval was → head ≡ head_of was → head_of now ≡ (record head { root = at })
    → ((elements : List Element) → Tiles was elements → Tiles now elements) → PutsRoot shape old new anchor at
puts_root shape old middle new was now anchor at base head b m w p i h g f =
    let here : bytes_at new (base_of shape anchor) ≡ now = ap (bytes_at new) (sym b) ∙ p.here in
    let v : was ≡ bytes_at old (base_of shape anchor) = w ∙ ap (bytes_at old) b in
    record {
      head = ap head_of here ∙ g ∙ ap (λ (x : Head). (let y : Head = record x { root = at } in y)) (h ∙ ap head_of v);
      used = rw (here, ← v) (tiles-used was now i f);
      is_interval = rw here (tiles-interval was now i f);
      elsewhere = λ ci n. p.others ci (λ e. n (e ∙ b)) ∙ ap (λ (xs : List (List ℕ)). bytes_at xs ci) m;
      same_number = p.same_number ∙ ap length m;
    }

pub stays_root : (shape : Shape) (old middle : List (List ℕ)) (was : List ℕ) (anchor : ℕ) (at : Pointer) (base : ℕ)
    (head : Head) → base ≡ base_of shape anchor → middle ≡ old → was ≡ bytes_at old base
    → IsInterval was → head ≡ head_of was → head.root ≡ at → PutsRoot shape old middle anchor at
stays_root shape old middle was anchor at base head b m w i h r =
    puts_root shape old middle middle was was anchor at base head b m w (put_itself old middle was was base m w refl) i
    h
    (sym h ∙ ap (λ (x : Pointer). (let y : Head = record head { root = x } in y)) r) (λ elements t. t)
