-- Elements that give way to others, one exchange after another.
use Rattle.std.proofs.Common.{ℕ, ◌⊎◌, inl, inr, List, ◌++◌, Contains, ◌∙◌}
use Rattle.std.proofs.lemmas.List.Elements.{Contains-append_left, Contains-append_right, Contains-append_cases}
use Rattle.ci_space.specs.declared.intervals.Shape.{Shape}
use Rattle.ci_space.specs.Interval.{HasUsed, IsUsed}
use Rattle.ci_overflow.specs.Lists.{bytes_at}
use Rattle.ci_overflow.specs.Rooms.{KeepsKinds}
use Rattle.anchor_elements.specs.Elements.{Pointer}
use Rattle.root_anchor.specs.Stored.{KeepsSequential}
use Rattle.root_anchor.specs.inside.Rebuilding.{Exchanges}
use Rattle.root_anchor.proofs.Apart.{holds_or, apart-both}

pub sequential-joined : (shape : Shape) (a b c : List (List ℕ)) → KeepsSequential shape a b → KeepsSequential shape b c
    → KeepsSequential shape a c
sequential-joined shape a b c p q = record {
  ends = record {
    begin = q.ends.begin ∙ p.ends.begin;
    end = q.ends.end ∙ p.ends.end;
    head = λ k x y. q.ends.head k x y ∙ p.ends.head k x y;
  };
  intervals = λ ci k. q.intervals ci k ∙ p.intervals ci k;
}

pub kinds-joined : (a b c : List (List ℕ)) → KeepsKinds a b → KeepsKinds b c → KeepsKinds a c
kinds-joined a b c p q ci i = let x = p ci i in let y = q ci x.0 in (y.0, y.1 ∙ x.1)

pub used-stays : (old new : List ℕ) (at : ℕ) → ((type : ℕ) (content : List ℕ) → HasUsed old at type content → HasUsed
    new at type content) → IsUsed old at → IsUsed new at
used-stays old new at f u = record { segment = u.segment; content = u.content; used = f u.segment u.content u.used }

-- an exchange of some elements, and then one of others
pub exchange-both : (shape : Shape) (a b c : List (List ℕ)) (had has more now : List Pointer)
    → Exchanges shape a b had has → Exchanges shape b c more now
    → ((at : Pointer) → Contains more at → IsUsed (bytes_at a at.0) at.1)
    → ((at : Pointer) → Contains more at → ¬ Contains had at)
    → Exchanges shape a c (more ++ had) (now ++ has)
exchange-both shape a b c had has more now e f u d =
    let own : (at : Pointer) → Contains has at → ¬ Contains more at =
    λ at h m. elim (e.fresh at h) as (λ _. ⊥) [ inl x ↦ d at m x | inr x ↦ x (u at m) ] in
    let at_b : (at : Pointer) → ¬ Contains had at → IsUsed (bytes_at a at.0) at.1 → IsUsed (bytes_at b at.0) at.1 =
    λ at n x. used-stays (bytes_at a at.0) (bytes_at b at.0) at.1 (λ type content. e.stay at type content n) x
    in
    record {
      stay = λ at type content n h.
          f.stay at type content (λ m. n (Contains-append_left more had at m))
          (e.stay at type content (λ m. n (Contains-append_right more had at m)) h);
      none_comes = λ at type content n h.
          let x = f.none_comes at type content (λ m. n (Contains-append_left now has at m)) h in
          let y = e.none_comes at type content (λ m. n (Contains-append_right now has at m)) x.1 in
          ((λ m. elim (Contains-append_cases more had at m) as (λ _. ⊥) [ inl k ↦ x.0 k | inr k ↦ y.0 k ]), y.1);
      fresh = λ at m. elim (Contains-append_cases now has at m) as
          (λ _. Contains (more ++ had) at ⊎ (¬ IsUsed (bytes_at a at.0) at.1)) [
            | inl k ↦ elim (f.fresh at k) as (λ _. Contains (more ++ had) at ⊎ (¬ IsUsed (bytes_at a at.0) at.1)) [
              | inl x ↦ inl (Contains-append_left more had at x)
              | inr x ↦ elim (holds_or had at) as (λ _. Contains (more ++ had) at ⊎ (¬ IsUsed (bytes_at a at.0) at.1)) [
                | inl y ↦ inl (Contains-append_right more had at y)
                | inr y ↦ inr (λ z. x (at_b at y z))
              ]
            ]
            | inr k ↦ elim (e.fresh at k) as (λ _. Contains (more ++ had) at ⊎ (¬ IsUsed (bytes_at a at.0) at.1)) [
              | inl x ↦ inl (Contains-append_right more had at x)
              | inr x ↦ inr x
            ]
          ];
      used = λ at m. elim (Contains-append_cases now has at m) as (λ _. IsUsed (bytes_at c at.0) at.1) [
        | inl k ↦ f.used at k
        | inr k ↦ used-stays (bytes_at b at.0) (bytes_at c at.0) at.1
            (λ type content. f.stay at type content (own at k)) (e.used at k)
      ];
      once = apart-both now has f.once e.once (λ at k m. elim (f.fresh at k) as (λ _. ⊥)
          [ inl x ↦ own at m x | inr x ↦ x (e.used at m) ]);
      roots = λ ci. f.roots ci ∙ e.roots ci;
      kinds = kinds-joined a b c e.kinds f.kinds;
      in_order = λ o. f.in_order (e.in_order o);
      sequential = λ o. sequential-joined shape a b c (e.sequential o) (f.sequential (e.in_order o));
    }

-- an exchange, and then one of what came
pub exchange-again : (shape : Shape) (a b c : List (List ℕ)) (had between has : List Pointer)
    → Exchanges shape a b had between → Exchanges shape b c between has → Exchanges shape a c had has
exchange-again shape a b c had between has e f =
    let at_b : (at : Pointer) → ¬ Contains had at → IsUsed (bytes_at a at.0) at.1 → IsUsed (bytes_at b at.0) at.1 =
    λ at n x. used-stays (bytes_at a at.0) (bytes_at b at.0) at.1 (λ type content. e.stay at type content n) x
    in
    record {
      stay = λ at type content n h.
          f.stay at type content (λ m. elim (e.fresh at m) as (λ _. ⊥)
          [ inl x ↦ n x | inr x ↦ x (record { segment = type; content = content; used = h }) ])
          (e.stay at type content n h);
      none_comes = λ at type content n h.
          let x = f.none_comes at type content n h in
          e.none_comes at type content x.0 x.1;
      fresh = λ at m. elim (f.fresh at m) as (λ _. Contains had at ⊎ (¬ IsUsed (bytes_at a at.0) at.1)) [
        | inl k ↦ e.fresh at k
        | inr k ↦ elim (holds_or had at) as (λ _. Contains had at ⊎ (¬ IsUsed (bytes_at a at.0) at.1)) [
          | inl y ↦ inl y
          | inr y ↦ inr (λ z. k (at_b at y z))
        ]
      ];
      used = f.used;
      once = f.once;
      roots = λ ci. f.roots ci ∙ e.roots ci;
      kinds = kinds-joined a b c e.kinds f.kinds;
      in_order = λ o. f.in_order (e.in_order o);
      sequential = λ o. sequential-joined shape a b c (e.sequential o) (f.sequential (e.in_order o));
    }
