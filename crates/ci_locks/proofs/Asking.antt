-- A request that is put and taken back.
use Rattle.std.proofs.Common.{refl, arith, ◌≡◌, ℕ, Bool, true, false, ◌==◌, Option, ap, sym, ◌∙◌}
use mathlib.Core.Path.{fun_ext}
use Rattle.std.specs.Prelude.{if◌then◌else◌}
use Rattle.fp_model.specs.declared.calls.Mode.{Mode}
use Rattle.fp_model.specs.declared.calls.Resource.{Resource}
use Rattle.fp_model.specs.Waiting.{Lock}
use Rattle.ci_locks.specs.Standing.{Standing}
use Rattle.ci_locks.specs.inside.Standing.{Asks, asking}

pub asking_is : (s t : Standing) (region : ℕ) (request : Option Lock) → Asks s t region request
    → t ≡ asking s region request
asking_is s t region request a =
    ap (λ n. record { regions = n; holds = t.holds; asks = t.asks }) a.regions
    ∙ ap (λ (h : ℕ → Resource → Option Mode). record { regions = s.regions; holds = h; asks = t.asks })
    (fun_ext (λ n. fun_ext (λ r. a.holds n r)))
    ∙ ap (λ (q : ℕ → Option Lock). record { regions = s.regions; holds = s.holds; asks = q }) (fun_ext (λ n. a.asks n))

again : (b : Bool) (x y z : Option Lock) → (if b then x else (if b then y else z)) ≡ (if b then x else z)
again true x y z = refl
again false x y z = refl

pub asking_again : (s : Standing) (region : ℕ) (first second : Option Lock)
    → asking (asking s region first) region second ≡ asking s region second
asking_again s region first second = ap (λ (q : ℕ → Option Lock). record
    { regions = s.regions; holds = s.holds; asks = q }) (fun_ext (λ n. again (n == region) second first (s.asks n)))

pub asking_back : (s : Standing) (region : ℕ) (old : Option Lock) → old ≡ s.asks region → asking s region old ≡ s
asking_back s region old e = ap (λ (q : ℕ → Option Lock). record { regions = s.regions; holds = s.holds; asks = q })
    (fun_ext (λ n. by n (n == region) refl))
  where
    by : (n : ℕ) (b : Bool) → (n == region) ≡ b → (if b then old else s.asks n) ≡ s.asks n
    by n true same = let h : n ≡ region = grind arith in e ∙ ap s.asks (sym h)
    by n false other = refl
