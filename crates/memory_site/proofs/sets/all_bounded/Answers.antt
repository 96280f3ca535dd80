use Rattle.std.proofs.Common.{◌≡◌, inl, inr, length, ap, arith, ◌∙◌}
use Rattle.std.proofs.lemmas.Bool.{cases_lt}
use Rattle.memory_site.specs.Sets.{set_bytes}
use Rattle.memory_site.proofs.DataSets.{set_bytes_read, set_bytes_past}
use Rattle.memory_site.proofs.sets.all_bounded.Goals as goal

pub loop-bytes-preserved : goal.loop-bytes-preserved
loop-bytes-preserved c k lt =
    let i = c.loop-bytes.bytes-index in
    elim (cases_lt k i) [
      | inl below ↦ c.loop-bytes.invariant k below
      | inr above ↦
          let is : k ≡ i = omega arith in
          let bytes = ap (set_bytes c.args.sets.now) is ∙ set_bytes_read c.args.sets.now i c.bytes-item.result
          c.loop-bytes-test.true c.bytes-item.is in
          omega (arith, ap length bytes)
    ]

pub returns : goal.returns
returns c true_is k = elim (cases_lt k c.loop-bytes.bytes-index) [
  | inl below ↦ c.loop-bytes.invariant k below
  | inr above ↦ let bytes = set_bytes_past c.args.sets.now k (let t = c.loop-bytes-test.false in omega arith) in
      omega (arith, ap length bytes)
]
