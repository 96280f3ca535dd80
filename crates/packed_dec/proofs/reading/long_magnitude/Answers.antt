use Rattle.std.proofs.Common.{◌≡◌, ◌-◌, ◌++◌, length, arith}
use Rattle.packed_dec.proofs.Digits.{no_front, no_back, joined, halved}
use Rattle.packed_dec.proofs.reading.long_magnitude.Goals as goal

pub returns-in_default-clause-exact : goal.returns-in_default-clause-exact
returns-in_default-clause-exact c =
    let front = c.split_at.result.0.now in
    let back = c.split_at.result.1.now in
    let whole : c.args.bytes.now ≡ front ++ back = halved (length c.args.bytes.now - 9) c.args.bytes.now front back
    c.split_at.ensures.front c.split_at.ensures.back in
    no_front c.args.bytes.now front back whole (omega (arith, c.split_at.ensures.back_len)) c.in_default.ensures.exact

pub returns-in_default-short_magnitude-clause-exact : goal.returns-in_default-short_magnitude-clause-exact
returns-in_default-short_magnitude-clause-exact c =
    let front = c.split_at.result.0.now in
    let back = c.split_at.result.1.now in
    let whole : c.args.bytes.now ≡ front ++ back = halved (length c.args.bytes.now - 9) c.args.bytes.now front back
    c.split_at.ensures.front c.split_at.ensures.back in
    no_back c.args.bytes.now front back whole (omega (arith, c.split_at.ensures.back_len))
    c.in_default-short_magnitude.ensures.exact

pub returns-clause-exact : goal.returns-clause-exact
returns-clause-exact c =
    let front = c.split_at.result.0.now in
    let back = c.split_at.result.1.now in
    let whole : c.args.bytes.now ≡ front ++ back = halved (length c.args.bytes.now - 9) c.args.bytes.now front back
    c.split_at.ensures.front c.split_at.ensures.back in
    let nine : length back ≡ 9 = omega (arith, c.split_at.ensures.back_len, c.requires.many) in
    rw (c.from.ensures, c.from-2.ensures) (joined c.args.bytes.now front back c.in-Some.high
    c.in-Some-short_magnitude.low whole nine c.in-Some.ensures.exact c.in-Some-short_magnitude.ensures.exact)

pub returns-clause-small : goal.returns-clause-small
returns-clause-small c = omega (
  arith,
  c.from.ensures,
  c.from-2.ensures,
  c.in-Some.ensures.small,
  c.in-Some-short_magnitude.ensures.small,
)
