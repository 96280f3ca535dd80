use Rattle.std.proofs.Common.{refl, arith, rules}
use Rattle.log_format.proofs.Fields.{from_places}
use Rattle.log_format.proofs.Loop.{bad_is_other}
use Rattle.log_format.proofs.Bodies.{goes, bad, not_bad, some_bytes, all_read}
use Rattle.log_format.proofs.reading.entries.Goals as goal

pub loop-rest-init : goal.loop-rest-init
loop-rest-init c = record {
  bytes = from_places 256 c.args.bytes.now (λ i. omega (arith, c.type_inv.bytes i));
  read = search rules;
  parts = search rules;
}

-- each entry has bytes
pub loop-rest-smaller : goal.loop-rest-smaller
loop-rest-smaller c = (goes c.args.bytes.now c.loop-rest.found c.loop-rest.rest.now c.in-Ok.after.now c.in-Ok.e
    c.loop-rest.invariant.bytes c.loop-rest.invariant.read c.loop-rest.invariant.parts c.in-Ok.ensures).less

-- one more entry
pub loop-rest-preserved : goal.loop-rest-preserved
loop-rest-preserved c =
    let g = goes c.args.bytes.now c.loop-rest.found c.loop-rest.rest.now c.in-Ok.after.now c.in-Ok.e
    c.loop-rest.invariant.bytes c.loop-rest.invariant.read c.loop-rest.invariant.parts c.in-Ok.ensures in
    rw c.in_ok-push-in-Ok.ensures.ok (record { bytes = g.bytes; read = g.read; parts = g.parts })

-- where no entry begins
pub returns-in-Err-Bad-clause-cause : goal.returns-in-Err-Bad-clause-cause
returns-in-Err-Bad-clause-cause c =
    bad c.args.bytes.now c.loop-rest.found c.loop-rest.rest.now _
    c.loop-rest.invariant.read c.loop-rest.invariant.parts
    ((rw c.in-Err-Bad.field-0-is at c.in-Err-Bad.ensures) bad_is_other)
    (some_bytes c.loop-rest.rest.now (search rules)) refl

pub returns-in-Err-Bad-clause-only : goal.returns-in-Err-Bad-clause-only
returns-in-Err-Bad-clause-only c es is =
    not_bad c.args.bytes.now _ es (bad c.args.bytes.now c.loop-rest.found c.loop-rest.rest.now _
    c.loop-rest.invariant.read c.loop-rest.invariant.parts
    ((rw c.in-Err-Bad.field-0-is at c.in-Err-Bad.ensures) bad_is_other)
    (some_bytes c.loop-rest.rest.now (search rules)) refl) is

-- at the end
pub returns-clause-only : goal.returns-clause-only
returns-clause-only c es is = all_read c.args.bytes.now c.loop-rest.found es c.loop-rest.rest.now
    c.loop-rest.invariant.read c.loop-rest.invariant.parts (search rules) is
