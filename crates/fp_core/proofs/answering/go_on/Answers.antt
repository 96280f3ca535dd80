use Rattle.std.proofs.Common.{◌≡◌, sym, subst}
use Rattle.fp_model.specs.Asking.{Replies, Rolls}
use Rattle.fp_model.specs.Product.{rules_of}
use Rattle.fp_model.specs.Settle.{resources}
use Rattle.fp_model.specs.Turns.{asks}
use Rattle.fp_core.specs.Relation.{IsAhead}
use Rattle.fp_core.proofs.answering.go_on.Goals as goal
use Rattle.plain_laws.proofs.Results.{on_err_by}
use Rattle.fp_core.specs.declared.engine.Active.{Active}
use Rattle.fp_core.specs.Relation.{IsTransaction}

pub take_call-requires-clause-under : goal.take_call-requires-clause-under
take_call-requires-clause-under g c =
    let u = c.requires.under in (
      c.args.scripts.now.scripts,
      (
        u.0,
        record {
          setup = c.requires.setup;
          is = c.look_ahead.ensures.same u.0 u.1;
          ahead = subst (IsAhead c.args.defs.now c.args.scripts.now.scripts c.look_ahead.new.active.program u.0)
              c.in-Call.is (c.in_ok-ahead.ensures.is u.0 u.1);
          taken = c.look_ahead.ensures.taken;
        },
      ),
    )

pub returns-in-Call-clause-acted : goal.returns-in-Call-clause-acted
returns-in-Call-clause-acted g c now t e s =
    c.take_call.ensures.acted c.args.scripts.now.scripts now t e (record {
      setup = c.requires.setup;
      is = c.look_ahead.ensures.same t s;
      ahead = subst (IsAhead c.args.defs.now c.args.scripts.now.scripts c.look_ahead.new.active.program t) c.in-Call.is
          (c.in_ok-ahead.ensures.is t s);
      taken = c.look_ahead.ensures.taken;
    })

pub returns-in-Call-clause-err : goal.returns-in-Call-clause-err
returns-in-Call-clause-err g c t s =
    c.take_call.ensures.err c.args.scripts.now.scripts t (c.look_ahead.ensures.same t s)

pub returns-in-Reply-clause-acted : goal.returns-in-Reply-clause-acted
returns-in-Reply-clause-acted g c now t e s =
    let defs = c.args.defs.now in
    let scripts = c.args.scripts.now.scripts in
    let is : (asks (rules_of defs scripts) t ≡ Replies c.in-Reply.text)
    × (c.in-Reply.segments ≡ resources t.point.own.deferred) =
    subst (IsAhead defs scripts c.look_ahead.new.active.program t) c.in-Reply.is (c.in_ok-ahead.ensures.is t s) in
    c.take_reply.ensures.acted defs scripts now c.args.count t
    (record { is = c.look_ahead.ensures.same t s; asked = is.0; needs = is.1 })

pub returns-in-Reply-clause-err : goal.returns-in-Reply-clause-err
returns-in-Reply-clause-err g c t s =
    on_err_by (c.take_reply.new.active ≡ c.look_ahead.new.active)
    (IsTransaction c.args.defs.now c.args.scripts.now.scripts c.take_reply.new.active t) c.take_reply.result
    (λ same. subst (λ (a : Active). IsTransaction c.args.defs.now c.args.scripts.now.scripts a t) (sym same)
    (c.look_ahead.ensures.same t s)) c.take_reply.ensures.err

pub returns-in-Roll-clause-acted : goal.returns-in-Roll-clause-acted
returns-in-Roll-clause-acted g c now t e s =
    let defs = c.args.defs.now in
    let scripts = c.args.scripts.now.scripts in
    let one = c.look_ahead.new.active in
    let is : asks (rules_of defs scripts) t ≡ Rolls c.in-Roll.code =
    subst (IsAhead defs scripts one.program t) c.in-Roll.is (c.in_ok-ahead.ensures.is t s) in
    record { asked = is; is = c.look_ahead.ensures.same t s }
