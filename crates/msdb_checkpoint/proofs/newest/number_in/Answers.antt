use Rattle.std.proofs.Common.{◌≡◌, ◌∙◌, inr, ap, sym, get_or, take, drop, None, List, ℕ}
use Rattle.checkpoint_format.specs.Reading.{head_at}
use Rattle.log_format.proofs.Loop.{bad_is_other}
use Rattle.msdb_checkpoint.proofs.Heads.{behind_gate, gate_is}
use Rattle.msdb_checkpoint.proofs.newest.number_in.Goals as goal

pub returns-in-Ok-clause-some : goal.returns-in-Ok-clause-some
returns-in-Ok-clause-some g c t =
    let bytes = (g.S.Site.disk c.args.site.now).contents c.args.set in
    let front = c.in_ok-bytes.ensures.bytes t in
    record {
      gate = sym (gate_is bytes) ∙ ap (λ l. get_or l 0 0) (sym front) ∙ c.if-bytes-ne1.false;
      long = c.in_ok-bytes.ensures.whole t c.if-not-is_whole.false;
      format = c.in-Ok.field-0-0-0;
      rest = c.in-Ok.field-0-1.now;
      head = ap head_at (sym (behind_gate bytes) ∙ ap (λ (l : List ℕ). take 16 (drop 1 l)) (sym front))
          ∙ c.in-Ok.ensures.value;
    }

pub returns-in-Err-Bad-clause-damaged : goal.returns-in-Err-Bad-clause-damaged
returns-in-Err-Bad-clause-damaged g c place t is =
    let bytes = (g.S.Site.disk c.args.site.now).contents c.args.set in
    let front = c.in_ok-bytes.ensures.bytes t in
    let bad : head_at (take 16 (drop 1 c.in_ok-bytes.bytes)) ≡ None =
    (rw c.in-Err-Bad.field-0-is at c.in-Err-Bad.ensures.value) bad_is_other in (
      cc,
      record {
        gate = sym (gate_is bytes) ∙ ap (λ l. get_or l 0 0) (sym front) ∙ c.if-bytes-ne1.false;
        bad = inr (ap head_at (sym (behind_gate bytes) ∙ ap (λ (l : List ℕ). take 16 (drop 1 l)) (sym front)) ∙ bad);
      },
    )
