use Rattle.std.proofs.Common.{length, ◌-◌, ◌∙◌, ap, take, drop, ◌++◌, ◌∷◌, []}
use Rattle.log_format.proofs.Fields.{length-be64}
use Rattle.log_groups.proofs.BufferParts.{ready, put_back}
use Rattle.log_groups.proofs.buffer.make_ready.Goals as goal

pub returns-clause-ready : goal.returns-clause-ready
returns-clause-ready c =
    let xs = c.args.buffer.now in
    let number = c.put_number.ensures in
    ready xs c.put_number.new.into c.args.start c.args.end c.requires.header c.requires.order c.requires.inside
    (ap length number ∙ length-be64 (c.args.end - c.args.start))
    ∙ ap (λ m. m ++ (take (c.args.end - c.args.start) (drop c.args.start xs) ++ 0 ∷ [])) number

pub returns-clause-rest : goal.returns-clause-rest
returns-clause-rest c = put_back c.args.buffer.now c.put_number.new.into c.args.start c.args.end c.requires.header
    c.requires.order c.requires.inside (ap length c.put_number.ensures ∙ length-be64 (c.args.end - c.args.start))
