use Rattle.serial_order.proofs.Replies.{replies_alike}
use Rattle.serial_order.proofs.product.calls_look_at_what_is_held.Goals as goal

pub returns : goal.returns
returns c = λ defs db db2 shown shown2 own held asked need same looks. replies_alike defs held own db db2 shown shown2
    asked same need looks
