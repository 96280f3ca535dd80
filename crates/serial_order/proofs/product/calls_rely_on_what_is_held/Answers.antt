use Rattle.serial_order.proofs.Covers.{replies_covered, fresh_covered}
use Rattle.serial_order.proofs.Forms.{asks_form}
use Rattle.serial_order.proofs.product.calls_rely_on_what_is_held.Goals as goal

pub returns : goal.returns
returns c = record {
  begins = fresh_covered;
  goes_on = λ defs db shown own held asked fair need covered. replies_covered defs held db shown own asked fair need
      covered;
  whole = asks_form;
}
