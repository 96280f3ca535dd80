-- Ascending keys, one step at a time.
use Rattle.std.proofs.Common.{◌≡◌, ℕ, List, [], ◌∷◌, ◌&&◌, refl}
use Rattle.fp_model.specs.State.{ascend}
use Rattle.checkpoint_format.specs.inside.Order.{is_before}

pub ascending_step : (key : List ℕ) (more : List (List ℕ)) → ascend (key ∷ more) ≡ (is_before key more && ascend more)
ascending_step key [] = refl
ascending_step key (next ∷ more) = refl
