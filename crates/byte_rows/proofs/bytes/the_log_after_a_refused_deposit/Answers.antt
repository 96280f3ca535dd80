use Rattle.std.proofs.Common.{◌≡◌, [], ◌∷◌, ◌++◌, codes, refl, ap, ◌∙◌, append_assoc}
use Rattle.fp_model.specs.Spellings.{be16, be32, be64}
use Rattle.fp_model.specs.LogText.{front_text, groups_text}
use Rattle.fp_rows.specs.Hex.{hex}
use Rattle.fp_rows.specs.Sample.{refusal}
use Rattle.byte_rows.proofs.bytes.the_log_after_a_refused_deposit.Goals as goal

behind_front : groups_text ((refusal ∷ []) ∷ []) ++ 0 ∷ [] ≡ hex (codes
    "01 0000000000000039 0000000000000031 0000000000000000 02 0001 0012 5431204445504f5349542041303039203130 0000 00000001 0000000000000000 00000000 00")
unfolding be16 be32 be64
behind_front = refl

pub returns : goal.returns
returns c = λ front. append_assoc (front_text 1 front) (groups_text ((refusal ∷ []) ∷ [])) (0 ∷ []) ∙ ap
    (λ rest. front_text 1 front ++ rest) behind_front
