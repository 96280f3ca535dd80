use Rattle.std.proofs.Common.{◌≡◌, [], ◌∷◌, ◌++◌, codes, refl, ap, ◌∙◌, append_assoc}
use Rattle.fp_model.specs.Spellings.{be16, be32, be64}
use Rattle.fp_model.specs.LogText.{front_text, groups_text}
use Rattle.fp_rows.specs.Hex.{hex}
use Rattle.fp_rows.specs.Sample.{deposit}
use Rattle.byte_rows.proofs.bytes.the_log_after_a_deposit.Goals as goal

behind_front : groups_text ((deposit ∷ []) ∷ []) ++ 0 ∷ [] ≡ hex (codes
    "01 000000000000004b 0000000000000043 0000000000000000 00 0012 5431204445504f534954204130303120 3130 0003 4e4557 00000001 0000000000000000 00000001 01 00 04 41303031 0008 41303031 0000110c 00")
unfolding be16 be32 be64
behind_front = refl

pub returns : goal.returns
returns c = λ front. append_assoc (front_text 1 front) (groups_text ((deposit ∷ []) ∷ [])) (0 ∷ []) ∙ ap
    (λ rest. front_text 1 front ++ rest) behind_front
