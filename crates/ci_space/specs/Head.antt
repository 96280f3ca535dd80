-- The numbers of an interval: those of its head, and the four of control. They are big-endian.
use Rattle.std.specs.Prelude.{◌≡◌, ◌≢◌, ℕ, List, [], ◌∷◌, slice_index}
use Rattle.byteorder.specs.Endian.{big_from}
use Rattle.ci_space.specs.declared.head.Head.{Head}

-- the head that the first 32 bytes are
abbrev pub head_of : List ℕ → Head
head_of bytes = record {
  kind = slice_index bytes 0;
  root = (big_from 4 8 bytes, big_from 12 2 bytes);
  link = big_from 16 8 bytes;
  owner = big_from 24 8 bytes;
}

-- a head that an interval of this kind may have: what its kind has no use for is 0
pub record IsHeadOf (kind : ℕ) (head : Head) : Type 0 where
  pub same : head.kind ≡ kind
  pub root : kind ≢ 2 → head.root ≡ (0, 0)
  pub link : kind ≢ 2 → kind ≢ 5 → head.link ≡ 0
  pub owner : kind ≢ 5 → head.owner ≡ 0

-- the four numbers of control
abbrev pub ends_of : List ℕ → List ℕ
ends_of bytes = big_from 32 8 bytes ∷ big_from 40 8 bytes ∷ big_from 48 8 bytes ∷ big_from 56 8 bytes ∷ []
