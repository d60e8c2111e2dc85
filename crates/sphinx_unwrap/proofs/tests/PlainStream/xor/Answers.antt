use Rattle.std.proofs.Common.{◌≡◌, ℕ, ◌+◌, List, [], ◌∷◌, refl, ap}
use Rattle.std.specs.Int.Bits.{xor_zero_r}
use Rattle.mix_base.specs.ByteLists.{xor_stream}
use Rattle.sphinx_unwrap.proofs.tests.PlainStream.xor.Goals as goal

-- a stream of zeros changes nothing
still : (bytes : List ℕ) (place : ℕ) → bytes ≡ xor_stream (λ _. 0) place bytes
still [] place = refl
still (byte ∷ bytes) place = rw (xor_zero_r byte) (ap (λ rest. byte ∷ rest) (still bytes (place + 1)))

pub returns : goal.returns
returns c = still c.args._buf.now 0
