-- Words of private functions alone: what is known of a hop that was sealed, by the types of its parts.
use Rattle.std.specs.Prelude.{◌≡◌, ◌≤◌, ℕ, length, IfSome}
use Rattle.packet_form.specs.Commands.{longest_delay}
use Rattle.sphinx_make.specs.declared.path.SealedHop.{SealedHop}

-- a ciphertext of the mechanism's length, and an id and a MAC key of 32 bytes
pub record HasKeyLengths (ciphertext_length : ℕ) (hop : SealedHop) : Type 0 where
  pub ciphertext : length hop.ciphertext ≡ ciphertext_length
  pub id : length hop.id ≡ 32
  pub mac_key : length hop.keys.mac ≡ 32

-- its delay is allowed
abbrev pub IsOnTime : SealedHop → Type 0
IsOnTime hop = IfSome hop.delay (λ delay. delay ≤ longest_delay)
