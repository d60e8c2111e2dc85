-- What an HMAC that is fed in pieces holds.
use Rattle.std.specs.Prelude.{ℕ, List, ◌++◌}
use Rattle.sha2.specs.Hashers.{Holds256}
use Rattle.prim_std.specs.Primitives.{masked_key}
use Rattle.prim_std.specs.declared.hashing.Hmac.{Hmac}

-- it holds the message under the key
pub record Holds (code : Hmac) (key message : List ℕ) : Type 0 where
  pub inner : Holds256 code.inner (masked_key key 0x36 ++ message)
  pub outer : Holds256 code.outer (masked_key key 0x5c)
