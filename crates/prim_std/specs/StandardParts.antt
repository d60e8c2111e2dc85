-- What a suite computes that joins a mechanism with the standard parts.
use Rattle.mix_base.specs.Suites.{KemScheme, SuiteMeaning}
use Rattle.prim_std.specs.Primitives.{hmac, hop_keys, chacha_byte, lioness_encrypted, lioness_decrypted}

-- this mechanism, with HMAC-SHA-256, HKDF-Expand for the label, ChaCha20 and LIONESS
abbrev pub standard_meaning : KemScheme → SuiteMeaning
standard_meaning kem = record {
  kem = kem;
  mac = hmac;
  hop_keys = hop_keys;
  stream = chacha_byte;
  encrypt = lioness_encrypted;
  decrypt = lioness_decrypted;
}
