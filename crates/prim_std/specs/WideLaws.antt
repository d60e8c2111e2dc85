-- The laws of the wide block cipher: each round undoes itself, so the rounds in reverse order undo the rounds; and each
-- round keeps the lengths of both parts.
use Rattle.std.specs.Prelude.{◌≡◌, ℕ, ◌+◌, ◌<◌, List, length}
use Rattle.std.proofs.Common.{refl, ap, sym, ◌∙◌, arith}
use Rattle.std.proofs.lemmas.List.{take-append-drop, take_at, drop_at, length-take-le, length-append}
use Rattle.mix_base.specs.ByteLists.{xor, xor_stream}
use Rattle.prim_std.specs.Primitives.{hmac, chacha_byte, halves, joined, stream_round, hash_round, key_1, key_2, key_3, key_4, lioness_encrypted, lioness_decrypted}
use Rattle.mix_base.specs.XorLaws.{xor-xor, length-xor, length-xor_stream, xor_stream-xor_stream}

pub stream_round-stream_round : (key : List ℕ) (parts : List ℕ × List ℕ) → stream_round key (stream_round key parts) ≡ parts
unfolding stream_round
stream_round-stream_round key parts = rw (xor_stream-xor_stream (chacha_byte (xor parts.0 key)) 0 parts.1) refl

pub hash_round-hash_round : (key : List ℕ) (parts : List ℕ × List ℕ) → hash_round key (hash_round key parts) ≡ parts
unfolding hash_round
hash_round-hash_round key parts = rw (xor-xor parts.0 (hmac key parts.1)) refl

-- a round keeps the length of the left part
pub stream_round-left : (key : List ℕ) (parts : List ℕ × List ℕ) → length (stream_round key parts).0 ≡ length parts.0
unfolding stream_round
stream_round-left key parts = refl

pub hash_round-left : (key : List ℕ) (parts : List ℕ × List ℕ) → length (hash_round key parts).0 ≡ length parts.0
unfolding hash_round
hash_round-left key parts = length-xor parts.0 (hmac key parts.1)

pub halves-joined : (parts : List ℕ × List ℕ) → length parts.0 ≡ 32 → halves (joined parts) ≡ parts
halves-joined parts long = rw (take_at parts.0 parts.1 32 long, drop_at parts.0 parts.1 32 long) refl

pub joined-halves : (block : List ℕ) → joined (halves block) ≡ block
joined-halves block = take-append-drop 32 block

pub halves-left : (block : List ℕ) → 32 < length block → length (halves block).0 ≡ 32
halves-left block long = length-take-le 32 block (omega arith)

pub lioness-decrypts : (key block : List ℕ) → 32 < length block → lioness_decrypted key (lioness_encrypted key block) ≡ block
unfolding lioness_encrypted lioness_decrypted
lioness-decrypts key block long =
    let parts = halves block in
    let one = stream_round (key_1 key) parts in
    let two = hash_round (key_2 key) one in
    let three = stream_round (key_3 key) two in
    let four = hash_round (key_4 key) three in
    let left : length four.0 ≡ 32 =
    hash_round-left (key_4 key) three ∙ stream_round-left (key_3 key) two ∙ hash_round-left (key_2 key) one
    ∙ stream_round-left (key_1 key) parts ∙ halves-left block long in
    rw (
      halves-joined four left,
      hash_round-hash_round (key_4 key) three,
      stream_round-stream_round (key_3 key) two,
      hash_round-hash_round (key_2 key) one,
      stream_round-stream_round (key_1 key) parts,
    )
    (joined-halves block)

pub lioness-encrypts : (key block : List ℕ) → 32 < length block → lioness_encrypted key (lioness_decrypted key block) ≡ block
unfolding lioness_encrypted lioness_decrypted
lioness-encrypts key block long =
    let parts = halves block in
    let one = hash_round (key_4 key) parts in
    let two = stream_round (key_3 key) one in
    let three = hash_round (key_2 key) two in
    let four = stream_round (key_1 key) three in
    let left : length four.0 ≡ 32 =
    stream_round-left (key_1 key) three ∙ hash_round-left (key_2 key) two ∙ stream_round-left (key_3 key) one
    ∙ hash_round-left (key_4 key) parts ∙ halves-left block long in
    rw (
      halves-joined four left,
      stream_round-stream_round (key_1 key) three,
      hash_round-hash_round (key_2 key) two,
      stream_round-stream_round (key_3 key) one,
      hash_round-hash_round (key_4 key) parts,
    )
    (joined-halves block)

pub stream_round-length : (key : List ℕ) (parts : List ℕ × List ℕ) → length (joined (stream_round key parts)) ≡ length (joined parts)
unfolding stream_round
stream_round-length key parts =
    let right : List ℕ = xor_stream (chacha_byte (xor parts.0 key)) 0 parts.1 in
    omega (arith, length-append parts.0 right, length-append parts.0 parts.1, length-xor_stream (chacha_byte (xor parts.0 key)) 0 parts.1)

pub hash_round-length : (key : List ℕ) (parts : List ℕ × List ℕ) → length (joined (hash_round key parts)) ≡ length (joined parts)
unfolding hash_round
hash_round-length key parts =
    let left : List ℕ = xor parts.0 (hmac key parts.1) in
    omega (arith, length-append left parts.1, length-append parts.0 parts.1, length-xor parts.0 (hmac key parts.1))

pub lioness-encrypted-length : (key block : List ℕ) → 32 < length block → length (lioness_encrypted key block) ≡ length block
unfolding lioness_encrypted
lioness-encrypted-length key block long =
    let parts = halves block in
    let one = stream_round (key_1 key) parts in
    let two = hash_round (key_2 key) one in
    let three = stream_round (key_3 key) two in
    hash_round-length (key_4 key) three ∙ stream_round-length (key_3 key) two ∙ hash_round-length (key_2 key) one
    ∙ stream_round-length (key_1 key) parts ∙ ap length (joined-halves block)

pub lioness-decrypted-length : (key block : List ℕ) → 32 < length block → length (lioness_decrypted key block) ≡ length block
unfolding lioness_decrypted
lioness-decrypted-length key block long =
    let parts = halves block in
    let one = hash_round (key_4 key) parts in
    let two = stream_round (key_3 key) one in
    let three = hash_round (key_2 key) two in
    stream_round-length (key_1 key) three ∙ hash_round-length (key_2 key) two ∙ stream_round-length (key_3 key) one
    ∙ hash_round-length (key_4 key) parts ∙ ap length (joined-halves block)
