-- The primitives of a suite, each a function on lists of bytes as its standard writes it.
use Rattle.std.specs.Prelude.{ℕ, zero, suc, ◌+◌, ◌-◌, ◌/◌, ◌%◌, ◌^◌, List, [], ◌∷◌, ◌++◌, length, take, drop, replicate, slice_range, nat_lt, codes, if◌then◌else◌}
use Rattle.std.specs.Int.{byte_at}
use Rattle.sha2.specs.Sha256.{sha256}
use Rattle.rand_chacha.specs.ChaCha.{word_at, key_of}
use Rattle.mix_base.specs.ByteLists.{xor, xor_stream}
use Rattle.mix_base.specs.declared.suites.HopKeys.{HopKeys}

-- ---- HMAC-SHA-256 (RFC 2104, section 2)

-- a key as a block of 64 bytes: a longer key is hashed first, and zeros follow
unfoldable pub key_block : List ℕ → List ℕ
key_block key = let short = (if nat_lt 64 (length key) then sha256 key else key) in short ++ replicate (64 - length short) 0

-- the key's block with each byte xored with the same byte
unfoldable pub masked_key : List ℕ → ℕ → List ℕ
masked_key key byte = xor (key_block key) (replicate 64 byte)

-- the hash of the message behind the key under 0x36 (ipad), hashed again behind the key under 0x5c (opad)
unfoldable pub hmac : List ℕ → List ℕ → List ℕ
hmac key message = sha256 (masked_key key 0x5c ++ sha256 (masked_key key 0x36 ++ message))

-- ---- HKDF-Expand (RFC 5869, section 2.3)

-- T(i): the code of the block before it, the info and the byte i
unfoldable pub hkdf_block : List ℕ → List ℕ → ℕ → List ℕ
hkdf_block prk info zero = []
hkdf_block prk info (suc i) = hmac prk (hkdf_block prk info i ++ info ++ suc i ∷ [])

-- T(1) to T(n), joined
unfoldable pub hkdf_blocks : List ℕ → List ℕ → ℕ → List ℕ
hkdf_blocks prk info zero = []
hkdf_blocks prk info (suc n) = hkdf_blocks prk info n ++ hkdf_block prk info (suc n)

-- the first bytes of these, in the number that is asked for
unfoldable pub hkdf_expand : List ℕ → List ℕ → ℕ → List ℕ
hkdf_expand prk info count = take count (hkdf_blocks prk info ((count + 31) / 32))

-- the keys of a hop: 192 bytes for the label, cut into 32, 32 and 128
unfoldable pub hop_keys : List ℕ → HopKeys
hop_keys secret =
    let bytes = hkdf_expand secret (codes "kem-sphinx-mix-v0") 192 in
    record { mac = slice_range bytes 0 32; stream = slice_range bytes 32 64; wide = slice_range bytes 64 192 }

-- ---- the key stream of ChaCha20 (RFC 8439, section 2.3, with a 64-bit counter from 0 and a 64-bit zero nonce)

-- the word at a place; the counter comes round after 2 ^ 68 words
unfoldable pub chacha_word : List ℕ → ℕ → ℕ
chacha_word key place = word_at 10 (key_of key) 0 (place % 2 ^ 68)

-- the byte at a place: each word gives four, the low byte first
unfoldable pub chacha_byte : List ℕ → ℕ → ℕ
chacha_byte key place = byte_at (place % 4) (chacha_word key (place / 4))

-- ---- LIONESS (Anderson and Biham, 1996) on a block of 32 bytes and more, over ChaCha20 and HMAC-SHA-256

-- a block's left part of 32 bytes, and its right part
abbrev pub halves : List ℕ → List ℕ × List ℕ
halves block = (take 32 block, drop 32 block)

-- the block of two parts
abbrev pub joined : List ℕ × List ℕ → List ℕ
joined parts = parts.0 ++ parts.1

-- R ^= S(L ^ K)
unfoldable pub stream_round : List ℕ → List ℕ × List ℕ → List ℕ × List ℕ
stream_round key parts = (parts.0, xor_stream (chacha_byte (xor parts.0 key)) 0 parts.1)

-- L ^= H(K, R)
unfoldable pub hash_round : List ℕ → List ℕ × List ℕ → List ℕ × List ℕ
hash_round key parts = (xor parts.0 (hmac key parts.1), parts.1)

-- the four parts of a wide key, 32 bytes each
abbrev pub key_1 : List ℕ → List ℕ
key_1 key = slice_range key 0 32

abbrev pub key_2 : List ℕ → List ℕ
key_2 key = slice_range key 32 64

abbrev pub key_3 : List ℕ → List ℕ
key_3 key = slice_range key 64 96

abbrev pub key_4 : List ℕ → List ℕ
key_4 key = slice_range key 96 128

-- the four rounds
unfoldable pub lioness_encrypted : List ℕ → List ℕ → List ℕ
lioness_encrypted key block =
    joined (hash_round (key_4 key) (stream_round (key_3 key) (hash_round (key_2 key) (stream_round (key_1 key) (halves block)))))

-- the four rounds in reverse order
unfoldable pub lioness_decrypted : List ℕ → List ℕ → List ℕ
lioness_decrypted key block =
    joined (stream_round (key_1 key) (hash_round (key_2 key) (stream_round (key_3 key) (hash_round (key_4 key) (halves block)))))
