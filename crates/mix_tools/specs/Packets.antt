-- What a request to `make` makes: the coins and the delays of its seed, the path, and the packet or the block.
use Rattle.std.specs.Prelude.{ℕ, ◌+◌, ◌*◌, List, [], ◌∷◌, length, Option, Some, None, Result, codes}
use Rattle.mix_base.specs.Suites.{KemScheme}
use Rattle.mix_base.specs.WordStreams.{first_words, word_bytes}
use Rattle.prim_std.specs.Primitives.{chacha_word, hmac}
use Rattle.sphinx_make.specs.Drawing.{drawn_delay, words_taken}
use Rattle.sphinx_make.specs.Making.{made_packet}
use Rattle.sphinx_make.specs.declared.faults.MakeFault.{MakeFault}
use Rattle.sphinx_make.specs.declared.path.HopSpec.{HopSpec}
use Rattle.reply_blocks.specs.Blocks.{Keys, made_block}
use Rattle.mix_tools.specs.Suites.{meaning_for, scheme_for}
use Rattle.mix_tools.specs.declared.requests.BlockRequest.{BlockRequest}
use Rattle.mix_tools.specs.declared.requests.Delay.{Delay}
use Rattle.mix_tools.specs.declared.requests.Delay.TheVariants.{Unsaid, Given, Drawn}
use Rattle.mix_tools.specs.declared.requests.Hop.{Hop}
use Rattle.mix_tools.specs.declared.requests.PacketRequest.{PacketRequest}

-- the coins of so many hops: the first words of ChaCha20 under the seed
abbrev pub coins_of : KemScheme → List ℕ → ℕ → List ℕ
coins_of kem seed hops = first_words (chacha_word seed) (hops * kem.coins)

-- the words that delays are drawn from: those of ChaCha20 under the code of a label under the seed
abbrev pub delay_words : List ℕ → ℕ → ℕ
delay_words seed = chacha_word (hmac seed (codes "mix-delay"))

-- a hop's delay, and how many words it takes
abbrev pub delay_from : (ℕ → ℕ) → Delay → Option ℕ
delay_from words Unsaid = None
delay_from words (Given milliseconds) = Some milliseconds
delay_from words (Drawn draw) = Some (drawn_delay draw words)

abbrev pub taken_for : (ℕ → ℕ) → Delay → ℕ
taken_for words Unsaid = 0
taken_for words (Given milliseconds) = 0
taken_for words (Drawn draw) = words_taken draw words

-- a hop of the path that is made
abbrev pub hop_from : (ℕ → ℕ) → Hop → HopSpec
hop_from words hop = record { id = hop.id; key = hop.key; delay = delay_from words hop.delay }

-- the path, its delays drawn hop after hop
abbrev pub path_from : (ℕ → ℕ) → List Hop → List HopSpec
path_from words [] = []
path_from words (hop ∷ hops) =
    hop_from words hop ∷ path_from (λ place. words (taken_for words hop.delay + place)) hops

-- the packet; a request in the grammar makes one
abbrev pub packet_made : PacketRequest → Result (List ℕ) MakeFault
packet_made request =
    made_packet (meaning_for request.head.layout.ntru) request.head.layout.geometry
    (path_from (delay_words request.head.seed) request.hops) request.recipient request.body request.block
    (coins_of (scheme_for request.head.layout.ntru) request.head.seed (length request.hops))

-- a block's own key: the 32 words behind the coins, as bytes
abbrev pub own_key_of : KemScheme → List ℕ → ℕ → List ℕ
own_key_of kem seed hops =
    word_bytes (first_words (λ place. chacha_word seed (hops * kem.coins + place)) 32)

-- the block and the keys that its maker keeps; a request in the grammar makes one
abbrev pub block_made : BlockRequest → Result (List ℕ × Keys) MakeFault
block_made request =
    made_block (meaning_for request.head.layout.ntru) request.head.layout.geometry
    (path_from (delay_words request.head.seed) request.hops) request.recipient request.surb
    (own_key_of (scheme_for request.head.layout.ntru) request.head.seed (length request.hops))
    (coins_of (scheme_for request.head.layout.ntru) request.head.seed (length request.hops))
