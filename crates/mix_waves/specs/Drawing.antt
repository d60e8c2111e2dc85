-- What the client draws for a message, from the words to come and in this order: the nodes of the message's path and of the
-- block's, the delays of both, the block's coins and its own key, and the message's coins.
use Rattle.std.specs.Prelude.{ℕ, zero, suc, ◌+◌, ◌*◌, List, [], ◌∷◌, ◌++◌, codes}
use Rattle.std.specs.Int.{to_be_bytes, w64}
use Rattle.mix_base.specs.WordStreams.{first_words, word_bytes}
use Rattle.prim_std.specs.Primitives.{chacha_word, hmac}
use Rattle.sphinx_make.specs.Drawing.{drawn_delay, words_taken}
use Rattle.sphinx_make.specs.declared.drawing.Draw.{Draw}
use Rattle.lab_text.specs.declared.settings.Config.{Config}
use Rattle.mix_tools.specs.Suites.{scheme_for}

-- the key of the client's words, by the moment at which the run starts, and these words
abbrev pub client_key : Config → ℕ → List ℕ
client_key config start = hmac config.seed (codes "mix-client" ++ to_be_bytes w64 start)

abbrev pub client_words : Config → ℕ → ℕ → ℕ
client_words config start = chacha_word (client_key config start)

-- the words behind the first so many
abbrev pub words_behind : ℕ → (ℕ → ℕ) → ℕ → ℕ
words_behind taken words place = words (taken + place)

-- ---- so many delays, one after the other

-- how many words they take
abbrev pub delays_taken : Draw → (ℕ → ℕ) → ℕ → ℕ
delays_taken draw words zero = 0
delays_taken draw words (suc count) =
    let before = delays_taken draw words count in before + words_taken draw (words_behind before words)

abbrev pub delays_from : Draw → (ℕ → ℕ) → ℕ → List ℕ
delays_from draw words zero = []
delays_from draw words (suc count) =
    delays_from draw words count ++ drawn_delay draw (words_behind (delays_taken draw words count) words) ∷ []

-- ---- what is drawn for a message

-- a word and a delay for each layer, on the message's path and on the block's; the block's coins, the key of the block's own,
-- and the message's coins; and the words that are to come behind all these
pub record Choices : Type 0 where
  pub there : List ℕ
  pub back : List ℕ
  pub there_delays : List ℕ
  pub back_delays : List ℕ
  pub block_coins : List ℕ
  pub own : List ℕ
  pub coins : List ℕ
  pub behind : ℕ → ℕ

abbrev pub choices_from : Config → (ℕ → ℕ) → Choices
choices_from config words =
    let layers = config.layers in
    let coins = layers * (scheme_for config.ntru).coins in
    let behind_there = words_behind layers words in
    let behind_back = words_behind layers behind_there in
    let behind_there_delays = words_behind (delays_taken config.draw behind_back layers) behind_back in
    let behind_delays = words_behind (delays_taken config.draw behind_there_delays layers) behind_there_delays in
    let behind_block_coins = words_behind coins behind_delays in
    let behind_own = words_behind 32 behind_block_coins in
    record {
      there = first_words words layers;
      back = first_words behind_there layers;
      there_delays = delays_from config.draw behind_back layers;
      back_delays = delays_from config.draw behind_there_delays layers;
      block_coins = first_words behind_delays coins;
      own = word_bytes (first_words behind_block_coins 32);
      coins = first_words behind_own coins;
      behind = words_behind coins behind_own;
    }
