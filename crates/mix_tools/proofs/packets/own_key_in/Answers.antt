use Rattle.std.proofs.Common.{◌+◌, ◌*◌, ℕ, ap, ◌∙◌}
use Rattle.std.proofs.Math.Path.{fun_ext}
use Rattle.mix_base.specs.WordStreams.{first_words, word_bytes}
use Rattle.prim_std.specs.Primitives.{chacha_word}
use Rattle.mix_tools.proofs.packets.own_key_in.Goals as goal

pub returns : goal.returns
returns c =
    c.write_words.ensures
    ∙ ap word_bytes c.draw.ensures.words
    ∙ ap (λ (words : ℕ → ℕ). word_bytes (first_words words 32))
    (fun_ext (λ place. c.skip_words.ensures place ∙ c.new-words.ensures (c.args.hops * c.coins_of_hop.result + place) ∙ ap (λ (coins : ℕ). chacha_word c.args.seed.now (c.args.hops * coins + place)) c.coins_of_hop.ensures.coins))
