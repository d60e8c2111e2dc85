use Rattle.std.proofs.Common.{◌*◌, ℕ, ◌∙◌, ap, sym}
use Rattle.mix_waves.proofs.Draws.{are_delays, choosing}
use Rattle.mix_waves.proofs.drawing.draw_message.Goals as goal

pub returns-clause-drawn : goal.returns-clause-drawn
returns-clause-drawn g c =
    let to_come = g.W.Words.to_come in
    let config = c.args.config.now in
    choosing config
    (record {
      there = c.in_ok-there.there;
      back = c.in_ok-back.back;
      there_delays = c.in_ok-there_delays.there_delays;
      back_delays = c.in_ok-back_delays.back_delays;
      block_coins = c.in_ok-block_coins.block_coins;
      own = c.draw_key-own.result;
      coins = c.in_ok-coins.coins;
    })
    (to_come c.args.words.now) (to_come c.next_words.new.words) (to_come c.next_words-2.new.words) (to_come c.draw_delays.new.words)
    (to_come c.draw_delays-2.new.words) (to_come c.next_words-3.new.words) (to_come c.draw_key-own.new.words) (to_come c.next_words-4.new.words)
    (config.layers * c.coins_of_hop.result) (ap (λ (n : ℕ). config.layers * n) c.coins_of_hop.ensures.coins)
    c.in_ok-there.ensures.words c.in_ok-there.ensures.rest c.in_ok-back.ensures.words c.in_ok-back.ensures.rest
    c.in_ok-there_delays.ensures.delays c.in_ok-there_delays.ensures.words c.in_ok-back_delays.ensures.delays c.in_ok-back_delays.ensures.words
    c.in_ok-block_coins.ensures.words c.in_ok-block_coins.ensures.rest c.draw_key-own.ensures.key c.draw_key-own.ensures.words
    c.in_ok-coins.ensures.words c.in_ok-coins.ensures.rest

pub returns-clause-sized : goal.returns-clause-sized
returns-clause-sized g c =
    let to_come = g.W.Words.to_come in
    let config = c.args.config.now in
    let count = ap (λ (n : ℕ). config.layers * n) c.coins_of_hop.ensures.coins in
    record {
      there = sym c.in_ok-there.there.ok.0 ∙ c.in_ok-there.ensures.length;
      back = sym c.in_ok-back.back.ok.0 ∙ c.in_ok-back.ensures.length;
      there_delays = are_delays config (to_come c.next_words-2.new.words) c.in_ok-there_delays.there_delays.items c.requires.draw c.in_ok-there_delays.ensures.delays;
      back_delays = are_delays config (to_come c.draw_delays.new.words) c.in_ok-back_delays.back_delays.items c.requires.draw c.in_ok-back_delays.ensures.delays;
      block_coins = sym c.in_ok-block_coins.block_coins.ok.0 ∙ c.in_ok-block_coins.ensures.length ∙ count;
      coins = sym c.in_ok-coins.coins.ok.0 ∙ c.in_ok-coins.ensures.length ∙ count;
    }
