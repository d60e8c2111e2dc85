-- Words of private functions and proofs alone: what was drawn, without the room that its lists have, and what the makers of
-- a message ask.
use Rattle.std.specs.Prelude.{◌≡◌, ℕ, ◌*◌, ◌≤◌, List, length, All, Some, IsSome}
use Rattle.sphinx_make.specs.declared.path.HopSpec.{HopSpec}
use Rattle.mix_tools.specs.Suites.{scheme_for}
use Rattle.lab_text.specs.declared.settings.Config.{Config}
use Rattle.packet_form.specs.Commands.{longest_delay}
use Rattle.mix_waves.specs.Network.{node_count}
use Rattle.mix_waves.specs.Drawing.{Choices}
use Rattle.mix_waves.specs.declared.drawing.Drawn.{Drawn}

-- with these words to come behind
abbrev pub drawn_with : Drawn → (ℕ → ℕ) → Choices
drawn_with drawn behind = record {
  there = drawn.there.items;
  back = drawn.back.items;
  there_delays = drawn.there_delays.items;
  back_delays = drawn.back_delays.items;
  block_coins = drawn.block_coins.items;
  own = drawn.own;
  coins = drawn.coins.items;
  behind = behind;
}

-- delays, one for each layer, each of which a hop may have
pub record AreDelays (config : Config) (delays : List ℕ) : Type 0 where
  pub count : length delays ≡ config.layers
  pub each : All (λ delay. delay ≤ longest_delay) delays

-- a word and a delay for each layer, and coins for each hop
pub record HasDraws (config : Config) (drawn : Drawn) : Type 0 where
  pub there : length drawn.there.items ≡ config.layers
  pub back : length drawn.back.items ≡ config.layers
  pub there_delays : AreDelays config drawn.there_delays.items
  pub back_delays : AreDelays config drawn.back_delays.items
  pub block_coins : length drawn.block_coins.items ≡ config.layers * (scheme_for config.ntru).coins
  pub coins : length drawn.coins.items ≡ config.layers * (scheme_for config.ntru).coins

-- a key of the suite, to which every coins encapsulate
pub record IsKey (config : Config) (key : List ℕ) : Type 0 where
  pub size : length key ≡ (scheme_for config.ntru).public_key
  pub seals : (coins : List ℕ) → IsSome ((scheme_for config.ntru).encapsulate key coins)

-- a key of each node
pub record AreKeys (config : Config) (keys : List (List ℕ)) : Type 0 where
  pub count : length keys ≡ node_count config
  pub each : All (IsKey config) keys

-- a hop that no maker refuses
pub record IsFineHop (config : Config) (hop : HopSpec) : Type 0 where
  pub key : IsKey config hop.key
  pub delay : (delay : ℕ) → hop.delay ≡ Some delay → delay ≤ longest_delay

-- a hop in each layer
pub record IsPath (config : Config) (path : List HopSpec) : Type 0 where
  pub count : length path ≡ config.layers
  pub each : All (IsFineHop config) path
