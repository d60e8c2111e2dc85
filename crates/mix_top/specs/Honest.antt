-- What makes a hand-on line honest: the packet arrived before, it is handed on as the definition unwraps it under a key
-- that was live at its receipt, and its time had come.
use Rattle.std.specs.Prelude.{◌≡◌, ℕ, ◌+◌, ◌≤◌, IsTrue, List, [], ◌∷◌, ◌++◌, length, Contains, Some, unwrap_or, Ok}
use Rattle.mix_base.specs.Suites.{SuiteMeaning}
use Rattle.epoch_keys.specs.Epochs.{is_live}
use Rattle.epoch_keys.specs.Keys.{epoch_secret_key}
use Rattle.sphinx_unwrap.specs.Outcome.{unwrapped}
use Rattle.sphinx_unwrap.specs.declared.outcome.Opened.{Opened}
use Rattle.mix_shard.specs.Items.{Item}
use Rattle.node_core.specs.Nodes.{NodeState}
use Rattle.node_core.specs.declared.arrivals.Arrival.{Arrival}
use Rattle.node_core.specs.declared.setup.NodeSetup.{NodeSetup}
use Rattle.mix_top.specs.Acts.{Act, Opens, Reopens, Receives, Peels, Claims, Sends, Rotates, Arms, Crashes}
use Rattle.mix_top.specs.Report.{Line}
use Rattle.mix_top.specs.Run.{Runs}

-- the packet that arrives by an act, with this number
abbrev pub arrival_by : ℕ → Act → List Arrival
arrival_by number (Receives moment packet) = (record { number = number; at = moment; packet = packet }) ∷ []
arrival_by number (Opens shard) = []
arrival_by number (Reopens shard) = []
arrival_by number (Peels worker) = []
arrival_by number (Claims worker) = []
arrival_by number (Sends moment) = []
arrival_by number (Rotates moment shard) = []
arrival_by number (Arms shard calls) = []
arrival_by number (Crashes pick) = []

-- the packets that arrive by acts, numbered from this number on, over every crash
abbrev pub arrivals_from : ℕ → List Act → List Arrival
arrivals_from number [] = []
arrivals_from number (act ∷ acts) = arrival_by number act ++ arrivals_from (number + length (arrival_by number act)) acts

-- a packet that is handed on behind these lines of the report of these acts
pub record IsHonest (tells : Type 0) (suite : SuiteMeaning) (setup : NodeSetup) (start : NodeState) (acts : List Act) (lines : List Line) (item : Item) : Type 0 where
  -- a `send` gave it: the acts before the `send` give the lines before it
  pub before : List Act
  pub moment : ℕ
  pub behind : List Act
  pub sent : acts ≡ before ++ Sends moment ∷ behind
  pub state : NodeState
  pub so_far : Runs tells suite start before lines state
  -- a packet had arrived with the number that the line names
  pub arrival : Arrival
  pub arrived : Contains (arrivals_from 1 before) arrival
  pub number : item.number ≡ arrival.number
  -- under the key of the epoch that the line names, which was live at the receipt, the definition unwraps the packet to
  -- the tag and to what is handed on
  pub live : IsTrue (is_live setup.times item.epoch arrival.at)
  pub key : List ℕ
  pub of_epoch : epoch_secret_key suite.kem setup.seed item.epoch ≡ Some key
  pub opened : Opened
  pub unwraps : unwrapped suite setup.geo key arrival.packet ≡ Ok opened
  pub tag : item.tag ≡ opened.tag
  pub out : item.out ≡ opened.out
  -- the moment of the `send` is no less than that of the receipt and the delay that the packet asks for
  pub waited : arrival.at + unwrap_or opened.delay 0 ≤ moment
