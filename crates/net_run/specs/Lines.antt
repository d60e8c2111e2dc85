-- The lines of the network, as their ends lie at the nodes.
use Rattle.std.specs.Prelude.{◌≡◌, ⊤, ℕ, ◌+◌, ◌/◌, All, List, [], ◌∷◌, ◌++◌, length, map}
use Rattle.std.specs.Global.{Vec}
use Rattle.std.specs.List.{range_with_len}
use Rattle.lab_text.specs.declared.settings.Config.{Config}
use Rattle.mix_waves.specs.Network.{node_count, node_id}
use Rattle.net_run.specs.Plans.{layer_of, links_into, links_onto}
use Rattle.net_run.specs.declared.lines.NodeLinks.{NodeLinks}
use Rattle.net_run.specs.declared.lines.Spread.{Spread}
use Rattle.net_run.specs.declared.lines.Wires.{Wires}

-- the ids of the first so many nodes of a layer
abbrev pub ids_in : ℕ → ℕ → List (List ℕ)
ids_in layer count = map (node_id layer) (range_with_len 0 count)

-- those to which the lines of a layer's nodes lead
abbrev pub ids_onto : Config → ℕ → List (List ℕ)
ids_onto config layer = ids_in (layer + 1) (links_onto config layer)

-- how many each list has
abbrev pub sizes : {A : Type 0} → List (Vec A) → List ℕ
sizes lists = map (λ list. length list.items) lists

-- where each of outgoing lines leads
abbrev pub ids_of : {O : Type 0} → List (List ℕ × O) → List (List ℕ)
ids_of links = map (λ link. link.0) links

module _ {N O : Type 0} where
  -- a sender's lines to a layer, at which so many ends came in before
  pub record IsSpread (layer : ℕ) (before : List ℕ) (spread : Spread N O) : Type 0 where
    pub ids : ids_of spread.outgoing.items ≡ ids_in layer (length before)
    pub one_more : sizes spread.incoming.items ≡ map (λ n. n + 1) before

  -- a node with so many ends that come in, and lines to these
  pub record IsLinked (incoming : ℕ) (ids : List (List ℕ)) (links : NodeLinks N O) : Type 0 where
    pub incoming_are : length links.incoming.items ≡ incoming
    pub ids_are : ids_of links.outgoing.items ≡ ids

  -- so many such nodes were added
  pub record AddsLinked (count incoming : ℕ) (ids : List (List ℕ)) (old new : List (NodeLinks N O)) : Type 0 where
    pub added : List (NodeLinks N O)
    pub are : new ≡ old ++ added
    pub many : length added ≡ count
    pub each : All (IsLinked incoming ids) added

  -- node NUMBER and those behind it have their lines
  abbrev pub AreLinked : Config → ℕ → List (NodeLinks N O) → Type 0
  AreLinked config number [] = ⊤
  AreLinked config number (links ∷ others) =
      IsLinked (links_into config (layer_of config number)) (ids_onto config (layer_of config number)) links × AreLinked config (number + 1) others

  -- all nodes have, and the client has a line to each node of the first layer
  pub record AreWired (config : Config) (wires : Wires N O) : Type 0 where
    pub client : ids_of wires.client.items ≡ ids_in 0 config.width
    pub many : length wires.nodes.items ≡ node_count config
    pub each : AreLinked config 0 wires.nodes.items
