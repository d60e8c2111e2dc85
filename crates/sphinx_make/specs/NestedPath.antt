-- A nested path: a packet that carries a payload along hops, each of which opens it with its secret key. Nothing is
-- said of how the packet is made, nor of a filler.
use Rattle.std.specs.Prelude.{◌≡◌, ℕ, List, [], ◌∷◌, Option, IsOkAnd}
use Rattle.mix_base.specs.Suites.{SuiteMeaning}
use Rattle.packet_form.specs.Geometry.{Sizes}
use Rattle.packet_form.specs.declared.commands.Exit.{Exit}
use Rattle.sphinx_unwrap.specs.Layer.{Layer, opened}
use Rattle.sphinx_unwrap.specs.Outcome.{out}
use Rattle.sphinx_unwrap.specs.declared.outcome.Out.{Out}
use Rattle.sphinx_unwrap.specs.declared.outcome.Out.TheVariants as outs

-- a hop as its node sees it: its secret key and its id, with the delay that the maker chose for it
pub record KeyedHop : Type 0 where
  pub secret_key : List ℕ
  pub id : List ℕ
  pub delay : Option ℕ

-- a hop forwards this packet to the next one, with its own delay
pub record Forwards (sizes : Sizes) (hop next : KeyedHop) (packet : List ℕ) (layer : Layer) : Type 0 where
  pub delay : layer.commands.delay ≡ hop.delay
  pub leaves : out sizes layer ≡ outs.Forward next.id packet

-- the packet goes along the hops, each of which opens it: each but the last forwards a packet that goes along the rest,
-- and what the last one finds has this property
abbrev pub GoesAlong : SuiteMeaning → Sizes → (KeyedHop → Layer → Type 0) → List KeyedHop → List ℕ → Type 0
GoesAlong suite sizes Finds [] packet = ⊥
GoesAlong suite sizes Finds (hop ∷ []) packet = IsOkAnd (opened suite sizes hop.secret_key packet) (Finds hop)
GoesAlong suite sizes Finds (hop ∷ next ∷ rest) packet =
    (forwarded : List ℕ) × (IsOkAnd (opened suite sizes hop.secret_key packet) (Forwards sizes hop next forwarded)
    × GoesAlong suite sizes Finds (next ∷ rest) forwarded)

-- the last hop finds its own delay, these commands and this payload
pub record Ends (last : Exit) (found : List ℕ) (hop : KeyedHop) (layer : Layer) : Type 0 where
  pub delay : layer.commands.delay ≡ hop.delay
  pub exit : layer.commands.exit ≡ last
  pub payload : layer.payload ≡ found

-- the packet carries the payload along the hops, to these last commands
abbrev pub Carries : SuiteMeaning → Sizes → List KeyedHop → Exit → List ℕ → List ℕ → Type 0
Carries suite sizes hops last packet payload = GoesAlong suite sizes (Ends last payload) hops packet

-- this goes out of the last hop, after its own delay
pub record GoesOut (sizes : Sizes) (leaving : Out) (hop : KeyedHop) (layer : Layer) : Type 0 where
  pub delay : layer.commands.delay ≡ hop.delay
  pub leaves : out sizes layer ≡ leaving

-- the packet goes along the hops, and this goes out at the end
abbrev pub Arrives : SuiteMeaning → Sizes → List KeyedHop → Out → List ℕ → Type 0
Arrives suite sizes hops leaving packet = GoesAlong suite sizes (GoesOut sizes leaving) hops packet
