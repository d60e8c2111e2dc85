-- A word of private functions alone: nothing that a public clause says rests on it.
use Rattle.std.specs.Prelude.{slice_range, drop}
use Rattle.packet_form.specs.Geometry.{Sizes, slot}
use Rattle.sphinx_unwrap.specs.Layer.{Layer}
use Rattle.sphinx_unwrap.specs.declared.layer.OpenLayer.{OpenLayer}

-- a layer, without where its buffers lie
abbrev pub layer_seen : Sizes → OpenLayer → Layer
layer_seen sizes layer = record {
  tag = layer.tag;
  commands = layer.commands;
  next_ciphertext = slice_range layer.slots.items 0 sizes.ct;
  next_routing = drop (slot sizes) layer.slots.items;
  payload = layer.payload.items;
}
