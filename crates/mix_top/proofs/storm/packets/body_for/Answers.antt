use Rattle.std.proofs.Common.{ℕ, ◌++◌, ◌-◌, ◌∙◌, ap, replicate, take}
use Rattle.mix_top.proofs.StormPackets.{body_is}
use Rattle.mix_top.proofs.storm.packets.body_for.Goals as goal

pub returns : goal.returns
returns c =
    c.in_ok-resize.ensures.items ∙ ap (λ (n : ℕ). take c.body.result c.in_ok-body.body.items ++ replicate (c.body.result - n) 0) c.in_ok-body.body.ok.0
    ∙ body_is c.args.number c.args.setup.now.geo.body c.body.result c.in_ok-body.body.items (c.in_ok-body.ensures.items_if_clones_equal (λ x y same. same) ∙ c.to_be_bytes.ensures)
    c.body.ensures.value c.requires
