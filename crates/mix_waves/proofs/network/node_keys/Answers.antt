use Rattle.std.proofs.Common.{◌*◌}
use Rattle.mix_waves.proofs.NodeKeys.{none_named}
use Rattle.mix_waves.proofs.network.node_keys.Goals as goal

pub returns-in-Err-clause-no_key : goal.returns-in-Err-clause-no_key
returns-in-Err-clause-no_key g c =
    none_named c.args.config.now c.args.epoch c.nodes.number (c.args.config.now.layers * c.args.config.now.width) c.in-Err.fault c.nodes-test.true c.in-Err.ensures.no_key
