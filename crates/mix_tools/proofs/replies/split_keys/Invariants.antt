use Rattle.std.proofs.Common.{◌≡◌}
use Rattle.mix_tools.specs.Replies.{hop_keys}
use Rattle.mix_tools.proofs.replies.split_keys.Given as goal

abbrev pub invariant-hops : goal.invariant-hops
invariant-hops l = l.hops.items ≡ hop_keys l.bytes l.place
