use Rattle.std.proofs.Common.{◌≡◌, map}
use Rattle.std.specs.List.{range_with_len}
use Rattle.mix_waves.specs.Fates.{is_delivered}
use Rattle.mix_waves.proofs.fates.deliveries.Given as goal

-- the first so many messages
abbrev pub invariant-messages : goal.invariant-messages
invariant-messages l = l.delivered.items ≡ map (is_delivered l.config (map (λ out. out.now) l.local)) (range_with_len 0 l.number)
