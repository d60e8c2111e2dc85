use Rattle.std.proofs.Common.{◌≡◌, ◌∙◌, List, [], ◌∷◌, ◌++◌, length, map, ap, sym, subst, arith}
use Rattle.std.specs.List.{All}
use Rattle.std.proofs.lemmas.List.{length-append, map-append}
use Rattle.std.proofs.lemmas.List.Elements.{All-push}
use Rattle.replay_disk.specs.Disk.{AreAtRest, RackState}
use Rattle.mix_top.proofs.Empty.{empty_rests}
use Rattle.mix_top.proofs.bench.memory_racks.Goals as goal

pub loop-preserved : goal.loop-preserved
loop-preserved c =
    let more : map (λ one. one.rack) c.push.new.self.items ≡ map (λ one. one.rack) c.loop.racks.items ++ c.new.result.rack ∷ [] =
    ap (map (λ one. one.rack)) c.in_ok-push.ensures.items ∙ map-append (λ one. one.rack) c.loop.racks.items (c.new.result ∷ []) in
    record {
      size = omega (arith, c.loop.invariant.size, ap length c.in_ok-push.ensures.items, length-append c.loop.racks.items (c.new.result ∷ []));
      rest = subst (λ (racks : List RackState). All (λ rack. AreAtRest rack.areas) racks) (sym more)
          (All-push (λ (rack : RackState). AreAtRest rack.areas) (map (λ one. one.rack) c.loop.racks.items) c.new.result.rack c.loop.invariant.rest
          (subst (λ (rack : RackState). AreAtRest rack.areas) (sym c.new.ensures.rack) empty_rests));
    }
