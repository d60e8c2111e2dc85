use Rattle.std.proofs.Common.{rules, ◌∷◌, ◌++◌, [], List, ℕ, map, take, ap, sym, ◌∙◌}
use Rattle.std.proofs.lemmas.List.{map_more}
use Rattle.node_run.proofs.life.posts.hops_of.Goals as goal

pub loop-hop-preserved : goal.loop-hop-preserved
loop-hop-preserved g c =
    let links = c.args.outgoing.now in
    let i = c.loop-hop.hop-index in
    let one = c.loop-hop-item.result in
    c.in_ok-push.ensures.items
    ∙ (ap (λ (hops : List (List ℕ)). hops ++ one.0 ∷ []) c.loop-hop.invariant
    ∙ (ap (λ link. map (λ l. l.0) (take i links) ++ link.0 ∷ []) c.loop-hop-item.is
    ∙ sym (map_more (λ l. l.0) links i one (search rules))))
