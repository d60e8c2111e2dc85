use Rattle.std.proofs.Common.{rules, ◌≡◌, ◌-◌, ◌∷◌, ◌++◌, [], List, length, map, replicate, ap, ◌∙◌}
use Rattle.node_run.specs.declared.life.posts.Post.{Post}
use Rattle.node_run.specs.declared.life.posts.Post.TheVariants as post
use Rattle.node_run.proofs.EvenOdd.{odd_parts}
use Rattle.node_run.proofs.life.posts.odd_posts.Goals as goal

pub returns-clause-posts : goal.returns-clause-posts
returns-clause-posts g c =
    let keeper : Post g.row.N.Denot g.row.O.Denot = post.Keeper c.in_ok-hops.hops in
    let rotator : Post g.row.N.Denot g.row.O.Denot = post.Rotator c.in_ok-tried.tried in
    let hops : c.in_ok-hops.hops.items ≡ map (λ link. link.0) c.args.outgoing.items = c.in_ok-hops.ensures ∙ ap (λ links. map (λ link. link.0) links) c.deref.ensures.value in
    let tried : c.in_ok-tried.tried.items ≡ replicate c.args.shards 0 = search rules in
    let first : c.push.new.self.items ≡ keeper ∷ [] = c.in_ok-push.ensures.items ∙ ap (λ (ps : List (Post g.row.N.Denot g.row.O.Denot)). ps ++ keeper ∷ []) c.new-posts.ensures.items in
    odd_parts c.args.shards c.args.outgoing.items keeper rotator c.push.new.self.items c.add_connectors.new.posts.items c.push-2.new.self.items c.add_spares.new.posts.items (c.args.pairs - length c.push-2.new.self.items)
    first hops c.in_ok-add_connectors.ensures c.in_ok-push-2.ensures.items tried c.in_ok-add_spares.ensures
