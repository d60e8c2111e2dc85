use Rattle.std.proofs.Common.{◌≡◌, ◌+◌, ◌++◌, ◌∷◌, [], All, List, length, map, reverse, refl, sym, ap, subst, ◌∙◌, arith}
use Rattle.std.specs.List.{AllZip}
use Rattle.std.proofs.lemmas.List.{append-nil, length-append, map-append, reverse-reverse}
use Rattle.std.proofs.lemmas.List.Elements.{All-push}
use Rattle.node_run.specs.Seats.{CanLive, setup_in}
use Rattle.node_run.proofs.Streets.{both_end, ends_zip}
use Rattle.net_run.specs.Seats.{CanSit, shards_in, site_of}
use Rattle.net_run.proofs.Seating.{can_live}
use Rattle.net_run.proofs.Stacks.{empty_list, met_at, met_more}
use Rattle.net_run.proofs.seats.seat_nodes.Goals as goal

pub nodes-init : goal.nodes-init
nodes-init g c =
    let nodes = sym (reverse-reverse c.args.nodes.items) ∙ ap (λ xs. reverse xs) (sym c.reverse.ensures.items) in
    let links = sym (reverse-reverse c.args.links.items) ∙ ap (λ xs. reverse xs) (sym c.reverse-2.ensures.items) in
    record {
      met = [];
      are = nodes;
      can_sit = subst (λ xs. AllZip (CanSit g.R.Rack.tells g.S.Suite.meaning g.S.K.Kem.CT c.args.workers) xs (reverse c.reverse-2.new.self.items)) nodes
          (subst (λ xs. AllZip (CanSit g.R.Rack.tells g.S.Suite.meaning g.S.K.Kem.CT c.args.workers) c.args.nodes.items xs) links c.requires.nodes);
      can_live = subst (All (CanLive g.S.K.Kem.CT c.args.workers)) (sym c.requires.seats.empty) (λ k d low. absurd (omega (arith, low)));
      shards = ap (λ xs. map shards_in xs) c.requires.seats.empty;
      setups = ap (λ xs. map setup_in xs) c.requires.seats.empty;
      sites = c.requires.sites.empty;
      seats_room = (let a = ap (λ xs. length xs) c.requires.seats.empty in omega (arith, a, c.requires.seats.room, c.args.seats.ok.0, c.args.nodes.ok.0, c.reverse.ensures.len));
      sites_room = (let a = ap (λ xs. length xs) c.requires.sites.empty in omega (arith, a, c.requires.sites.room, c.args.sites.ok.0, c.args.nodes.ok.0, c.reverse.ensures.len));
    }

pub unreachable-requires : goal.unreachable-requires
unreachable-requires g c =
    let before = c.nodes.invariant in
    let none : c.nodes.links.items ≡ [] = empty_list c.nodes.links.items (let a = c.in_default-pop.ensures.cases in omega (arith, a, c.nodes.links.ok.0)) in
    both_end (CanSit g.R.Rack.tells g.S.Suite.meaning g.S.K.Kem.CT c.args.workers) c.nodes.nodes.items c.pop.new.self.items c.in-Some.node c.nodes.links.items c.in-Some.ensures.items none before.can_sit

pub nodes-preserved : goal.nodes-preserved
nodes-preserved g c =
    let before = c.nodes.invariant in
    let node = c.in-Some.node in
    let links = c.in-Some-pop.ends in
    let zipped = ends_zip (CanSit g.R.Rack.tells g.S.Suite.meaning g.S.K.Kem.CT c.args.workers) c.nodes.nodes.items c.pop.new.self.items node c.nodes.links.items c.pop-in-Some.new.self.items links
    c.in-Some.ensures.items c.in-Some-pop.ensures.items before.can_sit in
    let seat = c.take_seat.result in
    let is = c.take_seat.ensures in
    let cases = c.in-Some.ensures.cases in
    record {
      met = before.met ++ node ∷ [];
      are = met_more c.args.nodes.items before.met (reverse c.pop.new.self.items) node
          (met_at c.args.nodes.items before.met c.nodes.nodes.items c.pop.new.self.items node before.are c.in-Some.ensures.items);
      can_sit = zipped.1;
      can_live = subst (All (CanLive g.S.K.Kem.CT c.args.workers)) (sym c.push_reserved.ensures.items)
          (All-push (CanLive g.S.K.Kem.CT c.args.workers) c.nodes.seats.items seat before.can_live
          (can_live g.R.Rack.tells g.S.Suite.meaning g.S.K.Kem.CT c.args.workers node links seat zipped.0 is.setup is.shards is.incoming is.outgoing));
      shards = ap (λ xs. map shards_in xs) c.push_reserved.ensures.items ∙ map-append shards_in c.nodes.seats.items (seat ∷ [])
          ∙ ap (λ xs. xs ++ seat.shards.items ∷ []) before.shards ∙ ap (λ v. map (λ node. node.shards.items) before.met ++ v.items ∷ []) is.shards
          ∙ sym (map-append (λ node. node.shards.items) before.met (node ∷ []));
      setups = ap (λ xs. map setup_in xs) c.push_reserved.ensures.items ∙ map-append setup_in c.nodes.seats.items (seat ∷ [])
          ∙ ap (λ xs. xs ++ setup_in seat ∷ []) before.setups ∙ ap (λ s. map (λ node. node.plan.setup) before.met ++ s ∷ []) is.setup
          ∙ sym (map-append (λ node. node.plan.setup) before.met (node ∷ []));
      sites = c.push_reserved-in-Some.ensures.items ∙ ap (λ xs. xs ++ node.site ∷ []) before.sites ∙ sym (map-append site_of before.met (node ∷ []));
      seats_room = (let a = cases in let b = c.push_reserved.ensures.len in let d = c.push_reserved.ensures.capacity in let e = before.seats_room in omega arith);
      sites_room = (let a = cases in let b = c.push_reserved-in-Some.ensures.len in let d = c.push_reserved-in-Some.ensures.capacity in let e = before.sites_room in omega arith);
    }

pub returns-clause-shards : goal.returns-clause-shards
returns-clause-shards g c =
    let before = c.nodes.invariant in
    let none : c.nodes.nodes.items ≡ [] = empty_list c.nodes.nodes.items (let a = c.in_default.ensures.cases in omega (arith, a, c.nodes.nodes.ok.0)) in
    before.shards ∙ ap (λ xs. map (λ node. node.shards.items) xs) (sym (before.are ∙ ap (λ xs. before.met ++ reverse xs) none ∙ append-nil before.met))

pub returns-clause-setups : goal.returns-clause-setups
returns-clause-setups g c =
    let before = c.nodes.invariant in
    let none : c.nodes.nodes.items ≡ [] = empty_list c.nodes.nodes.items (let a = c.in_default.ensures.cases in omega (arith, a, c.nodes.nodes.ok.0)) in
    before.setups ∙ ap (λ xs. map (λ node. node.plan.setup) xs) (sym (before.are ∙ ap (λ xs. before.met ++ reverse xs) none ∙ append-nil before.met))

pub returns-clause-sites : goal.returns-clause-sites
returns-clause-sites g c =
    let before = c.nodes.invariant in
    let none : c.nodes.nodes.items ≡ [] = empty_list c.nodes.nodes.items (let a = c.in_default.ensures.cases in omega (arith, a, c.nodes.nodes.ok.0)) in
    before.sites ∙ ap (λ xs. map site_of xs) (sym (before.are ∙ ap (λ xs. before.met ++ reverse xs) none ∙ append-nil before.met))
