use Rattle.std.proofs.Common.{map, ◌+◌, ◌<◌, ◌≡◌, ◌∙◌, ap, List, [], ◌∷◌, ◌++◌, ℕ, suc, subst, sym, arith, refl, length}
use Rattle.std.specs.Prelude.{is_ok, take}
use Rattle.std.proofs.lemmas.List.{map-append}
use Rattle.std.proofs.Math.Seq.{take-suc}
use Rattle.std.specs.declared.vec.Vec.{Vec}
use Rattle.node_actors.specs.Handing.{HandsFeed, link_out, not_left_out}
use Rattle.node_actors.proofs.HandedOn.{feed_on, send_fails, send_gives}
use Rattle.node_actors.proofs.actors.feeds.Feed.run.Goals as goal

pub loop-packet-preserved : goal.loop-packet-preserved
loop-packet-preserved g c =
    let Packet : Type 0 = Vec ℕ _ in
    let bytes : Packet → List ℕ = λ packet. packet.items in
    let packets : List Packet = c.deref-packet-items.result.now in
    let i = c.loop-packet.packet-index in
    let packet : Packet = c.packet-item.result in
    let now = c.as_slice.result.now in
    let ok = is_ok c.send.result in
    let low : i < length packets = omega (arith, c.loop-packet-test.true, c.loop-packet.auto.packet-index-end) in
    let one : i + 1 ≡ suc i = omega arith in
    let front : take (i + 1) packets ≡ take i packets ++ packet ∷ [] =
    ap (λ (n : ℕ). take n packets) one ∙ (take-suc packets i packet low ∙ ap (λ (p : Packet). take i packets ++ p ∷ []) (sym c.packet-item.is)) in
    let all : map bytes (take (i + 1) packets) ≡ map bytes (take i packets) ++ now ∷ [] =
    ap (map bytes) front ∙ (map-append bytes (take i packets) (packet ∷ []) ∙ ap (λ (b : List ℕ). map bytes (take i packets) ++ b ∷ []) (sym c.as_slice.ensures.value)) in
    let old = link_out g.O.LinkOut.given g.O.LinkOut.faults c.loop-packet.link in
    let new = link_out g.O.LinkOut.given g.O.LinkOut.faults c.send.new.self in
    subst (λ (fed : List (List ℕ)). HandsFeed fed (link_out g.O.LinkOut.given g.O.LinkOut.faults c.args.self.link) new) (sym all)
    (feed_on (map bytes (take i packets)) (link_out g.O.LinkOut.given g.O.LinkOut.faults c.args.self.link) old new now ok c.loop-packet.invariant
    (send_gives old.given new.given c.send.result now (λ b. not_left_out (now ∷ []) (b ∷ [])) refl refl c.send.ensures.given c.send.ensures.same)
    (send_fails c.send.result old.faults new.faults c.send.ensures.failed c.send.ensures.count))
