use Rattle.std.proofs.Common.{◌≡◌, ℕ, ◌+◌, ◌*◌, ◌<◌, ◌≤◌, List, [], ◌∷◌, length, IfOk, sym, ap, subst, ◌∙◌, arith, rules}
use Rattle.std.proofs.lemmas.List.{nil_from_length}
use Rattle.sphinx_make.proofs.PathLemmas.{head_of, tail_of}
use Rattle.packet_form.specs.Geometry.{routing, slot}
use Rattle.sphinx_make.proofs.HeaderLaws.{length-next_filler}
use Rattle.sphinx_make.specs.Making.{next_filler, routing_beyond, routing_for, routing_of_last}
use Rattle.sphinx_make.specs.Sealing.{HasKeyLengths, IsOnTime}
use Rattle.sphinx_make.specs.declared.path.SealedHop.{SealedHop}
use Rattle.sphinx_make.proofs.routing.+route.Goals as goal

pub returns-in_default-clause-value : goal.returns-in_default-clause-value
unfolding routing_for
returns-in_default-clause-value g t c =
    c.new.ensures.items ∙ sym (ap (routing_for g.S.Suite.meaning c.args.geo.now c.args.last.now c.args.filler.now) (nil_from_length c.args.hops.now c.in_default.ensures.cases))

pub end_routing-requires-clause-delay : goal.end_routing-requires-clause-delay
end_routing-requires-clause-delay g t c = head_of IsOnTime c.args.hops.now c.in-Some.hop.now c.in-Some.rest.now c.in-Some.ensures.cases.0 c.requires.delays

pub returns-in_default-split_first-clause-value : goal.returns-in_default-split_first-clause-value
unfolding routing_for
returns-in_default-split_first-clause-value g t c =
    let suite = g.S.Suite.meaning in
    let hop = c.in-Some.hop.now in
    let whole : c.args.hops.now ≡ hop ∷ [] = c.in-Some.ensures.cases.0 ∙ ap (λ (rest : List SealedHop). hop ∷ rest) (nil_from_length c.in-Some.rest.now c.in_default-split_first.ensures.cases) in
    let same : routing_of_last suite c.args.geo.now c.args.last.now c.args.filler.now hop ≡ routing_for suite c.args.geo.now c.args.last.now c.args.filler.now c.args.hops.now = sym (ap (routing_for suite c.args.geo.now c.args.last.now c.args.filler.now) whole) in
    subst (λ (xs : List ℕ). IfOk c.end_routing.result (λ made. made.items ≡ xs)) same c.end_routing.ensures.value

pub route-requires : goal.route-requires
route-requires g t c κs within =
    let suite = g.S.Suite.meaning in
    let geo = c.args.geo.now in
    let hops = c.args.hops.now in
    let hop = c.in-Some.hop.now in
    let rest = c.in-Some.rest.now in
    let cons : hops ≡ hop ∷ rest = c.in-Some.ensures.cases.0 in
    let shorter : length rest < length hops = omega (arith, c.in-Some.ensures.cases.1) in
    let passed_long : length c.deref.result.now ≡ length c.args.filler.now + slot geo = ap length (c.deref.ensures.value ∙ c.in_ok-passed.ensures) ∙ length-next_filler suite geo hop c.args.filler.now in
    let slots : length hops * slot geo ≡ (length rest + 1) * slot geo = ap (λ n. n * slot geo) (sym c.in-Some.ensures.cases.1) in
    let room : length c.deref.result.now + length rest * slot geo ≤ routing geo = omega (arith, passed_long, slots, c.requires.room) in (
      first_of (omega arith, search (rules, shorter)),
      (
        within.0,
        (
          within.1.0,
          (
            within.1.1.0,
            (
              within.1.1.1.0,
              (
                within.1.1.1.1.0,
                (
                  within.1.1.1.1.1,
                  (c.requires.ciphertext, (tail_of (HasKeyLengths g.S.K.Kem.CT) hops hop rest cons c.requires.lengths, (tail_of IsOnTime hops hop rest cons c.requires.delays, room))),
                ),
              ),
            ),
          ),
        ),
      ),
    )

pub outer_routing-requires-clause-ciphertext : goal.outer_routing-requires-clause-ciphertext
outer_routing-requires-clause-ciphertext g t c =
    let lengths = tail_of (HasKeyLengths g.S.K.Kem.CT) c.args.hops.now c.in-Some.hop.now c.in-Some.rest.now c.in-Some.ensures.cases.0 c.requires.lengths in
    (head_of (HasKeyLengths g.S.K.Kem.CT) c.in-Some.rest.now c.in-Some-split_first.next.now c.in-Some-split_first.field-0-1.now c.in-Some-split_first.ensures.cases.0 lengths).ciphertext ∙ sym c.requires.ciphertext

pub outer_routing-requires-clause-delay : goal.outer_routing-requires-clause-delay
outer_routing-requires-clause-delay g t c = head_of IsOnTime c.args.hops.now c.in-Some.hop.now c.in-Some.rest.now c.in-Some.ensures.cases.0 c.requires.delays

pub returns-clause-value : goal.returns-clause-value
unfolding routing_for
returns-clause-value g t c =
    let suite = g.S.Suite.meaning in
    let geo = c.args.geo.now in
    let last = c.args.last.now in
    let filler = c.args.filler.now in
    let hop = c.in-Some.hop.now in
    let rest = c.in-Some.rest.now in
    let next = c.in-Some-split_first.next.now in
    let second = c.in-Some-split_first.ensures.cases.0 in
    let passed = next_filler suite geo hop filler in
    let behind : c.deref-2.result.now ≡ routing_for suite geo last passed rest =
    c.deref-2.ensures.value ∙ c.in_ok-behind.ensures.value ∙ ap (λ (f : List ℕ). routing_for suite geo last f rest) (c.deref.ensures.value ∙ c.in_ok-passed.ensures) in
    let whole : c.args.hops.now ≡ hop ∷ next ∷ c.in-Some-split_first.field-0-1.now = c.in-Some.ensures.cases.0 ∙ ap (λ (hops : List SealedHop). hop ∷ hops) second in
    let same : routing_beyond suite geo hop next c.deref-2.result.now ≡ routing_for suite geo last filler c.args.hops.now =
    ap (routing_beyond suite geo hop next) (behind ∙ ap (routing_for suite geo last passed) second) ∙ sym (ap (routing_for suite geo last filler) whole) in
    subst (λ (xs : List ℕ). IfOk c.outer_routing.result (λ made. made.items ≡ xs)) same c.outer_routing.ensures.value
