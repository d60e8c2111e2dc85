-- The ring was asked for the live epochs, so it holds their keys.
use Rattle.std.proofs.Common.{◌≡◌, ℕ, List, ◌∷◌, rules, subst, sym}
use Rattle.std.specs.List.{All, Contains}
use Rattle.std.specs.Option.{option_to_list}
use Rattle.epoch_keys.specs.Epochs.{live_epochs}
use Rattle.epoch_keys.specs.Ring.{RingOf, asked_all, held_epochs}
use Rattle.epoch_keys.proofs.Rings.{holds_asked}
use Rattle.epoch_keys.proofs.ring.KeyRing.keys_at.Goals as goal

pub returns-clause-holds : goal.returns-clause-holds
returns-clause-holds g c =
    let ring : RingOf = c.args.self.now in
    let live : List ℕ = live_epochs ring.times c.args.moment in
    let all : c.live-live.result.first ∷ option_to_list c.live-live.result.other ≡ live = search rules in
    let newest : c.match-other.self ≡ asked_all ring live = search rules in
    let law = holds_asked ring c.live-live.result.first c.live-live.result.other in
    let held : All (Contains (held_epochs (asked_all ring live))) live = subst (λ (epochs : List ℕ). All (Contains (held_epochs (asked_all ring epochs))) epochs) all law in
    subst (λ (r : RingOf). All (Contains (held_epochs r)) live) (sym newest) held
