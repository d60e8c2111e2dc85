-- A ring holds the keys that it was asked for last.
use Rattle.std.proofs.Common.{◌≡◌, ◌==◌, ℕ, Bool, true, false, [], ◌∷◌, Option, Some, None, refl, ap, sym, subst, if◌then◌else◌}
use Rattle.std.specs.List.{All, Contains}
use Rattle.std.specs.Option.{option_map_or, option_to_list}
use Rattle.std.proofs.lemmas.Bool.{eqb-true}
use Rattle.std.proofs.lemmas.List.Elements.{All-cons, All-nil, Contains-append_left, Contains-append_right}
use Rattle.mix_base.proofs.Members.{Contains-head}
use Rattle.epoch_keys.specs.Ring.{RingOf, asked, asked_all, held_epochs, is_newest}

-- what the test says
newest_says : (newest : Option ℕ) (epoch : ℕ) → option_map_or (λ n. n == epoch) newest false ≡ true → newest ≡ Some epoch
newest_says None epoch never = absurd (cc)
newest_says (Some newest) epoch same = ap Some (eqb-true newest epoch same)

-- the epoch that was asked for is the newest
newest_by : (ring : RingOf) (epoch : ℕ) (same : Bool) → is_newest ring epoch ≡ same
    → (if same then ring else record ring { newest = Some epoch; before = ring.newest }).newest ≡ Some epoch
newest_by ring epoch true is = newest_says ring.newest epoch is
newest_by ring epoch false is = refl

asked_newest : (ring : RingOf) (epoch : ℕ) → (asked ring epoch).newest ≡ Some epoch
asked_newest ring epoch = newest_by ring epoch (is_newest ring epoch) refl

-- the newest is held
newest_held : (ring : RingOf) (epoch : ℕ) → ring.newest ≡ Some epoch → Contains (held_epochs ring) epoch
newest_held ring epoch newest =
    Contains-append_left (option_to_list ring.newest) (option_to_list ring.before) epoch
    (subst (λ (o : Option ℕ). Contains (option_to_list o) epoch) (sym newest) (Contains-head epoch []))

-- the one that was the newest is still held once another was asked for
held_by : (ring : RingOf) (epoch other : ℕ) (same : Bool) → ring.newest ≡ Some epoch
    → Contains (held_epochs (if same then ring else record ring { newest = Some other; before = ring.newest })) epoch
held_by ring epoch other true newest = newest_held ring epoch newest
held_by ring epoch other false newest =
    Contains-append_right (other ∷ []) (option_to_list ring.newest) epoch
    (subst (λ (o : Option ℕ). Contains (option_to_list o) epoch) (sym newest) (Contains-head epoch []))

-- it holds one epoch, or two, that it was asked for
pub holds_asked : (ring : RingOf) (first : ℕ) (other : Option ℕ)
    → All (Contains (held_epochs (asked_all ring (first ∷ option_to_list other)))) (first ∷ option_to_list other)
holds_asked ring first None =
    All-cons (Contains (held_epochs (asked ring first))) first [] (newest_held (asked ring first) first (asked_newest ring first)) (All-nil (Contains (held_epochs (asked ring first))))
holds_asked ring first (Some other) =
    let once : RingOf = asked ring first in
    let twice : RingOf = asked once other in
    All-cons (Contains (held_epochs twice)) first (other ∷ []) (held_by once first other (is_newest once other) (asked_newest ring first))
    (All-cons (Contains (held_epochs twice)) other [] (newest_held twice other (asked_newest once other)) (All-nil (Contains (held_epochs twice))))
