-- The keys of all nodes: there are none where one node has none.
use Rattle.std.proofs.Common.{Bool, true, false, IsSome, ◌≡◌, ℕ, zero, suc, ◌+◌, ◌<◌, ◌-◌, List, [], ◌∷◌, ◌++◌, Option, Some, None, refl, subst, arith}
use Rattle.epoch_keys.specs.Faults.{IfNoKey}
use Rattle.epoch_keys.specs.declared.faults.KeyFault.{KeyFault}
use Rattle.epoch_keys.specs.declared.faults.KeyFault.TheVariants.{NoKey, Memory}
use Rattle.ntru_prime.proofs.PairKeys.{pair_seals}
use Rattle.mix_tools.specs.Suites.{scheme_for}
use Rattle.mix_base.specs.Options.{◌>>=◌}
use Rattle.lab_text.specs.declared.settings.Config.{Config}
use Rattle.mix_waves.specs.Network.{first_keys, key_of}

-- none for one more, and for all behind
none_here : (config : Config) (epoch count : ℕ) → key_of config epoch count ≡ None → first_keys config epoch (suc count) ≡ None
none_here config epoch count none = by (first_keys config epoch count)
  where
    by : (before : Option (List (List ℕ))) → before >>= (λ keys. key_of config epoch count >>= (λ key. Some (keys ++ key ∷ []))) ≡ None
    by None = refl
    by (Some keys) = rw none refl

none_behind : (config : Config) (epoch count more : ℕ) → first_keys config epoch count ≡ None → first_keys config epoch (more + count) ≡ None
none_behind config epoch count zero none = let same : 0 + count ≡ count = omega arith in rw same none
none_behind config epoch count (suc more) none =
    let same : suc more + count ≡ suc (more + count) = omega arith in rw (same, none_behind config epoch count more none) refl

none_of_all : (config : Config) (epoch number count : ℕ) → number < count → key_of config epoch number ≡ None → first_keys config epoch count ≡ None
none_of_all config epoch number count below none =
    let far : (count - suc number) + suc number ≡ count = omega (arith, below) in
    subst (λ (n : ℕ). first_keys config epoch n ≡ None) far (none_behind config epoch (suc number) (count - suc number) (none_here config epoch number none))

-- a refusal of one node is one of all
pub none_named : (config : Config) (epoch number count : ℕ) (fault : KeyFault) → number < count
    → IfNoKey fault (λ named. (named ≡ epoch) × (key_of config epoch number ≡ None)) → IfNoKey fault (λ named. (named ≡ epoch) × (first_keys config epoch count ≡ None))
none_named config epoch number count (NoKey named) below none = (none.0, none_of_all config epoch number count below none.1)
none_named config epoch number count Memory below none = none

-- the key of a pair seals
pub pair_of_suite : (ntru : Bool) (words : ℕ → ℕ) (pair : List ℕ × List ℕ) → (scheme_for ntru).pair words ≡ Some pair
    → (coins : List ℕ) → IsSome ((scheme_for ntru).encapsulate pair.0 coins)
pair_of_suite true words pair is coins = pair_seals words pair is coins
pair_of_suite false words pair is coins = refl
