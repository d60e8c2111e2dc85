-- Which epoch a refusal names, and why.
use Rattle.std.specs.Prelude.{◌≡◌, ℕ, ⊤, List, Some, None}
use Rattle.mix_base.specs.Suites.{KemScheme}
use Rattle.epoch_keys.specs.Keys.{epoch_pair, first_without_pair}
use Rattle.epoch_keys.specs.declared.faults.KeyFault.{KeyFault}
use Rattle.epoch_keys.specs.declared.faults.KeyFault.TheVariants.{NoKey, Memory}

-- a fact on the epoch that has no key; want of memory names none
abbrev pub IfNoKey : KeyFault → (ℕ → Type 0) → Type 0
IfNoKey (NoKey epoch) fact = fact epoch
IfNoKey Memory fact = ⊤

-- this epoch's words make no pair
abbrev pub IfUnpaired : KemScheme → List ℕ → ℕ → KeyFault → Type 0
IfUnpaired kem seed epoch fault = IfNoKey fault (λ named. epoch_pair kem seed epoch ≡ None)

-- the epoch that is named is the first of these whose words make no pair
abbrev pub IfFirstUnpaired : KemScheme → List ℕ → List ℕ → KeyFault → Type 0
IfFirstUnpaired kem seed epochs fault = IfNoKey fault (λ named. first_without_pair kem seed epochs ≡ Some named)
