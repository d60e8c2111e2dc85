-- Which refusal a fault of the byte forms becomes.
use Rattle.ntru_code.specs.declared.faults.CodeFault.{CodeFault}
use Rattle.ntru_code.specs.declared.faults.CodeFault.TheVariants as faults
use Rattle.ntru_prime.specs.declared.faults.Refusal.{Refusal}
use Rattle.ntru_prime.specs.declared.faults.Refusal.TheVariants as refusals

-- bytes with a field out of range are refused
abbrev pub refusal_of : CodeFault → Refusal
refusal_of (faults.Range range) = refusals.Refused
refusal_of faults.Memory = refusals.Memory
