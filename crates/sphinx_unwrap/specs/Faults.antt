-- Which refusal a fault of unwrapping stands for; None is want of memory.
use Rattle.std.specs.Prelude.{Option, Some, None}
use Rattle.sphinx_unwrap.specs.declared.faults.Refused.{Refused}
use Rattle.sphinx_unwrap.specs.declared.faults.UnwrapFault.{UnwrapFault}
use Rattle.sphinx_unwrap.specs.declared.faults.UnwrapFault.TheVariants as faults

abbrev pub cause_of : UnwrapFault → Option Refused
cause_of (faults.Refused why) = Some why
cause_of faults.Memory = None
