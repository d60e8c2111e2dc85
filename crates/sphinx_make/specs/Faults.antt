-- Which refusal of a definition a fault stands for: each for itself, and None is want of memory.
use Rattle.std.specs.Prelude.{Option, Some, None}
use Rattle.sphinx_make.specs.declared.faults.MakeFault.{MakeFault}
use Rattle.sphinx_make.specs.declared.faults.MakeFault.TheVariants as faults

abbrev pub cause_of : MakeFault → Option MakeFault
cause_of faults.Memory = None
cause_of faults.PathLength = Some faults.PathLength
cause_of faults.BodyLength = Some faults.BodyLength
cause_of faults.BlockLength = Some faults.BlockLength
cause_of (faults.Delay hop) = Some (faults.Delay hop)
cause_of (faults.KeyForm hop) = Some (faults.KeyForm hop)
