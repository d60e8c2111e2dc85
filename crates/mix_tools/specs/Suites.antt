-- Which suite a line names: the one after sntrup4591761, or the laboratory's.
use Rattle.std.specs.Prelude.{ℕ, Bool, true, false, List}
use Rattle.mix_base.specs.Suites.{KemScheme, SuiteMeaning}
use Rattle.ntru_prime.specs.Reading.{is_public_key}
use Rattle.ntru_prime.specs.Scheme.{ntru_meaning}
use Rattle.prim_std.specs.Laboratory.{lab_meaning}

-- the suite, by whether it is `ntru` and not `lab`
abbrev pub meaning_for : Bool → SuiteMeaning
meaning_for true = ntru_meaning
meaning_for false = lab_meaning

-- its key encapsulation mechanism
abbrev pub scheme_for : Bool → KemScheme
scheme_for ntru = (meaning_for ntru).kem

-- whether bytes of its public key's length decode; those of the laboratory's length all do
abbrev pub decodes_for : Bool → List ℕ → Bool
decodes_for true bytes = is_public_key bytes
decodes_for false bytes = true
