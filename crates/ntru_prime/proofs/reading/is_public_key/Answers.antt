use Rattle.std.proofs.Common.{refl}
use Rattle.ntru_prime.proofs.PublicKeys.{told_exactly}
use Rattle.ntru_prime.proofs.reading.is_public_key.Goals as goal
use Rattle.ntru_prime.proofs.reading.is_public_key.Goals.{in-Ok, in-Err-Refused, in-Err-Memory}

pub returns-clause-encapsulates : goal.returns-clause-encapsulates
returns-clause-encapsulates c =
    elim c.match-whole_in.branch [
      | in-Ok w ↦ (rw w.result-is (told_exactly _ c.args.bytes.now (rw w.in-Ok.ensures refl)))
      | in-Err-Refused w ↦ (rw w.result-is (told_exactly _ c.args.bytes.now (rw (rw w.in-Err-Refused.field-0-is at w.in-Err-Refused.ensures) refl)))
      | in-Err-Memory w ↦ (rw w.result-is tt)
    ]
