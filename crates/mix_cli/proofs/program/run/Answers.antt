-- Which words are faulty is what the command says of them, where there are words.
use Rattle.mix_cli.proofs.program.run.Goals as goal
use Rattle.mix_cli.proofs.program.run.Goals.{in-Ok, in-Err}

pub returns-clause-forms : goal.returns-clause-forms
returns-clause-forms g c =
    elim c.match-words.branch [
      | in-Ok w ↦ rw (w.in-Ok.is, w.status-is, ← w.as_slice.ensures.value) w.mix_command-status.ensures.forms
      | in-Err w ↦ rw w.in-Err.is tt
    ]
