-- What the sink says of a text that stands fixed.
use Rattle.lab_text.proofs.statuses.write_status.Goals as goal

pub returns-in-ReadFault-clause-front : goal.returns-in-ReadFault-clause-front
returns-in-ReadFault-clause-front g c = rw c.in-ReadFault.is c.put-in-ReadFault.ensures.front

pub returns-in-Memory-clause-whole : goal.returns-in-Memory-clause-whole
returns-in-Memory-clause-whole g c = rw c.in-Memory.is c.put-in-Memory.ensures.whole

pub returns-in-Memory-clause-front : goal.returns-in-Memory-clause-front
returns-in-Memory-clause-front g c = rw c.in-Memory.is c.put-in-Memory.ensures.front

pub returns-in-NoKey-clause-front : goal.returns-in-NoKey-clause-front
returns-in-NoKey-clause-front g c = rw c.in-NoKey.is c.write_line-in-NoKey.ensures.front

pub returns-in-Foreign-clause-whole : goal.returns-in-Foreign-clause-whole
returns-in-Foreign-clause-whole g c = rw c.in-Foreign.is c.write_foreign.ensures.whole

pub returns-in-Foreign-clause-front : goal.returns-in-Foreign-clause-front
returns-in-Foreign-clause-front g c = rw c.in-Foreign.is c.write_foreign.ensures.front

pub returns-in-NoKey-clause-whole : goal.returns-in-NoKey-clause-whole
returns-in-NoKey-clause-whole g c = rw c.in-NoKey.is c.write_line-in-NoKey.ensures.whole

pub returns-in-NoThread-clause-front : goal.returns-in-NoThread-clause-front
returns-in-NoThread-clause-front g c = rw c.in-NoThread.is c.put-in-NoThread.ensures.front

pub returns-in-NoThread-clause-whole : goal.returns-in-NoThread-clause-whole
returns-in-NoThread-clause-whole g c = rw c.in-NoThread.is c.put-in-NoThread.ensures.whole

pub returns-in-NoLine-clause-front : goal.returns-in-NoLine-clause-front
returns-in-NoLine-clause-front g c = rw c.in-NoLine.is c.put-in-NoLine.ensures.front

pub returns-in-NoLine-clause-whole : goal.returns-in-NoLine-clause-whole
returns-in-NoLine-clause-whole g c = rw c.in-NoLine.is c.put-in-NoLine.ensures.whole

pub returns-in-Key-clause-front : goal.returns-in-Key-clause-front
returns-in-Key-clause-front g c = rw c.in-Key.is c.write_key.ensures.front

pub returns-in-Key-clause-whole : goal.returns-in-Key-clause-whole
returns-in-Key-clause-whole g c = rw c.in-Key.is c.write_key.ensures.whole

pub returns-in-Disk-clause-front : goal.returns-in-Disk-clause-front
returns-in-Disk-clause-front g c = rw c.in-Disk.is c.write_disk.ensures.front

pub returns-in-Disk-clause-whole : goal.returns-in-Disk-clause-whole
returns-in-Disk-clause-whole g c = rw c.in-Disk.is c.write_disk.ensures.whole
