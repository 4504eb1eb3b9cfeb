use Rattle.vx_desk.proofs.MemoryLemmas.{either_cause}
use Rattle.vx_desk.proofs.memory.MemDeskDesk.write.Goals as goal

pub returns-in-Certs-clause-fails : goal.returns-in-Certs-clause-fails
returns-in-Certs-clause-fails c = rw (c.in-Certs.is, ← c.self.view_is) (either_cause _ _ _ _ c.write-in-Certs.ensures.fails (rw c.deref.ensures.value at c.count_call-fails.ensures.fails))
