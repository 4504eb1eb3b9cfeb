use Rattle.vx_desk.proofs.real.RealDeskDesk.write.Goals as goal

pub returns-in-Out-clause-writes : goal.returns-in-Out-clause-writes
returns-in-Out-clause-writes g c = rw (c.in-Out.is, ← c.self.view_is) (c.count_write.ensures c.args.bytes.now c.write_some.ensures.bound)
