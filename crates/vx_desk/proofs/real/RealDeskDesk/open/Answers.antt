use Rattle.vx_desk.proofs.real.RealDeskDesk.open.Goals as goal
use Rattle.vx_desk.specs.declared.device.Slot.TheVariants.{Feed, Side, Certs}

pub returns-in-Feed-clause-opens : goal.returns-in-Feed-clause-opens
returns-in-Feed-clause-opens g c = rw (c.in-Feed.is, ← c.self.view_is) (c.keep.ensures Feed c.args.name.now)

pub returns-in-Side-clause-opens : goal.returns-in-Side-clause-opens
returns-in-Side-clause-opens g c = rw (c.in-Side.is, ← c.self.view_is) (c.keep-in-Side.ensures Side c.args.name.now)

pub returns-in-Certs-clause-opens : goal.returns-in-Certs-clause-opens
returns-in-Certs-clause-opens g c = rw (c.in-Certs.is, ← c.self.view_is) (c.keep-in-Certs.ensures Certs c.args.name.now)
