use Rattle.vx_desk.proofs.MemoryLemmas.{found}
use Rattle.vx_desk.proofs.memory.find_file.Goals as goal

pub returns : goal.returns
returns c = rw c.first_place.ensures (found c.args.files.now c.args.name.now)
