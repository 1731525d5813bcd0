use Rattle.endpoint.proofs.ReadingLemmas.{Reads-found, Reads-only, Reads-fault, spells_dtn}
use Rattle.std.proofs.Common.{refl}
use Rattle.endpoint.specs.Reading.{read_text}
use Rattle.endpoint.proofs.name.Endpoint.from_text.Goals as goal

pub returns-clause-found : goal.returns-clause-found
returns-clause-found c = Reads-found c.read.result c.args.text.now c.read.ensures.reads

pub returns-clause-only : goal.returns-clause-only
returns-clause-only c = Reads-only c.read.result c.args.text.now c.read.ensures.reads

pub returns-clause-fault : goal.returns-clause-fault
returns-clause-fault c = Reads-fault c.read.result c.args.text.now c.read.ensures.reads

pub returns-clause-memory : goal.returns-clause-memory
returns-clause-memory c = λ memory. spells_dtn c.args.text.now (read_text c.args.text.now) refl (c.read.ensures.memory memory)
