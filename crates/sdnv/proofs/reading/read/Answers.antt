use Rattle.sdnv.proofs.ReadingLemmas.{read_of-found, read_of-only, short-is, is-short, too_long-is, is-too_long, too_large-is, is-too_large}
use Rattle.sdnv.proofs.reading.read.Goals as goal

pub returns-clause-found : goal.returns-clause-found
returns-clause-found c = rw c.first_number.ensures (read_of-found c.args.bytes.now)

pub returns-clause-only : goal.returns-clause-only
returns-clause-only c = rw c.first_number.ensures (read_of-only c.args.bytes.now)

pub returns-clause-short : goal.returns-clause-short
returns-clause-short c = rw c.first_number.ensures (short-is c.args.bytes.now, is-short c.args.bytes.now)

pub returns-clause-too_long : goal.returns-clause-too_long
returns-clause-too_long c = rw c.first_number.ensures (too_long-is c.args.bytes.now, is-too_long c.args.bytes.now)

pub returns-clause-too_large : goal.returns-clause-too_large
returns-clause-too_large c = rw c.first_number.ensures (too_large-is c.args.bytes.now, is-too_large c.args.bytes.now)
