use Rattle.std.proofs.Common.{◌≡◌, None, Some, rules}
use Rattle.bundle_runs.proofs.CheckLemmas.{seven-whole, seven-part, seven-refused}
use Rattle.bundle_runs.proofs.begun.judge7.Goals as goal

pub returns-in-Ok-Some-clause-judges : goal.returns-in-Ok-Some-clause-judges
returns-in-Ok-Some-clause-judges c = λ reader may.
    let same : c.in-Ok-Some.field-0.whole ≡ Some c.in-Ok-Some._size = search rules in
    seven-whole reader c.args.piece.now c.feed.new.self c.in-Ok-Some.field-0 c.in-Ok-Some._size may.1 same
    (c.in-Ok-Some.ensures.feeds may.0.0 reader.stream may.0.2)

pub returns-in-Ok-None-clause-judges : goal.returns-in-Ok-None-clause-judges
returns-in-Ok-None-clause-judges c = λ reader may.
    let same : c.in-Ok-None.field-0.whole ≡ None = search rules in
    seven-part reader c.args.piece.now c.feed.new.self c.in-Ok-None.field-0 may.1 same
    (c.in-Ok-None.ensures.feeds may.0.0 reader.stream may.0.2) c.in-Ok-None.ensures.remembers

pub returns-in-Err-Refused-clause-judges : goal.returns-in-Err-Refused-clause-judges
returns-in-Err-Refused-clause-judges c = λ reader may.
    seven-refused reader c.args.piece.now c.feed.new.self c.in-Err-Refused.at c.in-Err-Refused.cause may.1 may.2
    ((rw c.in-Err-Refused.field-0-is at c.in-Err-Refused.ensures.feeds) may.0.0 reader.stream may.0.2)
