use Rattle.bundle_runs.proofs.ComingLemmas.{comes-seven}
use Rattle.bundle_runs.proofs.coming.Coming.feed.Goals as goal

pub returns-in_ok-given-in-Seven : goal.returns-in_ok-given-in-Seven
returns-in_ok-given-in-Seven c = λ bundle may.
    rw (c.shown7.ensures, c.in-Seven.is)
    (comes-seven bundle c.args.reader.now c.feed_seven.new.reader c.args.piece.now c.in_ok-given-in-Seven.given (rw c.in-Seven.is at may.0)
    c.in_ok-given-in-Seven.ensures)
