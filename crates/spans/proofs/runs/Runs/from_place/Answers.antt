use Rattle.std.proofs.lemmas.List.{take_rest}
use Rattle.spans.proofs.Reaching.{IsAhead-there, from_there-drop}
use Rattle.spans.proofs.runs.Runs.from_place.Goals as goal

pub invariant_of-result : goal.invariant_of-result
invariant_of-result c =
    rw (take_rest c.args.chunks.now c.args.place.chunk)
    (IsAhead-there c.args.chunks.now c.args.place.chunk c.args.place.at c.requires.filled c.requires.at)

pub returns : goal.returns
returns c =
    rw (take_rest c.args.chunks.now c.args.place.chunk)
    (from_there-drop c.args.chunks.now c.args.place.chunk c.args.place.at)
