-- The bundle ended.
use Rattle.std.proofs.Common.{refl}
use Rattle.wire_fields.proofs.StreamLemmas.{judges-whole}
use Rattle.bundle7.specs.Streaming.{bundles}
use Rattle.bundle7.specs.Holding.{stream_of}
use Rattle.bundle7.proofs.reader.Held.judge.Goals as goal

pub returns-clause-feeds : goal.returns-clause-feeds
returns-clause-feeds c =
    rw c.as_slice-held.ensures.value
    (judges-whole bundles c.args.longest (stream_of c.args.self.now) (stream_of c.pass_over.new.self) c.args.piece.now
    c.near-near.result.now _ c.requires.small c.near-near.ensures refl c.in-Some.end _ (rw c.in-Some.is at c.in_ok-end.ensures).0
    c.close.ensures.closed)
