-- The bundle ended, and is built.
use Rattle.std.proofs.Common.{refl}
use Rattle.wire_fields.proofs.StreamLemmas.{feeds-built}
use Rattle.bundle6.specs.Streaming.{bundles}
use Rattle.bundle6.specs.Holding.{stream_of}
use Rattle.bundle6.proofs.ReaderLemmas.{feeds-unbuilt}
use Rattle.bundle6.proofs.reader.Held.feed.Goals as goal

pub returns-in-Ok-clause-feeds : goal.returns-in-Ok-clause-feeds
returns-in-Ok-clause-feeds c =
    rw c.as_slice-held.ensures.value
    (feeds-built bundles c.args.longest (stream_of c.args.self.now) (stream_of c.pass_over.new.self) c.args.piece.now
    c.near-near.result.now _ c.requires.small c.near-near.ensures refl c.in-Some.end _ c.in-Ok.bundle c.text.result.now _
    (rw c.in-Some.is at c.in_ok-end.ensures).0 c.text.ensures c.in-Ok.ensures.exact c.close.ensures.closed)

pub returns-in-Err-clause-feeds : goal.returns-in-Err-clause-feeds
returns-in-Err-clause-feeds c =
    feeds-unbuilt c.args.longest c.args.self.now c.pass_over.new.self c.args.piece.now c.near-near.result.now _ c.requires.small
    c.near-near.ensures refl c.in-Some.end c.in-Err.fail c.text.result.now _ c.requires.held
    (rw c.in-Some.is at c.in_ok-end.ensures) c.text.ensures c.in-Err.ensures.exact
