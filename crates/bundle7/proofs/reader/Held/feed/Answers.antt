-- The bundle ended, and is built.
use Rattle.std.proofs.Common.{refl}
use Rattle.wire_fields.proofs.StreamLemmas.{feeds-built}
use Rattle.bundle7.specs.Streaming.{bundles}
use Rattle.bundle7.specs.Holding.{stream_of}
use Rattle.bundle7.proofs.ReaderLemmas.{held-again, feeds-unbuilt, ended-right}
use Rattle.bundle7.proofs.reader.Held.feed.Goals as goal

pub bundle_at-requires-clause-knows : goal.bundle_at-requires-clause-knows
bundle_at-requires-clause-knows c =
    ended-right c.args.self.now c.pass_over.new.self c.near-near.result.now c.in-Some.end c.text.result.now
    (rw c.in-Some.is at c.in_ok-end.ensures) c.text.ensures

pub returns-in-Ok-clause-feeds : goal.returns-in-Ok-clause-feeds
returns-in-Ok-clause-feeds c =
    rw c.as_slice-held.ensures.value
    (feeds-built bundles c.args.longest (stream_of c.args.self.now) (stream_of c.pass_over.new.self) c.args.piece.now
    c.near-near.result.now _ c.requires.small c.near-near.ensures refl c.in-Some.end _ c.in-Ok.bundle c.text.result.now _
    (rw c.in-Some.is at c.in_ok-end.ensures).0 c.text.ensures c.in-Ok.ensures.exact c.close.ensures.closed)

pub returns-in-Err-clause-feeds : goal.returns-in-Err-clause-feeds
returns-in-Err-clause-feeds c =
    feeds-unbuilt c.args.longest c.args.self.now c.pass_over.new.self c.args.piece.now c.near-near.result.now _ c.requires.small
    c.near-near.ensures refl c.in-Some.end c.in-Err.fail c.text.result.now _ c.requires.held
    (rw c.in-Some.is at c.in_ok-end.ensures) c.text.ensures c.in-Err.ensures.exact

pub returns-in-Err-clause-held : goal.returns-in-Err-clause-held
returns-in-Err-clause-held c =
    let ended = rw c.in-Some.is at c.in_ok-end.ensures in
    held-again c.args.self.now _ c.requires.held ended.1
    (rw (c.truncate.ensures.items, c.as_slice-held.ensures.value) ended.0.part) ended.0.before
