use Rattle.std.proofs.Common.{[]}
use Rattle.receive_run.specs.KeepReceiving.{nothing_received}
use Rattle.gateway_run.proofs.NamedLemmas.{names-size}
use Rattle.gateway_run.proofs.commands.decoding.decode.Goals as goal

pub returns-in-Receive-clause-ran : goal.returns-in-Receive-clause-ran
returns-in-Receive-clause-ran g c = rw c.in-Receive.is (c.run_lines.ensures.ran [] c.new.ensures)

pub returns-in-KeepReceiving-clause-ran : goal.returns-in-KeepReceiving-clause-ran
returns-in-KeepReceiving-clause-ran g c =
    rw c.in-KeepReceiving.is (c.run_lines-in-KeepReceiving.ensures.ran nothing_received c.new-in-KeepReceiving.ensures)

pub returns-in-Bundles-clause-names : goal.returns-in-Bundles-clause-names
returns-in-Bundles-clause-names g c =
    rw (c.in-Bundles.is, c.ended_with.ensures.status)
    (names-size (g.S.Source.left c.args.source.now) c.bundles.result c.ended_with.result.passed c.ended_with.ensures.passed)
