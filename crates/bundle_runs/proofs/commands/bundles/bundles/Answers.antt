use Rattle.std.proofs.Common.{false, []}
use Rattle.edge_traits.specs.Settled.{goes_on}
use Rattle.bundle_runs.specs.declared.commands.command.Command.TheVariants.{Check, Show}
use Rattle.bundle_runs.specs.Answering.{settles_from}
use Rattle.bundle_runs.proofs.FrontsLemmas.{settles-none}
use Rattle.bundle_runs.proofs.commands.bundles.bundles.Goals as goal

pub returns-in-Check : goal.returns-in-Check
returns-in-Check g c = rw c.in-Check.is (record {
  ran = c.drive.ensures (settles_from Check false [] 1 0) c.new-reader.ensures.stands (settles-none Check false [] 1 0 goes_on);
})

pub returns-in-Show : goal.returns-in-Show
returns-in-Show g c = rw c.in-Show.is (record {
  ran = c.drive_parts.ensures.ran (settles_from Show false [] 1 0) c.new-reader-in-Show.ensures.stands (settles-none Show false [] 1 0 goes_on);
})

pub returns-in_default : goal.returns-in_default
returns-in_default g c = record {
  ran = c.drive_parts-in_default.ensures.ran (settles_from c.args.command false [] 1 0) c.new-reader-in_default.ensures.stands (settles-none c.args.command false [] 1 0 goes_on);
}
