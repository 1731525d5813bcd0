use Rattle.bundle_runs.proofs.bundle_reader.BundleReader.new.Goals as goal

pub returns-clause-stands : goal.returns-clause-stands
returns-clause-stands c = c.new.ensures.stands
