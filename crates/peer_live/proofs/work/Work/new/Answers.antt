use Rattle.std.proofs.Common.{option_map}
use Rattle.journal_file.specs.Ties.{kept_of}
use Rattle.peer_live.proofs.StartLemmas.{starts-so}
use Rattle.peer_live.proofs.work.Work.new.Goals as goal

pub returns-clause-shows : goal.returns-clause-shows
returns-clause-shows c =
    starts-so c.in_ok-begun.begun.0 c.send.new.self c.in_ok-begun.begun.1 c.args.file.now (option_map kept_of c.args.kept) c.args.wall c.in_ok-begun.ensures.shows c.in_ok-begun.ensures.cancels c.in_ok-send.ensures
