use Rattle.toml.specs.View.{members_view}
use Rattle.toml.specs.Data.{table}
use Rattle.toml.proofs.Views.{view-Table}
use Rattle.gate_config.specs.Reading.{AnswersDocument}
use Rattle.gate_config.proofs.ReadingLemmas.{answered_means, answered_fails}
use Rattle.gate_config.proofs.reading.read_text.Goals as goal

pub returns-in-Ok-clause-means : goal.returns-in-Ok-clause-means
returns-in-Ok-clause-means c =
    let answers : AnswersDocument (table (members_view c.in-Ok.table.entries)) c.read_document.result = rw (← view-Table c.in-Ok.table) c.read_document.ensures in
    answered_means c.args.text.now (members_view c.in-Ok.table.entries) c.read_document.result c.in-Ok.ensures.ok answers

pub returns-in-Ok-clause-fails : goal.returns-in-Ok-clause-fails
returns-in-Ok-clause-fails c =
    let answers : AnswersDocument (table (members_view c.in-Ok.table.entries)) c.read_document.result = rw (← view-Table c.in-Ok.table) c.read_document.ensures in
    answered_fails c.args.text.now (members_view c.in-Ok.table.entries) c.read_document.result c.in-Ok.ensures.ok answers
