use Rattle.std.proofs.Common.{rules}
use Rattle.peer_sessions.specs.Views.{face_keys}
use Rattle.peer_sessions.proofs.StartLemmas.{start-whole, start-cells, start-blocks}
use Rattle.peer_sessions.proofs.parts.Parts.new.Goals as goal

pub returns-clause-whole : goal.returns-clause-whole
returns-clause-whole c =
    let whole = start-whole c.args.keys c.engine.result c.mark_all.new.memory c.new.result c.args.marks.now c.args.now c.requires c.engine.ensures.value c.engine.ensures.bounds (search rules) c.new.ensures in
    record { whole = whole; cells = start-cells (face_keys c.args.keys) c.engine.result c.engine.ensures.value; blocks = start-blocks (face_keys c.args.keys) c.engine.result _ c.engine.ensures.value c.new-2.ensures }
