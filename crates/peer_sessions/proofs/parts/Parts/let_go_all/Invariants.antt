use Rattle.std.proofs.Common.{◌≡◌, ◌≤◌, drop}
use Rattle.ltp_engine.specs.Sessions.{cells_in}
use Rattle.peer_sessions.specs.Blocks.{AreBlocks}
use Rattle.peer_sessions.specs.Sessions.{closes}
use Rattle.peer_sessions.specs.Ties.{state_of}
use Rattle.peer_sessions.proofs.StepLemmas.{Closing}
use Rattle.peer_sessions.proofs.parts.Parts.let_go_all.Given as goal

abbrev pub invariant-closing : goal.invariant-closing
invariant-closing l =
    (l.self.keys ≡ l.initial.self.keys)
    × (cells_in l.self.engine.inbound.receivers ≤ l.self.at_most)
    × AreBlocks l.self.engine l.self.blocks
    × Closing l.self.keys l.self.engine l.self.memory l.self.moments (drop l.n-index l.numbers) (closes l.initial.numbers (state_of l.initial.self))
