use Rattle.std.proofs.Common.{refl, arith}
use Rattle.peer_sessions.proofs.KeptBlockLemmas.{blocks-with}
use Rattle.peer_sessions.proofs.StepLemmas.{let-go, let-go-room, let-go-cells}
use Rattle.peer_sessions.proofs.parts.Parts.let_go.Goals as goal

pub close-requires : goal.close-requires
close-requires c = let-go-room c.args.self.now.keys c.args.n c.args.self.now.engine c.args.self.now.memory c.args.self.now.moments (c.requires.whole).whole c.requires.kept

pub returns : goal.returns
returns c =
    let gone = let-go c.args.self.now.keys c.args.n c.args.self.now.engine c.release.new.self c.args.self.now.memory c.close.new.self c.args.self.now.moments c.keep_received.new.self (omega (arith, c.ranges.n.fits))
    (c.requires.whole).whole c.requires.kept c.release.ensures.value c.release.ensures.bounds c.in_ok-close.ensures.ok c.keep_received.ensures in
    record { whole = record { whole = gone.whole; cells = let-go-cells c.args.n c.args.self.now.engine c.release.new.self c.args.self.now.at_most c.release.ensures.value (c.requires.whole).cells; blocks = blocks-with c.args.self.now.engine c.release.new.self _ c.args.self.now.blocks c.args.self.now.blocks c.release.ensures.value refl (c.requires.whole).blocks }; keys = refl; is = gone.state }
