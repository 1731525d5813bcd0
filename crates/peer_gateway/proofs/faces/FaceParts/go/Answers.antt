use Rattle.std.proofs.Common.{◌∙◌, arith}
use Rattle.peer_gateway.specs.Faces.{keys_at, face_of}
use Rattle.peer_gateway.proofs.FaceLemmas.{taken-octets, went-ok}
use Rattle.peer_gateway.proofs.GoingLemmas.{go-next}
use Rattle.peer_gateway.proofs.faces.FaceParts.go.Goals as goal

pub send-requires-clause-some : goal.send-requires-clause-some
send-requires-clause-some c =
    (taken-octets c.args.self.now c.take.new.self c.args.until c.args.leaves c.in_ok-taken.taken.items c.as_slice.result.now c.requires.whole c.ranges.leaves.fits
    (go-next (keys_at c.args.self.now) c.args.until (face_of c.args.self.now) c.requires.next).some c.in_ok-taken.ensures
    (c.as_slice.ensures ∙ c.in_ok-block.ensures)).0

pub send-requires-clause-most : goal.send-requires-clause-most
send-requires-clause-most c =
    (taken-octets c.args.self.now c.take.new.self c.args.until c.args.leaves c.in_ok-taken.taken.items c.as_slice.result.now c.requires.whole c.ranges.leaves.fits
    (go-next (keys_at c.args.self.now) c.args.until (face_of c.args.self.now) c.requires.next).some c.in_ok-taken.ensures
    (c.as_slice.ensures ∙ c.in_ok-block.ensures)).1

pub returns : goal.returns
returns c =
    went-ok c.args.self.now c.take.new.self c.send.new.self (record { at = c.args.now; leaves = c.args.leaves }) c.args.until c.len-pieces.result c.len.result
    c.next_session-session.result c.args.answer.now c.send.new.answer c.tell_begun.new.answer c.begin.new.self c.in_ok-taken.taken.items c.in_ok-block.block
    c.as_slice.result.now c.begin.result c.in_ok-taken.ensures c.in_ok-block.ensures c.as_slice.ensures c.in_ok-send.ensures c.in_ok-tell_begun.ensures
    c.begin.ensures c.next_session-session.ensures
    (omega (arith, c.len-pieces.ensures, c.in_ok-taken.taken.ok.0, c.in_ok-taken.taken.ok.1)) c.len.ensures
