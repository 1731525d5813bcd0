use Rattle.std.proofs.Common.{subst}
use Rattle.wire_fields.specs.Reading.{IsOctets}
use Rattle.peer_gateway.proofs.CameLemmas.{kept-small, kept-sized}
use Rattle.peer_gateway.proofs.parts.Parts.add_kept.Goals as goal

pub add-requires-clause-size : goal.add-requires-clause-size
add-requires-clause-size c =
    kept-small c.in_ok-room.room.bounds c.in_ok-room.room.load c.in_ok-size.size c.has_room.result c.has_room.ensures c.if-not-has_room.false

pub add-requires-clause-sized : goal.add-requires-clause-sized
add-requires-clause-sized c =
    kept-sized c.args.self.now.settings c.args.face
    (record {
      octets = c.args.octets;
      size = c.in_ok-size.size;
      came = c.unwrap_or.result;
      added = c.of.result.at;
      is_dated = c.is_some.result;
    })
    (subst IsOctets c.as_slice.ensures c.are_octets.ensures) c.requires.some c.in_ok-size.ensures
    (kept-small c.in_ok-room.room.bounds c.in_ok-room.room.load c.in_ok-size.size c.has_room.result c.has_room.ensures c.if-not-has_room.false)
