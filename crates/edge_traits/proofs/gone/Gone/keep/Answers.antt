-- what was kept before, and this datagram behind it where it has room
use Rattle.std.proofs.Common.{rules, ◌≡◌, ◌++◌, [], ◌∷◌, length, sym, refl}
use Rattle.edge_traits.proofs.DatagramsLemmas.{gone-full, gone-wide, gone-more}
use Rattle.edge_traits.proofs.gone.Gone.keep.Goals.{then-self-via-then-self, then-self-via-else-self+then-len-self, then-self-via-else-self+else-len-self+then-room-datagram, then-self-via-else-self+else-len-self+else-room-datagram+then-is_err, then-self-via-else-self+else-len-self+else-room-datagram+else-is_err+then-is_err-2}
use Rattle.edge_traits.proofs.gone.Gone.keep.Goals as goal

pub returns-then-self-clause-gone : goal.returns-then-self-clause-gone
returns-then-self-clause-gone c = elim c.then-self.branch [
  | then-self-via-then-self w ↦ rw (← c.self.view_is, w.if-self.true) refl
  | then-self-via-else-self+then-len-self w ↦
      rw (← c.self.view_is, w.if-self.false) (sym (gone-full c.self.inside.room c.self.inside.lengths.items
      c.self.inside.octets.items c.args.datagram.now (search rules)))
  | then-self-via-else-self+else-len-self+then-room-datagram w ↦
      rw (← c.self.view_is, w.if-self.false) (sym (gone-wide c.self.inside.room c.self.inside.lengths.items
      c.self.inside.octets.items c.args.datagram.now (search rules) (search rules) (search rules)))
  | then-self-via-else-self+else-len-self+else-room-datagram+then-is_err w ↦ search rules
  | then-self-via-else-self+else-len-self+else-room-datagram+else-is_err+then-is_err-2 w ↦ search rules
]

pub returns-else-is_err-2-clause-gone : goal.returns-else-is_err-2-clause-gone
returns-else-is_err-2-clause-gone c =
    let octets : c.extend_from_slice.new.self.items ≡ c.self.inside.octets.items ++ c.args.datagram.now = search rules in
    let lengths : c.push.new.self.items ≡ c.self.inside.lengths.items ++ length c.args.datagram.now ∷ [] = search rules in
    rw (← c.self.view_is, c.if-self.false, octets, lengths)
    (sym (gone-more c.self.inside.room c.self.inside.lengths.items c.self.inside.octets.items c.args.datagram.now
    (search rules) (search rules) (search rules)))
