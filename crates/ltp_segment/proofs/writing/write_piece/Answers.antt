use Rattle.std.proofs.Common.{◌++◌, ◌∙◌, ap, arith, length}
use Rattle.sdnv.specs.Shortest.{spelling}
use Rattle.ltp_segment.specs.Kinds.{is_checkpoint}
use Rattle.ltp_segment.specs.Values.{a_piece}
use Rattle.ltp_segment.specs.Spelling.{piece_type, serial_octets, header_octets, piece_octets, segment_octets}
use Rattle.ltp_segment.proofs.WritingLemmas.{written, five_appended}
use Rattle.ltp_segment.proofs.writing.write_piece.Goals as goal

pub returns : goal.returns
unfolding piece_octets segment_octets
returns c =
    let header = rw c.segment_type.ensures at c.in_ok-out.ensures in
    let serials = rw c.is_checkpoint.ensures at c.in_ok-write_serials.ensures in
    written (record {
      originator = c.args.originator;
      session = c.args.session;
      content = a_piece (record {
        kind = c.args.kind;
        service = c.args.service;
        offset = c.args.offset;
        checkpoint = c.args.checkpoint;
        report = c.args.report;
        body = c.args.body.now;
      });
    }) c.from_vec.result
    (record { originator = omega arith; session = omega arith; content = c.requires })
    (c.from_vec.ensures ∙ five_appended (header_octets (piece_type c.args.kind) c.args.originator c.args.session)
    (spelling c.args.service) (spelling c.args.offset) (spelling (length c.args.body.now))
    (serial_octets (is_checkpoint c.args.kind) c.args.checkpoint c.args.report) c.args.body.now
    c.write.new.out.items c.write-2.new.out.items c.write-3.new.out.items c.write_serials.new.out.items
    c.extend_from_slice.new.self.items
    (c.in_ok-write.ensures.ok ∙ ap (λ v. v ++ spelling c.args.service) header)
    c.in_ok-write-2.ensures.ok c.in_ok-write-3.ensures.ok serials c.in_ok-extend_from_slice.ensures.items)
