use Rattle.std.proofs.Common.{◌++◌, ◌∙◌, ap, arith, length}
use Rattle.std.specs.List.{flat_map}
use Rattle.sdnv.specs.Shortest.{spelling}
use Rattle.ltp_segment.specs.Values.{a_report}
use Rattle.ltp_segment.specs.Spelling.{claim_octets, header_octets, report_octets, segment_octets}
use Rattle.ltp_segment.proofs.WritingLemmas.{written, six_appended}
use Rattle.ltp_segment.proofs.writing.write_report.Goals as goal

pub returns : goal.returns
unfolding report_octets segment_octets
returns c =
    written (record {
      originator = c.args.originator;
      session = c.args.session;
      content = a_report (record {
        serial = c.args.serial;
        checkpoint = c.args.checkpoint;
        upper = c.args.upper;
        lower = c.args.lower;
        claims = c.args.claims.now;
      });
    }) c.from_vec.result
    (record { originator = omega arith; session = omega arith; content = c.requires })
    (c.from_vec.ensures ∙ six_appended (header_octets 8 c.args.originator c.args.session)
    (spelling c.args.serial) (spelling c.args.checkpoint) (spelling c.args.upper) (spelling c.args.lower)
    (spelling (length c.args.claims.now)) (flat_map claim_octets c.args.claims.now)
    c.write.new.out.items c.write-2.new.out.items c.write-3.new.out.items c.write-4.new.out.items
    c.write-5.new.out.items c.write_claims.new.out.items
    (c.in_ok-write.ensures.ok ∙ ap (λ v. v ++ spelling c.args.serial) c.in_ok-out.ensures)
    c.in_ok-write-2.ensures.ok c.in_ok-write-3.ensures.ok c.in_ok-write-4.ensures.ok c.in_ok-write-5.ensures.ok
    c.in_ok-write_claims.ensures)
