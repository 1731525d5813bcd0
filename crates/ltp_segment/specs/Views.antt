-- A segment as its datagram lends it, seen as a value.

use Rattle.ltp_segment.specs.declared.segment.Segment.{Segment}
use Rattle.ltp_segment.specs.declared.segment.Content.{Content}
use Rattle.ltp_segment.specs.declared.segment.Content.TheVariants as contents
use Rattle.ltp_segment.specs.declared.session.PieceView.{PieceView}
use Rattle.ltp_segment.specs.declared.session.ReportView.{ReportView}
use Rattle.ltp_segment.specs.Claims.{claims_left}
use Rattle.ltp_segment.specs.Values.{PieceValue, ReportValue, ContentValue, a_piece, a_report}
use Rattle.ltp_segment.specs.Values.{a_report_ack, a_sender_cancel, a_sender_cancel_ack}
use Rattle.ltp_segment.specs.Values.{a_receiver_cancel, a_receiver_cancel_ack, SegmentValue}

abbrev pub piece_value : PieceView → PieceValue
piece_value p = record {
  kind = p.kind;
  service = p.service;
  offset = p.offset;
  checkpoint = p.checkpoint;
  report = p.report;
  body = p.body.now;
}

abbrev pub report_value : ReportView → ReportValue
report_value r = record {
  serial = r.serial;
  checkpoint = r.checkpoint;
  upper = r.upper;
  lower = r.lower;
  claims = claims_left r.claims;
}

abbrev pub content_value : Content → ContentValue
content_value (contents.Piece kind service offset checkpoint report body) = a_piece (record {
  kind = kind;
  service = service;
  offset = offset;
  checkpoint = checkpoint;
  report = report;
  body = body.now;
})
content_value (contents.Report serial checkpoint upper lower claims) = a_report (record {
  serial = serial;
  checkpoint = checkpoint;
  upper = upper;
  lower = lower;
  claims = claims_left claims;
})
content_value (contents.ReportAck serial) = a_report_ack serial
content_value (contents.SenderCancel reason) = a_sender_cancel reason
content_value contents.SenderCancelAck = a_sender_cancel_ack
content_value (contents.ReceiverCancel reason) = a_receiver_cancel reason
content_value contents.ReceiverCancelAck = a_receiver_cancel_ack

abbrev pub segment_value : Segment → SegmentValue
segment_value s = record {
  originator = s.originator;
  session = s.session;
  content = content_value s.content;
}
