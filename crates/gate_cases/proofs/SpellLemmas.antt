-- The report that is asked for, and the bundle with it, are legal.
use Rattle.std.proofs.Common.{◌≡◌, ℕ, ◌+◌, ◌<◌, ◌^◌, Bool, true, false, if◌then◌else◌, List, [], ◌∷◌, length, None, All, refl, arith}
use Rattle.std.proofs.lemmas.List.Elements.{All-nil, All-cons}
use Rattle.endpoint.specs.declared.name.Endpoint.{Endpoint}
use Rattle.endpoint.specs.Endpoints.{IsEndpoint, is_singleton}
use Rattle.bundle6.specs.declared.block.Block6.{Block6}
use Rattle.bundle6.specs.Bits.{has_bit}
use Rattle.bundle6.specs.Legal as six
use Rattle.bundle_meaning.specs.declared.creation.Id6.{Id6}
use Rattle.bundle_meaning.specs.declared.creation.Id7.{Id7}
use Rattle.bundle_meaning.specs.declared.report.Stamp.TheVariants.{No}
use Rattle.bundle_meaning.specs.Reports.{IsStamp}
use Rattle.status_reports.specs.Fields.{is_set}
use Rattle.status_reports.specs.Table6.{is_status}
use Rattle.status_reports.specs.Legal.{IsTime, AreTimes, IsReport6, IsReport7}
use Rattle.gate_cases.specs.declared.report.AskedReport.{AskedReport}
use Rattle.gate_cases.specs.declared.report.Statuses.{Statuses}
use Rattle.gate_cases.specs.Bundles.{time6_if, times6_of, report6_of, bundle6_with, stamp_if, report7_of}
use Rattle.gate_cases.specs.Promises.{IsAskable}

-- ---- version 6

octet : Bool → Bool → Bool → ℕ
octet received forwarded deleted = (if received then 1 else 0) + (if forwarded then 4 else 0) + (if deleted then 16 else 0)

-- what the octet of three statuses says
record Says (r f d : Bool) : Type 0 where
  status : is_status (octet r f d) ≡ true
  received : is_set 1 (octet r f d) ≡ r
  forwarded : is_set 4 (octet r f d) ≡ f
  delivered : is_set 8 (octet r f d) ≡ false
  deleted : is_set 16 (octet r f d) ≡ d

says : (r f d : Bool) → Says r f d
unfolding octet
says true true true = record { status = refl; received = refl; forwarded = refl; delivered = refl; deleted = refl }
says true true false = record { status = refl; received = refl; forwarded = refl; delivered = refl; deleted = refl }
says true false true = record { status = refl; received = refl; forwarded = refl; delivered = refl; deleted = refl }
says true false false = record { status = refl; received = refl; forwarded = refl; delivered = refl; deleted = refl }
says false true true = record { status = refl; received = refl; forwarded = refl; delivered = refl; deleted = refl }
says false true false = record { status = refl; received = refl; forwarded = refl; delivered = refl; deleted = refl }
says false false true = record { status = refl; received = refl; forwarded = refl; delivered = refl; deleted = refl }
says false false false = record { status = refl; received = refl; forwarded = refl; delivered = refl; deleted = refl }

time-is : (set : Bool) (now : ℕ) → now < 2 ^ 62 → IsTime set (time6_if set now)
time-is true now soon = (omega (arith, soon), omega arith)
time-is false now soon = refl

times-are : (statuses : Statuses) (now : ℕ) → now < 2 ^ 62
    → AreTimes (octet statuses.received statuses.forwarded statuses.deleted) (times6_of statuses now)
times-are statuses now soon =
    let s = says statuses.received statuses.forwarded statuses.deleted in record {
      four = refl;
      received = rw s.received (time-is statuses.received now soon);
      forwarded = rw s.forwarded (time-is statuses.forwarded now soon);
      delivered = rw s.delivered refl;
      deleted = rw s.deleted (time-is statuses.deleted now soon);
    }

pub report6-legal : (asked : AskedReport) (subject : Id6) (now : ℕ) → IsAskable asked → subject.seconds < 2 ^ 64 → subject.sequence < 2 ^ 64
    → now < 2 ^ 62 → IsReport6 (report6_of asked subject now)
unfolding octet
report6-legal asked subject now askable seconds sequence soon = record {
  status = (says asked.statuses.received asked.statuses.forwarded asked.statuses.deleted).status;
  reason = askable.reason;
  fragment = askable.fragment;
  times = times-are asked.statuses now soon;
  seconds = seconds;
  sequence = sequence;
  source = askable.source;
}

flags-small : (t : Bool) → 0x82 + (if t then 0x10 else 0) < 2 ^ 64
flags-small true = omega arith
flags-small false = omega arith

no-fragment : (t : Bool) → has_bit 0 (0x82 + (if t then 0x10 else 0)) ≡ false
no-fragment true = refl
no-fragment false = refl

pub bundle6-legal : (gate : Endpoint) (counter now : ℕ) (asked : AskedReport) (body : List ℕ) → IsAskable asked → IsEndpoint gate
    → counter < 2 ^ 32 → now < 2 ^ 62 → length body < 2 ^ 64 → six.IsLegal (bundle6_with gate counter now asked body)
bundle6-legal gate counter now asked body askable legal few soon size =
    let block : Block6 = record { kind = 1; flags = 0; refs = []; body = body } in record {
      primary = record {
        flags = flags-small (is_singleton asked.report_to);
        destination = askable.report_to;
        source = legal;
        report_to = tt;
        custodian = tt;
        seconds = omega (arith, soon);
        sequence = omega (arith, few, soon);
        lifetime = omega arith;
        fragment_bit = no-fragment (is_singleton asked.report_to);
        fragment = tt;
      };
      blocks = All-cons six.IsLegalBlock block [] (record {
        kind = omega arith;
        flags = omega arith;
        last_bit = refl;
        refs_bit = refl;
        refs = All-nil IsEndpoint;
        count = omega arith;
        size = size;
      }) (All-nil six.IsLegalBlock);
      one_payload = refl;
      others_are_few = omega arith;
      within = All-cons (six.IsWithin None) block [] tt (All-nil (six.IsWithin None));
    }

-- ---- version 7

stamp-is : (set timed : Bool) (now : ℕ) → now < 2 ^ 62 → IsStamp (stamp_if set timed now)
stamp-is true true now soon = omega (arith, soon)
stamp-is true false now soon = tt
stamp-is false timed now soon = tt

stamps-are : (received forwarded deleted timed : Bool) (now : ℕ) → now < 2 ^ 62
    → All IsStamp (stamp_if received timed now ∷ stamp_if forwarded timed now ∷ No ∷ stamp_if deleted timed now ∷ [])
stamps-are received forwarded deleted timed now soon =
    let d = stamp_if deleted timed now in
    let f = stamp_if forwarded timed now in
    All-cons IsStamp (stamp_if received timed now) (f ∷ No ∷ d ∷ []) (stamp-is received timed now soon)
    (All-cons IsStamp f (No ∷ d ∷ []) (stamp-is forwarded timed now soon)
    (All-cons IsStamp No (d ∷ []) tt (All-cons IsStamp d [] (stamp-is deleted timed now soon) (All-nil IsStamp))))

pub report7-legal : (asked : AskedReport) (subject : Id7) (now : ℕ) → IsAskable asked → subject.millis < 2 ^ 64 → subject.sequence < 2 ^ 64
    → now < 2 ^ 62 → IsReport7 (report7_of asked subject now)
report7-legal asked subject now askable millis sequence soon = record {
  four = refl;
  stamps = stamps-are asked.statuses.received asked.statuses.forwarded asked.statuses.deleted asked.timed now soon;
  reason = askable.reason;
  source = askable.source;
  millis = millis;
  sequence = sequence;
  fragment = askable.fragment;
}
