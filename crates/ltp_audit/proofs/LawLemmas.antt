-- What an entry has that has no fault.

use Rattle.std.proofs.Common.{◌≡◌, ℕ, ◌+◌, ◌<◌, ◌≤◌, Bool, true, false, not, ◌&&◌, ◌||◌, ◌==◌, List, [], ◌∷◌, Option, None, Some, Result, Ok, Err, is_some, refl, sym, subst, ◌∙◌, ap, arith, inl, inr, ◌⊎◌, nat_le, nat_lt}
use Rattle.std.proofs.lemmas.Bool.{eqb-true}
use Rattle.std.proofs.lemmas.Bool.Decides.{nat_tests}
use Rattle.std.specs.List.{list_any}
use Rattle.std.specs.Option.{option_map}
use Rattle.spans.specs.Places.{is_in}
use Rattle.ltp_segment.specs.declared.fault.SegmentCause.{SegmentCause}
use Rattle.ltp_segment.specs.declared.segment.Claim.{Claim}
use Rattle.ltp_segment.specs.Values.{ReportValue, SegmentValue, a_report, a_report_ack}
use Rattle.ltp_segment.specs.Reading.{segment_of}
use Rattle.ltp_session.specs.RedPart.{first_octet}
use Rattle.ltp_audit.specs.declared.entry.Entry.{Entry}
use Rattle.ltp_audit.specs.declared.fault.Rule.{Rule}
use Rattle.ltp_audit.specs.declared.fault.AuditFault.TheVariants as faults
use Rattle.ltp_audit.specs.Sides.{is_on_its_side}
use Rattle.ltp_audit.specs.Recorded.{said_in, segment_in, red_pieces, are_held, are_claims_held, is_report_of, is_checkpoint_of}
use Rattle.ltp_audit.specs.Rules.{broken_by, fault_of, fault_in, claims_unseen, answers_unseen, acknowledges_unseen}
use Rattle.ltp_audit.specs.Laws.{IsAccepted, is_claimed}
use Rattle.ltp_audit.proofs.AuditLemmas.{none-broken, segment_in-is}
use Rattle.ltp_audit.proofs.HeldLemmas.{are_held-true}

-- an entry that has no fault is a segment that breaks no rule
record IsKept (own peer : ℕ) (history : List Entry) (entry : Entry) : Type 0 where
  s : SegmentValue
  is : segment_of entry.datagram ≡ Ok s
  side : is_on_its_side own peer entry.out s ≡ true
  claims : claims_unseen (said_in own peer history s.originator s.session) s.content ≡ false
  answers : answers_unseen (said_in own peer history s.originator s.session) s.content ≡ false
  acknowledges : acknowledges_unseen (said_in own peer history s.originator s.session) s.content ≡ false

no-rule : (b : Option Rule) → option_map faults.Broken b ≡ None → b ≡ None
no-rule None is = refl
no-rule (Some rule) is = absurd (cc)

kept : (own peer : ℕ) (history : List Entry) (entry : Entry) → fault_of own peer history entry ≡ None → IsKept own peer history entry
unfolding fault_of
kept own peer history entry none = by (segment_of entry.datagram) refl none where
  by : (r : Result SegmentValue (ℕ × SegmentCause)) → segment_of entry.datagram ≡ r
      → fault_in own peer history entry.out r ≡ None → IsKept own peer history entry
  by (Err refusal) is none = absurd (cc)
  by (Ok s) is none =
      let rules = none-broken (is_on_its_side own peer entry.out s) (said_in own peer history s.originator s.session) s.content
      (no-rule (broken_by (is_on_its_side own peer entry.out s) (said_in own peer history s.originator s.session) s.content) none) in
      record { s = s; is = is; side = rules.0; claims = rules.1; answers = rules.2; acknowledges = rules.3 }

pub accepts_segments : (own peer : ℕ) (history : List Entry) (entry : Entry)
    → fault_of own peer history entry ≡ None → is_some (segment_in own peer entry) ≡ true
accepts_segments own peer history entry none =
    let k = kept own peer history entry none in
    ap is_some (segment_in-is own peer entry k.s k.is k.side)

same-some : {X : Type 0} (x y : X) → Some x ≡ Some y → x ≡ y
same-some x y is = cc

-- the rules over the segment that it is
kept-as : (own peer : ℕ) (history : List Entry) (entry : Entry) (s : SegmentValue) → IsAccepted own peer history entry s
    → (claims_unseen (said_in own peer history s.originator s.session) s.content ≡ false)
    × (answers_unseen (said_in own peer history s.originator s.session) s.content ≡ false)
    × (acknowledges_unseen (said_in own peer history s.originator s.session) s.content ≡ false)
kept-as own peer history entry s accepted =
    let k = kept own peer history entry accepted.faultless in
    let same : k.s ≡ s = same-some k.s s (sym (segment_in-is own peer entry k.s k.is k.side) ∙ accepted.segment) in
    subst (λ t. (claims_unseen (said_in own peer history t.originator t.session) t.content ≡ false)
    × (answers_unseen (said_in own peer history t.originator t.session) t.content ≡ false)
    × (acknowledges_unseen (said_in own peer history t.originator t.session) t.content ≡ false)) same (k.claims, k.answers, k.acknowledges)

not-false : (b : Bool) → not b ≡ false → b ≡ true
not-false true is = refl
not-false false is = absurd (cc)

both-true : (a b : Bool) → (a && b) ≡ true → (a ≡ true) × (b ≡ true)
both-true true true h = (refl, refl)
both-true true false h = absurd (cc)
both-true false b h = absurd (cc)

claims-each : (octet : ℕ → Option ℕ) (lower : ℕ) (claims : List Claim) (place : ℕ) → are_claims_held octet lower claims ≡ true
    → is_claimed lower claims place ≡ true → is_some (octet place) ≡ true
claims-each octet lower [] place held claimed = absurd (cc)
claims-each octet lower (claim ∷ claims) place held claimed =
    let parts = both-true (are_held octet (lower + claim.offset) claim.length) (are_claims_held octet lower claims) held in
    by parts.0 (is_in (lower + claim.offset) (lower + claim.offset + claim.length) place) refl claimed
    (λ later. claims-each octet lower claims place parts.1 later) where
      by : are_held octet (lower + claim.offset) claim.length ≡ true
          → (t : Bool) → is_in (lower + claim.offset) (lower + claim.offset + claim.length) place ≡ t → (t || is_claimed lower claims place) ≡ true
          → (is_claimed lower claims place ≡ true → is_some (octet place) ≡ true) → is_some (octet place) ≡ true
      by first true inside any later =
          let ends = both-true (nat_le (lower + claim.offset) place) (nat_lt place (lower + claim.offset + claim.length)) inside in
          let from : lower + claim.offset ≤ place = grind (arith, nat_tests) in
          let to : place < lower + claim.offset + claim.length = grind (arith, nat_tests) in
          are_held-true octet (lower + claim.offset) claim.length place first from to
      by first false outside any later = later any

pub claims_were_seen : (own peer : ℕ) (history : List Entry) (entry : Entry) (s : SegmentValue) (report : ReportValue)
    → IsAccepted own peer history entry s → s.content ≡ a_report report
    → (place : ℕ) → is_claimed report.lower report.claims place ≡ true
    → is_some (first_octet (red_pieces (said_in own peer history s.originator s.session)) place) ≡ true
claims_were_seen own peer history entry s report accepted is place claimed =
    let rules = kept-as own peer history entry s accepted in
    claims-each (first_octet (red_pieces (said_in own peer history s.originator s.session))) report.lower report.claims place
    (not-false _ (ap (claims_unseen (said_in own peer history s.originator s.session)) (sym is) ∙ rules.0)) claimed

pub answered_were_seen : (own peer : ℕ) (history : List Entry) (entry : Entry) (s : SegmentValue) (report : ReportValue)
    → IsAccepted own peer history entry s → s.content ≡ a_report report
    → (report.checkpoint ≡ 0)
    ⊎ (list_any (is_checkpoint_of report.checkpoint) (said_in own peer history s.originator s.session) ≡ true)
answered_were_seen own peer history entry s report accepted is =
    let rules = kept-as own peer history entry s accepted in
    by (report.checkpoint == 0) refl
    (list_any (is_checkpoint_of report.checkpoint) (said_in own peer history s.originator s.session)) refl
    (ap (answers_unseen (said_in own peer history s.originator s.session)) (sym is) ∙ rules.1) where
      by : (a : Bool) → (report.checkpoint == 0) ≡ a
          → (b : Bool) → list_any (is_checkpoint_of report.checkpoint) (said_in own peer history s.originator s.session) ≡ b
          → (not a && not b) ≡ false
          → (report.checkpoint ≡ 0) ⊎ (list_any (is_checkpoint_of report.checkpoint) (said_in own peer history s.originator s.session) ≡ true)
      by true none b seen_is both = inl (eqb-true report.checkpoint 0 none)
      by false some true seen_is both = inr seen_is
      by false some false seen_is both = absurd (cc)

pub acknowledged_were_seen : (own peer : ℕ) (history : List Entry) (entry : Entry) (s : SegmentValue) (serial : ℕ)
    → IsAccepted own peer history entry s → s.content ≡ a_report_ack serial
    → list_any (is_report_of serial) (said_in own peer history s.originator s.session) ≡ true
acknowledged_were_seen own peer history entry s serial accepted is =
    let rules = kept-as own peer history entry s accepted in
    not-false _ (ap (acknowledges_unseen (said_in own peer history s.originator s.session)) (sym is) ∙ rules.2)
