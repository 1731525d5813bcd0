-- An entry more in what an audit keeps.

use Rattle.std.proofs.Common.{◌≡◌, ℕ, Bool, true, false, not, ◌&&◌, ◌||◌, ◌==◌, List, ◌∷◌, Option, None, Some, Ok, Err, refl, sym, subst, ◌∙◌, ap, cond, if◌then◌else◌}
use Rattle.std.specs.List.{list_all}
use Rattle.std.specs.Option.{option_map}
use Rattle.std.specs.BTreeMap.{get}
use Rattle.ltp_segment.specs.declared.fault.SegmentCause.{SegmentCause}
use Rattle.ltp_segment.specs.declared.segment.PieceKind.{PieceKind}
use Rattle.ltp_segment.specs.declared.segment.PieceKind.TheVariants as kinds
use Rattle.ltp_segment.specs.Kinds.{is_red, is_checkpoint}
use Rattle.ltp_segment.specs.Values.{PieceValue, ReportValue, ContentValue, SegmentValue, a_piece, a_report, a_report_ack, a_sender_cancel, a_sender_cancel_ack, a_receiver_cancel, a_receiver_cancel_ack}
use Rattle.ltp_segment.specs.Reading.{segment_of}
use Rattle.ltp_session.specs.Cells.{octet_in}
use Rattle.ltp_session.specs.RedPart.{or_else, RedPiece, first_octet}
use Rattle.ltp_audit.specs.declared.audit.Audit.{Audit}
use Rattle.ltp_audit.specs.declared.entry.Entry.{Entry}
use Rattle.ltp_audit.specs.declared.fault.Rule.{Rule}
use Rattle.ltp_audit.specs.declared.fault.Rule.TheVariants as rules
use Rattle.ltp_audit.specs.declared.fault.AuditFault.TheVariants as faults
use Rattle.ltp_audit.specs.Sides.{is_on_its_side}
use Rattle.ltp_audit.specs.Recorded.{said_in, segment_in, if_on_its_side, with_segment, red_pieces, red_piece, agrees, are_alike}
use Rattle.ltp_audit.specs.Rules.{broken_by, fault_of, fault_in, differs, claims_unseen, answers_unseen, acknowledges_unseen, cancel_unseen}
use Rattle.ltp_audit.specs.Adding.{IsKept, is_kept, Answers, Adds}
use Rattle.ltp_audit.specs.Pages.{name_cmp, same_name, with_octets, octet_at, is_marked, is_named, MarkedIf, Marked, Named, LaysOctets}
use Rattle.ltp_audit.specs.Held.{HeldIn, CoversToo}
use Rattle.ltp_audit.specs.Shows.{KeepsOctets, Keeps, KeepsToo, Shows}
use Rattle.ltp_audit.proofs.KeyLemmas.{same_name-is}
use Rattle.ltp_audit.proofs.AlikeLemmas.{agrees-all}
use Rattle.ltp_audit.proofs.RedPartLemmas.{agrees-ext}

or-none : (t b : Bool) → t ≡ false → (t || b) ≡ b
or-none true b is = absurd (cc)
or-none false b is = refl

and-none : (t b : Bool) → b ≡ false → (t && b) ≡ false
and-none true b is = is
and-none false b is = refl

-- ---- a red piece more

red-more : (old new : Audit) (originator session o n : ℕ) (piece : PieceValue) (pieces : List RedPiece) (same : Bool)
    → LaysOctets old.red originator session piece.offset piece.body new.red
    → CoversToo old.red originator session piece.offset piece.body new.red
    → same_name originator session o n ≡ same
    → (same ≡ true → list_all (are_alike (red_piece piece)) pieces ≡ true)
    → KeepsOctets old.red o n pieces
    → KeepsOctets new.red o n (if same then red_piece piece ∷ pieces else pieces)
red-more old new originator session o n piece pieces true lays covers here alike keeps = record {
  octets = λ place. lays o n place ∙ (ap (λ t. with_octets t (octet_at old.red o n place) piece.offset piece.body place) here
      ∙ ap (λ h. or_else h (octet_in piece.offset piece.body place)) (keeps.octets place));
  held = subst (λ t. HeldIn (get name_cmp new.red.held (o, n)) (λ place. with_octets t (first_octet pieces place) piece.offset piece.body place))
      here (covers o n (first_octet pieces) keeps.held);
  alike = (agrees-all pieces (red_piece piece) keeps.alike ∙ alike refl, keeps.alike);
}
red-more old new originator session o n piece pieces false lays covers here alike keeps = record {
  octets = λ place. lays o n place ∙ (ap (λ t. with_octets t (octet_at old.red o n place) piece.offset piece.body place) here ∙ keeps.octets place);
  held = subst (λ t. HeldIn (get name_cmp new.red.held (o, n)) (λ place. with_octets t (first_octet pieces place) piece.offset piece.body place))
      here (covers o n (first_octet pieces) keeps.held);
  alike = keeps.alike;
}

not-false : (a b : Bool) → a ≡ true → (a && not b) ≡ false → b ≡ true
not-false true true is h = refl
not-false true false is h = absurd (cc)
not-false false b is h = absurd (cc)

pub piece-kept : (old new : Audit) (originator session : ℕ) (piece : PieceValue)
    → new.own ≡ old.own → new.peer ≡ old.peer
    → is_red piece.kind ≡ true
    → LaysOctets old.red originator session piece.offset piece.body new.red
    → CoversToo old.red originator session piece.offset piece.body new.red
    → MarkedIf (is_checkpoint piece.kind) old.checkpoints originator session piece.checkpoint new.checkpoints
    → new.reports ≡ old.reports → new.sender_cancels ≡ old.sender_cancels → new.receiver_cancels ≡ old.receiver_cancels
    → KeepsToo old originator session (a_piece piece) new
piece-kept old new originator session piece own peer red lays covers marked reports senders receivers =
    (own, peer, λ o n earlier alike keeps. each o n earlier (same_name originator session o n) refl alike keeps) where
      each : (o n : ℕ) (earlier : List ContentValue) (same : Bool) → same_name originator session o n ≡ same
          → (same ≡ true → differs earlier (a_piece piece) ≡ false)
          → Keeps old o n earlier → Keeps new o n (if same then a_piece piece ∷ earlier else earlier)
      each o n earlier true here alike keeps = record {
        red = rw red (red-more old new originator session o n piece (red_pieces earlier) true lays covers here
            (λ same. not-false (is_red piece.kind) _ red (alike same)) keeps.red);
        checkpoints = λ serial. marked o n serial ∙ (ap (λ t. (is_checkpoint piece.kind && (t && (piece.checkpoint == serial))) || is_marked old.checkpoints o n serial) here
            ∙ ap (λ t. (is_checkpoint piece.kind && (piece.checkpoint == serial)) || t) (keeps.checkpoints serial));
        reports = λ serial. ap (λ m. is_marked m o n serial) reports ∙ keeps.reports serial;
        sender_cancels = ap (λ m. is_named m o n) senders ∙ keeps.sender_cancels;
        receiver_cancels = ap (λ m. is_named m o n) receivers ∙ keeps.receiver_cancels;
      }
      each o n earlier false here alike keeps = record {
        red = red-more old new originator session o n piece (red_pieces earlier) false lays covers here
            (λ same. absurd (let wrong : false ≡ true = same in cc)) keeps.red;
        checkpoints = λ serial. marked o n serial
            ∙ (or-none (is_checkpoint piece.kind && (same_name originator session o n && (piece.checkpoint == serial))) _
            (and-none (is_checkpoint piece.kind) _ (ap (λ t. t && (piece.checkpoint == serial)) here)) ∙ keeps.checkpoints serial);
        reports = λ serial. ap (λ m. is_marked m o n serial) reports ∙ keeps.reports serial;
        sender_cancels = ap (λ m. is_named m o n) senders ∙ keeps.sender_cancels;
        receiver_cancels = ap (λ m. is_named m o n) receivers ∙ keeps.receiver_cancels;
      }

pub piece-kept-as : (old new : Audit) (originator session offset checkpoint : ℕ) (kind : PieceKind) (body : List ℕ) (piece : PieceValue)
    → piece.kind ≡ kind → piece.offset ≡ offset → piece.checkpoint ≡ checkpoint → piece.body ≡ body
    → new.own ≡ old.own → new.peer ≡ old.peer
    → is_red kind ≡ true
    → LaysOctets old.red originator session offset body new.red
    → CoversToo old.red originator session offset body new.red
    → MarkedIf (is_checkpoint kind) old.checkpoints originator session checkpoint new.checkpoints
    → new.reports ≡ old.reports → new.sender_cancels ≡ old.sender_cancels → new.receiver_cancels ≡ old.receiver_cancels
    → KeepsToo old originator session (a_piece piece) new
piece-kept-as old new originator session offset checkpoint kind body piece of_kind at of_checkpoint octets own peer red lays covers marked reports senders receivers =
    piece-kept old new originator session piece own peer (ap is_red of_kind ∙ red)
    (subst (λ b. LaysOctets old.red originator session piece.offset b new.red) (sym octets)
    (subst (λ k. LaysOctets old.red originator session k body new.red) (sym at) lays))
    (subst (λ b. CoversToo old.red originator session piece.offset b new.red) (sym octets)
    (subst (λ k. CoversToo old.red originator session k body new.red) (sym at) covers))
    (subst (λ k. MarkedIf (is_checkpoint piece.kind) old.checkpoints originator session k new.checkpoints) (sym of_checkpoint)
    (subst (λ k. MarkedIf (is_checkpoint k) old.checkpoints originator session checkpoint new.checkpoints) (sym of_kind) marked))
    reports senders receivers

-- whether a red piece differs
pub differs-is : (audit : Audit) (o n : ℕ) (earlier : List ContentValue) (piece : PieceValue) (same : Bool)
    → Keeps audit o n earlier → is_red piece.kind ≡ true → same ≡ agrees (octet_at audit.red o n) piece.offset piece.body
    → not same ≡ differs earlier (a_piece piece)
differs-is audit o n earlier piece same keeps red is =
    ap not (is ∙ (agrees-ext (octet_at audit.red o n) (first_octet (red_pieces earlier)) piece.offset piece.body keeps.red.octets
    ∙ agrees-all (red_pieces earlier) (red_piece piece) keeps.red.alike))
    ∙ rw red refl

-- ---- what is no red piece

-- a green piece is no checkpoint
green-asks : (kind : PieceKind) → is_red kind ≡ false → is_checkpoint kind ≡ false
green-asks kinds.Red green = absurd (cc)
green-asks kinds.RedCheckpoint green = absurd (cc)
green-asks kinds.RedEnd green = absurd (cc)
green-asks kinds.RedEndBlock green = absurd (cc)
green-asks kinds.Green green = refl
green-asks kinds.GreenEndBlock green = refl

pub green-kept : (old : Audit) (originator session : ℕ) (piece : PieceValue) → is_red piece.kind ≡ false
    → KeepsToo old originator session (a_piece piece) old
green-kept old originator session piece green =
    (refl, refl, λ o n earlier alike keeps. each o n earlier (same_name originator session o n) keeps) where
      each : (o n : ℕ) (earlier : List ContentValue) (same : Bool) → Keeps old o n earlier
          → Keeps old o n (if same then a_piece piece ∷ earlier else earlier)
      each o n earlier true keeps = record {
        red = rw green keeps.red;
        checkpoints = λ serial. rw (green-asks piece.kind green) (keeps.checkpoints serial);
        reports = keeps.reports;
        sender_cancels = keeps.sender_cancels;
        receiver_cancels = keeps.receiver_cancels;
      }
      each o n earlier false keeps = keeps

pub report_ack-kept : (old : Audit) (originator session serial : ℕ) → KeepsToo old originator session (a_report_ack serial) old
report_ack-kept old originator session serial =
    (refl, refl, λ o n earlier alike keeps. each o n earlier (same_name originator session o n) keeps) where
      each : (o n : ℕ) (earlier : List ContentValue) (same : Bool) → Keeps old o n earlier
          → Keeps old o n (if same then a_report_ack serial ∷ earlier else earlier)
      each o n earlier true keeps = record {
        red = keeps.red;
        checkpoints = keeps.checkpoints;
        reports = keeps.reports;
        sender_cancels = keeps.sender_cancels;
        receiver_cancels = keeps.receiver_cancels;
      }
      each o n earlier false keeps = keeps

pub sender_cancel_ack-kept : (old : Audit) (originator session : ℕ) → KeepsToo old originator session a_sender_cancel_ack old
sender_cancel_ack-kept old originator session =
    (refl, refl, λ o n earlier alike keeps. each o n earlier (same_name originator session o n) keeps) where
      each : (o n : ℕ) (earlier : List ContentValue) (same : Bool) → Keeps old o n earlier
          → Keeps old o n (if same then a_sender_cancel_ack ∷ earlier else earlier)
      each o n earlier true keeps = record {
        red = keeps.red;
        checkpoints = keeps.checkpoints;
        reports = keeps.reports;
        sender_cancels = keeps.sender_cancels;
        receiver_cancels = keeps.receiver_cancels;
      }
      each o n earlier false keeps = keeps

pub receiver_cancel_ack-kept : (old : Audit) (originator session : ℕ) → KeepsToo old originator session a_receiver_cancel_ack old
receiver_cancel_ack-kept old originator session =
    (refl, refl, λ o n earlier alike keeps. each o n earlier (same_name originator session o n) keeps) where
      each : (o n : ℕ) (earlier : List ContentValue) (same : Bool) → Keeps old o n earlier
          → Keeps old o n (if same then a_receiver_cancel_ack ∷ earlier else earlier)
      each o n earlier true keeps = record {
        red = keeps.red;
        checkpoints = keeps.checkpoints;
        reports = keeps.reports;
        sender_cancels = keeps.sender_cancels;
        receiver_cancels = keeps.receiver_cancels;
      }
      each o n earlier false keeps = keeps

pub report-kept : (old new : Audit) (originator session : ℕ) (report : ReportValue)
    → new.own ≡ old.own → new.peer ≡ old.peer → new.red ≡ old.red → new.checkpoints ≡ old.checkpoints
    → Marked old.reports originator session report.serial new.reports
    → new.sender_cancels ≡ old.sender_cancels → new.receiver_cancels ≡ old.receiver_cancels
    → KeepsToo old originator session (a_report report) new
report-kept old new originator session report own peer red checkpoints marked senders receivers =
    (own, peer, λ o n earlier alike keeps. each o n earlier (same_name originator session o n) refl keeps) where
      each : (o n : ℕ) (earlier : List ContentValue) (same : Bool) → same_name originator session o n ≡ same
          → Keeps old o n earlier → Keeps new o n (if same then a_report report ∷ earlier else earlier)
      each o n earlier true here keeps = record {
        red = subst (λ r. KeepsOctets r o n (red_pieces earlier)) (sym red) keeps.red;
        checkpoints = λ serial. ap (λ m. is_marked m o n serial) checkpoints ∙ keeps.checkpoints serial;
        reports = λ serial. marked o n serial ∙ (ap (λ t. (t && (report.serial == serial)) || is_marked old.reports o n serial) here
            ∙ ap (λ t. (report.serial == serial) || t) (keeps.reports serial));
        sender_cancels = ap (λ m. is_named m o n) senders ∙ keeps.sender_cancels;
        receiver_cancels = ap (λ m. is_named m o n) receivers ∙ keeps.receiver_cancels;
      }
      each o n earlier false here keeps = record {
        red = subst (λ r. KeepsOctets r o n (red_pieces earlier)) (sym red) keeps.red;
        checkpoints = λ serial. ap (λ m. is_marked m o n serial) checkpoints ∙ keeps.checkpoints serial;
        reports = λ serial. marked o n serial ∙ (ap (λ t. (t && (report.serial == serial)) || is_marked old.reports o n serial) here ∙ keeps.reports serial);
        sender_cancels = ap (λ m. is_named m o n) senders ∙ keeps.sender_cancels;
        receiver_cancels = ap (λ m. is_named m o n) receivers ∙ keeps.receiver_cancels;
      }

pub sender_cancel-kept : (old new : Audit) (originator session reason : ℕ)
    → new.own ≡ old.own → new.peer ≡ old.peer → new.red ≡ old.red → new.checkpoints ≡ old.checkpoints → new.reports ≡ old.reports
    → Named old.sender_cancels originator session new.sender_cancels → new.receiver_cancels ≡ old.receiver_cancels
    → KeepsToo old originator session (a_sender_cancel reason) new
sender_cancel-kept old new originator session reason own peer red checkpoints reports named receivers =
    (own, peer, λ o n earlier alike keeps. each o n earlier (same_name originator session o n) refl keeps) where
      each : (o n : ℕ) (earlier : List ContentValue) (same : Bool) → same_name originator session o n ≡ same
          → Keeps old o n earlier → Keeps new o n (if same then a_sender_cancel reason ∷ earlier else earlier)
      each o n earlier true here keeps = record {
        red = subst (λ r. KeepsOctets r o n (red_pieces earlier)) (sym red) keeps.red;
        checkpoints = λ serial. ap (λ m. is_marked m o n serial) checkpoints ∙ keeps.checkpoints serial;
        reports = λ serial. ap (λ m. is_marked m o n serial) reports ∙ keeps.reports serial;
        sender_cancels = named o n ∙ ap (λ t. t || is_named old.sender_cancels o n) here;
        receiver_cancels = ap (λ m. is_named m o n) receivers ∙ keeps.receiver_cancels;
      }
      each o n earlier false here keeps = record {
        red = subst (λ r. KeepsOctets r o n (red_pieces earlier)) (sym red) keeps.red;
        checkpoints = λ serial. ap (λ m. is_marked m o n serial) checkpoints ∙ keeps.checkpoints serial;
        reports = λ serial. ap (λ m. is_marked m o n serial) reports ∙ keeps.reports serial;
        sender_cancels = named o n ∙ (ap (λ t. t || is_named old.sender_cancels o n) here ∙ keeps.sender_cancels);
        receiver_cancels = ap (λ m. is_named m o n) receivers ∙ keeps.receiver_cancels;
      }

pub receiver_cancel-kept : (old new : Audit) (originator session reason : ℕ)
    → new.own ≡ old.own → new.peer ≡ old.peer → new.red ≡ old.red → new.checkpoints ≡ old.checkpoints → new.reports ≡ old.reports
    → new.sender_cancels ≡ old.sender_cancels → Named old.receiver_cancels originator session new.receiver_cancels
    → KeepsToo old originator session (a_receiver_cancel reason) new
receiver_cancel-kept old new originator session reason own peer red checkpoints reports senders named =
    (own, peer, λ o n earlier alike keeps. each o n earlier (same_name originator session o n) refl keeps) where
      each : (o n : ℕ) (earlier : List ContentValue) (same : Bool) → same_name originator session o n ≡ same
          → Keeps old o n earlier → Keeps new o n (if same then a_receiver_cancel reason ∷ earlier else earlier)
      each o n earlier true here keeps = record {
        red = subst (λ r. KeepsOctets r o n (red_pieces earlier)) (sym red) keeps.red;
        checkpoints = λ serial. ap (λ m. is_marked m o n serial) checkpoints ∙ keeps.checkpoints serial;
        reports = λ serial. ap (λ m. is_marked m o n serial) reports ∙ keeps.reports serial;
        sender_cancels = ap (λ m. is_named m o n) senders ∙ keeps.sender_cancels;
        receiver_cancels = named o n ∙ ap (λ t. t || is_named old.receiver_cancels o n) here;
      }
      each o n earlier false here keeps = record {
        red = subst (λ r. KeepsOctets r o n (red_pieces earlier)) (sym red) keeps.red;
        checkpoints = λ serial. ap (λ m. is_marked m o n serial) checkpoints ∙ keeps.checkpoints serial;
        reports = λ serial. ap (λ m. is_marked m o n serial) reports ∙ keeps.reports serial;
        sender_cancels = ap (λ m. is_named m o n) senders ∙ keeps.sender_cancels;
        receiver_cancels = named o n ∙ (ap (λ t. t || is_named old.receiver_cancels o n) here ∙ keeps.receiver_cancels);
      }

-- ---- no rule is broken

chain-none : (a b c d e f : Bool)
    → cond a (Some rules.Side) (cond b (Some rules.ClaimUnseen) (cond c (Some rules.CheckpointUnseen)
    (cond d (Some rules.AckUnseen) (cond e (Some rules.OctetsDiffer) (cond f (Some rules.CancelUnseen) None))))) ≡ None
    → (a ≡ false) × (b ≡ false) × (c ≡ false) × (d ≡ false) × (e ≡ false)
chain-none true b c d e f is = absurd (cc)
chain-none false true c d e f is = absurd (cc)
chain-none false false true d e f is = absurd (cc)
chain-none false false false true e f is = absurd (cc)
chain-none false false false false true f is = absurd (cc)
chain-none false false false false false f is = (refl, refl, refl, refl, refl)

not-is : (t : Bool) → not t ≡ false → t ≡ true
not-is true is = refl
not-is false is = absurd (cc)

pub none-broken : (on_side : Bool) (earlier : List ContentValue) (content : ContentValue)
    → broken_by on_side earlier content ≡ None
    → (on_side ≡ true) × (claims_unseen earlier content ≡ false) × (answers_unseen earlier content ≡ false)
    × (acknowledges_unseen earlier content ≡ false) × (differs earlier content ≡ false)
unfolding broken_by
none-broken on_side earlier content none =
    let parts = chain-none (not on_side) (claims_unseen earlier content) (answers_unseen earlier content)
    (acknowledges_unseen earlier content) (differs earlier content) (cancel_unseen earlier content) none in
    (not-is on_side parts.0, parts.1, parts.2, parts.3, parts.4)

pub segment_in-is : (own peer : ℕ) (entry : Entry) (s : SegmentValue) → segment_of entry.datagram ≡ Ok s
    → is_on_its_side own peer entry.out s ≡ true → segment_in own peer entry ≡ Some s
unfolding segment_in
segment_in-is own peer entry s is side =
    ap (if_on_its_side own peer entry.out) is ∙ ap (λ t. if t then Some s else None) side

-- ---- the first rule that is broken

abbrev chain : Bool → Bool → Bool → Bool → Bool → Bool → Option Rule
chain a b c d e f = cond a (Some rules.Side) (cond b (Some rules.ClaimUnseen) (cond c (Some rules.CheckpointUnseen)
    (cond d (Some rules.AckUnseen) (cond e (Some rules.OctetsDiffer) (cond f (Some rules.CancelUnseen) None)))))

chain-same : (a b c d e f x y z u v w : Bool) → a ≡ x → b ≡ y → c ≡ z → d ≡ u → e ≡ v → f ≡ w → chain a b c d e f ≡ chain x y z u v w
chain-same a b c d e f x y z u v w first second third fourth fifth sixth = rw (first, second, third, fourth, fifth, sixth) refl

pub broken-side : (on_side : Bool) (earlier : List ContentValue) (content : ContentValue) → on_side ≡ false
    → Some rules.Side ≡ broken_by on_side earlier content
unfolding broken_by
broken-side on_side earlier content side =
    sym (chain-same (not on_side) (claims_unseen earlier content) (answers_unseen earlier content) (acknowledges_unseen earlier content)
    (differs earlier content) (cancel_unseen earlier content) true _ _ _ _ _ (ap not side) refl refl refl refl refl)

pub broken-claim : (on_side : Bool) (earlier : List ContentValue) (content : ContentValue) → on_side ≡ true
    → claims_unseen earlier content ≡ true → Some rules.ClaimUnseen ≡ broken_by on_side earlier content
unfolding broken_by
broken-claim on_side earlier content side claim =
    sym (chain-same (not on_side) (claims_unseen earlier content) (answers_unseen earlier content) (acknowledges_unseen earlier content)
    (differs earlier content) (cancel_unseen earlier content) false true _ _ _ _ (ap not side) claim refl refl refl refl)

pub broken-checkpoint : (on_side : Bool) (earlier : List ContentValue) (content : ContentValue) → on_side ≡ true
    → claims_unseen earlier content ≡ false → answers_unseen earlier content ≡ true
    → Some rules.CheckpointUnseen ≡ broken_by on_side earlier content
unfolding broken_by
broken-checkpoint on_side earlier content side claim checkpoint =
    sym (chain-same (not on_side) (claims_unseen earlier content) (answers_unseen earlier content) (acknowledges_unseen earlier content)
    (differs earlier content) (cancel_unseen earlier content) false false true _ _ _ (ap not side) claim checkpoint refl refl refl)

pub broken-ack : (on_side : Bool) (earlier : List ContentValue) (content : ContentValue) → on_side ≡ true
    → claims_unseen earlier content ≡ false → answers_unseen earlier content ≡ false → acknowledges_unseen earlier content ≡ true
    → Some rules.AckUnseen ≡ broken_by on_side earlier content
unfolding broken_by
broken-ack on_side earlier content side claim checkpoint ack =
    sym (chain-same (not on_side) (claims_unseen earlier content) (answers_unseen earlier content) (acknowledges_unseen earlier content)
    (differs earlier content) (cancel_unseen earlier content) false false false true _ _ (ap not side) claim checkpoint ack refl refl)

pub broken-octets : (on_side : Bool) (earlier : List ContentValue) (content : ContentValue) → on_side ≡ true
    → claims_unseen earlier content ≡ false → answers_unseen earlier content ≡ false → acknowledges_unseen earlier content ≡ false
    → differs earlier content ≡ true → Some rules.OctetsDiffer ≡ broken_by on_side earlier content
unfolding broken_by
broken-octets on_side earlier content side claim checkpoint ack octets =
    sym (chain-same (not on_side) (claims_unseen earlier content) (answers_unseen earlier content) (acknowledges_unseen earlier content)
    (differs earlier content) (cancel_unseen earlier content) false false false false true _ (ap not side) claim checkpoint ack octets refl)

pub broken-last : (on_side : Bool) (earlier : List ContentValue) (content : ContentValue) (last : Bool) → on_side ≡ true
    → claims_unseen earlier content ≡ false → answers_unseen earlier content ≡ false → acknowledges_unseen earlier content ≡ false
    → differs earlier content ≡ false → cancel_unseen earlier content ≡ last
    → cond last (Some rules.CancelUnseen) None ≡ broken_by on_side earlier content
unfolding broken_by
broken-last on_side earlier content last side claim checkpoint ack octets cancel =
    sym (chain-same (not on_side) (claims_unseen earlier content) (answers_unseen earlier content) (acknowledges_unseen earlier content)
    (differs earlier content) (cancel_unseen earlier content) false false false false false last (ap not side) claim checkpoint ack octets cancel)

pub side-is : (audit : Audit) (own peer : ℕ) (history : List Entry) (out : Bool) (s : SegmentValue) (result is : Bool)
    → Shows audit own peer history → result ≡ is_on_its_side audit.own audit.peer out s → result ≡ is
    → is_on_its_side own peer out s ≡ is
side-is audit own peer history out s result is shows tested so =
    ap (λ x. is_on_its_side x peer out s) (sym shows.judges)
    ∙ (ap (λ x. is_on_its_side audit.own x out s) (sym shows.with_peer) ∙ (sym tested ∙ so))

-- ---- what an entry is answered

pub answers-form : (Now : List Entry → Type 0) (own peer : ℕ) (history : List Entry) (entry : Entry) (at : ℕ) (cause : SegmentCause)
    → segment_of entry.datagram ≡ Err (at, cause) → Now history → Adds Now own peer history entry (Err (faults.Form at cause))
unfolding fault_of
answers-form Now own peer history entry at cause is now =
    subst (λ r. Answers Now own peer history entry (fault_in own peer history entry.out r) (Err (faults.Form at cause))) (sym is) (refl, now)

pub answers-broken : (Now : List Entry → Type 0) (own peer : ℕ) (history : List Entry) (entry : Entry) (s : SegmentValue) (rule : Rule)
    → segment_of entry.datagram ≡ Ok s
    → Some rule ≡ broken_by (is_on_its_side own peer entry.out s) (said_in own peer history s.originator s.session) s.content
    → Now history → Adds Now own peer history entry (Err (faults.Broken rule))
unfolding fault_of
answers-broken Now own peer history entry s rule is broken now =
    subst (λ r. Answers Now own peer history entry (fault_in own peer history entry.out r) (Err (faults.Broken rule))) (sym is)
    (subst (λ b. Answers Now own peer history entry (option_map faults.Broken b) (Err (faults.Broken rule))) broken (refl, now))

pub answers-kept : (Now : List Entry → Type 0) (own peer : ℕ) (history : List Entry) (entry : Entry) (s : SegmentValue)
    → segment_of entry.datagram ≡ Ok s
    → None ≡ broken_by (is_on_its_side own peer entry.out s) (said_in own peer history s.originator s.session) s.content
    → Now (entry ∷ history) → Adds Now own peer history entry (Ok tt)
unfolding fault_of
answers-kept Now own peer history entry s is none now =
    subst (λ r. Answers Now own peer history entry (fault_in own peer history entry.out r) (Ok tt)) (sym is)
    (subst (λ b. Answers Now own peer history entry (option_map faults.Broken b) (Ok tt)) none now)

pub answers-memory : (Now : List Entry → Type 0) (own peer : ℕ) (history : List Entry) (entry : Entry) (s : SegmentValue)
    → segment_of entry.datagram ≡ Ok s
    → None ≡ broken_by (is_on_its_side own peer entry.out s) (said_in own peer history s.originator s.session) s.content
    → is_kept s.content ≡ true → Adds Now own peer history entry (Err faults.Memory)
unfolding fault_of
answers-memory Now own peer history entry s is none kept =
    let parts = none-broken (is_on_its_side own peer entry.out s) (said_in own peer history s.originator s.session) s.content (sym none) in
    subst (λ r. Answers Now own peer history entry (fault_in own peer history entry.out r) (Err faults.Memory)) (sym is)
    (subst (λ b. Answers Now own peer history entry (option_map faults.Broken b) (Err faults.Memory)) none
    (refl, subst IsKept (sym (segment_in-is own peer entry s is parts.0)) kept))

-- an entry that breaks no rule is accepted
pub shows-more : (old new : Audit) (own peer : ℕ) (history : List Entry) (entry : Entry) (s : SegmentValue)
    → Shows old own peer history → segment_of entry.datagram ≡ Ok s
    → broken_by (is_on_its_side own peer entry.out s) (said_in own peer history s.originator s.session) s.content ≡ None
    → KeepsToo old s.originator s.session s.content new → Shows new own peer (entry ∷ history)
unfolding said_in
shows-more old new own peer history entry s shows is none kept = record {
  judges = kept.0 ∙ shows.judges;
  with_peer = kept.1 ∙ shows.with_peer;
  each = λ o n. subst (λ e. Keeps new o n (with_segment o n e (said_in own peer history o n))) (sym in_it)
      (kept.2 o n (said_in own peer history o n) (λ same. alike o n same) (shows.each o n));
}
  where
    parts : (is_on_its_side own peer entry.out s ≡ true)
        × (claims_unseen (said_in own peer history s.originator s.session) s.content ≡ false)
        × (answers_unseen (said_in own peer history s.originator s.session) s.content ≡ false)
        × (acknowledges_unseen (said_in own peer history s.originator s.session) s.content ≡ false)
        × (differs (said_in own peer history s.originator s.session) s.content ≡ false)
    parts = none-broken (is_on_its_side own peer entry.out s) (said_in own peer history s.originator s.session) s.content none

    in_it : segment_in own peer entry ≡ Some s
    in_it = segment_in-is own peer entry s is parts.0

    alike : (o n : ℕ) → same_name s.originator s.session o n ≡ true → differs (said_in own peer history o n) s.content ≡ false
    alike o n same =
        let names = same_name-is s.originator s.session o n same in
        ap (λ p. differs (said_in own peer history p n) s.content) (sym names.0)
        ∙ (ap (λ p. differs (said_in own peer history s.originator p) s.content) (sym names.1) ∙ parts.4)
