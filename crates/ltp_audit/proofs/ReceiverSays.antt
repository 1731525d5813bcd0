-- What a receiver says breaks no rule.

use Rattle.std.proofs.Common.{◌≡◌, ℕ, ◌+◌, ◌-◌, ◌<◌, ◌≤◌, ◌^◌, Bool, true, false, not, ◌==◌, ◌||◌, ◌&&◌}
use Rattle.std.proofs.Common.{List, [], ◌∷◌, length, take, Option, None, Some, is_some, refl, sym, ◌∙◌, ap, arith, subst}
use Rattle.std.proofs.Common.{nat_lt}
use Rattle.std.specs.List.{AllByRecursion, list_any}
use Rattle.std.proofs.lemmas.Bool.Decides.{nat_tests}
use Rattle.ltp_segment.specs.declared.segment.Claim.{Claim}
use Rattle.ltp_segment.specs.Kinds.{is_red, is_checkpoint, ends_red_part}
use Rattle.ltp_segment.specs.Legal.{AreClaims, IsReport}
use Rattle.ltp_segment.specs.Policy.{PolicyValue}
use Rattle.ltp_segment.specs.Values.{PieceValue, ReportValue, ContentValue, a_piece, a_report}
use Rattle.ltp_segment.specs.Values.{a_report_ack, a_sender_cancel, a_sender_cancel_ack}
use Rattle.ltp_segment.specs.Values.{a_receiver_cancel, a_receiver_cancel_ack}
use Rattle.ltp_session.specs.Cells.{cell, filled, filled_places, octet_in, length_after}
use Rattle.ltp_session.specs.Claims.{claims_below, upper_of, report_on, is_whole_claim}
use Rattle.ltp_session.specs.RedPart.{RedPiece, first_octet, or_else}
use Rattle.ltp_session.specs.Receiver.{Receiving, ReceivingPhase, receiver_open, receiver_cancelling, Admission, fresh}
use Rattle.ltp_session.specs.Receiver.{piece_stop, with_red as filled_by, with_handed_up, red_part, bound_of, report_of, rejects, reports}
use Rattle.ltp_session.specs.Receiver.{takes_checkpoint, takes_red, takes_green, is_outside, is_miscoloured, piece_step}
use Rattle.ltp_session.specs.Receiver.{is_cancelling, piece_for, on_piece, acknowledged_in, acknowledged, receiver_answers, receiver_tick}
use Rattle.ltp_session.specs.Step.{StepValue}
use Rattle.ltp_session.specs.Timer.{is_past_serials}
use Rattle.ltp_laws.specs.Claims.{IsFilled}
use Rattle.ltp_laws.specs.Blocks.{IfKnown}
use Rattle.ltp_laws.specs.Kept.{IfKept, IfKeeps}
use Rattle.cells.proofs.CellLemmas.{cell-filled}
use Rattle.ltp_laws.proofs.ClaimLemmas.{report_of-is}
use Rattle.ltp_laws.proofs.ListLemmas.{both_arms, by_arms, answered}
use Rattle.ltp_laws.proofs.TableLemmas.{self_eqb}
use Rattle.ltp_laws.proofs.WalkLemmas.{walk-tick}
use Rattle.ltp_receiver.proofs.ReportLemmas.{upper-legal, end-within}
use Rattle.ltp_audit.specs.Recorded.{red_pieces, red_piece, with_red, are_held, are_claims_held, is_checkpoint_of, is_sender_cancel}
use Rattle.ltp_audit.specs.Knows.{IsSeen, ReceiverMay, Waits, ReceiverKnown}
use Rattle.ltp_audit.proofs.HeldLemmas.{are_held-true, are_held-from}
use Rattle.ltp_audit.proofs.SenderSays.{IsTold}

-- ---- what was seen stays seen

still : (a b : Option ℕ) → is_some a ≡ true → is_some (or_else a b) ≡ true
still None b is = absurd (cc)
still (Some x) b is = refl

either : (a b : Option ℕ) → is_some b ≡ true → is_some (or_else a b) ≡ true
either None b is = is
either (Some x) b is = refl

red-grows : (content : ContentValue) (pieces : List RedPiece) (k : ℕ) → is_some (first_octet pieces k) ≡ true
    → is_some (first_octet (with_red content pieces) k) ≡ true
red-grows (a_piece piece) pieces k is =
    both_arms (λ (ps : List RedPiece). is_some (first_octet ps k) ≡ true) (is_red piece.kind) (red_piece piece ∷ pieces) pieces
    (still (first_octet pieces k) _ is) is
red-grows (a_report report) pieces k is = is
red-grows (a_report_ack serial) pieces k is = is
red-grows (a_sender_cancel reason) pieces k is = is
red-grows a_sender_cancel_ack pieces k is = is
red-grows (a_receiver_cancel reason) pieces k is = is
red-grows a_receiver_cancel_ack pieces k is = is

held-grows : (f g : ℕ → Option ℕ) → ((k : ℕ) → is_some (f k) ≡ true → is_some (g k) ≡ true) → (place n : ℕ)
    → are_held f place n ≡ true → are_held g place n ≡ true
held-grows f g grows place n held = are_held-from g place n (λ k from to. grows k (are_held-true f place n k held from to))

both-parts : (a b : Bool) → (a && b) ≡ true → (a ≡ true) × (b ≡ true)
both-parts true true is = (refl, refl)
both-parts true false is = absurd (cc)
both-parts false b is = absurd (cc)

claims-grow : (f g : ℕ → Option ℕ) → ((k : ℕ) → is_some (f k) ≡ true → is_some (g k) ≡ true) → (lower : ℕ) (claims : List Claim)
    → are_claims_held f lower claims ≡ true → are_claims_held g lower claims ≡ true
claims-grow f g grows lower [] held = refl
claims-grow f g grows lower (claim ∷ claims) held =
    let parts = both-parts (are_held f (lower + claim.offset) claim.length) (are_claims_held f lower claims) held in
    let first = held-grows f g grows (lower + claim.offset) claim.length parts.0 in
    let rest = claims-grow f g grows lower claims parts.1 in
    rw (first, rest) refl

any-grows : (t b : Bool) → b ≡ true → (t || b) ≡ true
any-grows true b is = refl
any-grows false b is = is

seen-grows : (content : ContentValue) (said : List ContentValue) (x : ReportValue) → IsSeen said x → IsSeen (content ∷ said) x
seen-grows content said x seen = record {
  legal = seen.legal;
  claims = claims-grow (first_octet (red_pieces said)) (first_octet (red_pieces (content ∷ said))) (red-grows content (red_pieces said))
      x.lower x.claims seen.claims;
  checkpoint = any-grows (is_checkpoint_of x.checkpoint content) _ seen.checkpoint;
}

pub receiver-may-still : (content : ContentValue) (said : List ContentValue) (c : ContentValue) → ReceiverMay said c
    → ReceiverMay (content ∷ said) c
receiver-may-still content said (a_report x) may = seen-grows content said x may
receiver-may-still content said a_sender_cancel_ack may = any-grows (is_sender_cancel content) _ may
receiver-may-still content said (a_receiver_cancel reason) may = may
receiver-may-still content said (a_piece piece) may = absurd may
receiver-may-still content said (a_report_ack serial) may = absurd may
receiver-may-still content said (a_sender_cancel reason) may = absurd may
receiver-may-still content said a_receiver_cancel_ack may = absurd may

waits-still : (content : ContentValue) (said : List ContentValue) (phase : ReceivingPhase) → Waits said phase → Waits (content ∷ said) phase
waits-still content said (receiver_open None) waits = tt
waits-still content said (receiver_open (Some pending)) waits = seen-grows content said pending.report waits
waits-still content said (receiver_cancelling reason timer) waits = waits

pub known-still : (content : ContentValue) (said : List ContentValue) (r : Receiving) → ReceiverKnown said r → ReceiverKnown (content ∷ said) r
known-still content said r known = record {
  octets = λ k is. red-grows content (red_pieces said) k (known.octets k is);
  known = known.known;
  named = known.named;
  serial = known.serial;
  waits = waits-still content said r.phase known.waits;
}

-- ---- the report of a checkpoint

-- its claims are of filled places
claims-filled : (r : Receiving) (q : PieceValue) → AllByRecursion (IsFilled r.cells) (report_of r q).claims
unfolding report_of
claims-filled r q = by_known r.length refl
  where
    by_known : (known : Option ℕ) → r.length ≡ known → AllByRecursion (IsFilled r.cells) (report_of r q).claims
    by_known None is =
        (report_of-is (piece_stop q) r q (subst (IfKnown (piece_stop q)) (sym is) tt) (omega arith)).1
    by_known (Some end) is =
        let few : PieceValue = record q { offset = 0; body = [] } in
        let same : report_of r few ≡ report_of r q = rw is refl in
        subst (λ (x : ReportValue). AllByRecursion (IsFilled r.cells) x.claims) same
        (report_of-is end r few (subst (IfKnown end) (sym is) refl) (omega arith)).1

filled-held : (f : ℕ → Option ℕ) (cells : List (Option ℕ)) (claims : List Claim)
    → ((k : ℕ) → is_some (cell cells k) ≡ true → is_some (f k) ≡ true) → AllByRecursion (IsFilled cells) claims
    → are_claims_held f 0 claims ≡ true
filled-held f cells [] seen all = refl
filled-held f cells (claim ∷ claims) seen all =
    let first = are_held-from f (0 + claim.offset) claim.length (λ k from to. seen k (all.0 k (omega (arith, from)) (omega (arith, to)))) in
    let rest = filled-held f cells claims seen all.1 in
    rw (first, rest) refl

bound-fits : (known : Option ℕ) (stop : ℕ) → IfKept (λ end. (0 < end) × (end < 2 ^ 64)) known → 0 < stop → stop < 2 ^ 64
    → (0 < bound_of known stop) × (bound_of known stop < 2 ^ 64)
bound-fits None stop known some few = (some, few)
bound-fits (Some end) stop known some few = known

upper-fits : (most upper : ℕ) (cells : List (Option ℕ)) → upper < 2 ^ 64 → upper_of most upper (claims_below upper cells) < 2 ^ 64
unfolding claims_below
upper-fits most upper cells few =
    both_arms (λ (n : ℕ). n < 2 ^ 64) (nat_lt most (length (claims_below upper cells))) _ _
    (omega (arith, end-within most upper (filled_places cells), few)) few

report-legal : (serial checkpoint upper : ℕ) (cells : List (Option ℕ)) → 0 < serial → serial < 2 ^ 64 → checkpoint < 2 ^ 64
    → 0 < upper → upper < 2 ^ 64 → IsReport (report_on serial checkpoint upper cells)
unfolding report_on claims_below
report-legal serial checkpoint upper cells named few few_checkpoint some few_upper =
    let legal = upper-legal 1024 upper (filled_places cells) (omega arith) some in
    let from_first : upper_of 1024 upper (claims_below upper cells) - 0 ≡ upper_of 1024 upper (claims_below upper cells) = omega arith in
    record {
      named = named;
      serial = few;
      checkpoint = few_checkpoint;
      upper = upper-fits 1024 upper cells few_upper;
      bounds = legal.0;
      claims = subst (λ (n : ℕ). AreClaims n 0 (take 1024 (claims_below upper cells))) (sym from_first) legal.1;
    }

of-report : (r : Receiving) (q : PieceValue) → ((report_of r q).lower ≡ 0) × ((report_of r q).checkpoint ≡ q.checkpoint)
unfolding report_of report_on
of-report r q = (refl, refl)

-- what a checkpoint's report says was seen, where the checkpoint was said and all that is filled was seen
report-seen : (said : List ContentValue) (r : Receiving) (q : PieceValue) → ReceiverKnown said r → r.serial < 2 ^ 64 → q.checkpoint < 2 ^ 64
    → 0 < piece_stop q → piece_stop q < 2 ^ 64 → list_any (is_checkpoint_of q.checkpoint) said ≡ true → IsSeen said (report_of r q)
unfolding report_of
report-seen said r q known few few_checkpoint some stops asked = record {
  legal =
      let fits = bound-fits r.length (piece_stop q) known.known some stops in
      report-legal r.serial q.checkpoint (bound_of r.length (piece_stop q)) r.cells known.named few few_checkpoint fits.0 fits.1;
  claims =
      subst (λ (n : ℕ). are_claims_held (first_octet (red_pieces said)) n (report_of r q).claims ≡ true) (sym (of-report r q).0)
      (filled-held (first_octet (red_pieces said)) r.cells (report_of r q).claims known.octets (claims-filled r q));
  checkpoint = subst (λ (n : ℕ). list_any (is_checkpoint_of n) said ≡ true) (sym (of-report r q).1) asked;
}

-- ---- steps

-- a step says what may be said, and what it keeps is known
abbrev pub ReceiverGoes : List ContentValue → StepValue Receiving → Type 0
ReceiverGoes said t = AllByRecursion (ReceiverMay said) t.out × IfKeeps (ReceiverKnown said) t.next

-- a receiver with the same octets, and another phase
turned : (said : List ContentValue) (r : Receiving) (phase : ReceivingPhase) → ReceiverKnown said r → Waits said phase
    → ReceiverKnown said (record r { phase = phase })
turned said r phase known waits = record {
  octets = known.octets;
  known = known.known;
  named = known.named;
  serial = known.serial;
  waits = waits;
}

rejects-goes : (said : List ContentValue) (policy : PolicyValue) (r : Receiving) (reason now : ℕ) (up : Option (List ℕ)) → reason < 256
    → ReceiverKnown said r → ReceiverGoes said (rejects policy r reason now up)
rejects-goes said policy r reason now up few known = ((few, tt), turned said r _ known few)

handed-up : (said : List ContentValue) (r : Receiving) → ReceiverKnown said r → ReceiverKnown said (with_handed_up r)
handed-up said r known = record {
  octets = known.octets;
  known = known.known;
  named = known.named;
  serial = known.serial;
  waits = known.waits;
}

-- a red piece is taken that was said
module _ (said : List ContentValue) (r : Receiving) (q : PieceValue) (known : ReceiverKnown (a_piece q ∷ said) r)
    (red : is_red q.kind ≡ true) (some : 0 < piece_stop q) (stops : piece_stop q < 2 ^ 64) where
  in-said : (k : ℕ) → is_some (octet_in q.offset q.body k) ≡ true → is_some (first_octet (red_pieces (a_piece q ∷ said)) k) ≡ true
  in-said k is =
      by_arms (λ (ps : List RedPiece). is_some (first_octet ps k) ≡ true) (is_red q.kind) (red_piece q ∷ red_pieces said) (red_pieces said)
      (λ here. either (first_octet (red_pieces said) k) _ is) (λ green. absurd (cc))

  by-cell : (a b : Option ℕ) (seen : Bool) → (is_some a ≡ true → seen ≡ true) → (is_some b ≡ true → seen ≡ true)
      → is_some (or_else a b) ≡ true → seen ≡ true
  by-cell None b seen first second is = second is
  by-cell (Some x) b seen first second is = first refl

  after-known : (before : Option ℕ) (ends : Bool) → IfKept (λ end. (0 < end) × (end < 2 ^ 64)) before
      → IfKept (λ end. (0 < end) × (end < 2 ^ 64)) (length_after before ends (piece_stop q))
  after-known (Some end) ends is = is
  after-known None true is = (some, stops)
  after-known None false is = tt

  with-red : ReceiverKnown (a_piece q ∷ said) (filled_by r q)
  with-red = record {
    octets = λ k is. by-cell (cell r.cells k) (octet_in q.offset q.body k) _ (known.octets k) (in-said k)
        (ap is_some (sym (cell-filled r.cells q.offset q.body k)) ∙ is);
    known = after-known r.length (ends_red_part q.kind) known.known;
    named = known.named;
    serial = known.serial;
    waits = known.waits;
  }

not-past : (serial : ℕ) → serial ≤ 2 ^ 32 → (serial == 2 ^ 32) ≡ false → serial + 1 ≤ 2 ^ 32
not-past serial most more = grind (arith, nat_tests)

asked-in : (said : List ContentValue) (q : PieceValue) → is_checkpoint q.kind ≡ true
    → list_any (is_checkpoint_of q.checkpoint) (a_piece q ∷ said) ≡ true
asked-in said q asks = rw (asks, self_eqb q.checkpoint) refl

module _ (policy : PolicyValue) (r : Receiving) (q : PieceValue) (now : ℕ) (said : List ContentValue)
    (known : ReceiverKnown (a_piece q ∷ said) r) (some : 0 < piece_stop q) (stops : piece_stop q < 2 ^ 64) (few : q.checkpoint < 2 ^ 64) where
  reports-go : ReceiverKnown (a_piece q ∷ said) (filled_by r q) → is_checkpoint q.kind ≡ true → is_past_serials r.serial ≡ false
      → ReceiverGoes (a_piece q ∷ said) (reports policy (filled_by r q) (report_of (filled_by r q) q) now)
  reports-go filled asks more =
      let seen = report-seen (a_piece q ∷ said) (filled_by r q) q filled (omega (arith, known.serial)) few some stops (asked-in said q asks) in (
        (seen, tt),
        record {
          octets = filled.octets;
          known = filled.known;
          named = omega arith;
          serial = not-past r.serial known.serial more;
          waits = seen;
        },
      )

  piece-goes : ReceiverGoes (a_piece q ∷ said) (piece_step policy r q now)
  unfolding piece_step
  piece-goes =
      both_arms (ReceiverGoes (a_piece q ∷ said)) (is_outside r q) _ _ (tt, tt)
      (both_arms (ReceiverGoes (a_piece q ∷ said)) (is_miscoloured r q) _ _
      (rejects-goes (a_piece q ∷ said) policy r 3 now None (omega arith) known)
      (by_arms (ReceiverGoes (a_piece q ∷ said)) (is_red q.kind) (takes_red policy (filled_by r q) q now) (takes_green r q)
      (λ red.
      let filled = with-red said r q known red some stops in
      by_arms (ReceiverGoes (a_piece q ∷ said)) (is_checkpoint q.kind) (takes_checkpoint policy (filled_by r q) q now) _
      (λ asks. by_arms (ReceiverGoes (a_piece q ∷ said)) (is_past_serials r.serial) _ _
      (λ past. rejects-goes (a_piece q ∷ said) policy (with_handed_up (filled_by r q)) 4 now (red_part (filled_by r q)) (omega arith)
      (handed-up (a_piece q ∷ said) (filled_by r q) filled))
      (λ more. reports-go filled asks more))
      (λ plain. (tt, handed-up (a_piece q ∷ said) (filled_by r q) filled)))
      (λ green. (
        tt,
        record { octets = known.octets; known = known.known; named = known.named; serial = known.serial; waits = known.waits },
      ))))

fresh-known : (said : List ContentValue) (n : ℕ) → ReceiverKnown said (fresh n)
fresh-known said n = record {
  octets = λ k is. absurd (cc);
  known = tt;
  named = omega arith;
  serial = omega arith;
  waits = tt;
}

-- ---- what comes

not-empty : (size stop most : ℕ) (offset : ℕ) → stop ≡ offset + size → ((size == 0) || nat_lt most stop) ≡ false → 0 < stop
not-empty size stop most offset is part = by (size == 0) refl (nat_lt most stop) part where
  by : (none : Bool) → (size == 0) ≡ none → (past : Bool) → (none || past) ≡ false → 0 < stop
  by true is_none past both = absurd (cc)
  by false is_none past both = grind (arith, nat_tests)

on-piece-goes : (policy : PolicyValue) (place : Admission) (kept : Option Receiving) (q : PieceValue) (now : ℕ) (said : List ContentValue)
    → IfKept (ReceiverKnown (a_piece q ∷ said)) kept → IsTold (a_piece q)
    → ReceiverGoes (a_piece q ∷ said) (on_piece policy place kept q now)
on-piece-goes policy place kept q now said known told =
    both_arms (ReceiverGoes (a_piece q ∷ said)) (not (q.service == 1)) _ _ ((omega arith, tt), tt)
    (by_arms (ReceiverGoes (a_piece q ∷ said)) ((length q.body == 0) || nat_lt place.most (piece_stop q)) _ _ (λ no_part. (tt, tt))
    (λ part. by_kept kept known (not-empty (length q.body) (piece_stop q) place.most q.offset refl part)))
  where
    by_kept : (k : Option Receiving) → IfKept (ReceiverKnown (a_piece q ∷ said)) k → 0 < piece_stop q
        → ReceiverGoes (a_piece q ∷ said) (piece_for policy place k q now)
    by_kept None known some =
        both_arms (ReceiverGoes (a_piece q ∷ said)) (not (is_red q.kind)) _ _ (tt, tt)
        (both_arms (ReceiverGoes (a_piece q ∷ said)) place.closed _ _ (tt, tt)
        (both_arms (ReceiverGoes (a_piece q ∷ said)) place.full _ _ (tt, tt)
        (piece-goes policy (fresh place.session) q now said (fresh-known (a_piece q ∷ said) place.session) some told.0 told.1)))
    by_kept (Some r) known some =
        both_arms (ReceiverGoes (a_piece q ∷ said)) (is_cancelling r.phase) _ _ (tt, tt) (piece-goes policy r q now said known some told.0 told.1)

acknowledged-goes : (r : Receiving) (serial : ℕ) (said : List ContentValue) → ReceiverKnown said r → ReceiverGoes said (acknowledged r serial)
unfolding acknowledged
acknowledged-goes r serial said known = by_phase r.phase
  where
    by_phase : (phase : ReceivingPhase) → ReceiverGoes said (acknowledged_in r phase serial)
    by_phase (receiver_open None) = (tt, known)
    by_phase (receiver_open (Some p)) =
        both_arms (ReceiverGoes said) (p.report.serial == serial) _ _
        (both_arms (ReceiverGoes said) (is_whole_claim r.length p.report.claims) _ _ (tt, tt) (tt, turned said r (receiver_open None) known tt))
        (tt, known)
    by_phase (receiver_cancelling reason timer) = (tt, known)

pub answers-receiver : (policy : PolicyValue) (place : Admission) (kept : Option Receiving) (content : ContentValue) (now : ℕ)
    (t : StepValue Receiving) (said : List ContentValue) → IfKept (ReceiverKnown (content ∷ said)) kept → IsTold content
    → receiver_answers policy place kept content now ≡ Some t → ReceiverGoes (content ∷ said) t
unfolding receiver_answers
answers-receiver policy place kept (a_piece q) now t said known told hears =
    answered (ReceiverGoes (a_piece q ∷ said)) _ t hears (on-piece-goes policy place kept q now said known told)
answers-receiver policy place None (a_report_ack serial) now t said known told hears =
    answered (ReceiverGoes (a_report_ack serial ∷ said)) _ t hears (tt, tt)
answers-receiver policy place (Some r) (a_report_ack serial) now t said known told hears =
    answered (ReceiverGoes (a_report_ack serial ∷ said)) _ t hears (acknowledged-goes r serial (a_report_ack serial ∷ said) known)
answers-receiver policy place None (a_sender_cancel reason) now t said known told hears =
    answered (ReceiverGoes (a_sender_cancel reason ∷ said)) _ t hears ((refl, tt), tt)
answers-receiver policy place (Some r) (a_sender_cancel reason) now t said known told hears =
    answered (ReceiverGoes (a_sender_cancel reason ∷ said)) _ t hears ((refl, tt), tt)
answers-receiver policy place None a_receiver_cancel_ack now t said known told hears =
    answered (ReceiverGoes (a_receiver_cancel_ack ∷ said)) _ t hears (tt, tt)
answers-receiver policy place (Some r) a_receiver_cancel_ack now t said known told hears =
    answered (ReceiverGoes (a_receiver_cancel_ack ∷ said)) _ t hears
    (both_arms (ReceiverGoes (a_receiver_cancel_ack ∷ said)) (is_cancelling r.phase) _ _ (tt, tt) (tt, tt))
answers-receiver policy place kept (a_report x) now t said known told hears = absurd (cc)
answers-receiver policy place kept (a_receiver_cancel reason) now t said known told hears = absurd (cc)
answers-receiver policy place kept a_sender_cancel_ack now t said known told hears = absurd (cc)

pub receiver-tick-goes : (policy : PolicyValue) (r : Receiving) (now : ℕ) (said : List ContentValue) → ReceiverKnown said r
    → ReceiverGoes said (receiver_tick policy r now)
receiver-tick-goes policy r now said known = walk-tick policy r now (ReceiverGoes said) (record {
  early = (tt, tt);
  resent = λ p is.
      let seen : IsSeen said p.report = subst (Waits said) is known.waits in ((seen, tt), turned said r _ known seen);
  timed_out_handed = λ p _ _. (tt, tt);
  timed_out = λ p _ _. rejects-goes said policy r 2 now None (omega arith) known;
  recancelled = λ reason timer is.
      let few : reason < 256 = subst (Waits said) is known.waits in ((few, tt), turned said r _ known few);
  let_go = λ reason timer _. (tt, tt);
})
