-- The rows of deliveries to a receiver.

use Rattle.std.proofs.Common.{◌≡◌, ◌≢◌, ℕ, ◌+◌, ◌<◌, ◌≤◌, Bool, true, false, ◌==◌, ◌&&◌, List, []}
use Rattle.std.proofs.Common.{◌∷◌, ◌++◌, length, Option, None, Some, is_some, ◌⊎◌, inl, inr, refl}
use Rattle.std.proofs.Common.{sym, ◌∙◌, ap, arith, subst, nat_lt, nat_le}
use Rattle.std.proofs.lemmas.Bool.{eq-eqb, eqb-false, eqb-true}
use Rattle.ltp_segment.specs.Kinds.{is_red, is_checkpoint, ends_red_part}
use Rattle.ltp_segment.specs.Values.{PieceValue, ReportValue, ContentValue, a_piece, a_report}
use Rattle.ltp_segment.specs.Values.{a_report_ack}
use Rattle.ltp_session.specs.Cells.{cell, filled, length_after}
use Rattle.ltp_session.specs.Claims.{is_whole_claim}
use Rattle.ltp_session.specs.Receiver.{Pending, Admission, Receiving, ReceivingPhase, acknowledged}
use Rattle.ltp_session.specs.Receiver.{acknowledged_in, is_cancelling, piece_stop}
use Rattle.ltp_session.specs.Receiver.{receiver_cancelling, receiver_open, report_of, with_red}
use Rattle.ltp_session.specs.Sender.{Sending, sender_open}
use Rattle.ltp_session.specs.Step.{StepValue, after, ends, keeps, stays}
use Rattle.ltp_session.specs.declared.timer.Timer.{Timer}
use Rattle.ltp_laws.specs.Blocks.{IfKnown, IsContentOf, IsInPart, IsPieceOf, IsReceiverOf}
use Rattle.ltp_laws.specs.Checkpoints.{CheckpointFacts, SomeReport}
use Rattle.ltp_laws.specs.Claims.{IsWhole}
use Rattle.ltp_laws.specs.HandUps.{AllFilled}
use Rattle.ltp_laws.specs.Kept.{IfKept}
use Rattle.ltp_laws.specs.Serials.{SerialFacts, pending_of}
use Rattle.ltp_laws.specs.View.{IsIn, View, receiver_moves}
use Rattle.ltp_laws.proofs.ListLemmas.{by_arms}
use Rattle.ltp_laws.proofs.ReceiverLemmas.{end-within, fresh-is, with_red-is}
use Rattle.ltp_laws.proofs.SerialLemmas.{all-among, among-append, among-left, among-right}
use Rattle.ltp_laws.proofs.StepLemmas.{met}
use Rattle.ltp_laws.proofs.WritableLemmas.{asks-red}
use Rattle.ltp_laws.proofs.HandUpLemmas.{still-known}
use Rattle.ltp_drain.specs.Calm.{Given, Onward, WasAwaited, WasPending}
use Rattle.ltp_drain.specs.Rank.{HasFilled, IsAskedOn, IsReportedOn, Settled, ahead, has_cell}
use Rattle.ltp_drain.specs.Rank.{is_checkpoint_of}
use Rattle.ltp_drain.proofs.PieceForms.{fills_only, report_of-names, Comes, answers}
use Rattle.ltp_drain.proofs.PieceForms.{filled-here, filled-old, passes}
use Rattle.ltp_drain.proofs.PieceForms.{report-whole, takes}
use Rattle.ltp_drain.proofs.RankLemmas.{ahead-front}

-- ---- what is on its way once the oldest of the sender's is delivered

pub asked-rest : (c : ℕ) (e : ContentValue) (new_s new_r out : List ContentValue)
    → is_checkpoint_of c e ≡ false
    → IsAskedOn c (e ∷ new_s) new_r → IsAskedOn c new_s (new_r ++ out)
asked-rest c e new_s new_r out other_one (inl (q, inl here, asks, named)) =
    absurd (let this : is_checkpoint_of c (a_piece q) ≡ true = rw
    (asks, eq-eqb q.checkpoint c named) refl in let it : is_checkpoint_of c e ≡ true =
    ap (is_checkpoint_of c) here ∙ this in cc)
asked-rest c e new_s new_r out other_one (inl (q, inr among, asks, named)) =
    inl (q, among, asks, named)
asked-rest c e new_s new_r out other_one (inr (x, among, named)) =
    inr (x, among-left (a_report x) new_r out among, named)

pub reported-rest : (serial : ℕ) (e : ContentValue) (new_s new_r out : List ContentValue)
    → (e ≡ a_report_ack serial → ⊥)
    → IsReportedOn serial (e ∷ new_s) new_r → IsReportedOn serial new_s (new_r ++ out)
reported-rest serial e new_s new_r out other_one (inl (x, among, is)) =
    inl (x, among-left (a_report x) new_r out among, is)
reported-rest serial e new_s new_r out other_one (inr (inl here)) = absurd (other_one here)
reported-rest serial e new_s new_r out other_one (inr (inr among)) = inr among

pub settled-rest : (red : ℕ) (v v' : View) (c : ℕ) (e : ContentValue) (new_s : List ContentValue)
    → ((x : ReportValue) → IsIn (a_report x) v'.by_receiver → x.checkpoint ≡ c → IsWhole red x)
    → ((i : ℕ) → HasFilled i v.receiver → HasFilled i v'.receiver)
    → ((i : ℕ) → has_cell i e ≡ true → HasFilled i v'.receiver)
    → Settled red v c (e ∷ new_s) → Settled red v' c new_s
settled-rest red v v' c e new_s whole old here settled = record { whole = whole; cells = cells }
  where
    cells : (i : ℕ) → i < red → HasFilled i v'.receiver ⊎ (ahead c i new_s ≡ true)
    cells i low = go (settled.cells i low)
      where
        by_front : (has_cell i e ≡ true) ⊎ ((is_checkpoint_of c e ≡ false)
            × (ahead c i new_s ≡ true)) → HasFilled i v'.receiver ⊎ (ahead c i new_s ≡ true)
        by_front (inl has) = inl (here i has)
        by_front (inr further) = inr further.1

        go : HasFilled i v.receiver ⊎ (ahead c i (e ∷ new_s) ≡ true) → HasFilled i v'.receiver
            ⊎ (ahead c i new_s ≡ true)
        go (inl has) = inl (old i has)
        go (inr on) = by_front (ahead-front c i e new_s on)

filled-met : (session i : ℕ) (o : Option Receiving) → HasFilled i o
    → is_some (cell (met session o).cells i) ≡ true
filled-met session i None has = absurd has
filled-met session i (Some r) has = has

-- nothing more was said
none-more : (x : ReportValue) (said out : List ContentValue) → out ≡ []
    → IsIn (a_report x) (said ++ out) → IsIn (a_report x) said
none-more x said out is among = go (among-append (a_report x) said out among)
  where
    go : IsIn (a_report x) said ⊎ IsIn (a_report x) out → IsIn (a_report x) said
    go (inl before) = before
    go (inr now) = absurd (subst (IsIn (a_report x)) is now)

-- ---- a piece

plain-not : (c : ℕ) (q : PieceValue) → is_checkpoint q.kind ≡ false
    → is_checkpoint_of c (a_piece q) ≡ false
plain-not c q plain = rw plain refl

green-has : (i : ℕ) (q : PieceValue) → is_red q.kind ≡ false → has_cell i (a_piece q) ≡ true → ⊥
green-has i q green_kind has = by (is_red q.kind) green_kind has
  where
    by : (colour : Bool) → colour ≡ false → (colour && nat_le q.offset i && nat_lt i
        (q.offset + length q.body)) ≡ true → ⊥
    by true h has = cc
    by false h has = cc

-- a checkpoint is taken: the length is known, since it ends the red part or a report was sent
-- before
known-then : (block : List ℕ) (red session : ℕ) (v : View) (q : PieceValue)
    → IsReceiverOf block red (met session v.receiver) → IsPieceOf block red q
    → is_checkpoint q.kind ≡ true
    → IsIn (a_piece q) v.by_sender → SerialFacts block red v → CheckpointFacts block red v
    → (v.receiver ≡ None → v.closed ≡ false)
    → length_after (met session v.receiver).length (ends_red_part q.kind) (piece_stop q) ≡ Some
    red
known-then block red session v q is of asks sent reports facts opens =
    by_end (ends_red_part q.kind) refl
  where
    part : IsInPart red true (ends_red_part q.kind) q.offset (piece_stop q)
    part = subst (λ b. IsInPart red b (ends_red_part q.kind) q.offset (piece_stop q))
        (asks-red q.kind asks) of.part

    after_report : (o : Option Receiving) → v.receiver ≡ o → SomeReport v.by_receiver
        → (met session o).length ≡ Some red
    after_report None is some = absurd (reports.unknown is (opens is) some.report some.among)
    after_report (Some r) is some = subst (IfKept (λ r. r.length ≡ Some red)) is
        (facts.known some)

    by_known : (known : Option ℕ) → IfKnown red known → piece_stop q ≡ red
        → ends_red_part q.kind ≡ true → length_after known (ends_red_part q.kind)
        (piece_stop q) ≡ Some red
    by_known None h there last = rw last (ap (λ (n : ℕ). Some n) there)
    by_known (Some end) h there last = ap (λ (n : ℕ). Some n) h

    by_end : (last : Bool) → ends_red_part q.kind ≡ last
        → length_after (met session v.receiver).length (ends_red_part q.kind)
        (piece_stop q) ≡ Some red
    by_end true last = by_known (met session v.receiver).length is.known
        (subst (λ b. IsInPart red true b q.offset (piece_stop q)) last part) last
    by_end false last = still-known red (met session v.receiver).length q
        (after_report v.receiver refl (facts.later q sent asks last))

met-is : (block : List ℕ) (red session : ℕ) (o : Option Receiving)
    → IfKept (IsReceiverOf block red) o → IsReceiverOf block red (met session o)
met-is block red session None is = fresh-is block red session
met-is block red session (Some r) is = is

-- whoever was waited for before
was-pending : (v : View) (session : ℕ) (new_s new_r new_s' new_r' : List ContentValue)
    (p : Pending) → pending_of (met session v.receiver).phase ≡ Some p
    → (IsReportedOn (p.report).serial new_s new_r → IsReportedOn (p.report).serial new_s' new_r')
    → WasPending v new_s new_r new_s' new_r' p
was-pending v session new_s new_r new_s' new_r' p waits still = by_kept v.receiver refl waits
  where
    by_kept : (o : Option Receiving) → v.receiver ≡ o → pending_of (met session o).phase ≡ Some p
        → WasPending v new_s new_r new_s' new_r' p
    by_kept None is waits = absurd (cc)
    by_kept (Some r) is waits = record { r = r; kept = is; waited = waits; still = still }

pub piece-onward : (block : List ℕ) (red : ℕ) (place : Admission) (v : View) (q : PieceValue)
    (new_s new_r : List ContentValue) (t : StepValue Receiving)
    → Given block red place.most v → place.closed ≡ v.closed
    → ((s : Sending) → v.sender ≡ Some s → v.closed ≡ false) → IsIn (a_piece q) v.by_sender
    → Comes place v.receiver q t → Onward red v (receiver_moves v t) (a_piece q ∷ new_s) new_r
    new_s (new_r ++ t.out)
piece-onward block red place v q new_s new_r t given closed unclosed sent
    (passes next out none why) = record {
      reporting = λ r' p kept waits. absurd (let here : v.receiver ≡ Some r' = subst
          (λ ch. after ch v.receiver ≡ Some r') next kept in cc);
      asking = λ s' c timer kept waits. record {
        s = s';
        kept = kept;
        waited = waits;
        same_red = refl;
        same_block = refl;
        still = asked-rest c.checkpoint (a_piece q) new_s new_r t.out
            (plain-not c.checkpoint q (plain s' kept));
        settled = λ settled. settled-rest red v (receiver_moves v t) c.checkpoint
            (a_piece q) new_s
            (λ x among named. settled.whole x (none-more x v.by_receiver t.out out among) named)
            (λ i has. absurd (subst (HasFilled i) none has))
            (λ i has. absurd (green-has i q (green s' kept) has)) settled;
      };
    }
  where
    green : (s : Sending) → v.sender ≡ Some s → is_red q.kind ≡ false
    green s kept = go why
      where
        go : (is_red q.kind ≡ false) ⊎ (place.closed ≡ true) → is_red q.kind ≡ false
        go (inl green_kind) = green_kind
        go (inr shut) = absurd (let open_still = unclosed s kept in cc)

    plain : (s : Sending) → v.sender ≡ Some s → is_checkpoint q.kind ≡ false
    plain s kept = by (is_checkpoint q.kind) refl
      where
        by : (asks : Bool) → is_checkpoint q.kind ≡ asks → asks ≡ false
        by false h = refl
        by true h = absurd (let colour = asks-red q.kind h in let other_colour = green s
            kept in cc)
piece-onward block red place v q new_s new_r t given closed unclosed sent
    (takes opens (fills_only r' plain next out grows phase serial)) = record {
      reporting = λ r'' p kept waits. inr (was-pending v place.session (a_piece q ∷ new_s) new_r
          new_s
          (new_r ++ t.out) p
          (let one : r' ≡ r'' = only r'' kept in ap pending_of (sym phase
          ∙ ap (λ (r : Receiving). r.phase) one) ∙ waits)
          (reported-rest (p.report).serial (a_piece q) new_s new_r t.out (λ h. cc)));
      asking = λ s' c timer kept waits. record {
        s = s';
        kept = kept;
        waited = waits;
        same_red = refl;
        same_block = refl;
        still = asked-rest c.checkpoint (a_piece q) new_s new_r t.out
            (plain-not c.checkpoint q plain);
        settled = λ settled. settled-rest red v (receiver_moves v t) c.checkpoint
            (a_piece q) new_s
            (λ x among named. settled.whole x (none-more x v.by_receiver t.out out among) named)
            (λ i has. filled_now i (grows.old i (filled-met place.session i v.receiver has)))
            (λ i has. filled_now i (grows.here i has)) settled;
      };
    }
  where
    only : (r'' : Receiving) → after t.next v.receiver ≡ Some r'' → r' ≡ r''
    only r'' kept = let here : Some r' ≡ Some r'' =
        subst (λ ch. after ch v.receiver ≡ Some r'') next kept in cc

    filled_now : (i : ℕ) → is_some (cell r'.cells i) ≡ true
        → HasFilled i (after t.next v.receiver)
    filled_now i has = subst (λ ch. HasFilled i (after ch v.receiver)) (sym next) has
piece-onward block red place v q new_s new_r t given closed unclosed sent
    (takes opens (answers r' timer' asks next out grows pending serial)) = record {
      reporting = λ r'' p kept waits. inl (inl (x, told, report_is r'' p kept waits));
      asking = λ s' c timer kept waits. record {
        s = s';
        kept = kept;
        waited = waits;
        same_red = refl;
        same_block = refl;
        still = still c.checkpoint;
        settled = λ settled. settled-rest red v (receiver_moves v t) c.checkpoint
            (a_piece q) new_s
            (whole c.checkpoint settled)
            (λ i has. filled_now i (grows.old i (filled-met place.session i v.receiver has)))
            (λ i has. filled_now i (grows.here i has)) settled;
      };
    }
  where
    r : Receiving
    r = met place.session v.receiver

    x : ReportValue
    x = report_of (with_red (met place.session v.receiver) q) q

    told : IsIn (a_report x) (new_r ++ t.out)
    told = among-right (a_report x) new_r t.out (subst (IsIn (a_report x)) (sym out) (inl refl))

    only : (r'' : Receiving) → after t.next v.receiver ≡ Some r'' → r' ≡ r''
    only r'' kept = let here : Some r' ≡ Some r'' =
        subst (λ ch. after ch v.receiver ≡ Some r'') next kept in cc

    report_is : (r'' : Receiving) (p : Pending) → after t.next v.receiver ≡ Some r''
        → pending_of r''.phase ≡ Some p → x.serial ≡ (p.report).serial
    report_is r'' p kept waits =
        let here : Some (record { report = x; timer = timer' }) ≡ Some p = sym pending
        ∙ ap (λ (r : Receiving). pending_of r.phase) (only r'' kept) ∙ waits in
        let one : record { report = x; timer = timer' } ≡ p = cc in
        ap (λ (p : Pending). (p.report).serial) one

    filled_now : (i : ℕ) → is_some (cell r'.cells i) ≡ true
        → HasFilled i (after t.next v.receiver)
    filled_now i has = subst (λ ch. HasFilled i (after ch v.receiver)) (sym next) has

    names_q : x.checkpoint ≡ q.checkpoint
    names_q = report_of-names (with_red (met place.session v.receiver) q) q

    still : (c : ℕ) → IsAskedOn c (a_piece q ∷ new_s) new_r → IsAskedOn c new_s (new_r ++ t.out)
    still c (inl (p, inl here, asks_p, named)) =
        let one : q ≡ p = cc in
        inr (x, told, names_q ∙ ap (λ (p : PieceValue). p.checkpoint) one ∙ named)
    still c (inl (p, inr among, asks_p, named)) = inl (p, among, asks_p, named)
    still c (inr (y, among, named)) = inr (y, among-left (a_report y) new_r t.out among, named)

    piece : IsPieceOf block red q
    piece = all-among (IsContentOf block red) (a_piece q) v.by_sender ((given.facts).0.0.0).said
        sent

    red_kind : is_red q.kind ≡ true
    red_kind = asks-red q.kind asks

    is_r : IsReceiverOf block red (met place.session v.receiver)
    is_r = met-is block red place.session v.receiver ((given.facts).0.0.0).receiver

    now_r : IsReceiverOf block red (with_red (met place.session v.receiver) q)
    now_r = with_red-is block red (met place.session v.receiver) q is_r piece red_kind

    known : length_after (met place.session v.receiver).length (ends_red_part q.kind)
        (piece_stop q) ≡ Some red
    known = known-then block red place.session v q is_r piece asks sent (given.facts).0.0.1
        (given.facts).1 (λ h. sym closed ∙ (opens h).0)

    some_red : 1 ≤ red
    some_red =
        let within : piece_stop q ≤ red = end-within red (ends_red_part q.kind) q.offset
        (piece_stop q) (subst (λ b. IsInPart red b (ends_red_part q.kind) q.offset
        (piece_stop q)) red_kind piece.part) in
        omega (arith, (given.fit q sent).0, within)

    -- all red cells are filled once the checkpoint that is waited for comes
    all_now : (c : ℕ) → Settled red v c (a_piece q ∷ new_s) → q.checkpoint ≡ c
        → AllFilled red (filled (met place.session v.receiver).cells q.offset q.body)
    all_now c settled named i low = go (settled.cells i low)
      where
        by_front : (has_cell i (a_piece q) ≡ true)
            ⊎ ((is_checkpoint_of c (a_piece q) ≡ false) × (ahead c i new_s ≡ true))
            → is_some (cell (filled (met place.session v.receiver).cells q.offset q.body) i) ≡
            true
        by_front (inl has) = filled-here (met place.session v.receiver).cells q i has
        by_front (inr further) = absurd (let this : is_checkpoint_of c (a_piece q) ≡ true = rw
            (asks, eq-eqb q.checkpoint c named) refl in let not_this = further.0 in cc)

        go : HasFilled i v.receiver ⊎ (ahead c i (a_piece q ∷ new_s) ≡ true)
            → is_some (cell (filled (met place.session v.receiver).cells q.offset q.body) i) ≡
            true
        go (inl has) = filled-old (met place.session v.receiver).cells q.offset q.body i
            (filled-met place.session i v.receiver has)
        go (inr on) = by_front (ahead-front c i (a_piece q) new_s on)

    whole : (c : ℕ) → Settled red v c (a_piece q ∷ new_s) → (y : ReportValue)
        → IsIn (a_report y) (v.by_receiver ++ t.out) → y.checkpoint ≡ c → IsWhole red y
    whole c settled y among named = go (among-append (a_report y) v.by_receiver t.out among)
      where
        fresh_one : IsIn (a_report y) (a_report x ∷ []) → IsWhole red y
        fresh_one (inr none) = absurd none
        fresh_one (inl here) =
            let one : x ≡ y = cc in
            let named_q : q.checkpoint ≡ c = sym names_q
            ∙ ap (λ (z : ReportValue). z.checkpoint) one ∙ named in
            subst (IsWhole red) one (report-whole red (with_red (met place.session v.receiver) q)
            q some_red known now_r.reach (all_now c settled named_q))

        go : IsIn (a_report y) v.by_receiver ⊎ IsIn (a_report y) t.out → IsWhole red y
        go (inl before) = settled.whole y before named
        go (inr now) = fresh_one (subst (IsIn (a_report y)) out now)

-- ---- an acknowledgement of a report

pub data Acks (n : ℕ) (o : Option Receiving) (t : StepValue Receiving) : Type 0 where
  nobody : o ≡ None → t.next ≡ stays → t.out ≡ [] → Acks n o t
  another : (r : Receiving) → o ≡ Some r → t.next ≡ keeps r → t.out ≡ []
      → ((p : Pending) → pending_of r.phase ≡ Some p → (p.report).serial ≢ n) → Acks n o t
  clears : (r r' : Receiving) → o ≡ Some r → t.next ≡ keeps r' → t.out ≡ [] → r'.cells ≡ r.cells
      → r'.handed_up ≡ r.handed_up → r'.serial ≡ r.serial → r'.phase ≡ receiver_open None
      → Acks n o t
  closes : (r : Receiving) (p : Pending) → o ≡ Some r → pending_of r.phase ≡ Some p
      → is_whole_claim r.length (p.report).claims ≡ true → (p.report).serial ≡ n
      → t.next ≡ ends → t.out ≡ [] → Acks n o t

pub acks-kept : (r : Receiving) (n : ℕ) → is_cancelling r.phase ≡ false
    → Acks n (Some r) (acknowledged r n)
unfolding acknowledged
acks-kept r n listening = by_phase r.phase refl listening
  where
    by_phase : (phase : ReceivingPhase) → r.phase ≡ phase → is_cancelling phase ≡ false
        → Acks n (Some r) (acknowledged_in r phase n)
    by_phase (receiver_cancelling reason timer) is still_listens = absurd (cc)
    by_phase (receiver_open None) is still_listens =
        another r refl refl refl (λ p waits. absurd
        (let h : None ≡ Some p = ap pending_of (sym is) ∙ waits in cc))
    by_phase (receiver_open (Some p)) is still_listens =
        by_arms (Acks n (Some r)) ((p.report).serial == n) _ _
        (λ same. by_arms (Acks n (Some r)) (is_whole_claim r.length (p.report).claims) _ _
        (λ whole. closes r p refl (ap pending_of is) whole (eqb-true (p.report).serial n same)
        refl refl)
        (λ part. clears r _ refl refl refl refl refl refl refl))
        (λ other_one. another r refl refl refl (λ p' waits.
        let h : Some p ≡ Some p' = ap pending_of (sym is) ∙ waits in
        let one : p ≡ p' = cc in
        subst (λ (y : Pending). (y.report).serial ≢ n) one
        (eqb-false (p.report).serial n other_one)))

ack-still : (c n : ℕ) (new_s new_r out : List ContentValue)
    → IsAskedOn c (a_report_ack n ∷ new_s) new_r → IsAskedOn c new_s (new_r ++ out)
ack-still c n new_s new_r out = asked-rest c (a_report_ack n) new_s new_r out refl

-- what is filled stays filled
ack-waits : (red n : ℕ) (v : View) (new_s new_r : List ContentValue) (t : StepValue Receiving)
    → t.out ≡ [] → ((i : ℕ) → HasFilled i v.receiver → HasFilled i (after t.next v.receiver))
    → (s' : Sending) (c : PieceValue) (timer : Timer) → v.sender ≡ Some s'
    → s'.phase ≡ sender_open c timer
    → WasAwaited red v (receiver_moves v t) (a_report_ack n ∷ new_s) new_r new_s
    (new_r ++ t.out) s' c timer
ack-waits red n v new_s new_r t out same s' c timer kept waits = record {
  s = s';
  kept = kept;
  waited = waits;
  same_red = refl;
  same_block = refl;
  still = ack-still c.checkpoint n new_s new_r t.out;
  settled = λ settled. settled-rest red v (receiver_moves v t) c.checkpoint (a_report_ack n) new_s
      (λ x among named. settled.whole x (none-more x v.by_receiver t.out out among) named) same
      (λ i has. absurd (cc)) settled;
}

pub ack-onward : (block : List ℕ) (red most n : ℕ) (v : View) (new_s new_r : List ContentValue)
    (t : StepValue Receiving)
    → Given block red most v → IsIn (a_report_ack n) v.by_sender
    → Acks n v.receiver t → Onward red v (receiver_moves v t) (a_report_ack n ∷ new_s) new_r new_s
    (new_r ++ t.out)
ack-onward block red most n v new_s new_r t given sent (nobody none next out) = record {
  reporting = λ r' p kept waits. absurd (let here : v.receiver ≡ Some r' = subst
      (λ ch. after ch v.receiver ≡ Some r') next kept in cc);
  asking = ack-waits red n v new_s new_r t out (λ i has. absurd (subst (HasFilled i) none has));
}
ack-onward block red most n v new_s new_r t given sent (another r is_r next out other_one) =
    record {
      reporting = λ r' p kept waits.
          let here : Some r ≡ Some r' = subst (λ ch. after ch v.receiver ≡ Some r') next kept in
          let one : r ≡ r' = cc in
          let was : pending_of r.phase ≡ Some p = ap (λ (r : Receiving). pending_of r.phase) one
          ∙ waits in
          inr (record {
            r = r;
            kept = is_r;
            waited = was;
            still = reported-rest (p.report).serial
                (a_report_ack n) new_s new_r t.out (λ h. other_one p was
                (let same : n ≡ (p.report).serial = cc in sym same));
          });
      asking = ack-waits red n v new_s new_r t out
          (λ i has. subst (λ ch. HasFilled i (after ch v.receiver)) (sym next)
          (subst (HasFilled i) is_r has));
    }
ack-onward block red most n v new_s new_r t given sent
    (clears r r₂ is_r next out cells handed serial phase) = record {
      reporting = λ r' p kept waits. absurd (
          let here : Some r₂ ≡ Some r' = subst (λ ch. after ch v.receiver ≡ Some r') next kept in
          let one : r₂ ≡ r' = cc in
          let none : None ≡ Some p = ap pending_of (sym phase)
          ∙ ap (λ (r : Receiving). pending_of r.phase) one ∙ waits in cc);
      asking = ack-waits red n v new_s new_r t out
          (λ i has. subst (λ ch. HasFilled i (after ch v.receiver)) (sym next)
          (subst (λ (cs : List (Option ℕ)). is_some (cell cs i) ≡ true) (sym cells)
          (subst (HasFilled i) is_r has)));
    }
ack-onward block red most n v new_s new_r t given sent
    (closes r p is_r pending whole named next out) = record {
      reporting = λ r' p' kept waits. absurd (let here : None ≡ Some r' = subst
          (λ ch. after ch v.receiver ≡ Some r') next kept in cc);
      asking = λ s' c timer kept waits. absurd (given.closes r p is_r pending whole
          (subst (λ m. IsIn (a_report_ack m) v.by_sender) (sym named) sent) s' c timer kept
          waits);
    }
