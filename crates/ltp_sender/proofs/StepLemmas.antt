-- The steps of a sender, by what their tests say.

use Rattle.std.proofs.Common.{◌≡◌, ◌≢◌, ℕ, ◌+◌, ◌^◌, ◌==◌, Bool, true, false, List, [], ◌∷◌, ◌++◌, length, take, map, Some, None, Option, Result, Ok, Err, refl, sym, ap, subst, ◌∙◌, arith, nat_lt}
use Rattle.std.specs.Prelude.{OnErr}
use Rattle.ltp_segment.specs.declared.session.Step.{Step}
use Rattle.ltp_segment.specs.Policy.{PolicyValue}
use Rattle.ltp_segment.specs.Values.{PieceValue, ReportValue, ContentValue, a_report_ack, a_sender_cancel}
use Rattle.ltp_session.specs.declared.name.SessionName.{SessionName}
use Rattle.ltp_session.specs.declared.timer.Timer.{Timer}
use Rattle.ltp_session.specs.Timer.{first_timer, next_timer, is_due, may_repeat, is_past_serials}
use Rattle.ltp_session.specs.Step.{stays, keeps, ends, StepValue, sending, noting, note_sent, note_bad_bounds, by_system, Sends}
use Rattle.ltp_session.specs.Sender.{SendingPhase, sender_open, sender_cancelling, Sending, sending_timer, segments_of, red_segments, last_segment, checkpoint_at, red_pieces, unclaimed, is_all_claimed, gives_up, next_round, goes_on, with_report, takes_report, report_step, sender_due, sender_tick}
use Rattle.ltp_session.specs.Views.{datagrams_of}
use Rattle.ltp_sender.specs.declared.segments.Segment.{Segment}
use Rattle.ltp_sender.specs.declared.segments.Checkpoint.{Checkpoint}
use Rattle.ltp_sender.specs.declared.kept.Phase.{Phase}
use Rattle.ltp_sender.specs.declared.kept.Phase.TheVariants as phases
use Rattle.ltp_sender.specs.declared.kept.Kept.{Kept}
use Rattle.ltp_sender.specs.Segments.{segment_in, checkpoint_value, IsLast}
use Rattle.ltp_sender.specs.Kept.{phase_value, sending_of, Did, awaited, renewed, with_timer, exhausted}
use Rattle.std.proofs.lemmas.List.{append-nil}
use Rattle.std.proofs.lemmas.Bool.{false_from_ne_true, eqb-true, eq-eqb}
use Rattle.ltp_sender.proofs.Datagrams.{datagrams_of-append}
use Rattle.ltp_sender.proofs.PieceLemmas.{red_pieces-none}

-- ---- a step that is another

pub Did-is : (name : SessionName) (s : Sending) (step other : StepValue Sending) (r : Option Kept × Step) → step ≡ other → Did name s other r → Did name s step r
Did-is name s step other r is did = subst (λ (t : StepValue Sending). Did name s t r) (sym is) did

-- ---- a round

next_round-none : (policy : PolicyValue) (s : Sending) (serial report now : ℕ) (earlier : List ContentValue) → is_past_serials (serial + 1) ≡ false
    → last_segment (unclaimed s.claimed (red_segments policy s.block s.red)) ≡ None
    → next_round policy s serial report now earlier ≡ sending (keeps s) earlier
next_round-none policy s serial report now earlier open_part none = rw (open_part, none) refl

next_round-some : (policy : PolicyValue) (s : Sending) (serial report now : ℕ) (earlier : List ContentValue) (last : ℕ × List ℕ) → is_past_serials (serial + 1) ≡ false
    → last_segment (unclaimed s.claimed (red_segments policy s.block s.red)) ≡ Some last
    → next_round policy s serial report now earlier
    ≡ sending (keeps (record s { phase = sender_open (checkpoint_at (length s.block) s.red (serial + 1) report last) (first_timer policy now) }))
    (earlier ++ red_pieces (checkpoint_at (length s.block) s.red (serial + 1) report) (unclaimed s.claimed (red_segments policy s.block s.red)))
next_round-some policy s serial report now earlier last open_part some = rw (open_part, some) refl

pub next_round-gives_up : (policy : PolicyValue) (s : Sending) (serial report now : ℕ) (earlier : List ContentValue) → is_past_serials (serial + 1) ≡ true
    → next_round policy s serial report now earlier ≡ gives_up policy s by_system now earlier
next_round-gives_up policy s serial report now earlier past = rw past refl

-- what a round sent
pub record SentRound (name : SessionName) (policy : PolicyValue) (s : Sending) (part : List ℕ) (serial report : ℕ) (segments : List Segment) (before out : List (List ℕ)) : Type 0 where
  pub part_is : part ≡ take s.red s.block
  pub length_is : length part ≡ s.red
  pub segments_are : map (segment_in part) segments ≡ unclaimed s.claimed (segments_of policy.segment 0 part)
  pub out_is : out ≡ before ++ datagrams_of name (red_pieces (checkpoint_at (length s.block) (length part) serial report) (map (segment_in part) segments))

round-segments : (name : SessionName) (policy : PolicyValue) (s : Sending) (part : List ℕ) (serial report : ℕ) (segments : List Segment) (before out : List (List ℕ))
    → SentRound name policy s part serial report segments before out → unclaimed s.claimed (red_segments policy s.block s.red) ≡ map (segment_in part) segments
round-segments name policy s part serial report segments before out sent =
    ap (λ p. unclaimed s.claimed (segments_of policy.segment 0 p)) (sym sent.part_is) ∙ sym sent.segments_are

round-out : (name : SessionName) (policy : PolicyValue) (s : Sending) (part : List ℕ) (serial report : ℕ) (segments : List Segment) (before out : List (List ℕ)) (earlier : List ContentValue)
    → before ≡ datagrams_of name earlier → SentRound name policy s part serial report segments before out
    → out ≡ datagrams_of name (earlier ++ red_pieces (checkpoint_at (length s.block) s.red serial report) (unclaimed s.claimed (red_segments policy s.block s.red)))
round-out name policy s part serial report segments before out earlier is sent =
    sent.out_is
    ∙ ap (λ ds. ds ++ datagrams_of name (red_pieces (checkpoint_at (length s.block) (length part) serial report) (map (segment_in part) segments))) is
    ∙ ap (λ n. datagrams_of name earlier ++ datagrams_of name (red_pieces (checkpoint_at (length s.block) n serial report) (map (segment_in part) segments))) sent.length_is
    ∙ ap (λ xs. datagrams_of name earlier ++ datagrams_of name (red_pieces (checkpoint_at (length s.block) s.red serial report) xs))
    (sym (round-segments name policy s part serial report segments before out sent))
    ∙ sym (datagrams_of-append name earlier (red_pieces (checkpoint_at (length s.block) s.red serial report) (unclaimed s.claimed (red_segments policy s.block s.red))))

-- the first of a block, from nothing
pub round-first : (name : SessionName) (policy : PolicyValue) (s : Sending) (part : List ℕ) (serial report : ℕ) (segments : List Segment) (before out : List (List ℕ))
    → before ≡ [] → SentRound name policy s part serial report segments before out
    → out ≡ datagrams_of name (red_pieces (checkpoint_at (length s.block) s.red serial report) (unclaimed s.claimed (red_segments policy s.block s.red)))
round-first name policy s part serial report segments before out none sent = round-out name policy s part serial report segments before out [] none sent

pub last_segment-is : (name : SessionName) (policy : PolicyValue) (s : Sending) (part : List ℕ) (serial report : ℕ) (segments : List Segment) (before out : List (List ℕ)) (o : Option (ℕ × List ℕ))
    → SentRound name policy s part serial report segments before out → last_segment (map (segment_in part) segments) ≡ o
    → last_segment (unclaimed s.claimed (red_segments policy s.block s.red)) ≡ o
last_segment-is name policy s part serial report segments before out o sent last =
    ap (λ xs. last_segment xs) (round-segments name policy s part serial report segments before out sent) ∙ last

pub next_round-ends : (name : SessionName) (policy : PolicyValue) (was s : Sending) (part : List ℕ) (serial report now : ℕ) (segments : List Segment) (before out : List (List ℕ))
    (earlier : List ContentValue) (kept : Kept) (step : Step) → is_past_serials (serial + 1) ≡ false → before ≡ datagrams_of name earlier
    → SentRound name policy s part (serial + 1) report segments before out → last_segment (map (segment_in part) segments) ≡ None
    → length segments ≡ 0
    → sending_of kept ≡ s → step ≡ record { out = out; up = None; green = None; note = None }
    → Did name was (next_round policy s serial report now earlier) (Some kept, step)
next_round-ends name policy was s part serial report now segments before out earlier kept step open_part is sent last none kept_is step_is =
    Did-is name was _ _ (Some kept, step)
    (next_round-none policy s serial report now earlier open_part (last_segment-is name policy s part (serial + 1) report segments before out None sent last))
    (record {
      kept = ap (λ x. Some x) kept_is;
      answer = step_is ∙ ap (λ ds. record { out = ds; up = None; green = None; note = None })
          (sent.out_is ∙ ap (λ cs. before ++ datagrams_of name cs) (red_pieces-none part (checkpoint_at (length s.block) (length part) (serial + 1) report) segments none)
          ∙ append-nil before ∙ is);
    })

pub last_segment-some : (part : List ℕ) (segments : List Segment) → last_segment (map (segment_in part) segments) ≡ None → length segments ≡ 0
unfolding last_segment
last_segment-some part [] none = refl
last_segment-some part (segment ∷ []) none = absurd (cc)
last_segment-some part (segment ∷ next ∷ segments) none = absurd (let more = last_segment-some part (next ∷ segments) none in omega (arith, more))

-- the checkpoint of a round
pub checkpoint-is : (size red serial report : ℕ) (part : List ℕ) (c : Checkpoint) → length part ≡ red → c.serial ≡ serial → c.report ≡ report
    → checkpoint_value size part c ≡ checkpoint_at size red serial report (segment_in part c.segment)
checkpoint-is size red serial report part c length_is serial_is report_is =
    ap (λ n. checkpoint_at size n c.serial c.report (segment_in part c.segment)) length_is
    ∙ ap (λ n. checkpoint_at size red n c.report (segment_in part c.segment)) serial_is
    ∙ ap (λ n. checkpoint_at size red serial n (segment_in part c.segment)) report_is

pub next_round-sends : (name : SessionName) (policy : PolicyValue) (was s : Sending) (part : List ℕ) (serial report now : ℕ) (segments : List Segment) (before out : List (List ℕ))
    (earlier : List ContentValue) (c : Checkpoint) (timer : Timer) (kept : Kept) (step : Step) → is_past_serials (serial + 1) ≡ false → before ≡ datagrams_of name earlier
    → SentRound name policy s part (serial + 1) report segments before out → IsLast part segments (serial + 1) report (Some c)
    → sending_of kept ≡ record s { phase = sender_open (checkpoint_value (length s.block) (take s.red s.block) c) timer } → timer ≡ first_timer policy now
    → step ≡ record { out = out; up = None; green = None; note = None }
    → Did name was (next_round policy s serial report now earlier) (Some kept, step)
next_round-sends name policy was s part serial report now segments before out earlier c timer kept step open_part is sent last kept_is timer_is step_is =
    Did-is name was _ _ (Some kept, step)
    (next_round-some policy s serial report now earlier (segment_in part c.segment) open_part
    (last_segment-is name policy s part (serial + 1) report segments before out (Some (segment_in part c.segment)) sent last.0))
    (record {
      kept = ap (λ x. Some x) (kept_is
          ∙ ap (λ t. record s { phase = sender_open (checkpoint_value (length s.block) (take s.red s.block) c) t }) timer_is
          ∙ ap (λ p. record s { phase = sender_open (checkpoint_value (length s.block) p c) (first_timer policy now) }) (sym sent.part_is)
          ∙ ap (λ piece. record s { phase = sender_open piece (first_timer policy now) })
          (checkpoint-is (length s.block) s.red (serial + 1) report part c sent.length_is last.2 last.3));
      answer = step_is ∙ ap (λ ds. record { out = ds; up = None; green = None; note = None })
          (round-out name policy s part (serial + 1) report segments before out earlier is sent);
    })

-- no serial is left, or one is
pub not_past : (serial : ℕ) → (serial + 1 ≡ 2 ^ 32 → ⊥) → is_past_serials (serial + 1) ≡ false
not_past serial differs = false_from_ne_true (is_past_serials (serial + 1)) (λ same. differs (eqb-true (serial + 1) (2 ^ 32) same))

pub not_same : (m n : ℕ) → (m ≡ n → ⊥) → (m == n) ≡ false
not_same m n differs = false_from_ne_true (m == n) (λ same. differs (eqb-true m n same))

pub is_same : (m n : ℕ) → m ≡ n → (m == n) ≡ true
is_same m n same = eq-eqb m n same

-- ---- a report

pub goes_on-whole : (policy : PolicyValue) (s : Sending) (checkpoint : PieceValue) (report : ReportValue) (now : ℕ) (acks : List ContentValue)
    → is_all_claimed s.claimed ≡ true → goes_on policy s checkpoint report now acks ≡ noting ends acks note_sent
goes_on-whole policy s checkpoint report now acks whole = rw whole refl

pub goes_on-other : (policy : PolicyValue) (s : Sending) (checkpoint : PieceValue) (report : ReportValue) (now : ℕ) (acks : List ContentValue)
    → is_all_claimed s.claimed ≡ false → (report.checkpoint == checkpoint.checkpoint) ≡ false
    → goes_on policy s checkpoint report now acks ≡ sending (keeps s) acks
goes_on-other policy s checkpoint report now acks open_part another = rw (open_part, another) refl

pub goes_on-round : (policy : PolicyValue) (s : Sending) (checkpoint : PieceValue) (report : ReportValue) (now : ℕ) (acks : List ContentValue)
    → is_all_claimed s.claimed ≡ false → (report.checkpoint == checkpoint.checkpoint) ≡ true
    → goes_on policy s checkpoint report now acks ≡ next_round policy s checkpoint.checkpoint report.serial now acks
goes_on-round policy s checkpoint report now acks open_part same = rw (open_part, same) refl

pub report_step-outside : (policy : PolicyValue) (s : Sending) (report : ReportValue) (now : ℕ) → nat_lt s.red report.upper ≡ true
    → report_step policy s report now ≡ noting stays [] note_bad_bounds
unfolding report_step
report_step-outside policy s report now outside = rw outside refl

pub report_step-open : (policy : PolicyValue) (s : Sending) (report : ReportValue) (now : ℕ) (checkpoint : PieceValue) (timer : Timer) → nat_lt s.red report.upper ≡ false
    → s.phase ≡ sender_open checkpoint timer
    → report_step policy s report now ≡ goes_on policy (with_report s report) checkpoint report now (a_report_ack report.serial ∷ [])
unfolding report_step
report_step-open policy s report now checkpoint timer inside is =
    rw inside (ap (λ phase. takes_report policy s phase report now (a_report_ack report.serial ∷ [])) is)

pub report_step-cancelling : (policy : PolicyValue) (s : Sending) (report : ReportValue) (now : ℕ) (reason : ℕ) (timer : Timer) → nat_lt s.red report.upper ≡ false
    → s.phase ≡ sender_cancelling reason timer → report_step policy s report now ≡ sending stays (a_report_ack report.serial ∷ [])
unfolding report_step
report_step-cancelling policy s report now reason timer inside is =
    rw inside (ap (λ phase. takes_report policy s phase report now (a_report_ack report.serial ∷ [])) is)

-- ---- time

sender_due-again : (policy : PolicyValue) (s : Sending) (phase : SendingPhase) (now : ℕ) → may_repeat policy (sending_timer phase) ≡ true
    → sender_due policy s phase now ≡ sending (keeps (record s { phase = renewed phase (next_timer policy (sending_timer phase) now) })) (awaited phase ∷ [])
sender_due-again policy s (sender_open checkpoint timer) now may = rw may refl
sender_due-again policy s (sender_cancelling reason timer) now may = rw may refl

sender_due-over : (policy : PolicyValue) (s : Sending) (phase : SendingPhase) (now : ℕ) → may_repeat policy (sending_timer phase) ≡ false
    → sender_due policy s phase now ≡ exhausted policy s phase now
sender_due-over policy s (sender_open checkpoint timer) now may = rw may refl
sender_due-over policy s (sender_cancelling reason timer) now may = rw may refl

pub sender_tick-early : (policy : PolicyValue) (s : Sending) (now : ℕ) → is_due (sending_timer s.phase) now ≡ false
    → sender_tick policy s now ≡ sending stays []
unfolding sender_tick
sender_tick-early policy s now early = rw early refl

pub sender_tick-again : (policy : PolicyValue) (s : Sending) (now : ℕ) → is_due (sending_timer s.phase) now ≡ true → may_repeat policy (sending_timer s.phase) ≡ true
    → sender_tick policy s now ≡ sending (keeps (with_timer s (next_timer policy (sending_timer s.phase) now))) (awaited s.phase ∷ [])
unfolding sender_tick
sender_tick-again policy s now due may = rw due (sender_due-again policy s s.phase now may)

pub sender_tick-over : (policy : PolicyValue) (s : Sending) (now : ℕ) → is_due (sending_timer s.phase) now ≡ true → may_repeat policy (sending_timer s.phase) ≡ false
    → sender_tick policy s now ≡ exhausted policy s s.phase now
unfolding sender_tick
sender_tick-over policy s now due may = rw due (sender_due-over policy s s.phase now may)

pub exhausted-open : (policy : PolicyValue) (s : Sending) (size : ℕ) (part : List ℕ) (phase : Phase) (checkpoint : Checkpoint) (timer : Timer) (now : ℕ) → phase ≡ phases.Open checkpoint timer
    → exhausted policy s (phase_value size part phase) now ≡ gives_up policy s 2 now []
exhausted-open policy s size part phase checkpoint timer now is = rw is refl

-- ---- steps that send something

some-more : {X : Type 0} (xs : List X) (x : X) → xs ++ x ∷ [] ≢ []
some-more [] x none = cc
some-more (y ∷ ys) x none = cc

pub gives_up-sends : (policy : PolicyValue) (s : Sending) (reason now : ℕ) (earlier : List ContentValue) → Sends (gives_up policy s reason now earlier)
gives_up-sends policy s reason now earlier = some-more earlier (a_sender_cancel reason)

pub Sends-is : (step other : StepValue Sending) → step ≡ other → Sends other → Sends step
Sends-is step other is sends = subst (λ (t : StepValue Sending). Sends t) (sym is) sends

next_round-sends-by : (policy : PolicyValue) (s : Sending) (serial report now ack : ℕ) (past : Bool) (last : Option (ℕ × List ℕ)) → is_past_serials (serial + 1) ≡ past
    → last_segment (unclaimed s.claimed (red_segments policy s.block s.red)) ≡ last → Sends (next_round policy s serial report now (a_report_ack ack ∷ []))
next_round-sends-by policy s serial report now ack true last is is_last =
    Sends-is _ _ (next_round-gives_up policy s serial report now (a_report_ack ack ∷ []) is) (gives_up-sends policy s by_system now (a_report_ack ack ∷ []))
next_round-sends-by policy s serial report now ack false None is is_last =
    Sends-is _ _ (next_round-none policy s serial report now (a_report_ack ack ∷ []) is is_last) (λ none. cc)
next_round-sends-by policy s serial report now ack false (Some last) is is_last =
    Sends-is _ _ (next_round-some policy s serial report now (a_report_ack ack ∷ []) last is is_last) (λ none. cc)

goes_on-sends-by : (policy : PolicyValue) (s : Sending) (checkpoint : PieceValue) (report : ReportValue) (now ack : ℕ) (whole same : Bool) → is_all_claimed s.claimed ≡ whole
    → (report.checkpoint == checkpoint.checkpoint) ≡ same → Sends (goes_on policy s checkpoint report now (a_report_ack ack ∷ []))
goes_on-sends-by policy s checkpoint report now ack true same is is_same_one =
    Sends-is _ _ (goes_on-whole policy s checkpoint report now (a_report_ack ack ∷ []) is) (λ none. cc)
goes_on-sends-by policy s checkpoint report now ack false false is is_same_one =
    Sends-is _ _ (goes_on-other policy s checkpoint report now (a_report_ack ack ∷ []) is is_same_one) (λ none. cc)
goes_on-sends-by policy s checkpoint report now ack false true is is_same_one =
    Sends-is _ _ (goes_on-round policy s checkpoint report now (a_report_ack ack ∷ []) is is_same_one)
    (next_round-sends-by policy s checkpoint.checkpoint report.serial now ack (is_past_serials (checkpoint.checkpoint + 1))
    (last_segment (unclaimed s.claimed (red_segments policy s.block s.red))) refl refl)

report_step-sends-by : (policy : PolicyValue) (s : Sending) (report : ReportValue) (now : ℕ) (phase : SendingPhase) → nat_lt s.red report.upper ≡ false → s.phase ≡ phase
    → Sends (report_step policy s report now)
report_step-sends-by policy s report now (sender_open checkpoint timer) inside is =
    Sends-is _ _ (report_step-open policy s report now checkpoint timer inside is)
    (goes_on-sends-by policy (with_report s report) checkpoint report now report.serial (is_all_claimed (with_report s report).claimed)
    (report.checkpoint == checkpoint.checkpoint) refl refl)
report_step-sends-by policy s report now (sender_cancelling reason timer) inside is =
    Sends-is _ _ (report_step-cancelling policy s report now reason timer inside is) (λ none. cc)

-- a report within the bounds is answered
pub report_step-sends : (policy : PolicyValue) (s : Sending) (report : ReportValue) (now : ℕ) → nat_lt s.red report.upper ≡ false → Sends (report_step policy s report now)
report_step-sends policy s report now inside = report_step-sends-by policy s report now s.phase inside refl

pub sender_tick-sends : (policy : PolicyValue) (s : Sending) (now : ℕ) → is_due (sending_timer s.phase) now ≡ true → may_repeat policy (sending_timer s.phase) ≡ true
    → Sends (sender_tick policy s now)
sender_tick-sends policy s now due may = Sends-is _ _ (sender_tick-again policy s now due may) (λ none. cc)

-- what holds anyway holds where a result is an error
pub OnErr-of : {T E : Type 0} (r : Result T E) (P : Type 0) → P → OnErr r P
OnErr-of (Ok x) P p = tt
OnErr-of (Err e) P p = p
