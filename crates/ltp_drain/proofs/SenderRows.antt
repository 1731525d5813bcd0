-- The rows of deliveries to a sender.

use Rattle.std.proofs.Common.{◌≡◌, ◌≢◌, ℕ, suc, ◌+◌, ◌<◌, ◌≤◌, Bool, true, false, ◌==◌, List, []}
use Rattle.std.proofs.Common.{◌∷◌, ◌++◌, length, take, Option, None, Some, ◌⊎◌, inl, inr, refl}
use Rattle.std.proofs.Common.{sym, ◌∙◌, ap, arith, subst, nat_lt}
use Rattle.std.proofs.lemmas.Bool.{eqb-false, eqb-true}
use Rattle.std.proofs.lemmas.Bool.Decides.{nat_tests}
use Rattle.std.proofs.lemmas.List.{length-take}
use Rattle.std.specs.Prelude.{slice_index_or}
use Rattle.ltp_segment.specs.Policy.{PolicyValue}
use Rattle.ltp_segment.specs.Values.{PieceValue, ReportValue, ContentValue, a_piece, a_report}
use Rattle.ltp_segment.specs.Values.{a_report_ack}
use Rattle.ltp_session.specs.Claims.{with_claims}
use Rattle.ltp_session.specs.Sender.{with_report, Sending, checkpoint_at, is_all_claimed}
use Rattle.ltp_session.specs.Sender.{last_segment, next_round, report_step, segments_of}
use Rattle.ltp_session.specs.Sender.{sender_open, sends_again, takes_report, unclaimed}
use Rattle.ltp_session.specs.Step.{note_sent, StepValue, after, ends, keeps}
use Rattle.ltp_session.specs.Timer.{is_past_serials, first_timer}
use Rattle.ltp_session.specs.declared.timer.Timer.{Timer}
use Rattle.ltp_laws.specs.SenderSteps.{Rounds}
use Rattle.ltp_laws.specs.View.{IsIn, View, sender_moves}
use Rattle.ltp_laws.proofs.AckLemmas.{length-claims}
use Rattle.ltp_laws.proofs.ListLemmas.{by_arms}
use Rattle.ltp_laws.proofs.SerialLemmas.{among-left, among-right}
use Rattle.ltp_laws.proofs.WholeLemmas.{HasPart, cut-has}
use Rattle.ltp_drain.specs.Calm.{Onward}
use Rattle.ltp_drain.specs.Rank.{HasFilled, IsAskedOn, IsReportedOn, Settled, ahead}
use Rattle.ltp_drain.proofs.PieceForms.{only_false}
use Rattle.ltp_drain.proofs.RankLemmas.{ahead-append, unclaimed-has}

-- ---- places

pub record OpenPlace (places : List Bool) : Type 0 where
  pub i : ℕ
  pub within : i < length places
  pub is : slice_index_or places i false ≡ false

pub open-place : (places : List Bool) → is_all_claimed places ≡ false → OpenPlace places
open-place [] is = absurd (cc)
open-place (false ∷ bs) is = record { i = 0; within = omega arith; is = refl }
open-place (true ∷ bs) is =
    let rest = open-place bs is in
    record { i = suc rest.i; within = omega (arith, rest.within); is = rest.is }

pub has-last : (p : ℕ × List ℕ) (ps : List (ℕ × List ℕ)) → last_segment (p ∷ ps) ≡ None → ⊥
unfolding last_segment
has-last p [] none = cc
has-last p (q ∷ qs) none = has-last q qs none

last-some : (i : ℕ) (parts : List (ℕ × List ℕ)) → HasPart i parts → last_segment parts ≡ None → ⊥
last-some i [] has none = has
last-some i (part ∷ parts) has none = has-last part parts none

-- ---- what a waiting sender does about a report within its bounds

pub data Told (policy : PolicyValue) (s : Sending) (x : ReportValue) (t : StepValue Sending) :
    Type 0 where
  completes : is_all_claimed (with_claims x.lower x.claims s.claimed) ≡ true → t.next ≡ ends
      → t.out ≡ a_report_ack x.serial ∷ []
      → t.note ≡ Some note_sent → Told policy s x t
  adds_only : (s' : Sending) (c : PieceValue) (timer : Timer) → t.next ≡ keeps s'
      → t.out ≡ a_report_ack x.serial ∷ [] → s.phase ≡ sender_open c timer → s'.phase ≡ s.phase
      → s'.red ≡ s.red → s'.block ≡ s.block → length s'.claimed ≡ length s.claimed
      → x.checkpoint ≢ c.checkpoint → Told policy s x t
  asks_again : (s' : Sending) → t.next ≡ keeps s' → (on : Rounds (a_report x) s s' t.out)
      → on.z ≡ policy.segment → s'.red ≡ s.red → s'.block ≡ s.block
      → length s'.claimed ≡ length s.claimed → Told policy s x t

told-round : (policy : PolicyValue) (s : Sending) (c : PieceValue) (timer : Timer)
    (x : ReportValue) (now : ℕ) → s.phase ≡ sender_open c timer
    → 1 ≤ policy.segment → length s.claimed ≡ s.red → s.red ≤ length s.block
    → is_past_serials (c.checkpoint + 1) ≡ false
    → is_all_claimed (with_claims x.lower x.claims s.claimed) ≡ false
    → x.checkpoint ≡ c.checkpoint
    → Told policy s x (next_round policy (with_report s x) c.checkpoint x.serial now
    (a_report_ack x.serial ∷ []))
told-round policy s c timer x now waited cuts size within low open_part names =
    only_false (Told policy s x) (is_past_serials (c.checkpoint + 1)) _ _ low
    (by_last (last_segment parts) refl)
  where
    parts : List (ℕ × List ℕ)
    parts = unclaimed (with_claims x.lower x.claims s.claimed)
        (segments_of policy.segment 0 (take s.red s.block))

    place : OpenPlace (with_claims x.lower x.claims s.claimed)
    place = open-place (with_claims x.lower x.claims s.claimed) open_part

    some_part : last_segment parts ≡ None → ⊥
    some_part = last-some place.i parts (unclaimed-has (with_claims x.lower x.claims s.claimed)
        (segments_of policy.segment 0 (take s.red s.block)) place.i place.is
        (cut-has policy.segment (length (take s.red s.block)) 0 (take s.red s.block) place.i cuts
        (omega arith) (omega arith)
        (omega (
          arith,
          length-take s.red s.block,
          place.within,
          length-claims x.lower x.claims
              s.claimed,
          size,
          within,
        ))))

    by_last : (o : Option (ℕ × List ℕ)) → last_segment parts ≡ o
        → Told policy s x (sends_again policy (with_report s x) now parts
        (checkpoint_at (length s.block) s.red (c.checkpoint + 1) x.serial) o
        (a_report_ack x.serial ∷ []))
    by_last None is = absurd (some_part is)
    by_last (Some part) is = asks_again _ refl (record {
      adds = record { report = x; told = record { is = refl }; claimed = refl };
      c = c;
      timer = timer;
      waited = waited;
      names = names;
      unclaimed = open_part;
      z = policy.segment;
      parts = parts;
      parts_are = refl;
      part = part;
      last = is;
      timer' = first_timer policy now;
      waits = refl;
      sends = refl;
    }) refl refl refl (length-claims x.lower x.claims s.claimed)

pub report-told : (policy : PolicyValue) (s : Sending) (c : PieceValue) (timer : Timer)
    (x : ReportValue) (now : ℕ) → s.phase ≡ sender_open c timer
    → 1 ≤ policy.segment → length s.claimed ≡ s.red → s.red ≤ length s.block
    → is_past_serials (c.checkpoint + 1) ≡ false → x.upper ≤ s.red
    → Told policy s x (report_step policy s x now)
unfolding report_step
report-told policy s c timer x now waited cuts size within low below =
    only_false Form (nat_lt s.red x.upper) _ _ (grind (arith, nat_tests))
    (subst (λ phase. Form (takes_report policy s phase x now (a_report_ack x.serial ∷ [])))
    (sym waited)
    (by_arms Form (is_all_claimed (with_claims x.lower x.claims s.claimed)) _ _
    (λ all. completes all refl refl refl)
    (λ open_part. by_arms Form (x.checkpoint == c.checkpoint) _ _
    (λ names. told-round policy s c timer x now waited cuts size within low open_part
    (eqb-true x.checkpoint c.checkpoint names))
    (λ other_name. adds_only _ c timer refl refl waited refl refl refl
    (length-claims x.lower x.claims s.claimed)
    (eqb-false x.checkpoint c.checkpoint other_name)))))
  where
    Form : StepValue Sending → Type 0
    Form = Told policy s x

-- ---- rows

-- the report's acknowledgement takes its place
pub reported-acked : (serial : ℕ) (x : ReportValue) (new_s new_r out : List ContentValue)
    → IsIn (a_report_ack x.serial) out
    → IsReportedOn serial new_s (a_report x ∷ new_r) → IsReportedOn serial (new_s ++ out) new_r
reported-acked serial x new_s new_r out acks (inr ack) =
    inr (among-left (a_report_ack serial) new_s out ack)
reported-acked serial x new_s new_r out acks (inl (y, inr among, is)) = inl (y, among, is)
reported-acked serial x new_s new_r out acks (inl (y, inl here, is)) =
    let same : x ≡ y = cc in
    inr (among-right (a_report_ack serial) new_s out
    (subst (λ n. IsIn (a_report_ack n) out) (ap (λ (z : ReportValue). z.serial) same
    ∙ is) acks))

-- the report isn't about the checkpoint that is waited for
asked-other : (c : ℕ) (x : ReportValue) (new_s new_r out : List ContentValue) → x.checkpoint ≢ c
    → IsAskedOn c new_s (a_report x ∷ new_r) → IsAskedOn c (new_s ++ out) new_r
asked-other c x new_s new_r out apart (inl (q, among, asks, named)) =
    inl (q, among-left (a_piece q) new_s out among, asks, named)
asked-other c x new_s new_r out apart (inr (y, inr among, named)) = inr (y, among, named)
asked-other c x new_s new_r out apart (inr (y, inl here, named)) =
    let same : x ≡ y = cc in absurd (apart (ap (λ (z : ReportValue). z.checkpoint) same ∙ named))

settled-more : (red : ℕ) (v : View) (t : StepValue Sending) (c : ℕ) (new_s : List ContentValue)
    → Settled red v c new_s → Settled red (sender_moves v t) c (new_s ++ t.out)
settled-more red v t c new_s settled = record {
  whole = settled.whole;
  cells = λ i low. go i
      (settled.cells i low);
}
  where
    go : (i : ℕ) → HasFilled i v.receiver ⊎ (ahead c i new_s ≡ true) → HasFilled i v.receiver
        ⊎ (ahead c i (new_s ++ t.out) ≡ true)
    go i (inl has) = inl has
    go i (inr on) = inr (ahead-append c i new_s t.out on)

-- a report to a sender that is over
pub late-report-onward : (red : ℕ) (v : View) (x : ReportValue) (new_s new_r : List ContentValue)
    (t : StepValue Sending) → t.out ≡ a_report_ack x.serial ∷ []
    → after t.next v.sender ≡ None → Onward red v (sender_moves v t) new_s (a_report x ∷ new_r)
    (new_s ++ t.out) new_r
late-report-onward red v x new_s new_r t out none = record {
  reporting = λ r' p kept waits. inr (record {
    r = r';
    kept = kept;
    waited = waits;
    still = reported-acked (p.report).serial x new_s new_r t.out
        (subst (IsIn (a_report_ack x.serial)) (sym out) (inl refl));
  });
  asking = λ s' c timer kept waits. absurd (let both : None ≡ Some s' = sym none ∙ kept in cc);
}

pub adds-onward : (red : ℕ) (v : View) (x : ReportValue) (new_s new_r : List ContentValue)
    (t : StepValue Sending) (s s' : Sending) (c : PieceValue) (timer : Timer)
    → v.sender ≡ Some s → t.next ≡ keeps s' → t.out ≡ a_report_ack x.serial ∷ []
    → s.phase ≡ sender_open c timer → s'.phase ≡ s.phase → s'.red ≡ s.red → s'.block ≡ s.block
    → x.checkpoint ≢ c.checkpoint → Onward red v (sender_moves v t) new_s (a_report x ∷ new_r)
    (new_s ++ t.out) new_r
adds-onward red v x new_s new_r t s s' c timer is_s next out waited phase same_red same_block
    apart = record {
      reporting = λ r' p kept waits. inr (record {
        r = r';
        kept = kept;
        waited = waits;
        still = reported-acked (p.report).serial x new_s new_r t.out
            (subst (IsIn (a_report_ack x.serial)) (sym out) (inl refl));
      });
      asking = λ s'' c' timer' kept waits.
          let one : s' ≡ s'' = only s'' kept in
          let was : s.phase ≡ sender_open c' timer' = sym phase
          ∙ ap (λ (s : Sending). s.phase) one
          ∙ waits in
          let same_c : c ≡ c' = is_c c' timer' was in
          record {
            s = s;
            kept = is_s;
            waited = was;
            same_red = ap (λ (s : Sending). s.red) (sym one) ∙ same_red;
            same_block = ap (λ (s : Sending). s.block) (sym one) ∙ same_block;
            still = asked-other c'.checkpoint x new_s new_r t.out
                (λ h. apart (h ∙ ap (λ (q : PieceValue). q.checkpoint) (sym same_c)));
            settled = settled-more red v t c'.checkpoint new_s;
          };
    }
  where
    only : (s'' : Sending) → after t.next v.sender ≡ Some s'' → s' ≡ s''
    only s'' kept = let here : Some s' ≡ Some s'' =
        subst (λ ch. after ch v.sender ≡ Some s'') next kept in cc

    is_c : (c' : PieceValue) (timer' : Timer) → s.phase ≡ sender_open c' timer' → c ≡ c'
    is_c c' timer' was = let both : sender_open c timer ≡ sender_open c' timer' = sym waited
        ∙ was in cc
