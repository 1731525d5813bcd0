-- A delivery that begins no round lowers the rank, and keeps timers calm.

use Rattle.std.proofs.Common.{◌≡◌, ℕ, ◌+◌, ◌<◌, ◌≤◌, List, length, take, Some, ◌⊎◌, inl, inr, sym}
use Rattle.std.proofs.Common.{arith, subst₂}
use Rattle.ltp_segment.specs.Values.{PieceValue, ContentValue}
use Rattle.ltp_session.specs.Receiver.{Pending, Receiving}
use Rattle.ltp_session.specs.Sender.{Sending, segments_of, sender_open}
use Rattle.ltp_session.specs.declared.timer.Timer.{Timer}
use Rattle.ltp_laws.specs.Serials.{pending_of}
use Rattle.ltp_laws.specs.View.{View}
use Rattle.ltp_drain.specs.Calm.{Onward, WasAwaited, WasPending}
use Rattle.ltp_drain.specs.Rank.{IsAskedOn, IsReportedOn, RankAtMost, Settled, weights}

-- what isn't on its way is as it was
still-reported : {X : Type 0} (v v' : View) (new_s new_r new_s' new_r' : List ContentValue)
    (p : Pending)
    → WasPending v new_s new_r new_s' new_r' p → IsReportedOn (p.report).serial new_s new_r ⊎ X
    → IsReportedOn (p.report).serial new_s' new_r' ⊎ X
still-reported v v' new_s new_r new_s' new_r' p was (inl on) = inl (was.still on)
still-reported v v' new_s new_r new_s' new_r' p was (inr x) = inr x

pub onward-reporting : (X : Pending → Type 0) (red : ℕ) (v v' : View)
    (new_s new_r new_s' new_r' : List ContentValue) → Onward red v v' new_s new_r new_s' new_r'
    → ((r : Receiving) (p : Pending) → v.receiver ≡ Some r → pending_of r.phase ≡ Some p
    → IsReportedOn (p.report).serial new_s new_r ⊎ X p)
    → (r' : Receiving) (p : Pending) → v'.receiver ≡ Some r' → pending_of r'.phase ≡ Some p
    → IsReportedOn (p.report).serial new_s' new_r' ⊎ X p
onward-reporting X red v v' new_s new_r new_s' new_r' on before r' p kept waits =
    go (on.reporting r' p kept waits)
  where
    go : IsReportedOn (p.report).serial new_s' new_r' ⊎ WasPending v new_s new_r new_s' new_r' p
        → IsReportedOn (p.report).serial new_s' new_r' ⊎ X p
    go (inl now) = inl now
    go (inr was) = still-reported v v' new_s new_r new_s' new_r' p was
        (before was.r p was.kept was.waited)

pub onward-asking : (X : Timer → Type 0) (red : ℕ) (v v' : View)
    (new_s new_r new_s' new_r' : List ContentValue) → Onward red v v' new_s new_r new_s' new_r'
    → ((s : Sending) (c : PieceValue) (timer : Timer) → v.sender ≡ Some s
    → s.phase ≡ sender_open c timer → IsAskedOn c.checkpoint new_s new_r ⊎ X timer)
    → (s' : Sending) (c : PieceValue) (timer : Timer) → v'.sender ≡ Some s'
    → s'.phase ≡ sender_open c timer → IsAskedOn c.checkpoint new_s' new_r' ⊎ X timer
onward-asking X red v v' new_s new_r new_s' new_r' on before s' c timer kept waits =
    go (before was.s c timer was.kept was.waited)
  where
    was : WasAwaited red v v' new_s new_r new_s' new_r' s' c timer
    was = on.asking s' c timer kept waits

    go : IsAskedOn c.checkpoint new_s new_r ⊎ X timer → IsAskedOn c.checkpoint new_s' new_r'
        ⊎ X timer
    go (inl asked) = inl (was.still asked)
    go (inr x) = inr x

pub record RankFalls (z red : ℕ) (v : View) (new_s new_r : List ContentValue)
    (n : ℕ) : Type 0 where
  pub left : ℕ
  pub less : left < n
  pub rank : RankAtMost z red v new_s new_r left

pub onward-rank : (z red : ℕ) (v v' : View) (new_s new_r new_s' new_r' : List ContentValue)
    (n : ℕ) → Onward red v v' new_s new_r new_s' new_r'
    → weights new_s' + weights new_r' < weights new_s + weights new_r
    → RankAtMost z red v new_s new_r n → RankFalls z red v' new_s' new_r' n
onward-rank z red v v' new_s new_r new_s' new_r' n on lighter rank = record {
  left = weights new_s' + weights new_r' + rank.report + rank.checkpoint + rank.round;
  less = omega (arith, lighter, rank.sum);
  rank = record {
    report = rank.report;
    checkpoint = rank.checkpoint;
    round = rank.round;
    sum = omega arith;
    reporting = onward-reporting (λ p. 3 ≤ rank.report) red v v' new_s new_r new_s' new_r' on
        rank.reporting;
    asking = onward-asking (λ timer. 4 ≤ rank.checkpoint) red v v' new_s new_r new_s' new_r' on
        rank.asking;
    rounding = λ s' c timer kept waits. rounding s' c timer kept waits;
  };
}
  where
    rounding : (s' : Sending) (c : PieceValue) (timer : Timer) → v'.sender ≡ Some s'
        → s'.phase ≡ sender_open c timer
        → Settled red v' c.checkpoint new_s' ⊎
        (length (segments_of z 0 (take s'.red s'.block)) + 2 ≤ rank.round)
    rounding s' c timer kept waits = go (rank.rounding was.s c timer was.kept was.waited)
      where
        was : WasAwaited red v v' new_s new_r new_s' new_r' s' c timer
        was = on.asking s' c timer kept waits

        go : Settled red v c.checkpoint new_s
            ⊎ (length (segments_of z 0 (take (was.s).red (was.s).block)) + 2 ≤ rank.round)
            → Settled red v' c.checkpoint new_s'
            ⊎ (length (segments_of z 0 (take s'.red s'.block)) + 2 ≤ rank.round)
        go (inl settled) = inl (was.settled settled)
        go (inr paid) = inr (subst₂ (λ (r : ℕ) (b : List ℕ). length (segments_of z 0 (take r b)) +
            2 ≤ rank.round) (sym was.same_red) (sym was.same_block) paid)
