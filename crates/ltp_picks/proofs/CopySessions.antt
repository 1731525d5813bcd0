-- One session of a drain hears something: what is new, which lowers its rank, or what is old, which
-- raises it by two at most.

use Rattle.std.proofs.Common.{◌≡◌, ℕ, ◌+◌, ◌≤◌, true, false, List, [], ◌∷◌, ◌++◌}
use Rattle.std.proofs.Common.{length, None, Some, ◌⊎◌, inl, inr, refl, sym, ap, arith}
use Rattle.std.proofs.Common.{subst}
use Rattle.ltp_segment.specs.Kinds.{is_red}
use Rattle.ltp_segment.specs.Values.{ContentValue, PieceValue, ReportValue, a_piece, a_report}
use Rattle.ltp_segment.specs.Values.{a_report_ack}
use Rattle.ltp_session.specs.Receiver.{piece_stop}
use Rattle.ltp_session.specs.Sender.{Sending}
use Rattle.ltp_laws.specs.SenderSteps.{NoPieces}
use Rattle.ltp_laws.specs.View.{IsIn, View}
use Rattle.ltp_laws.proofs.SerialLemmas.{among-append, among-left}
use Rattle.ltp_drain.specs.Calm.{Drains, HasSerials, Setting}
use Rattle.ltp_drain.specs.Calm.{is_cancel}
use Rattle.ltp_drain.specs.Hopeful.{IsHanded, IsKeptSender}
use Rattle.ltp_drain.specs.Rank.{IsAskedOn, IsReportedOn, Settled, ahead, weights}

-- ---- an old report may come before what is new

asked-report : (c : ℕ) (x : ReportValue) (new_s new_r : List ContentValue)
    → IsAskedOn c new_s new_r → IsAskedOn c new_s (a_report x ∷ new_r)
asked-report c x new_s new_r (inl on) = inl on
asked-report c x new_s new_r (inr (y, among, is)) = inr (y, inr among, is)

reported-report : (serial : ℕ) (x : ReportValue) (new_s new_r : List ContentValue)
    → IsReportedOn serial new_s new_r → IsReportedOn serial new_s (a_report x ∷ new_r)
reported-report serial x new_s new_r (inl (y, among, is)) = inl (y, inr among, is)
reported-report serial x new_s new_r (inr among) = inr among

either-first : {A B C : Type 0} → (A → B) → A ⊎ C → B ⊎ C
either-first f (inl a) = inl (f a)
either-first f (inr c) = inr c

pub old-report : (at : Setting) (v : View) (x : ReportValue) (new_s new_r : List ContentValue)
    (n : ℕ) → Drains at v new_s new_r n → IsIn (a_report x) v.by_receiver
    → HasSerials at.session v (n + 3) → Drains at v new_s (a_report x ∷ new_r) (n + 3)
unfolding weights
old-report at v x new_s new_r n drains sent serials = record {
  calm = record {
    sending = drains.calm.sending;
    receiving = drains.calm.receiving;
    none_s = drains.calm.none_s;
    none_r = none;
    asking = λ s c timer kept waits.
        either-first (asked-report c.checkpoint x new_s new_r)
        (drains.calm.asking s c timer kept waits);
    reporting = λ r p kept waits.
        either-first (reported-report (p.report).serial x new_s new_r)
        (drains.calm.reporting r p kept waits);
    unclosed = drains.calm.unclosed;
    awaited = drains.calm.awaited;
    heard_s = drains.calm.heard_s;
    heard_r = heard;
  };
  rank = record {
    report = drains.rank.report;
    checkpoint = drains.rank.checkpoint;
    round = drains.rank.round;
    sum = omega (arith, drains.rank.sum);
    reporting = λ r p kept waits.
        either-first (reported-report (p.report).serial x new_s new_r)
        (drains.rank.reporting r p kept waits);
    asking = λ s c timer kept waits.
        either-first (asked-report c.checkpoint x new_s new_r)
        (drains.rank.asking s c timer kept waits);
    rounding = drains.rank.rounding;
  };
  serials = serials;
  fit = drains.fit;
  low = drains.low;
}
  where
    none : (c : ContentValue) → IsIn c (a_report x ∷ new_r) → is_cancel c ≡ false
    none c (inl here) = ap is_cancel (sym here)
    none c (inr among) = drains.calm.none_r c among

    heard : (c : ContentValue) → IsIn c (a_report x ∷ new_r) → IsIn c v.by_receiver
    heard c (inl here) = subst (λ (c : ContentValue). IsIn c v.by_receiver) here sent
    heard c (inr among) = drains.calm.heard_r c among

-- ---- an old acknowledgement may

pub old-ack : (at : Setting) (v : View) (m : ℕ) (new_s new_r : List ContentValue) (n : ℕ)
    → Drains at v new_s new_r n → IsIn (a_report_ack m) v.by_sender
    → HasSerials at.session v (n + 3) → Drains at v (a_report_ack m ∷ new_s) new_r (n + 3)
unfolding weights ahead
old-ack at v m new_s new_r n drains sent serials = record {
  calm = record {
    sending = drains.calm.sending;
    receiving = drains.calm.receiving;
    none_s = none;
    none_r = drains.calm.none_r;
    asking = λ s c timer kept waits.
        either-first (asked c.checkpoint) (drains.calm.asking s c timer kept waits);
    reporting = λ r p kept waits.
        either-first (reported (p.report).serial) (drains.calm.reporting r p kept waits);
    unclosed = drains.calm.unclosed;
    awaited = awaited;
    heard_s = heard;
    heard_r = drains.calm.heard_r;
  };
  rank = record {
    report = drains.rank.report;
    checkpoint = drains.rank.checkpoint;
    round = drains.rank.round;
    sum = omega (arith, drains.rank.sum);
    reporting = λ r p kept waits.
        either-first (reported (p.report).serial) (drains.rank.reporting r p kept waits);
    asking = λ s c timer kept waits.
        either-first (asked c.checkpoint) (drains.rank.asking s c timer kept waits);
    rounding = λ s c timer kept waits.
        either-first (λ (settled : Settled at.red v c.checkpoint new_s).
        record { whole = settled.whole; cells = settled.cells })
        (drains.rank.rounding s c timer kept waits);
  };
  serials = serials;
  fit = drains.fit;
  low = drains.low;
}
  where
    none : (c : ContentValue) → IsIn c (a_report_ack m ∷ new_s) → is_cancel c ≡ false
    none c (inl here) = ap is_cancel (sym here)
    none c (inr among) = drains.calm.none_s c among

    heard : (c : ContentValue) → IsIn c (a_report_ack m ∷ new_s) → IsIn c v.by_sender
    heard c (inl here) = subst (λ (c : ContentValue). IsIn c v.by_sender) here sent
    heard c (inr among) = drains.calm.heard_s c among

    asked : (c : ℕ) → IsAskedOn c new_s new_r → IsAskedOn c (a_report_ack m ∷ new_s) new_r
    asked c (inl (q, among, asks, named)) = inl (q, inr among, asks, named)
    asked c (inr on) = inr on

    reported : (serial : ℕ) → IsReportedOn serial new_s new_r
        → IsReportedOn serial (a_report_ack m ∷ new_s) new_r
    reported serial (inl on) = inl on
    reported serial (inr among) = inr (inr among)

    awaited : (q : PieceValue) → IsIn (a_piece q) (a_report_ack m ∷ new_s)
        → is_red q.kind ≡ true → IsKeptSender v.sender ⊎ ((v.closed ≡ true) ⊎ IsHanded v.receiver)
    awaited q (inl here) red_kind = absurd (cc)
    awaited q (inr among) red_kind = drains.calm.awaited q among red_kind

-- ---- nothing of the session changes but what was said in it, and its receiver may be over

pub said-more : (at : Setting) (v : View) (new_s new_r more_s more_r : List ContentValue) (n m : ℕ)
    → Drains at v new_s new_r n → n ≤ m → HasSerials at.session v m
    → NoPieces more_s
    → (IsKeptSender v.sender → more_r ≡ [])
    → Drains at (record v {
      by_sender = v.by_sender ++ more_s;
      by_receiver = v.by_receiver ++ more_r;
    }) new_s new_r m
said-more at v new_s new_r more_s more_r n m drains low serials no_pieces quiet = record {
  calm = record {
    sending = drains.calm.sending;
    receiving = drains.calm.receiving;
    none_s = drains.calm.none_s;
    none_r = drains.calm.none_r;
    asking = drains.calm.asking;
    reporting = drains.calm.reporting;
    unclosed = drains.calm.unclosed;
    awaited = drains.calm.awaited;
    heard_s = λ c among. among-left c v.by_sender more_s (drains.calm.heard_s c among);
    heard_r = λ c among. among-left c v.by_receiver more_r (drains.calm.heard_r c among);
  };
  rank = record {
    report = drains.rank.report;
    checkpoint = drains.rank.checkpoint;
    round = drains.rank.round;
    sum = omega (arith, drains.rank.sum, low);
    reporting = drains.rank.reporting;
    asking = drains.rank.asking;
    rounding = λ s c timer kept waits.
        either-first (settled c.checkpoint s kept) (drains.rank.rounding s c timer kept waits);
  };
  serials = record {
    sender = serials.sender;
    receiver = serials.receiver;
    fresh = serials.fresh;
  };
  fit = λ q among. fit q (among-append (a_piece q) v.by_sender more_s among);
  low = drains.low;
}
  where
    fit : (q : PieceValue) → IsIn (a_piece q) v.by_sender ⊎ IsIn (a_piece q) more_s
        → (1 ≤ length q.body) × (piece_stop q ≤ at.most)
    fit q (inl old) = drains.fit q old
    fit q (inr new) = absurd (no_pieces q new)

    settled : (c : ℕ) (s : Sending) → v.sender ≡ Some s → Settled at.red v c new_s
        → Settled at.red (record v {
          by_sender = v.by_sender ++ more_s;
          by_receiver = v.by_receiver ++ more_r;
        }) c new_s
    settled c s kept was = record {
      whole = λ x among. was.whole x (by_side x
          (among-append (a_report x) v.by_receiver more_r among));
      cells = was.cells;
    }
      where
        by_side : (x : ReportValue) → IsIn (a_report x) v.by_receiver ⊎ IsIn (a_report x) more_r
            → IsIn (a_report x) v.by_receiver
        by_side x (inl old) = old
        by_side x (inr new) = absurd (subst (IsIn (a_report x)) (quiet (subst IsKeptSender (sym kept) tt)) new)

-- ---- its receiver is over, for a cancel of its sender, which is over too

pub over-more : (at : Setting) (v : View) (new_s new_r more_r : List ContentValue) (n m : ℕ)
    → Drains at v new_s new_r n → n ≤ m → HasSerials at.session v m → (IsKeptSender v.sender → ⊥)
    → Drains at (record v {
      receiver = None;
      closed = true;
      by_receiver = v.by_receiver ++ more_r;
    }) new_s new_r m
over-more at v new_s new_r more_r n m drains low serials over = record {
  calm = record {
    sending = drains.calm.sending;
    receiving = λ r kept. absurd (cc);
    none_s = drains.calm.none_s;
    none_r = drains.calm.none_r;
    asking = drains.calm.asking;
    reporting = λ r p kept waits. absurd (cc);
    unclosed = λ s kept. absurd (over (subst IsKeptSender (sym kept) tt));
    awaited = λ q among red_kind. inr (inl refl);
    heard_s = drains.calm.heard_s;
    heard_r = λ c among. among-left c v.by_receiver more_r (drains.calm.heard_r c among);
  };
  rank = record {
    report = drains.rank.report;
    checkpoint = drains.rank.checkpoint;
    round = drains.rank.round;
    sum = omega (arith, drains.rank.sum, low);
    reporting = λ r p kept waits. absurd (cc);
    asking = drains.rank.asking;
    rounding = λ s c timer kept waits. absurd (over (subst IsKeptSender (sym kept) tt));
  };
  serials = record {
    sender = serials.sender;
    receiver = λ r kept. absurd (cc);
    fresh = serials.fresh;
  };
  fit = drains.fit;
  low = drains.low;
}
