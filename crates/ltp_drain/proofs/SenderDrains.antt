-- A delivery to a sender keeps the session calm and costs one.

use Rattle.std.proofs.Common.{◌≡◌, ℕ, zero, suc, ◌+◌, ◌<◌, ◌≤◌, ◌^◌, Bool, true, false, List, []}
use Rattle.std.proofs.Common.{◌∷◌, ◌++◌, length, take, drop, Option, None, Some, is_some, ◌⊎◌}
use Rattle.std.proofs.Common.{inl, inr, refl, sym, ◌∙◌, ap, arith, subst}
use Rattle.std.proofs.lemmas.Bool.{ne_eqb}
use Rattle.std.proofs.lemmas.List.{length-take, length-drop}
use Rattle.std.specs.List.{AllByRecursion}
use Rattle.ltp_segment.specs.Kinds.{is_red}
use Rattle.ltp_segment.specs.Policy.{PolicyValue}
use Rattle.ltp_segment.specs.Values.{PieceValue, ReportValue, ContentValue, a_piece, a_report}
use Rattle.ltp_segment.specs.Values.{a_report_ack, a_sender_cancel, a_sender_cancel_ack}
use Rattle.ltp_segment.specs.Values.{a_receiver_cancel, a_receiver_cancel_ack}
use Rattle.ltp_segment.specs.declared.segment.PieceKind.TheVariants as kinds
use Rattle.ltp_session.specs.Cells.{cell}
use Rattle.ltp_session.specs.Claims.{with_claims}
use Rattle.ltp_session.specs.Receiver.{Pending, Receiving, piece_stop}
use Rattle.ltp_session.specs.Sender.{Sending, checkpoint_at, is_all_claimed, is_claimed}
use Rattle.ltp_session.specs.Sender.{unclaimed, on_report, piece_at, red_pieces, segments_from}
use Rattle.ltp_session.specs.Sender.{segments_of, sender_answers, sender_open}
use Rattle.ltp_session.specs.Step.{note_sent, StepValue, after, keeps}
use Rattle.ltp_session.specs.declared.timer.Timer.{Timer}
use Rattle.ltp_laws.specs.Blocks.{IsSenderOf}
use Rattle.ltp_laws.specs.Checkpoints.{HasAsked, IsClaimedBy}
use Rattle.ltp_laws.specs.Claims.{ClaimsFilled, HasPlace, IsReportOf}
use Rattle.ltp_laws.specs.HandUps.{AllFilled}
use Rattle.ltp_laws.specs.Kept.{IfKept}
use Rattle.ltp_laws.specs.SenderSteps.{Rounds}
use Rattle.ltp_laws.specs.Serials.{pending_of}
use Rattle.ltp_laws.specs.View.{IsIn, View, sender_moves}
use Rattle.ltp_laws.proofs.AckLemmas.{length-claims}
use Rattle.ltp_laws.proofs.CheckpointLemmas.{checkpoint_at-asks, round-has}
use Rattle.ltp_laws.proofs.CheckpointLemmas.{adds-claimed}
use Rattle.ltp_laws.proofs.ListLemmas.{answered, both_arms}
use Rattle.ltp_laws.proofs.SerialLemmas.{among-append, among-right}
use Rattle.ltp_laws.proofs.WholeLemmas.{place-filled}
use Rattle.ltp_laws.proofs.CompletionLemmas.{all-at}
use Rattle.ltp_drain.specs.Calm.{WaitsOn, AreFit, Calm, Drains, Falls, Given, HandedUpWhole}
use Rattle.ltp_drain.specs.Calm.{HasSerials, NoCancels, Onward, Setting, is_cancel}
use Rattle.ltp_drain.specs.Hopeful.{IsHanded, IsKeptSender}
use Rattle.ltp_drain.specs.Rank.{IsAskedOn, IsReportedOn, weights}
use Rattle.ltp_drain.proofs.OnwardLemmas.{onward-asking, onward-rank, onward-reporting}
use Rattle.ltp_drain.proofs.RankLemmas.{round-row, weights-append}
use Rattle.ltp_drain.proofs.ReceiverDrains.{among-more, no_cancels-append, no_cancels-one}
use Rattle.ltp_drain.proofs.SenderRows.{Told, adds-onward, adds_only, asks_again, completes}
use Rattle.ltp_drain.proofs.SenderRows.{late-report-onward, report-told, reported-acked}

-- ---- where all is claimed, the receiver has handed the red part up

pub claimed-filled : (block : List ℕ) (red most : ℕ) (v : View) (r : Receiving)
    → Given block red most v → v.receiver ≡ Some r
    → (k : ℕ) → IsClaimedBy v.by_receiver k → is_some (cell r.cells k) ≡ true
claimed-filled block red most v r given is_r k by =
    place-filled r.cells (by.report).claims k
    (subst (λ m. HasPlace m (by.report).claims k)
    (((given.facts).0.1).told by.report by.among).lower by.claims)
    (subst (IfKept (ClaimsFilled v.by_receiver)) is_r ((given.facts).0.1).filled by.report
    by.among)

pub kept-receiver : (block : List ℕ) (red most : ℕ) (v : View) (x : ReportValue)
    → Given block red most v → v.closed ≡ false → IsIn (a_report x) v.by_receiver
    → (r : Receiving) × (v.receiver ≡ Some r)
kept-receiver block red most v x given unclosed heard = by_kept v.receiver refl
  where
    by_kept : (o : Option Receiving) → v.receiver ≡ o → (r : Receiving) × (v.receiver ≡ Some r)
    by_kept None is = absurd (((given.facts).0.0.1).unknown is unclosed x heard)
    by_kept (Some r) is = (r, is)

-- ---- what is claimed was reported

pub all-handed : (block : List ℕ) (red most : ℕ) (v : View) (s : Sending) (x : ReportValue)
    → Given block red most v → v.sender ≡ Some s → v.closed ≡ false
    → IsIn (a_report x) v.by_receiver → length (with_claims x.lower x.claims s.claimed) ≡ red
    → is_all_claimed (with_claims x.lower x.claims s.claimed) ≡ true → IsHanded v.receiver
all-handed block red most v s x given is_s unclosed heard size all =
    let (r, is_r) = kept-receiver block red most v x given unclosed heard in
    let asks : HasAsked v.by_sender v.by_receiver s =
    subst (IfKept (HasAsked v.by_sender v.by_receiver)) is_s ((given.facts).1).sender in
    let known : r.length ≡ Some red = subst (IfKept (λ r. r.length ≡ Some red)) is_r
    (((given.facts).1).known (record { report = x; among = heard })) in
    let filled : AllFilled red r.cells = λ i low. claimed-filled block red most v r given is_r i
    (adds-claimed v.by_receiver (a_report x) s
    (record s { claimed = with_claims x.lower x.claims s.claimed }) heard asks.claimed
    (record { report = x; told = record { is = refl }; claimed = refl }) i
    (all-at (with_claims x.lower x.claims s.claimed) i all (omega (arith, size, low)))) in
    subst IsHanded (sym is_r) (subst (IfKept (HandedUpWhole red)) is_r given.handed known filled)

-- ---- calm

-- what a sender's step must be
record Sends_on (v : View) (t : StepValue Sending) : Type 0 where
  waits : (s' : Sending) → after t.next v.sender ≡ Some s' → WaitsOn s'
  out : NoCancels t.out
  was : (s' : Sending) → after t.next v.sender ≡ Some s' → (s : Sending) × (v.sender ≡ Some s)
  done : IsKeptSender v.sender → IsKeptSender (after t.next v.sender)
      ⊎ ((v.closed ≡ true) ⊎ IsHanded v.receiver)
  pieces : (q : PieceValue) → IsIn (a_piece q) t.out → IsKeptSender (after t.next v.sender)
  serial : (s' : Sending) (c' : PieceValue) (timer' : Timer) → after t.next v.sender ≡ Some s'
      → s'.phase ≡ sender_open c' timer'
      → (s : Sending) × (c : PieceValue) × (timer : Timer) × (v.sender ≡ Some s)
      × (s.phase ≡ sender_open c timer) × (c'.checkpoint ≤ c.checkpoint + 1)

calm-sent : (limit_s limit_r : ℕ) (v : View) (t : StepValue Sending) (e : ContentValue)
    (new_s new_r : List ContentValue)
    → Calm limit_s limit_r v new_s (e ∷ new_r) → Sends_on v t
    → ((s' : Sending) (c : PieceValue) (timer : Timer) → after t.next v.sender ≡ Some s'
    → s'.phase ≡ sender_open c timer → IsAskedOn c.checkpoint (new_s ++ t.out) new_r
    ⊎ (timer.times < limit_s))
    → ((r : Receiving) (p : Pending) → v.receiver ≡ Some r → pending_of r.phase ≡ Some p
    → IsReportedOn (p.report).serial (new_s ++ t.out) new_r ⊎ ((p.timer).times < limit_r))
    → Calm limit_s limit_r (sender_moves v t) (new_s ++ t.out) new_r
calm-sent limit_s limit_r v t e new_s new_r calm on asking reporting = record {
  sending = on.waits;
  receiving = calm.receiving;
  none_s = no_cancels-append new_s t.out calm.none_s on.out;
  none_r = λ c among. calm.none_r c (inr among);
  asking = asking;
  reporting = reporting;
  unclosed = λ s' kept. let was = on.was s' kept in calm.unclosed was.0 was.1;
  awaited = λ q among red_kind. go q red_kind (among-append (a_piece q) new_s t.out among);
  heard_s = among-more new_s t.out v.by_sender calm.heard_s;
  heard_r = λ c among. calm.heard_r c (inr among);
}
  where
    go : (q : PieceValue) → is_red q.kind ≡ true → IsIn (a_piece q) new_s ⊎ IsIn (a_piece q) t.out
        → IsKeptSender (after t.next v.sender) ⊎ ((v.closed ≡ true) ⊎ IsHanded v.receiver)
    go q red_kind (inr now) = inl (on.pieces q now)
    go q red_kind (inl before) = by (calm.awaited q before red_kind)
      where
        by : IsKeptSender v.sender ⊎ ((v.closed ≡ true) ⊎ IsHanded v.receiver)
            → IsKeptSender (after t.next v.sender) ⊎ ((v.closed ≡ true) ⊎ IsHanded v.receiver)
        by (inl is_open) = on.done is_open
        by (inr is_done) = inr is_done

serials-sent : (session : ℕ) (v : View) (t : StepValue Sending) (n left : ℕ)
    → HasSerials session v n → left < n → Sends_on v t
    → HasSerials session (sender_moves v t) left
serials-sent session v t n left serials less on = record {
  sender = λ s' c' timer' kept waits.
      let (s, c, timer, is_s, waited, next) = on.serial s' c' timer' kept waits in
      omega (arith, serials.sender s c timer is_s waited, next, less);
  receiver = λ r kept. omega (arith, serials.receiver r kept, less);
  fresh = omega (arith, serials.fresh, less);
}

ack-alone : (n : ℕ) (out : List ContentValue) → out ≡ a_report_ack n ∷ [] → (q : PieceValue)
    → IsIn (a_piece q) out → ⊥
ack-alone n out is q among = go (subst (IsIn (a_piece q)) is among)
  where
    go : IsIn (a_piece q) (a_report_ack n ∷ []) → ⊥
    go (inl here) = cc
    go (inr none) = none

-- ---- pieces fit

pub fit-append : (most : ℕ) (xs ys : List ContentValue) → AreFit most xs → AreFit most ys
    → AreFit most (xs ++ ys)
fit-append most xs ys fit_xs fit_ys q among = go (among-append (a_piece q) xs ys among)
  where
    go : IsIn (a_piece q) xs ⊎ IsIn (a_piece q) ys → (1 ≤ length q.body) × (piece_stop q ≤ most)
    go (inl left) = fit_xs q left
    go (inr right) = fit_ys q right

pub record PartFits (most : ℕ) (part : ℕ × List ℕ) : Type 0 where
  pub some : 1 ≤ length part.1
  pub within : part.0 + length part.1 ≤ most

pub cut-fit : (most z n at : ℕ) (octets : List ℕ) → 1 ≤ z
    → (1 ≤ length octets → at + length octets ≤ most)
    → AllByRecursion (PartFits most) (segments_from z n at octets)
unfolding segments_from
cut-fit most z zero at octets some within = tt
cut-fit most z (suc n) at [] some within = tt
cut-fit most z (suc n) at (octet ∷ octets) some within = (
  record {
    some = omega (arith, length-take z (octet ∷ octets), some);
    within = omega
        (arith, length-take z (octet ∷ octets), within (omega arith));
  },
  cut-fit most z n (at + z) (drop z (octet ∷ octets)) some
      (λ left. omega (arith, left, length-drop z (octet ∷ octets), within (omega arith))),
)

unclaimed-fit : (most : ℕ) (places : List Bool) (parts : List (ℕ × List ℕ))
    → AllByRecursion (PartFits most) parts → AllByRecursion (PartFits most)
    (unclaimed places parts)
unfolding unclaimed
unclaimed-fit most places [] all = tt
unclaimed-fit most places (p ∷ ps) all =
    both_arms (AllByRecursion (PartFits most)) (is_claimed places p) _ _
    (unclaimed-fit most places ps all.1) (all.0, unclaimed-fit most places ps all.1)

pub round-fit : (most : ℕ) (last : ℕ × List ℕ → PieceValue)
    → ((part : ℕ × List ℕ) → (last part).offset ≡ part.0)
    → ((part : ℕ × List ℕ) → (last part).body ≡ part.1)
    → (parts : List (ℕ × List ℕ)) → AllByRecursion (PartFits most) parts
    → AreFit most (red_pieces last parts)
unfolding red_pieces
round-fit most last offset body [] all q among = absurd among
round-fit most last offset body (part ∷ []) all q (inr none) = absurd none
round-fit most last offset body (part ∷ []) all q (inl here) =
    let same : last part ≡ q = cc in
    subst (λ (q : PieceValue). (1 ≤ length q.body) × (piece_stop q ≤ most)) same (
      omega (arith, all.0.some, ap length (body part)),
      omega (arith, all.0.within, offset part, ap length (body part)),
    )
round-fit most last offset body (part ∷ next ∷ parts) all q (inl here) =
    let same : piece_at kinds.Red 0 0 part ≡ q = cc in
    subst (λ (q : PieceValue). (1 ≤ length q.body) × (piece_stop q ≤ most)) same
    (all.0.some, all.0.within)
round-fit most last offset body (part ∷ next ∷ parts) all q (inr among) =
    round-fit most last offset body (next ∷ parts) all.1 q among

was-open : (v : View) (t : StepValue Sending) → Sends_on v t → IsKeptSender (after t.next v.sender)
    → IsKeptSender v.sender
was-open v t on is_open = by_kept (after t.next v.sender) refl is_open
  where
    by_kept : (o : Option Sending) → after t.next v.sender ≡ o → IsKeptSender o → IsKeptSender v.sender
    by_kept None is is_open = absurd is_open
    by_kept (Some s') is is_open = subst IsKeptSender (sym (on.was s' is).1) tt

falls-sent : (at : Setting) (v : View) (t : StepValue Sending) (x : ReportValue)
    (new_s new_r : List ContentValue) (n : ℕ)
    → Drains at v new_s (a_report x ∷ new_r) n
    → Onward at.red v (sender_moves v t) new_s (a_report x ∷ new_r) (new_s ++ t.out) new_r
    → Sends_on v t
    → t.out ≡ a_report_ack x.serial ∷ [] → Falls at (sender_moves v t) (new_s ++ t.out) new_r n
unfolding weights
falls-sent at v t x new_s new_r n drains on steps out =
    let falls = onward-rank at.z at.red v (sender_moves v t) new_s (a_report x ∷ new_r)
    (new_s ++ t.out) new_r n on (omega (arith, weights-append new_s t.out, ap weights out))
    drains.rank in
    record {
      left = falls.left;
      less = falls.less;
      drains = record {
        calm = calm-sent at.limit_s at.limit_r v t (a_report x) new_s new_r drains.calm steps
            (onward-asking (λ timer. timer.times < at.limit_s) at.red v (sender_moves v t) new_s
            (a_report x ∷ new_r) (new_s ++ t.out) new_r on (drains.calm).asking)
            (onward-reporting (λ p. (p.timer).times < at.limit_r) at.red v (sender_moves v t)
            new_s (a_report x ∷ new_r) (new_s ++ t.out) new_r on (drains.calm).reporting);
        rank = falls.rank;
        serials = serials-sent at.session v t n falls.left drains.serials falls.less steps;
        fit = fit-append at.most v.by_sender t.out drains.fit
            (λ q among. absurd (ack-alone x.serial t.out out q among));
        low = λ is_open. drains.low (was-open v t steps is_open);
      };
    }

-- a sender that is over
over-sends : (v : View) (t : StepValue Sending) (n : ℕ) → after t.next v.sender ≡ None
    → t.out ≡ a_report_ack n ∷ [] → (IsKeptSender v.sender → (v.closed ≡ true) ⊎ IsHanded v.receiver)
    → Sends_on v t
over-sends v t n none out done = record {
  waits = λ s' kept. absurd (never s' kept);
  out = no_cancels-one (a_report_ack n) t.out refl out;
  was = λ s' kept. absurd (never s' kept);
  done = λ is_open. inr (done is_open);
  pieces = λ q among. absurd (ack-alone n t.out out q among);
  serial = λ s' c' timer' kept waits. absurd (never s' kept);
}
  where
    never : (s' : Sending) → after t.next v.sender ≡ Some s' → ⊥
    never s' kept = let both : None ≡ Some s' = sym none ∙ kept in cc

-- a sender that waits on
kept-sends : (v : View) (t : StepValue Sending) (s s' : Sending) (c c' : PieceValue)
    (timer timer' : Timer) → v.sender ≡ Some s → t.next ≡ keeps s' → NoCancels t.out
    → s.phase ≡ sender_open c timer → s'.phase ≡ sender_open c' timer'
    → c'.checkpoint ≤ c.checkpoint + 1 → Sends_on v t
kept-sends v t s s' c c' timer timer' is_s next out waited waits low = record {
  waits = λ s'' kept. subst WaitsOn (only s'' kept)
      (record { checkpoint = c'; timer = timer'; is = waits });
  out = out;
  was = λ s'' kept. (s, is_s);
  done = λ is_open. inl open_now;
  pieces = λ q among. open_now;
  serial = λ s'' c'' timer'' kept waits_now.
      let both : sender_open c' timer' ≡ sender_open c'' timer'' = sym waits
      ∙ ap (λ (s : Sending). s.phase) (only s'' kept) ∙ waits_now in
      let one : c' ≡ c'' = cc in (
        s,
        c,
        timer,
        is_s,
        waited,
        subst (λ (q : PieceValue). q.checkpoint ≤ c.checkpoint + 1) one
            low,
      );
}
  where
    only : (s'' : Sending) → after t.next v.sender ≡ Some s'' → s' ≡ s''
    only s'' kept = let here : Some s' ≡ Some s'' =
        subst (λ ch. after ch v.sender ≡ Some s'') next kept in cc

    open_now : IsKeptSender (after t.next v.sender)
    open_now = subst (λ ch. IsKeptSender (after ch v.sender)) (sym next) tt

-- ---- a round

pub round-plain : (last : ℕ × List ℕ → PieceValue) (parts : List (ℕ × List ℕ))
    → NoCancels (red_pieces last parts)
unfolding red_pieces
round-plain last [] c among = absurd among
round-plain last (part ∷ []) c (inl here) = ap is_cancel (sym here)
round-plain last (part ∷ []) c (inr none) = absurd none
round-plain last (part ∷ next ∷ parts) c (inl here) = ap is_cancel (sym here)
round-plain last (part ∷ next ∷ parts) c (inr among) = round-plain last (next ∷ parts) c among

round-falls : (at : Setting) (block : List ℕ) (most : ℕ) (v : View) (t : StepValue Sending)
    (s s' : Sending) (x : ReportValue) (new_s new_r : List ContentValue) (n : ℕ)
    → Given block at.red most v → 1 ≤ at.z → at.red ≤ at.most
    → Drains at v new_s (a_report x ∷ new_r) n → v.sender ≡ Some s → t.next ≡ keeps s'
    → (on : Rounds (a_report x) s s' t.out)
    → on.z ≡ at.z → s'.red ≡ s.red → s'.block ≡ s.block
    → Falls at (sender_moves v t) (new_s ++ t.out) new_r n
round-falls at block most v t s s' x new_s new_r n given cuts low drains is_s next on is_z
    same_red same_block =
    let (left, less, rank) = round-row at.z at.red v s s' t r x new_s new_r n is_s is_r next on
    is_z cuts sends.same_red
    (subst (λ (b : List ℕ). at.red ≤ length b) (sym sends.same_block)
    ((given.facts).0.0.0).within) (omega (
      arith,
      subst (IfKept (λ s. length s.claimed ≡ at.red)) is_s given.size,
    )) same_block same_red
    heard
    (λ q among. (drains.calm).heard_s (a_piece q) among) ((given.facts).0.1).told
    (subst (IfKept (ClaimsFilled v.by_receiver)) is_r ((given.facts).0.1).filled)
    ((given.facts).1).names asks.current
    (adds-claimed v.by_receiver (a_report x) s s' heard asks.claimed on.adds) drains.rank in
    record {
      left = left;
      less = less;
      drains = record {
        calm = calm-sent at.limit_s at.limit_r v t (a_report x) new_s new_r drains.calm steps
            asking reporting;
        rank = rank;
        serials = serials-sent at.session v t n left drains.serials less steps;
        fit = fit-append at.most v.by_sender t.out drains.fit
            (λ q among. fit-round q (subst (IsIn (a_piece q)) on.sends among));
        low = λ is_open. drains.low (was-open v t steps is_open);
      };
    }
  where
    heard : IsIn (a_report x) v.by_receiver
    heard = (drains.calm).heard_r (a_report x) (inl refl)

    sends : IsSenderOf block at.red s
    sends = subst (IfKept (IsSenderOf block at.red)) is_s ((given.facts).0.0.0).sender

    asks : HasAsked v.by_sender v.by_receiver s
    asks = subst (IfKept (HasAsked v.by_sender v.by_receiver)) is_s ((given.facts).1).sender

    kept : (r : Receiving) × (v.receiver ≡ Some r)
    kept = kept-receiver block at.red most v x given ((drains.calm).unclosed s is_s) heard

    r : Receiving
    r = kept.0

    is_r : v.receiver ≡ Some r
    is_r = kept.1

    is_x : (on.adds).report ≡ x
    is_x = cc (sym ((on.adds).told).is)

    last : ℕ × List ℕ → PieceValue
    last = checkpoint_at (length s.block) s.red (((on.c).checkpoint + 1))
        ((on.adds).report).serial

    red_low : s.red ≤ at.most
    red_low = omega (arith, low, sends.same_red)

    fit-round : (q : PieceValue) → IsIn (a_piece q)
        (a_report_ack ((on.adds).report).serial ∷ red_pieces last on.parts) → (1 ≤ length q.body)
        × (piece_stop q ≤ at.most)
    fit-round q (inl here) = absurd (cc)
    fit-round q (inr among) = round-fit at.most last (λ part. refl) (λ part. refl) on.parts
        (subst (AllByRecursion (PartFits at.most)) (sym on.parts_are)
        (unclaimed-fit at.most s'.claimed (segments_of on.z 0 (take s.red s.block))
        (cut-fit at.most on.z (length (take s.red s.block)) 0 (take s.red s.block)
        (omega (arith, cuts, is_z)) (λ some. omega
        (arith, length-take s.red s.block, red_low))))) q among

    ack_out : IsIn (a_report_ack x.serial) t.out
    ack_out = subst (IsIn (a_report_ack x.serial)) (sym on.sends)
        (inl (ap (λ (y : ReportValue). a_report_ack y.serial) is_x))

    steps : Sends_on v t
    steps = kept-sends v t s s' on.c (last on.part) on.timer on.timer' is_s next
        (λ c among. plain c (subst (IsIn c) on.sends among)) on.waited on.waits (omega arith)
      where
        plain : (c : ContentValue) → IsIn c (a_report_ack ((on.adds).report).serial ∷ red_pieces
            last on.parts) → is_cancel c ≡ false
        plain c (inl here) = ap is_cancel (sym here)
        plain c (inr among) = round-plain last on.parts c among

    asking : (s'' : Sending) (c : PieceValue) (timer : Timer) → after t.next v.sender ≡ Some s''
        → s''.phase ≡ sender_open c timer → IsAskedOn c.checkpoint (new_s ++ t.out) new_r
        ⊎ (timer.times < at.limit_s)
    asking s'' c timer kept_now waits =
        let here : Some s' ≡ Some s'' = subst (λ ch. after ch v.sender ≡ Some s'') next kept_now
        in
        let one : s' ≡ s'' = cc in
        let both : sender_open (last on.part) on.timer' ≡ sender_open c timer = sym on.waits
        ∙ ap (λ (s : Sending). s.phase) one ∙ waits in
        let same : last on.part ≡ c = cc in
        inl (inl (
          last on.part,
          among-right (a_piece (last on.part)) new_s t.out
              (subst (IsIn (a_piece (last on.part))) (sym on.sends)
              (inr (round-has last on.parts on.part on.last))),
          checkpoint_at-asks (length s.block) s.red (((on.c).checkpoint + 1))
              ((on.adds).report).serial on.part,
          ap (λ (q : PieceValue). q.checkpoint) same,
        ))

    reporting : (r : Receiving) (p : Pending) → v.receiver ≡ Some r → pending_of r.phase ≡ Some p
        → IsReportedOn (p.report).serial (new_s ++ t.out) new_r ⊎ ((p.timer).times < at.limit_r)
    reporting r p is waits = go ((drains.calm).reporting r p is waits)
      where
        go : IsReportedOn (p.report).serial new_s (a_report x ∷ new_r)
            ⊎ ((p.timer).times < at.limit_r) → IsReportedOn (p.report).serial
            (new_s ++ t.out) new_r ⊎ ((p.timer).times < at.limit_r)
        go (inl on_way) = inl (reported-acked (p.report).serial x new_s new_r t.out ack_out
            on_way)
        go (inr idle) = inr idle

-- ---- the rows

report-weighs : (x : ReportValue) (new_r : List ContentValue) → 2 ≤ weights (a_report x ∷ new_r)
unfolding weights
report-weighs x new_r = omega arith

told-falls : (at : Setting) (block : List ℕ) (policy : PolicyValue) (most : ℕ) (v : View)
    (s : Sending) (x : ReportValue) (new_s new_r : List ContentValue) (n : ℕ)
    (t : StepValue Sending)
    → Given block at.red most v → policy.segment ≡ at.z → 1 ≤ at.z
    → Drains at v new_s (a_report x ∷ new_r) n → v.sender ≡ Some s
    → length (with_claims x.lower x.claims s.claimed) ≡ at.red
    → Told policy s x t → Falls at (sender_moves v t) (new_s ++ t.out) new_r n
told-falls at block policy most v s x new_s new_r n t given is_z cuts drains is_s size
    (completes all next out note) =
    falls-sent at v t x new_s new_r n drains (late-report-onward at.red v x new_s new_r t out
    none)
    (over-sends v t x.serial none out (λ is_open. inr
    (all-handed block at.red most v s x given is_s ((drains.calm).unclosed s is_s)
    ((drains.calm).heard_r (a_report x) (inl refl)) size all))) out
  where
    none : after t.next v.sender ≡ None
    none = ap (λ ch. after ch v.sender) next
told-falls at block policy most v s x new_s new_r n t given is_z cuts drains is_s size
    (adds_only s' c timer next out waited phase same_red same_block claimed apart) =
    falls-sent at v t x new_s new_r n drains (adds-onward at.red v x new_s new_r t s s' c timer
    is_s next out waited phase same_red same_block apart)
    (kept-sends v t s s' c c timer timer is_s next
    (no_cancels-one (a_report_ack x.serial) t.out refl out) waited (phase
    ∙ waited) (omega arith)) out
told-falls at block policy most v s x new_s new_r n t given is_z cuts drains is_s size
    (asks_again s' next on z same_red same_block claimed) =
    round-falls at block most v t s s' x new_s new_r n given cuts
    (drains.low (subst IsKeptSender (sym is_s) tt)) drains is_s next on (z
    ∙ is_z) same_red same_block

pub sender-falls : (at : Setting) (block : List ℕ) (policy : PolicyValue) (most : ℕ) (v : View)
    (e : ContentValue) (now : ℕ) (new_s new_r : List ContentValue) (n : ℕ) (t : StepValue Sending)
    → Given block at.red most v → policy.segment ≡ at.z → 1 ≤ at.z
    → Drains at v new_s (e ∷ new_r) n → sender_answers policy v.sender e now ≡ Some t
    → Falls at (sender_moves v t) (new_s ++ t.out) new_r n
unfolding sender_answers
sender-falls at block policy most v (a_report x) now new_s new_r n t given is_z cuts drains
    hears = by_kept v.sender refl hears
  where
    by_kept : (o : Option Sending) → v.sender ≡ o → Some (on_report policy o x now) ≡ Some t
        → Falls at (sender_moves v t) (new_s ++ t.out) new_r n
    by_kept None is hears =
        let none : after t.next v.sender ≡ None = answered (λ t. after t.next v.sender ≡ None) _ t
        hears is in
        let out : t.out ≡ a_report_ack x.serial ∷ [] =
        answered (λ t. t.out ≡ a_report_ack x.serial ∷ []) _ t hears refl in
        falls-sent at v t x new_s new_r n drains
        (late-report-onward at.red v x new_s new_r t out none)
        (over-sends v t x.serial none out (λ is_open. absurd (subst IsKeptSender is is_open))) out
    by_kept (Some s) is hears =
        told-falls at block policy most v s x new_s new_r n t given is_z cuts drains is
        (length-claims x.lower x.claims s.claimed ∙ size)
        (answered (Told policy s x) _ t hears
        (report-told policy s waits.checkpoint waits.timer x now waits.is
        (omega (arith, cuts, is_z)) (size ∙ sym sends.same_red)
        (omega (arith, sends.same_red, ap length sends.same_block, ((given.facts).0.0.0).within))
        (ne_eqb ((waits.checkpoint).checkpoint + 1) (2 ^ 32)
        (λ h. absurd (omega (
          arith,
          (drains.serials).sender s waits.checkpoint waits.timer is
              waits.is,
          h,
          heavy,
        )))) (omega (arith, told.upper, sends.same_red))))
      where
        waits : WaitsOn s
        waits = (drains.calm).sending s is

        sends : IsSenderOf block at.red s
        sends = subst (IfKept (IsSenderOf block at.red)) is ((given.facts).0.0.0).sender

        size : length s.claimed ≡ at.red
        size = subst (IfKept (λ s. length s.claimed ≡ at.red)) is given.size

        told : IsReportOf at.red x
        told = ((given.facts).0.1).told x ((drains.calm).heard_r (a_report x) (inl refl))

        -- a report is on its way, so the rank is no less than its weight
        heavy : 2 ≤ n
        heavy = omega (arith, (drains.rank).sum, report-weighs x new_r)
sender-falls at block policy most v (a_receiver_cancel reason) now new_s new_r n t given is_z cuts
    drains hears =
    absurd (let h = (drains.calm).none_r (a_receiver_cancel reason) (inl refl) in cc)
sender-falls at block policy most v a_sender_cancel_ack now new_s new_r n t given is_z cuts drains
    hears =
    absurd (let h = (drains.calm).none_r a_sender_cancel_ack (inl refl) in cc)
sender-falls at block policy most v (a_piece q) now new_s new_r n t given is_z cuts drains hears =
    absurd (cc)
sender-falls at block policy most v (a_report_ack m) now new_s new_r n t given is_z cuts drains
    hears = absurd (cc)
sender-falls at block policy most v (a_sender_cancel reason) now new_s new_r n t given is_z cuts
    drains hears = absurd (cc)
sender-falls at block policy most v a_receiver_cancel_ack now new_s new_r n t given is_z cuts
    drains hears = absurd (cc)

-- ---- a session that is open stays so, or its red part was handed up and it is noted as sent

abbrev pub EndsWell : View → StepValue Sending → Type 0
EndsWell v t = IsKeptSender (after t.next v.sender) ⊎ (IsHanded v.receiver × (t.note ≡ Some note_sent))

pub sender-advances : (at : Setting) (block : List ℕ) (policy : PolicyValue) (most : ℕ) (v : View)
    (e : ContentValue) (now : ℕ) (new_s new_r : List ContentValue) (n : ℕ) (t : StepValue Sending)
    → Given block at.red most v → policy.segment ≡ at.z → 1 ≤ at.z
    → Drains at v new_s (e ∷ new_r) n → sender_answers policy v.sender e now ≡ Some t
    → IsKeptSender v.sender → EndsWell v t
unfolding sender_answers
sender-advances at block policy most v (a_report x) now new_s new_r n t given is_z cuts drains
    hears is_open = by_kept v.sender refl hears
  where
    by_kept : (o : Option Sending) → v.sender ≡ o → Some (on_report policy o x now) ≡ Some t
        → EndsWell v t
    by_kept None is hears = absurd (subst IsKeptSender is is_open)
    by_kept (Some s) is hears =
        by_told (answered (Told policy s x) _ t hears
        (report-told policy s waits.checkpoint waits.timer x now waits.is
        (omega (arith, cuts, is_z)) (size ∙ sym sends.same_red)
        (omega (arith, sends.same_red, ap length sends.same_block, ((given.facts).0.0.0).within))
        (ne_eqb ((waits.checkpoint).checkpoint + 1) (2 ^ 32)
        (λ h. absurd (omega (
          arith,
          (drains.serials).sender s waits.checkpoint waits.timer is
              waits.is,
          h,
          heavy,
        )))) (omega (arith, told.upper, sends.same_red))))
      where
        waits : WaitsOn s
        waits = (drains.calm).sending s is

        sends : IsSenderOf block at.red s
        sends = subst (IfKept (IsSenderOf block at.red)) is ((given.facts).0.0.0).sender

        size : length s.claimed ≡ at.red
        size = subst (IfKept (λ s. length s.claimed ≡ at.red)) is given.size

        told : IsReportOf at.red x
        told = ((given.facts).0.1).told x ((drains.calm).heard_r (a_report x) (inl refl))

        heavy : 2 ≤ n
        heavy = omega (arith, (drains.rank).sum, report-weighs x new_r)

        by_told : Told policy s x t → EndsWell v t
        by_told (completes all next out note) = inr (
          (all-handed block at.red most v s x given is ((drains.calm).unclosed s is)
              ((drains.calm).heard_r (a_report x) (inl refl))
              (length-claims x.lower x.claims s.claimed ∙ size) all),
          note,
        )
        by_told (adds_only s' c timer next out waited phase same_red same_block claimed apart) =
            inl (subst (λ ch. IsKeptSender (after ch v.sender)) (sym next) tt)
        by_told (asks_again s' next on z same_red same_block claimed) =
            inl (subst (λ ch. IsKeptSender (after ch v.sender)) (sym next) tt)
sender-advances at block policy most v (a_receiver_cancel reason) now new_s new_r n t given is_z
    cuts drains hears is_open =
    absurd (let h = (drains.calm).none_r (a_receiver_cancel reason) (inl refl) in cc)
sender-advances at block policy most v a_sender_cancel_ack now new_s new_r n t given is_z cuts
    drains hears is_open =
    absurd (let h = (drains.calm).none_r a_sender_cancel_ack (inl refl) in cc)
sender-advances at block policy most v (a_piece q) now new_s new_r n t given is_z cuts drains
    hears is_open = absurd (cc)
sender-advances at block policy most v (a_report_ack m) now new_s new_r n t given is_z cuts drains
    hears is_open = absurd (cc)
sender-advances at block policy most v (a_sender_cancel reason) now new_s new_r n t given is_z
    cuts drains hears is_open = absurd (cc)
sender-advances at block policy most v a_receiver_cancel_ack now new_s new_r n t given is_z cuts
    drains hears is_open = absurd (cc)
