-- Where a drain starts, and where nothing is left of it.

use Rattle.std.proofs.Common.{◌≡◌, ℕ, ◌+◌, ◌<◌, ◌≤◌, ◌^◌, Bool, true, false, List, [], ◌∷◌, ◌++◌}
use Rattle.std.proofs.Common.{length, take, drop, replicate, Option, None, Some, ◌⊎◌, inl, inr}
use Rattle.std.proofs.Common.{refl, sym, ◌∙◌, ap, arith, subst, if◌then◌else◌}
use Rattle.std.proofs.lemmas.List.{length-take, length-drop}
use Rattle.std.specs.List.{AllByRecursion}
use Rattle.ltp_segment.specs.Kinds.{is_red, is_checkpoint}
use Rattle.ltp_segment.specs.Policy.{PolicyValue}
use Rattle.ltp_segment.specs.Values.{PieceValue, ContentValue, a_piece, a_report, a_report_ack}
use Rattle.ltp_segment.specs.Values.{a_sender_cancel, a_sender_cancel_ack, a_receiver_cancel}
use Rattle.ltp_segment.specs.Values.{a_receiver_cancel_ack}
use Rattle.ltp_segment.specs.declared.segment.PieceKind.TheVariants as kinds
use Rattle.ltp_session.specs.Receiver.{piece_stop}
use Rattle.ltp_session.specs.Sender.{opened, Sending, begin, checkpoint_at, green_pieces}
use Rattle.ltp_session.specs.Sender.{last_segment, piece_at, red_pieces, segments_of, sender_open}
use Rattle.ltp_session.specs.Step.{after}
use Rattle.ltp_session.specs.Timer.{first_serial, first_timer}
use Rattle.ltp_session.specs.declared.timer.Timer.{Timer}
use Rattle.ltp_laws.specs.View.{IsIn, Unused, View, begins}
use Rattle.ltp_laws.proofs.CheckpointLemmas.{begin-next, checkpoint_at-asks, begun-has}
use Rattle.ltp_laws.proofs.SerialLemmas.{among-append, among-right}
use Rattle.ltp_laws.proofs.WholeLemmas.{cut-has}
use Rattle.ltp_drain.specs.Calm.{AreFit, Calm, Drains, IsPromising, NoCancels, Rests, is_cancel}
use Rattle.ltp_drain.specs.Hopeful.{IsKeptSender}
use Rattle.ltp_drain.specs.Rank.{IsAskedOn, IsReportedOn, RankAtMost, ahead, weights}
use Rattle.ltp_drain.proofs.RankLemmas.{ahead-append, ahead-round, weights-append, weights-round}
use Rattle.ltp_drain.proofs.ReceiverDrains.{no_cancels-append}
use Rattle.ltp_drain.proofs.SenderRows.{has-last}
use Rattle.ltp_drain.proofs.SenderDrains.{PartFits, cut-fit, fit-append, round-fit, round-plain}

-- ---- a rank of 0

nothing-weighs : (cs : List ContentValue) → weights cs ≤ 0 → cs ≡ []
unfolding weights
nothing-weighs [] light = refl
nothing-weighs (a_piece q ∷ cs) light = absurd (by (is_checkpoint q.kind) light)
  where
    by : (b : Bool) → (if b then 3 else 1) + weights cs ≤ 0 → ⊥
    by true light = omega arith
    by false light = omega arith
nothing-weighs (a_report x ∷ cs) light = absurd (omega arith)
nothing-weighs (a_report_ack n ∷ cs) light = absurd (omega arith)
nothing-weighs (a_sender_cancel n ∷ cs) light = absurd (omega arith)
nothing-weighs (a_sender_cancel_ack ∷ cs) light = absurd (omega arith)
nothing-weighs (a_receiver_cancel n ∷ cs) light = absurd (omega arith)
nothing-weighs (a_receiver_cancel_ack ∷ cs) light = absurd (omega arith)

pub none-reported : (serial : ℕ) → IsReportedOn serial [] [] → ⊥
none-reported serial (inl (x, among, is)) = among
none-reported serial (inr among) = among

pub none-asked : (c : ℕ) → IsAskedOn c [] [] → ⊥
none-asked c (inl (q, among, asks, named)) = among
none-asked c (inr (x, among, is)) = among

pub rank-zero : (z red : ℕ) (v : View) (new_s new_r : List ContentValue)
    → RankAtMost z red v new_s new_r 0 → Rests v new_s new_r
rank-zero z red v new_s new_r rank = record {
  none_s = none_s;
  none_r = none_r;
  no_report = λ r p is waits. report (subst (λ new. IsReportedOn (p.report).serial new new_r
      ⊎ (3 ≤ rank.report)) none_s (rank.reporting r p is waits));
  no_checkpoint = λ s c timer is waits. checkpoint
      (subst (λ new. IsAskedOn c.checkpoint new new_r ⊎ (4 ≤ rank.checkpoint)) none_s
      (rank.asking s c timer is waits));
}
  where
    none_s : new_s ≡ []
    none_s = nothing-weighs new_s (omega (arith, rank.sum))

    none_r : new_r ≡ []
    none_r = nothing-weighs new_r (omega (arith, rank.sum))

    report : {serial : ℕ} → IsReportedOn serial [] new_r ⊎ (3 ≤ rank.report) → ⊥
    report (inr three) = omega (arith, three, rank.sum)
    report {serial = serial} (inl on) = none-reported serial
        (subst (λ new. IsReportedOn serial [] new) none_r on)

    checkpoint : {c : ℕ} → IsAskedOn c [] new_r ⊎ (4 ≤ rank.checkpoint) → ⊥
    checkpoint (inr four) = omega (arith, four, rank.sum)
    checkpoint {c = c} (inl on) = none-asked c (subst (λ new. IsAskedOn c [] new) none_r on)

-- ---- where a drain starts: nothing is new

pub rank-starts-kept : (z red : ℕ) (v : View) (s : Sending) → v.sender ≡ Some s
    → RankAtMost z red v [] [] (length (segments_of z 0 (take s.red s.block)) + 9)
unfolding weights
rank-starts-kept z red v s is = record {
  report = 3;
  checkpoint = 4;
  round = length (segments_of z 0 (take s.red s.block)) + 2;
  sum = omega arith;
  reporting = λ r p kept waits. inr (omega arith);
  asking = λ s' c timer kept waits. inr (omega arith);
  rounding = λ s' c timer kept waits. inr (paid s' (let both : Some s ≡ Some s' = sym is
      ∙ kept in cc));
}
  where
    paid : (s' : Sending) → s ≡ s' → length (segments_of z 0 (take s'.red s'.block)) + 2 ≤ length
        (segments_of z 0 (take s.red s.block)) + 2
    paid s' one = subst (λ (s' : Sending). length (segments_of z 0 (take s'.red s'.block)) + 2 ≤
        length (segments_of z 0 (take s.red s.block)) + 2) one (omega arith)

pub rank-starts-none : (z red : ℕ) (v : View) → v.sender ≡ None → RankAtMost z red v [] [] 3
unfolding weights
rank-starts-none z red v none = record {
  report = 3;
  checkpoint = 0;
  round = 0;
  sum = omega arith;
  reporting = λ r p kept waits. inr (omega arith);
  asking = λ s c timer kept waits. absurd (let both : None ≡ Some s = sym none ∙ kept in cc);
  rounding = λ s c timer kept waits. absurd (let both : None ≡ Some s = sym none ∙ kept in cc);
}

-- nothing is kept at all
pub rank-starts-over : (z red : ℕ) (v : View) → v.sender ≡ None → v.receiver ≡ None
    → RankAtMost z red v [] [] 0
unfolding weights
rank-starts-over z red v none none_kept = record {
  report = 0;
  checkpoint = 0;
  round = 0;
  sum = omega arith;
  reporting = λ r p kept waits. absurd (let both : None ≡ Some r = sym none_kept ∙ kept in cc);
  asking = λ s c timer kept waits. absurd (let both : None ≡ Some s = sym none ∙ kept in cc);
  rounding = λ s c timer kept waits. absurd (let both : None ≡ Some s = sym none ∙ kept in cc);
}

-- ---- a session begins in a drain

weights-green : (parts : List (ℕ × List ℕ)) → weights (green_pieces parts) ≡ length parts
unfolding weights green_pieces
weights-green [] = refl
weights-green (part ∷ []) = refl
weights-green (part ∷ next ∷ parts) = omega (arith, weights-green (next ∷ parts))

weights-red : (size red serial : ℕ) (parts : List (ℕ × List ℕ))
    → weights (red_pieces (checkpoint_at size red serial 0) parts) ≤ length parts + 2
unfolding weights red_pieces
weights-red size red serial [] = omega arith
weights-red size red serial (part ∷ parts) = omega (
  arith,
  weights-round (checkpoint_at size red serial 0) (checkpoint_at-asks size red serial 0)
      part parts,
)

begin-out : (policy : PolicyValue) (n : ℕ) (block : List ℕ) (red now : ℕ)
    → (begin policy n block red now).out
    ≡ red_pieces (checkpoint_at (length block) red (first_serial n) 0)
    (segments_of policy.segment 0 (take red block)) ++ green_pieces
    (segments_of policy.segment red (drop red block))
unfolding begin
begin-out policy n block red now = refl

-- the sender that begins waits for the checkpoint
record Begun (policy : PolicyValue) (n : ℕ) (block : List ℕ) (red now : ℕ) (s : Sending) : Type 0
  where
    part : ℕ × List ℕ
    last : last_segment (segments_of policy.segment 0 (take red block)) ≡ Some part
    waits : s.phase ≡ sender_open (checkpoint_at (length block) red (first_serial n) 0 part)
        (first_timer policy now)

begun-sender : (policy : PolicyValue) (n : ℕ) (block : List ℕ) (red now : ℕ) (s : Sending)
    → after (begin policy n block red now).next None ≡ Some s → Begun policy n block red now s
begun-sender policy n block red now s kept =
    by_last (last_segment (segments_of policy.segment 0 (take red block))) refl
    (subst (λ ch. after ch None ≡ Some s) (begin-next policy n block red now) kept)
  where
    by_last : (o : Option (ℕ × List ℕ)) → last_segment
        (segments_of policy.segment 0 (take red block)) ≡ o
        → after (opened policy block red now (checkpoint_at (length block) red (first_serial n) 0)
        o) None ≡ Some s → Begun policy n block red now s
    by_last None is kept = absurd (cc)
    by_last (Some part) is kept =
        let one : record {
          block = block;
          red = red;
          claimed = replicate red false;
          phase = sender_open (checkpoint_at (length block) red (first_serial n) 0 part)
              (first_timer policy now);
        } ≡ s = cc in
        record { part = part; last = is; waits = ap (λ (s : Sending). s.phase) (sym one) }

begun-asked : (policy : PolicyValue) (n : ℕ) (block : List ℕ) (red now : ℕ) (s : Sending)
    (c : PieceValue) (timer : Timer) → after (begin policy n block red now).next None ≡ Some s
    → s.phase ≡ sender_open c timer
    → (q : PieceValue) × IsIn (a_piece q) (begin policy n block red now).out
    × (is_checkpoint q.kind ≡ true) × (q.checkpoint ≡ c.checkpoint)
begun-asked policy n block red now s c timer kept waits =
    let b = begun-sender policy n block red now s kept in
    let both : sender_open (checkpoint_at (length block) red (first_serial n) 0 b.part)
    (first_timer policy now) ≡ sender_open c timer = sym b.waits ∙ waits in
    let one : checkpoint_at (length block) red (first_serial n) 0 b.part ≡ c = cc in (
      checkpoint_at (length block) red (first_serial n) 0 b.part,
      begun-has policy n block red now (checkpoint_at (length block) red (first_serial n) 0
          b.part) b.part b.last refl,
      checkpoint_at-asks (length block) red (first_serial n) 0 b.part,
      ap (λ (q : PieceValue). q.checkpoint) one,
    )

pub rank-begins : (policy : PolicyValue) (n : ℕ) (block : List ℕ) (red now : ℕ) (v : View)
    → 1 ≤ policy.segment → red ≤ length block → Unused v
    → RankAtMost policy.segment red (begins v (begin policy n block red now))
    (begin policy n block red now).out []
    (length (segments_of policy.segment 0 (take red block)) + length
    (segments_of policy.segment red (drop red block)) + 2)
unfolding weights
rank-begins policy n block red now v cuts within unused = record {
  report = 0;
  checkpoint = 0;
  round = 0;
  sum = omega (
    arith,
    ap weights (begin-out policy n block red now),
    weights-append (red_pieces (checkpoint_at (length block) red (first_serial n) 0)
        (segments_of policy.segment 0 (take red block)))
        (green_pieces (segments_of policy.segment red (drop red block))),
    weights-red (length block) red (first_serial n)
        (segments_of policy.segment 0 (take red block)),
    weights-green (segments_of policy.segment red (drop red block)),
  );
  reporting = λ r p kept waits. absurd (let both : None ≡ Some r = sym unused.receiver
      ∙ kept in cc);
  asking = λ s c timer kept waits. inl (inl (begun-asked policy n block red now s c timer
      (subst (λ o. after (begin policy n block red now).next o ≡ Some s) unused.sender kept)
      waits));
  rounding = λ s c timer kept waits. inl (record {
    whole = λ x among named. absurd (subst (IsIn (a_report x)) unused.by_receiver among);
    cells = λ i low. inr (subst (λ out. ahead c.checkpoint i out ≡ true)
        (sym (begin-out policy n block red now))
        (ahead-append c.checkpoint i _ (green_pieces
        (segments_of policy.segment red (drop red block)))
        (ahead-round (length block) red (first_serial n) 0 c.checkpoint i
        (segments_of policy.segment 0 (take red block))
        (cut-has policy.segment (length (take red block)) 0 (take red block) i cuts (omega arith)
        (omega arith) (omega (arith, length-take red block, within, low))))));
  });
}

green-plain : (parts : List (ℕ × List ℕ)) → NoCancels (green_pieces parts)
unfolding green_pieces
green-plain [] c among = absurd among
green-plain (part ∷ []) c (inl here) = ap is_cancel (sym here)
green-plain (part ∷ []) c (inr none) = absurd none
green-plain (part ∷ next ∷ parts) c (inl here) = ap is_cancel (sym here)
green-plain (part ∷ next ∷ parts) c (inr among) = green-plain (next ∷ parts) c among

green-red : (parts : List (ℕ × List ℕ)) (q : PieceValue) → IsIn (a_piece q) (green_pieces parts)
    → is_red q.kind ≡ false
unfolding green_pieces
green-red [] q among = absurd among
green-red (part ∷ []) q (inl here) = let same : piece_at kinds.GreenEndBlock 0 0 part ≡ q =
    cc in ap (λ (p : PieceValue). is_red p.kind) (sym same)
green-red (part ∷ []) q (inr none) = absurd none
green-red (part ∷ next ∷ parts) q (inl here) = let same : piece_at kinds.Green 0 0 part ≡ q =
    cc in ap (λ (p : PieceValue). is_red p.kind) (sym same)
green-red (part ∷ next ∷ parts) q (inr among) = green-red (next ∷ parts) q among

green-fit : (most : ℕ) (parts : List (ℕ × List ℕ)) → AllByRecursion (PartFits most) parts
    → AreFit most (green_pieces parts)
unfolding green_pieces
green-fit most [] all q among = absurd among
green-fit most (part ∷ []) all q (inr none) = absurd none
green-fit most (part ∷ []) all q (inl here) =
    let same : piece_at kinds.GreenEndBlock 0 0 part ≡ q = cc in
    subst (λ (q : PieceValue). (1 ≤ length q.body) × (piece_stop q ≤ most)) same
    (all.0.some, all.0.within)
green-fit most (part ∷ next ∷ parts) all q (inl here) =
    let same : piece_at kinds.Green 0 0 part ≡ q = cc in
    subst (λ (q : PieceValue). (1 ≤ length q.body) × (piece_stop q ≤ most)) same
    (all.0.some, all.0.within)
green-fit most (part ∷ next ∷ parts) all q (inr among) =
    green-fit most (next ∷ parts) all.1 q among

no-pieces : (last : ℕ × List ℕ → PieceValue) (parts : List (ℕ × List ℕ)) (c : ContentValue)
    → last_segment parts ≡ None → IsIn c (red_pieces last parts) → ⊥
unfolding red_pieces
no-pieces last [] c none among = among
no-pieces last (part ∷ parts) c none among = has-last part parts none

-- a red piece of it is waited for
begun-open : (policy : PolicyValue) (n : ℕ) (block : List ℕ) (red now : ℕ) (q : PieceValue)
    → IsIn (a_piece q) (begin policy n block red now).out → is_red q.kind ≡ true
    → IsKeptSender (after (begin policy n block red now).next None)
begun-open policy n block red now q among red_kind =
    go (among-append (a_piece q) (red_pieces (checkpoint_at (length block) red (first_serial n) 0)
    (segments_of policy.segment 0 (take red block)))
    (green_pieces (segments_of policy.segment red (drop red block)))
    (subst (IsIn (a_piece q)) (begin-out policy n block red now) among))
  where
    by_last : (o : Option (ℕ × List ℕ)) → last_segment
        (segments_of policy.segment 0 (take red block)) ≡ o
        → IsIn (a_piece q) (red_pieces (checkpoint_at (length block) red (first_serial n) 0)
        (segments_of policy.segment 0 (take red block)))
        → IsKeptSender (after (opened policy block red now
        (checkpoint_at (length block) red (first_serial n) 0) o) None)
    by_last None is among = absurd (no-pieces _ (segments_of policy.segment 0 (take red block))
        (a_piece q) is among)
    by_last (Some part) is among = tt

    go : IsIn (a_piece q) (red_pieces (checkpoint_at (length block) red (first_serial n) 0)
        (segments_of policy.segment 0 (take red block)))
        ⊎ IsIn (a_piece q) (green_pieces (segments_of policy.segment red (drop red block)))
        → IsKeptSender (after (begin policy n block red now).next None)
    go (inl red_one) = subst (λ ch. IsKeptSender (after ch None))
        (sym (begin-next policy n block red now))
        (by_last (last_segment (segments_of policy.segment 0 (take red block))) refl red_one)
    go (inr green_one) = absurd (let colour = green-red
        (segments_of policy.segment red (drop red block)) q green_one in cc)

pub drain-begins : (limit_r most : ℕ) (policy : PolicyValue) (n : ℕ) (block : List ℕ)
    (red now : ℕ) (v : View) → 1 ≤ policy.segment → red ≤ length block → length block ≤ most
    → Unused v
    → first_serial n + (length (segments_of policy.segment 0 (take red block)) + length
    (segments_of policy.segment red (drop red block)) + 2) < 2 ^ 32
    → Drains (record {
      session = n;
      red = red;
      z = policy.segment;
      limit_s = policy.limit;
      limit_r = limit_r;
      most = most;
    }) (begins v (begin policy n block red now))
    (begin policy n block red now).out []
    (length (segments_of policy.segment 0 (take red block)) + length
    (segments_of policy.segment red (drop red block)) + 2)
drain-begins limit_r most policy n block red now v cuts within size unused low = record {
  calm = record {
    sending = λ s kept. let b = begun s kept in record {
      checkpoint = checkpoint_at (length block) red (first_serial n) 0 b.part;
      timer = first_timer policy now;
      is = b.waits;
    };
    receiving = λ r kept. absurd (let both : None ≡ Some r = sym unused.receiver ∙ kept in cc);
    none_s = subst NoCancels (sym (begin-out policy n block red now))
        (no_cancels-append _ _ (round-plain _ (segments_of policy.segment 0 (take red block)))
        (green-plain (segments_of policy.segment red (drop red block))));
    none_r = λ c among. absurd among;
    asking = λ s c timer kept waits. inl (inl
        (begun-asked policy n block red now s c timer
        (subst (λ o. after (begin policy n block red now).next o ≡ Some s) unused.sender kept)
        waits));
    reporting = λ r p kept waits. absurd (let both : None ≡ Some r = sym unused.receiver
        ∙ kept in cc);
    unclosed = λ s kept. unused.closed;
    awaited = λ q among red_kind. inl (subst (λ o. IsKeptSender
        (after (begin policy n block red now).next o)) (sym unused.sender)
        (begun-open policy n block red now q among red_kind));
    heard_s = λ c among. among-right c v.by_sender (begin policy n block red now).out among;
    heard_r = λ c among. absurd among;
  };
  rank = ranked;
  serials = record {
    sender = λ s c timer kept waits.
        let b = begun s kept in
        let both : sender_open (checkpoint_at (length block) red (first_serial n) 0 b.part)
        (first_timer policy now) ≡ sender_open c timer = sym b.waits ∙ waits in
        let one : checkpoint_at (length block) red (first_serial n) 0 b.part ≡ c = cc in
        omega (arith, low, ap (λ (q : PieceValue). q.checkpoint) one);
    receiver = λ r kept. absurd (let both : None ≡ Some r = sym unused.receiver ∙ kept in cc);
    fresh = low;
  };
  fit = λ q among. fit_now q (subst (λ said. IsIn (a_piece q)
      (said ++ (begin policy n block red now).out)) unused.by_sender among);
  low = λ is_open. omega (arith, within, size);
}
  where
    fit_now : (q : PieceValue) → IsIn (a_piece q) (begin policy n block red now).out
        → (1 ≤ length q.body) × (piece_stop q ≤ most)
    fit_now q among = fit-append most _ _
        (round-fit most (checkpoint_at (length block) red (first_serial n) 0) (λ part. refl)
        (λ part. refl) (segments_of policy.segment 0 (take red block))
        (cut-fit most policy.segment (length (take red block)) 0 (take red block) cuts
        (λ some. omega (arith, length-take red block, size))))
        (green-fit most (segments_of policy.segment red (drop red block))
        (cut-fit most policy.segment (length (drop red block)) red (drop red block) cuts
        (λ some. omega (arith, length-drop red block, size, within))))
        q (subst (IsIn (a_piece q)) (begin-out policy n block red now) among)

    ranked : RankAtMost policy.segment red (begins v (begin policy n block red now))
        (begin policy n block red now).out []
        (length (segments_of policy.segment 0 (take red block)) + length
        (segments_of policy.segment red (drop red block)) + 2)
    ranked = rank-begins policy n block red now v cuts within unused

    begun : (s : Sending) → after (begin policy n block red now).next v.sender ≡ Some s
        → Begun policy n block red now s
    begun s kept = begun-sender policy n block red now s
        (subst (λ o. after (begin policy n block red now).next o ≡ Some s) unused.sender kept)

pub calm-starts : (limit_s limit_r : ℕ) (v : View) → IsPromising limit_s limit_r v
    → Calm limit_s limit_r v [] []
calm-starts limit_s limit_r v hopeful = record {
  sending = hopeful.sending;
  receiving = hopeful.receiving;
  none_s = λ c among. absurd among;
  none_r = λ c among. absurd among;
  asking = λ s c timer is waits. inr (hopeful.asking s c timer is waits);
  reporting = λ r p is waits. inr (hopeful.reporting r p is waits);
  unclosed = hopeful.unclosed;
  awaited = λ q among red_kind. absurd among;
  heard_s = λ c among. absurd among;
  heard_r = λ c among. absurd among;
}
