-- Laws of what a rank counts.

use Rattle.std.proofs.Common.{◌≡◌, ℕ, zero, suc, ◌+◌, ◌<◌, ◌≤◌, Bool, true, false, not, ◌==◌}
use Rattle.std.proofs.Common.{◌&&◌, ◌||◌, List, [], ◌∷◌, ◌++◌, length, Some, ◌⊎◌, inl, inr, refl}
use Rattle.std.proofs.Common.{sym, ◌∙◌, ap, arith, subst, if◌then◌else◌, ⊎_elim, subst₂}
use Rattle.std.proofs.lemmas.Bool.{eqb-true, cases_lt, le-leb, lt-ltb}
use Rattle.std.proofs.lemmas.List.{length-take}
use Rattle.std.specs.Prelude.{take, slice_index_or}
use Rattle.ltp_segment.specs.Kinds.{is_red, is_checkpoint}
use Rattle.ltp_segment.specs.Values.{PieceValue, ReportValue, ContentValue, a_piece, a_report}
use Rattle.ltp_segment.specs.Values.{a_report_ack, a_sender_cancel, a_sender_cancel_ack}
use Rattle.ltp_segment.specs.Values.{a_receiver_cancel, a_receiver_cancel_ack}
use Rattle.ltp_segment.specs.declared.segment.Claim.{Claim}
use Rattle.ltp_segment.specs.declared.segment.PieceKind.TheVariants as kinds
use Rattle.ltp_session.specs.Claims.{with_claims, with_range}
use Rattle.ltp_session.specs.Receiver.{Pending, Receiving}
use Rattle.ltp_session.specs.Sender.{Sending, are_claimed, checkpoint_at, is_all_claimed}
use Rattle.ltp_session.specs.Sender.{is_claimed, last_segment, piece_at, red_pieces, segments_of}
use Rattle.ltp_session.specs.Sender.{sender_open, unclaimed}
use Rattle.ltp_session.specs.Step.{StepValue, after, keeps}
use Rattle.ltp_session.specs.declared.timer.Timer.{Timer}
use Rattle.ltp_laws.specs.Checkpoints.{IsAsked, IsClaimedBy, IsCurrent}
use Rattle.ltp_laws.specs.Claims.{ClaimsFilled, HasPlace, IsReportOf, IsWhole}
use Rattle.ltp_laws.specs.SenderSteps.{Rounds}
use Rattle.ltp_laws.specs.View.{IsIn, View, sender_moves}
use Rattle.ltp_laws.proofs.CheckpointLemmas.{checkpoint_at-asks, round-has}
use Rattle.ltp_laws.proofs.ListLemmas.{both_arms}
use Rattle.ltp_laws.proofs.SerialLemmas.{among-left, among-right}
use Rattle.ltp_laws.proofs.WholeLemmas.{HasPart, cut-has, place-filled}
use Rattle.ltp_drain.specs.Rank.{HasFilled, IsReportedOn, RankAtMost, Settled, ahead, has_cell}
use Rattle.ltp_drain.specs.Rank.{is_checkpoint_of, weights}
use Rattle.ltp_drain.proofs.FallLemmas.{left-few}

-- what a round weighs
pub weights-round : (last : ℕ × List ℕ → PieceValue)
    → ((part : ℕ × List ℕ) → is_checkpoint (last part).kind ≡ true)
    → (part : ℕ × List ℕ) (parts : List (ℕ × List ℕ))
    → weights (red_pieces last (part ∷ parts)) ≡ length parts + 3
unfolding weights red_pieces
weights-round last checkpoints part [] = rw (checkpoints part) refl
weights-round last checkpoints part (next ∷ parts) =
    omega (arith, weights-round last checkpoints next parts)

pub weights-append : (xs ys : List ContentValue) → weights (xs ++ ys) ≡ weights xs + weights ys
unfolding weights
weights-append [] ys = omega arith
weights-append (x ∷ xs) ys = omega (arith, weights-append xs ys)

-- ---- what comes before the checkpoint

pub ahead-append : (c i : ℕ) (xs ys : List ContentValue) → ahead c i xs ≡ true
    → ahead c i (xs ++ ys) ≡ true
unfolding ahead
ahead-append c i [] ys is = absurd (cc)
ahead-append c i (x ∷ xs) ys is = by_tests (has_cell i x) (is_checkpoint_of c x) is
    (ahead-append c i xs ys)
  where
    by_tests : (has stop : Bool) → (has || (not stop && ahead c i xs)) ≡ true
        → (ahead c i xs ≡ true → ahead c i (xs ++ ys) ≡ true)
        → (has || (not stop && ahead c i (xs ++ ys))) ≡ true
    by_tests true stop is rest = refl
    by_tests false true is rest = is
    by_tests false false is rest = rest is

pub ahead-front : (c i : ℕ) (e : ContentValue) (es : List ContentValue)
    → ahead c i (e ∷ es) ≡ true
    → (has_cell i e ≡ true) ⊎ ((is_checkpoint_of c e ≡ false) × (ahead c i es ≡ true))
unfolding ahead
ahead-front c i e es is = by_tests (has_cell i e) refl (is_checkpoint_of c e) refl is
  where
    by_tests : (has : Bool) → has_cell i e ≡ has → (stop : Bool) → is_checkpoint_of c e ≡ stop
        → (has || (not stop && ahead c i es)) ≡ true
        → (has_cell i e ≡ true) ⊎ ((is_checkpoint_of c e ≡ false) × (ahead c i es ≡ true))
    by_tests true has stop stops is = inl has
    by_tests false has true stops is = absurd (cc)
    by_tests false has false stops is = inr (stops, is)

pub ahead-behind : (c i : ℕ) (xs ys : List ContentValue)
    → ((e : ContentValue) → IsIn e xs → is_checkpoint_of c e ≡ false) → ahead c i ys ≡ true
    → ahead c i (xs ++ ys) ≡ true
unfolding ahead
ahead-behind c i [] ys none is = is
ahead-behind c i (x ∷ xs) ys none is = rw (
  none x (inl refl),
  ahead-behind c i xs ys
      (λ e among. none e (inr among)) is,
) (or_true (has_cell i x))
  where
    or_true : (b : Bool) → (b || true) ≡ true
    or_true true = refl
    or_true false = refl

-- ---- the row of a round

claimed-at : (places : List Bool) (at n i : ℕ) → are_claimed places at n ≡ true → at ≤ i
    → i < at + n → slice_index_or places i false ≡ true
unfolding are_claimed
claimed-at places at zero i is from to = absurd (omega arith)
claimed-at places at (suc n) i is from to = by_test (slice_index_or places at false) refl is
    (λ rest high. claimed-at places (at + 1) n i rest high (omega (arith, to)))
  where
    by_test : (first : Bool) → slice_index_or places at false ≡ first
        → (first && are_claimed places (at + 1) n) ≡ true
        → (are_claimed places (at + 1) n ≡ true → at + 1 ≤ i
        → slice_index_or places i false ≡ true) → slice_index_or places i false ≡ true
    by_test true first is further =
        ⊎_elim (λ low. let same : i ≡ at = omega (arith, low, from) in rw same first)
        (λ high. further is high) (cases_lt i (at + 1))
    by_test false first is further = absurd (cc)

pub unclaimed-has : (places : List Bool) (parts : List (ℕ × List ℕ)) (i : ℕ)
    → slice_index_or places i false ≡ false → HasPart i parts → HasPart i (unclaimed places parts)
unfolding unclaimed
unclaimed-has places [] i open_place has = absurd has
unclaimed-has places (p ∷ ps) i open_place (inl within) = by_test (is_claimed places p) refl
  where
    by_test : (all : Bool) → is_claimed places p ≡ all
        → HasPart i (if all then unclaimed places ps else p ∷ unclaimed places ps)
    by_test true all = absurd (let claimed = claimed-at places p.0 (length p.1) i all within.0
        within.1 in cc)
    by_test false all = inl within
unclaimed-has places (p ∷ ps) i open_place (inr has) =
    by_test (is_claimed places p) (unclaimed-has places ps i open_place has)
  where
    by_test : (all : Bool) → HasPart i (unclaimed places ps)
        → HasPart i (if all then unclaimed places ps else p ∷ unclaimed places ps)
    by_test true rest = rest
    by_test false rest = inr rest

checkpoint_at-red : (size red serial report : ℕ) (part : ℕ × List ℕ)
    → is_red (checkpoint_at size red serial report part).kind ≡ true
checkpoint_at-red size red serial report part =
    both_arms (λ kind. is_red kind ≡ true) (part.0 + length part.1 == red) _ _
    (both_arms (λ kind. is_red kind ≡ true) (red == size) kinds.RedEndBlock kinds.RedEnd refl
    refl) refl

or_later : (a b : Bool) → b ≡ true → (a || b) ≡ true
or_later true b is = refl
or_later false b is = is

pub or_first : (a b : Bool) → a ≡ true → (a || b) ≡ true
or_first a b is = rw is refl

pub ahead-round : (size red serial report c i : ℕ) (parts : List (ℕ × List ℕ)) → HasPart i parts
    → ahead c i (red_pieces (checkpoint_at size red serial report) parts) ≡ true
unfolding ahead red_pieces
ahead-round size red serial report c i [] has = absurd has
ahead-round size red serial report c i (part ∷ []) (inr has) = absurd has
ahead-round size red serial report c i (part ∷ []) (inl within) =
    or_first (has_cell i (a_piece (checkpoint_at size red serial report part))) _
    (rw (
      checkpoint_at-red size red serial report part,
      le-leb part.0 i within.0,
      lt-ltb i (part.0 + length part.1) within.1,
    ) refl)
ahead-round size red serial report c i (part ∷ next ∷ parts) (inl within) =
    or_first (has_cell i (a_piece (piece_at kinds.Red 0 0 part))) _
    (rw (le-leb part.0 i within.0, lt-ltb i (part.0 + length part.1) within.1) refl)
ahead-round size red serial report c i (part ∷ next ∷ parts) (inr has) =
    let rest : ahead c i (red_pieces (checkpoint_at size red serial report) (next ∷ parts)) ≡
    true = ahead-round size red serial report c i (next ∷ parts) has in
    or_later (has_cell i (a_piece (piece_at kinds.Red 0 0 part))) _ rest

all-with : (k from to : ℕ) (places : List Bool) → from ≤ k → k + length places ≤ to
    → is_all_claimed (with_range k from to places) ≡ true
unfolding with_range
all-with k from to [] low high = refl
all-with k from to (b ∷ bs) low high =
    rw (
      le-leb from k low,
      lt-ltb k to (omega arith),
      all-with (k + 1) from to bs (omega arith)
          (omega arith),
    ) (both_true b)
  where
    both_true : (b : Bool) → ((b || true) && true) ≡ true
    both_true true = refl
    both_true false = refl

pub whole-all : (red : ℕ) (places : List Bool) → length places ≤ red
    → is_all_claimed (with_claims 0 (record { offset = 0; length = red } ∷ []) places) ≡ true
unfolding with_claims
whole-all red places within = all-with 0 0 (0 + 0 + red) places (omega arith) (omega arith)

pub no_last : {part : ℕ × List ℕ} → last_segment [] ≡ Some part → ⊥
unfolding last_segment
no_last is = cc

-- a report that begins a round is delivered
pub ahead-ack : (c i n : ℕ) (es : List ContentValue) → ahead c i es ≡ true
    → ahead c i (a_report_ack n ∷ es) ≡ true
unfolding ahead
ahead-ack c i n es is = is

pub round-row : (z red : ℕ) (v : View) (s s' : Sending) (t : StepValue Sending) (r : Receiving)
    (x : ReportValue) (new_s new_r : List ContentValue) (n : ℕ)
    → v.sender ≡ Some s → v.receiver ≡ Some r → t.next ≡ keeps s'
    → (on : Rounds (a_report x) s s' t.out) → on.z ≡ z → 1 ≤ z
    → s.red ≡ red → red ≤ length s.block → length s.claimed ≤ red → s'.block ≡ s.block
    → s'.red ≡ s.red
    → IsIn (a_report x) v.by_receiver → ((q : PieceValue) → IsIn (a_piece q) new_s
    → IsIn (a_piece q) v.by_sender)
    → ((y : ReportValue) → IsIn (a_report y) v.by_receiver → IsReportOf red y)
    → ClaimsFilled v.by_receiver r
    → ((y : ReportValue) → IsIn (a_report y) v.by_receiver → IsAsked v.by_sender y.checkpoint)
    → ((c : PieceValue) (timer : Timer) → s.phase ≡ sender_open c timer → IsCurrent v.by_sender c)
    → ((k : ℕ) → slice_index_or s'.claimed k false ≡ true → IsClaimedBy v.by_receiver k)
    → RankAtMost z red v new_s (a_report x ∷ new_r) n
    → (m : ℕ) × (suc m ≤ n) × RankAtMost z red (sender_moves v t) (new_s ++ t.out) new_r m
unfolding weights
round-row z red v s s' t r x new_s new_r n is_s is_r next on is_z cuts red_is within size
    same_block same_red heard news told filled names current claimed rank = (
      weights (new_s ++ t.out) + weights new_r + rank.report + 0 + 0,
      smaller,
      record {
        report = rank.report;
        checkpoint = 0;
        round = 0;
        sum = omega arith;
        reporting = λ r' p is_r' pending. reporting r' p (rank.reporting r' p is_r' pending);
        asking = λ s'' c timer is_s'' waits. inl (inl (
          last on.part,
          asked_now,
          checkpoint_at-asks (length s.block) s.red
              ((on.c).checkpoint + 1) ((on.adds).report).serial on.part,
          named s'' c timer is_s'' waits,
        ));
        rounding = λ s'' c timer is_s'' waits. inl
            (subst (λ serial. Settled red (sender_moves v t) serial (new_s ++ t.out))
            (named s'' c timer is_s'' waits) settled);
      },
    )
  where
    is_x : (on.adds).report ≡ x
    is_x = cc (sym ((on.adds).told).is)

    last : ℕ × List ℕ → PieceValue
    last = checkpoint_at (length s.block) s.red ((on.c).checkpoint + 1) ((on.adds).report).serial

    sends : t.out ≡ a_report_ack ((on.adds).report).serial ∷ red_pieces last on.parts
    sends = on.sends

    weight_out : weights t.out ≤ length on.parts + 3
    weight_out = by_parts on.parts on.last sends
      where
        by_parts : (parts : List (ℕ × List ℕ)) → last_segment parts ≡ Some on.part
            → t.out ≡ a_report_ack ((on.adds).report).serial ∷ red_pieces last parts
            → weights t.out ≤ length parts + 3
        by_parts [] none is = absurd (no_last none)
        by_parts (part ∷ parts) some is =
            let round = weights-round last (checkpoint_at-asks (length s.block) s.red
            ((on.c).checkpoint + 1) ((on.adds).report).serial) part parts in
            rw is (omega (arith, round))

    few : length on.parts ≤ length (segments_of z 0 (take s.red s.block))
    few = subst (λ y. length on.parts ≤ length (segments_of y 0 (take s.red s.block))) is_z
        (subst (λ (ps : List (ℕ × List ℕ)). length ps ≤ length
        (segments_of on.z 0 (take s.red s.block))) (sym on.parts_are)
        (left-few s'.claimed (segments_of on.z 0 (take s.red s.block))))

    not_whole : IsWhole red x → ⊥
    not_whole whole =
        let all = whole-all red s.claimed size in
        let added : s'.claimed ≡ with_claims 0 (record { offset = 0; length = red } ∷ [])
        s.claimed = (on.adds).claimed ∙ ap
        (λ (y : ReportValue). with_claims y.lower y.claims s.claimed) is_x
        ∙ subst₂ (λ (lower : ℕ) (claims : List Claim). with_claims x.lower x.claims
        s.claimed ≡ with_claims lower claims s.claimed) whole.lower whole.claims refl in
        let open_part = on.unclaimed in
        let closed : is_all_claimed s'.claimed ≡ true = rw added all in
        cc

    paid : length (segments_of z 0 (take s.red s.block)) + 2 ≤ rank.round
    paid = go (rank.rounding s on.c on.timer is_s on.waited)
      where
        go : Settled red v (on.c).checkpoint new_s
            ⊎ (length (segments_of z 0 (take s.red s.block)) + 2 ≤ rank.round)
            → length (segments_of z 0 (take s.red s.block)) + 2 ≤ rank.round
        go (inr enough) = enough
        go (inl settled) = absurd (not_whole (settled.whole x heard
            (ap (λ (y : ReportValue). y.checkpoint) (sym is_x) ∙ on.names)))

    smaller : suc (weights (new_s ++ t.out) + weights new_r + rank.report + 0 + 0) ≤ n
    smaller = omega (arith, weights-append new_s t.out, weight_out, few, paid, rank.sum)

    among_out : (c : ContentValue) → IsIn c t.out → IsIn c (new_s ++ t.out)
    among_out c among = among-right c new_s t.out among

    reporting : (r' : Receiving) (p : Pending)
        → IsReportedOn (p.report).serial new_s (a_report x ∷ new_r) ⊎ (3 ≤ rank.report)
        → IsReportedOn (p.report).serial (new_s ++ t.out) new_r ⊎ (3 ≤ rank.report)
    reporting r' p (inr idle) = inr idle
    reporting r' p (inl (inr ack)) = inl (inr (among-left _ new_s t.out ack))
    reporting r' p (inl (inl (y, inr among, serial))) = inl (inl (y, among, serial))
    reporting r' p (inl (inl (y, inl here, serial))) =
        let same : x ≡ y = cc in
        inl (inr (among_out _ (subst (IsIn (a_report_ack (p.report).serial)) (sym sends)
        (inl (ap a_report_ack (ap (λ (w : ReportValue). w.serial) (is_x ∙ same) ∙ serial))))))

    asked_now : IsIn (a_piece (last on.part)) (new_s ++ t.out)
    asked_now = among_out _ (subst (IsIn (a_piece (last on.part))) (sym sends)
        (inr (round-has last on.parts on.part on.last)))

    named : (s'' : Sending) (c : PieceValue) (timer : Timer) → after t.next v.sender ≡ Some s''
        → s''.phase ≡ sender_open c timer → ((on.c).checkpoint + 1) ≡ c.checkpoint
    named s'' c timer is_s'' waits =
        let one : s' ≡ s'' = cc (ap (λ ch. after ch v.sender) (sym next) ∙ is_s'') in
        let now : sender_open (last on.part) on.timer' ≡ sender_open c timer = sym on.waits
        ∙ ap (λ (w : Sending). w.phase) one ∙ waits in
        let piece : last on.part ≡ c = cc in
        ap (λ (q : PieceValue). q.checkpoint) piece

    settled : Settled red (sender_moves v t) ((on.c).checkpoint + 1) (new_s ++ t.out)
    settled = record {
      whole = λ y among names_new. absurd (too_new y among names_new);
      cells = cells;
    }
      where
        too_new : (y : ReportValue) → IsIn (a_report y) v.by_receiver
            → y.checkpoint ≡ ((on.c).checkpoint + 1) → ⊥
        too_new y among names_new =
            let asked = names y among in
            omega (
              arith,
              (current on.c on.timer on.waited).largest asked.piece asked.among
                  asked.asks,
              asked.named,
              names_new,
            )

        no_such : (e : ContentValue) → IsIn e new_s
            → is_checkpoint_of ((on.c).checkpoint + 1) e ≡ false
        no_such (a_piece q) among = by_tests (is_checkpoint q.kind) refl
            (q.checkpoint == ((on.c).checkpoint + 1)) refl
          where
            by_tests : (asks : Bool) → is_checkpoint q.kind ≡ asks → (named : Bool)
                → (q.checkpoint == ((on.c).checkpoint + 1)) ≡ named → (asks && named) ≡ false
            by_tests true asks true named = absurd
                (omega (
                  arith,
                  (current on.c on.timer on.waited).largest q (news q among) asks,
                  eqb-true q.checkpoint ((on.c).checkpoint + 1) named,
                ))
            by_tests true asks false named = refl
            by_tests false asks named is_named = refl
        no_such (a_report y) among = refl
        no_such (a_report_ack y) among = refl
        no_such (a_sender_cancel y) among = refl
        no_such a_sender_cancel_ack among = refl
        no_such (a_receiver_cancel y) among = refl
        no_such a_receiver_cancel_ack among = refl

        old_first : (i : ℕ) → i < red → slice_index_or s'.claimed i false ≡ false
            → ahead ((on.c).checkpoint + 1) i (new_s ++ t.out) ≡ true
        old_first i low is =
            let octets : List ℕ = take s.red s.block in
            let all : HasPart i (segments_of on.z 0 (take s.red s.block)) =
            cut-has on.z (length (take s.red s.block)) 0 (take s.red s.block) i
            (subst (λ y. 1 ≤ y) (sym is_z) cuts) (omega arith) (omega arith)
            (omega (arith, length-take s.red s.block, red_is, within, low)) in
            let has : HasPart i on.parts = subst (HasPart i) (sym on.parts_are)
            (unclaimed-has s'.claimed (segments_of on.z 0 (take s.red s.block)) i is all) in
            let ahead_now : ahead ((on.c).checkpoint + 1) i
            (a_report_ack ((on.adds).report).serial ∷ red_pieces last on.parts) ≡ true =
            ahead-ack ((on.c).checkpoint + 1) i ((on.adds).report).serial
            (red_pieces last on.parts) (ahead-round (length s.block) s.red
            ((on.c).checkpoint + 1) ((on.adds).report).serial ((on.c).checkpoint + 1) i
            on.parts has) in
            ahead-behind ((on.c).checkpoint + 1) i new_s t.out no_such
            (subst (λ out. ahead ((on.c).checkpoint + 1) i out ≡ true) (sym sends) ahead_now)

        cells : (i : ℕ) → i < red → HasFilled i v.receiver
            ⊎ (ahead ((on.c).checkpoint + 1) i (new_s ++ t.out) ≡ true)
        cells i low = by_claimed (slice_index_or s'.claimed i false) refl
          where
            by_claimed : (b : Bool) → slice_index_or s'.claimed i false ≡ b
                → HasFilled i v.receiver ⊎ (ahead ((on.c).checkpoint + 1) i (new_s ++ t.out) ≡
                true)
            by_claimed true is =
                let by = claimed i is in
                let lower = (told by.report by.among).lower in
                let place : HasPlace 0 (by.report).claims i =
                subst (λ k. HasPlace k (by.report).claims i) lower by.claims in
                inl (subst (HasFilled i) (sym is_r)
                (place-filled r.cells (by.report).claims i place (filled by.report by.among)))
            by_claimed false is = inr (old_first i low is)
