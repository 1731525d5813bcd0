-- Checkpoints are asked in order, and reports answer them.

use Rattle.std.proofs.Common.{◌≡◌, ℕ, zero, suc, ◌+◌, ◌<◌, ◌≤◌, Bool, true, false, ◌==◌, ◌&&◌}
use Rattle.std.proofs.Common.{◌||◌, List, [], ◌∷◌, ◌++◌, length, take, drop, replicate, Option}
use Rattle.std.proofs.Common.{None, Some, ◌⊎◌, inl, inr, refl, sym, ◌∙◌, ap, arith, subst, nat_lt}
use Rattle.std.proofs.Common.{nat_le}
use Rattle.std.specs.Prelude.{slice_index_or}
use Rattle.std.proofs.lemmas.List.{length-take, length-drop}
use Rattle.std.proofs.lemmas.Bool.{eq-eqb, leb-true, ltb-true}
use Rattle.ltp_segment.specs.declared.segment.Claim.{Claim}
use Rattle.ltp_segment.specs.declared.segment.PieceKind.TheVariants as kinds
use Rattle.ltp_segment.specs.Kinds.{is_checkpoint, ends_red_part}
use Rattle.ltp_segment.specs.Policy.{PolicyValue}
use Rattle.ltp_segment.specs.Values.{PieceValue, ReportValue, ContentValue, a_piece, a_report}
use Rattle.ltp_segment.specs.Values.{a_report_ack, a_sender_cancel_ack}
use Rattle.ltp_session.specs.Cells.{length_after}
use Rattle.ltp_session.specs.Claims.{report_on, with_range, with_claims}
use Rattle.ltp_session.specs.Receiver.{Receiving, Pending, Admission, fresh, piece_stop, with_red}
use Rattle.ltp_session.specs.Receiver.{report_of, receiver_tick}
use Rattle.ltp_session.specs.Sender.{Sending, sender_open, segments_of, segments_from, piece_at}
use Rattle.ltp_session.specs.Sender.{checkpoint_at, red_pieces, green_pieces, last_segment, opened}
use Rattle.ltp_session.specs.Sender.{begin, sender_tick, is_all_claimed}
use Rattle.ltp_session.specs.Step.{StepValue, Change, after, stays, keeps, ends}
use Rattle.ltp_session.specs.Timer.{first_serial}
use Rattle.ltp_session.specs.declared.timer.Timer.{Timer}
use Rattle.ltp_laws.specs.Blocks.{IfKnown, IsInPart, IsPieceOf, IsContentOf, IsReceiverOf}
use Rattle.ltp_laws.specs.Blocks.{BlockFacts}
use Rattle.ltp_laws.specs.Checkpoints.{IsClaimedBy, IsCurrent, HasAsked, IsAsked, SomeReport}
use Rattle.ltp_laws.specs.Checkpoints.{CheckpointFacts}
use Rattle.ltp_laws.specs.Claims.{HasPlace}
use Rattle.ltp_laws.specs.Kept.{IfKept, IfKeeps}
use Rattle.ltp_laws.specs.Runs.{ReportedFacts, KeepsUnder}
use Rattle.ltp_laws.specs.SenderSteps.{NoPieces, Adds, SenderStep, rests, leaves, continues}
use Rattle.ltp_laws.specs.SenderSteps.{rounds}
use Rattle.ltp_laws.specs.Serials.{pending_of, HasReported, NoReports, SerialFacts}
use Rattle.ltp_laws.specs.Steps.{ReceiverStep, idle, over, turns, again, fills, reports_on}
use Rattle.ltp_laws.specs.View.{View, sender_moves, receiver_moves, Unused, IsIn}
use Rattle.ltp_laws.proofs.ListLemmas.{both_arms}
use Rattle.ltp_laws.proofs.SenderStepLemmas.{Listens, listens-form, sender_tick-form}
use Rattle.ltp_laws.proofs.SerialLemmas.{among-append, among-left, among-right, all-among, Old}
use Rattle.ltp_laws.proofs.SerialLemmas.{old-among, old-resent}
use Rattle.ltp_laws.proofs.StepLemmas.{Hears, hears-form, tick-form}

-- ---- claimed places

with-places : (k from to : ℕ) (places : List Bool) (i : ℕ)
    → slice_index_or (with_range k from to places) i false ≡ true
    → (slice_index_or places i false ≡ true) ⊎ ((from ≤ k + i) × (k + i < to))
unfolding with_range
with-places k from to [] i is = absurd (cc)
with-places k from to (b ∷ bs) zero is = by_tests b (nat_le from k) refl (nat_lt k to) refl is
  where
    by_tests : (old : Bool) → (low : Bool) → nat_le from k ≡ low → (high : Bool)
        → nat_lt k to ≡ high → (old || (low && high)) ≡ true
        → (old ≡ true) ⊎ ((from ≤ k + 0) × (k + 0 < to))
    by_tests true low is_low high is_high is = inl refl
    by_tests false true is_low true is_high is =
        inr (omega (arith, leb-true from k is_low), omega (arith, ltb-true k to is_high))
    by_tests false true is_low false is_high is = absurd (cc)
    by_tests false false is_low high is_high is = absurd (cc)
with-places k from to (b ∷ bs) (suc i) is = go (with-places (k + 1) from to bs i is)
  where
    go : (slice_index_or bs i false ≡ true) ⊎ ((from ≤ k + 1 + i) × (k + 1 + i < to))
        → (slice_index_or bs i false ≡ true) ⊎ ((from ≤ k + suc i) × (k + suc i < to))
    go (inl old) = inl old
    go (inr within) = inr (omega (arith, within.0), omega (arith, within.1))

pub with-claims : (lower : ℕ) (cs : List Claim) (places : List Bool) (k : ℕ)
    → slice_index_or (with_claims lower cs places) k false ≡ true
    → (slice_index_or places k false ≡ true) ⊎ HasPlace lower cs k
unfolding with_claims
with-claims lower [] places k is = inl is
with-claims lower (c ∷ cs) places k is = go (with-claims lower cs _ k is)
  where
    one : (slice_index_or places k false ≡ true) ⊎ ((lower + c.offset ≤ 0 + k)
        × (0 + k < lower + c.offset + c.length)) → (slice_index_or places k false ≡ true)
        ⊎ HasPlace lower (c ∷ cs) k
    one (inl old) = inl old
    one (inr within) = inr (inl (omega (arith, within.0), omega (arith, within.1)))

    go : (slice_index_or (with_range 0 (lower + c.offset) (lower + c.offset + c.length) places) k
        false ≡ true) ⊎ HasPlace lower cs k
        → (slice_index_or places k false ≡ true) ⊎ HasPlace lower (c ∷ cs) k
    go (inl now) =
        one (with-places 0 (lower + c.offset) (lower + c.offset + c.length) places k now)
    go (inr later) = inr (inr later)

more-claimed : (said out : List ContentValue) (k : ℕ) → IsClaimedBy said k
    → IsClaimedBy (said ++ out) k
more-claimed said out k by =
    record {
      report = by.report;
      among = among-left (a_report by.report) said out by.among;
      claims = by.claims;
    }

more-asked : (said out : List ContentValue) (serial : ℕ) → IsAsked said serial
    → IsAsked (said ++ out) serial
more-asked said out serial by =
    record {
      piece = by.piece;
      among = among-left (a_piece by.piece) said out by.among;
      asks = by.asks;
      named = by.named;
    }

pub more-reports : (said out : List ContentValue) → SomeReport said → SomeReport (said ++ out)
more-reports said out some =
    record { report = some.report; among = among-left (a_report some.report) said out some.among }

none-claimed : (red k : ℕ) → slice_index_or (replicate red false) k false ≡ true → ⊥
none-claimed zero k is = cc
none-claimed (suc red) zero is = cc
none-claimed (suc red) (suc k) is = none-claimed red k is

-- ---- pieces of a round

pub checkpoint_at-asks : (size red serial report : ℕ) (part : ℕ × List ℕ)
    → is_checkpoint (checkpoint_at size red serial report part).kind ≡ true
checkpoint_at-asks size red serial report part =
    both_arms (λ kind. is_checkpoint kind ≡ true) (part.0 + length part.1 == red) _ _
    (both_arms (λ kind. is_checkpoint kind ≡ true) (red == size) kinds.RedEndBlock kinds.RedEnd
    refl refl) refl

-- a checkpoint among the pieces of a round is its last
pub round-among : (last : ℕ × List ℕ → PieceValue) (parts : List (ℕ × List ℕ)) (q : PieceValue)
    → IsIn (a_piece q) (red_pieces last parts) → is_checkpoint q.kind ≡ true
    → (part : ℕ × List ℕ) × (last_segment parts ≡ Some part) × (last part ≡ q)
unfolding red_pieces last_segment
round-among last [] q among asks = absurd among
round-among last (part ∷ []) q (inl here) asks = let same : last part ≡ q =
    cc in (part, refl, same)
round-among last (part ∷ []) q (inr none) asks = absurd none
round-among last (part ∷ next ∷ parts) q (inl here) asks =
    let same : piece_at kinds.Red 0 0 part ≡ q = cc in
    absurd (let plain : is_checkpoint q.kind ≡ false = ap (λ (p : PieceValue).
    is_checkpoint p.kind) (sym same) in cc)
round-among last (part ∷ next ∷ parts) q (inr among) asks =
    round-among last (next ∷ parts) q among asks

pub round-has : (last : ℕ × List ℕ → PieceValue) (parts : List (ℕ × List ℕ)) (part : ℕ × List ℕ)
    → last_segment parts ≡ Some part → IsIn (a_piece (last part)) (red_pieces last parts)
unfolding red_pieces last_segment
round-has last [] part is = absurd (cc)
round-has last (first ∷ []) part is = let same : first ≡ part =
    cc in inl (ap (λ p. a_piece (last p)) same)
round-has last (first ∷ next ∷ parts) part is = inr (round-has last (next ∷ parts) part is)

-- ---- a sender's step

-- what the sender and the list are after it
pub record AsksOn (by_sender by_receiver : List ContentValue)
    (t : StepValue Sending) : Type 0 where
  pub next : IfKeeps (HasAsked (by_sender ++ t.out) by_receiver) t.next
  -- every checkpoint piece that is sent now is as one before, or a report was told
  pub pieces : (q : PieceValue) → IsIn (a_piece q) t.out → is_checkpoint q.kind ≡ true
      → IsIn (a_piece q) by_sender ⊎ SomeReport by_receiver
  pub quiet : t.next ≡ stays → NoPieces t.out

-- nothing that asks is sent
still-current : (said out : List ContentValue) (c : PieceValue)
    → ((q : PieceValue) → IsIn (a_piece q) out → IsIn (a_piece q) said) → IsCurrent said c
    → IsCurrent (said ++ out) c
still-current said out c old current =
    record {
      among = among-left (a_piece c) said out current.among;
      asks = current.asks;
      largest = largest;
    }
  where
    largest : (q : PieceValue) → IsIn (a_piece q) (said ++ out) → is_checkpoint q.kind ≡ true
        → q.checkpoint ≤ c.checkpoint
    largest q among asks = go (among-append (a_piece q) said out among)
      where
        go : IsIn (a_piece q) said ⊎ IsIn (a_piece q) out → q.checkpoint ≤ c.checkpoint
        go (inl before) = current.largest q before asks
        go (inr now) = current.largest q (old q now) asks

pub adds-claimed : (by_receiver : List ContentValue) (content : ContentValue) (s s' : Sending)
    → IsIn content by_receiver
    → ((k : ℕ) → slice_index_or s.claimed k false ≡ true → IsClaimedBy by_receiver k)
    → Adds content s s'
    → (k : ℕ) → slice_index_or s'.claimed k false ≡ true → IsClaimedBy by_receiver k
adds-claimed by_receiver content s s' among before adds k is =
    go (with-claims (adds.report).lower (adds.report).claims s.claimed k
    (subst (λ (places : List Bool). slice_index_or places k false ≡ true) adds.claimed is))
  where
    go : (slice_index_or s.claimed k false ≡ true) ⊎ HasPlace (adds.report).lower
        (adds.report).claims k
        → IsClaimedBy by_receiver k
    go (inl old) = before k old
    go (inr now) =
        record {
          report = adds.report;
          among = subst (λ c. IsIn c by_receiver) (adds.told).is among;
          claims = now;
        }

-- what is told came from the receiver; a tick tells nothing
abbrev pub IsHeard : ContentValue → List ContentValue → Type 0
IsHeard content by_receiver = (x : ReportValue) → content ≡ a_report x → IsIn content by_receiver

pub step-asks : (by_sender by_receiver : List ContentValue) (content : ContentValue) (s : Sending)
    (t : StepValue Sending)
    → IsHeard content by_receiver → HasAsked by_sender by_receiver s → SenderStep content s t
    → AsksOn by_sender by_receiver t
step-asks by_sender by_receiver content s t heard asks (rests next none) = record {
  next = subst (IfKeeps (HasAsked (by_sender ++ t.out) by_receiver)) (sym next) tt;
  pieces = λ q among is. absurd (none q among);
  quiet = λ h. none;
}
step-asks by_sender by_receiver content s t heard asks (leaves next none) = record {
  next = subst (IfKeeps (HasAsked (by_sender ++ t.out) by_receiver)) (sym next) tt;
  pieces = λ q among is. absurd (none q among);
  quiet = λ h. none;
}
step-asks by_sender by_receiver content s t heard asks (continues s' next on) = record {
  next = subst (IfKeeps (HasAsked (by_sender ++ t.out) by_receiver)) (sym next)
      (record { claimed = claimed on.claimed; unclaimed = unclaimed; current = current });
  pieces = λ q among is. inl (sent q among);
  quiet = λ h. absurd (cc);
}
  where
    sent : (q : PieceValue) → IsIn (a_piece q) t.out → IsIn (a_piece q) by_sender
    sent q among = let was = on.pieces q among in (asks.current q was.0 was.1).among

    claimed : (s'.claimed ≡ s.claimed) ⊎ Adds content s s' → (k : ℕ)
        → slice_index_or s'.claimed k false ≡ true → IsClaimedBy by_receiver k
    claimed (inl same) k is =
        asks.claimed k (subst (λ (places : List Bool). slice_index_or places k false
        ≡ true) same is)
    claimed (inr adds) k is =
        adds-claimed by_receiver content s s' (heard adds.report (adds.told).is)
        asks.claimed adds k is

    unclaimed : (c : PieceValue) (timer : Timer) → s'.phase ≡ sender_open c timer
        → is_all_claimed s'.claimed ≡ false
    unclaimed c timer waits = go (on.unclaimed c timer waits)
      where
        was : (before : Timer) × (s.phase ≡ sender_open c before)
        was = on.waits c timer waits

        go : (is_all_claimed s'.claimed ≡ false) ⊎ (s'.claimed ≡ s.claimed)
            → is_all_claimed s'.claimed ≡ false
        go (inl open_part) = open_part
        go (inr same) = ap is_all_claimed same ∙ asks.unclaimed c was.0 was.1

    current : (c : PieceValue) (timer : Timer) → s'.phase ≡ sender_open c timer
        → IsCurrent (by_sender ++ t.out) c
    current c timer waits = let was = on.waits c timer waits in
        still-current by_sender t.out c sent (asks.current c was.0 was.1)
step-asks by_sender by_receiver content s t heard asks (rounds s' next on) = record {
  next = subst (IfKeeps (HasAsked (by_sender ++ t.out) by_receiver)) (sym next) (record {
    claimed = adds-claimed by_receiver content s s' told asks.claimed on.adds;
    unclaimed = λ c timer waits. on.unclaimed;
    current = λ c timer waits. current c (is_last c timer waits);
  });
  pieces = λ q among is. inr (record {
    report = (on.adds).report;
    among = subst (λ c. IsIn c by_receiver)
        ((on.adds).told).is told;
  });
  quiet = λ h. absurd (cc);
}
  where
    told : IsIn content by_receiver
    told = heard (on.adds).report ((on.adds).told).is

    last : ℕ × List ℕ → PieceValue
    last = checkpoint_at (length s.block) s.red ((on.c).checkpoint + 1) ((on.adds).report).serial

    is_last : (c : PieceValue) (timer : Timer) → s'.phase ≡ sender_open c timer → last on.part ≡ c
    is_last c timer waits = cc (sym on.waits ∙ waits)

    now_sent : (q : PieceValue) → IsIn (a_piece q) t.out → is_checkpoint q.kind ≡ true
        → q.checkpoint ≡ (on.c).checkpoint + 1
    now_sent q among asks_q = go (subst (IsIn (a_piece q)) on.sends among)
      where
        go : IsIn (a_piece q) (a_report_ack ((on.adds).report).serial ∷ red_pieces last on.parts)
            → q.checkpoint ≡ (on.c).checkpoint + 1
        go (inl here) = absurd (cc)
        go (inr among) = let (part, is_part, is_piece) =
            round-among last on.parts q among asks_q in
            ap (λ (p : PieceValue). p.checkpoint) (sym is_piece)

    current : (c : PieceValue) → last on.part ≡ c → IsCurrent (by_sender ++ t.out) c
    current c is = record {
      among = among-right (a_piece c) by_sender t.out (subst (IsIn (a_piece c)) (sym on.sends)
          (inr (subst (λ p. IsIn (a_piece p) (red_pieces last on.parts)) is
          (round-has last on.parts on.part on.last))));
      asks = subst (λ (p : PieceValue). is_checkpoint p.kind ≡ true) is
          (checkpoint_at-asks (length s.block) s.red ((on.c).checkpoint + 1)
          ((on.adds).report).serial on.part);
      largest = λ q among asks_q. go q asks_q (among-append (a_piece q) by_sender t.out among);
    }
      where
        serial : c.checkpoint ≡ (on.c).checkpoint + 1
        serial = ap (λ (p : PieceValue). p.checkpoint) (sym is)

        go : (q : PieceValue) → is_checkpoint q.kind ≡ true → IsIn (a_piece q) by_sender ⊎ IsIn
            (a_piece q) t.out → q.checkpoint ≤ c.checkpoint
        go q asks_q (inl before) =
            omega (arith, (asks.current on.c on.timer on.waited).largest q before asks_q, serial)
        go q asks_q (inr now) = omega (arith, now_sent q now asks_q, serial)

-- ---- a block is begun

ends-at : (z n at : ℕ) (octets : List ℕ) (part : ℕ × List ℕ) → 1 ≤ z → length octets ≤ n
    → last_segment (segments_from z n at octets) ≡ Some part
    → part.0 + length part.1 ≡ at + length octets
unfolding segments_from last_segment
ends-at z zero at octets part some enough is = absurd (cc)
ends-at z (suc n) at [] part some enough is = absurd (cc)
ends-at z (suc n) at (octet ∷ octets) part some enough is =
    by_rest (drop z (octet ∷ octets)) refl is (ends-at z n (at + z) (drop z (octet ∷ octets)) part
    some (omega (arith, length-drop z (octet ∷ octets))))
  where
    by_rest : (rest : List ℕ) → drop z (octet ∷ octets) ≡ rest
        → last_segment ((at, take z (octet ∷ octets)) ∷ segments_from z n (at + z) rest)
        ≡ Some part
        → (last_segment (segments_from z n (at + z) (drop z (octet ∷ octets))) ≡ Some part
        → part.0 + length part.1 ≡ at + z + length (drop z (octet ∷ octets)))
        → part.0 + length part.1 ≡ at + suc (length octets)
    by_rest [] none is further =
        let here : (at, take z (octet ∷ octets)) ≡ part = only n is in
        let size = length-take z (octet ∷ octets) in
        let left = length-drop z (octet ∷ octets) in
        omega (
          arith,
          size,
          left,
          ap length none,
          ap (λ (p : ℕ × List ℕ). p.0) here,
          ap
              (λ (p : ℕ × List ℕ). length p.1) here,
        )
      where
        only : (n : ℕ) → last_segment ((at, take z (octet ∷ octets)) ∷ segments_from z n
            (at + z) []) ≡ Some part → (at, take z (octet ∷ octets)) ≡ part
        only zero is = cc
        only (suc n) is = cc
    by_rest (x ∷ rest) some_left is further = go n refl is
      where
        go : (m : ℕ) → n ≡ m → last_segment ((at, take z (octet ∷ octets)) ∷ segments_from z m
            (at + z) (x ∷ rest)) ≡ Some part → part.0 + length part.1 ≡ at + suc (length octets)
        go zero none is =
            absurd (omega (
              arith,
              none,
              enough,
              some,
              length-drop z (octet ∷ octets),
              ap
                  length some_left,
            ))
        go (suc m) more is =
            let there : last_segment (segments_from z n (at + z) (drop z (octet ∷ octets)))
            ≡ Some part = rw (some_left, more) is in
            omega (arith, further there, length-drop z (octet ∷ octets), ap length some_left)

green-asks : (parts : List (ℕ × List ℕ)) (q : PieceValue) → IsIn (a_piece q) (green_pieces parts)
    → is_checkpoint q.kind ≡ false
unfolding green_pieces
green-asks [] q among = absurd among
green-asks (part ∷ []) q (inl here) = let same : piece_at kinds.GreenEndBlock 0 0 part ≡ q =
    cc in ap (λ (p : PieceValue). is_checkpoint p.kind) (sym same)
green-asks (part ∷ []) q (inr none) = absurd none
green-asks (part ∷ next ∷ parts) q (inl here) = let same : piece_at kinds.Green 0 0 part ≡ q =
    cc in ap (λ (p : PieceValue). is_checkpoint p.kind) (sym same)
green-asks (part ∷ next ∷ parts) q (inr among) = green-asks (next ∷ parts) q among

pub begin-next : (policy : PolicyValue) (n : ℕ) (block : List ℕ) (red now : ℕ)
    → (begin policy n block red now).next
    ≡ opened policy block red now (checkpoint_at (length block) red (first_serial n) 0)
    (last_segment (segments_of policy.segment 0 (take red block)))
unfolding begin
begin-next policy n block red now = refl

pub begun-has : (policy : PolicyValue) (n : ℕ) (block : List ℕ) (red now : ℕ) (c : PieceValue)
    (part : ℕ × List ℕ) → last_segment (segments_of policy.segment 0 (take red block)) ≡ Some part
    → checkpoint_at (length block) red (first_serial n) 0 part ≡ c
    → IsIn (a_piece c) (begin policy n block red now).out
unfolding begin
begun-has policy n block red now c part is is_c =
    among-left (a_piece c) _ _
    (subst (λ p. IsIn (a_piece p) (red_pieces (checkpoint_at (length block) red (first_serial n) 0)
    (segments_of policy.segment 0 (take red block)))) is_c (round-has _ _ part is))

no_part : (z : ℕ) {part : ℕ × List ℕ} → last_segment (segments_from z 0 0 []) ≡ Some part → ⊥
unfolding segments_from last_segment
no_part z is = cc

not_all : (red : ℕ) → 1 ≤ red → is_all_claimed (replicate red false) ≡ false
not_all zero some = absurd (omega arith)
not_all (suc red) some = refl

-- the one checkpoint of a block that is begun
pub begun-among : (policy : PolicyValue) (n : ℕ) (block : List ℕ) (red now : ℕ) (q : PieceValue)
    → IsIn (a_piece q) (begin policy n block red now).out → is_checkpoint q.kind ≡ true
    → (part : ℕ × List ℕ) × (last_segment (segments_of policy.segment 0 (take red block))
    ≡ Some part) × (checkpoint_at (length block) red (first_serial n) 0 part ≡ q)
unfolding begin
begun-among policy n block red now q among asks =
    go (among-append (a_piece q) (red_pieces (checkpoint_at (length block) red (first_serial n) 0)
    (segments_of policy.segment 0 (take red block))) _ among)
  where
    go : IsIn (a_piece q) (red_pieces (checkpoint_at (length block) red (first_serial n) 0)
        (segments_of policy.segment 0 (take red block))) ⊎ IsIn (a_piece q)
        (green_pieces (segments_of policy.segment red (drop red block)))
        → (part : ℕ × List ℕ) × (last_segment (segments_of policy.segment 0 (take red block))
        ≡ Some part) × (checkpoint_at (length block) red (first_serial n) 0 part ≡ q)
    go (inl red_one) = round-among _ _ q red_one asks
    go (inr green_one) = absurd (let plain = green-asks _ q green_one in cc)

pub begun-ends : (policy : PolicyValue) (n : ℕ) (block : List ℕ) (red now : ℕ) (q : PieceValue)
    → 1 ≤ policy.segment → red ≤ length block
    → IsIn (a_piece q) (begin policy n block red now).out → is_checkpoint q.kind ≡ true
    → ends_red_part q.kind ≡ true
begun-ends policy n block red now q cuts within among asks =
    let (part, is_part, is_piece) = begun-among policy n block red now q among asks in
    let end : part.0 + length part.1 ≡ 0 + length (take red block) =
    ends-at policy.segment (length (take red block)) 0 (take red block) part cuts
    (omega arith) is_part in
    let at_end : part.0 + length part.1 ≡ red = omega (arith, end, length-take red block) in
    subst (λ (p : PieceValue). ends_red_part p.kind ≡ true) is_piece
    (rw (eq-eqb (part.0 + length part.1) red at_end) (both_arms (λ kind. ends_red_part kind ≡ true)
    (red == length block) kinds.RedEndBlock kinds.RedEnd refl refl))

begun-asks : (policy : PolicyValue) (n : ℕ) (block : List ℕ) (red now : ℕ)
    (by_receiver : List ContentValue)
    → IfKeeps (HasAsked (begin policy n block red now).out by_receiver)
    (begin policy n block red now).next
begun-asks policy n block red now by_receiver =
    by_last (last_segment parts) refl (next_is policy n block red now)
  where
    parts : List (ℕ × List ℕ)
    parts = segments_of policy.segment 0 (take red block)

    last : ℕ × List ℕ → PieceValue
    last = checkpoint_at (length block) red (first_serial n) 0

    out : List ContentValue
    out = (begin policy n block red now).out

    next_is : (policy : PolicyValue) (n : ℕ) (block : List ℕ) (red now : ℕ)
        → (begin policy n block red now).next
        ≡ opened policy block red now (checkpoint_at (length block) red (first_serial n) 0)
        (last_segment (segments_of policy.segment 0 (take red block)))
    next_is policy n block red now = begin-next policy n block red now

    by_last : (o : Option (ℕ × List ℕ)) → last_segment parts ≡ o
        → (begin policy n block red now).next ≡ opened policy block red now last
        (last_segment parts)
        → IfKeeps (HasAsked (begin policy n block red now).out by_receiver)
        (begin policy n block red now).next
    by_last None none next =
        subst (IfKeeps (HasAsked out by_receiver))
        (sym (next ∙ ap (opened policy block red now last) none)) tt
    by_last (Some part) some next =
        subst (IfKeeps (HasAsked out by_receiver))
        (sym (next ∙ ap (opened policy block red now last) some)) (record {
          claimed = λ k is. absurd (none-claimed red k is);
          unclaimed = λ c timer is. not_all red (some_red red some);
          current = λ c timer is. first c (let one : last part ≡ c = cc in one);
        })
      where
        some_red : (r : ℕ) → last_segment (segments_of policy.segment 0 (take r block))
            ≡ Some part → 1 ≤ r
        some_red zero is = absurd (no_part policy.segment is)
        some_red (suc r) is = omega arith

        first : (c : PieceValue) → last part ≡ c → IsCurrent (begin policy n block red now).out c
        first c is = record {
          among = begun-has policy n block red now c part some is;
          asks = subst (λ (p : PieceValue). is_checkpoint p.kind ≡ true) is
              (checkpoint_at-asks (length block) red (first_serial n) 0 part);
          largest = λ q among asks_q. let (other, is_other, is_piece) =
              begun-among policy n block red now q among asks_q in
              omega (
                arith,
                ap (λ (p : PieceValue). p.checkpoint) is_piece,
                ap (λ (p : PieceValue).
                    p.checkpoint) is,
              );
        }

-- ---- a receiver's step

pub some-old : (said out : List ContentValue) → Old said out → SomeReport (said ++ out)
    → SomeReport said
some-old said out old some =
    record { report = some.report; among = old-among said out old some.report some.among }

pub no-old : (said out : List ContentValue) → NoReports out → Old said out
no-old said out none x among = absurd (none x among)

record AnswersOn (by_sender by_receiver : List ContentValue) (red : ℕ)
    (t : StepValue Receiving) : Type 0 where
  known : SomeReport (by_receiver ++ t.out) → IfKeeps (λ r. r.length ≡ Some red) t.next
  names : (x : ReportValue) → IsIn (a_report x) t.out → IsIn (a_report x) by_receiver
      ⊎ IsAsked by_sender x.checkpoint
  quiet : t.next ≡ stays → Old by_receiver t.out

report_of-names : (r : Receiving) (q : PieceValue) → (report_of r q).checkpoint ≡ q.checkpoint
unfolding report_of report_on
report_of-names r q = refl

still-known : (red : ℕ) (known : Option ℕ) (q : PieceValue) → known ≡ Some red
    → length_after known (ends_red_part q.kind) (piece_stop q) ≡ Some red
still-known red None q is = absurd (cc)
still-known red (Some end) q is = is

step-answers : (block : List ℕ) (red : ℕ) (by_sender by_receiver : List ContentValue)
    (content : ContentValue) (r : Receiving) (t : StepValue Receiving)
    → ((q : PieceValue) → content ≡ a_piece q → IsIn (a_piece q) by_sender × IsPieceOf block red q)
    → ((p : Pending) → pending_of r.phase ≡ Some p → IsIn (a_report p.report) by_receiver)
    → IfKnown red r.length → (SomeReport by_receiver → r.length ≡ Some red)
    → ((q : PieceValue) → IsIn (a_piece q) by_sender → is_checkpoint q.kind ≡ true
    → ends_red_part q.kind ≡ false → SomeReport by_receiver)
    → ReceiverStep content r t → AnswersOn by_sender by_receiver red t
step-answers block red by_sender by_receiver content r t heard pending bound known later
    (idle next none) = record {
      known = λ some. subst (IfKeeps (λ r'. r'.length ≡ Some red)) (sym next) tt;
      names = λ x among. absurd (none x among);
      quiet = λ h. no-old by_receiver t.out none;
    }
step-answers block red by_sender by_receiver content r t heard pending bound known later
    (over next none) = record {
      known = λ some. subst (IfKeeps (λ r'. r'.length ≡ Some red)) (sym next) tt;
      names = λ x among. absurd (none x among);
      quiet = λ h. no-old by_receiver t.out none;
    }
step-answers block red by_sender by_receiver content r t heard pending bound known later
    (turns r' next turned none) = record {
      known = λ some. subst (IfKeeps (λ r'. r'.length ≡ Some red)) (sym next)
          (turned.known ∙ known (some-old by_receiver t.out (no-old by_receiver t.out none) some));
      names = λ x among. absurd (none x among);
      quiet = λ h. no-old by_receiver t.out none;
    }
step-answers block red by_sender by_receiver content r t heard pending bound known later
    (again p timer waits next out) =
    let old : Old by_receiver t.out =
    subst (Old by_receiver) (sym out) (old-resent by_receiver p.report (pending p waits)) in
    record {
      known = λ some. subst (IfKeeps (λ r'. r'.length ≡ Some red)) (sym next)
          (known (some-old by_receiver t.out old some));
      names = λ x among. inl (old x among);
      quiet = λ h. old;
    }
step-answers block red by_sender by_receiver content r t heard pending bound known later
    (fills q r' is_piece red_kind next filling none) = record {
      known = λ some. subst (IfKeeps (λ r'. r'.length ≡ Some red)) (sym next)
          (filling.known ∙ still-known red r.length q
          (known (some-old by_receiver t.out (no-old by_receiver t.out none) some)));
      names = λ x among. absurd (none x among);
      quiet = λ h. no-old by_receiver t.out none;
    }
step-answers block red by_sender by_receiver content r t heard pending bound known later
    (reports_on q r' is_piece red_kind checkpoint next reporting out) = record {
      known = λ some. subst (IfKeeps (λ r'. r'.length ≡ Some red)) (sym next)
          (reporting.known ∙ now_known (ends_red_part q.kind) refl);
      names = λ x among. inr (by_out x (subst (IsIn (a_report x)) out among));
      quiet = λ h. absurd (cc);
    }
  where
    asked : IsIn (a_piece q) by_sender
    asked = (heard q is_piece).0

    part : IsInPart red true (ends_red_part q.kind) q.offset (piece_stop q)
    part = subst (λ b. IsInPart red b (ends_red_part q.kind) q.offset (piece_stop q)) red_kind
        ((heard q is_piece).1).part

    by_out : (x : ReportValue) → IsIn (a_report x) (a_report (report_of (with_red r q) q) ∷ [])
        → IsAsked by_sender x.checkpoint
    by_out x (inl here) =
        let same : report_of (with_red r q) q ≡ x = cc in
        record {
          piece = q;
          among = asked;
          asks = checkpoint;
          named = sym (report_of-names (with_red r q) q) ∙ ap (λ (y : ReportValue).
              y.checkpoint) same;
        }
    by_out x (inr none) = absurd none

    -- an end tells the length; another checkpoint comes after a report, so it is known
    now_known : (last : Bool) → ends_red_part q.kind ≡ last
        → length_after r.length (ends_red_part q.kind) (piece_stop q) ≡ Some red
    now_known false is = still-known red r.length q (known (later q asked checkpoint is))
    now_known true is = by_known r.length bound
      where
        ends_there : piece_stop q ≡ red
        ends_there = subst (λ b. IsInPart red true b q.offset (piece_stop q)) is part

        by_known : (k : Option ℕ) → IfKnown red k → length_after k (ends_red_part q.kind)
            (piece_stop q) ≡ Some red
        by_known None of = rw is (ap (λ (n : ℕ). Some n) ends_there)
        by_known (Some end) of = ap (λ (n : ℕ). Some n) of

-- ---- a session's checkpoints

sender-moved : (block : List ℕ) (red : ℕ) (v : View) (t : StepValue Sending)
    → CheckpointFacts block red v → AsksOn v.by_sender v.by_receiver t
    → (t.next ≡ stays → NoPieces t.out) → CheckpointFacts block red (sender_moves v t)
sender-moved block red v t facts on quiet = record {
  sender = kept t.next refl on.next;
  names = λ x among. more-asked v.by_sender t.out x.checkpoint (facts.names x among);
  later = later;
  known = facts.known;
}
  where
    still : (o : Option Sending) → NoPieces t.out → IfKept (HasAsked v.by_sender v.by_receiver) o
        → IfKept (HasAsked (v.by_sender ++ t.out) v.by_receiver) o
    still None none asks = tt
    still (Some s) none asks = record {
      claimed = asks.claimed;
      unclaimed = asks.unclaimed;
      current = λ c timer waits. still-current v.by_sender t.out c
          (λ q among. absurd (none q among)) (asks.current c timer waits);
    }

    kept : (c : Change Sending) → t.next ≡ c
        → IfKeeps (HasAsked (v.by_sender ++ t.out) v.by_receiver) c
        → IfKept (HasAsked (v.by_sender ++ t.out) v.by_receiver) (after c v.sender)
    kept stays is change = still v.sender (quiet is) facts.sender
    kept (keeps s) is change = change
    kept ends is change = tt

    later : (q : PieceValue) → IsIn (a_piece q) (v.by_sender ++ t.out)
        → is_checkpoint q.kind ≡ true → ends_red_part q.kind ≡ false → SomeReport v.by_receiver
    later q among asks no_end = go (among-append (a_piece q) v.by_sender t.out among)
      where
        by_now : IsIn (a_piece q) v.by_sender ⊎ SomeReport v.by_receiver → SomeReport v.by_receiver
        by_now (inl before) = facts.later q before asks no_end
        by_now (inr some) = some

        go : IsIn (a_piece q) v.by_sender ⊎ IsIn (a_piece q) t.out → SomeReport v.by_receiver
        go (inl before) = facts.later q before asks no_end
        go (inr now) = by_now (on.pieces q now asks)

receiver-moved : (block : List ℕ) (red : ℕ) (v : View) (t : StepValue Receiving)
    → CheckpointFacts block red v → AnswersOn v.by_sender v.by_receiver red t
    → CheckpointFacts block red (receiver_moves v t)
receiver-moved block red v t facts on = record {
  sender = more v.sender facts.sender;
  names = names;
  later = λ q among asks no_end. more-reports v.by_receiver t.out
      (facts.later q among asks no_end);
  known = λ some. kept t.next refl some (on.known some);
}
  where
    more : (o : Option Sending) → IfKept (HasAsked v.by_sender v.by_receiver) o
        → IfKept (HasAsked v.by_sender (v.by_receiver ++ t.out)) o
    more None asks = tt
    more (Some s) asks =
        record {
          claimed = λ k is. more-claimed v.by_receiver t.out k (asks.claimed k is);
          unclaimed = asks.unclaimed;
          current = asks.current;
        }

    names : (x : ReportValue) → IsIn (a_report x) (v.by_receiver ++ t.out)
        → IsAsked v.by_sender x.checkpoint
    names x among = go (among-append (a_report x) v.by_receiver t.out among)
      where
        by_now : IsIn (a_report x) v.by_receiver ⊎ IsAsked v.by_sender x.checkpoint
            → IsAsked v.by_sender x.checkpoint
        by_now (inl before) = facts.names x before
        by_now (inr asked) = asked

        go : IsIn (a_report x) v.by_receiver ⊎ IsIn (a_report x) t.out
            → IsAsked v.by_sender x.checkpoint
        go (inl before) = facts.names x before
        go (inr now) = by_now (on.names x now)

    kept : (c : Change Receiving) → t.next ≡ c → SomeReport (v.by_receiver ++ t.out)
        → IfKeeps (λ r. r.length ≡ Some red) c → IfKept (λ r. r.length ≡ Some red)
        (after c v.receiver)
    kept stays is some change = facts.known (some-old v.by_receiver t.out (on.quiet is) some)
    kept (keeps r) is some change = change
    kept ends is some change = tt

hears-answers : (block : List ℕ) (red : ℕ) (v : View) (place : Admission) (content : ContentValue)
    (t : StepValue Receiving) → place.closed ≡ v.closed → IsIn content v.by_sender
    → BlockFacts block red v → SerialFacts block red v → CheckpointFacts block red v
    → Hears content place v.receiver t → AnswersOn v.by_sender v.by_receiver red t
hears-answers block red v place content t closed among facts reports asks hears =
    by_kept v.receiver refl hears
  where
    heard : (q : PieceValue) → content ≡ a_piece q → IsIn (a_piece q) v.by_sender
        × IsPieceOf block red q
    heard q is =
        let here : IsIn (a_piece q) v.by_sender = subst (λ c. IsIn c v.by_sender) is among in
        (here, all-among (IsContentOf block red) (a_piece q) v.by_sender facts.said here)

    by_kept : (kept : Option Receiving) → v.receiver ≡ kept → Hears content place kept t
        → AnswersOn v.by_sender v.by_receiver red t
    by_kept (Some r) is hears =
        let tells : HasReported v.by_receiver r =
        subst (IfKept (HasReported v.by_receiver)) is reports.kept in
        let receives : IsReceiverOf block red r =
        subst (IfKept (IsReceiverOf block red)) is facts.receiver in
        step-answers block red v.by_sender v.by_receiver content r t heard tells.pending
        receives.known
        (λ some. subst (IfKept (λ r. r.length ≡ Some red)) is (asks.known some))
        asks.later hears.form
    by_kept None is hears = by_opening (hears.opens refl)
      where
        by_opening : (t.next ≡ stays) ⊎ (place.closed ≡ false)
            → AnswersOn v.by_sender v.by_receiver red t
        by_opening (inr open_number) =
            step-answers block red v.by_sender v.by_receiver content (fresh place.session) t heard
            (λ p h. absurd (cc)) tt
            (λ some. absurd (reports.unknown is (sym closed ∙ open_number) some.report some.among))
            asks.later hears.form
        by_opening (inl unchanged) = idly hears.form
          where
            idly : ReceiverStep content (fresh place.session) t
                → AnswersOn v.by_sender v.by_receiver red t
            idly (idle next none) =
                record {
                  known = λ some. subst (IfKeeps (λ r. r.length ≡ Some red)) (sym next) tt;
                  names = λ x among. absurd (none x among);
                  quiet =
                      λ h. no-old v.by_receiver t.out none;
                }
            idly (over next none) = absurd (cc)
            idly (turns r' next turned none) = absurd (cc)
            idly (again p timer pending next out) = absurd (cc)
            idly (fills q r' is_piece red_kind next filling none) = absurd (cc)
            idly (reports_on q r' is_piece red_kind checkpoint next reporting out) = absurd (cc)

pub listens-asks : (v : View) (content : ContentValue) (t : StepValue Sending)
    (kept : Option Sending) → v.sender ≡ kept → IsHeard content v.by_receiver
    → IfKept (HasAsked v.by_sender v.by_receiver) kept → Listens content kept t
    → AsksOn v.by_sender v.by_receiver t
listens-asks v content t (Some s) is heard asks hears =
    step-asks v.by_sender v.by_receiver content s t heard asks (hears.form s refl)
listens-asks v content t None is heard asks hears =
    let idle_now = hears.none refl in
    record {
      next = subst (IfKeeps (HasAsked (v.by_sender ++ t.out) v.by_receiver)) (sym idle_now.0) tt;
      pieces = λ q among h. absurd (idle_now.1 q among);
      quiet = λ h. idle_now.1;
    }

pub asks-keep : KeepsUnder ReportedFacts CheckpointFacts
asks-keep = record {
  begins = λ policy n block red now v cuts within unused _. record {
    sender = begins-asks policy n block red now v unused;
    names = λ x among. absurd (subst (IsIn (a_report x)) unused.by_receiver among);
    later = λ q among asks no_end. absurd (let ends_there = begun-ends policy n block red now q
        cuts within (subst (λ said. IsIn (a_piece q) (said ++ (begin policy n block red now).out))
        unused.by_sender among) asks in cc);
    known = λ some. absurd (subst (IsIn (a_report some.report)) unused.by_receiver some.among);
  };
  sender = λ block red policy v content now t among hears f f' asks.
      let on = listens-asks v content t v.sender refl (λ x is. among) asks.sender
      (listens-form policy v.sender content now t hears) in
      sender-moved block red v t asks on on.quiet;
  receiver = λ block red policy place v content now t closed among hears f f' asks.
      receiver-moved block red v t asks (hears-answers block red v place content t closed among
      f.0.0 f.0.1 asks (hears-form policy place v.receiver content now t hears));
  sender_tick = λ block red policy now v s is f f' asks.
      let on = step-asks v.by_sender v.by_receiver a_sender_cancel_ack s (sender_tick policy s now)
      (λ x h. absurd (cc)) (subst (IfKept (HasAsked v.by_sender v.by_receiver)) is asks.sender)
      (sender_tick-form a_sender_cancel_ack policy now s) in
      sender-moved block red v (sender_tick policy s now) asks on on.quiet;
  receiver_tick = λ block red policy now v r is f f' asks.
      let tells : HasReported v.by_receiver r =
      subst (IfKept (HasReported v.by_receiver)) is f.0.1.kept in
      let receives : IsReceiverOf block red r =
      subst (IfKept (IsReceiverOf block red)) is f.0.0.receiver in
      receiver-moved block red v (receiver_tick policy r now) asks
      (step-answers block red v.by_sender v.by_receiver a_sender_cancel_ack r
      (receiver_tick policy r now) (λ q h. absurd (cc)) tells.pending receives.known
      (λ some. subst (IfKept (λ r. r.length ≡ Some red)) is (asks.known some)) asks.later
      (tick-form a_sender_cancel_ack policy now r));
  evicted = λ block red v r is f f' asks. record {
    sender = asks.sender;
    names = asks.names;
    later = asks.later;
    known = λ some. tt;
  };
}
  where
    begins-asks : (policy : PolicyValue) (n : ℕ) (block : List ℕ) (red now : ℕ) (v : View)
        → Unused v
        → IfKept (HasAsked (v.by_sender ++ (begin policy n block red now).out) v.by_receiver)
        (after (begin policy n block red now).next v.sender)
    begins-asks policy n block red now v unused =
        subst (λ said. IfKept (HasAsked (said ++ (begin policy n block red now).out) v.by_receiver)
        (after (begin policy n block red now).next v.sender)) (sym unused.by_sender)
        (by_change (begin policy n block red now).next
        (begun-asks policy n block red now v.by_receiver))
      where
        by_change : (c : Change Sending)
            → IfKeeps (HasAsked (begin policy n block red now).out v.by_receiver) c
            → IfKept (HasAsked (begin policy n block red now).out v.by_receiver) (after c v.sender)
        by_change stays is =
            subst (IfKept (HasAsked (begin policy n block red now).out v.by_receiver))
            (sym unused.sender) tt
        by_change (keeps s) is = is
        by_change ends is = tt
