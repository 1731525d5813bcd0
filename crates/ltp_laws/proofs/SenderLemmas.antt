-- A sender keeps to its block.

use Rattle.std.proofs.Common.{◌≡◌, ℕ, zero, suc, ◌+◌, ◌<◌, ◌≤◌, Bool, true, false, ◌==◌, List}
use Rattle.std.proofs.Common.{[], ◌∷◌, length, take, drop, Option, None, Some, refl, sym, ◌∙◌, ap}
use Rattle.std.proofs.Common.{arith, subst₂, nat_lt, nat_le, if◌then◌else◌}
use Rattle.std.specs.Prelude.{slice_index}
use Rattle.std.specs.List.{AllByRecursion, list_all}
use Rattle.std.proofs.lemmas.Bool.{eqb-true}
use Rattle.std.proofs.lemmas.List.{get_or-take, get_or-drop, length-take, length-drop}
use Rattle.ltp_segment.specs.declared.segment.PieceKind.TheVariants as kinds
use Rattle.ltp_segment.specs.Kinds.{is_red, ends_red_part}
use Rattle.ltp_segment.specs.Policy.{PolicyValue}
use Rattle.ltp_segment.specs.Values.{PieceValue, ReportValue, ContentValue, a_piece, a_report}
use Rattle.ltp_segment.specs.Values.{a_report_ack, a_sender_cancel, a_sender_cancel_ack}
use Rattle.ltp_segment.specs.Values.{a_receiver_cancel, a_receiver_cancel_ack}
use Rattle.ltp_session.specs.Claims.{with_claims}
use Rattle.ltp_session.specs.Sender.{Sending, SendingPhase, sender_open, sender_cancelling}
use Rattle.ltp_session.specs.Sender.{segments_from, segments_of, checkpoint_kind, checkpoint_at}
use Rattle.ltp_session.specs.Sender.{red_pieces, green_pieces, last_segment, opened, begin}
use Rattle.ltp_session.specs.Sender.{is_claimed, unclaimed, gives_up, sends_again, next_round}
use Rattle.ltp_session.specs.Sender.{goes_on, takes_report, report_step, sender_due, sender_tick}
use Rattle.ltp_session.specs.Sender.{sending_timer, ends_cancelling, sender_answers}
use Rattle.ltp_session.specs.Step.{StepValue}
use Rattle.ltp_session.specs.Timer.{first_serial, is_past_serials}
use Rattle.ltp_laws.specs.Blocks.{IsOf, IsInPart, IsPieceOf, IsContentOf, AwaitsPieceOf}
use Rattle.ltp_laws.specs.Blocks.{IsSenderOf}
use Rattle.ltp_laws.specs.Kept.{IfKept, IfKeeps}
use Rattle.ltp_laws.specs.Runs.{KeepsTo}
use Rattle.ltp_laws.proofs.ListLemmas.{both_arms, by_arms, all-append, answered}

-- ---- parts of a block

record IsPart (block : List ℕ) (low high : ℕ) (part : ℕ × List ℕ) : Type 0 where
  octets : IsOf block part.0 part.1
  begins : low ≤ part.0
  within : part.0 + length part.1 ≤ high

of-take : (block : List ℕ) (at z : ℕ) (octets : List ℕ) → IsOf block at octets
    → IsOf block at (take z octets)
of-take block at z octets of k low =
    let size = length-take z octets in
    let here = of k (omega (arith, size)) in
    (here.0, here.1 ∙ sym (get_or-take z octets k 0 (omega (arith, size))))

of-drop : (block : List ℕ) (at z : ℕ) (octets : List ℕ) → IsOf block at octets
    → IsOf block (at + z) (drop z octets)
of-drop block at z octets of k low =
    let size = length-drop z octets in
    let here = of (z + k) (omega (arith, size)) in
    let place : at + (z + k) ≡ at + z + k = omega arith in (
      omega (arith, here.0),
      ap (slice_index block) (sym place) ∙ here.1 ∙ sym
          (get_or-drop z octets k 0),
    )

parts-from : (block : List ℕ) (low high z n at : ℕ) (octets : List ℕ)
    → IsOf block at octets → low ≤ at
    → (0 < length octets → at + length octets ≤ high) → AllByRecursion (IsPart block low high)
    (segments_from z n at octets)
unfolding segments_from
parts-from block low high z zero at octets of from within = tt
parts-from block low high z (suc n) at [] of from within = tt
parts-from block low high z (suc n) at (octet ∷ octets) of from within = (
  record {
    octets = of-take block at z (octet ∷ octets) of;
    begins = from;
    within = omega (arith, length-take z (octet ∷ octets), within (omega arith));
  },
  parts-from block low high z n (at + z) (drop z (octet ∷ octets))
      (of-drop block at z (octet ∷ octets) of) (omega arith)
      (λ some. omega (arith, length-drop z (octet ∷ octets), within (omega arith), some)),
)

of-front : (block : List ℕ) (red : ℕ) → IsOf block 0 (take red block)
of-front block red =
    of-take block 0 red block (λ k low. (omega arith, ap (slice_index block) (omega arith)))

of-back : (block : List ℕ) (red : ℕ) → IsOf block red (drop red block)
of-back block red k low =
    (omega (arith, length-drop red block, low), sym (get_or-drop red block k 0))

red_parts : (block : List ℕ) (red z : ℕ) → AllByRecursion (IsPart block 0 red)
    (segments_of z 0 (take red block))
red_parts block red z =
    parts-from block 0 red z _ 0 (take red block) (of-front block red) (omega arith)
    (λ some. omega (arith, length-take red block))

green_parts : (block : List ℕ) (red z : ℕ) → red ≤ length block
    → AllByRecursion (IsPart block red (length block)) (segments_of z red (drop red block))
green_parts block red z within = parts-from block red (length block) z _ red (drop red block)
    (of-back block red) (omega arith)
    (λ some. omega (arith, length-drop red block))

pub unclaimed-parts : (P : ℕ × List ℕ → Type 0) (claimed : List Bool) (parts : List (ℕ × List ℕ))
    → AllByRecursion P parts → AllByRecursion P (unclaimed claimed parts)
unfolding unclaimed
unclaimed-parts P claimed [] all = tt
unclaimed-parts P claimed (part ∷ parts) all =
    both_arms (AllByRecursion P) (is_claimed claimed part) (unclaimed claimed parts)
    (part ∷ unclaimed claimed parts)
    (unclaimed-parts P claimed parts all.1) (all.0, unclaimed-parts P claimed parts all.1)

pub last-part : (P : ℕ × List ℕ → Type 0) (parts : List (ℕ × List ℕ)) → AllByRecursion P parts
    → IfKept P (last_segment parts)
unfolding last_segment
last-part P [] all = tt
last-part P (part ∷ []) all = all.0
last-part P (part ∷ next ∷ parts) all = last-part P (next ∷ parts) all.1

-- ---- pieces of parts

red_kind : (size red end : ℕ) → end ≤ red → IsInPart red (is_red (checkpoint_kind size red end))
    (ends_red_part (checkpoint_kind size red end)) 0 end
red_kind size red end within =
    by_arms (λ kind. IsInPart red (is_red kind) (ends_red_part kind) 0 end) (end == red)
    (if red == size then kinds.RedEndBlock else kinds.RedEnd) kinds.RedCheckpoint
    (λ at_end.
    let here : end ≡ red = eqb-true end red at_end in
    both_arms (λ kind. IsInPart red (is_red kind) (ends_red_part kind) 0 end) (red == size)
    kinds.RedEndBlock kinds.RedEnd here here)
    (λ before. within)

checkpoint-is : (block : List ℕ) (red serial report : ℕ) (part : ℕ × List ℕ)
    → IsPart block 0 red part
    → IsPieceOf block red (checkpoint_at (length block) red serial report part)
checkpoint-is block red serial report part is = record {
  service = refl;
  octets = is.octets;
  part = by_kind (part.0 + length part.1 == red) refl (red == length block);
}
  where
    by_kind : (at_end : Bool) → (part.0 + length part.1 == red) ≡ at_end → (whole : Bool)
        → IsInPart red (is_red (if at_end then (if whole then kinds.RedEndBlock else kinds.RedEnd)
        else kinds.RedCheckpoint)) (ends_red_part (if at_end then (if whole then kinds.RedEndBlock
        else kinds.RedEnd) else kinds.RedCheckpoint)) part.0 (part.0 + length part.1)
    by_kind true is_end true = eqb-true _ _ is_end
    by_kind true is_end false = eqb-true _ _ is_end
    by_kind false is_end whole = is.within

red-said : (block : List ℕ) (red : ℕ) (last : ℕ × List ℕ → PieceValue)
    → ((part : ℕ × List ℕ) → IsPart block 0 red part → IsPieceOf block red (last part))
    → (parts : List (ℕ × List ℕ)) → AllByRecursion (IsPart block 0 red) parts
    → AllByRecursion (IsContentOf block red) (red_pieces last parts)
unfolding red_pieces
red-said block red last of [] all = tt
red-said block red last of (part ∷ []) all = (of part all.0, tt)
red-said block red last of (part ∷ next ∷ parts) all = (
  record { service = refl; octets = all.0.octets; part = all.0.within },
  red-said block red last
      of (next ∷ parts) all.1,
)

green-said : (block : List ℕ) (red high : ℕ) (parts : List (ℕ × List ℕ))
    → AllByRecursion (IsPart block red high) parts → AllByRecursion (IsContentOf block red)
    (green_pieces parts)
unfolding green_pieces
green-said block red high [] all = tt
green-said block red high (part ∷ []) all =
    (record { service = refl; octets = all.0.octets; part = all.0.begins }, tt)
green-said block red high (part ∷ next ∷ parts) all = (
  record { service = refl; octets = all.0.octets; part = all.0.begins },
  green-said block red
      high (next ∷ parts) all.1,
)

-- ---- steps

opened-is : (policy : PolicyValue) (block : List ℕ) (red now : ℕ) (last : ℕ × List ℕ → PieceValue)
    → ((part : ℕ × List ℕ) → IsPart block 0 red part → IsPieceOf block red (last part))
    → (o : Option (ℕ × List ℕ)) → IfKept (IsPart block 0 red) o → IfKeeps (IsSenderOf block red)
    (opened policy block red now last o)
opened-is policy block red now last of None is = tt
opened-is policy block red now last of (Some part) is =
    record { same_block = refl; same_red = refl; checkpoint = of part is }

pub begin-keeps : (policy : PolicyValue) (n : ℕ) (block : List ℕ) (red now : ℕ)
    → red ≤ length block
    → KeepsTo block red (IsSenderOf block red) (begin policy n block red now)
unfolding begin
begin-keeps policy n block red now within =
    let of = checkpoint-is block red (first_serial n) 0 in
    let parts = red_parts block red policy.segment in
    record {
      next = opened-is policy block red now _ of
          (last_segment (segments_of policy.segment 0 (take red block))) (last-part _ _ parts);
      out = all-append _ _ _ (red-said block red _ of _ parts)
          (green-said block red (length block) _ (green_parts block red policy.segment within));
    }

gives_up-keeps : (block : List ℕ) (red : ℕ) (policy : PolicyValue) (s : Sending) (reason now : ℕ)
    (out : List ContentValue)
    → s.block ≡ block → s.red ≡ red → AllByRecursion (IsContentOf block red) out
    → KeepsTo block red (IsSenderOf block red) (gives_up policy s reason now out)
gives_up-keeps block red policy s reason now out whole same_red said =
    record {
      next = record { same_block = whole; same_red = same_red; checkpoint = tt };
      out = all-append _ out _ said (tt, tt);
    }

sends_again-keeps : (block : List ℕ) (red : ℕ) (policy : PolicyValue) (s : Sending)
    (claimed : List Bool) (now : ℕ) (parts : List (ℕ × List ℕ)) (last : ℕ × List ℕ → PieceValue)
    (acks : List ContentValue)
    → IsSenderOf block red s
    → ((part : ℕ × List ℕ) → IsPart block 0 red part → IsPieceOf block red (last part))
    → AllByRecursion (IsPart block 0 red) parts → AllByRecursion (IsContentOf block red) acks
    → (o : Option (ℕ × List ℕ)) → IfKept (IsPart block 0 red) o
    → KeepsTo block red (IsSenderOf block red) (sends_again policy (record s { claimed = claimed })
    now parts last o acks)
sends_again-keeps block red policy s claimed now parts last acks is of all said None is_last =
    record {
      next = record {
        same_block = is.same_block;
        same_red = is.same_red;
        checkpoint = is.checkpoint;
      };
      out = said;
    }
sends_again-keeps block red policy s claimed now parts last acks is of all said
    (Some part) is_last =
    record {
      next = record {
        same_block = is.same_block;
        same_red = is.same_red;
        checkpoint = of part is_last;
      };
      out = all-append _ acks _ said
          (red-said block red last of parts all);
    }

next_round-keeps : (block : List ℕ) (red : ℕ) (policy : PolicyValue) (s : Sending)
    (claimed : List Bool) (serial report now : ℕ) (acks : List ContentValue)
    → IsSenderOf block red s → AllByRecursion (IsContentOf block red) acks
    → KeepsTo block red (IsSenderOf block red) (next_round policy (record s { claimed = claimed })
    serial report now acks)
next_round-keeps block red policy s claimed serial report now acks is said =
    both_arms (KeepsTo block red (IsSenderOf block red)) (is_past_serials (serial + 1)) _ _
    (gives_up-keeps block red policy (record s { claimed = claimed }) 4 now acks is.same_block
    is.same_red said)
    (sends_again-keeps block red policy s claimed now _ _ acks is of parts said _
    (last-part _ _ parts))
  where
    own : AllByRecursion (IsPart block 0 red) (segments_of policy.segment 0 (take s.red s.block))
    own = subst₂ (λ b r. AllByRecursion (IsPart b 0 r) (segments_of policy.segment 0
        (take s.red s.block))) is.same_block is.same_red (red_parts s.block s.red policy.segment)

    parts : AllByRecursion (IsPart block 0 red) (unclaimed claimed (segments_of policy.segment 0
        (take s.red s.block)))
    parts = unclaimed-parts _ claimed _ own

    of : (part : ℕ × List ℕ) → IsPart block 0 red part
        → IsPieceOf block red (checkpoint_at (length s.block) s.red (serial + 1) report part)
    of part = subst₂ (λ b r. IsPart b 0 r part → IsPieceOf b r
        (checkpoint_at (length s.block) s.red (serial + 1) report part)) is.same_block is.same_red
        (checkpoint-is s.block s.red (serial + 1) report part)

goes_on-keeps : (block : List ℕ) (red : ℕ) (policy : PolicyValue) (s : Sending)
    (claimed : List Bool) (checkpoint : PieceValue) (r : ReportValue) (now : ℕ)
    (acks : List ContentValue)
    → IsSenderOf block red s → AllByRecursion (IsContentOf block red) acks
    → KeepsTo block red (IsSenderOf block red) (goes_on policy (record s { claimed = claimed })
    checkpoint r now acks)
goes_on-keeps block red policy s claimed checkpoint r now acks is said =
    both_arms (KeepsTo block red (IsSenderOf block red)) (list_all (λ b. b) claimed) _ _
    (record { next = tt; out = said })
    (both_arms (KeepsTo block red (IsSenderOf block red))
    (r.checkpoint == checkpoint.checkpoint) _ _
    (next_round-keeps block red policy s claimed checkpoint.checkpoint r.serial now acks is said)
    (record {
      next = record {
        same_block = is.same_block;
        same_red = is.same_red;
        checkpoint = is.checkpoint;
      };
      out = said;
    }))

report-keeps : (block : List ℕ) (red : ℕ) (policy : PolicyValue) (s : Sending)
    (r : ReportValue) (now : ℕ)
    → IsSenderOf block red s → KeepsTo block red (IsSenderOf block red)
    (report_step policy s r now)
unfolding report_step
report-keeps block red policy s r now is =
    both_arms (KeepsTo block red (IsSenderOf block red)) (nat_lt s.red r.upper) _ _
    (record { next = tt; out = tt }) (by_phase s.phase)
  where
    by_phase : (phase : SendingPhase) → KeepsTo block red (IsSenderOf block red)
        (takes_report policy s phase r now (a_report_ack r.serial ∷ []))
    by_phase (sender_open checkpoint timer) =
        goes_on-keeps block red policy s (with_claims r.lower r.claims s.claimed) checkpoint r now
        (a_report_ack r.serial ∷ []) is (tt, tt)
    by_phase (sender_cancelling reason timer) = record { next = tt; out = (tt, tt) }

pub sender_tick-keeps : (block : List ℕ) (red : ℕ) (policy : PolicyValue) (now : ℕ) (s : Sending)
    → IsSenderOf block red s → KeepsTo block red (IsSenderOf block red) (sender_tick policy s now)
unfolding sender_tick
sender_tick-keeps block red policy now s is =
    both_arms (KeepsTo block red (IsSenderOf block red))
    (nat_le (sending_timer s.phase).deadline now) _ _
    (by_phase s.phase is.checkpoint) (record { next = tt; out = tt })
  where
    by_phase : (phase : SendingPhase) → AwaitsPieceOf block red phase
        → KeepsTo block red (IsSenderOf block red) (sender_due policy s phase now)
    by_phase (sender_open checkpoint timer) piece =
        both_arms (KeepsTo block red (IsSenderOf block red)) (nat_lt timer.times policy.limit) _ _
        (record {
          next = record {
            same_block = is.same_block;
            same_red = is.same_red;
            checkpoint = piece;
          };
          out = (piece, tt);
        })
        (gives_up-keeps block red policy s 2 now [] is.same_block is.same_red tt)
    by_phase (sender_cancelling reason timer) piece =
        both_arms (KeepsTo block red (IsSenderOf block red)) (nat_lt timer.times policy.limit) _ _
        (record {
          next = record {
            same_block = is.same_block;
            same_red = is.same_red;
            checkpoint = tt;
          };
          out = (tt, tt);
        })
        (record { next = tt; out = tt })

over-keeps : (block : List ℕ) (red : ℕ) (s : Sending) (phase : SendingPhase)
    → KeepsTo block red (IsSenderOf block red) (ends_cancelling phase)
over-keeps block red s (sender_open checkpoint timer) = record { next = tt; out = tt }
over-keeps block red s (sender_cancelling reason timer) = record { next = tt; out = tt }

-- whatever it is told
pub sender-keeps : (block : List ℕ) (red : ℕ) (policy : PolicyValue) (kept : Option Sending)
    (content : ContentValue) (now : ℕ) (t : StepValue Sending)
    → IfKept (IsSenderOf block red) kept → sender_answers policy kept content now ≡ Some t
    → KeepsTo block red (IsSenderOf block red) t
unfolding sender_answers
sender-keeps block red policy None (a_report r) now t is hears =
    answered (KeepsTo block red (IsSenderOf block red)) _ t hears
    (record { next = tt; out = (tt, tt) })
sender-keeps block red policy (Some s) (a_report r) now t is hears =
    answered (KeepsTo block red (IsSenderOf block red)) _ t hears
    (report-keeps block red policy s r now is)
sender-keeps block red policy None (a_receiver_cancel reason) now t is hears =
    answered (KeepsTo block red (IsSenderOf block red)) _ t hears
    (record { next = tt; out = (tt, tt) })
sender-keeps block red policy (Some s) (a_receiver_cancel reason) now t is hears =
    answered (KeepsTo block red (IsSenderOf block red)) _ t hears
    (record { next = tt; out = (tt, tt) })
sender-keeps block red policy None a_sender_cancel_ack now t is hears =
    answered (KeepsTo block red (IsSenderOf block red)) _ t hears (record { next = tt; out = tt })
sender-keeps block red policy (Some s) a_sender_cancel_ack now t is hears =
    answered (KeepsTo block red (IsSenderOf block red)) _ t hears (over-keeps block red s s.phase)
sender-keeps block red policy kept (a_piece p) now t is hears = absurd (cc)
sender-keeps block red policy kept (a_report_ack serial) now t is hears = absurd (cc)
sender-keeps block red policy kept (a_sender_cancel reason) now t is hears = absurd (cc)
sender-keeps block red policy kept a_receiver_cancel_ack now t is hears = absurd (cc)
