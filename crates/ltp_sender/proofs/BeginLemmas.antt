-- A session that begins.

use Rattle.std.proofs.Common.{◌≡◌, ℕ, zero, suc, ◌+◌, ◌≤◌, Bool, false, List, [], ◌∷◌, ◌++◌, length, take, drop, map, Some, None, Option, refl, sym, ap, ◌∙◌, arith}
use Rattle.spans.specs.Places.{uncovered}
use Rattle.spans.proofs.PlaceLaws.{nothing_is_covered}
use Rattle.ltp_segment.specs.Policy.{PolicyValue}
use Rattle.ltp_segment.specs.Values.{PieceValue}
use Rattle.ltp_session.specs.declared.name.SessionName.{SessionName}
use Rattle.ltp_session.specs.declared.timer.Timer.{Timer}
use Rattle.ltp_session.specs.Timer.{first_timer, first_serial}
use Rattle.ltp_session.specs.Step.{after}
use Rattle.ltp_session.specs.Sender.{sender_open, segments_from, segments_of, red_segments, green_segments, last_segment, checkpoint_at, red_pieces, green_pieces, are_claimed, is_claimed, unclaimed, opened, begin}
use Rattle.ltp_session.specs.Views.{datagrams_of}
use Rattle.ltp_sender.specs.declared.segments.Segment.{Segment}
use Rattle.ltp_sender.specs.declared.segments.Checkpoint.{Checkpoint}
use Rattle.ltp_sender.specs.Segments.{segment_in, checkpoint_value, IsLast}
use Rattle.ltp_sender.specs.Kept.{opened_by}
use Rattle.ltp_sender.proofs.Datagrams.{datagrams_of-append}
use Rattle.ltp_sender.proofs.StepLemmas.{checkpoint-is}

-- ---- nothing is claimed

none-claimed : (red at size : ℕ) (x : ℕ) (xs : List ℕ) → 1 ≤ size → is_claimed (uncovered red) (at, take size (x ∷ xs)) ≡ false
unfolding are_claimed
none-claimed red at zero x xs some = absurd (omega arith)
none-claimed red at (suc size) x xs some = rw ((nothing_is_covered red).0 at) refl

unclaimed-keeps : (claimed : List Bool) (here : ℕ × List ℕ) (rest : List (ℕ × List ℕ)) → is_claimed claimed here ≡ false
    → unclaimed claimed (here ∷ rest) ≡ here ∷ unclaimed claimed rest
unfolding unclaimed
unclaimed-keeps claimed here rest is = rw is refl

unclaimed-nil : (claimed : List Bool) → unclaimed claimed [] ≡ []
unfolding unclaimed
unclaimed-nil claimed = refl

pub unclaimed-all : (red size n at : ℕ) (octets : List ℕ) → 1 ≤ size → unclaimed (uncovered red) (segments_from size n at octets) ≡ segments_from size n at octets
unfolding segments_from
unclaimed-all red size zero at octets some = unclaimed-nil (uncovered red)
unclaimed-all red size (suc n) at [] some = unclaimed-nil (uncovered red)
unclaimed-all red size (suc n) at (x ∷ xs) some =
    unclaimed-keeps (uncovered red) (at, take size (x ∷ xs)) (segments_from size n (at + size) (drop size (x ∷ xs))) (none-claimed red at size x xs some)
    ∙ ap (λ rest. (at, take size (x ∷ xs)) ∷ rest) (unclaimed-all red size n (at + size) (drop size (x ∷ xs)) some)

-- ---- what began

-- the first segments of a block, as the code sent them
pub record SentFirst (name : SessionName) (policy : PolicyValue) (session : ℕ) (block part : List ℕ) (red : ℕ) (segments : List Segment) (out_red out : List (List ℕ)) : Type 0 where
  pub part_is : part ≡ take red block
  pub length_is : length part ≡ red
  pub segments_are : map (segment_in part) segments ≡ unclaimed (uncovered red) (segments_of policy.segment 0 part)
  pub red_is : out_red ≡ datagrams_of name (red_pieces (checkpoint_at (length block) (length part) (first_serial session) 0) (map (segment_in part) segments))
  pub green_is : out ≡ out_red ++ datagrams_of name (green_pieces (green_segments policy block red))

first-segments : (name : SessionName) (policy : PolicyValue) (session : ℕ) (block part : List ℕ) (red : ℕ) (segments : List Segment) (out_red out : List (List ℕ)) → 1 ≤ policy.segment
    → SentFirst name policy session block part red segments out_red out → map (segment_in part) segments ≡ red_segments policy block red
first-segments name policy session block part red segments out_red out some sent =
    sent.segments_are
    ∙ unclaimed-all red policy.segment (length part) 0 part some
    ∙ ap (λ p. segments_of policy.segment 0 p) sent.part_is

pub begin-out : (name : SessionName) (policy : PolicyValue) (session : ℕ) (block part : List ℕ) (red now : ℕ) (segments : List Segment) (out_red out : List (List ℕ)) → 1 ≤ policy.segment
    → SentFirst name policy session block part red segments out_red out → out ≡ datagrams_of name (begin policy session block red now).out
unfolding begin
begin-out name policy session block part red now segments out_red out some sent =
    let are = first-segments name policy session block part red segments out_red out some sent in
    sent.green_is
    ∙ ap (λ ds. ds ++ datagrams_of name (green_pieces (green_segments policy block red)))
    (sent.red_is
    ∙ ap (λ n. datagrams_of name (red_pieces (checkpoint_at (length block) n (first_serial session) 0) (map (segment_in part) segments))) sent.length_is
    ∙ ap (λ xs. datagrams_of name (red_pieces (checkpoint_at (length block) red (first_serial session) 0) xs)) are)
    ∙ sym (datagrams_of-append name (red_pieces (checkpoint_at (length block) red (first_serial session) 0) (red_segments policy block red))
    (green_pieces (green_segments policy block red)))

begin-kept-by : (policy : PolicyValue) (block : List ℕ) (red now : ℕ) (checkpoint : ℕ × List ℕ → PieceValue) (segments : List (ℕ × List ℕ)) (o : Option (ℕ × List ℕ))
    → last_segment segments ≡ o → after (opened policy block red now checkpoint (last_segment segments)) None ≡ after (opened policy block red now checkpoint o) None
begin-kept-by policy block red now checkpoint segments o is = ap (λ x. after (opened policy block red now checkpoint x) None) is

pub begin-kept : (name : SessionName) (policy : PolicyValue) (session : ℕ) (block part : List ℕ) (red now : ℕ) (segments : List Segment) (out_red out : List (List ℕ)) (timer : Timer)
    (last : Option Checkpoint) → 1 ≤ policy.segment → SentFirst name policy session block part red segments out_red out
    → IsLast part segments (first_serial session) 0 last → timer ≡ first_timer policy now
    → opened_by block red (uncovered red) timer last ≡ after (begin policy session block red now).next None
unfolding begin uncovered
begin-kept name policy session block part red now segments out_red out timer None some sent last timer_is =
    let are = first-segments name policy session block part red segments out_red out some sent in
    sym (begin-kept-by policy block red now (checkpoint_at (length block) red (first_serial session) 0) (red_segments policy block red) None
    (ap (λ xs. last_segment xs) (sym are) ∙ last))
begin-kept name policy session block part red now segments out_red out timer (Some c) some sent last timer_is =
    let are = first-segments name policy session block part red segments out_red out some sent in
    ap (λ p. Some (record { block = block; red = red; claimed = uncovered red; phase = sender_open (checkpoint_value (length block) p c) timer })) (sym sent.part_is)
    ∙ ap (λ piece. Some (record { block = block; red = red; claimed = uncovered red; phase = sender_open piece timer }))
    (checkpoint-is (length block) red (first_serial session) 0 part c sent.length_is last.2 last.3)
    ∙ ap (λ t. Some (record { block = block; red = red; claimed = uncovered red; phase = sender_open (checkpoint_at (length block) red (first_serial session) 0 (segment_in part c.segment)) t })) timer_is
    ∙ sym (begin-kept-by policy block red now (checkpoint_at (length block) red (first_serial session) 0) (red_segments policy block red) (Some (segment_in part c.segment))
    (ap (λ xs. last_segment xs) (sym are) ∙ last.0))
