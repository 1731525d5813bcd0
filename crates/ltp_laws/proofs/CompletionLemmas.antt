-- Where all is claimed a whole report was sent; and the sent pieces hold the block.

use Rattle.std.proofs.Common.{◌≡◌, ℕ, zero, suc, ◌+◌, ◌-◌, ◌<◌, ◌≤◌, Bool, true, false, List, []}
use Rattle.std.proofs.Common.{◌∷◌, ◌++◌, length, take, drop, Option, None, Some, is_some, ◌⊎◌, inl}
use Rattle.std.proofs.Common.{inr, refl, sym, ◌∙◌, ap, arith, subst, ⊎_elim}
use Rattle.std.specs.Prelude.{slice_index, slice_index_or}
use Rattle.std.specs.List.{AllByRecursion}
use Rattle.std.proofs.lemmas.Bool.{cases_lt, le-leb, lt-ltb}
use Rattle.std.proofs.lemmas.List.{length-take, length-drop}
use Rattle.ltp_segment.specs.declared.segment.Claim.{Claim}
use Rattle.ltp_segment.specs.declared.segment.PieceKind.{PieceKind}
use Rattle.ltp_segment.specs.declared.segment.PieceKind.TheVariants as kinds
use Rattle.ltp_segment.specs.Kinds.{is_red, ends_red_part}
use Rattle.ltp_segment.specs.Policy.{PolicyValue}
use Rattle.ltp_segment.specs.Values.{PieceValue, ReportValue, ContentValue, a_piece, a_report}
use Rattle.ltp_segment.specs.Values.{a_report_ack, a_sender_cancel, a_sender_cancel_ack}
use Rattle.ltp_segment.specs.Values.{a_receiver_cancel, a_receiver_cancel_ack}
use Rattle.ltp_session.specs.Cells.{cell, octet_in}
use Rattle.ltp_session.specs.Claims.{with_claims}
use Rattle.ltp_session.specs.Receiver.{Receiving, piece_stop}
use Rattle.ltp_session.specs.Sender.{Sending, sender_open, segments_of, piece_at, checkpoint_at}
use Rattle.ltp_session.specs.Sender.{red_pieces, green_pieces, last_segment, begin, sender_tick}
use Rattle.ltp_session.specs.Sender.{is_all_claimed}
use Rattle.ltp_session.specs.Timer.{first_serial}
use Rattle.ltp_session.specs.declared.timer.Timer.{Timer}
use Rattle.ltp_laws.specs.Acknowledgements.{AckFacts}
use Rattle.ltp_laws.specs.Blocks.{IsAt, IsInPart, IsPieceOf, IsContentOf, BlockFacts}
use Rattle.ltp_laws.specs.Checkpoints.{IsClaimedBy, HasAsked, CheckpointFacts}
use Rattle.ltp_laws.specs.Claims.{HasPlace, AreApart, IsReportOf, ClaimsFilled, ClaimFacts}
use Rattle.ltp_laws.specs.Claims.{ClaimsPlace}
use Rattle.ltp_laws.specs.Completion.{WholeSent, CompletionFacts}
use Rattle.ltp_laws.specs.HandUps.{HasHandedUp, HandUpFacts}
use Rattle.ltp_laws.specs.Kept.{IfKept}
use Rattle.ltp_laws.specs.Reach.{LeavesOut, ReachFacts}
use Rattle.ltp_laws.specs.Runs.{KeepsUnder}
use Rattle.ltp_laws.specs.Serials.{NoReports, SerialFacts}
use Rattle.ltp_laws.specs.Spelling.{SpellingFacts, Holds, Ends}
use Rattle.ltp_laws.specs.View.{View, IsIn}
use Rattle.ltp_laws.proofs.AckLemmas.{length-claims}
use Rattle.ltp_laws.proofs.CheckpointLemmas.{with-claims, round-has, begun-ends}
use Rattle.ltp_laws.proofs.CheckpointLemmas.{checkpoint_at-asks}
use Rattle.ltp_laws.proofs.ReceiverLemmas.{octet-at}
use Rattle.ltp_laws.proofs.SerialLemmas.{all-among, among-left, among-right}
use Rattle.ltp_laws.proofs.WholeLemmas.{HasPart, cut-has, place-filled}

-- ---- the largest serial

record Largest (said : List ContentValue) : Type 0 where
  y : ReportValue
  among : IsIn (a_report y) said
  most : (z : ReportValue) → IsIn (a_report z) said → z.serial ≤ y.serial

no-report : (c : ContentValue) (cs : List ContentValue) → ((z : ReportValue) → c ≡ a_report z → ⊥)
    → NoReports cs ⊎ Largest cs → NoReports (c ∷ cs) ⊎ Largest (c ∷ cs)
no-report c cs differs (inl none) = inl absent
  where
    absent : NoReports (c ∷ cs)
    absent z (inl here) = differs z here
    absent z (inr among) = none z among
no-report c cs differs (inr l) = inr (record { y = l.y; among = inr l.among; most = most })
  where
    most : (z : ReportValue) → IsIn (a_report z) (c ∷ cs) → z.serial ≤ (l.y).serial
    most z (inl here) = absurd (differs z here)
    most z (inr among) = l.most z among

a-report : (w : ReportValue) (cs : List ContentValue) → NoReports cs ⊎ Largest cs
    → Largest (a_report w ∷ cs)
a-report w cs (inl none) = record { y = w; among = inl refl; most = most }
  where
    most : (z : ReportValue) → IsIn (a_report z) (a_report w ∷ cs) → z.serial ≤ w.serial
    most z (inl here) = let same : w ≡ z =
        cc (here) in omega (arith, ap (λ (x : ReportValue). x.serial) same)
    most z (inr among) = absurd (none z among)
a-report w cs (inr l) = ⊎_elim larger smaller (cases_lt (l.y).serial w.serial)
  where
    larger : (l.y).serial < w.serial → Largest (a_report w ∷ cs)
    larger less = record { y = w; among = inl refl; most = most }
      where
        most : (z : ReportValue) → IsIn (a_report z) (a_report w ∷ cs) → z.serial ≤ w.serial
        most z (inl here) = let same : w ≡ z =
            cc (here) in omega (arith, ap (λ (x : ReportValue). x.serial) same)
        most z (inr among) = omega (arith, l.most z among, less)

    smaller : w.serial ≤ (l.y).serial → Largest (a_report w ∷ cs)
    smaller at_most = record { y = l.y; among = inr l.among; most = most }
      where
        most : (z : ReportValue) → IsIn (a_report z) (a_report w ∷ cs) → z.serial ≤ (l.y).serial
        most z (inl here) = let same : w ≡ z =
            cc (here) in omega (arith, at_most, ap (λ (x : ReportValue). x.serial) same)
        most z (inr among) = l.most z among

largest : (said : List ContentValue) → NoReports said ⊎ Largest said
largest [] = inl (λ z among. among)
largest (a_report w ∷ cs) = inr (a-report w cs (largest cs))
largest (a_piece q ∷ cs) = no-report (a_piece q) cs (λ z h. cc) (largest cs)
largest (a_report_ack n ∷ cs) = no-report (a_report_ack n) cs (λ z h. cc) (largest cs)
largest (a_sender_cancel n ∷ cs) = no-report (a_sender_cancel n) cs (λ z h. cc) (largest cs)
largest (a_sender_cancel_ack ∷ cs) = no-report a_sender_cancel_ack cs (λ z h. cc) (largest cs)
largest (a_receiver_cancel n ∷ cs) = no-report (a_receiver_cancel n) cs (λ z h. cc) (largest cs)
largest (a_receiver_cancel_ack ∷ cs) = no-report a_receiver_cancel_ack cs (λ z h. cc) (largest cs)

-- ---- all places claimed by one report

pub place-above : (low most : ℕ) (cs : List Claim) (k : ℕ) → AreApart low most cs
    → HasPlace 0 cs k → low ≤ k
place-above low most [] k apart has = absurd has
place-above low most (c ∷ cs) k apart (inl within) = omega (arith, apart.0, within.0)
place-above low most (c ∷ cs) k apart (inr has) =
    omega (arith, apart.0, place-above (c.offset + c.length + 1) most cs k apart.3 has)

one-whole : (red : ℕ) (cs : List Claim) → 1 ≤ red → AreApart 0 red cs
    → ((k : ℕ) → k < red → HasPlace 0 cs k) → cs ≡ record { offset = 0; length = red } ∷ []
one-whole red [] some apart has = absurd (has 0 (omega (arith, some)))
one-whole red (c ∷ cs) some apart has = by_rest cs apart.3 (go (has 0 (omega (arith, some)))) refl
  where
    go : HasPlace 0 (c ∷ cs) 0 → c.offset ≡ 0
    go (inl within) = omega (arith, within.0)
    go (inr later) =
        absurd (omega (arith, place-above (c.offset + c.length + 1) red cs 0 apart.3 later))

    full : c.offset ≡ 0 → c.length ≡ red
    full first = ⊎_elim (λ short. absurd (past (has c.length short)))
        (λ long. omega (arith, long, first, apart.2)) (cases_lt c.length red)
      where
        past : HasPlace 0 (c ∷ cs) c.length → ⊥
        past (inl within) = omega (arith, within.1, first)
        past (inr later) =
            omega (
              arith,
              place-above (c.offset + c.length + 1) red cs c.length
                  apart.3 later,
              first,
            )

    by_rest : (ds : List Claim) → AreApart (c.offset + c.length + 1) red ds → c.offset ≡ 0
        → cs ≡ ds → c ∷ ds ≡ record { offset = 0; length = red } ∷ []
    by_rest [] further first is = let size =
        full first in λ i. record { offset = first i; length = size i } ∷ []
    by_rest (d ∷ ds) further first is =
        absurd (omega (arith, further.0, further.1, further.2, first, full first))

pub all-at : (places : List Bool) (k : ℕ) → is_all_claimed places ≡ true → k < length places
    → slice_index_or places k false ≡ true
all-at [] k all low = absurd (omega arith)
all-at (true ∷ bs) zero all low = refl
all-at (true ∷ bs) (suc k) all low = all-at bs k all (omega arith)
all-at (false ∷ bs) k all low = absurd (cc)

-- ---- claims that are complete

pub record Told (block : List ℕ) (red : ℕ) (v : View) : Type 0 where
  pub reports : SerialFacts block red v
  pub claims : ClaimFacts block red v
  pub asks : CheckpointFacts block red v
  pub acks : AckFacts block red v
  pub reach : ReachFacts block red v
  pub hands : HandUpFacts block red v

pub ends-whole : (block : List ℕ) (red : ℕ) (v : View) → Told block red v
    → CompletionFacts block red v
ends-whole block red v told = record { ends = ends; handed = handed; filled = claimed-filled }
  where
    claimed-filled : (s : Sending) (k : ℕ) → v.sender ≡ Some s → slice_index_or s.claimed k false
        ≡ true → IfKept (λ r. is_some (cell r.cells k) ≡ true) v.receiver
    claimed-filled s k is claimed = by_kept v.receiver told.claims.filled
      where
        by : IsClaimedBy v.by_receiver k
        by = (subst (IfKept (HasAsked v.by_sender v.by_receiver)) is told.asks.sender).claimed k
            claimed

        by_kept : (kept : Option Receiving) → IfKept (ClaimsFilled v.by_receiver) kept
            → IfKept (λ r. is_some (cell r.cells k) ≡ true) kept
        by_kept None filled = tt
        by_kept (Some r) filled =
            place-filled r.cells (by.report).claims k
            (subst (λ lower. HasPlace lower (by.report).claims k)
            (told.claims.told by.report by.among).lower by.claims) (filled by.report by.among)

    ends : (s : Sending) (c : PieceValue) (timer : Timer) (x : ReportValue) → v.sender ≡ Some s
        → s.phase ≡ sender_open c timer → IsIn (a_report x) v.by_receiver
        → is_all_claimed (with_claims x.lower x.claims s.claimed) ≡ true
        → WholeSent red v.by_receiver
    ends s c timer x is waits among all = by_largest (largest v.by_receiver)
      where
        asks : HasAsked v.by_sender v.by_receiver s
        asks = subst (IfKept (HasAsked v.by_sender v.by_receiver)) is told.asks.sender

        size : length s.claimed ≡ red
        size = subst (IfKept (λ s'. length s'.claimed ≡ red)) is told.acks.size

        some : 1 ≤ red
        some = subst (λ n. 1 ≤ n) size (by_places s.claimed (asks.unclaimed c timer waits))
          where
            by_places : (places : List Bool) → is_all_claimed places ≡ false → 1 ≤ length places
            by_places [] open_part = absurd (cc)
            by_places (b ∷ bs) open_part = omega arith

        by : (k : ℕ) → k < red → IsClaimedBy v.by_receiver k
        by k low = go (with-claims x.lower x.claims s.claimed k
            (all-at (with_claims x.lower x.claims s.claimed) k all
            (omega (arith, low, size, length-claims x.lower x.claims s.claimed))))
          where
            go : (slice_index_or s.claimed k false ≡ true) ⊎ HasPlace x.lower x.claims k
                → IsClaimedBy v.by_receiver k
            go (inl before) = asks.claimed k before
            go (inr now) = record { report = x; among = among; claims = now }

        by_largest : NoReports v.by_receiver ⊎ Largest v.by_receiver → WholeSent red v.by_receiver
        by_largest (inl none) = absurd (none x among)
        by_largest (inr l) = by_reach (told.reach.reach l.y l.among)
          where
            covers : (k : ℕ) → k < red → k < (l.y).upper → ClaimsPlace l.y k
            covers k low below =
                let other = by k low in
                ⊎_elim (λ less. told.reach.grows other.report l.y other.among l.among less k
                other.claims below)
                (λ most. let same : other.report ≡ l.y = told.reports.once other.report
                l.y other.among
                l.among (omega (arith, most, l.most other.report other.among)) in
                subst (λ z. ClaimsPlace z k) same other.claims)
                (cases_lt (other.report).serial (l.y).serial)

            of : IsReportOf red l.y
            of = told.claims.told l.y l.among

            by_reach : ((l.y).upper ≡ red) ⊎ LeavesOut l.y → WholeSent red v.by_receiver
            by_reach (inl upper) = record {
              report = l.y;
              among = l.among;
              whole = record {
                claims = one-whole red (l.y).claims some
                    (subst (λ n. AreApart 0 n (l.y).claims) upper of.apart)
                    (λ k low. subst (λ lower. HasPlace lower (l.y).claims k) of.lower
                    (covers k low (omega (arith, low, upper))));
                lower = of.lower;
              };
            }
            by_reach (inr leaves) =
                absurd (leaves.unclaimed
                (covers leaves.place (omega (arith, leaves.below, of.upper)) leaves.below))

    handed-by : WholeSent red v.by_receiver → (kept : Option Receiving)
        → IfKept (ClaimsFilled v.by_receiver) kept → IfKept (λ r. r.length ≡ Some red) kept
        → IfKept (HasHandedUp red) kept
        → IfKept (λ r. r.handed_up ≡ true) kept
    handed-by y None filled known whole = tt
    handed-by y (Some r) filled known whole =
        whole.there known (λ k low. place-filled r.cells (y.report).claims k
        (subst (λ (claims : List Claim). HasPlace 0 claims k) (sym (y.whole).claims)
        (inl (omega arith, omega (arith, low)))) (filled y.report y.among))

    handed : (s : Sending) (c : PieceValue) (timer : Timer) (x : ReportValue) → v.sender ≡ Some s
        → s.phase ≡ sender_open c timer → IsIn (a_report x) v.by_receiver
        → is_all_claimed (with_claims x.lower x.claims s.claimed) ≡ true
        → IfKept (λ r. r.handed_up ≡ true) v.receiver
    handed s c timer x is waits among all =
        handed-by (ends s c timer x is waits among all) v.receiver told.claims.filled
        (told.asks.known (record { report = x; among = among })) told.hands.handed

-- ---- the block that the pieces spell

record HasPiece (said : List ContentValue) (k : ℕ) : Type 0 where
  piece : PieceValue
  among : IsIn (a_piece piece) said
  from : piece.offset ≤ k
  to : k < piece_stop piece

more-has : (xs ys : List ContentValue) (k : ℕ) → HasPiece xs k → HasPiece (xs ++ ys) k
more-has xs ys k has = record {
  piece = has.piece;
  among = among-left (a_piece has.piece) xs ys has.among;
  from = has.from;
  to = has.to;
}

later-has : (xs ys : List ContentValue) (k : ℕ) → HasPiece ys k → HasPiece (xs ++ ys) k
later-has xs ys k has = record {
  piece = has.piece;
  among = among-right (a_piece has.piece) xs ys has.among;
  from = has.from;
  to = has.to;
}

red-has : (size red serial : ℕ) (parts : List (ℕ × List ℕ)) (k : ℕ) → HasPart k parts
    → HasPiece (red_pieces (checkpoint_at size red serial 0) parts) k
unfolding red_pieces
red-has size red serial [] k has = absurd has
red-has size red serial (part ∷ []) k (inl within) =
    record {
      piece = checkpoint_at size red serial 0 part;
      among = inl refl;
      from = within.0;
      to = within.1;
    }
red-has size red serial (part ∷ []) k (inr later) = absurd later
red-has size red serial (part ∷ next ∷ parts) k (inl within) =
    record {
      piece = piece_at kinds.Red 0 0 part;
      among = inl refl;
      from = within.0;
      to = within.1;
    }
red-has size red serial (part ∷ next ∷ parts) k (inr later) =
    let rest = red-has size red serial (next ∷ parts) k later in
    record { piece = rest.piece; among = inr rest.among; from = rest.from; to = rest.to }

green-has : (parts : List (ℕ × List ℕ)) (k : ℕ) → HasPart k parts → HasPiece (green_pieces parts) k
unfolding green_pieces
green-has [] k has = absurd has
green-has (part ∷ []) k (inl within) =
    record {
      piece = piece_at kinds.GreenEndBlock 0 0 part;
      among = inl refl;
      from = within.0;
      to = within.1;
    }
green-has (part ∷ []) k (inr later) = absurd later
green-has (part ∷ next ∷ parts) k (inl within) =
    record {
      piece = piece_at kinds.Green 0 0 part;
      among = inl refl;
      from = within.0;
      to = within.1;
    }
green-has (part ∷ next ∷ parts) k (inr later) =
    let rest = green-has (next ∷ parts) k later in
    record { piece = rest.piece; among = inr rest.among; from = rest.from; to = rest.to }

begun-covers : (policy : PolicyValue) (n : ℕ) (block : List ℕ) (red now k : ℕ) → 1 ≤ policy.segment
    → red ≤ length block → k < length block → HasPiece (begin policy n block red now).out k
unfolding begin
begun-covers policy n block red now k cuts within low =
    ⊎_elim
    (λ below. more-has _ _ k (red-has (length block) red (first_serial n)
    (segments_of policy.segment 0 (take red block)) k
    (cut-has policy.segment (length (take red block)) 0 (take red block) k cuts (omega arith)
    (omega arith) (omega (arith, below, within, length-take red block)))))
    (λ above. later-has _ _ k (green-has (segments_of policy.segment red (drop red block)) k
    (cut-has policy.segment (length (drop red block)) red (drop red block) k cuts
    (omega arith) above (omega (arith, low, above, length-drop red block)))))
    (cases_lt k red)

holds-piece : (block : List ℕ) (red : ℕ) (said : List ContentValue) (k : ℕ)
    → AllByRecursion (IsContentOf block red) said → HasPiece said k
    → Holds said k (slice_index block k)
holds-piece block red said k all has =
    record { piece = has.piece; among = has.among; has = by_tests }
  where
    of : IsPieceOf block red has.piece
    of = all-among (IsContentOf block red) (a_piece has.piece) said all has.among

    by_tests : octet_in (has.piece).offset (has.piece).body k ≡ Some (slice_index block k)
    by_tests =
        let here = of.octets (k - (has.piece).offset) (omega (arith, has.from, has.to)) in
        let place : (has.piece).offset + (k - (has.piece).offset) ≡ k = omega (arith, has.from) in
        rw (
          le-leb (has.piece).offset k has.from,
          lt-ltb k ((has.piece).offset + length
              (has.piece).body) has.to,
        )
        (ap (λ (n : ℕ). Some n) (sym here.1 ∙ ap (slice_index block) place))

-- a red place's last piece ends the red part
last-of : (first : ℕ × List ℕ) (parts : List (ℕ × List ℕ))
    → (part : ℕ × List ℕ) × (last_segment (first ∷ parts) ≡ Some part)
unfolding last_segment
last-of first [] = (first, refl)
last-of first (next ∷ parts) = last-of next parts

some-last : (k : ℕ) (parts : List (ℕ × List ℕ)) → HasPart k parts
    → (part : ℕ × List ℕ) × (last_segment parts ≡ Some part)
some-last k [] has = absurd has
some-last k (first ∷ parts) has = last-of first parts

begun-sends : (policy : PolicyValue) (n : ℕ) (block : List ℕ) (red now : ℕ) (part : ℕ × List ℕ)
    → last_segment (segments_of policy.segment 0 (take red block)) ≡ Some part
    → IsIn (a_piece (checkpoint_at (length block) red (first_serial n) 0 part))
    (begin policy n block red now).out
unfolding begin
begun-sends policy n block red now part is = among-left _ _ _ (round-has _ _ part is)

-- a piece that ends the red part ends there
end-there : (red : ℕ) (colour : Bool) (kind_ends : Bool) (from to : ℕ) → colour ≡ true
    → kind_ends ≡ true → IsInPart red colour kind_ends from to → to ≡ red
end-there red true true from to is_red ends part = part
end-there red true false from to is_red ends part = absurd (cc)
end-there red false kind_ends from to is_red ends part = absurd (cc)

red_where_ends : (p : PieceValue) → ends_red_part p.kind ≡ true → is_red p.kind ≡ true
red_where_ends p ends = by_kind p.kind ends
  where
    by_kind : (kind : PieceKind) → ends_red_part kind ≡ true → is_red kind ≡ true
    by_kind kinds.Red is = refl
    by_kind kinds.RedCheckpoint is = refl
    by_kind kinds.RedEnd is = refl
    by_kind kinds.RedEndBlock is = refl
    by_kind kinds.Green is = is
    by_kind kinds.GreenEndBlock is = is

ends-at-red : (block : List ℕ) (red : ℕ) (said : List ContentValue)
    → AllByRecursion (IsContentOf block red) said → (end : ℕ) → Ends said end → end ≡ red
ends-at-red block red said all end ends =
    let of : IsPieceOf block red ends.piece =
    all-among (IsContentOf block red) (a_piece ends.piece) said all ends.among in
    sym ends.place ∙ end-there red (is_red (ends.piece).kind) (ends_red_part (ends.piece).kind)
    (ends.piece).offset (piece_stop ends.piece) (red_where_ends ends.piece ends.ends_there)
    ends.ends_there of.part

begun-ended : (policy : PolicyValue) (n : ℕ) (block : List ℕ) (red now : ℕ) → 1 ≤ policy.segment
    → red ≤ length block → AllByRecursion (IsContentOf block red)
    (begin policy n block red now).out
    → 1 ≤ red → Ends (begin policy n block red now).out red
begun-ended policy n block red now cuts within all some =
    let has = cut-has policy.segment (length (take red block)) 0 (take red block) 0 cuts
    (omega arith) (omega arith) (omega (arith, some, within, length-take red block)) in
    let (part, is) = some-last 0 (segments_of policy.segment 0 (take red block)) has in
    let q : PieceValue = checkpoint_at (length block) red (first_serial n) 0 part in
    let among = begun-sends policy n block red now part is in
    let last = begun-ends policy n block red now (checkpoint_at (length block) red
    (first_serial n) 0 part) cuts within among (checkpoint_at-asks (length block) red
    (first_serial n) 0 part) in
    record {
      piece = checkpoint_at (length block) red (first_serial n) 0 part;
      among =
          among;
      ends_there = last;
      place = ends-at-red block red _ all _ (record {
        piece = checkpoint_at (length block) red
            (first_serial n) 0 part;
        among = among;
        ends_there = last;
        place = refl;
      });
    }

more-held : (said out : List ContentValue) (k octet : ℕ) → Holds said k octet
    → Holds (said ++ out) k octet
more-held said out k octet h =
    record { piece = h.piece; among = among-left (a_piece h.piece) said out h.among; has = h.has }

more-ended : (said out : List ContentValue) (end : ℕ) → Ends said end → Ends (said ++ out) end
more-ended said out end h = record {
  piece = h.piece;
  among = among-left (a_piece h.piece) said out h.among;
  ends_there = h.ends_there;
  place = h.place;
}

-- what is said holds to the block
of-said : (block : List ℕ) (red : ℕ) (said : List ContentValue)
    → AllByRecursion (IsContentOf block red) said → (k octet : ℕ) → Holds said k octet
    → IsAt block k octet
of-said block red said all k octet h =
    let of : IsPieceOf block red h.piece =
    all-among (IsContentOf block red) (a_piece h.piece) said all h.among in
    octet-at block (h.piece).offset (h.piece).body of.octets k octet h.has

grows-block : (block : List ℕ) (red : ℕ) (v : View) (out : List ContentValue) (v' : View)
    → v'.by_sender ≡ v.by_sender ++ out → BlockFacts block red v' → SpellingFacts block red v
    → SpellingFacts block red v'
grows-block block red v out v' is facts was = record {
  holds = λ k octet h. of-said block red v'.by_sender facts.said k octet h;
  held = λ k low. subst (λ said. Holds said k (slice_index block k)) (sym is)
      (more-held v.by_sender out k (slice_index block k) (was.held k low));
  ends_there = λ end h. ends-at-red block red v'.by_sender facts.said end h;
  ended = λ some. subst (λ said. Ends said red) (sym is) (more-ended v.by_sender out red
      (was.ended some));
}

pub block-keep : KeepsUnder BlockFacts SpellingFacts
block-keep = record {
  begins = λ policy n block red now v cuts within unused facts.
      let is : v.by_sender ++ (begin policy n block red now).out
      ≡ (begin policy n block red now).out =
      ap (λ said. said ++ (begin policy n block red now).out) unused.by_sender in
      let all : AllByRecursion (IsContentOf block red) (begin policy n block red now).out =
      subst (AllByRecursion (IsContentOf block red)) is facts.said in
      record {
        holds = λ k octet h. of-said block red _ facts.said k octet h;
        held = λ k low. subst (λ said. Holds said k (slice_index block k)) (sym is)
            (holds-piece block red (begin policy n block red now).out k all
            (begun-covers policy n block red now k cuts within low));
        ends_there = λ end h. ends-at-red block red _ facts.said end h;
        ended = λ some. subst (λ said. Ends said red) (sym is)
            (begun-ended policy n block red now cuts within all some);
      };
  sender = λ block red policy v content now t among hears f f' was. grows-block block red v t.out
      _ refl f' was;
  receiver = λ block red policy place v content now t closed among hears f f' was.
      record {
        holds = was.holds;
        held = was.held;
        ends_there = was.ends_there;
        ended = was.ended;
      };
  sender_tick = λ block red policy now v s is f f' was. grows-block block red v
      (sender_tick policy s now).out _ refl f' was;
  receiver_tick = λ block red policy now v r is f f' was. record {
    holds = was.holds;
    held = was.held;
    ends_there = was.ends_there;
    ended = was.ended;
  };
  evicted = λ block red v r is f f' was. record {
    holds = was.holds;
    held = was.held;
    ends_there = was.ends_there;
    ended = was.ended;
  };
}
