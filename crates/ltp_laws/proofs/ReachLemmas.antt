-- How far reports reach; and once a whole one was sent, the session is nearly over.

use Rattle.std.proofs.Common.{◌≡◌, ℕ, zero, suc, ◌+◌, ◌<◌, ◌≤◌, true, false, ◌==◌, List, [], ◌∷◌}
use Rattle.std.proofs.Common.{◌++◌, length, take, Option, None, Some, is_some, ◌⊎◌, inl, inr, refl}
use Rattle.std.proofs.Common.{sym, ◌∙◌, ap, arith, subst, nat_lt}
use Rattle.std.specs.List.{AllByRecursion}
use Rattle.std.proofs.lemmas.Bool.{eqb-true, eq-eqb, ltb-true}
use Rattle.std.proofs.lemmas.List.{get_or-take, length-take}
use Rattle.ltp_segment.specs.declared.segment.Claim.{Claim}
use Rattle.ltp_segment.specs.Policy.{PolicyValue}
use Rattle.ltp_segment.specs.Values.{PieceValue, ReportValue, ContentValue, a_piece, a_report}
use Rattle.ltp_segment.specs.Values.{a_sender_cancel_ack}
use Rattle.ltp_session.specs.Cells.{cell, filled, length_after}
use Rattle.ltp_session.specs.Claims.{is_whole_claim}
use Rattle.ltp_session.specs.Receiver.{Receiving, receiver_open, Pending, Admission, fresh, piece_stop}
use Rattle.ltp_session.specs.Receiver.{bound_of, with_red, report_of, receiver_tick, is_cancelling}
use Rattle.ltp_session.specs.Receiver.{receiver_answers}
use Rattle.ltp_session.specs.Step.{StepValue, after, stays, keeps}
use Rattle.ltp_laws.specs.Checkpoints.{CheckpointFacts}
use Rattle.ltp_laws.specs.Claims.{HasPlace, AreApart, IsReportOf, ClaimsFilled, ClaimFacts}
use Rattle.ltp_laws.specs.Claims.{ClaimsPlace, IsWhole}
use Rattle.ltp_laws.specs.HandUps.{AllFilled}
use Rattle.ltp_laws.specs.Kept.{IfKept, IfKeeps, IsClosedOr}
use Rattle.ltp_laws.specs.Reach.{LeavesOut, ReachFacts, IsDone, WholeFacts}
use Rattle.ltp_laws.specs.Runs.{AskedFacts, KeepsUnder}
use Rattle.ltp_laws.specs.Serials.{pending_of, HasReported, NoReports, SerialFacts}
use Rattle.ltp_laws.specs.Steps.{Reports, ReceiverStep, idle, over, turns, again, fills}
use Rattle.ltp_laws.specs.Steps.{reports_on}
use Rattle.ltp_laws.specs.View.{View, closed_after, receiver_moves, IsIn}
use Rattle.cells.specs.Cells.{or_else}
use Rattle.cells.proofs.CellLemmas.{cell-filled}
use Rattle.ltp_laws.proofs.ClaimLemmas.{claims_from, grown, report_with, AreRuns, runs-from}
use Rattle.ltp_laws.proofs.ClaimLemmas.{apart-take, ends-low, ends-most, report_of-with}
use Rattle.ltp_laws.proofs.HandUpLemmas.{filled-reach, still-filled, gone-on, or_open}
use Rattle.ltp_laws.proofs.ListLemmas.{both_arms, by_arms}
use Rattle.ltp_laws.proofs.SerialLemmas.{among-append, among-right, Old, old-among, old-resent}
use Rattle.ltp_laws.proofs.SerialLemmas.{fresh-tells}
use Rattle.ltp_laws.proofs.StepLemmas.{Hears, hears-form, tick-form}
use Rattle.ltp_laws.proofs.WalkLemmas.{OnPiece, OnSegment, OnTick, walk-segment, walk-tick}
use Rattle.ltp_laws.proofs.WholeLemmas.{one-claim, place-filled}
use Rattle.ltp_laws.proofs.CompletionLemmas.{place-above}
use Rattle.ltp_segment.specs.Reports.{end_from}
use Rattle.ltp_segment.specs.Kinds.{ends_red_part}

-- ---- runs of cells

grown-here : (k : ℕ) (cs : List Claim) → HasPlace 0 (grown k cs) k
grown-here k [] = inl (omega arith, omega arith)
grown-here k (c ∷ cs) = both_arms (λ (ds : List Claim). HasPlace 0 ds k) (c.offset == suc k) _ _
    (inl (omega arith, omega arith)) (inl (omega arith, omega arith))

grown-there : (k : ℕ) (cs : List Claim) (i : ℕ) → HasPlace 0 cs i → HasPlace 0 (grown k cs) i
grown-there k [] i has = absurd has
grown-there k (c ∷ cs) i has = by_arms (λ (ds : List Claim). HasPlace 0 ds i) (c.offset == suc k) _
    _ (λ touches. joined (eqb-true c.offset (suc k) touches) has) (λ apart. inr has)
  where
    joined : c.offset ≡ suc k → HasPlace 0 (c ∷ cs) i
        → HasPlace 0 (record { offset = k; length = suc c.length } ∷ cs) i
    joined at (inl within) = inl (omega (arith, at, within.0), omega (arith, at, within.1))
    joined at (inr later) = inr later

claims-complete : (k : ℕ) (cells : List (Option ℕ)) (i : ℕ) → is_some (cell cells i) ≡ true
    → HasPlace 0 (claims_from k cells) (k + i)
unfolding claims_from
claims-complete k [] i some = absurd (cc)
claims-complete k (None ∷ cells) zero some = absurd (cc)
claims-complete k (None ∷ cells) (suc i) some =
    let rest = claims-complete (suc k) cells i some in
    subst (HasPlace 0 (claims_from (suc k) cells)) (omega arith) rest
claims-complete k (Some octet ∷ cells) zero some =
    subst (HasPlace 0 (grown k (claims_from (suc k) cells))) (omega arith)
    (grown-here k (claims_from (suc k) cells))
claims-complete k (Some octet ∷ cells) (suc i) some =
    let rest = claims-complete (suc k) cells i some in
    grown-there k (claims_from (suc k) cells) (k + suc i)
    (subst (HasPlace 0 (claims_from (suc k) cells)) (omega arith) rest)

-- the claims that are kept have all places below where they end
take-has : (n low most end : ℕ) (cs : List Claim) (k : ℕ) → AreApart low most cs → end ≤ low
    → HasPlace 0 cs k → k < end_from end (take n cs) → HasPlace 0 (take n cs) k
take-has zero low most end cs k apart below has before =
    absurd (omega (arith, place-above low most cs k apart has, before))
take-has (suc n) low most end [] k apart below has before = absurd has
take-has (suc n) low most end (c ∷ cs) k apart below (inl within) before = inl within
take-has (suc n) low most end (c ∷ cs) k apart below (inr has) before =
    inr (take-has n (c.offset + c.length + 1) most (c.offset + c.length) cs k apart.3
    (omega arith) has before)

-- a report claims all that is filled below its upper bound
report-has : (most serial checkpoint upper : ℕ) (cells : List (Option ℕ)) (k : ℕ)
    → is_some (cell cells k) ≡ true
    → k < (report_with most serial checkpoint upper (claims_from 0 (take upper cells))).upper
    → ClaimsPlace (report_with most serial checkpoint upper (claims_from 0 (take upper cells))) k
report-has most serial checkpoint upper cells k some =
    both_arms (λ (x : ReportValue). k < x.upper → ClaimsPlace x k)
    (nat_lt most (length (claims_from 0 (take upper cells)))) _ _
    (λ before.
    let within =
    ends-most 0 (0 + length (take upper cells)) 0 (take most (claims_from 0 (take upper cells)))
    (apart-take most 0 _ _ runs.apart) (omega arith) in
    take-has most 0 _ 0 (claims_from 0 (take upper cells)) k runs.apart (omega arith)
    (all (omega (arith, before, within, size))) before)
    (λ before. all before)
  where
    runs : AreRuns 0 (take upper cells) (claims_from 0 (take upper cells))
    runs = runs-from 0 (take upper cells)

    size : length (take upper cells) ≤ upper
    size = omega (arith, length-take upper cells)

    all : k < upper → HasPlace 0 (claims_from 0 (take upper cells)) k
    all low =
        let there : is_some (cell (take upper cells) k) ≡ true =
        ap is_some (get_or-take upper cells k None low) ∙ some in
        subst (HasPlace 0 (claims_from 0 (take upper cells))) (omega arith)
        (claims-complete 0 (take upper cells) k there)

-- a report that was cut leaves the place after its first claim out
leaves-cut : (most bound serial checkpoint : ℕ) (cs : List Claim) → 2 ≤ most → most < length cs
    → AreApart 0 bound cs
    → LeavesOut (record {
      serial = serial;
      checkpoint = checkpoint;
      upper = end_from 0
          (take most cs);
      lower = 0;
      claims = take most cs;
    })
leaves-cut zero bound serial checkpoint cs some more apart = absurd (omega arith)
leaves-cut (suc zero) bound serial checkpoint cs some more apart = absurd (omega arith)
leaves-cut (suc (suc m)) bound serial checkpoint [] some more apart = absurd (omega arith)
leaves-cut (suc (suc m)) bound serial checkpoint (c ∷ []) some more apart = absurd (omega arith)
leaves-cut (suc (suc m)) bound serial checkpoint (c ∷ d ∷ cs) some more apart =
    let further = ends-low (d.offset + d.length + 1) bound (d.offset + d.length) (take m cs)
    (apart-take m _ _ cs apart.3.3) (omega arith) in
    record {
      place = c.offset + c.length;
      below = omega (arith, apart.3.0, apart.3.1, further);
      unclaimed = unclaimed;
    }
  where
    unclaimed : HasPlace 0 (c ∷ d ∷ take m cs) (c.offset + c.length) → ⊥
    unclaimed (inl within) = omega (arith, within.1)
    unclaimed (inr later) =
        omega (
          arith,
          place-above (c.offset + c.length + 1) bound (d ∷ take m cs)
              (c.offset + c.length) (apart-take (suc m) _ _ (d ∷ cs) apart.3) later,
        )

report-reach : (most serial checkpoint upper : ℕ) (cells : List (Option ℕ)) → 2 ≤ most
    → ((report_with most serial checkpoint upper (claims_from 0 (take upper cells))).upper ≡ upper)
    ⊎ LeavesOut (report_with most serial checkpoint upper (claims_from 0 (take upper cells)))
report-reach most serial checkpoint upper cells some =
    by_arms (λ (x : ReportValue). (x.upper ≡ upper) ⊎ LeavesOut x)
    (nat_lt most (length (claims_from 0 (take upper cells)))) _ _
    (λ many. inr (leaves-cut most _ serial checkpoint (claims_from 0 (take upper cells)) some
    (ltb-true most _ many) (runs-from 0 (take upper cells)).apart))
    (λ few. inl refl)

-- ---- a whole report

pub all-some : (cells : List (Option ℕ)) → ((k : ℕ) → k < length cells → is_some (cell cells k) ≡ true)
    → AllByRecursion (λ c. is_some c ≡ true) cells
all-some [] has = tt
all-some (c ∷ cells) has =
    (has zero (omega arith), all-some cells (λ k low. has (suc k) (omega arith)))

whole-claims : (cells : List (Option ℕ)) → 1 ≤ length cells
    → ((k : ℕ) → k < length cells → is_some (cell cells k) ≡ true)
    → claims_from 0 cells ≡ record { offset = 0; length = length cells } ∷ []
whole-claims [] some has = absurd (omega arith)
whole-claims (None ∷ cells) some has = absurd (let first = has zero (omega arith) in cc)
whole-claims (Some octet ∷ cells) some has =
    one-claim 0 octet cells (all-some cells (λ k low. has (suc k) (omega arith)))

report-whole : (most serial checkpoint red : ℕ) (cells : List (Option ℕ)) → 1 ≤ most → 1 ≤ red
    → AllFilled red cells
    → IsWhole red (report_with most serial checkpoint red (claims_from 0 (take red cells)))
report-whole most serial checkpoint red cells room some all =
    subst (λ claims. IsWhole red (report_with most serial checkpoint red claims)) (sym one)
    (by_arms (IsWhole red) (nat_lt most 1) _ _
    (λ many. absurd (omega (arith, ltb-true most 1 many, room))) (λ few. record {
      claims = refl;
      lower = refl;
    }))
  where
    size : length (take red cells) ≡ red
    size = omega (arith, length-take red cells, filled-reach red cells all)

    one : claims_from 0 (take red cells) ≡ record { offset = 0; length = red } ∷ []
    one = whole-claims (take red cells) (omega (arith, size, some))
        (λ k low. ap is_some (get_or-take red cells k None (omega (arith, low, size))) ∙ all k
        (omega (arith, low, size)))
        ∙ ap (λ (n : ℕ). record { offset = 0; length = n } ∷ []) size

report_of-known : (red : ℕ) (r : Receiving) (q : PieceValue) → r.length ≡ Some red
    → report_of r q ≡ report_with 1024 r.serial q.checkpoint red (claims_from 0 (take red r.cells))
report_of-known red r q is =
    report_of-with r q ∙ ap (λ (k : Option ℕ). report_with 1024 r.serial q.checkpoint
    (bound_of k (piece_stop q)) (claims_from 0 (take (bound_of k (piece_stop q)) r.cells))) is

report_with-serial : (most serial checkpoint upper : ℕ) (claims : List Claim)
    → (report_with most serial checkpoint upper claims).serial ≡ serial
report_with-serial most serial checkpoint upper claims =
    both_arms (λ (x : ReportValue). x.serial ≡ serial) (nat_lt most (length claims)) _ _ refl refl

-- ---- a fresh report

record Made (said : List ContentValue) (content : ContentValue)
    (t : StepValue Receiving) : Type 0 where
  r : Receiving
  tells : HasReported said r
  claims : ClaimsFilled said r
  piece : PieceValue
  is_piece : content ≡ a_piece piece
  r' : Receiving
  next : t.next ≡ keeps r'
  reporting : Reports r piece r'
  out : t.out ≡ a_report (report_of (with_red r piece) piece) ∷ []

none-old : (said out : List ContentValue) → NoReports out → Old said out
none-old said out none x among = absurd (none x among)

step-made : (said : List ContentValue) (content : ContentValue) (r : Receiving)
    (t : StepValue Receiving) → HasReported said r → ClaimsFilled said r → ReceiverStep content r t
    → Old said t.out ⊎ Made said content t
step-made said content r t tells claims (idle next none) = inl (none-old said t.out none)
step-made said content r t tells claims (over next none) = inl (none-old said t.out none)
step-made said content r t tells claims (turns r' next turned none) =
    inl (none-old said t.out none)
step-made said content r t tells claims (again p timer pending next out) =
    inl (subst (Old said) (sym out) (old-resent said p.report (tells.pending p pending)))
step-made said content r t tells claims (fills q r' is_piece red_kind next filling none) =
    inl (none-old said t.out none)
step-made said content r t tells claims (reports_on q r' is_piece red_kind checkpoint next
    reporting out) =
    inr (record {
      r = r;
      tells = tells;
      claims = claims;
      piece = q;
      is_piece = is_piece;
      r' = r';
      next = next;
      reporting = reporting;
      out = out;
    })

hears-made : (block : List ℕ) (red : ℕ) (v : View) (place : Admission) (content : ContentValue)
    (t : StepValue Receiving) → place.closed ≡ v.closed → SerialFacts block red v
    → ClaimFacts block red v
    → Hears content place v.receiver t → Old v.by_receiver t.out ⊎ Made v.by_receiver content t
hears-made block red v place content t closed reports claims hears = by_kept v.receiver refl hears
  where
    by_kept : (kept : Option Receiving) → v.receiver ≡ kept → Hears content place kept t
        → Old v.by_receiver t.out ⊎ Made v.by_receiver content t
    by_kept (Some r) is hears =
        step-made v.by_receiver content r t (subst (IfKept (HasReported v.by_receiver)) is
        reports.kept) (subst (IfKept (ClaimsFilled v.by_receiver)) is claims.filled) hears.form
    by_kept None is hears = by_opening (hears.opens refl)
      where
        by_opening : (t.next ≡ stays) ⊎ (place.closed ≡ false)
            → Old v.by_receiver t.out ⊎ Made v.by_receiver content t
        by_opening (inr open_number) =
            let none = reports.unknown is (sym closed ∙ open_number) in
            step-made v.by_receiver content (fresh place.session) t
            (fresh-tells v.by_receiver place.session none)
            (λ x among. absurd (none x among)) hears.form
        by_opening (inl unchanged) = idly hears.form
          where
            idly : ReceiverStep content (fresh place.session) t
                → Old v.by_receiver t.out ⊎ Made v.by_receiver content t
            idly (idle next none) = inl (none-old v.by_receiver t.out none)
            idly (over next none) = inl (none-old v.by_receiver t.out none)
            idly (turns r' next turned none) = inl (none-old v.by_receiver t.out none)
            idly (again p timer pending next out) = absurd (cc)
            idly (fills q r' is_piece red_kind next filling none) =
                inl (none-old v.by_receiver t.out none)
            idly (reports_on q r' is_piece red_kind checkpoint next reporting out) = absurd (cc)

-- ---- reports grow, and reach the end or leave a place out

old-reach : (block : List ℕ) (red : ℕ) (v : View) (t : StepValue Receiving)
    → Old v.by_receiver t.out → ReachFacts block red v → ReachFacts block red (receiver_moves v t)
old-reach block red v t old facts = record {
  grows = λ x y of_x of_y less k has low. facts.grows x y
      (old-among v.by_receiver t.out old x of_x) (old-among v.by_receiver t.out old y of_y)
      less k has low;
  reach = λ x of_x. facts.reach x (old-among v.by_receiver t.out old x of_x);
}

made-known : (block : List ℕ) (red : ℕ) (v : View) (content : ContentValue)
    (t : StepValue Receiving) → CheckpointFacts block red (receiver_moves v t)
    → (made : Made v.by_receiver content t)
    → length_after (made.r).length (ends_red_part (made.piece).kind)
    (piece_stop made.piece) ≡ Some red
made-known block red v content t asks made =
    let new : IsIn (a_report (report_of (with_red made.r made.piece) made.piece))
    (v.by_receiver ++ t.out) =
    among-right _ v.by_receiver t.out (subst (IsIn _) (sym made.out) (inl refl)) in
    let kept : IfKept (λ r. r.length ≡ Some red) (after t.next v.receiver) =
    asks.known (record {
      report = report_of (with_red made.r made.piece) made.piece;
      among = new;
    }) in
    let now : (made.r').length ≡ Some red =
    subst (λ c. IfKept (λ r. r.length ≡ Some red) (after c v.receiver)) made.next kept in
    sym (made.reporting).known ∙ now

made-reach : (block : List ℕ) (red : ℕ) (v : View) (content : ContentValue)
    (t : StepValue Receiving) → ClaimFacts block red v
    → CheckpointFacts block red (receiver_moves v t) → Made v.by_receiver content t
    → ReachFacts block red v → ReachFacts block red (receiver_moves v t)
made-reach block red v content t claims asks made facts = record {
  grows = λ x y of_x of_y less k has low. grows x y (split x of_x) (split y of_y) less k has low;
  reach = λ x of_x. reach x (split x of_x);
}
  where
    r : Receiving
    r = made.r

    cells : List (Option ℕ)
    cells = filled (made.r).cells (made.piece).offset (made.piece).body

    new : ReportValue
    new = report_with 1024 (made.r).serial (made.piece).checkpoint red
        (claims_from 0 (take red (filled (made.r).cells (made.piece).offset (made.piece).body)))

    out : t.out ≡ a_report new ∷ []
    out = made.out ∙ ap (λ (x : ReportValue). a_report x ∷ [])
        (report_of-known red (with_red made.r made.piece) made.piece
        (made-known block red v content t asks made))

    serial : new.serial ≡ (made.r).serial
    serial = report_with-serial 1024 (made.r).serial (made.piece).checkpoint red _

    split : (x : ReportValue) → IsIn (a_report x) (v.by_receiver ++ t.out)
        → IsIn (a_report x) v.by_receiver ⊎ (new ≡ x)
    split x among = go (among-append (a_report x) v.by_receiver t.out among)
      where
        now : IsIn (a_report x) (a_report new ∷ []) → IsIn (a_report x) v.by_receiver ⊎ (new ≡ x)
        now (inl here) = let same : new ≡ x = cc (here) in inr same
        now (inr none) = absurd none

        go : IsIn (a_report x) v.by_receiver ⊎ IsIn (a_report x) t.out
            → IsIn (a_report x) v.by_receiver ⊎ (new ≡ x)
        go (inl before) = inl before
        go (inr said) = now (subst (IsIn (a_report x)) out said)

    below : (x : ReportValue) → IsIn (a_report x) v.by_receiver → x.serial < (made.r).serial
    below x among = (made.tells).below x among

    is_filled : (x : ReportValue) → IsIn (a_report x) v.by_receiver → (k : ℕ) → ClaimsPlace x k
        → is_some (cell (made.r).cells k) ≡ true
    is_filled x among k has =
        place-filled (made.r).cells x.claims k (subst (λ lower. HasPlace lower x.claims k)
        (claims.told x among).lower has) (made.claims x among)

    grows : (x y : ReportValue) → IsIn (a_report x) v.by_receiver ⊎ (new ≡ x)
        → IsIn (a_report y) v.by_receiver ⊎ (new ≡ y) → x.serial < y.serial
        → (k : ℕ) → ClaimsPlace x k → k < y.upper → ClaimsPlace y k
    grows x y (inl of_x) (inl of_y) less k has low = facts.grows x y of_x of_y less k has low
    grows x y (inr is_x) (inl of_y) less k has low =
        absurd (omega (arith, less, below y of_y, ap (λ (z : ReportValue). z.serial) is_x, serial))
    grows x y (inr is_x) (inr is_y) less k has low =
        absurd (omega (
          arith,
          less,
          ap (λ (z : ReportValue). z.serial) is_x,
          ap
              (λ (z : ReportValue). z.serial) is_y,
        ))
    grows x y (inl of_x) (inr is_y) less k has low =
        subst (λ z. ClaimsPlace z k) is_y
        (report-has 1024 (made.r).serial (made.piece).checkpoint red cells k
        (rw (cell-filled (made.r).cells (made.piece).offset (made.piece).body k)
        (still_some (cell (made.r).cells k) _ (is_filled x of_x k has)))
        (subst (λ (z : ReportValue). k < z.upper) (sym is_y) low))
      where
        still_some : (first second : Option ℕ) → is_some first ≡ true
            → is_some (or_else first second) ≡ true
        still_some None second is = absurd (cc)
        still_some (Some x) second is = refl

    reach : (x : ReportValue) → IsIn (a_report x) v.by_receiver ⊎ (new ≡ x)
        → (x.upper ≡ red) ⊎ LeavesOut x
    reach x (inl of_x) = facts.reach x of_x
    reach x (inr is_x) = subst (λ (z : ReportValue). (z.upper ≡ red) ⊎ LeavesOut z) is_x
        (report-reach 1024 (made.r).serial (made.piece).checkpoint red cells (omega arith))

moves-reach : (block : List ℕ) (red : ℕ) (v : View) (content : ContentValue)
    (t : StepValue Receiving) → ClaimFacts block red v
    → CheckpointFacts block red (receiver_moves v t)
    → Old v.by_receiver t.out ⊎ Made v.by_receiver content t → ReachFacts block red v
    → ReachFacts block red (receiver_moves v t)
moves-reach block red v content t claims asks (inl old) facts = old-reach block red v t old facts
moves-reach block red v content t claims asks (inr made) facts =
    made-reach block red v content t claims asks made facts

pub reach-keep : KeepsUnder AskedFacts ReachFacts
reach-keep = record {
  begins = λ policy n block red now v cuts within unused _. record {
    grows = λ x y of_x of_y less k has low. absurd
        (subst (IsIn (a_report x)) unused.by_receiver of_x);
    reach = λ x of_x. absurd (subst (IsIn (a_report x)) unused.by_receiver of_x);
  };
  sender = λ block red policy v content now t among hears f f' facts. record {
    grows = facts.grows;
    reach = facts.reach;
  };
  receiver = λ block red policy place v content now t closed among hears f f' facts.
      moves-reach block red v content t f.0.1 f'.1 (hears-made block red v place content t closed
      f.0.0.1 f.0.1 (hears-form policy place v.receiver content now t hears)) facts;
  sender_tick = λ block red policy now v s is f f' facts. record {
    grows = facts.grows;
    reach = facts.reach;
  };
  receiver_tick = λ block red policy now v r is f f' facts.
      moves-reach block red v a_sender_cancel_ack (receiver_tick policy r now) f.0.1 f'.1
      (step-made v.by_receiver a_sender_cancel_ack r (receiver_tick policy r now)
      (subst (IfKept (HasReported v.by_receiver)) is f.0.0.1.kept)
      (subst (IfKept (ClaimsFilled v.by_receiver)) is f.0.1.filled)
      (tick-form a_sender_cancel_ack policy now r)) facts;
  evicted = λ block red v r is f f' facts. record { grows = facts.grows; reach = facts.reach };
}

-- ---- once a whole report was sent

abbrev NextDone : ℕ → StepValue Receiving → Type 0
NextDone red t = IfKeeps (IsDone red) t.next

piece-done : (policy : PolicyValue) (red : ℕ) (r : Receiving) (q : PieceValue) (now : ℕ)
    → IsDone red r → IsWhole red (report_of (with_red r q) q)
    → OnPiece policy r q now (NextDone red)
piece-done policy red r q now done whole = record {
  outside = λ note. tt;
  miscoloured = inl refl;
  greener = λ _. done;
  filled =
      λ _ _. done;
  serials_out = λ _ _. inl refl;
  reported = λ _ _ _. inr (_, refl, whole);
}

whole-claimed : (red : ℕ) (known : Option ℕ) (claims : List Claim) → known ≡ Some red
    → claims ≡ record { offset = 0; length = red } ∷ [] → is_whole_claim known claims ≡ true
whole-claimed red known claims is one = rw (is, one) (eq-eqb red red refl)

-- what is waited for is whole, where the receiver is done and isn't cancelling
waits-whole : (red : ℕ) (r : Receiving) (pending : Pending)
    → r.phase ≡ receiver_open (Some pending) → IsDone red r → IsWhole red pending.report
waits-whole red r pending is (inl rejecting) =
    absurd (let h = ap is_cancelling is in cc (rejecting))
waits-whole red r pending is (inr (p, waits, whole)) =
    let same : p ≡ pending = cc (sym waits ∙ ap pending_of is) in
    subst (λ (w : Pending). IsWhole red w.report) same whole

segment-done : (policy : PolicyValue) (place : Admission) (red : ℕ) (r : Receiving)
    (content : ContentValue) (now : ℕ) → r.length ≡ Some red
    → ((q : PieceValue) → IsWhole red (report_of (with_red r q) q)) → IsDone red r
    → OnSegment policy place (Some r) content now (NextDone red)
segment-done policy place red r content now known whole done = record {
  rests = λ note. tt;
  refused_service = λ q _ _. tt;
  echoed = λ _. tt;
  green_alone =
      λ q _ _. tt;
  opened = λ q _ is _. absurd (cc);
  came = λ q s _ is _. subst (λ k. OnPiece policy k q now (NextDone red)) (one s is)
      (piece-done policy red r q now done (whole q));
  unmoved = λ s is. subst (IsDone red) (one s is) done;
  closed_whole = λ s p serial _ _ _ _ _. tt;
  dropped = λ s p serial is waits _ part. absurd (
      let here : r.phase ≡ receiver_open (Some p) =
      ap (λ (k : Receiving). k.phase) (one s is) ∙ waits in
      let all = whole-claimed red s.length (p.report).claims (ap (λ (k : Receiving). k.length)
      (sym (one s is)) ∙ known) (waits-whole red r p here done).claims in
      cc (all));
  called_off = λ s reason _. tt;
  answered_off = λ s _ _. tt;
}
  where
    one : (s : Receiving) → Some r ≡ Some s → r ≡ s
    one s is = cc

tick-done : (policy : PolicyValue) (red now : ℕ) (r : Receiving) → IsDone red r
    → OnTick policy r now (NextDone red)
tick-done policy red now r done = record {
  early = tt;
  resent = λ p is. inr (_, refl, waits-whole red r p is done);
  timed_out_handed =
      λ p _ _. tt;
  timed_out = λ p _ _. inl refl;
  recancelled =
      λ reason timer _. inl refl;
  let_go = λ reason timer _. tt;
}

some-place : (red : ℕ) (x : ReportValue) → IsReportOf red x → IsWhole red x → 1 ≤ red
some-place red x of whole =
    let apart : AreApart 0 x.upper (record { offset = 0; length = red } ∷ []) =
    subst (AreApart 0 x.upper) whole.claims of.apart in apart.1

-- where a whole report was sent, a kept receiver has all, and a fresh report is whole
fresh-whole : (red : ℕ) (said : List ContentValue) (r : Receiving) (x : ReportValue)
    → IsIn (a_report x) said → IsReportOf red x → IsWhole red x → ClaimsFilled said r
    → r.length ≡ Some red
    → (q : PieceValue) → IsWhole red (report_of (with_red r q) q)
fresh-whole red said r x among of whole claims known q =
    subst (IsWhole red) (sym (report_of-known red (with_red r q) q (still-known r.length known)))
    (report-whole 1024 r.serial q.checkpoint red (filled r.cells q.offset q.body) (omega arith)
    (some-place red x of whole) (still-filled red r.cells q.offset q.body all))
  where
    still-known : (known : Option ℕ) → known ≡ Some red → length_after known (ends_red_part q.kind)
        (piece_stop q) ≡ Some red
    still-known None is = absurd (cc)
    still-known (Some end) is = is

    all : AllFilled red r.cells
    all k low = place-filled r.cells x.claims k
        (subst (λ (claims : List Claim). HasPlace 0 claims k) (sym whole.claims)
        (inl (omega arith, omega (arith, low)))) (claims x among)

moves-whole : (block : List ℕ) (red : ℕ) (v : View) (content : ContentValue)
    (t : StepValue Receiving) → (v.receiver ≡ None → (t.next ≡ stays) ⊎ (v.closed ≡ false))
    → ((r : Receiving) → v.receiver ≡ Some r → r.length ≡ Some red →
    ((q : PieceValue) → IsWhole red (report_of (with_red r q) q)) → IsDone red r
    → IfKeeps (IsDone red) t.next)
    → ClaimFacts block red v → CheckpointFacts block red v
    → Old v.by_receiver t.out ⊎ Made v.by_receiver content t → WholeFacts block red v
    → WholeFacts block red (receiver_moves v t)
moves-whole block red v content t opens still claims asks made facts =
    record {
      whole = λ x among whole. go x whole
          (among-append (a_report x) v.by_receiver t.out among);
    }
  where
    before : (x : ReportValue) → IsWhole red x → IsIn (a_report x) v.by_receiver
        → IsClosedOr (IsDone red) (after t.next v.receiver) (closed_after t.next v.closed)
    before x whole among =
        gone-on (IsDone red) v.closed t v.receiver opens
        (λ r is done.
        let known : r.length ≡ Some red =
        subst (IfKept (λ (s : Receiving). s.length ≡ Some red)) is
        (asks.known (record { report = x; among = among })) in
        still r is known (fresh-whole red v.by_receiver r x among (claims.told x among) whole
        (subst (IfKept (ClaimsFilled v.by_receiver)) is claims.filled) known) done)
        (facts.whole x among whole) t.next refl

    now : (x : ReportValue) → IsWhole red x → IsIn (a_report x) t.out
        → Old v.by_receiver t.out ⊎ Made v.by_receiver content t
        → IsClosedOr (IsDone red) (after t.next v.receiver) (closed_after t.next v.closed)
    now x whole among (inl old) = before x whole (old x among)
    now x whole among (inr made) =
        subst (λ c. IsClosedOr (IsDone red) (after c v.receiver) (closed_after c v.closed))
        (sym made.next) (by_here (subst (IsIn (a_report x)) made.out among))
      where
        by_here : IsIn (a_report x)
            (a_report (report_of (with_red made.r made.piece) made.piece) ∷ [])
            → IsDone red made.r'
        by_here (inl here) = let same : report_of (with_red made.r made.piece) made.piece ≡ x =
            cc (here) in inr (_, (made.reporting).pending, subst (IsWhole red) (sym same) whole)
        by_here (inr none) = absurd none

    go : (x : ReportValue) → IsWhole red x → IsIn (a_report x) v.by_receiver ⊎ IsIn (a_report x)
        t.out → IsClosedOr (IsDone red) (after t.next v.receiver) (closed_after t.next v.closed)
    go x whole (inl old) = before x whole old
    go x whole (inr said) = now x whole said made

pub whole-keep : KeepsUnder AskedFacts WholeFacts
whole-keep = record {
  begins = λ policy n block red now v cuts within unused _. record {
    whole = λ x among whole.
        absurd (subst (IsIn (a_report x)) unused.by_receiver among);
  };
  sender = λ block red policy v content now t among hears f f' facts.
      record { whole = facts.whole };
  receiver = λ block red policy place v content now t closed among hears f f' facts.
      let h = hears-form policy place v.receiver content now t hears in
      moves-whole block red v content t (λ none. or_open place.closed v.closed closed
      (h.opens none))
      (λ r is known whole done. walk-segment policy place (Some r) content now t (NextDone red)
      (subst (λ kept. receiver_answers policy place kept content now ≡ Some t) is hears)
      (segment-done policy place red r content now known whole done))
      f.0.1 f.1 (hears-made block red v place content t closed f.0.0.1 f.0.1 h) facts;
  sender_tick = λ block red policy now v s is f f' facts. record { whole = facts.whole };
  receiver_tick = λ block red policy now v r is f f' facts.
      moves-whole block red v a_sender_cancel_ack (receiver_tick policy r now)
      (λ none. absurd (cc))
      (λ r2 is2 known whole done. let same : r2 ≡ r = cc (sym is2 ∙ is) in
      walk-tick policy r now (NextDone red) (tick-done policy red now r
      (subst (IsDone red) same done)))
      f.0.1 f.1
      (step-made v.by_receiver a_sender_cancel_ack r (receiver_tick policy r now)
      (subst (IfKept (HasReported v.by_receiver)) is f.0.0.1.kept)
      (subst (IfKept (ClaimsFilled v.by_receiver)) is f.0.1.filled)
      (tick-form a_sender_cancel_ack policy now r)) facts;
  evicted = λ block red v r is f f' facts. record { whole = λ x among whole. refl };
}
