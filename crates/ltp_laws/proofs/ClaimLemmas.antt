-- Reports claim what is filled, in order.

use Rattle.std.proofs.Common.{◌≡◌, ◌≢◌, ℕ, zero, suc, ◌+◌, ◌<◌, ◌≤◌, true, false, ◌==◌, List, []}
use Rattle.std.proofs.Common.{◌∷◌, ◌++◌, length, take, Option, None, Some, is_some, ◌⊎◌, inl, inr}
use Rattle.std.proofs.Common.{refl, sym, ◌∙◌, ap, arith, subst, nat_lt}
use Rattle.std.specs.List.{AllByRecursion}
use Rattle.std.proofs.lemmas.Bool.{eqb-true, eqb-false}
use Rattle.std.proofs.lemmas.List.{get_or-take, length-take}
use Rattle.ltp_segment.specs.declared.segment.Claim.{Claim}
use Rattle.ltp_segment.specs.Kinds.{ends_red_part}
use Rattle.ltp_segment.specs.Values.{PieceValue, ReportValue, ContentValue, a_report}
use Rattle.ltp_segment.specs.Values.{a_sender_cancel_ack}
use Rattle.ltp_session.specs.Cells.{cell, filled, filled_places}
use Rattle.ltp_session.specs.Claims.{report_within, claim_of, claims_below, report_on}
use Rattle.ltp_session.specs.Receiver.{Receiving, Admission, fresh, piece_stop, bound_of, with_red}
use Rattle.ltp_session.specs.Receiver.{report_of, receiver_tick}
use Rattle.ltp_session.specs.Step.{StepValue, Change, after, stays, keeps, ends}
use Rattle.ltp_laws.specs.Blocks.{IfKnown, IsInPart, IsPieceOf, IsContentOf, IsReceiverOf}
use Rattle.ltp_laws.specs.Blocks.{BlockFacts}
use Rattle.ltp_laws.specs.Claims.{AreApart, IsFilled, IsReportOf, ClaimsFilled, ClaimFacts}
use Rattle.ltp_laws.specs.Kept.{IfKept, IfKeeps}
use Rattle.ltp_laws.specs.Runs.{KeepsUnder, both_facts}
use Rattle.ltp_laws.specs.Serials.{HasReported, NoReports, SerialFacts}
use Rattle.ltp_laws.specs.Steps.{ReceiverStep, idle, over, turns, again, fills, reports_on}
use Rattle.ltp_laws.specs.View.{View, receiver_moves, IsIn}
use Rattle.cells.specs.Cells.{or_else}
use Rattle.cells.proofs.CellLemmas.{cell-filled}
use Rattle.ltp_laws.proofs.ListLemmas.{both_arms, by_arms}
use Rattle.ltp_laws.proofs.ReceiverLemmas.{with_red-is, end-within, fresh-is}
use Rattle.ltp_laws.proofs.SerialLemmas.{among-append, Old, old-among, old-resent, fresh-tells}
use Rattle.ltp_laws.proofs.SerialLemmas.{all-among}
use Rattle.ltp_laws.proofs.StepLemmas.{met, Hears, hears-form, tick-form}
use Rattle.ltp_segment.specs.Reports.{end_from}
use Rattle.std.specs.Prelude.{◌-◌, ◌<◌, Bool, map, if◌then◌else◌}
use Rattle.std.proofs.lemmas.Bool.{eq-eqb, ne_eqb}
use Rattle.std.proofs.lemmas.Bool.Decides.{nat_tests}
use Rattle.spans.specs.declared.range.Run.{Run}
use Rattle.spans.specs.Places.{grown_by, runs_from, runs_of}

-- ---- claims of cells

-- the claims once place k before them is filled too
abbrev pub grown : ℕ → List Claim → List Claim
grown k [] = record { offset = k; length = 1 } ∷ []
grown k (c ∷ cs) =
    if c.offset == suc k
    then record { offset = k; length = suc c.length } ∷ cs
    else record { offset = k; length = 1 } ∷ (c ∷ cs)

-- the claims of cells, of which the first is place k
unfoldable pub claims_from : ℕ → List (Option ℕ) → List Claim
claims_from k [] = []
claims_from k (None ∷ cells) = claims_from (suc k) cells
claims_from k (Some octet ∷ cells) = grown k (claims_from (suc k) cells)

-- each of these ranges has a place
abbrev HavePlaces : List Run → Type 0
HavePlaces runs = AllByRecursion (λ run. run.from < run.to) runs

grown_by-some : (k : ℕ) (runs : List Run) → HavePlaces runs → HavePlaces (grown_by k runs)
grown_by-some k [] some = (omega arith, tt)
grown_by-some k (r ∷ rs) some =
    by_arms HavePlaces (r.from == k + 1) _ _
    (λ touches. let at : r.from ≡ k + 1 = eqb-true r.from (k + 1) touches in
    (omega (arith, at, some.0), some.1))
    (λ away. (omega arith, some))

runs_from-some : (k : ℕ) (places : List Bool) → HavePlaces (runs_from k places)
runs_from-some k [] = tt
runs_from-some k (false ∷ places) = runs_from-some (k + 1) places
runs_from-some k (true ∷ places) =
    grown_by-some k (runs_from (k + 1) places) (runs_from-some (k + 1) places)

grown_by-grown : (k : ℕ) (runs : List Run) → HavePlaces runs → map claim_of (grown_by k runs)
    ≡ grown k (map claim_of runs)
grown_by-grown k [] some = let one : k + 1 - k ≡ 1 = omega arith in rw one refl
grown_by-grown k (r ∷ rs) some = by_test (r.from == suc k) refl
  where
    by_test : (touches : Bool) → (r.from == suc k) ≡ touches
        → map claim_of (if r.from == k + 1 then record { from = k; to = r.to } ∷ rs
        else record { from = k; to = k + 1 } ∷ (r ∷ rs))
        ≡ (if touches then record { offset = k; length = suc (r.to - r.from) } ∷ map claim_of rs
        else record { offset = k; length = 1 } ∷ map claim_of (r ∷ rs))
    by_test true touches =
        let at : r.from ≡ suc k = eqb-true r.from (suc k) touches in
        let same : (r.from == k + 1) ≡ true = eq-eqb r.from (k + 1) (omega (arith, at)) in
        let long : r.to - k ≡ suc (r.to - r.from) = omega (arith, at, some.0) in
        rw (same, long) refl
    by_test false away =
        let apart : r.from ≢ suc k = eqb-false r.from (suc k) away in
        let differs : (r.from == k + 1) ≡ false =
        ne_eqb r.from (k + 1) (λ h. apart (omega (arith, h))) in
        let one : k + 1 - k ≡ 1 = omega arith in
        rw (differs, one) refl

runs_from-claims : (k : ℕ) (cells : List (Option ℕ))
    → map claim_of (runs_from k (filled_places cells)) ≡ claims_from k cells
unfolding claims_from
runs_from-claims k [] = refl
runs_from-claims k (None ∷ cells) =
    subst (λ n. map claim_of (runs_from n (filled_places cells)) ≡ claims_from (suc k) cells)
    (omega arith) (runs_from-claims (suc k) cells)
runs_from-claims k (Some octet ∷ cells) =
    let rest : map claim_of (runs_from (k + 1) (filled_places cells)) ≡ claims_from (suc k) cells =
    subst (λ n. map claim_of (runs_from n (filled_places cells)) ≡ claims_from (suc k) cells)
    (omega arith) (runs_from-claims (suc k) cells) in
    grown_by-grown k (runs_from (k + 1) (filled_places cells)) (runs_from-some (k + 1)
    (filled_places cells)) ∙ ap (grown k) rest

take-filled : (n : ℕ) (cells : List (Option ℕ)) → take n (filled_places cells) ≡ filled_places
    (take n cells)
take-filled zero cells = refl
take-filled (suc n) [] = refl
take-filled (suc n) (c ∷ cells) =
    ap (λ (places : List Bool). is_some c ∷ places) (take-filled n cells)

pub claims_below-from : (upper : ℕ) (cells : List (Option ℕ))
    → claims_below upper cells ≡ claims_from 0 (take upper cells)
unfolding claims_below runs_of
claims_below-from upper cells = ap (λ (places : List Bool). map claim_of (runs_from 0 places))
    (take-filled upper cells) ∙ runs_from-claims 0 (take upper cells)

abbrev report_from : ℕ → ℕ → ℕ → List Claim → ReportValue
report_from serial checkpoint upper claims =
    record { serial = serial; checkpoint = checkpoint; upper = upper; lower = 0; claims = claims }

-- a report that makes all claims, or is cut after the last of so many
abbrev pub report_with : ℕ → ℕ → ℕ → ℕ → List Claim → ReportValue
report_with most serial checkpoint upper claims =
    if nat_lt most (length claims)
    then record {
      serial = serial;
      checkpoint = checkpoint;
      upper = end_from 0 (take most claims);
      lower = 0;
      claims = take most claims;
    }
    else record {
      serial = serial;
      checkpoint = checkpoint;
      upper = upper;
      lower = 0;
      claims = claims;
    }

take-few : (n : ℕ) (cs : List Claim) → length cs ≤ n → take n cs ≡ cs
take-few zero [] few = refl
take-few zero (c ∷ cs) few = absurd (omega arith)
take-few (suc n) [] few = refl
take-few (suc n) (c ∷ cs) few = ap (λ (ds : List Claim). c ∷ ds) (take-few n cs (omega arith))

report_within-with : (most serial checkpoint upper : ℕ) (claims : List Claim)
    → report_within most serial checkpoint upper claims ≡ report_with most serial
    checkpoint upper claims
report_within-with most serial checkpoint upper claims = by_test (nat_lt most (length claims)) refl
  where
    by_test : (many : Bool) → nat_lt most (length claims) ≡ many
        → report_from serial checkpoint (if many then end_from 0 (take most claims) else upper)
        (take most claims)
        ≡ (if many then report_from serial checkpoint (end_from 0 (take most claims))
        (take most claims) else report_from serial checkpoint upper claims)
    by_test true many = refl
    by_test false few = let all : take most claims ≡ claims =
        take-few most claims (grind (arith, nat_tests)) in rw all refl

-- the report of a checkpoint
pub report_of-with : (r : Receiving) (q : PieceValue)
    → report_of r q ≡ report_with 1024 r.serial q.checkpoint (bound_of r.length (piece_stop q))
    (claims_from 0 (take (bound_of r.length (piece_stop q)) r.cells))
unfolding report_of report_on
report_of-with r q =
    let upper : ℕ = bound_of r.length (piece_stop q) in
    report_within-with 1024 r.serial q.checkpoint upper (claims_below upper r.cells)
    ∙ ap (report_with 1024 r.serial q.checkpoint upper) (claims_below-from upper r.cells)

-- every place of a claim is filled, in cells of which the first is place k
abbrev pub IsFilledFrom : ℕ → List (Option ℕ) → Claim → Type 0
IsFilledFrom k cells c = (i : ℕ) → c.offset ≤ k + i → k + i < c.offset + c.length
    → is_some (cell cells i) ≡ true

pub record AreRuns (k : ℕ) (cells : List (Option ℕ)) (claims : List Claim) : Type 0 where
  pub apart : AreApart k (k + length cells) claims
  pub filled : AllByRecursion (IsFilledFrom k cells) claims

apart-low : (low lower most more : ℕ) (cs : List Claim) → lower ≤ low → most ≤ more
    → AreApart low most cs → AreApart lower more cs
apart-low low lower most more [] below above is = tt
apart-low low lower most more (c ∷ cs) below above is = (
  omega (arith, is.0),
  is.1,
  omega (arith, is.2),
  apart-low (c.offset + c.length + 1)
      (c.offset + c.length + 1) most more cs (omega arith) above is.3,
)

-- one more place in front, before all claims
filled-next : (k low : ℕ) (first : Option ℕ) (cells : List (Option ℕ)) (most : ℕ) (cs : List Claim)
    → suc k ≤ low → AreApart low most cs
    → AllByRecursion (IsFilledFrom (suc k) cells) cs
    → AllByRecursion (IsFilledFrom k (first ∷ cells)) cs
filled-next k low first cells most [] above apart all = tt
filled-next k low first cells most (c ∷ cs) above apart all = (
  here,
  filled-next k (c.offset + c.length + 1) first cells most cs (omega (arith, apart.0))
      apart.3 all.1,
)
  where
    here : IsFilledFrom k (first ∷ cells) c
    here zero from to = absurd (omega (arith, apart.0, from))
    here (suc i) from to = all.0 i (omega (arith, from)) (omega (arith, to))

runs-grown : (k octet : ℕ) (cells : List (Option ℕ)) (cs : List Claim) → AreRuns (suc k) cells cs
    → AreRuns k (Some octet ∷ cells) (grown k cs)
runs-grown k octet cells [] runs = record {
  apart = (omega arith, omega arith, omega arith, tt);
  filled = (here, tt);
}
  where
    here : IsFilledFrom k (Some octet ∷ cells) (record { offset = k; length = 1 })
    here zero from to = refl
    here (suc i) from to = absurd (omega arith)
runs-grown k octet cells (c ∷ cs) runs =
    by_arms (AreRuns k (Some octet ∷ cells)) (c.offset == suc k) _ _
    (λ touches.
    let at : c.offset ≡ suc k = eqb-true c.offset (suc k) touches in
    record {
      apart = (
        omega arith,
        omega arith,
        omega (arith, at, runs.apart.2),
        apart-low _ _ _ _ cs
            (omega (arith, at)) (omega arith) runs.apart.3,
      );
      filled = (
        longer at,
        (filled-next k (suc k) (Some octet) cells _ (c ∷ cs)
            (omega arith) runs.apart runs.filled).1,
      );
    })
    (λ away.
    let gap : c.offset ≢ suc k = eqb-false c.offset (suc k) away in
    record {
      apart = (
        omega arith,
        omega arith,
        omega arith,
        (
          omega (arith, gap, runs.apart.0),
          runs.apart.1,
          omega (arith, runs.apart.2),
          apart-low _
              _ _ _ cs (omega arith) (omega arith) runs.apart.3,
        ),
      );
      filled = (
        one_place,
        filled-next k (suc k) (Some octet) cells _ (c ∷ cs)
            (omega arith) runs.apart runs.filled,
      );
    })
  where
    one_place : IsFilledFrom k (Some octet ∷ cells) (record { offset = k; length = 1 })
    one_place zero from to = refl
    one_place (suc i) from to = absurd (omega arith)

    longer : c.offset ≡ suc k → IsFilledFrom k (Some octet ∷ cells)
        (record { offset = k; length = suc c.length })
    longer at zero from to = refl
    longer at (suc i) from to = runs.filled.0 i (omega (arith, at)) (omega (arith, at, to))

pub runs-from : (k : ℕ) (cells : List (Option ℕ)) → AreRuns k cells (claims_from k cells)
unfolding claims_from
runs-from k [] = record { apart = tt; filled = tt }
runs-from k (None ∷ cells) =
    let rest = runs-from (suc k) cells in
    record {
      apart = apart-low (suc k) k _ _ (claims_from (suc k) cells) (omega arith)
          (omega arith) rest.apart;
      filled = filled-next k (suc k) None cells _ (claims_from (suc k) cells) (omega arith)
          rest.apart rest.filled;
    }
runs-from k (Some octet ∷ cells) = runs-grown k octet cells (claims_from (suc k) cells)
    (runs-from (suc k) cells)

-- ---- the report of a checkpoint

filled-take : (upper : ℕ) (cells : List (Option ℕ)) (cs : List Claim)
    → AreApart 0 (0 + length (take upper cells)) cs
    → AllByRecursion (IsFilledFrom 0 (take upper cells)) cs → AllByRecursion (IsFilled cells) cs
filled-take upper cells cs apart all = go 0 cs apart all
  where
    go : (low : ℕ) (cs : List Claim) → AreApart low (0 + length (take upper cells)) cs
        → AllByRecursion (IsFilledFrom 0 (take upper cells)) cs
        → AllByRecursion (IsFilled cells) cs
    go low [] apart all = tt
    go low (c ∷ cs) apart all = (here, go (c.offset + c.length + 1) cs apart.3 all.1)
      where
        here : IsFilled cells c
        here k from to =
            let size = length-take upper cells in
            let within : k < upper = omega (arith, size, apart.2, to) in
            let taken : is_some (cell (take upper cells) k) ≡ true =
            all.0 k (omega (arith, from)) (omega (arith, to)) in
            ap is_some (sym (get_or-take upper cells k None within)) ∙ taken

pub apart-take : (n low most : ℕ) (cs : List Claim) → AreApart low most cs
    → AreApart low most (take n cs)
apart-take zero low most cs is = tt
apart-take (suc n) low most [] is = tt
apart-take (suc n) low most (c ∷ cs) is =
    (is.0, is.1, is.2, apart-take n (c.offset + c.length + 1) most cs is.3)

all-take : (P : Claim → Type 0) (n : ℕ) (cs : List Claim) → AllByRecursion P cs
    → AllByRecursion P (take n cs)
all-take P zero cs all = tt
all-take P (suc n) [] all = tt
all-take P (suc n) (c ∷ cs) all = (all.0, all-take P n cs all.1)

-- where the last claim ends is a bound of them, and none above the old one
pub ends-low : (low most end : ℕ) (cs : List Claim) → AreApart low most cs → end ≤ low
    → end ≤ end_from end cs
ends-low low most end [] is below = omega arith
ends-low low most end (c ∷ cs) is below =
    let rest = ends-low (c.offset + c.length + 1) most (c.offset + c.length) cs is.3
    (omega arith) in
    omega (arith, is.0, rest)

pub ends-most : (low most end : ℕ) (cs : List Claim) → AreApart low most cs → end ≤ most
    → end_from end cs ≤ most
ends-most low most end [] is within = within
ends-most low most end (c ∷ cs) is within =
    ends-most (c.offset + c.length + 1) most (c.offset + c.length) cs is.3 is.2

ends-apart : (low most end : ℕ) (cs : List Claim) → AreApart low most cs
    → AreApart low (end_from end cs) cs
ends-apart low most end [] is = tt
ends-apart low most end (c ∷ cs) is = (
  is.0,
  is.1,
  ends-low _ most (c.offset + c.length) cs is.3 (omega arith),
  ends-apart
      (c.offset + c.length + 1) most (c.offset + c.length) cs is.3,
)

report_with-is : (red most serial checkpoint upper : ℕ) (cells : List (Option ℕ))
    (claims : List Claim) → upper ≤ red → AreApart 0 upper claims
    → AllByRecursion (IsFilled cells) claims
    → IsReportOf red (report_with most serial checkpoint upper claims) × AllByRecursion
    (IsFilled cells) (report_with most serial checkpoint upper claims).claims
report_with-is red most serial checkpoint upper cells claims within apart all =
    both_arms (λ (x : ReportValue). IsReportOf red x × AllByRecursion (IsFilled cells) x.claims)
    (nat_lt most (length claims)) _ _
    (let kept = apart-take most 0 upper claims apart in (
      record {
        lower = refl;
        upper = omega (
          arith,
          ends-most 0 upper 0 (take most claims) kept
              (omega arith),
          within,
        );
        apart = ends-apart 0 upper 0 (take most claims) kept;
      },
      all-take (IsFilled cells) most claims all,
    ))
    (record { lower = refl; upper = within; apart = apart }, all)

upper-within : (red end : ℕ) (known : Option ℕ) → IfKnown red known → end ≤ red
    → bound_of known end ≤ red
upper-within red end None is within = within
upper-within red end (Some l) is within = omega (arith, is)

pub report_of-is : (red : ℕ) (r : Receiving) (q : PieceValue) → IfKnown red r.length
    → piece_stop q ≤ red
    → IsReportOf red (report_of r q) × AllByRecursion (IsFilled r.cells) (report_of r q).claims
report_of-is red r q known within =
    let upper : ℕ = bound_of r.length (piece_stop q) in
    let runs = runs-from 0 (take upper r.cells) in
    let size = length-take upper r.cells in
    subst (λ (x : ReportValue). IsReportOf red x × AllByRecursion (IsFilled r.cells) x.claims)
    (sym (report_of-with r q))
    (report_with-is red 1024 r.serial q.checkpoint upper r.cells
    (claims_from 0 (take upper r.cells)) (upper-within red (piece_stop q) r.length known within)
    (apart-low 0 0 _ _ _ (omega arith) (omega (arith, size)) runs.apart)
    (filled-take upper r.cells _ runs.apart runs.filled))

-- ---- cells grow

still_some : {X : Type 0} (first second : Option X) → is_some first ≡ true
    → is_some (or_else first second) ≡ true
still_some None second is = absurd (cc)
still_some (Some x) second is = refl

filled-grows : (cells : List (Option ℕ)) (offset : ℕ) (body : List ℕ) (cs : List Claim)
    → AllByRecursion (IsFilled cells) cs → AllByRecursion (IsFilled (filled cells offset body)) cs
filled-grows cells offset body [] all = tt
filled-grows cells offset body (c ∷ cs) all = (
  (λ k from to. rw (cell-filled cells offset body k) (still_some (cell cells k) _
      (all.0 k from to))),
  filled-grows cells offset body cs all.1,
)

-- ---- a step

pub record ClaimsOn (red : ℕ) (said : List ContentValue) (t : StepValue Receiving) : Type 0 where
  pub told : (x : ReportValue) → IsIn (a_report x) t.out
      → IsIn (a_report x) said ⊎ IsReportOf red x
  pub filled : IfKeeps (ClaimsFilled (said ++ t.out)) t.next
  pub quiet : t.next ≡ stays → Old said t.out

old-claims : (said out : List ContentValue) (r' : Receiving) → Old said out → ClaimsFilled said r'
    → ClaimsFilled (said ++ out) r'
old-claims said out r' old claims x among = claims x (old-among said out old x among)

none-old : (said out : List ContentValue) → NoReports out → Old said out
none-old said out none x among = absurd (none x among)

step-claims : (block : List ℕ) (red : ℕ) (said : List ContentValue) (content : ContentValue)
    (r : Receiving) (t : StepValue Receiving)
    → IsReceiverOf block red r → IsContentOf block red content → HasReported said r
    → ClaimsFilled said r
    → ReceiverStep content r t → ClaimsOn red said t
step-claims block red said content r t is of tells claims (idle next none) = record {
  told = λ x among. absurd (none x among);
  filled = subst (IfKeeps (ClaimsFilled (said ++ t.out))) (sym next) tt;
  quiet = λ h. none-old said t.out none;
}
step-claims block red said content r t is of tells claims (over next none) = record {
  told = λ x among. absurd (none x among);
  filled = subst (IfKeeps (ClaimsFilled (said ++ t.out))) (sym next) tt;
  quiet = λ h. none-old said t.out none;
}
step-claims block red said content r t is of tells claims (turns r' next turned none) = record {
  told = λ x among. absurd (none x among);
  filled = subst (IfKeeps (ClaimsFilled (said ++ t.out))) (sym next)
      (old-claims said t.out r' (none-old said t.out none)
      (λ x among. subst (λ cells. AllByRecursion (IsFilled cells) x.claims) (sym turned.cells)
      (claims x among)));
  quiet = λ h. none-old said t.out none;
}
step-claims block red said content r t is of tells claims (again p timer pending next out) =
    let old : Old said t.out =
    subst (Old said) (sym out) (old-resent said p.report (tells.pending p pending)) in
    record {
      told = λ x among. inl (old x among);
      filled = subst (IfKeeps (ClaimsFilled (said ++ t.out))) (sym next)
          (old-claims said t.out r old claims);
      quiet = λ h. old;
    }
step-claims block red said content r t is of tells claims
    (fills q r' is_piece red_kind next filling none) = record {
      told = λ x among. absurd (none x among);
      filled = subst (IfKeeps (ClaimsFilled (said ++ t.out))) (sym next)
          (old-claims said t.out r' (none-old said t.out none)
          (λ x among. subst (λ cells. AllByRecursion (IsFilled cells) x.claims) (sym filling.cells)
          (filled-grows r.cells q.offset q.body x.claims (claims x among))));
      quiet = λ h. none-old said t.out none;
    }
step-claims block red said content r t is of tells claims
    (reports_on q r' is_piece red_kind checkpoint next reporting out) = record {
      told = λ x among. by_out x (subst (IsIn (a_report x)) out among);
      filled = subst (IfKeeps (ClaimsFilled (said ++ t.out))) (sym next) all_filled;
      quiet = λ h. absurd (cc);
    }
  where
    piece : IsPieceOf block red q
    piece = subst (IsContentOf block red) is_piece of

    now_is : IsReceiverOf block red (with_red r q)
    now_is = with_red-is block red r q is piece red_kind

    part : IsInPart red true (ends_red_part q.kind) q.offset (piece_stop q)
    part = subst (λ b. IsInPart red b (ends_red_part q.kind) q.offset (piece_stop q))
        red_kind piece.part

    made : IsReportOf red (report_of (with_red r q) q) × AllByRecursion
        (IsFilled (with_red r q).cells) (report_of (with_red r q) q).claims
    made = report_of-is red (with_red r q) q now_is.known
        (end-within red (ends_red_part q.kind) q.offset (piece_stop q) part)

    by_out : (x : ReportValue) → IsIn (a_report x) (a_report (report_of (with_red r q) q) ∷ [])
        → IsIn (a_report x) said ⊎ IsReportOf red x
    by_out x (inl here) = let same : report_of (with_red r q) q ≡ x =
        cc in inr (subst (IsReportOf red) same made.0)
    by_out x (inr none) = absurd none

    by_among : (x : ReportValue) → IsIn (a_report x) said ⊎ IsIn (a_report x) t.out
        → AllByRecursion (IsFilled (filled r.cells q.offset q.body)) x.claims
    by_among x (inl before) = filled-grows r.cells q.offset q.body x.claims (claims x before)
    by_among x (inr now) = by_now x (subst (IsIn (a_report x)) out now)
      where
        by_now : (x : ReportValue) → IsIn (a_report x) (a_report (report_of (with_red r q) q) ∷ [])
            → AllByRecursion (IsFilled (filled r.cells q.offset q.body)) x.claims
        by_now x (inl here) = let same : report_of (with_red r q) q ≡ x =
            cc in subst (λ (y : ReportValue). AllByRecursion
            (IsFilled (filled r.cells q.offset q.body)) y.claims) same made.1
        by_now x (inr none) = absurd none

    all_filled : ClaimsFilled (said ++ t.out) r'
    all_filled x among = subst (λ cells. AllByRecursion (IsFilled cells) x.claims)
        (sym reporting.cells) (by_among x (among-append (a_report x) said t.out among))

-- ---- a session's claims

moves-claims : (block : List ℕ) (red : ℕ) (v : View) (t : StepValue Receiving)
    → ClaimFacts block red v → ClaimsOn red v.by_receiver t
    → ClaimFacts block red (receiver_moves v t)
moves-claims block red v t facts on = record { told = told; filled = kept t.next refl on.filled }
  where
    told : (x : ReportValue) → IsIn (a_report x) (v.by_receiver ++ t.out) → IsReportOf red x
    told x among = go (among-append (a_report x) v.by_receiver t.out among)
      where
        again_told : IsIn (a_report x) v.by_receiver ⊎ IsReportOf red x → IsReportOf red x
        again_told (inl before) = facts.told x before
        again_told (inr now) = now

        go : IsIn (a_report x) v.by_receiver ⊎ IsIn (a_report x) t.out → IsReportOf red x
        go (inl before) = facts.told x before
        go (inr now) = again_told (on.told x now)

    by_kept : (o : Option Receiving) → Old v.by_receiver t.out
        → IfKept (ClaimsFilled v.by_receiver) o → IfKept (ClaimsFilled (v.by_receiver ++ t.out)) o
    by_kept None old is = tt
    by_kept (Some r) old is = old-claims v.by_receiver t.out r old is

    kept : (c : Change Receiving) → t.next ≡ c → IfKeeps (ClaimsFilled (v.by_receiver ++ t.out)) c
        → IfKept (ClaimsFilled (v.by_receiver ++ t.out)) (after c v.receiver)
    kept stays is change = by_kept v.receiver (on.quiet is) facts.filled
    kept (keeps r) is change = change
    kept ends is change = tt

-- a fresh receiver
met-receives : (block : List ℕ) (red session : ℕ) (kept : Option Receiving)
    → IfKept (IsReceiverOf block red) kept → IsReceiverOf block red (met session kept)
met-receives block red session None is = fresh-is block red session
met-receives block red session (Some r) is = is

-- what is met has the facts on reports, or nothing changes
met-claims : {block : List ℕ} {red : ℕ} (v : View) (session : ℕ) (kept : Option Receiving)
    → v.receiver ≡ kept → SerialFacts block red v
    → IfKept (ClaimsFilled v.by_receiver) kept → (kept ≡ None → v.closed ≡ false)
    → HasReported v.by_receiver (met session kept) × ClaimsFilled v.by_receiver (met session kept)
met-claims v session None is facts filled opens =
    let none = facts.unknown is (opens refl) in
    (fresh-tells v.by_receiver session none, λ x among. absurd (none x among))
met-claims v session (Some r) is facts filled opens =
    (subst (IfKept (HasReported v.by_receiver)) is facts.kept, filled)

hears-claims : (block : List ℕ) (red : ℕ) (v : View) (place : Admission) (content : ContentValue)
    (t : StepValue Receiving) → place.closed ≡ v.closed
    → BlockFacts block red v → SerialFacts block red v → IsContentOf block red content
    → ClaimFacts block red v → Hears content place v.receiver t → ClaimsOn red v.by_receiver t
hears-claims block red v place content t closed facts reports of claims hears =
    by_kept v.receiver refl hears
  where
    receives : IsReceiverOf block red (met place.session v.receiver)
    receives = met-receives block red place.session v.receiver facts.receiver

    by_kept : (kept : Option Receiving) → v.receiver ≡ kept → Hears content place kept t
        → ClaimsOn red v.by_receiver t
    by_kept (Some r) is hears =
        let has = met-claims v place.session (Some r) is reports
        (subst (IfKept (ClaimsFilled v.by_receiver)) is claims.filled) (λ h. absurd (cc)) in
        step-claims block red v.by_receiver content r t (met-receives block red place.session
        (Some r) (subst (IfKept (IsReceiverOf block red)) is facts.receiver)) of has.0
        has.1 hears.form
    by_kept None is hears = by_opening (hears.opens refl)
      where
        by_opening : (t.next ≡ stays) ⊎ (place.closed ≡ false) → ClaimsOn red v.by_receiver t
        by_opening (inr open_number) =
            let has = met-claims v place.session None is reports tt
            (λ h. sym closed ∙ open_number) in
            step-claims block red v.by_receiver content (fresh place.session) t
            (fresh-is block red place.session) of has.0 has.1 hears.form
        by_opening (inl unchanged) = idly hears.form
          where
            idly : ReceiverStep content (fresh place.session) t → ClaimsOn red v.by_receiver t
            idly (idle next none) =
                record {
                  told = λ x among. absurd (none x among);
                  filled = subst
                      (IfKeeps (ClaimsFilled (v.by_receiver ++ t.out))) (sym next) tt;
                  quiet =
                      λ h. none-old v.by_receiver t.out none;
                }
            idly (over next none) = absurd (cc)
            idly (turns r' next turned none) = absurd (cc)
            idly (again p timer pending next out) = absurd (cc)
            idly (fills q r' is_piece red_kind next filling none) = absurd (cc)
            idly (reports_on q r' is_piece red_kind checkpoint next reporting out) = absurd (cc)

pub claims-keep : KeepsUnder (both_facts BlockFacts SerialFacts) ClaimFacts
claims-keep = record {
  begins = λ policy n block red now v cuts within unused _. record {
    told = λ x among. absurd (subst (IsIn (a_report x)) unused.by_receiver among);
    filled = subst (IfKept (ClaimsFilled v.by_receiver)) (sym unused.receiver) tt;
  };
  sender = λ block red policy v content now t among hears f f' claims. record {
    told = claims.told;
    filled = claims.filled;
  };
  receiver = λ block red policy place v content now t closed among hears f f' claims.
      moves-claims block red v t claims
      (hears-claims block red v place content t closed f.0 f.1
      (all-among _ content v.by_sender f.0.said among) claims
      (hears-form policy place v.receiver content now t hears));
  sender_tick = λ block red policy now v s is f f' claims. record {
    told = claims.told;
    filled = claims.filled;
  };
  receiver_tick = λ block red policy now v r is f f' claims.
      moves-claims block red v (receiver_tick policy r now) claims
      (step-claims block red v.by_receiver a_sender_cancel_ack r _
      (subst (IfKept (IsReceiverOf block red)) is f.0.receiver) tt
      (subst (IfKept (HasReported v.by_receiver)) is f.1.kept)
      (subst (IfKept (ClaimsFilled v.by_receiver)) is claims.filled)
      (tick-form a_sender_cancel_ack policy now r));
  evicted = λ block red v r is f f' claims. record { told = claims.told; filled = tt };
}
