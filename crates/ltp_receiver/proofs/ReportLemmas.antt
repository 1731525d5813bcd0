-- The claims of a report, out of covered places.

use Rattle.std.proofs.Common.{◌≡◌, ℕ, zero, suc, ◌+◌, ◌-◌, ◌<◌, ◌≤◌, ◌^◌, min, Bool, true, false, ◌==◌, List, [], ◌∷◌, ◌++◌, length, map, take, Option, Some, is_some, refl, sym, ◌∙◌, ap, arith, ⊎_elim, nat_lt, ltb-true, eqb-true, if◌then◌else◌, length-append}
use Rattle.std.proofs.lemmas.Bool.{cases_lt, lt-ltb, le-ltb}
use Rattle.std.proofs.lemmas.List.{append-nil, append_assoc, length-map, length-take-le}
use Rattle.std.specs.Prelude.{slice_get}
use Rattle.spans.specs.declared.range.Run.{Run}
use Rattle.spans.specs.Places.{grown_by, runs_from, runs_of, runs_below, is_covered}
use Rattle.spans.specs.Runs.{AreApart}
use Rattle.spans.proofs.PlaceLaws.{runs_from-apart, runs_of-apart}
use Rattle.spans.proofs.Counting.{below, below-far, below-yes}
use Rattle.ltp_segment.specs.declared.segment.Claim.{Claim}
use Rattle.ltp_segment.specs.Legal.{AreClaims, IsReport}
use Rattle.ltp_segment.specs.Reports.{end_from}
use Rattle.ltp_session.specs.Cells.{cell, filled_places}
use Rattle.ltp_session.specs.Claims.{claim_of, claims_below, upper_of, report_within, report_on}
use Rattle.cells.specs.Covers.{Covers}

-- ---- runs below a bound

-- a run up to a bound
abbrev pub up_to : ℕ → Run → Run
up_to bound run = record { from = run.from; to = min run.to bound }

-- the runs that begin below a bound, up to it
abbrev pub cut : ℕ → List Run → List Run
cut bound [] = []
cut bound (run ∷ runs) = if nat_lt run.from bound then up_to bound run ∷ cut bound runs else []

cut-low : (bound : ℕ) (run : Run) (runs : List Run) → run.from < bound → cut bound (run ∷ runs) ≡ up_to bound run ∷ cut bound runs
cut-low bound run runs low = rw (lt-ltb run.from bound low) refl

cut-high : (bound : ℕ) (run : Run) (runs : List Run) → bound ≤ run.from → cut bound (run ∷ runs) ≡ []
cut-high bound run runs high = rw (le-ltb run.from bound high) refl

cut-far : (bound low : ℕ) (runs : List Run) → bound ≤ low → AreApart low runs → cut bound runs ≡ []
cut-far bound low [] far apart = refl
cut-far bound low (run ∷ runs) far apart = cut-high bound run runs (omega (arith, far, apart.0))

cut-grown : (k bound : ℕ) (runs : List Run) → k < bound → AreApart (k + 1) runs → cut bound (grown_by k runs) ≡ grown_by k (cut bound runs)
cut-grown k bound [] low apart =
    let end : min (k + 1) bound ≡ k + 1 = omega arith in
    cut-low bound (record { from = k; to = k + 1 }) [] low ∙ rw end refl
cut-grown k bound (run ∷ runs) low apart = ⊎_elim begins past (cases_lt run.from bound)
  where
    end : min (k + 1) bound ≡ k + 1
    end = omega arith

    begins : run.from < bound → cut bound (grown_by k (run ∷ runs)) ≡ grown_by k (cut bound (run ∷ runs))
    begins below = rw (cut-low bound run runs below) (by_test (run.from == k + 1))
      where
        by_test : (t : Bool)
            → cut bound (if t then record { from = k; to = run.to } ∷ runs else record { from = k; to = k + 1 } ∷ (run ∷ runs))
            ≡ (if t then record { from = k; to = min run.to bound } ∷ cut bound runs else record { from = k; to = k + 1 } ∷ (up_to bound run ∷ cut bound runs))
        by_test true = cut-low bound (record { from = k; to = run.to }) runs low
        by_test false = cut-low bound (record { from = k; to = k + 1 }) (run ∷ runs) low ∙ rw (end, cut-low bound run runs below) refl

    past : bound ≤ run.from → cut bound (grown_by k (run ∷ runs)) ≡ grown_by k (cut bound (run ∷ runs))
    past above = rw (cut-high bound run runs above) (by_test (run.from == k + 1) refl)
      where
        by_test : (t : Bool) → (run.from == k + 1) ≡ t
            → cut bound (if t then record { from = k; to = run.to } ∷ runs else record { from = k; to = k + 1 } ∷ (run ∷ runs))
            ≡ record { from = k; to = k + 1 } ∷ []
        by_test true is =
            let here : run.from ≡ k + 1 = eqb-true run.from (k + 1) is in
            let stop : min run.to bound ≡ k + 1 = omega (arith, here, above, low, apart.1) in
            cut-low bound (record { from = k; to = run.to }) runs low
            ∙ rw (stop, cut-far bound (run.to + 1) runs (omega (arith, above, apart.1)) apart.2) refl
        by_test false is =
            cut-low bound (record { from = k; to = k + 1 }) (run ∷ runs) low ∙ rw (end, cut-high bound run runs above) refl

-- the runs of the places below a bound
pub runs_from-take : (k upper : ℕ) (places : List Bool) → runs_from k (take upper places) ≡ cut (k + upper) (runs_from k places)
runs_from-take k zero places = sym (cut-far (k + 0) k (runs_from k places) (omega arith) (runs_from-apart k places))
runs_from-take k (suc upper) [] = refl
runs_from-take k (suc upper) (false ∷ places) =
    let place : k + 1 + upper ≡ k + suc upper = omega arith in
    let rest = runs_from-take (k + 1) upper places in
    rest ∙ ap (λ (n : ℕ). cut n (runs_from (k + 1) places)) place
runs_from-take k (suc upper) (true ∷ places) =
    let place : k + 1 + upper ≡ k + suc upper = omega arith in
    let rest = runs_from-take (k + 1) upper places in
    ap (grown_by k) (rest ∙ ap (λ (n : ℕ). cut n (runs_from (k + 1) places)) place)
    ∙ sym (cut-grown k (k + suc upper) (runs_from (k + 1) places) (omega arith) (runs_from-apart (k + 1) places))

pub runs_of-take : (upper : ℕ) (places : List Bool) → runs_of (take upper places) ≡ cut upper (runs_of places)
unfolding runs_of
runs_of-take upper places = let start : 0 + upper ≡ upper = omega arith in runs_from-take 0 upper places ∙ ap (λ (n : ℕ). cut n (runs_from 0 places)) start

-- how many there are
length-cut : (bound low : ℕ) (runs : List Run) → AreApart low runs → length (cut bound runs) ≡ below bound runs
unfolding below
length-cut bound low [] apart = refl
length-cut bound low (run ∷ runs) apart = ⊎_elim
    (λ here. ap length (cut-low bound run runs here) ∙ (ap suc (length-cut bound (run.to + 1) runs apart.2) ∙ sym (below-yes bound run runs here)))
    (λ past. ap length (cut-high bound run runs past) ∙ sym (below-far bound run.from (run ∷ runs) past (omega arith, apart.1, apart.2)))
    (cases_lt run.from bound)

pub length-claims : (upper : ℕ) (places : List Bool) → runs_below upper places ≡ length (map claim_of (runs_of (take upper places)))
unfolding runs_below below
length-claims upper places =
    sym (length-map (runs_of (take upper places)) claim_of ∙ (ap length (runs_of-take upper places)
    ∙ length-cut upper 0 (runs_of places) (runs_of-apart places)))

-- ---- claims, one after another

-- the claims so far, and those of the runs that are left
pub record ClaimsSoFar (most upper : ℕ) (claims : List Claim) (left : List Run) (all : List Claim) : Type 0 where
  pub goes_on : claims ++ take (most - length claims) (map claim_of (cut upper left)) ≡ all
  pub low : ℕ
  pub apart : AreApart low left

pub claims-start : (most upper : ℕ) (places : List Bool)
    → ClaimsSoFar most upper [] (runs_of places) (take most (map claim_of (runs_of (take upper places))))
claims-start most upper places = record {
  goes_on =
      let whole : most - 0 ≡ most = omega arith in
      ap (λ (n : ℕ). take n (map claim_of (cut upper (runs_of places)))) whole
      ∙ sym (ap (λ (runs : List Run). take most (map claim_of runs)) (runs_of-take upper places));
  low = 0;
  apart = runs_of-apart places;
}

pub claims-more : (most upper : ℕ) (claims now : List Claim) (run : Run) (left : List Run) (all : List Claim)
    → ClaimsSoFar most upper claims (run ∷ left) all → run.from < upper → length claims < most
    → now ≡ claims ++ claim_of (up_to upper run) ∷ []
    → ClaimsSoFar most upper now left all
claims-more most upper claims now run left all so_far below room is = record {
  goes_on =
      let before = so_far.goes_on in
      let next : most - length claims ≡ suc (most - length now) = omega (arith, room, ap length is, length-append claims (claim_of (up_to upper run) ∷ [])) in
      rw (is, append_assoc claims (claim_of (up_to upper run) ∷ []) (take (most - length (claims ++ claim_of (up_to upper run) ∷ [])) (map claim_of (cut upper left))))
      (rw (cut-low upper run left below, next, is) at before);
  low = run.to + 1;
  apart = so_far.apart.2;
}

pub claims-end : (most upper : ℕ) (claims : List Claim) (all : List Claim) → ClaimsSoFar most upper claims [] all → claims ≡ all
claims-end most upper claims all so_far = nothing (most - length claims) so_far.goes_on
  where
    nothing : (n : ℕ) → claims ++ take n [] ≡ all → claims ≡ all
    nothing zero is = sym (append-nil claims) ∙ is
    nothing (suc n) is = sym (append-nil claims) ∙ is

pub claims-past : (most upper : ℕ) (claims : List Claim) (run : Run) (left : List Run) (all : List Claim)
    → ClaimsSoFar most upper claims (run ∷ left) all → upper ≤ run.from → claims ≡ all
claims-past most upper claims run left all so_far past =
    claims-end most upper claims all (record {
      goes_on = rw (cut-high upper run left past) at so_far.goes_on;
      low = 0;
      apart = tt;
    })

pub claims-full : (most upper : ℕ) (claims : List Claim) (left : List Run) (all : List Claim)
    → ClaimsSoFar most upper claims left all → most ≤ length claims → claims ≡ all
claims-full most upper claims left all so_far full =
    let none : most - length claims ≡ 0 = omega (arith, full) in
    sym (append-nil claims) ∙ (rw none at so_far.goes_on)

-- ---- the report is one that can be sent

claims-legal : (upper end low n : ℕ) (runs : List Run) → AreApart low runs → end ≤ low
    → AreClaims upper end (take n (map claim_of (cut upper runs)))
claims-legal upper end low zero runs apart before = tt
claims-legal upper end low (suc n) [] apart before = tt
claims-legal upper end low (suc n) (run ∷ runs) apart before = ⊎_elim
    (λ below. rw (cut-low upper run runs below) (
      record {
        some = omega (arith, apart.1, below);
        begins = omega (arith, apart.0, before);
        ends = omega (arith, apart.1, below);
      },
      claims-legal upper (run.from + (min run.to upper - run.from)) (run.to + 1) n runs apart.2 (omega (arith, apart.1, below)),
    ))
    (λ past. rw (cut-high upper run runs past) tt)
    (cases_lt run.from upper)

end_from-low : (most end : ℕ) (claims : List Claim) → AreClaims most end claims → end ≤ end_from end claims
end_from-low most end [] legal = omega arith
end_from-low most end (claim ∷ claims) legal =
    let later = end_from-low most (claim.offset + claim.length) claims legal.1 in
    omega (arith, later, legal.0.begins)

end_from-high : (most end : ℕ) (claims : List Claim) → AreClaims most end claims → end ≤ most → end_from end claims ≤ most
end_from-high most end [] legal within = within
end_from-high most end (claim ∷ claims) legal within = end_from-high most (claim.offset + claim.length) claims legal.1 legal.0.ends

pub end-within : (most upper : ℕ) (places : List Bool) → end_from 0 (take most (map claim_of (runs_of (take upper places)))) ≤ upper
end-within most upper places = end_from-high upper 0 (take most (map claim_of (runs_of (take upper places))))
    (rw (runs_of-take upper places) (claims-legal upper 0 0 most (runs_of places) (runs_of-apart places) (omega arith))) (omega arith)

claims-tight : (most end bound : ℕ) (claims : List Claim) → AreClaims most end claims → end_from end claims ≤ bound
    → AreClaims bound end claims
claims-tight most end bound [] legal within = tt
claims-tight most end bound (claim ∷ claims) legal within = (
  record {
    some = legal.0.some;
    begins = legal.0.begins;
    ends = omega (arith, within, end_from-low most (claim.offset + claim.length) claims legal.1);
  },
  claims-tight most (claim.offset + claim.length) bound claims legal.1 within,
)

end_from-some : (most end : ℕ) (claims : List Claim) → AreClaims most end claims → 0 < length claims → 0 < end_from end claims
end_from-some most end [] legal some = absurd (omega arith)
end_from-some most end (claim ∷ claims) legal some =
    omega (arith, legal.0.some, end_from-low most (claim.offset + claim.length) claims legal.1)

-- the upper bound, and the claims below it
pub upper-legal : (most upper : ℕ) (places : List Bool) → 0 < most → 0 < upper
    → (0 < upper_of most upper (map claim_of (runs_of (take upper places))))
    × AreClaims (upper_of most upper (map claim_of (runs_of (take upper places)))) 0 (take most (map claim_of (runs_of (take upper places))))
upper-legal most upper places some above = by_test (nat_lt most (length all)) refl
  where
    all : List Claim
    all = map claim_of (runs_of (take upper places))

    legal : AreClaims upper 0 (take most all)
    legal = rw (runs_of-take upper places) (claims-legal upper 0 0 most (runs_of places) (runs_of-apart places) (omega arith))

    by_test : (t : Bool) → nat_lt most (length all) ≡ t
        → (0 < (if t then end_from 0 (take most all) else upper))
        × AreClaims (if t then end_from 0 (take most all) else upper) 0 (take most all)
    by_test false is = (above, legal)
    by_test true is =
        let more : most < length all = ltb-true most (length all) is in (
          end_from-some upper 0 (take most all) legal (omega (arith, some, length-take-le most all (omega (arith, more)))),
          claims-tight upper 0 (end_from 0 (take most all)) (take most all) legal (omega arith),
        )

pub report-made : (most serial checkpoint upper end : ℕ) (places : List Bool) (claims : List Claim)
    → claims ≡ take most (map claim_of (runs_of (take upper places)))
    → end ≡ (if nat_lt most (runs_below upper places) then end_from 0 (take most (map claim_of (runs_of (take upper places)))) else upper)
    → record { serial = serial; checkpoint = checkpoint; upper = end; lower = 0; claims = claims }
    ≡ report_within most serial checkpoint upper (map claim_of (runs_of (take upper places)))
report-made most serial checkpoint upper end places claims made cut_to =
    rw (made, cut_to, length-claims upper places) refl

pub report-legal : (most serial checkpoint upper end : ℕ) (places : List Bool) (claims : List Claim)
    → 0 < most → 0 < serial → 0 < upper → serial < 2 ^ 64 → checkpoint < 2 ^ 64 → end < 2 ^ 64
    → claims ≡ take most (map claim_of (runs_of (take upper places)))
    → end ≡ (if nat_lt most (runs_below upper places) then end_from 0 (take most (map claim_of (runs_of (take upper places)))) else upper)
    → IsReport (record { serial = serial; checkpoint = checkpoint; upper = end; lower = 0; claims = claims })
report-legal most serial checkpoint upper end places claims some named above serial_fits checkpoint_fits end_fits made cut_to =
    let legal = upper-legal most upper places some above in
    let is : end ≡ upper_of most upper (map claim_of (runs_of (take upper places))) =
    cut_to ∙ ap (λ (n : ℕ). if nat_lt most n then end_from 0 (take most (map claim_of (runs_of (take upper places)))) else upper) (length-claims upper places) in
    let from_first : end - 0 ≡ end = omega arith in
    record {
      named = named;
      serial = serial_fits;
      checkpoint = checkpoint_fits;
      upper = end_fits;
      bounds = rw is legal.0;
      claims = rw (from_first, is, made) legal.1;
    }

-- ---- the last claim

pub end_from-last : (end : ℕ) (claims : List Claim) (claim : Claim) (i : ℕ) → i + 1 ≡ length claims
    → slice_get claims i ≡ Some claim → claim.offset + claim.length ≡ end_from end claims
end_from-last end [] claim i size is = absurd (omega arith)
end_from-last end (first ∷ []) claim zero size is = let here : first ≡ claim = cc in rw here refl
end_from-last end (first ∷ []) claim (suc i) size is = absurd (omega arith)
end_from-last end (first ∷ (next ∷ claims)) claim zero size is = absurd (omega arith)
end_from-last end (first ∷ (next ∷ claims)) claim (suc i) size is =
    end_from-last (first.offset + first.length) (next ∷ claims) claim i (omega arith) is

pub last-some : (claims : List Claim) (claim : Claim) → slice_get claims (length claims - 1) ≡ Some claim
    → length claims - 1 + 1 ≡ length claims
last-some [] claim is = absurd (cc)
last-some (first ∷ claims) claim is = omega arith

-- ---- the claims of the filled places

-- no place is covered
none-covered : (k : ℕ) (places : List Bool) → ((i : ℕ) → is_covered places i ≡ false) → runs_from k places ≡ []
none-covered k [] none = refl
none-covered k (false ∷ places) none = none-covered (k + 1) places (λ i. none (suc i))
none-covered k (true ∷ places) none = let first : true ≡ false = none zero in absurd (cc)

same-runs : (k : ℕ) (xs ys : List Bool) → ((i : ℕ) → is_covered xs i ≡ is_covered ys i) → runs_from k xs ≡ runs_from k ys
same-runs k [] ys same = sym (none-covered k ys (λ i. sym (same i)))
same-runs k xs [] same = none-covered k xs same
same-runs k (x ∷ xs) (y ∷ ys) same = heads x y (same zero) (same-runs (k + 1) xs ys (λ i. same (suc i)))
  where
    heads : (a b : Bool) → a ≡ b → runs_from (k + 1) xs ≡ runs_from (k + 1) ys → runs_from k (a ∷ xs) ≡ runs_from k (b ∷ ys)
    heads true true is rest = ap (grown_by k) rest
    heads false false is rest = rest
    heads true false is rest = absurd (cc)
    heads false true is rest = absurd (cc)

cell-places : (cells : List (Option ℕ)) (k : ℕ) → is_covered (filled_places cells) k ≡ is_some (cell cells k)
cell-places [] k = refl
cell-places (c ∷ cells) zero = refl
cell-places (c ∷ cells) (suc k) = cell-places cells k

pub claims-same : {most : ℕ} (places : List Bool) (cells : List (Option ℕ)) (upper : ℕ) → Covers most places cells
    → map claim_of (runs_of (take upper places)) ≡ claims_below upper cells
unfolding claims_below runs_of
claims-same places cells upper covers =
    ap (map claim_of) (runs_of-take upper places
    ∙ (ap (cut upper) (same-runs 0 places (filled_places cells) (λ i. covers.each i ∙ sym (cell-places cells i)))
    ∙ sym (runs_of-take upper (filled_places cells))))

pub report-same : {most : ℕ} (places : List Bool) (cells : List (Option ℕ)) (serial checkpoint upper : ℕ) → Covers most places cells
    → report_within 1024 serial checkpoint upper (map claim_of (runs_of (take upper places))) ≡ report_on serial checkpoint upper cells
unfolding report_on
report-same places cells serial checkpoint upper covers =
    ap (report_within 1024 serial checkpoint upper) (claims-same places cells upper covers)
