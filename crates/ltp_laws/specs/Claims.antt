-- What a session's reports claim (RFC 5326, sections 3.2.2 and 6.11).

use Rattle.std.specs.Prelude.{◌≡◌, ℕ, ◌+◌, ◌<◌, ◌≤◌, true, List, [], ◌∷◌, Option}
use Rattle.std.specs.Prelude.{is_some, ◌⊎◌}
use Rattle.std.specs.List.{AllByRecursion}
use Rattle.ltp_segment.specs.declared.segment.Claim.{Claim}
use Rattle.ltp_segment.specs.Values.{ContentValue, ReportValue, a_report}
use Rattle.ltp_session.specs.Cells.{cell}
use Rattle.ltp_session.specs.Receiver.{Receiving}
use Rattle.ltp_laws.specs.Kept.{IfKept}
use Rattle.ltp_laws.specs.View.{IsIn, View, said}

-- claims in order that don't touch; the first begins at a place or later, and all end within a
-- bound
abbrev pub AreApart : ℕ → ℕ → List Claim → Type 0
AreApart low most [] = Unit {0}
AreApart low most (c ∷ cs) =
    (low ≤ c.offset) × (0 < c.length) × (c.offset + c.length ≤ most)
    × AreApart (c.offset + c.length + 1) most cs

-- one of the claims has a place
abbrev pub HasPlace : ℕ → List Claim → ℕ → Type 0
HasPlace lower [] k = ⊥
HasPlace lower (c ∷ cs) k =
    ((lower + c.offset ≤ k) × (k < lower + c.offset + c.length)) ⊎ HasPlace lower cs k

-- a report claims a place
abbrev pub ClaimsPlace : ReportValue → ℕ → Type 0
ClaimsPlace x k = HasPlace x.lower x.claims k

-- a report claims the whole red part, as one claim
pub record IsWhole (red : ℕ) (x : ReportValue) : Type 0 where
  pub claims : x.claims ≡ record { offset = 0; length = red } ∷ []
  pub lower : x.lower ≡ 0

-- a report on a red part of so many octets
pub record IsReportOf (red : ℕ) (x : ReportValue) : Type 0 where
  pub lower : x.lower ≡ 0
  pub upper : x.upper ≤ red
  pub apart : AreApart 0 x.upper x.claims

-- every place of a claim has an octet
abbrev pub IsFilled : List (Option ℕ) → Claim → Type 0
IsFilled cells c =
    (k : ℕ) → c.offset ≤ k → k < c.offset + c.length → is_some (cell cells k) ≡ true

-- a receiver has the octets that its reports claim
abbrev pub ClaimsFilled : List ContentValue → Receiving → Type 0
ClaimsFilled said r =
    (x : ReportValue) → IsIn (a_report x) said → AllByRecursion (IsFilled r.cells) x.claims

-- each report is on the red part; and what it claims has come, where the receiver is kept
pub record ClaimFacts (block : List ℕ) (red : ℕ) (v : View) : Type 0 where
  pub told : (x : ReportValue) → IsIn (a_report x) v.by_receiver → IsReportOf red x
  pub filled : IfKept (ClaimsFilled v.by_receiver) v.receiver
