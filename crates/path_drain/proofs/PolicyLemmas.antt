-- Whatever policy its engines were given, each link of a path has two that name each other, and are
-- alike.

use Rattle.std.proofs.Common.{◌≡◌, ℕ, ◌≤◌, Bool, true, false, not, Ok, Err, refl, arith, subst}
use Rattle.std.proofs.Common.{if◌then◌else◌}
use Rattle.std.proofs.lemmas.Bool.{and_parts, leb-true}
use Rattle.endpoint.specs.declared.name.Endpoint.{Endpoint}
use Rattle.ltp_segment.specs.declared.policy.PolicyFault.TheVariants as faults
use Rattle.ltp_segment.specs.Policy.{PolicyValue, is_between, policy_of}
use Rattle.ltp_session.specs.World.{ArePeers}
use Rattle.ltp_laws.specs.Deadlines.{Waits}
use Rattle.ltp_drain.specs.Hopeful.{AreAlike}
use Rattle.gate_cases.specs.declared.face.Face.{Face}
use Rattle.gate_cases.specs.declared.face.Face.TheVariants as faces
use Rattle.path_laws.specs.Path.{path_setup}
use Rattle.path_laws.specs.Links.{link_parties}
use Rattle.path_drain.specs.Hopeful.{IsFitPath, PathsAreFit}

-- ---- a policy

-- it cuts two octets at least, and waits at all
record Fits (policy : PolicyValue) : Type 0 where
  cuts : 2 ≤ policy.segment
  waits : Waits policy

at-least : (least most n : ℕ) → is_between least most n ≡ true → least ≤ n
at-least least most n is = leb-true least n (and_parts _ _ is).0

policy-fits : (segment timeout limit cap : ℕ) (policy : PolicyValue)
    → policy_of segment timeout limit cap ≡ Ok policy → Fits policy
policy-fits segment timeout limit cap policy is =
    by (is_between 512 8192 segment) refl (is_between 1 3600000 timeout) refl
    (is_between 1 100 limit) (is_between timeout 3600000 cap) refl is
  where
    by : (a : Bool) → is_between 512 8192 segment ≡ a
        → (b : Bool) → is_between 1 3600000 timeout ≡ b → (c d : Bool)
        → is_between timeout 3600000 cap ≡ d
        → (if not a then Err faults.Segment else if not b then Err faults.Timeout
        else if not c then Err faults.Limit else if not d then Err faults.Cap
        else Ok (record { segment = segment; timeout = timeout; limit = limit; cap = cap }))
        ≡ Ok policy → Fits policy
    by false is_a b is_b c d is_d is = absurd (cc)
    by true is_a false is_b c d is_d is = absurd (cc)
    by true is_a true is_b false d is_d is = absurd (cc)
    by true is_a true is_b true false is_d is = absurd (cc)
    by true is_a true is_b true true is_d is =
        let same : record { segment = segment; timeout = timeout; limit = limit; cap = cap } ≡ policy
        = cc in
        let few = at-least 512 8192 segment is_a in
        let first = at-least 1 3600000 timeout is_b in
        let later = at-least timeout 3600000 cap is_d in
        subst Fits same (record {
          cuts = omega (arith, few);
          waits = (omega (arith, first), omega (arith, first, later));
        })

-- ---- a path

fit-path : (gate : Endpoint) (cut : ℕ) (policy : PolicyValue) → Fits policy
    → IsFitPath (path_setup gate policy cut)
fit-path gate cut policy fits = record {
  linked = record { each = peers };
  alike = record { each = alike };
}
  where
    peers : (face : Face) → ArePeers (link_parties (path_setup gate policy cut) face)
    peers faces.Old = record {
      differ = λ h. absurd (cc);
      first_knows = refl;
      second_knows = refl;
      first_cuts = omega (arith, fits.cuts);
      second_cuts = omega (arith, fits.cuts);
    }
    peers faces.New = record {
      differ = λ h. absurd (cc);
      first_knows = refl;
      second_knows = refl;
      first_cuts = omega (arith, fits.cuts);
      second_cuts = omega (arith, fits.cuts);
    }

    alike : (face : Face) → AreAlike (link_parties (path_setup gate policy cut) face)
    alike faces.Old = record {
      same_most = refl;
      most = omega arith;
      first_cuts = fits.cuts;
      second_cuts = fits.cuts;
      first_waits = fits.waits;
      second_waits = fits.waits;
      first_ample = record { sessions = omega arith; history = omega arith };
      second_ample = record { sessions = omega arith; history = omega arith };
    }
    alike faces.New = record {
      same_most = refl;
      most = omega arith;
      first_cuts = fits.cuts;
      second_cuts = fits.cuts;
      first_waits = fits.waits;
      second_waits = fits.waits;
      first_ample = record { sessions = omega arith; history = omega arith };
      second_ample = record { sessions = omega arith; history = omega arith };
    }

pub paths-fit : PathsAreFit
paths-fit gate segment timeout limit cap cut policy is =
    fit-path gate cut policy (policy-fits segment timeout limit cap policy is)

-- short ones too, which no script can give
pub short-fits : (gate : Endpoint) (cut : ℕ) (policy : PolicyValue) → 2 ≤ policy.segment
    → Waits policy → IsFitPath (path_setup gate policy cut)
short-fits gate cut policy cuts waits =
    fit-path gate cut policy (record { cuts = cuts; waits = waits })
