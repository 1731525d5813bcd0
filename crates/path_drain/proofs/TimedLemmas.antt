-- Whatever policy its engines were given, the links of a path are timed.

use Rattle.std.proofs.Common.{ℕ, ◌≤◌, arith}
use Rattle.endpoint.specs.declared.name.Endpoint.{Endpoint}
use Rattle.gate_cases.specs.declared.face.Face.{Face}
use Rattle.gate_cases.specs.declared.face.Face.TheVariants as faces
use Rattle.ltp_segment.specs.declared.session.TheConstants.{BLOCK_MAX}
use Rattle.ltp_segment.specs.Policy.{PolicyValue}
use Rattle.ltp_session.specs.World.{End, at_end, first_end, second_end}
use Rattle.ltp_laws.specs.Writable.{HasSmallNumbers}
use Rattle.ltp_drain.specs.Left.{AreTimed}
use Rattle.gateway_core.specs.Gate.{party_of}
use Rattle.path_laws.specs.Links.{link_parties}
use Rattle.path_laws.specs.Path.{path_setup}
use Rattle.path_drain.specs.Hopeful.{IsFitPath}
use Rattle.path_drain.proofs.PolicyLemmas.{paths-fit}
use Rattle.path_drain.specs.Drained.{PathsAreTimed}
use Rattle.path_drain.specs.Left.{IsTimed}

small : (own peer : ℕ) (policy : PolicyValue) → own ≤ 4
    → HasSmallNumbers (party_of own peer policy)
small own peer policy low =
    record { own = omega (arith, low); first = omega arith; most = omega arith }

timed-path : (gate : Endpoint) (policy : PolicyValue) (cut : ℕ)
    → IsFitPath (path_setup gate policy cut) → IsTimed (path_setup gate policy cut) BLOCK_MAX
timed-path gate policy cut fit = record { links = links; fits = fits }
  where
    links : (face : Face) → AreTimed (link_parties (path_setup gate policy cut) face)
    links faces.Old = record {
      peers = fit.linked.each faces.Old;
      first_small = small 1 2 policy (omega arith);
      second_small = small 2 1 policy (omega arith);
      first_waits = (fit.alike.each faces.Old).first_waits;
      second_waits = (fit.alike.each faces.Old).second_waits;
    }
    links faces.New = record {
      peers = fit.linked.each faces.New;
      first_small = small 3 4 policy (omega arith);
      second_small = small 4 3 policy (omega arith);
      first_waits = (fit.alike.each faces.New).first_waits;
      second_waits = (fit.alike.each faces.New).second_waits;
    }

    fits : (face : Face) (o : End)
        → (at_end (link_parties (path_setup gate policy cut) face) o).most ≤ BLOCK_MAX
    fits faces.Old first_end = omega arith
    fits faces.Old second_end = omega arith
    fits faces.New first_end = omega arith
    fits faces.New second_end = omega arith

pub paths-are-timed : PathsAreTimed
paths-are-timed gate segment timeout limit cap cut policy is =
    timed-path gate policy cut (paths-fit gate segment timeout limit cap cut policy is)
