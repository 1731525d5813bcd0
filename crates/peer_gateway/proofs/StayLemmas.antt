-- The code of a piece's octets after a stay.

use Rattle.std.proofs.Common.{◌≡◌, ℕ, List, Option, Some, None, Result, Ok, Err, IfOk, sym, ap, subst}
use Rattle.std.specs.Option.{option_map}
use Rattle.std.specs.Result.{result_ok}
use Rattle.wire_fields.specs.Reading.{read}
use Rattle.wire_fields.specs.Refusal.{Stop}
use Rattle.bundle6.specs.declared.fault.Cause6.{Cause6}
use Rattle.bundle6.specs.declared.bundle.Bundle6.{Bundle6}
use Rattle.bundle6.specs.Table as table6
use Rattle.bundle7.specs.declared.fault.Cause7.{Cause7}
use Rattle.bundle7.specs.declared.bundle.Bundle7.{Bundle7}
use Rattle.bundle7.specs.Table as table7
use Rattle.gate_cases.specs.declared.face.Face.{Face}
use Rattle.gate_cases.specs.declared.face.Face.TheVariants as faces
use Rattle.peer_cases.specs.declared.settings.PeerSettings.{PeerSettings}
use Rattle.peer_cases.specs.Arrivals.{Came, came6, came7}
use Rattle.peer_cases.specs.Rows.{came_in}
use Rattle.peer_gateway.specs.Going.{raised_octets}

-- ---- what was read

pub came-old : (s : PeerSettings) (w : List ℕ) (b : Bundle6) (k : ℕ) → read (table6.bundle 64) w 0 ≡ Ok (b, k)
    → came_in s faces.Old w ≡ Some (came6 s b)
unfolding came_in
came-old s w b k is = ap (λ r. option_map (λ (x : Bundle6 × ℕ). came6 s x.0) (result_ok r)) is

pub came-new : (s : PeerSettings) (w : List ℕ) (b : Bundle7) (k : ℕ) → read (table7.bundle 64) w 0 ≡ Ok (b, k)
    → came_in s faces.New w ≡ Some (came7 s b)
unfolding came_in
came-new s w b k is = ap (λ r. option_map (λ (x : Bundle7 × ℕ). came7 s x.0) (result_ok r)) is

pub none-old : (s : PeerSettings) (w : List ℕ) (refusal : ℕ × Stop Cause6) → read (table6.bundle 64) w 0 ≡ Err refusal
    → came_in s faces.Old w ≡ None
unfolding came_in
none-old s w refusal is = ap (λ r. option_map (λ (x : Bundle6 × ℕ). came6 s x.0) (result_ok r)) is

pub none-new : (s : PeerSettings) (w : List ℕ) (refusal : ℕ × Stop Cause7) → read (table7.bundle 64) w 0 ≡ Err refusal
    → came_in s faces.New w ≡ None
unfolding came_in
none-new s w refusal is = ap (λ r. option_map (λ (x : Bundle7 × ℕ). came7 s x.0) (result_ok r)) is

-- the octets that reading gave
pub stayed-as : {E : Type 0} (s : PeerSettings) (face : Face) (stay : ℕ) (octets : List ℕ) (came : Option Came) (result : Result (List ℕ) E)
    → came_in s face octets ≡ came → IfOk result (λ out. out ≡ raised_octets s face stay octets came)
    → IfOk result (λ out. out ≡ raised_octets s face stay octets (came_in s face octets))
stayed-as s face stay octets came result is given =
    subst (λ (c : Option Came). IfOk result (λ out. out ≡ raised_octets s face stay octets c)) (sym is) given
