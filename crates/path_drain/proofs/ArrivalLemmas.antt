-- What passes in a drain arrives in it.

use Rattle.std.proofs.Common.{◌≡◌, ℕ, List, ◌∷◌, ◌++◌, refl, sym, ◌∙◌, ap, subst}
use Rattle.ltp_laws.specs.View.{IsIn}
use Rattle.gate_cases.specs.declared.face.Face.{Face}
use Rattle.gate_cases.specs.declared.face.Face.TheVariants as faces
use Rattle.gate_cases.specs.Faces.{other_of}
use Rattle.path_laws.specs.declared.effects.UpAt.{UpAt}
use Rattle.path_laws.specs.Places.{across, end_of, face_place, node_place, other_path_end}
use Rattle.path_laws.specs.Path.{Path, PathEvent, PathSetup, path_run, path_step}
use Rattle.path_laws.specs.Log.{Begun, a_piece, begun_at, begun_in, ups_in}
use Rattle.path_laws.proofs.LogLemmas.{in-left, in-right}
use Rattle.path_drain.specs.Effects.{IsUpWhole}
use Rattle.path_drain.specs.Arrival.{IsUpAtEnd, WhatPassesArrives}
use Rattle.path_drain.specs.WholeRun.{run_path}
use Rattle.path_drain.proofs.CarriedLemmas.{carried-out}
use Rattle.path_drain.proofs.RunLemmas.{go-on}

-- what an event begins, the run begins
begun-among : (s : PathSetup) (w : Path) (events earlier : List PathEvent) (event : PathEvent)
    (later : List PathEvent) (b : Begun) → events ≡ earlier ++ event ∷ later
    → IsIn b (begun_at s (path_run s w earlier) event) → IsIn b (begun_in s w events)
unfolding begun_in
begun-among s w events earlier event later b among begins =
    let v = path_run s w earlier in
    subst (λ (es : List PathEvent). IsIn b (begun_in s w es)) (sym among)
    (subst (λ (bs : List Begun). IsIn b bs) (sym (go-on s w earlier (event ∷ later)).begun)
    (in-right b (begun_in s w earlier) (begun_in s v (event ∷ later))
    (in-left b (begun_at s v event) (begun_in s (path_step s v event).path later) begins)))

-- across from a face of the gate is the end of its link
across-end : (face : Face)
    → across (face_place (other_of face)) ≡ node_place (other_path_end (end_of face))
across-end faces.Old = refl
across-end faces.New = refl

-- a session across a face of the gate whose block was handed up whole
up-at-end : (ups : List UpAt) (face : Face) (piece : List ℕ) (b : Begun)
    → b.place ≡ face_place (other_of face) → b.block ≡ piece → IsUpWhole ups b
    → IsUpAtEnd ups (other_path_end (end_of face)) piece
up-at-end ups face piece b place block whole = record {
  up = (whole.is).up;
  among = (whole.is).among;
  place = (whole.is).at ∙ (ap across place ∙ across-end face);
  body = whole.whole ∙ block;
}

pub passes-arrive : WhatPassesArrives
passes-arrive s start events made takes complete face up among at =
    let w = run_path s start events in
    let carried = carried-out s w made face up takes among at in
    record {
      carried_out = carried;
      arrives = λ i piece is.
          let begins = carried.pieces i piece is in
          let b : Begun = record {
            place = face_place (other_of face);
            session = begins.session;
            block = piece;
            origin = a_piece (end_of face) up.session i;
          } in
          up-at-end (ups_in s w made) face piece b refl refl
          (complete.begun_handed b
          (begun-among s w made (carried.case).earlier (carried.case).event (carried.case).later b
          (carried.case).among begins.among));
    }
