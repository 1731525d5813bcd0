-- What passes in a drain arrives in it.

use Rattle.std.specs.Prelude.{◌≡◌, ℕ, List, Some, slice_get}
use Rattle.ltp_laws.specs.View.{IsIn}
use Rattle.gate_cases.specs.declared.face.Face.{Face}
use Rattle.gateway_core.specs.Gate.{judged_at}
use Rattle.path_laws.specs.declared.effects.UpAt.{UpAt}
use Rattle.path_laws.specs.declared.places.PathEnd.{PathEnd}
use Rattle.path_laws.specs.Places.{end_of, face_place, node_place, other_path_end}
use Rattle.path_laws.specs.Path.{PathSetup, Path, PathEvent, path_run}
use Rattle.path_laws.specs.Log.{ups_in}
use Rattle.path_drain.specs.CarriedOut.{IsCarriedOutIn, TakesBlocks}
use Rattle.path_drain.specs.WholeRun.{IsRunComplete, run_path}

-- a block was handed up at an end
pub record IsUpAtEnd (ups : List UpAt) (end : PathEnd) (block : List ℕ) : Type 0 where
  pub up : UpAt
  pub among : IsIn up ups
  pub place : up.place ≡ node_place end
  pub body : up.body ≡ block

-- A block came whole at a face in one of some events. What the gate decided about it was carried out in
-- them; and each piece of what became of it was handed up in them, whole, at the other end.
pub record IsPassedOnIn
    (s : PathSetup) (w : Path) (events : List PathEvent) (face : Face) (up : UpAt) : Type 0 where
  pub carried_out : IsCarriedOutIn s w events face up
  pub arrives :
      (i : ℕ) (piece : List ℕ)
      → slice_get
      (judged_at s.gate face (path_run s w (carried_out.case).earlier).now up.body
      (path_run s w (carried_out.case).earlier).gate).pieces i
      ≡ Some piece
      → IsUpAtEnd (ups_in s w events) (other_path_end (end_of face)) piece

-- so it is with each block that comes whole at a face in the events of a drain that completes its
-- sessions
abbrev pub WhatPassesArrives : Type 0
WhatPassesArrives =
    (s : PathSetup) (start : ℕ) (events made : List PathEvent) → TakesBlocks s
    → IsRunComplete s start events made → (face : Face) (up : UpAt)
    → IsIn up (ups_in s (run_path s start events) made) → up.place ≡ face_place face
    → IsPassedOnIn s (run_path s start events) made face up
