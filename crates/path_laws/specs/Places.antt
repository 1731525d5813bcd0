-- The places of a path, from one end to the other, and the two links between them.

use Rattle.std.specs.Prelude.{List, [], ◌∷◌, ◌++◌}
use Rattle.gate_cases.specs.declared.face.Face.{Face}
use Rattle.gate_cases.specs.declared.face.Face.TheVariants as faces
use Rattle.ltp_session.specs.World.{End, first_end, second_end}
use Rattle.path_laws.specs.declared.places.PathEnd.{PathEnd}
use Rattle.path_laws.specs.declared.places.PathEnd.TheVariants as ends
use Rattle.path_laws.specs.declared.places.Place.{Place}
use Rattle.path_laws.specs.declared.places.Place.TheVariants as places

-- the face of the gate that an end's link leads to, whose version the end speaks
abbrev pub face_of : PathEnd → Face
face_of ends.Old = faces.Old
face_of ends.New = faces.New

-- the end that a face's link leads to
abbrev pub end_of : Face → PathEnd
end_of faces.Old = ends.Old
end_of faces.New = ends.New

abbrev pub other_path_end : PathEnd → PathEnd
other_path_end ends.Old = ends.New
other_path_end ends.New = ends.Old

-- where the node of an end is, and where a face is
abbrev pub node_place : PathEnd → Place
node_place ends.Old = places.OldNode
node_place ends.New = places.NewNode

abbrev pub face_place : Face → Place
face_place faces.Old = places.OldFace
face_place faces.New = places.NewFace

-- the place at the other end of a place's link
abbrev pub across : Place → Place
across places.OldNode = places.OldFace
across places.OldFace = places.OldNode
across places.NewFace = places.NewNode
across places.NewNode = places.NewFace

-- a node or a face
pub data Stand : Type 0 where
  at_node : PathEnd → Stand
  at_gate : Face → Stand

-- what stands at a place
abbrev pub stand_of : Place → Stand
stand_of places.OldNode = at_node ends.Old
stand_of places.OldFace = at_gate faces.Old
stand_of places.NewFace = at_gate faces.New
stand_of places.NewNode = at_node ends.New

-- ---- links: from the old node to the old face, and from the new face to the new node

-- the face whose link a place is on
abbrev pub link_of : Place → Face
link_of places.OldNode = faces.Old
link_of places.OldFace = faces.Old
link_of places.NewFace = faces.New
link_of places.NewNode = faces.New

-- which end of its link a place is
abbrev pub link_end_of : Place → End
link_end_of places.OldNode = first_end
link_end_of places.OldFace = second_end
link_end_of places.NewFace = first_end
link_end_of places.NewNode = second_end

-- something alone, where it is on a face's link, and that is this one
abbrev pub if_link : {X : Type 0} → Face → Face → X → List X
if_link faces.Old faces.Old x = x ∷ []
if_link faces.Old faces.New x = []
if_link faces.New faces.Old x = []
if_link faces.New faces.New x = x ∷ []

-- what of a list is on a face's link, by the places, and as the link has it
unfoldable pub on_link : {X Y : Type 0} → (X → Place) → (X → Y) → Face → List X → List Y
on_link place made face [] = []
on_link place made face (x ∷ xs) =
    if_link face (link_of (place x)) (made x) ++ on_link place made face xs
