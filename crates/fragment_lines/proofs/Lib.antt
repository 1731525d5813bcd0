pub mod ReadLemmas
pub mod RoomLemmas
pub mod CutLemmas
pub mod HeadLemmas
pub mod JoinLemmas
pub mod TellsLemmas
