pub mod NeedLemmas
pub mod BlockLemmas
pub mod RoomLemmas
pub mod QueueLemmas
