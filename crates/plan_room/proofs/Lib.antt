pub mod FreeLemmas
pub mod CircleLemmas
pub mod PickLemmas
pub mod RoomLemmas
