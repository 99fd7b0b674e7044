pub mod DigitLemmas
pub mod RoomLemmas
