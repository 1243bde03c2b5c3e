pub mod RoomLaws
pub mod OneAnswer
