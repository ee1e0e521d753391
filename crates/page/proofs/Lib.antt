pub mod Telling
pub mod Answering
pub mod Playing
pub mod Adding
pub mod Once
