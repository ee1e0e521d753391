pub mod Running
pub mod RunningLemmas
