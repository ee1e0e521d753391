pub mod Table
pub mod Request
