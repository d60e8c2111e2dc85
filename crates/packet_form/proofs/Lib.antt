pub mod CommandLaws
pub mod Writing
