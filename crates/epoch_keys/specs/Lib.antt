-- Read Epochs first, then Keys; Ring and Faults say what contracts see of a key ring and of a refusal.
pub mod Epochs
pub mod Faults
pub mod Keys
pub mod Ring
