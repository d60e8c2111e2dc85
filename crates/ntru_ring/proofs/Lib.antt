pub mod Residues
pub mod Lists
pub mod Sums
pub mod Ring
