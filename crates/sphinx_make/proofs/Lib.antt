pub mod Counting
pub mod Fillers
pub mod HeaderLaws
pub mod Layers
pub mod PathLemmas
pub mod SealedPaths
