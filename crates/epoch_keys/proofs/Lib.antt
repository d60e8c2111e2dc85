pub mod LiveEpochs
pub mod Rings
