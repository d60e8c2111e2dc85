-- To be read in this order: Primitives, StandardParts, Laboratory. Hashers has words for a hash that is under way; the
-- files named Laws have lemmas that ghost members cite.
pub mod HashLaws
pub mod Hashers
pub mod Laboratory
pub mod LaboratoryLaws
pub mod Primitives
pub mod StandardParts
pub mod WideLaws
