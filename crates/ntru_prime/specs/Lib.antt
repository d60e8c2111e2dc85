-- In the order in which to read them: Reading, Drawing and Inverses for the parts, Scheme for the mechanism and its
-- suite, and Pairs for what a pair of keys is in the ring. Faults and Answers have words of private functions alone.
pub mod Answers
pub mod Drawing
pub mod Faults
pub mod Inverses
pub mod Pairs
pub mod Reading
pub mod Scheme
