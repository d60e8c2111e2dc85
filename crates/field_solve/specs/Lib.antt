-- Moduli and Answers are to be read in this order. Elimination, and the table of Moduli, are words of private functions
-- alone.
pub mod Moduli
pub mod Answers
pub mod Elimination
