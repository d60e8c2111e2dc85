-- In the order in which to read them: Packing, Forms and Groups say which bytes spell a polynomial, and Faults why bytes
-- are refused. Sides has words of private functions alone.
pub mod Faults
pub mod Forms
pub mod Groups
pub mod Packing
pub mod Sides
