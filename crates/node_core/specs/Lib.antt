-- To be believed, in this order: Nodes (a node between two events), Steps (what each event does to it), HandOn (the line of
-- what it hands on). Inside and Kept have words of private functions and proofs alone.
pub mod HandOn
pub mod Inside
pub mod Kept
pub mod Nodes
pub mod Steps
