-- What is to be believed of reply blocks, in the order to read: a block and how it is made, how it is answered and how
-- its maker opens what comes back, the way back as a whole, and which refusal a fault stands for.
pub mod Blocks
pub mod Replies
pub mod WayBack
pub mod Faults
