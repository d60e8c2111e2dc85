-- What is to be believed of packets that are made, in the order to read: what it is that a packet carries a payload along
-- hops, how headers and packets are made, what they are made for, how delays are drawn, and which refusal a fault stands
-- for. Sealing is of private functions alone.
pub mod NestedPath
pub mod Making
pub mod Carrying
pub mod Drawing
pub mod Faults
pub mod Sealing
