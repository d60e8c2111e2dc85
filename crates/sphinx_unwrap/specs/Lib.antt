-- What is to be believed of unwrapping, in the order to read: a layer and when it is refused, the payload as a recipient
-- gets it, what goes out of a layer, and which refusal a fault stands for. Buffers is of private functions alone.
pub mod Layer
pub mod Payload
pub mod Outcome
pub mod Faults
pub mod Buffers
