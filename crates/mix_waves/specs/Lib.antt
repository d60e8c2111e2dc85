-- What a run of a network sends, reads and writes, in this order: the nodes of the network; what the client draws for a
-- message; the messages of the first wave; what became of them, and the replies of the second; and the report.
pub mod Network
pub mod Drawing
pub mod Sending
pub mod Fates
pub mod Report
-- Words of private functions and proofs alone.
pub mod Choosing
