-- What is to be believed of the form of a packet: first the sizes of a geometry and the lengths that follow from them,
-- then the commands of a hop, their spelling and their reading. The two are independent of each other.
pub mod Geometry
pub mod Commands
