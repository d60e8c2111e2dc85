-- Links first, then Objects, the states of the links in memory.
pub mod Links
pub mod Objects
