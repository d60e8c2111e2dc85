-- What contracts see. The promise for a node that has ended is Served; to read before it: Halls and Roles, what the callers share
-- and what each is; Lefts and Closings, what each left and what was told of each shard since; Accounts and Orders, all this read as
-- lists; then Lives, Arrivals, Moves, HandOns and Moments, its parts.
-- For the crate's own calls: Openings, Posts and Staffs, how a node is opened and its actors are made; Rooms, Gatherings, Settlings
-- and Ends, how it is closed; Seats, Houses, Parts, Crews and Partings, the same of all nodes of a life.
pub mod Accounts
pub mod Arrivals
pub mod Closings
pub mod Crews
pub mod Ends
pub mod Gatherings
pub mod Halls
pub mod HandOns
pub mod Houses
pub mod Lefts
pub mod Lives
pub mod Moments
pub mod Moves
pub mod Openings
pub mod Orders
pub mod Partings
pub mod Parts
pub mod Posts
pub mod Promises
pub mod Roles
pub mod Rooms
pub mod Runs
pub mod Seats
pub mod Served
pub mod Settlings
pub mod Staffs
