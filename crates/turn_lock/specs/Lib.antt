-- What a reader must believe: Stories, then Seen, which the contracts cite.
-- Besides, for the proof alone: TurnRule, the rule of the lock's table, and Seats, which says what each of its steps does to a seat.
pub mod Seats
pub mod Seen
pub mod Stories
pub mod TurnRule
