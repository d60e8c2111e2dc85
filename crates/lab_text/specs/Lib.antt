-- In this order: a script as its lines, the words of a line, what words say, and the suite and sizes among them; the
-- events of a script, its node line, and the events of all lines behind it; what an input says as a whole, and what
-- faults say of it; the reader of lines; settings in a text of TOML; and what a call ends with and gives.
pub mod Lines
pub mod Words
pub mod WordForms
pub mod Sizes
pub mod Events
pub mod NodeLines
pub mod Script
pub mod Outcomes
pub mod Faults
pub mod Readers
pub mod Settings
pub mod Statuses
pub mod Given
