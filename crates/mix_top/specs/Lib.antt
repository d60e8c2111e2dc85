-- The promise of `drive` and what it rests on, in this order: the words of the commands; what a script asks for, act by
-- act; a script as a whole; the report and its text; what each act does to a node; a run of acts, and how it ends; what
-- makes a hand-on line honest; and the promise.
pub mod Commands
pub mod Acts
pub mod Program
pub mod Report
pub mod Steps
pub mod Run
pub mod Honest
pub mod Headline
-- The command `storm`: its events, its summary, and its promise.
pub mod Storm
pub mod Summary
pub mod StormHeadline
-- The command `look`: what it reads of the kept disks, and its promise.
pub mod Look
-- Words of private functions and proofs alone: what it is to take the lines of a report; how far a script has been
-- answered; and how far the kept disks have been read.
pub mod Receiving
pub mod ReceivingLaws
pub mod Progress
pub mod Tallies
pub mod Storming
pub mod Looking
