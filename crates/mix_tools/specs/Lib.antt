-- In this order: the suites; the words of a command; the lines of its request, and what they say together; what is
-- made, answered and opened; the texts; and what a call owes.
pub mod Suites
pub mod Commands
pub mod FirstLines
pub mod MakeLines
pub mod ReplyLines
pub mod Drafts
pub mod Reading
pub mod Packets
pub mod Replies
pub mod Texts
pub mod Answers
