-- What a log's state has beside its clauses, and which steps stay valid.
mod States
mod Steps
-- What the file and the log have in common, behind each part.
mod Filing
pub mod Filed
mod Walking
mod Writing
mod Checking
-- Diaries over the file.
mod DiariesApart
mod Diaries
mod DiariesFiled
mod Unknowns
-- What is accepted, and what is printed.
mod Accepting
mod Answering
mod Telling
