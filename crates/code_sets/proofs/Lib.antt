pub mod Records
pub mod GivenLemmas
pub mod JoinLemmas
pub mod Rows
pub mod OneAnswer
pub mod SomeAnswer
pub mod JoinAnswer
pub mod JoinedRepository
