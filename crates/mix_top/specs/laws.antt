pub mod Commands
pub mod Laws
pub mod Running
pub mod SpellingLaws
