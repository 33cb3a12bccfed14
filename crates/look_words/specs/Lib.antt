pub mod Looks
pub mod Refusals
pub mod Requests
pub mod Sentences
pub mod inner
