pub mod Hearing
pub mod Replies
pub mod Serving
pub mod Stops
pub mod Commands
pub mod inner
