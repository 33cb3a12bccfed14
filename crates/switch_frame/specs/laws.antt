pub mod Chain
pub mod FrameLaws
pub mod GateLaws
pub mod Laws
pub mod Program
pub mod RangeLaws
