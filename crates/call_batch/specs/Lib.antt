pub mod Jobs
pub mod Steps
