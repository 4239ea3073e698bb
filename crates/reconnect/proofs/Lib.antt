pub mod Queues
pub mod Choosing
pub mod Reaching
pub mod Retracing
pub mod Spreading
pub mod Leasts
pub mod Taking
pub mod Walking
