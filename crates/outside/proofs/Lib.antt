pub mod Pushing
pub mod PushedFronts
pub mod Serving
pub mod Writing
pub mod Rendering
pub mod Consumed
pub mod ReadToEnd
