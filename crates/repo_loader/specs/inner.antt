-- What private functions alone cite, in reading order.
pub mod FileSteps
pub mod LoadingSteps
pub mod SelectionSteps
pub mod ProgressSteps
pub mod Stops
