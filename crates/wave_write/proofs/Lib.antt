-- What writing a recording means, beyond the equations of the functions.
pub mod Over
pub mod Tests
pub mod Back
pub mod Calls
pub mod Again
pub mod RoundTrips
pub mod Streaming
pub mod Examples
