-- What reading a recording means, beyond the equations of the functions.
pub mod Cases
pub mod Tests
pub mod Turns
pub mod Budget
pub mod Numbers
pub mod Trail
pub mod Refused
pub mod Inside
pub mod Heads
pub mod Passed
pub mod AllRead
pub mod NothingElse
pub mod Rates
pub mod Recordings
pub mod Examples
