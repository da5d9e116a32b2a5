-- Internal. The modules of this folder.
pub mod Ahead
pub mod Calls
pub mod Counters
pub mod CounterValues
pub mod Duties
pub mod Entries
pub mod Filling
pub mod Hairpins
pub mod Nonces
pub mod RoundSteps
pub mod Rounds
pub mod Schedules
pub mod Serving
pub mod Timers
pub mod Tokens
pub mod Turns
