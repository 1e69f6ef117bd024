pub mod Weighing
pub mod Moving
pub mod JobsKept
pub mod AnswersKept
pub mod Books
pub mod Law
pub mod Asking
pub mod Asks
