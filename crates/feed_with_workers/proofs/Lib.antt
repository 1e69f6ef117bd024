pub mod Fronts
pub mod SameOffices
pub mod FeedOffices
pub mod Law
