pub mod Offices
pub mod Waiting
pub mod Serving
pub mod Bodies
pub mod ServingLaws
pub mod IndexOffices
