pub mod Recounts
pub mod HistoryCuts
