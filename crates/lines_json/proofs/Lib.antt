pub mod JsonReading
