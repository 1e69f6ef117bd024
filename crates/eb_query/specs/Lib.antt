-- What contracts promise: the grammar of query texts, what a line asks or why it is refused, and
-- how a query is written.
pub mod Grammar
pub mod Nesting
pub mod Lexemes
pub mod Number
pub mod Head
pub mod Reading
pub mod WatchLine
pub mod Refusal
pub mod Writing
pub mod Gaps
pub mod Apart
pub mod Laws
-- What only proofs name: the reader as a machine, and what its values represent.
pub mod Machine
pub mod Views
pub mod Faults
