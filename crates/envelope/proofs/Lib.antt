pub mod Numbering
pub mod Walking
pub mod Laying
pub mod Receivings
pub mod Placing
pub mod Blocks
pub mod Sendings
pub mod WorkedEnvelopes
