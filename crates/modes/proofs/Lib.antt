pub mod Placing
pub mod Padding
pub mod Comparing
pub mod WorkedValues
pub mod FromFn
pub mod Stepping
pub mod Undoing
