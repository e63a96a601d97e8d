pub mod Fields
pub mod FourDigits
pub mod NumberSteps
pub mod Numerals
pub mod Signed
pub mod Shifts
