pub mod Written
pub mod Printed
pub mod Answered
