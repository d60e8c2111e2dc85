pub mod Images
pub mod Laws
pub mod Laying
pub mod Marks
pub mod Pending
pub mod Ready
pub mod Rest
