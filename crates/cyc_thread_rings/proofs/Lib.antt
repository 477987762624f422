pub mod Each
pub mod Laying
